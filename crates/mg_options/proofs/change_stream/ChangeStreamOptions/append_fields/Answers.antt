use Rattle.mg_options.specs.Options.{change_stream_lines}
use Rattle.mg_options.proofs.Fitting.{only_memory}
use Rattle.mg_options.proofs.Streams.{stream_fit}
use Rattle.mg_options.proofs.change_stream.ChangeStreamOptions.append_fields.Goals as goal

pub returns-clause-err : goal.returns-clause-err
returns-clause-err c = only_memory c.append_given.result (change_stream_lines c.args.self.now) (stream_fit c.args.self.now) c.append_given.ensures.err
