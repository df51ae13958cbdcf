use Rattle.mg_options.specs.Collations.{collation_lines}
use Rattle.mg_options.proofs.Fitting.{only_memory, rules_fit}
use Rattle.mg_options.proofs.collation.Collation.append_fields.Goals as goal

pub returns-clause-err : goal.returns-clause-err
returns-clause-err c = only_memory c.append_given.result (collation_lines c.args.self.now) (rules_fit c.args.self.now) c.append_given.ensures.err
