use Rattle.std.proofs.Common.{ap}
use Rattle.mg_options.specs.declared.find.FindOptions.{FindOptions}
use Rattle.mg_gridfs.proofs.commands.reading_options.Goals as goal

pub returns : goal.returns
returns c = record {
  reads_so = c.in_ok-copy_given.ensures.ok;
  rest = ap (λ (x : FindOptions). record x { read_concern = c.copy_given.new.place; selection_criteria = c.args.bucket.now.selection_criteria }) c.builder-options.ensures;
}
