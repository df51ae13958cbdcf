use Rattle.std.proofs.Common.{◌∙◌}
use Rattle.mg_bson.specs.Raw.{fields}
use Rattle.mg_query.proofs.Planning.{indexes_are_listed}
use Rattle.mg_query.proofs.catalog.list_indexes_of.Goals as goal

pub returns : goal.returns
returns c = c.list_indexes_parts.ensures ∙ indexes_are_listed (fields c.args.command.now)
