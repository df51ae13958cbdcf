use Rattle.std.proofs.Common.{sym, ◌∙◌}
use Rattle.mg_bson.specs.Raw.{fields}
use Rattle.mg_bson.specs.RawView.{value}
use Rattle.mg_query.proofs.Staging.{projection_none}
use Rattle.mg_query.proofs.stages.projection_of.Goals as goal

pub returns : goal.returns
returns c = projection_none (fields c.args.document.now) (value c.in-Some.found) (sym c.is_single.ensures ∙ c.if-not-is_single.false) c.in-Some.ensures c.in-None.ensures
