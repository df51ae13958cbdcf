use Rattle.std.proofs.Common.{◌≡◌}
use Rattle.mg_bson.specs.Tree.{items_size}
use Rattle.mg_bson.specs.Raw.{items, items_left}
use Rattle.mg_query.specs.Querying.{held_stages, joined_stages, pipeline_doing}
use Rattle.mg_query.proofs.stages.pipeline_stages.Given as goal

abbrev pub invariant-items : goal.invariant-items
invariant-items l = joined_stages (held_stages l.stages) (pipeline_doing (items_left l.left)) ≡ pipeline_doing (items l.pipeline)

abbrev pub decreases-items : goal.decreases-items
decreases-items l = items_size (items_left l.left)
