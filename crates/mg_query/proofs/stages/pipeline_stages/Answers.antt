use Rattle.std.proofs.Common.{ap, ◌∙◌}
use Rattle.mg_bson.specs.Raw.{items, items_left}
use Rattle.mg_bson.specs.RawView.{value}
use Rattle.mg_query.specs.Querying.{held_stages, joined_stages, pipeline_doing}
use Rattle.mg_query.proofs.Staging.{pipeline_more}
use Rattle.mg_query.proofs.stages.pipeline_stages.Goals as goal

pub items-preserved : goal.items-preserved
items-preserved c =
    pipeline_more (items_left c.items.left) (items_left c.next.new.self) (value c.in-Some.item) (held_stages c.items.stages) (held_stages c.in_ok-stages.stages) (pipeline_doing (items c.args.pipeline.now)) c.in-Some.ensures
    (c.in_ok-stages.ensures ∙ ap (joined_stages (held_stages c.items.stages)) c.in_ok-read.ensures) c.items.invariant
