use Rattle.std.proofs.Common.{ap, ◌∙◌}
use Rattle.mg_bson.specs.View.{items_of}
use Rattle.mg_bson.specs.Find.{item_at}
use Rattle.mg_bson.proofs.Places.{item_got}
use Rattle.mg_bson.proofs.tree.Array.get.Goals as goal

pub returns : goal.returns
returns c =
    item_got (λ v. v.now) c.deref.result.now c.args.index c.get.result c.get.ensures.lookup ∙ ap (item_at c.args.index) (ap items_of c.deref.ensures.value ∙ c.self.view_is)
