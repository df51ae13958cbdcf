use Rattle.std.proofs.Common.{ap, ◌∙◌}
use Rattle.mg_bson.specs.Find.{with_item}
use Rattle.mg_bson.specs.View.{tree, items_of}
use Rattle.mg_bson.proofs.Places.{items_of-push}
use Rattle.mg_bson.proofs.tree.Array.push.Goals as goal

pub returns-clause-ok : goal.returns-clause-ok
returns-clause-ok c = ap items_of c.in_ok-push.ensures.items ∙ items_of-push c.self.inside.items.items c.args.value ∙ ap (λ ts. with_item ts (tree c.args.value)) c.self.view_is
