use Rattle.std.proofs.Common.{◌≡◌, IfOk, codes, refl, subst}
use Rattle.mg_bson.specs.Find.{with_field}
use Rattle.mg_bson.specs.Literal.{◌⇒◌⨾◌, empty}
use Rattle.mg_bson.specs.Tree.{Fields, document}
use Rattle.mg_bson.specs.View.{tree}
use Rattle.mg_query.proofs.event.insert_event.Goals as goal

pub returns : goal.returns
returns c = subst (λ (e : Fields). IfOk c.with.result (λ d. d ≡ with_field e (codes "fullDocument") (document c.args.inserted))) (c.in_ok-event.ensures ("_id" ⇒ tree c.args.id ⨾ empty) refl) c.with.ensures
