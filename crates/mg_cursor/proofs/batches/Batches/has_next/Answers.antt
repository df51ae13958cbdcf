use mir.Val.{SFits}
use Rattle.std.proofs.Common.{ℤ, ◌↔◌, IsTrue, subst, rules, w64}
use Rattle.std.proofs.lemmas.Int.{to_z-of_z}
use Rattle.mg_steps.specs.Cursors.{HasNext}
use Rattle.mg_cursor.specs.View.{client_of}
use Rattle.mg_cursor.proofs.Giving.{next_held}
use Rattle.mg_cursor.proofs.batches.Batches.has_next.Goals as goal

pub returns : goal.returns
returns c =
    let fits : SFits w64 c.args.self.now.cursor.id = search rules in
    next_held (client_of c.args.self.now) c.holds_items.result c.has_next.result
    (subst (λ (id : ℤ). IsTrue c.has_next.result ↔ HasNext id (IsTrue c.holds_items.result)) (to_z-of_z w64 c.args.self.now.cursor.id fits) c.has_next.ensures) c.holds_items.ensures
