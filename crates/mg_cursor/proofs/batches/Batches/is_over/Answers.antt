use mir.Val.{SFits}
use Rattle.std.proofs.Common.{ℤ, ◌↔◌, IsTrue, subst, rules, w64}
use Rattle.std.proofs.lemmas.Int.{to_z-of_z}
use Rattle.mg_steps.specs.Cursors.{IsOver}
use Rattle.mg_cursor.proofs.batches.Batches.is_over.Goals as goal

pub returns : goal.returns
returns c =
    let fits : SFits w64 c.args.self.now.cursor.id = search rules in
    subst (λ (id : ℤ). IsTrue c.is_over.result ↔ IsOver id c.args.self.now.pinned) (to_z-of_z w64 c.args.self.now.cursor.id fits) c.is_over.ensures
