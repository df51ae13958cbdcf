use mir.Val.{SFits}
use Rattle.std.proofs.Common.{ℤ, ◌↔◌, IsTrue, subst, rules, w64}
use Rattle.std.proofs.lemmas.Int.{to_z-of_z}
use Rattle.mg_steps.specs.Cursors.{IsOver}
use Rattle.mg_steps.proofs.Asking.{kills_if}
use Rattle.mg_steps.proofs.cursors.is_to_kill.Goals as goal

pub returns : goal.returns
returns c =
    let fits : SFits w64 c.args.id = search rules in
    kills_if c.args.id c.args.connection c.is_over.result (subst (λ (id : ℤ). IsTrue c.is_over.result ↔ IsOver id c.args.connection) (to_z-of_z w64 c.args.id fits) c.is_over.ensures)
