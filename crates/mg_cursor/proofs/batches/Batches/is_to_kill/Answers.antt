use mir.Val.{SFits}
use Rattle.std.proofs.Common.{ℤ, subst, rules, w64}
use Rattle.std.proofs.lemmas.Int.{to_z-of_z}
use Rattle.mg_steps.specs.Cursors.{KillsIf}
use Rattle.mg_cursor.proofs.batches.Batches.is_to_kill.Goals as goal

pub returns : goal.returns
returns c =
    let fits : SFits w64 c.args.self.now.cursor.id = search rules in
    subst (λ (id : ℤ). KillsIf c.is_to_kill.result id c.args.self.now.pinned) (to_z-of_z w64 c.args.self.now.cursor.id fits) c.is_to_kill.ensures
