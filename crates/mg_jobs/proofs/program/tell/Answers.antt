use Rattle.std.proofs.Common.{inl, inr, refl}
use Rattle.mg_jobs.proofs.Statuses.{refused_told}
use Rattle.mg_jobs.proofs.program.tell.Goals as goal

pub returns-in-Refused : goal.returns-in-Refused
returns-in-Refused g c = rw c.in-Refused.is (refused_told _ _ _ _ _ _ c.refuse.ensures)

pub returns-in-Done : goal.returns-in-Done
returns-in-Done g c = rw c.in-Done.is (elim c.print_run.ensures.told [
  | inl t ↦ inl (c.print_run.ensures.run, t)
  | inr t ↦ inr (c.print_run.ensures.run, t)
])

pub returns-in-Unprinted : goal.returns-in-Unprinted
returns-in-Unprinted g c = rw c.in-Unprinted.is (inl (refl, c.say.ensures))
