use Rattle.std.proofs.Common.{◌∙◌, sym, subst}
use Rattle.mg_store.specs.Stored.{Stored}
use Rattle.mg_jobs.specs.Fated.{AreItsSteps}
use Rattle.mg_jobs.proofs.Stepping.{polled_steps}
use Rattle.mg_jobs.proofs.fated.FatedLinkLink.poll.Goals as goal

pub invariant_of-self : goal.invariant_of-self
invariant_of-self g c = (
  c.poll.ensures.rest.1 ∙ c.self.invariant.0,
  subst (λ (s : Stored). AreItsSteps s.history c.poll.new.self.calls) (sym c.poll.ensures.rest.0) (polled_steps _ _ _ _ _ _ c.poll.result c.poll.ensures.polls c.self.invariant.1),
)
