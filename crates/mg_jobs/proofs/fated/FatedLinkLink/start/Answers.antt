use Rattle.std.proofs.Common.{◌∙◌}
use Rattle.mg_jobs.proofs.Stepping.{started_steps}
use Rattle.mg_jobs.proofs.fated.FatedLinkLink.start.Goals as goal

pub invariant_of-self : goal.invariant_of-self
invariant_of-self g c = (c.start.ensures.rest.0 ∙ c.self.invariant.0, started_steps c.start.result _ _ _ _ _ _ _ _ c.start.ensures.sent c.self.invariant.1)
