use Rattle.std.proofs.Common.{◌≡◌, ℕ, Option, Some, None, ap, sym, subst, ◌∙◌}
use Rattle.mg_link.specs.Acts.{Tickets, ticket_after}
use Rattle.mg_link.specs.Exec.{ticket_at, ticket_of}
use Rattle.mg_actions.proofs.running.begun.Goals as goal

pub poll_started-step-requires : goal.poll_started-step-requires
poll_started-step-requires g c = λ n e. let bad : None ≡ Some n = sym (ap ticket_at c.requires) ∙ e in absurd cc

pub returns-clause-runs : goal.returns-clause-runs
returns-clause-runs g c = (c.poll_started-step.result.1, c.tell.ensures, c.poll_started-step.ensures.runs)

pub returns-clause-tickets : goal.returns-clause-tickets
returns-clause-tickets g c = subst (λ (t : Option ℕ). Tickets (g.L.Link.awaited c.args.link.now) (g.L.Link.awaited c.poll_started-step.new.link) t (ticket_after ticket_of c.poll_started-step.result.0)) (ap ticket_at c.requires) c.poll_started-step.ensures.tickets
