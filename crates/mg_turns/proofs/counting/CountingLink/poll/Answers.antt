use Rattle.std.proofs.Common.{◌∙◌, ap, subst, sym}
use Rattle.std.specs.Prelude.{IsSome}
use Rattle.mg_turns.specs.Counts.{shown}
use Rattle.mg_turns.proofs.OwnTickets.{own_answered, own_pended, shown_out}
use Rattle.mg_turns.proofs.Tallies.{counted_pends, counted_seen, rose_counted}
use Rattle.mg_turns.proofs.counting.CountingLink.poll.Goals as goal

pub invariant_of-self-in-Reply : goal.invariant_of-self-in-Reply
invariant_of-self-in-Reply g c =
    let out = subst (λ l. IsSome (shown g.B.Began.held g.B.Began.awaited (g.L.Link.awaited l) c.args.ticket)) (sym (ap (λ v. v.0) c.self.view_is)) c.requires in (
      counted_seen _ _ _ _ _ _ _ _ _ _ _ _ _ c.self.invariant.0 c.in-Reply.ensures.polls.sees c.in-Reply.ensures.pended.0 (λ was. (c.in-Reply.ensures.later.prompt was).stays) (λ was is. absurd cc),
      own_answered _ _ _ _ _ _ _ _ _ out _ _ _ _ c.self.invariant.1 _ c.in-Reply.ensures.polls c.in-Reply.ensures.pended.1,
    )

pub invariant_of-self-in-Failed : goal.invariant_of-self-in-Failed
invariant_of-self-in-Failed g c =
    let out = subst (λ l. IsSome (shown g.B.Began.held g.B.Began.awaited (g.L.Link.awaited l) c.args.ticket)) (sym (ap (λ v. v.0) c.self.view_is)) c.requires in (
      counted_seen _ _ _ _ _ _ _ _ _ _ _ _ _ c.self.invariant.0 c.in-Failed.ensures.polls.sees c.in-Failed.ensures.pended.0 (λ was. (c.in-Failed.ensures.later.prompt was).stays) (λ was is. absurd (c.in-Failed.ensures.prompt was)),
      own_answered _ _ _ _ _ _ _ _ _ out _ _ _ _ c.self.invariant.1 _ c.in-Failed.ensures.polls c.in-Failed.ensures.pended.1,
    )

pub invariant_of-self-in-Memory : goal.invariant_of-self-in-Memory
invariant_of-self-in-Memory g c =
    let out = subst (λ l. IsSome (shown g.B.Began.held g.B.Began.awaited (g.L.Link.awaited l) c.args.ticket)) (sym (ap (λ v. v.0) c.self.view_is)) c.requires in (
      counted_seen _ _ _ _ _ _ _ _ _ _ _ _ _ c.self.invariant.0 c.in-Memory.ensures.polls.sees c.in-Memory.ensures.pended.0 (λ was. (c.in-Memory.ensures.later.prompt was).stays) (λ was is. absurd cc),
      own_answered _ _ _ _ _ _ _ _ _ out _ _ _ _ c.self.invariant.1 _ c.in-Memory.ensures.polls c.in-Memory.ensures.pended.1,
    )

pub invariant_of-self : goal.invariant_of-self
invariant_of-self g c =
    let out = subst (λ l. IsSome (shown g.B.Began.held g.B.Began.awaited (g.L.Link.awaited l) c.args.ticket)) (sym (ap (λ v. v.0) c.self.view_is)) c.requires in (
      counted_pends _ _ _ _ _ _ _ _ _ _ _ _ c.self.invariant.0 c.in-Pending.ensures.polls.log_same c.saturating_add-self-inside.ensures c.in-Pending.ensures.pended.0 c.in-Pending.ensures.later.pends c.in-Pending.ensures.prompt,
      own_pended _ _ _ _ _ _ _ _ _ out _ _ _ _ c.self.invariant.1 c.in-Pending.ticket _ c.in-Pending.ensures.polls c.in-Pending.ensures.pended.1 c.saturating_add-self-inside.ensures,
    )

pub returns-in-Pending-clause-pended : goal.returns-in-Pending-clause-pended
returns-in-Pending-clause-pended g c =
    let out = subst (λ l. IsSome (shown g.B.Began.held g.B.Began.awaited (g.L.Link.awaited l) c.args.ticket)) (sym (ap (λ v. v.0) c.self.view_is)) c.requires in
    rw (sym c.self.view_is) (
      rose_counted _ _ c.saturating_add-self-inside.ensures,
      λ at there. c.in-Pending.ensures.pended.1 at (sym (shown_out g.B.Began.held g.B.Began.awaited (g.L.Link.awaited c.self.inside.link) c.args.ticket out) ∙ there),
    )
