use Rattle.std.proofs.Common.{ℕ, Err, Some, arith, subst, sym}
use Rattle.mg_link.specs.Link.{StartMeans, StartsAtOnce}
use Rattle.mg_link.specs.Log.{fault, waiting}
use Rattle.mg_link.specs.declared.link.LinkError.{LinkError}
use Rattle.mg_turns.specs.Counts.{IsOwnTurn}
use Rattle.mg_turns.proofs.OwnTickets.{none_if, own_lost, own_started, started_longer}
use Rattle.mg_turns.proofs.Tallies.{counted_started}
use Rattle.mg_turns.proofs.counting.CountingLink.start.Goals as goal

pub invariant_of-self : goal.invariant_of-self
invariant_of-self g c =
    let none = none_if c.self.inside.out c.is_some.result c.is_some.ensures c.if-is_some.false in (
      counted_started _ _ _ _ _ _ _ _ _ _ _ _ c.args.command waiting c.self.invariant.0 c.in-Ok.ensures.starts.adds c.in-Some.ensures.1 c.in-Ok.ensures.pends_same (λ was. (c.in-Ok.ensures.later.prompt was).stays) (λ was is. absurd cc),
      subst (λ (n : ℕ). IsOwnTurn g.B.Began.held g.B.Began.awaited (g.L.Link.awaited c.start.new.self) g.B.Began.calls (g.L.Link.log c.start.new.self) (Some n) c.self.inside.pended g.B.Began.polls (g.L.Link.polls c.start.new.self)) (sym c.number.ensures)
          (own_started _ _ _ _ _ _ _ _ c.args.command _ none _ (omega (arith, c.if-self-gt0.false)) _ _ c.in-Ok.ensures.polls_same c.self.invariant.1 c.in-Ok.ticket c.in-Ok.ensures.starts (started_longer _ _ _ c.self.invariant.0.starts)),
    )

pub invariant_of-self-in-Err-Fault : goal.invariant_of-self-in-Err-Fault
invariant_of-self-in-Err-Fault g c =
    let none = none_if c.self.inside.out c.is_some.result c.is_some.ensures c.if-is_some.false in
    let s = subst (λ (e : LinkError). StartMeans (g.L.Link.awaited c.self.inside.link) (g.L.Link.awaited c.start.new.self) (g.L.Link.log c.self.inside.link) (g.L.Link.log c.start.new.self) c.args.command (Err e)) c.in-Err-Fault.field-0-is c.in-Err-Fault.ensures.starts in (
      counted_started _ _ _ _ _ _ _ _ _ _ _ _ c.args.command fault c.self.invariant.0 s.adds c.in-Some.ensures.1 c.in-Err-Fault.ensures.pends_same (λ was. (c.in-Err-Fault.ensures.later.prompt was).stays)
          (λ was is. absurd (subst (λ (e : LinkError). StartsAtOnce (Err e)) c.in-Err-Fault.field-0-is (c.in-Err-Fault.ensures.prompt was))),
      own_lost _ _ _ _ _ _ _ _ c.args.command _ none _ (omega (arith, c.if-self-gt0.false)) _ _ c.in-Err-Fault.ensures.polls_same c.self.invariant.1 s,
    )
