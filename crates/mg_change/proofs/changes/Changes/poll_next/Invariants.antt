use Rattle.std.proofs.Common.{◌≡◌, ◌*◌, ◌+◌, ◌-◌, ℕ, None, false}
use Rattle.mg_link.specs.Moment.{LinkKeeps, finished, moment}
use Rattle.mg_cursor.specs.Seeking.{times}
use Rattle.mg_change.specs.ClientStreams.{lends_nothing, stream_ticket}
use Rattle.mg_change.specs.StreamCalls.{steps_left}
use Rattle.mg_change.specs.StreamView.{KeepsOwn, IsStream, changes_of, doing_of}
use Rattle.mg_change.proofs.Calls.{InPart}
use Rattle.mg_change.proofs.changes.Changes.poll_next.Given as goal

abbrev pub invariant-steps : goal.invariant-steps
invariant-steps g l = record {
  keeps : LinkKeeps (moment (g.L.Link.awaited l.fn.link) (g.L.Link.log l.fn.link) (g.L.Link.faults l.fn.link) (g.L.Link.pends l.fn.link) (g.L.Link.wire l.fn.link) (g.L.Link.prompt l.fn.link))
      (moment (g.L.Link.awaited l.link) (g.L.Link.log l.link) (g.L.Link.faults l.link) (g.L.Link.pends l.link) (g.L.Link.wire l.link) (g.L.Link.prompt l.link))
      (stream_ticket (changes_of l.fn.self)) (stream_ticket (changes_of l.self)) finished;
  stream : IsStream false l.self;
  given : (changes_of l.self).current ≡ None;
  owned : KeepsOwn l.fn.self.token l.self.token;
  went : (starts : ℕ) × (l.handle ≡ times starts g.H.ClientSessionHandle.told l.fn.handle)
      × InPart (g.L.Link.awaited l.fn.link) (g.L.Link.awaited l.link) (g.L.Link.log l.fn.link) (g.L.Link.log l.link) (g.L.Link.wire l.fn.link) (g.H.ClientSessionHandle.asked l.fn.handle) (g.H.ClientSessionHandle.asked l.handle) starts (lends_nothing (changes_of l.fn.self)) (changes_of l.self);
}

abbrev pub decreases-steps : goal.decreases-steps
decreases-steps g l = ((1000 - l.self.counts.resumptions) * 1001 + (1000 - l.self.counts.empty)) * 5 + steps_left (doing_of l.self.phase)
