use Rattle.std.proofs.Common.{◌≡◌, ◌-◌, ℕ}
use Rattle.mg_link.specs.Moment.{LinkKeeps, finished, moment}
use Rattle.mg_cursor.specs.Client.{client_ticket}
use Rattle.mg_cursor.specs.Seeking.{most_empty, times}
use Rattle.mg_cursor.specs.View.{document_cursor}
use Rattle.mg_cursor.proofs.Sought.{Sought}
use Rattle.mg_cursor.proofs.documents.Documents.poll_advance.Given as goal

abbrev pub invariant-replies : goal.invariant-replies
invariant-replies g l = record {
  keeps : LinkKeeps (moment (g.L.Link.awaited l.fn.link) (g.L.Link.log l.fn.link) (g.L.Link.faults l.fn.link) (g.L.Link.pends l.fn.link) (g.L.Link.wire l.fn.link) (g.L.Link.prompt l.fn.link))
      (moment (g.L.Link.awaited l.link) (g.L.Link.log l.link) (g.L.Link.faults l.link) (g.L.Link.pends l.link) (g.L.Link.wire l.link) (g.L.Link.prompt l.link))
      (client_ticket (document_cursor l.fn.self).cursor) (client_ticket (document_cursor l.self).cursor) finished;
  sought : (starts : ℕ) × (l.handle ≡ times starts g.H.ClientSessionHandle.told l.fn.handle)
      × Sought (g.L.Link.awaited l.fn.link) (g.L.Link.awaited l.link) (g.L.Link.log l.fn.link) (g.L.Link.log l.link) (g.L.Link.wire l.fn.link) (g.H.ClientSessionHandle.asked l.fn.handle) (g.H.ClientSessionHandle.asked l.handle) starts (document_cursor l.fn.self) (document_cursor l.self);
}

abbrev pub decreases-replies : goal.decreases-replies
decreases-replies g l = most_empty - l.self.empty
