use Rattle.std.proofs.Common.{◌≡◌}
use Rattle.mg_link.specs.Acts.{Tickets}
use Rattle.mg_link.specs.Link.{Later}
use Rattle.mg_server.specs.Owner.{PassesPlain}
use Rattle.mg_ops.specs.InsertCauses.{LeadsCaused}
use Rattle.mg_ops.specs.InsertSends.{LeadsSent}
use Rattle.mg_ops.specs.Inserts.{HeldPlain, SendsPlain, held, insert_ticket, left_of}
use Rattle.mg_ops.specs.Underway.{IsSameList, LeadsOn}
use Rattle.mg_ops.proofs.inserting.InsertingAction.poll.Given as goal

abbrev pub invariant-commands : goal.invariant-commands
invariant-commands g l = record {
  tickets : Tickets (g.L.Link.awaited l.fn.link) (g.L.Link.awaited l.link) (insert_ticket l.fn.self) (held l.command);
  plain : SendsPlain l.fn.self → PassesPlain (g.L.Link.log l.fn.link) (g.L.Link.log l.link) × HeldPlain l.command;
  pended : g.L.Link.pends l.link ≡ g.L.Link.pends l.fn.link;
  inserts : LeadsOn (g.L.Link.awaited l.fn.link) (g.L.Link.awaited l.link) (g.L.Link.log l.fn.link) (g.L.Link.log l.link) l.fn.self l.batches l.command;
  caused : LeadsCaused (g.L.Link.awaited l.fn.link) (g.L.Link.awaited l.link) (g.L.Link.log l.fn.link) (g.L.Link.log l.link) (g.L.Link.wire l.fn.link) l.fn.self l.batches l.command;
  sends : LeadsSent (g.L.Link.log l.fn.link) (g.L.Link.log l.link) l.fn.self l.batches l.command;
  list : IsSameList l.fn.self.batches l.batches;
  later : Later (g.L.Link.faults l.fn.link) (g.L.Link.faults l.link) (g.L.Link.pends l.fn.link) (g.L.Link.pends l.link) (g.L.Link.wire l.fn.link) (g.L.Link.wire l.link) (g.L.Link.prompt l.fn.link) (g.L.Link.prompt l.link);
}

abbrev pub decreases-commands : goal.decreases-commands
decreases-commands g l = left_of l.batches.documents.now l.batches.upto l.command
