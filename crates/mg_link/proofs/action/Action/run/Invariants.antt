use Rattle.std.proofs.Common.{◌-◌, ◌≤◌, max}
use Rattle.mg_link.specs.Causes.{RoseJust}
use Rattle.mg_link.specs.Link.{Later}
use Rattle.mg_link.specs.Acts.{Pendings, Tickets}
use Rattle.mg_link.proofs.action.Action.run.Given as goal

abbrev pub invariant-polls : goal.invariant-polls
invariant-polls g l = record {
  tickets : Tickets (g.L.Link.awaited l.fn.link) (g.L.Link.awaited l.link) (g.Self.Action.ticket l.fn.self) (g.Self.Action.ticket l.state);
  polled : Pendings g.Self.Action.does (l._round - 1) (g.L.Link.awaited l.fn.link) (g.L.Link.awaited l.link) (g.L.Link.log l.fn.link) (g.L.Link.log l.link) (g.L.Link.wire l.fn.link) l.fn.self l.state;
  upto : l._round ≤ max l.fn.polls 1;
  pended : RoseJust (l._round - 1) (g.L.Link.pends l.fn.link) (g.L.Link.pends l.link);
  later : Later (g.L.Link.faults l.fn.link) (g.L.Link.faults l.link) (g.L.Link.pends l.fn.link) (g.L.Link.pends l.link) (g.L.Link.wire l.fn.link) (g.L.Link.wire l.link) (g.L.Link.prompt l.fn.link) (g.L.Link.prompt l.link);
}
