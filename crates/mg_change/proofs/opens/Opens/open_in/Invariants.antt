use Rattle.std.proofs.Common.{◌≡◌, ◌-◌, ◌≤◌, ℕ, Bool, max, None}
use Rattle.mg_link.specs.Acts.{Tickets}
use Rattle.mg_link.specs.Causes.{RoseJust}
use Rattle.mg_link.specs.Link.{Later}
use Rattle.mg_link.specs.declared.action.Step.TheVariants as step
use Rattle.mg_cursor.specs.Client.{PlainIf}
use Rattle.mg_cursor.specs.Seeking.{times}
use Rattle.mg_change.specs.ClientOpenings.{opening_ticket}
use Rattle.mg_change.specs.OpeningView.{IsOpens, opens_of}
use Rattle.mg_change.proofs.OpenCalls.{OpenGoes}
use Rattle.mg_change.proofs.opens.Opens.open_in.Given as goal

abbrev pub invariant-polls : goal.invariant-polls
invariant-polls g l = record {
  tickets : Tickets (g.L.Link.awaited l.fn.link) (g.L.Link.awaited l.link) None (opening_ticket (opens_of l.state));
  upto : l._round ≤ max l.fn.polls 1;
  pended : RoseJust (l._round - 1) (g.L.Link.pends l.fn.link) (g.L.Link.pends l.link);
  later : Later (g.L.Link.faults l.fn.link) (g.L.Link.faults l.link) (g.L.Link.pends l.fn.link) (g.L.Link.pends l.link) (g.L.Link.wire l.fn.link) (g.L.Link.wire l.link) (g.L.Link.prompt l.fn.link) (g.L.Link.prompt l.link);
  sound : (plain : Bool) → PlainIf plain (g.H.ClientSessionHandle.asked l.fn.handle) → IsOpens plain l.state;
  told : (starts : ℕ) × (l.handle ≡ times starts g.H.ClientSessionHandle.told l.fn.handle);
  first : (opens_of l.state).sending ≡ None → l.handle ≡ l.fn.handle;
  goes : OpenGoes (g.L.Link.awaited l.link) (g.L.Link.log l.fn.link) (g.L.Link.log l.link) (g.L.Link.wire l.fn.link) (g.H.ClientSessionHandle.asked l.fn.handle) l.fn.args (step.Pending (opens_of l.state));
}
