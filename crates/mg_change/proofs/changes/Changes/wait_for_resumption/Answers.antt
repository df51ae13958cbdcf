use Rattle.std.proofs.Common.{◌∙◌}
use Rattle.mg_link.specs.Exec.{ticket_of}
use Rattle.mg_link.specs.Moment.{moment}
use Rattle.mg_link.proofs.Moments.{keeps_step}
use Rattle.mg_cursor.proofs.Giving.{told_times}
use Rattle.mg_change.specs.StreamView.{changes_of}
use Rattle.mg_change.proofs.Parts.{resumption_keeps}
use Rattle.mg_change.proofs.changes.Changes.wait_for_resumption.Goals as goal

pub poll_started-step-requires : goal.poll_started-step-requires
poll_started-step-requires g c = c.requires.held

pub hear-requires-clause-saved : goal.hear-requires-clause-saved
hear-requires-clause-saved g c = c.requires.saved

pub hear-requires-clause-none_left : goal.hear-requires-clause-none_left
hear-requires-clause-none_left g c = c.requires.none_left

pub hear-requires-clause-quiet : goal.hear-requires-clause-quiet
hear-requires-clause-quiet g c = c.requires.quiet

pub returns-clause-keeps : goal.returns-clause-keeps
returns-clause-keeps g c =
    let link = c.args.link.now in
    let later = c.poll_started-step.new.link in
    let before = (moment (g.L.Link.awaited link) (g.L.Link.log link) (g.L.Link.faults link) (g.L.Link.pends link) (g.L.Link.wire link) (g.L.Link.prompt link)) in
    let after = (moment (g.L.Link.awaited later) (g.L.Link.log later) (g.L.Link.faults later) (g.L.Link.pends later) (g.L.Link.wire later) (g.L.Link.prompt later)) in
    let polled = c.poll_started-step.result.0 in
    resumption_keeps before after (ticket_of c.args.exec) (changes_of c.args.self.now) polled (changes_of c.hear.new.self) c.hear.result c.requires.quiet c.hear.ensures.hears
    (keeps_step before after ticket_of (ticket_of c.args.exec) polled c.poll_started-step.ensures.tickets c.poll_started-step.ensures.pended c.poll_started-step.ensures.lost c.poll_started-step.ensures.prompt c.poll_started-step.ensures.later)

pub returns-clause-runs : goal.returns-clause-runs
returns-clause-runs g c = (
  c.poll_started-step.result.1,
  record { came = c.poll_started-step.result.0; runs = c.poll_started-step.ensures.runs; hears = c.hear.ensures.hears },
  c.tell.ensures ∙ told_times g.H.ClientSessionHandle.told c.args.handle.now c.poll_started-step.result.1,
)
