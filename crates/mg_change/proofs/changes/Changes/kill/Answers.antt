use Rattle.std.proofs.Common.{refl, ap}
use Rattle.mg_link.specs.Moment.{moment}
use Rattle.mg_link.specs.declared.action.Step.TheVariants as step
use Rattle.mg_link.proofs.Moments.{keeps_step}
use Rattle.mg_cursor.specs.Closing.{ClosingCursor, closing_ticket}
use Rattle.mg_cursor.specs.declared.polls.TryPoll.TheVariants as try
use Rattle.mg_change.specs.StreamView.{changes_of}
use Rattle.mg_change.specs.declared.changes.Changes.{Changes}
use Rattle.mg_change.specs.declared.event_poll.Stepped.TheVariants as stepped
use Rattle.mg_change.proofs.Parts.{closing_falls, closing_keeps}
use Rattle.mg_change.proofs.changes.Changes.kill.Goals as goal

pub poll-requires : goal.poll-requires
poll-requires g c = c.requires

pub returns-in-Pending-clause-keeps : goal.returns-in-Pending-clause-keeps
returns-in-Pending-clause-keeps g c =
    let link = c.args.link.now in
    let later = c.poll.new.link in
    let before = (moment (g.L.Link.awaited link) (g.L.Link.log link) (g.L.Link.faults link) (g.L.Link.pends link) (g.L.Link.wire link) (g.L.Link.prompt link)) in
    let after = (moment (g.L.Link.awaited later) (g.L.Link.log later) (g.L.Link.faults later) (g.L.Link.pends later) (g.L.Link.wire later) (g.L.Link.prompt later)) in
    closing_keeps before after (closing_ticket c.args.closing) (changes_of c.args.self.now) (step.Pending c.in-Pending.closing) (changes_of c.enter.new.self) (stepped.Gives try.Pending) (ap changes_of c.enter.ensures, refl)
    (keeps_step {S = ClosingCursor} {T = Unit {0}} before after closing_ticket (closing_ticket c.args.closing) (step.Pending c.in-Pending.closing) c.in-Pending.ensures.tickets c.in-Pending.ensures.pended c.in-Pending.ensures.lost c.in-Pending.ensures.prompt c.in-Pending.ensures.later)

pub returns-in-Pending-clause-closes : goal.returns-in-Pending-clause-closes
returns-in-Pending-clause-closes g c = record { came = (step.Pending c.in-Pending.closing); closes = c.in-Pending.ensures.closes; hears = (ap changes_of c.enter.ensures, refl) }

pub returns-in-Pending-clause-falls : goal.returns-in-Pending-clause-falls
returns-in-Pending-clause-falls g c = closing_falls (changes_of c.args.self.now) (step.Pending c.in-Pending.closing) (changes_of c.enter.new.self) (stepped.Gives try.Pending) (ap changes_of c.enter.ensures, refl)

pub returns-in-Pending-clause-place : goal.returns-in-Pending-clause-place
returns-in-Pending-clause-place g c = ap (λ (s : Changes). s.token) c.enter.ensures

pub returns-in-Done-clause-keeps : goal.returns-in-Done-clause-keeps
returns-in-Done-clause-keeps g c =
    let link = c.args.link.now in
    let later = c.poll.new.link in
    let before = (moment (g.L.Link.awaited link) (g.L.Link.log link) (g.L.Link.faults link) (g.L.Link.pends link) (g.L.Link.wire link) (g.L.Link.prompt link)) in
    let after = (moment (g.L.Link.awaited later) (g.L.Link.log later) (g.L.Link.faults later) (g.L.Link.pends later) (g.L.Link.wire later) (g.L.Link.prompt later)) in
    closing_keeps before after (closing_ticket c.args.closing) (changes_of c.args.self.now) (step.Done tt) (changes_of c.go_to_batch.new.self) c.go_to_batch.result (c.go_to_batch.ensures.phase, c.go_to_batch.ensures.goes)
    (keeps_step {S = ClosingCursor} {T = Unit {0}} before after closing_ticket (closing_ticket c.args.closing) (step.Done tt) c.in-Done.ensures.tickets c.in-Done.ensures.pended c.in-Done.ensures.lost c.in-Done.ensures.prompt c.in-Done.ensures.later)

pub returns-in-Done-clause-closes : goal.returns-in-Done-clause-closes
returns-in-Done-clause-closes g c = record { came = (step.Done tt); closes = c.in-Done.ensures.closes; hears = (c.go_to_batch.ensures.phase, c.go_to_batch.ensures.goes) }

pub returns-in-Done-clause-falls : goal.returns-in-Done-clause-falls
returns-in-Done-clause-falls g c = closing_falls (changes_of c.args.self.now) (step.Done tt) (changes_of c.go_to_batch.new.self) c.go_to_batch.result (c.go_to_batch.ensures.phase, c.go_to_batch.ensures.goes)

pub returns-in-Failed-clause-keeps : goal.returns-in-Failed-clause-keeps
returns-in-Failed-clause-keeps g c =
    let link = c.args.link.now in
    let later = c.poll.new.link in
    let before = (moment (g.L.Link.awaited link) (g.L.Link.log link) (g.L.Link.faults link) (g.L.Link.pends link) (g.L.Link.wire link) (g.L.Link.prompt link)) in
    let after = (moment (g.L.Link.awaited later) (g.L.Link.log later) (g.L.Link.faults later) (g.L.Link.pends later) (g.L.Link.wire later) (g.L.Link.prompt later)) in
    closing_keeps before after (closing_ticket c.args.closing) (changes_of c.args.self.now) (step.Failed c.in-Failed.error) (changes_of c.pass.new.self) c.pass.result c.pass.ensures.hears
    (keeps_step {S = ClosingCursor} {T = Unit {0}} before after closing_ticket (closing_ticket c.args.closing) (step.Failed c.in-Failed.error) c.in-Failed.ensures.tickets c.in-Failed.ensures.pended c.in-Failed.ensures.lost c.in-Failed.ensures.prompt c.in-Failed.ensures.later)

pub returns-in-Failed-clause-closes : goal.returns-in-Failed-clause-closes
returns-in-Failed-clause-closes g c = record { came = (step.Failed c.in-Failed.error); closes = c.in-Failed.ensures.closes; hears = c.pass.ensures.hears }

pub returns-in-Failed-clause-falls : goal.returns-in-Failed-clause-falls
returns-in-Failed-clause-falls g c = closing_falls (changes_of c.args.self.now) (step.Failed c.in-Failed.error) (changes_of c.pass.new.self) c.pass.result c.pass.ensures.hears
