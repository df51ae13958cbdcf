use Rattle.mg_link.specs.Exec.{ticket_of}
use Rattle.mg_link.specs.Moment.{moment}
use Rattle.mg_link.proofs.Moments.{keeps_step}
use Rattle.mg_cursor.specs.View.{client_of}
use Rattle.mg_cursor.proofs.Hearing.{keeps_heard}
use Rattle.mg_cursor.proofs.batches.Batches.go_on.Goals as goal

pub returns-clause-keeps : goal.returns-clause-keeps
returns-clause-keeps g c =
    let link = c.args.link.now in
    let later = c.poll_started-step.new.link in
    let before = moment (g.L.Link.awaited link) (g.L.Link.log link) (g.L.Link.faults link) (g.L.Link.pends link) (g.L.Link.wire link) (g.L.Link.prompt link) in
    let after = moment (g.L.Link.awaited later) (g.L.Link.log later) (g.L.Link.faults later) (g.L.Link.pends later) (g.L.Link.wire later) (g.L.Link.prompt later) in
    let polled = c.poll_started-step.result.0 in
    keeps_heard before after (ticket_of c.args.exec) (client_of c.args.self.now) polled (client_of c.hear.new.self) c.hear.result c.hear.ensures
    (keeps_step before after ticket_of (ticket_of c.args.exec) polled c.poll_started-step.ensures.tickets c.poll_started-step.ensures.pended c.poll_started-step.ensures.lost c.poll_started-step.ensures.prompt c.poll_started-step.ensures.later)

pub returns-clause-asks : goal.returns-clause-asks
returns-clause-asks g c =
    (c.poll_started-step.result.1, record { came = c.poll_started-step.result.0; runs = c.poll_started-step.ensures.runs; hears = c.hear.ensures }, c.tell.ensures)
