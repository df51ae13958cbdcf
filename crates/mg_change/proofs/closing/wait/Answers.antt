use Rattle.std.proofs.Common.{ℕ, List, refl}
use Rattle.mg_link.specs.Exec.{Sending, ticket_of}
use Rattle.mg_link.specs.Moment.{moment}
use Rattle.mg_link.specs.declared.action.Step.TheVariants as step
use Rattle.mg_link.proofs.Moments.{keeps_step}
use Rattle.mg_change.proofs.Remaining.{kill_still}
use Rattle.mg_change.proofs.closing.wait.Goals as goal

-- one that pends waits
pub invariant_of-still : goal.invariant_of-still
invariant_of-still g c =
    let link = c.args.link.now in
    let later = c.poll.new.link in
    kill_still (g.L.Link.awaited link) (g.L.Link.awaited later) (g.L.Link.log link) (g.L.Link.log later) (g.L.Link.wire link) c.args.remains c.args.exec c.in-Pending.exec c.requires.killing c.in-Pending.ensures.runs

pub returns-in-Pending-clause-keeps : goal.returns-in-Pending-clause-keeps
returns-in-Pending-clause-keeps g c =
    let link = c.args.link.now in
    let later = c.poll.new.link in
    keeps_step {S = Sending} {T = List ℕ} (moment (g.L.Link.awaited link) (g.L.Link.log link) (g.L.Link.faults link) (g.L.Link.pends link) (g.L.Link.wire link) (g.L.Link.prompt link)) (moment (g.L.Link.awaited later) (g.L.Link.log later) (g.L.Link.faults later) (g.L.Link.pends later) (g.L.Link.wire later) (g.L.Link.prompt later)) ticket_of (ticket_of c.args.exec) (step.Pending c.in-Pending.exec)
    c.in-Pending.ensures.tickets c.in-Pending.ensures.pended c.in-Pending.ensures.lost c.in-Pending.ensures.prompt c.in-Pending.ensures.later

pub returns-in-Pending-clause-runs : goal.returns-in-Pending-clause-runs
returns-in-Pending-clause-runs g c = record { came = step.Pending c.in-Pending.exec; runs = c.in-Pending.ensures.runs; hears = refl }

pub returns-in-Done-clause-keeps : goal.returns-in-Done-clause-keeps
returns-in-Done-clause-keeps g c =
    let link = c.args.link.now in
    let later = c.poll.new.link in
    keeps_step {S = Sending} {T = List ℕ} (moment (g.L.Link.awaited link) (g.L.Link.log link) (g.L.Link.faults link) (g.L.Link.pends link) (g.L.Link.wire link) (g.L.Link.prompt link)) (moment (g.L.Link.awaited later) (g.L.Link.log later) (g.L.Link.faults later) (g.L.Link.pends later) (g.L.Link.wire later) (g.L.Link.prompt later)) ticket_of (ticket_of c.args.exec) (step.Done c.in-Done._reply)
    c.in-Done.ensures.tickets c.in-Done.ensures.pended c.in-Done.ensures.lost c.in-Done.ensures.prompt c.in-Done.ensures.later

pub returns-in-Done-clause-runs : goal.returns-in-Done-clause-runs
returns-in-Done-clause-runs g c = record { came = step.Done c.in-Done._reply; runs = c.in-Done.ensures.runs; hears = refl }

pub returns-in-Failed-clause-keeps : goal.returns-in-Failed-clause-keeps
returns-in-Failed-clause-keeps g c =
    let link = c.args.link.now in
    let later = c.poll.new.link in
    keeps_step {S = Sending} {T = List ℕ} (moment (g.L.Link.awaited link) (g.L.Link.log link) (g.L.Link.faults link) (g.L.Link.pends link) (g.L.Link.wire link) (g.L.Link.prompt link)) (moment (g.L.Link.awaited later) (g.L.Link.log later) (g.L.Link.faults later) (g.L.Link.pends later) (g.L.Link.wire later) (g.L.Link.prompt later)) ticket_of (ticket_of c.args.exec) (step.Failed c.in-Failed.error)
    c.in-Failed.ensures.tickets c.in-Failed.ensures.pended c.in-Failed.ensures.lost c.in-Failed.ensures.prompt c.in-Failed.ensures.later

pub returns-in-Failed-clause-runs : goal.returns-in-Failed-clause-runs
returns-in-Failed-clause-runs g c = record { came = step.Failed c.in-Failed.error; runs = c.in-Failed.ensures.runs; hears = refl }
