use Rattle.std.proofs.Common.{ℕ, List, refl}
use Rattle.mg_link.specs.Exec.{Sending, ticket_of}
use Rattle.mg_link.specs.Moment.{failed, finished, moment}
use Rattle.mg_link.specs.declared.action.Step.TheVariants as step
use Rattle.mg_link.proofs.Moments.{keeps_step}
use Rattle.mg_change.specs.ClosingStreams.{lands, lands_aggregate, lands_opening}
use Rattle.mg_change.specs.ClosingView.{closing_in}
use Rattle.mg_change.proofs.Remaining.{keeps_then, opening_at, passes_at}
use Rattle.mg_change.proofs.closing.land_aggregate.Goals as goal

-- ---- it pends still

pub invariant_of-still : goal.invariant_of-still
invariant_of-still g c = record { sound = c.requires.sound; saves = tt }

pub returns-in-Pending-clause-keeps : goal.returns-in-Pending-clause-keeps
returns-in-Pending-clause-keeps g c =
    let link = c.args.link.now in
    let later = c.poll.new.link in
    keeps_step {S = Sending} {T = List ℕ} (moment (g.L.Link.awaited link) (g.L.Link.log link) (g.L.Link.faults link) (g.L.Link.pends link) (g.L.Link.wire link) (g.L.Link.prompt link)) (moment (g.L.Link.awaited later) (g.L.Link.log later) (g.L.Link.faults later) (g.L.Link.pends later) (g.L.Link.wire later) (g.L.Link.prompt later)) ticket_of (ticket_of c.args.exec) (step.Pending c.in-Pending.exec)
    c.in-Pending.ensures.tickets c.in-Pending.ensures.pended c.in-Pending.ensures.lost c.in-Pending.ensures.prompt c.in-Pending.ensures.later

pub returns-in-Pending-clause-closes : goal.returns-in-Pending-clause-closes
returns-in-Pending-clause-closes g c =
    let later = c.poll.new.link in
    lands_opening c.args.exec refl (record { awaited = g.L.Link.awaited later; log = g.L.Link.log later }) (step.Pending c.in-Pending.exec) c.in-Pending.ensures.runs (record { rest = λ n. refl; log_same = refl }, refl)

-- ---- it came

pub aggregate_came-requires : goal.aggregate_came-requires
aggregate_came-requires g c = c.requires.sound

pub returns-in-Done-clause-keeps : goal.returns-in-Done-clause-keeps
returns-in-Done-clause-keeps g c =
    let link = c.args.link.now in
    let later = c.poll.new.link in
    let last = c.aggregate_came.new.link in
    keeps_then (moment (g.L.Link.awaited link) (g.L.Link.log link) (g.L.Link.faults link) (g.L.Link.pends link) (g.L.Link.wire link) (g.L.Link.prompt link)) (moment (g.L.Link.awaited later) (g.L.Link.log later) (g.L.Link.faults later) (g.L.Link.pends later) (g.L.Link.wire later) (g.L.Link.prompt later)) (moment (g.L.Link.awaited last) (g.L.Link.log last) (g.L.Link.faults last) (g.L.Link.pends last) (g.L.Link.wire last) (g.L.Link.prompt last)) (ticket_of c.args.exec) _ finished _
    (keeps_step {S = Sending} {T = List ℕ} (moment (g.L.Link.awaited link) (g.L.Link.log link) (g.L.Link.faults link) (g.L.Link.pends link) (g.L.Link.wire link) (g.L.Link.prompt link)) (moment (g.L.Link.awaited later) (g.L.Link.log later) (g.L.Link.faults later) (g.L.Link.pends later) (g.L.Link.wire later) (g.L.Link.prompt later)) ticket_of (ticket_of c.args.exec) (step.Done c.in-Done.reply)
    c.in-Done.ensures.tickets c.in-Done.ensures.pended c.in-Done.ensures.lost c.in-Done.ensures.prompt c.in-Done.ensures.later)
    c.in-Done.ensures.pended c.aggregate_came.ensures.keeps

pub returns-in-Done-clause-closes : goal.returns-in-Done-clause-closes
returns-in-Done-clause-closes g c =
    let later = c.poll.new.link in
    let last = c.aggregate_came.new.link in
    lands_opening c.args.exec refl (record { awaited = g.L.Link.awaited later; log = g.L.Link.log later }) (step.Done c.in-Done.reply) c.in-Done.ensures.runs
    (opening_at (g.L.Link.awaited later) (g.L.Link.awaited last) (g.L.Link.log later) (g.L.Link.log last) (g.L.Link.wire c.args.link.now) (g.L.Link.wire later) (closing_in c.args.remains (lands_aggregate c.args.exec)) c.in-Done.reply c.aggregate_came.result c.in-Done.ensures.later.wire c.aggregate_came.ensures.behind)

-- ---- it failed

pub pass-requires : goal.pass-requires
pass-requires g c = c.requires.sound

pub returns-in-Failed-clause-keeps : goal.returns-in-Failed-clause-keeps
returns-in-Failed-clause-keeps g c =
    let link = c.args.link.now in
    let later = c.poll.new.link in
    let last = c.pass.new.link in
    keeps_then (moment (g.L.Link.awaited link) (g.L.Link.log link) (g.L.Link.faults link) (g.L.Link.pends link) (g.L.Link.wire link) (g.L.Link.prompt link)) (moment (g.L.Link.awaited later) (g.L.Link.log later) (g.L.Link.faults later) (g.L.Link.pends later) (g.L.Link.wire later) (g.L.Link.prompt later)) (moment (g.L.Link.awaited last) (g.L.Link.log last) (g.L.Link.faults last) (g.L.Link.pends last) (g.L.Link.wire last) (g.L.Link.prompt last)) (ticket_of c.args.exec) _ (failed c.in-Failed.error) _
    (keeps_step {S = Sending} {T = List ℕ} (moment (g.L.Link.awaited link) (g.L.Link.log link) (g.L.Link.faults link) (g.L.Link.pends link) (g.L.Link.wire link) (g.L.Link.prompt link)) (moment (g.L.Link.awaited later) (g.L.Link.log later) (g.L.Link.faults later) (g.L.Link.pends later) (g.L.Link.wire later) (g.L.Link.prompt later)) ticket_of (ticket_of c.args.exec) (step.Failed c.in-Failed.error)
    c.in-Failed.ensures.tickets c.in-Failed.ensures.pended c.in-Failed.ensures.lost c.in-Failed.ensures.prompt c.in-Failed.ensures.later)
    c.in-Failed.ensures.pended c.pass.ensures.keeps

pub returns-in-Failed-clause-closes : goal.returns-in-Failed-clause-closes
returns-in-Failed-clause-closes g c =
    let later = c.poll.new.link in
    let last = c.pass.new.link in
    lands_opening c.args.exec refl (record { awaited = g.L.Link.awaited later; log = g.L.Link.log later }) (step.Failed c.in-Failed.error) c.in-Failed.ensures.runs
    (passes_at (g.L.Link.awaited later) (g.L.Link.awaited last) (g.L.Link.log later) (g.L.Link.log last) (g.L.Link.wire c.args.link.now) (g.L.Link.wire later) (closing_in c.args.remains lands) c.in-Failed.error c.pass.result c.in-Failed.ensures.later.wire c.pass.ensures.passes)
