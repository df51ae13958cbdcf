use Rattle.std.proofs.Common.{refl}
use Rattle.mg_link.specs.Moment.{failed, finished, moment}
use Rattle.mg_link.specs.declared.action.Step.TheVariants as step
use Rattle.mg_link.proofs.Moments.{keeps_step}
use Rattle.mg_cursor.specs.Closing.{ClosingCursor, closing_ticket}
use Rattle.mg_change.specs.ClosingStreams.{lands, lands_closing}
use Rattle.mg_change.specs.ClosingView.{closing_in}
use Rattle.mg_change.proofs.Keeping.{closing_pends}
use Rattle.mg_change.proofs.Remaining.{keeps_then, kills_at, passes_at}
use Rattle.mg_change.proofs.closing.land_replaced.Goals as goal

-- ---- it pends still

pub invariant_of-still : goal.invariant_of-still
invariant_of-still g c =
    let link = c.args.link.now in
    let later = c.poll.new.link in
    let sound = c.requires.sound in
    let pends = closing_pends (g.L.Link.awaited link) (g.L.Link.awaited later) (g.L.Link.log link) (g.L.Link.log later) (g.L.Link.wire link) c.args.closing c.in-Pending.closing sound.1 sound.2 c.in-Pending.ensures.closes in
    record { sound = (sound.0, pends.0, pends.1, sound.3); saves = tt }

pub returns-in-Pending-clause-keeps : goal.returns-in-Pending-clause-keeps
returns-in-Pending-clause-keeps g c =
    let link = c.args.link.now in
    let later = c.poll.new.link in
    keeps_step {S = ClosingCursor} {T = Unit {0}} (moment (g.L.Link.awaited link) (g.L.Link.log link) (g.L.Link.faults link) (g.L.Link.pends link) (g.L.Link.wire link) (g.L.Link.prompt link)) (moment (g.L.Link.awaited later) (g.L.Link.log later) (g.L.Link.faults later) (g.L.Link.pends later) (g.L.Link.wire later) (g.L.Link.prompt later)) closing_ticket (closing_ticket c.args.closing) (step.Pending c.in-Pending.closing)
    c.in-Pending.ensures.tickets c.in-Pending.ensures.pended c.in-Pending.ensures.lost c.in-Pending.ensures.prompt c.in-Pending.ensures.later

pub returns-in-Pending-clause-closes : goal.returns-in-Pending-clause-closes
returns-in-Pending-clause-closes g c =
    let later = c.poll.new.link in
    lands_closing c.args.closing refl (record { awaited = g.L.Link.awaited later; log = g.L.Link.log later }) (step.Pending c.in-Pending.closing) c.in-Pending.ensures.closes (record { rest = λ n. refl; log_same = refl }, refl)

-- ---- it has ended

pub kill_left-requires : goal.kill_left-requires
kill_left-requires g c = c.requires.sound.0

pub returns-in-Done-clause-keeps : goal.returns-in-Done-clause-keeps
returns-in-Done-clause-keeps g c =
    let link = c.args.link.now in
    let later = c.poll.new.link in
    let last = c.kill_left.new.link in
    keeps_then (moment (g.L.Link.awaited link) (g.L.Link.log link) (g.L.Link.faults link) (g.L.Link.pends link) (g.L.Link.wire link) (g.L.Link.prompt link)) (moment (g.L.Link.awaited later) (g.L.Link.log later) (g.L.Link.faults later) (g.L.Link.pends later) (g.L.Link.wire later) (g.L.Link.prompt later)) (moment (g.L.Link.awaited last) (g.L.Link.log last) (g.L.Link.faults last) (g.L.Link.pends last) (g.L.Link.wire last) (g.L.Link.prompt last)) (closing_ticket c.args.closing) _ finished _
    (keeps_step {S = ClosingCursor} {T = Unit {0}} (moment (g.L.Link.awaited link) (g.L.Link.log link) (g.L.Link.faults link) (g.L.Link.pends link) (g.L.Link.wire link) (g.L.Link.prompt link)) (moment (g.L.Link.awaited later) (g.L.Link.log later) (g.L.Link.faults later) (g.L.Link.pends later) (g.L.Link.wire later) (g.L.Link.prompt later)) closing_ticket (closing_ticket c.args.closing) (step.Done tt)
    c.in-Done.ensures.tickets c.in-Done.ensures.pended c.in-Done.ensures.lost c.in-Done.ensures.prompt c.in-Done.ensures.later)
    c.in-Done.ensures.pended c.kill_left.ensures.keeps

pub returns-in-Done-clause-closes : goal.returns-in-Done-clause-closes
returns-in-Done-clause-closes g c =
    let later = c.poll.new.link in
    let last = c.kill_left.new.link in
    lands_closing c.args.closing refl (record { awaited = g.L.Link.awaited later; log = g.L.Link.log later }) (step.Done tt) c.in-Done.ensures.closes
    (kills_at (g.L.Link.awaited later) (g.L.Link.awaited last) (g.L.Link.log later) (g.L.Link.log last) (g.L.Link.wire c.args.link.now) (g.L.Link.wire later) (closing_in c.args.remains lands) c.kill_left.result c.in-Done.ensures.later.wire c.kill_left.ensures.kills)

-- ---- it failed

pub pass-requires : goal.pass-requires
pass-requires g c = c.requires.sound.0

pub returns-in-Failed-clause-keeps : goal.returns-in-Failed-clause-keeps
returns-in-Failed-clause-keeps g c =
    let link = c.args.link.now in
    let later = c.poll.new.link in
    let last = c.pass.new.link in
    keeps_then (moment (g.L.Link.awaited link) (g.L.Link.log link) (g.L.Link.faults link) (g.L.Link.pends link) (g.L.Link.wire link) (g.L.Link.prompt link)) (moment (g.L.Link.awaited later) (g.L.Link.log later) (g.L.Link.faults later) (g.L.Link.pends later) (g.L.Link.wire later) (g.L.Link.prompt later)) (moment (g.L.Link.awaited last) (g.L.Link.log last) (g.L.Link.faults last) (g.L.Link.pends last) (g.L.Link.wire last) (g.L.Link.prompt last)) (closing_ticket c.args.closing) _ (failed c.in-Failed.error) _
    (keeps_step {S = ClosingCursor} {T = Unit {0}} (moment (g.L.Link.awaited link) (g.L.Link.log link) (g.L.Link.faults link) (g.L.Link.pends link) (g.L.Link.wire link) (g.L.Link.prompt link)) (moment (g.L.Link.awaited later) (g.L.Link.log later) (g.L.Link.faults later) (g.L.Link.pends later) (g.L.Link.wire later) (g.L.Link.prompt later)) closing_ticket (closing_ticket c.args.closing) (step.Failed c.in-Failed.error)
    c.in-Failed.ensures.tickets c.in-Failed.ensures.pended c.in-Failed.ensures.lost c.in-Failed.ensures.prompt c.in-Failed.ensures.later)
    c.in-Failed.ensures.pended c.pass.ensures.keeps

pub returns-in-Failed-clause-closes : goal.returns-in-Failed-clause-closes
returns-in-Failed-clause-closes g c =
    let later = c.poll.new.link in
    let last = c.pass.new.link in
    lands_closing c.args.closing refl (record { awaited = g.L.Link.awaited later; log = g.L.Link.log later }) (step.Failed c.in-Failed.error) c.in-Failed.ensures.closes
    (passes_at (g.L.Link.awaited later) (g.L.Link.awaited last) (g.L.Link.log later) (g.L.Link.log last) (g.L.Link.wire c.args.link.now) (g.L.Link.wire later) (closing_in c.args.remains lands) c.in-Failed.error c.pass.result c.in-Failed.ensures.later.wire c.pass.ensures.passes)
