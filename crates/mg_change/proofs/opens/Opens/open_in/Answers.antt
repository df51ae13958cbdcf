use Rattle.std.proofs.Common.{◌≡◌, ◌+◌, ◌-◌, false, max, None, Some, refl, sym, ap, ◌∙◌, subst, inl, inr, arith}
use Rattle.mg_link.specs.Acts.{Tickets}
use Rattle.mg_link.specs.Causes.{one_if}
use Rattle.mg_link.specs.Moment.{moment}
use Rattle.mg_link.specs.declared.action.Step.TheVariants as step
use Rattle.mg_link.proofs.Onward.{later_on, later_same, tickets_on, tickets_same}
use Rattle.mg_cursor.specs.Seeking.{times}
use Rattle.mg_cursor.proofs.Sought.{times_on}
use Rattle.mg_change.specs.ClientOpenings.{ClientOpening, opening_ticket}
use Rattle.mg_change.specs.OpeningView.{opens_of}
use Rattle.mg_change.specs.declared.opens.Opens.{Opens}
use Rattle.mg_change.proofs.Calls.{plain_told_often}
use Rattle.mg_change.proofs.OpenCalls.{call_opens, open_goes, open_goes_in, open_keeps, pended_once, pends_sent}
use Rattle.mg_change.proofs.opens.Opens.open_in.Goals as goal

pub polls-init : goal.polls-init
polls-init g c =
    let link = c.args.link.now in
    let awaited = g.L.Link.awaited link in
    let is = c.new-state.ensures.seen in
    record {
      tickets = subst (λ (o : ClientOpening). Tickets awaited awaited None (opening_ticket o)) (sym is) (tickets_same awaited None (λ n e. let bad : None ≡ Some n = e in absurd cc));
      upto = omega arith;
      pended = (omega arith, omega arith);
      later = later_same (g.L.Link.faults link) (g.L.Link.pends link) (g.L.Link.wire link) (g.L.Link.prompt link);
      sound = λ plain plainly. c.new-state.ensures.sound plain;
      told = (0, refl);
      first = λ none. refl;
      goes = open_goes awaited (g.L.Link.log link) (g.L.Link.wire link) (g.H.ClientSessionHandle.asked c.args.handle.now) c.args.args (opens_of c.new-state.result) is;
    }

pub polls-preserved : goal.polls-preserved
polls-preserved g c =
    let so = c.polls.invariant in
    let asked = g.H.ClientSessionHandle.asked in
    let told = g.H.ClientSessionHandle.told in
    let keeps = c.in-Pending.ensures.keeps in
    let did = c.in-Pending.ensures.opens (so.sound false tt).first in
    record {
      tickets = tickets_on so.tickets keeps.tickets;
      upto = omega (arith, c.polls-test.true);
      pended = pended_once c.polls._round (g.L.Link.pends c.args.link.now) (g.L.Link.pends c.polls.link) (g.L.Link.pends c.poll_in.new.link) c.polls.auto._round so.pended keeps.pended.1;
      later = later_on so.later keeps.later;
      sound = λ plain plainly. c.in-Pending.ensures.sound plain (so.sound plain plainly) (plain_told_often asked told g.met.H.ClientSessionHandle.moves plain so.told.0 c.args.handle.now c.polls.handle so.told.1 plainly);
      told = (so.told.0 + one_if did.0, did.2 ∙ ap (times (one_if did.0) told) so.told.1 ∙ times_on so.told.0 (one_if did.0) told c.args.handle.now);
      first = λ none. absurd (pends_sent (g.L.Link.awaited c.polls.link) (g.L.Link.awaited c.poll_in.new.link) (g.L.Link.log c.polls.link) (g.L.Link.log c.poll_in.new.link) (g.L.Link.wire c.polls.link) (asked c.polls.handle) did.0 (opens_of c.polls.state) (opens_of c.in-Pending.next) did.1 none);
      goes = open_goes_in (asked c.polls.handle) so.goes so.later.wire (λ none. ap asked (so.first none)) (so.sound false tt).sound did.0 did.1;
    }

-- ---- it is open, or fails, before the last poll

pub returns-in-Done-clause-keeps : goal.returns-in-Done-clause-keeps
returns-in-Done-clause-keeps g c =
    let link = c.args.link.now in
    let mid = c.polls.link in
    let later = c.poll_in.new.link in
    let so = c.polls.invariant in
    open_keeps (max c.args.polls 1) (c.polls._round - 1) (moment (g.L.Link.awaited link) (g.L.Link.log link) (g.L.Link.faults link) (g.L.Link.pends link) (g.L.Link.wire link) (g.L.Link.prompt link))
    (moment (g.L.Link.awaited mid) (g.L.Link.log mid) (g.L.Link.faults mid) (g.L.Link.pends mid) (g.L.Link.wire mid) (g.L.Link.prompt mid))
    (moment (g.L.Link.awaited later) (g.L.Link.log later) (g.L.Link.faults later) (g.L.Link.pends later) (g.L.Link.wire later) (g.L.Link.prompt later)) (λ (o : Opens). opening_ticket (opens_of o)) (opening_ticket (opens_of c.polls.state)) (step.Done c.in-Done.changes) (inr (tt, omega (arith, c.polls.auto._round, c.polls-test.true)))
    so.tickets so.pended so.later c.in-Done.ensures.keeps

pub returns-in-Done-clause-sound : goal.returns-in-Done-clause-sound
returns-in-Done-clause-sound g c = λ plain plainly. c.in-Done.ensures.sound plain (c.polls.invariant.sound plain plainly) (plain_told_often g.H.ClientSessionHandle.asked g.H.ClientSessionHandle.told g.met.H.ClientSessionHandle.moves plain c.polls.invariant.told.0 c.args.handle.now c.polls.handle c.polls.invariant.told.1 plainly)

pub returns-in-Done-clause-opens : goal.returns-in-Done-clause-opens
returns-in-Done-clause-opens g c =
    let so = c.polls.invariant in
    let did = c.in-Done.ensures.opens (so.sound false tt).first in
    call_opens (open_goes_in (g.H.ClientSessionHandle.asked c.polls.handle) so.goes so.later.wire (λ none. ap g.H.ClientSessionHandle.asked (so.first none)) (so.sound false tt).sound did.0 did.1)

pub returns-in-Done-clause-told : goal.returns-in-Done-clause-told
returns-in-Done-clause-told g c =
    let so = c.polls.invariant in
    let told = g.H.ClientSessionHandle.told in
    let did = c.in-Done.ensures.opens (so.sound false tt).first in
    (so.told.0 + one_if did.0, did.2 ∙ ap (times (one_if did.0) told) so.told.1 ∙ times_on so.told.0 (one_if did.0) told c.args.handle.now)

pub returns-in-Failed-clause-keeps : goal.returns-in-Failed-clause-keeps
returns-in-Failed-clause-keeps g c =
    let link = c.args.link.now in
    let mid = c.polls.link in
    let later = c.poll_in.new.link in
    let so = c.polls.invariant in
    open_keeps (max c.args.polls 1) (c.polls._round - 1) (moment (g.L.Link.awaited link) (g.L.Link.log link) (g.L.Link.faults link) (g.L.Link.pends link) (g.L.Link.wire link) (g.L.Link.prompt link))
    (moment (g.L.Link.awaited mid) (g.L.Link.log mid) (g.L.Link.faults mid) (g.L.Link.pends mid) (g.L.Link.wire mid) (g.L.Link.prompt mid))
    (moment (g.L.Link.awaited later) (g.L.Link.log later) (g.L.Link.faults later) (g.L.Link.pends later) (g.L.Link.wire later) (g.L.Link.prompt later)) (λ (o : Opens). opening_ticket (opens_of o)) (opening_ticket (opens_of c.polls.state)) (step.Failed c.in-Failed.error) (inr (tt, omega (arith, c.polls.auto._round, c.polls-test.true)))
    so.tickets so.pended so.later c.in-Failed.ensures.keeps

pub returns-in-Failed-clause-opens : goal.returns-in-Failed-clause-opens
returns-in-Failed-clause-opens g c =
    let so = c.polls.invariant in
    let did = c.in-Failed.ensures.opens (so.sound false tt).first in
    call_opens (open_goes_in (g.H.ClientSessionHandle.asked c.polls.handle) so.goes so.later.wire (λ none. ap g.H.ClientSessionHandle.asked (so.first none)) (so.sound false tt).sound did.0 did.1)

pub returns-in-Failed-clause-told : goal.returns-in-Failed-clause-told
returns-in-Failed-clause-told g c =
    let so = c.polls.invariant in
    let told = g.H.ClientSessionHandle.told in
    let did = c.in-Failed.ensures.opens (so.sound false tt).first in
    (so.told.0 + one_if did.0, did.2 ∙ ap (times (one_if did.0) told) so.told.1 ∙ times_on so.told.0 (one_if did.0) told c.args.handle.now)

-- ---- the last poll

pub returns-clause-keeps : goal.returns-clause-keeps
returns-clause-keeps g c =
    let link = c.args.link.now in
    let mid = c.polls.link in
    let later = c.poll_in-2.new.link in
    let so = c.polls.invariant in
    open_keeps (max c.args.polls 1) (c.polls._round - 1) (moment (g.L.Link.awaited link) (g.L.Link.log link) (g.L.Link.faults link) (g.L.Link.pends link) (g.L.Link.wire link) (g.L.Link.prompt link))
    (moment (g.L.Link.awaited mid) (g.L.Link.log mid) (g.L.Link.faults mid) (g.L.Link.pends mid) (g.L.Link.wire mid) (g.L.Link.prompt mid))
    (moment (g.L.Link.awaited later) (g.L.Link.log later) (g.L.Link.faults later) (g.L.Link.pends later) (g.L.Link.wire later) (g.L.Link.prompt later)) (λ (o : Opens). opening_ticket (opens_of o)) (opening_ticket (opens_of c.polls.state)) c.poll_in-2.result (inl (omega (arith, c.polls.auto._round, c.polls.invariant.upto, c.polls-test.false)))
    so.tickets so.pended so.later c.poll_in-2.ensures.keeps

pub returns-clause-sound : goal.returns-clause-sound
returns-clause-sound g c = λ plain plainly. c.poll_in-2.ensures.sound plain (c.polls.invariant.sound plain plainly) (plain_told_often g.H.ClientSessionHandle.asked g.H.ClientSessionHandle.told g.met.H.ClientSessionHandle.moves plain c.polls.invariant.told.0 c.args.handle.now c.polls.handle c.polls.invariant.told.1 plainly)

pub returns-clause-opens : goal.returns-clause-opens
returns-clause-opens g c =
    let so = c.polls.invariant in
    let did = c.poll_in-2.ensures.opens (so.sound false tt).first in
    call_opens (open_goes_in (g.H.ClientSessionHandle.asked c.polls.handle) so.goes so.later.wire (λ none. ap g.H.ClientSessionHandle.asked (so.first none)) (so.sound false tt).sound did.0 did.1)

pub returns-clause-told : goal.returns-clause-told
returns-clause-told g c =
    let so = c.polls.invariant in
    let told = g.H.ClientSessionHandle.told in
    let did = c.poll_in-2.ensures.opens (so.sound false tt).first in
    (so.told.0 + one_if did.0, did.2 ∙ ap (times (one_if did.0) told) so.told.1 ∙ times_on so.told.0 (one_if did.0) told c.args.handle.now)

pub returns-clause-owned : goal.returns-clause-owned
returns-clause-owned g c = c.poll_in-2.ensures.owned
