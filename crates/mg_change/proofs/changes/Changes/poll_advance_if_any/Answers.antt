use Rattle.std.proofs.Common.{◌≡◌, ◌+◌, ℤ, false, refl, sym, ap, ◌∙◌, subst}
use Rattle.mg_link.specs.Causes.{one_if}
use Rattle.mg_link.specs.Moment.{finished, moment}
use Rattle.mg_link.proofs.Moments.{keeps_on, keeps_same}
use Rattle.mg_cursor.specs.Seeking.{times}
use Rattle.mg_cursor.specs.declared.polls.TryPoll.{TryPoll}
use Rattle.mg_cursor.proofs.Sought.{asked_on, times_on}
use Rattle.mg_change.specs.ClientStreams.{is_renewed, lends_nothing, stream_ticket}
use Rattle.mg_change.specs.Steps.{DoesStep}
use Rattle.mg_change.specs.StreamCalls.{LendsBehind, try_ending, kept_behind}
use Rattle.mg_change.specs.StreamView.{changes_of}
use Rattle.mg_change.specs.declared.event_poll.Stepped.TheVariants as stepped
use Rattle.mg_change.proofs.CallCauses.{lends_caused}
use Rattle.mg_change.proofs.Calls.{lends_so, step_kept, went_last, went_none, went_on}
use Rattle.mg_change.proofs.Keeping.{found_stands, step_sound}
use Rattle.mg_change.proofs.Linking.{lent_keeps, lends_none, phase_follows, placed_counting}
use Rattle.mg_change.proofs.Sent.{lends_sent}
use Rattle.mg_change.proofs.changes.Changes.poll_advance_if_any.Goals as goal

pub steps-init : goal.steps-init
steps-init g c =
    let link = c.args.link.now in
    record {
      keeps = keeps_same (moment (g.L.Link.awaited link) (g.L.Link.log link) (g.L.Link.faults link) (g.L.Link.pends link) (g.L.Link.wire link) (g.L.Link.prompt link)) (stream_ticket (changes_of c.args.self.now)) finished c.requires.held refl tt tt;
      stream = lends_none false c.args.self.now c.requires.sound;
      given = refl;
      went = (0, refl, went_none (g.L.Link.awaited link) (g.L.Link.log link) (g.L.Link.wire link) (g.H.ClientSessionHandle.asked c.args.handle.now) (lends_nothing (changes_of c.args.self.now)));
    }

pub step-requires-clause-held : goal.step-requires-clause-held
step-requires-clause-held g c = c.steps.invariant.keeps.tickets.held

pub step-requires-clause-sound : goal.step-requires-clause-sound
step-requires-clause-sound g c = c.steps.invariant.stream

pub step-requires-clause-given : goal.step-requires-clause-given
step-requires-clause-given g c = c.steps.invariant.given

-- ---- a step behind which the call goes on

pub steps-preserved : goal.steps-preserved
steps-preserved g c =
    let link = c.args.link.now in
    let mid = c.steps.link in
    let later = c.step.new.link in
    let so = c.steps.invariant in
    let does = c.step.ensures.does in
    let asked = g.H.ClientSessionHandle.asked in
    let told = g.H.ClientSessionHandle.told in
    let m = moment (g.L.Link.awaited link) (g.L.Link.log link) (g.L.Link.faults link) (g.L.Link.pends link) (g.L.Link.wire link) (g.L.Link.prompt link) in
    let n = moment (g.L.Link.awaited mid) (g.L.Link.log mid) (g.L.Link.faults mid) (g.L.Link.pends mid) (g.L.Link.wire mid) (g.L.Link.prompt mid) in
    let o = moment (g.L.Link.awaited later) (g.L.Link.log later) (g.L.Link.faults later) (g.L.Link.pends later) (g.L.Link.wire later) (g.L.Link.prompt later) in
    let did = c.in-Goes.ensures.does in
    record {
      keeps = keeps_on m n o (stream_ticket (changes_of c.args.self.now)) (stream_ticket (changes_of c.steps.self)) (stream_ticket (changes_of c.step.new.self)) finished finished so.keeps so.keeps.pended c.in-Goes.ensures.keeps;
      stream = record {
        sound = step_sound false (g.L.Link.awaited mid) (g.L.Link.awaited later) (g.L.Link.log mid) (g.L.Link.log later) (g.L.Link.wire mid) (asked c.steps.handle) did.0 (changes_of c.steps.self) (changes_of c.step.new.self) stepped.Goes so.stream.sound tt did.1;
        placed = c.in-Goes.ensures.placed;
      };
      given = (step_kept (g.L.Link.awaited mid) (g.L.Link.awaited later) (g.L.Link.log mid) (g.L.Link.log later) (g.L.Link.wire mid) (asked c.steps.handle) did.0 (changes_of c.steps.self) (changes_of c.step.new.self) stepped.Goes did.1).current ∙ so.given;
      went = (
        so.went.0 + one_if did.0,
        did.2 ∙ ap (times (one_if did.0) told) so.went.1 ∙ times_on so.went.0 (one_if did.0) told c.args.handle.now,
        went_on (g.L.Link.awaited link) (g.L.Link.awaited mid) (g.L.Link.awaited later) (g.L.Link.log link) (g.L.Link.log mid) (g.L.Link.log later) (g.L.Link.wire link) (asked c.args.handle.now) (asked c.steps.handle) (asked c.step.new.handle) so.went.0 did.0
            (lends_nothing (changes_of c.args.self.now)) (changes_of c.steps.self) (changes_of c.step.new.self) (ap asked did.2 ∙ asked_on asked told g.met.H.ClientSessionHandle.moves did.0 c.steps.handle) so.went.2
            (subst (λ (w : ℤ). DoesStep (g.L.Link.awaited mid) (g.L.Link.awaited later) (g.L.Link.log mid) (g.L.Link.log later) w (asked c.steps.handle) did.0 (changes_of c.steps.self) (changes_of c.step.new.self) stepped.Goes) so.keeps.later.wire did.1),
      );
    }

pub steps-smaller : goal.steps-smaller
steps-smaller g c = c.in-Goes.ensures.falls

-- ---- an event is next

pub lend-poll-requires-clause-next : goal.lend-poll-requires-clause-next
lend-poll-requires-clause-next g c =
    (found_stands (g.L.Link.awaited c.steps.link) (g.L.Link.awaited c.step.new.link) (g.L.Link.log c.steps.link) (g.L.Link.log c.step.new.link) (g.L.Link.wire c.steps.link) (g.H.ClientSessionHandle.asked c.steps.handle) c.in-Found.ensures.does.0 (changes_of c.steps.self) (changes_of c.step.new.self) c.steps.invariant.stream.sound c.in-Found.ensures.does.1).some_left

pub lend-poll-requires-clause-rests : goal.lend-poll-requires-clause-rests
lend-poll-requires-clause-rests g c =
    (found_stands (g.L.Link.awaited c.steps.link) (g.L.Link.awaited c.step.new.link) (g.L.Link.log c.steps.link) (g.L.Link.log c.step.new.link) (g.L.Link.wire c.steps.link) (g.H.ClientSessionHandle.asked c.steps.handle) c.in-Found.ensures.does.0 (changes_of c.steps.self) (changes_of c.step.new.self) c.steps.invariant.stream.sound c.in-Found.ensures.does.1).at_event.quiet

pub lend-poll-requires-clause-follows : goal.lend-poll-requires-clause-follows
lend-poll-requires-clause-follows g c =
    phase_follows c.step.new.self.phase
    (found_stands (g.L.Link.awaited c.steps.link) (g.L.Link.awaited c.step.new.link) (g.L.Link.log c.steps.link) (g.L.Link.log c.step.new.link) (g.L.Link.wire c.steps.link) (g.H.ClientSessionHandle.asked c.steps.handle) c.in-Found.ensures.does.0 (changes_of c.steps.self) (changes_of c.step.new.self) c.steps.invariant.stream.sound c.in-Found.ensures.does.1).at_event.follows_on

pub lend-poll-requires-clause-placed : goal.lend-poll-requires-clause-placed
lend-poll-requires-clause-placed g c = c.in-Found.ensures.placed

pub returns-in-Found-clause-keeps : goal.returns-in-Found-clause-keeps
returns-in-Found-clause-keeps g c =
    let link = c.args.link.now in
    let mid = c.steps.link in
    let later = c.step.new.link in
    let so = c.steps.invariant in
    let does = c.step.ensures.does in
    let asked = g.H.ClientSessionHandle.asked in
    let told = g.H.ClientSessionHandle.told in
    let m = moment (g.L.Link.awaited link) (g.L.Link.log link) (g.L.Link.faults link) (g.L.Link.pends link) (g.L.Link.wire link) (g.L.Link.prompt link) in
    let n = moment (g.L.Link.awaited mid) (g.L.Link.log mid) (g.L.Link.faults mid) (g.L.Link.pends mid) (g.L.Link.wire mid) (g.L.Link.prompt mid) in
    let o = moment (g.L.Link.awaited later) (g.L.Link.log later) (g.L.Link.faults later) (g.L.Link.pends later) (g.L.Link.wire later) (g.L.Link.prompt later) in
    lent_keeps m o (stream_ticket (changes_of c.args.self.now)) (changes_of c.step.new.self) (changes_of c.lend-poll.new.self) (changes_of c.end.new.self) stepped.Found c.end.result
    (keeps_on m n o (stream_ticket (changes_of c.args.self.now)) (stream_ticket (changes_of c.steps.self)) (stream_ticket (changes_of c.step.new.self)) finished _ so.keeps so.keeps.pended c.in-Found.ensures.keeps)
    (subst (LendsBehind stepped.Found (changes_of c.step.new.self) (changes_of c.lend-poll.new.self)) (sym c.end.ensures.answer) c.lend-poll.ensures.lends) (subst (λ (x : TryPoll). changes_of c.end.new.self ≡ kept_behind (try_ending x) (changes_of c.lend-poll.new.self)) (sym c.end.ensures.answer) c.end.ensures.kept)

pub returns-in-Found-clause-does : goal.returns-in-Found-clause-does
returns-in-Found-clause-does g c =
    let link = c.args.link.now in
    let mid = c.steps.link in
    let later = c.step.new.link in
    let so = c.steps.invariant in
    let does = c.step.ensures.does in
    let asked = g.H.ClientSessionHandle.asked in
    let told = g.H.ClientSessionHandle.told in
    let m = moment (g.L.Link.awaited link) (g.L.Link.log link) (g.L.Link.faults link) (g.L.Link.pends link) (g.L.Link.wire link) (g.L.Link.prompt link) in
    let n = moment (g.L.Link.awaited mid) (g.L.Link.log mid) (g.L.Link.faults mid) (g.L.Link.pends mid) (g.L.Link.wire mid) (g.L.Link.prompt mid) in
    let o = moment (g.L.Link.awaited later) (g.L.Link.log later) (g.L.Link.faults later) (g.L.Link.pends later) (g.L.Link.wire later) (g.L.Link.prompt later) in
    let did = c.in-Found.ensures.does in
    let last = went_last (g.L.Link.awaited link) (g.L.Link.awaited mid) (g.L.Link.awaited later) (g.L.Link.log link) (g.L.Link.log mid) (g.L.Link.log later) (g.L.Link.wire link) (asked c.args.handle.now) (asked c.steps.handle) so.went.0 did.0 (lends_nothing (changes_of c.args.self.now)) (changes_of c.steps.self) (changes_of c.step.new.self) stepped.Found so.went.2
    (subst (λ (w : ℤ). DoesStep (g.L.Link.awaited mid) (g.L.Link.awaited later) (g.L.Link.log mid) (g.L.Link.log later) w (asked c.steps.handle) did.0 (changes_of c.steps.self) (changes_of c.step.new.self) stepped.Found) so.keeps.later.wire did.1) tt in (
      last.0,
      so.went.0 + one_if did.0,
      record {
        again = is_renewed (changes_of c.steps.self).doing;
        came = stepped.Found;
        left = changes_of c.step.new.self;
        does = last.1;
        lent = changes_of c.lend-poll.new.self;
        lends = subst (LendsBehind stepped.Found (changes_of c.step.new.self) (changes_of c.lend-poll.new.self)) (sym c.end.ensures.answer) c.lend-poll.ensures.lends;
        kept = subst (λ (x : TryPoll). changes_of c.end.new.self ≡ kept_behind (try_ending x) (changes_of c.lend-poll.new.self)) (sym c.end.ensures.answer) c.end.ensures.kept;
      },
      did.2 ∙ ap (times (one_if did.0) told) so.went.1 ∙ times_on so.went.0 (one_if did.0) told c.args.handle.now,
    )

pub returns-in-Found-clause-sound : goal.returns-in-Found-clause-sound
returns-in-Found-clause-sound g c = λ plain sound plainly.
    let d = returns-in-Found-clause-does g c in
    record {
      sound = (lends_so d.0 plain (g.L.Link.awaited c.args.link.now) (g.L.Link.awaited c.step.new.link) (g.L.Link.log c.args.link.now) (g.L.Link.log c.step.new.link) (g.L.Link.wire c.args.link.now) (g.H.ClientSessionHandle.asked c.args.handle.now) d.1 (changes_of c.args.self.now) (changes_of c.end.new.self) c.end.result sound.sound plainly d.2).sound;
      placed = placed_counting c.lend-poll.new.self c.end.new.self c.end.ensures.rest c.lend-poll.ensures.placed;
    }

pub returns-in-Found-clause-leaves : goal.returns-in-Found-clause-leaves
returns-in-Found-clause-leaves g c =
    let d = returns-in-Found-clause-does g c in
    (lends_so d.0 false (g.L.Link.awaited c.args.link.now) (g.L.Link.awaited c.step.new.link) (g.L.Link.log c.args.link.now) (g.L.Link.log c.step.new.link) (g.L.Link.wire c.args.link.now) (g.H.ClientSessionHandle.asked c.args.handle.now) d.1 (changes_of c.args.self.now) (changes_of c.end.new.self) c.end.result c.requires.sound.sound tt d.2).leaves

pub returns-in-Found-clause-moved : goal.returns-in-Found-clause-moved
returns-in-Found-clause-moved g c =
    let d = returns-in-Found-clause-does g c in
    (lends_so d.0 false (g.L.Link.awaited c.args.link.now) (g.L.Link.awaited c.step.new.link) (g.L.Link.log c.args.link.now) (g.L.Link.log c.step.new.link) (g.L.Link.wire c.args.link.now) (g.H.ClientSessionHandle.asked c.args.handle.now) d.1 (changes_of c.args.self.now) (changes_of c.end.new.self) c.end.result c.requires.sound.sound tt d.2).moves

pub returns-in-Found-clause-sent : goal.returns-in-Found-clause-sent
returns-in-Found-clause-sent g c =
    let d = returns-in-Found-clause-does g c in
    lends_sent d.0 false (g.L.Link.awaited c.args.link.now) (g.L.Link.awaited c.step.new.link) (g.L.Link.log c.args.link.now) (g.L.Link.log c.step.new.link) (g.L.Link.wire c.args.link.now) (g.H.ClientSessionHandle.asked c.args.handle.now) d.1 (changes_of c.args.self.now) (changes_of c.end.new.self) c.end.result c.requires.sound.sound d.2

pub returns-in-Found-clause-caused : goal.returns-in-Found-clause-caused
returns-in-Found-clause-caused g c =
    let d = returns-in-Found-clause-does g c in
    lends_caused d.0 false (g.L.Link.awaited c.args.link.now) (g.L.Link.awaited c.step.new.link) (g.L.Link.log c.args.link.now) (g.L.Link.log c.step.new.link) (g.L.Link.wire c.args.link.now) (g.H.ClientSessionHandle.asked c.args.handle.now) d.1 (changes_of c.args.self.now) (changes_of c.end.new.self) c.end.result c.requires.sound.sound d.2

pub returns-in-Gives-clause-keeps : goal.returns-in-Gives-clause-keeps
returns-in-Gives-clause-keeps g c =
    let link = c.args.link.now in
    let mid = c.steps.link in
    let later = c.step.new.link in
    let so = c.steps.invariant in
    let does = c.step.ensures.does in
    let asked = g.H.ClientSessionHandle.asked in
    let told = g.H.ClientSessionHandle.told in
    let m = moment (g.L.Link.awaited link) (g.L.Link.log link) (g.L.Link.faults link) (g.L.Link.pends link) (g.L.Link.wire link) (g.L.Link.prompt link) in
    let n = moment (g.L.Link.awaited mid) (g.L.Link.log mid) (g.L.Link.faults mid) (g.L.Link.pends mid) (g.L.Link.wire mid) (g.L.Link.prompt mid) in
    let o = moment (g.L.Link.awaited later) (g.L.Link.log later) (g.L.Link.faults later) (g.L.Link.pends later) (g.L.Link.wire later) (g.L.Link.prompt later) in
    lent_keeps m o (stream_ticket (changes_of c.args.self.now)) (changes_of c.step.new.self) (changes_of c.step.new.self) (changes_of c.end-in-Gives.new.self) (stepped.Gives c.in-Gives.poll) c.end-in-Gives.result
    (keeps_on m n o (stream_ticket (changes_of c.args.self.now)) (stream_ticket (changes_of c.steps.self)) (stream_ticket (changes_of c.step.new.self)) finished _ so.keeps so.keeps.pended c.in-Gives.ensures.keeps)
    ((refl, c.end-in-Gives.ensures.answer)) (subst (λ (x : TryPoll). changes_of c.end-in-Gives.new.self ≡ kept_behind (try_ending x) (changes_of c.step.new.self)) (sym c.end-in-Gives.ensures.answer) c.end-in-Gives.ensures.kept)

pub returns-in-Gives-clause-does : goal.returns-in-Gives-clause-does
returns-in-Gives-clause-does g c =
    let link = c.args.link.now in
    let mid = c.steps.link in
    let later = c.step.new.link in
    let so = c.steps.invariant in
    let does = c.step.ensures.does in
    let asked = g.H.ClientSessionHandle.asked in
    let told = g.H.ClientSessionHandle.told in
    let m = moment (g.L.Link.awaited link) (g.L.Link.log link) (g.L.Link.faults link) (g.L.Link.pends link) (g.L.Link.wire link) (g.L.Link.prompt link) in
    let n = moment (g.L.Link.awaited mid) (g.L.Link.log mid) (g.L.Link.faults mid) (g.L.Link.pends mid) (g.L.Link.wire mid) (g.L.Link.prompt mid) in
    let o = moment (g.L.Link.awaited later) (g.L.Link.log later) (g.L.Link.faults later) (g.L.Link.pends later) (g.L.Link.wire later) (g.L.Link.prompt later) in
    let did = c.in-Gives.ensures.does in
    let last = went_last (g.L.Link.awaited link) (g.L.Link.awaited mid) (g.L.Link.awaited later) (g.L.Link.log link) (g.L.Link.log mid) (g.L.Link.log later) (g.L.Link.wire link) (asked c.args.handle.now) (asked c.steps.handle) so.went.0 did.0 (lends_nothing (changes_of c.args.self.now)) (changes_of c.steps.self) (changes_of c.step.new.self) (stepped.Gives c.in-Gives.poll) so.went.2
    (subst (λ (w : ℤ). DoesStep (g.L.Link.awaited mid) (g.L.Link.awaited later) (g.L.Link.log mid) (g.L.Link.log later) w (asked c.steps.handle) did.0 (changes_of c.steps.self) (changes_of c.step.new.self) (stepped.Gives c.in-Gives.poll)) so.keeps.later.wire did.1) tt in (
      last.0,
      so.went.0 + one_if did.0,
      record {
        again = is_renewed (changes_of c.steps.self).doing;
        came = (stepped.Gives c.in-Gives.poll);
        left = changes_of c.step.new.self;
        does = last.1;
        lent = changes_of c.step.new.self;
        lends = (refl, c.end-in-Gives.ensures.answer);
        kept = subst (λ (x : TryPoll). changes_of c.end-in-Gives.new.self ≡ kept_behind (try_ending x) (changes_of c.step.new.self)) (sym c.end-in-Gives.ensures.answer) c.end-in-Gives.ensures.kept;
      },
      did.2 ∙ ap (times (one_if did.0) told) so.went.1 ∙ times_on so.went.0 (one_if did.0) told c.args.handle.now,
    )

pub returns-in-Gives-clause-sound : goal.returns-in-Gives-clause-sound
returns-in-Gives-clause-sound g c = λ plain sound plainly.
    let d = returns-in-Gives-clause-does g c in
    record {
      sound = (lends_so d.0 plain (g.L.Link.awaited c.args.link.now) (g.L.Link.awaited c.step.new.link) (g.L.Link.log c.args.link.now) (g.L.Link.log c.step.new.link) (g.L.Link.wire c.args.link.now) (g.H.ClientSessionHandle.asked c.args.handle.now) d.1 (changes_of c.args.self.now) (changes_of c.end-in-Gives.new.self) c.end-in-Gives.result sound.sound plainly d.2).sound;
      placed = placed_counting c.step.new.self c.end-in-Gives.new.self c.end-in-Gives.ensures.rest c.in-Gives.ensures.placed;
    }

pub returns-in-Gives-clause-leaves : goal.returns-in-Gives-clause-leaves
returns-in-Gives-clause-leaves g c =
    let d = returns-in-Gives-clause-does g c in
    (lends_so d.0 false (g.L.Link.awaited c.args.link.now) (g.L.Link.awaited c.step.new.link) (g.L.Link.log c.args.link.now) (g.L.Link.log c.step.new.link) (g.L.Link.wire c.args.link.now) (g.H.ClientSessionHandle.asked c.args.handle.now) d.1 (changes_of c.args.self.now) (changes_of c.end-in-Gives.new.self) c.end-in-Gives.result c.requires.sound.sound tt d.2).leaves

pub returns-in-Gives-clause-moved : goal.returns-in-Gives-clause-moved
returns-in-Gives-clause-moved g c =
    let d = returns-in-Gives-clause-does g c in
    (lends_so d.0 false (g.L.Link.awaited c.args.link.now) (g.L.Link.awaited c.step.new.link) (g.L.Link.log c.args.link.now) (g.L.Link.log c.step.new.link) (g.L.Link.wire c.args.link.now) (g.H.ClientSessionHandle.asked c.args.handle.now) d.1 (changes_of c.args.self.now) (changes_of c.end-in-Gives.new.self) c.end-in-Gives.result c.requires.sound.sound tt d.2).moves

pub returns-in-Gives-clause-sent : goal.returns-in-Gives-clause-sent
returns-in-Gives-clause-sent g c =
    let d = returns-in-Gives-clause-does g c in
    lends_sent d.0 false (g.L.Link.awaited c.args.link.now) (g.L.Link.awaited c.step.new.link) (g.L.Link.log c.args.link.now) (g.L.Link.log c.step.new.link) (g.L.Link.wire c.args.link.now) (g.H.ClientSessionHandle.asked c.args.handle.now) d.1 (changes_of c.args.self.now) (changes_of c.end-in-Gives.new.self) c.end-in-Gives.result c.requires.sound.sound d.2

pub returns-in-Gives-clause-caused : goal.returns-in-Gives-clause-caused
returns-in-Gives-clause-caused g c =
    let d = returns-in-Gives-clause-does g c in
    lends_caused d.0 false (g.L.Link.awaited c.args.link.now) (g.L.Link.awaited c.step.new.link) (g.L.Link.log c.args.link.now) (g.L.Link.log c.step.new.link) (g.L.Link.wire c.args.link.now) (g.H.ClientSessionHandle.asked c.args.handle.now) d.1 (changes_of c.args.self.now) (changes_of c.end-in-Gives.new.self) c.end-in-Gives.result c.requires.sound.sound d.2
