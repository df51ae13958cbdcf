use Rattle.std.proofs.Common.{◌≡◌, ◌+◌, ℤ, Bool, false, refl, sym, ap, ◌∙◌, subst}
use Rattle.mg_link.specs.Causes.{one_if}
use Rattle.mg_link.specs.Moment.{finished, moment}
use Rattle.mg_link.proofs.Moments.{keeps_on, keeps_same}
use Rattle.mg_cursor.specs.Client.{rests}
use Rattle.mg_cursor.specs.Seeking.{times}
use Rattle.mg_cursor.proofs.Sought.{asked_on, times_on}
use Rattle.mg_change.specs.ClientStreams.{ClientStream, is_renewed, lends_nothing, stream_ticket}
use Rattle.mg_change.specs.Steps.{DoesStep}
use Rattle.mg_change.specs.StreamCalls.{EndsBehind, EndsSeeking, MayEnd, event_ending, kept_behind, stepped_ending}
use Rattle.mg_change.specs.StreamView.{IsOwnPlace, changes_of}
use Rattle.mg_change.specs.declared.changes.Changes.{Changes}
use Rattle.mg_change.specs.declared.event_poll.EventPoll.{EventPoll}
use Rattle.mg_change.specs.declared.event_poll.Stepped.{Stepped}
use Rattle.mg_change.proofs.Calls.{StepLeaves, part_begins, part_over, seeks_so, step_kept, step_leaves}
use Rattle.mg_change.proofs.Keeping.{step_sound}
use Rattle.mg_change.proofs.Linking.{lends_none, phase_follows, placed_counting, sought_keeps}
use Rattle.mg_change.proofs.SeekCauses.{seeks_caused}
use Rattle.mg_change.proofs.Seeks.{GoesOn, Stops, ends_by, goes_on_by, last_by, link_by, may_end, part_by, smaller_by, sound_by, stops_by}
use Rattle.mg_change.proofs.Sent.{seeks_sent}
use Rattle.mg_change.proofs.changes.Changes.poll_next.Goals as goal

pub steps-init : goal.steps-init
steps-init g c =
    let link = c.args.link.now in
    record {
      keeps = keeps_same (moment (g.L.Link.awaited link) (g.L.Link.log link) (g.L.Link.faults link) (g.L.Link.pends link) (g.L.Link.wire link) (g.L.Link.prompt link)) (stream_ticket (changes_of c.args.self.now)) finished c.requires.held refl tt tt;
      stream = lends_none false c.args.self.now c.requires.sound;
      given = refl;
      owned = λ own. own;
      went = (0, refl, part_begins (g.L.Link.awaited link) (g.L.Link.log link) (g.L.Link.wire link) (g.H.ClientSessionHandle.asked c.args.handle.now) (lends_nothing (changes_of c.args.self.now)));
    }

pub step-stepped-requires-clause-held : goal.step-stepped-requires-clause-held
step-stepped-requires-clause-held g c = c.steps.invariant.keeps.tickets.held

pub step-stepped-requires-clause-sound : goal.step-stepped-requires-clause-sound
step-stepped-requires-clause-sound g c = c.steps.invariant.stream

pub step-stepped-requires-clause-given : goal.step-stepped-requires-clause-given
step-stepped-requires-clause-given g c = c.steps.invariant.given

-- ---- it goes on

pub steps-preserved : goal.steps-preserved
steps-preserved g c =
    let link = c.args.link.now in
    let mid = c.steps.link in
    let later = c.step-stepped.new.link in
    let so = c.steps.invariant in
    let did = c.step-stepped.ensures.does in
    let asked = g.H.ClientSessionHandle.asked in
    let told = g.H.ClientSessionHandle.told in
    let before = changes_of c.steps.self in
    let left = changes_of c.step-stepped.new.self in
    let now = changes_of c.seeks_on.new.self in
    let came = c.step-stepped.result in
    let m = moment (g.L.Link.awaited link) (g.L.Link.log link) (g.L.Link.faults link) (g.L.Link.pends link) (g.L.Link.wire link) (g.L.Link.prompt link) in
    let n = moment (g.L.Link.awaited mid) (g.L.Link.log mid) (g.L.Link.faults mid) (g.L.Link.pends mid) (g.L.Link.wire mid) (g.L.Link.prompt mid) in
    let o = moment (g.L.Link.awaited later) (g.L.Link.log later) (g.L.Link.faults later) (g.L.Link.pends later) (g.L.Link.wire later) (g.L.Link.prompt later) in
    let here = subst (λ (b : Bool). GoesOn b came left now) c.is_renewed-again.ensures (goes_on_by c.is_renewed-again.result came left now c.seeks_on.result c.if-not-seeks_on.false c.seeks_on.ensures.seeks) in
    let sound = step_sound false (g.L.Link.awaited mid) (g.L.Link.awaited later) (g.L.Link.log mid) (g.L.Link.log later) (g.L.Link.wire mid) (asked c.steps.handle) did.0 before left came so.stream.sound tt did.1 in
    record {
      keeps = keeps_on m n o (stream_ticket (changes_of c.args.self.now)) (stream_ticket before) (stream_ticket now) finished finished so.keeps so.keeps.pended (link_by n o (stream_ticket before) (is_renewed before.doing) came left now here c.step-stepped.ensures.keeps);
      stream = record {
        sound = sound_by (is_renewed before.doing) came left now here sound;
        placed = placed_counting c.step-stepped.new.self c.seeks_on.new.self c.seeks_on.ensures.rest c.step-stepped.ensures.placed;
      };
      given = ap (λ (s : Changes). (changes_of s).current) c.seeks_on.ensures.rest ∙ (step_kept (g.L.Link.awaited mid) (g.L.Link.awaited later) (g.L.Link.log mid) (g.L.Link.log later) (g.L.Link.wire mid) (asked c.steps.handle) did.0 before left came did.1).current ∙ so.given;
      owned = λ own. subst IsOwnPlace (sym (ap (λ (s : Changes). s.token) c.seeks_on.ensures.rest)) (c.step-stepped.ensures.owned (so.owned own));
      went = (
        so.went.0 + one_if did.0,
        did.2 ∙ ap (times (one_if did.0) told) so.went.1 ∙ times_on so.went.0 (one_if did.0) told c.args.handle.now,
        part_by (g.L.Link.awaited link) (g.L.Link.awaited mid) (g.L.Link.awaited later) (g.L.Link.log link) (g.L.Link.log mid) (g.L.Link.log later) (g.L.Link.wire link) (asked c.args.handle.now) (asked c.steps.handle) (asked c.step-stepped.new.handle) so.went.0 did.0 (lends_nothing (changes_of c.args.self.now)) before (ap asked did.2 ∙ asked_on asked told g.met.H.ClientSessionHandle.moves did.0 c.steps.handle) so.went.2 left now came
            (subst (λ (w : ℤ). DoesStep (g.L.Link.awaited mid) (g.L.Link.awaited later) (g.L.Link.log mid) (g.L.Link.log later) w (asked c.steps.handle) did.0 before left came) so.keeps.later.wire did.1) here,
      );
    }

-- the same, where a failure or an answer is let go
pub steps-preserved-else-not-seeks_on-2 : goal.steps-preserved-else-not-seeks_on-2
steps-preserved-else-not-seeks_on-2 g c =
    let link = c.args.link.now in
    let mid = c.steps.link in
    let later = c.step-stepped.new.link in
    let so = c.steps.invariant in
    let did = c.step-stepped.ensures.does in
    let asked = g.H.ClientSessionHandle.asked in
    let told = g.H.ClientSessionHandle.told in
    let before = changes_of c.steps.self in
    let left = changes_of c.step-stepped.new.self in
    let now = changes_of c.seeks_on.new.self in
    let came = c.step-stepped.result in
    let m = moment (g.L.Link.awaited link) (g.L.Link.log link) (g.L.Link.faults link) (g.L.Link.pends link) (g.L.Link.wire link) (g.L.Link.prompt link) in
    let n = moment (g.L.Link.awaited mid) (g.L.Link.log mid) (g.L.Link.faults mid) (g.L.Link.pends mid) (g.L.Link.wire mid) (g.L.Link.prompt mid) in
    let o = moment (g.L.Link.awaited later) (g.L.Link.log later) (g.L.Link.faults later) (g.L.Link.pends later) (g.L.Link.wire later) (g.L.Link.prompt later) in
    let here = subst (λ (b : Bool). GoesOn b came left now) c.is_renewed-again.ensures (goes_on_by c.is_renewed-again.result came left now c.seeks_on.result c.if-not-seeks_on.false c.seeks_on.ensures.seeks) in
    let sound = step_sound false (g.L.Link.awaited mid) (g.L.Link.awaited later) (g.L.Link.log mid) (g.L.Link.log later) (g.L.Link.wire mid) (asked c.steps.handle) did.0 before left came so.stream.sound tt did.1 in
    record {
      keeps = keeps_on m n o (stream_ticket (changes_of c.args.self.now)) (stream_ticket before) (stream_ticket now) finished finished so.keeps so.keeps.pended (link_by n o (stream_ticket before) (is_renewed before.doing) came left now here c.step-stepped.ensures.keeps);
      stream = record {
        sound = sound_by (is_renewed before.doing) came left now here sound;
        placed = placed_counting c.step-stepped.new.self c.seeks_on.new.self c.seeks_on.ensures.rest c.step-stepped.ensures.placed;
      };
      given = ap (λ (s : Changes). (changes_of s).current) c.seeks_on.ensures.rest ∙ (step_kept (g.L.Link.awaited mid) (g.L.Link.awaited later) (g.L.Link.log mid) (g.L.Link.log later) (g.L.Link.wire mid) (asked c.steps.handle) did.0 before left came did.1).current ∙ so.given;
      owned = λ own. subst IsOwnPlace (sym (ap (λ (s : Changes). s.token) c.seeks_on.ensures.rest)) (c.step-stepped.ensures.owned (so.owned own));
      went = (
        so.went.0 + one_if did.0,
        did.2 ∙ ap (times (one_if did.0) told) so.went.1 ∙ times_on so.went.0 (one_if did.0) told c.args.handle.now,
        part_by (g.L.Link.awaited link) (g.L.Link.awaited mid) (g.L.Link.awaited later) (g.L.Link.log link) (g.L.Link.log mid) (g.L.Link.log later) (g.L.Link.wire link) (asked c.args.handle.now) (asked c.steps.handle) (asked c.step-stepped.new.handle) so.went.0 did.0 (lends_nothing (changes_of c.args.self.now)) before (ap asked did.2 ∙ asked_on asked told g.met.H.ClientSessionHandle.moves did.0 c.steps.handle) so.went.2 left now came
            (subst (λ (w : ℤ). DoesStep (g.L.Link.awaited mid) (g.L.Link.awaited later) (g.L.Link.log mid) (g.L.Link.log later) w (asked c.steps.handle) did.0 before left came) so.keeps.later.wire did.1) here,
      );
    }

pub steps-smaller : goal.steps-smaller
steps-smaller g c =
    let mid = c.steps.link in
    let later = c.step-stepped.new.link in
    let did = c.step-stepped.ensures.does in
    let before = changes_of c.steps.self in
    let left = changes_of c.step-stepped.new.self in
    let now = changes_of c.seeks_on.new.self in
    let came = c.step-stepped.result in
    let here = subst (λ (b : Bool). GoesOn b came left now) c.is_renewed-again.ensures (goes_on_by c.is_renewed-again.result came left now c.seeks_on.result c.if-not-seeks_on.false c.seeks_on.ensures.seeks) in
    smaller_by (is_renewed before.doing) came before left now
    (step_kept (g.L.Link.awaited mid) (g.L.Link.awaited later) (g.L.Link.log mid) (g.L.Link.log later) (g.L.Link.wire mid) (g.H.ClientSessionHandle.asked c.steps.handle) did.0 before left came did.1).counts c.step-stepped.ensures.falls here

-- ---- it ends

pub end_seeking-poll-requires-clause-last : goal.end_seeking-poll-requires-clause-last
end_seeking-poll-requires-clause-last g c =
    let link = c.args.link.now in
    let mid = c.steps.link in
    let later = c.step-stepped.new.link in
    let so = c.steps.invariant in
    let did = c.step-stepped.ensures.does in
    let asked = g.H.ClientSessionHandle.asked in
    let told = g.H.ClientSessionHandle.told in
    let before = changes_of c.steps.self in
    let left = changes_of c.step-stepped.new.self in
    let now = changes_of c.seeks_on.new.self in
    let came = c.step-stepped.result in
    let m = moment (g.L.Link.awaited link) (g.L.Link.log link) (g.L.Link.faults link) (g.L.Link.pends link) (g.L.Link.wire link) (g.L.Link.prompt link) in
    let n = moment (g.L.Link.awaited mid) (g.L.Link.log mid) (g.L.Link.faults mid) (g.L.Link.pends mid) (g.L.Link.wire mid) (g.L.Link.prompt mid) in
    let o = moment (g.L.Link.awaited later) (g.L.Link.log later) (g.L.Link.faults later) (g.L.Link.pends later) (g.L.Link.wire later) (g.L.Link.prompt later) in
    let stop = subst (λ (b : Bool). (now ≡ left) × Stops b came left) c.is_renewed-again.ensures (stops_by c.is_renewed-again.result came left now c.seeks_on.result c.if-not-seeks_on.true c.seeks_on.ensures.seeks) in
    let leaves = step_leaves (g.L.Link.awaited mid) (g.L.Link.awaited later) (g.L.Link.log mid) (g.L.Link.log later) (g.L.Link.wire mid) (asked c.steps.handle) did.0 before left came so.stream.sound did.1 in
    subst (MayEnd came) (sym stop.0) (may_end (is_renewed before.doing) came left stop.1 leaves)

pub end_seeking-poll-requires-clause-rests : goal.end_seeking-poll-requires-clause-rests
end_seeking-poll-requires-clause-rests g c = λ found.
    let link = c.args.link.now in
    let mid = c.steps.link in
    let later = c.step-stepped.new.link in
    let so = c.steps.invariant in
    let did = c.step-stepped.ensures.does in
    let asked = g.H.ClientSessionHandle.asked in
    let told = g.H.ClientSessionHandle.told in
    let before = changes_of c.steps.self in
    let left = changes_of c.step-stepped.new.self in
    let now = changes_of c.seeks_on.new.self in
    let came = c.step-stepped.result in
    let m = moment (g.L.Link.awaited link) (g.L.Link.log link) (g.L.Link.faults link) (g.L.Link.pends link) (g.L.Link.wire link) (g.L.Link.prompt link) in
    let n = moment (g.L.Link.awaited mid) (g.L.Link.log mid) (g.L.Link.faults mid) (g.L.Link.pends mid) (g.L.Link.wire mid) (g.L.Link.prompt mid) in
    let o = moment (g.L.Link.awaited later) (g.L.Link.log later) (g.L.Link.faults later) (g.L.Link.pends later) (g.L.Link.wire later) (g.L.Link.prompt later) in
    let stop = subst (λ (b : Bool). (now ≡ left) × Stops b came left) c.is_renewed-again.ensures (stops_by c.is_renewed-again.result came left now c.seeks_on.result c.if-not-seeks_on.true c.seeks_on.ensures.seeks) in
    let leaves = step_leaves (g.L.Link.awaited mid) (g.L.Link.awaited later) (g.L.Link.log mid) (g.L.Link.log later) (g.L.Link.wire mid) (asked c.steps.handle) did.0 before left came so.stream.sound did.1 in
    subst (λ (s : ClientStream). s.cursor.doing ≡ rests) (sym stop.0) (subst (λ (x : Stepped). StepLeaves x left) found leaves).at_event.quiet

pub end_seeking-poll-requires-clause-follows : goal.end_seeking-poll-requires-clause-follows
end_seeking-poll-requires-clause-follows g c = λ found.
    let link = c.args.link.now in
    let mid = c.steps.link in
    let later = c.step-stepped.new.link in
    let so = c.steps.invariant in
    let did = c.step-stepped.ensures.does in
    let asked = g.H.ClientSessionHandle.asked in
    let told = g.H.ClientSessionHandle.told in
    let before = changes_of c.steps.self in
    let left = changes_of c.step-stepped.new.self in
    let now = changes_of c.seeks_on.new.self in
    let came = c.step-stepped.result in
    let m = moment (g.L.Link.awaited link) (g.L.Link.log link) (g.L.Link.faults link) (g.L.Link.pends link) (g.L.Link.wire link) (g.L.Link.prompt link) in
    let n = moment (g.L.Link.awaited mid) (g.L.Link.log mid) (g.L.Link.faults mid) (g.L.Link.pends mid) (g.L.Link.wire mid) (g.L.Link.prompt mid) in
    let o = moment (g.L.Link.awaited later) (g.L.Link.log later) (g.L.Link.faults later) (g.L.Link.pends later) (g.L.Link.wire later) (g.L.Link.prompt later) in
    let stop = subst (λ (b : Bool). (now ≡ left) × Stops b came left) c.is_renewed-again.ensures (stops_by c.is_renewed-again.result came left now c.seeks_on.result c.if-not-seeks_on.true c.seeks_on.ensures.seeks) in
    let leaves = step_leaves (g.L.Link.awaited mid) (g.L.Link.awaited later) (g.L.Link.log mid) (g.L.Link.log later) (g.L.Link.wire mid) (asked c.steps.handle) did.0 before left came so.stream.sound did.1 in
    phase_follows c.seeks_on.new.self.phase (ap (λ (s : ClientStream). s.doing) stop.0 ∙ (subst (λ (x : Stepped). StepLeaves x left) found leaves).at_event.follows_on)

pub end_seeking-poll-requires-clause-placed : goal.end_seeking-poll-requires-clause-placed
end_seeking-poll-requires-clause-placed g c = placed_counting c.step-stepped.new.self c.seeks_on.new.self c.seeks_on.ensures.rest c.step-stepped.ensures.placed

pub returns-then-not-seeks_on-clause-keeps : goal.returns-then-not-seeks_on-clause-keeps
returns-then-not-seeks_on-clause-keeps g c =
    let link = c.args.link.now in
    let mid = c.steps.link in
    let later = c.step-stepped.new.link in
    let so = c.steps.invariant in
    let did = c.step-stepped.ensures.does in
    let asked = g.H.ClientSessionHandle.asked in
    let told = g.H.ClientSessionHandle.told in
    let before = changes_of c.steps.self in
    let left = changes_of c.step-stepped.new.self in
    let now = changes_of c.seeks_on.new.self in
    let came = c.step-stepped.result in
    let m = moment (g.L.Link.awaited link) (g.L.Link.log link) (g.L.Link.faults link) (g.L.Link.pends link) (g.L.Link.wire link) (g.L.Link.prompt link) in
    let n = moment (g.L.Link.awaited mid) (g.L.Link.log mid) (g.L.Link.faults mid) (g.L.Link.pends mid) (g.L.Link.wire mid) (g.L.Link.prompt mid) in
    let o = moment (g.L.Link.awaited later) (g.L.Link.log later) (g.L.Link.faults later) (g.L.Link.pends later) (g.L.Link.wire later) (g.L.Link.prompt later) in
    let stop = subst (λ (b : Bool). (now ≡ left) × Stops b came left) c.is_renewed-again.ensures (stops_by c.is_renewed-again.result came left now c.seeks_on.result c.if-not-seeks_on.true c.seeks_on.ensures.seeks) in
    let leaves = step_leaves (g.L.Link.awaited mid) (g.L.Link.awaited later) (g.L.Link.log mid) (g.L.Link.log later) (g.L.Link.wire mid) (asked c.steps.handle) did.0 before left came so.stream.sound did.1 in
    let poll_is = c.end_call.ensures.answer in
    let ended = changes_of c.end_seeking-poll.new.self in
    let ends_so = ends_by (is_renewed before.doing) came left ended c.end_seeking-poll.result stop.1 leaves (subst (λ (x : ClientStream). EndsBehind came x ended c.end_seeking-poll.result) stop.0 c.end_seeking-poll.ensures.ends) in
    let ends_here = subst (EndsSeeking (is_renewed before.doing) came left ended) (sym poll_is) ends_so in
    let kept = subst (λ (x : EventPoll). changes_of c.end_call.new.self ≡ kept_behind (event_ending x) ended) (sym poll_is) c.end_call.ensures.kept in
    sought_keeps m o (stream_ticket (changes_of c.args.self.now)) (is_renewed before.doing) left ended (changes_of c.end_call.new.self) came c.end_call.result
    (keeps_on m n o (stream_ticket (changes_of c.args.self.now)) (stream_ticket before) (stream_ticket left) finished (stepped_ending came) so.keeps so.keeps.pended c.step-stepped.ensures.keeps) ends_here kept

pub returns-then-not-seeks_on-clause-does : goal.returns-then-not-seeks_on-clause-does
returns-then-not-seeks_on-clause-does g c =
    let link = c.args.link.now in
    let mid = c.steps.link in
    let later = c.step-stepped.new.link in
    let so = c.steps.invariant in
    let did = c.step-stepped.ensures.does in
    let asked = g.H.ClientSessionHandle.asked in
    let told = g.H.ClientSessionHandle.told in
    let before = changes_of c.steps.self in
    let left = changes_of c.step-stepped.new.self in
    let now = changes_of c.seeks_on.new.self in
    let came = c.step-stepped.result in
    let m = moment (g.L.Link.awaited link) (g.L.Link.log link) (g.L.Link.faults link) (g.L.Link.pends link) (g.L.Link.wire link) (g.L.Link.prompt link) in
    let n = moment (g.L.Link.awaited mid) (g.L.Link.log mid) (g.L.Link.faults mid) (g.L.Link.pends mid) (g.L.Link.wire mid) (g.L.Link.prompt mid) in
    let o = moment (g.L.Link.awaited later) (g.L.Link.log later) (g.L.Link.faults later) (g.L.Link.pends later) (g.L.Link.wire later) (g.L.Link.prompt later) in
    let stop = subst (λ (b : Bool). (now ≡ left) × Stops b came left) c.is_renewed-again.ensures (stops_by c.is_renewed-again.result came left now c.seeks_on.result c.if-not-seeks_on.true c.seeks_on.ensures.seeks) in
    let leaves = step_leaves (g.L.Link.awaited mid) (g.L.Link.awaited later) (g.L.Link.log mid) (g.L.Link.log later) (g.L.Link.wire mid) (asked c.steps.handle) did.0 before left came so.stream.sound did.1 in
    let poll_is = c.end_call.ensures.answer in
    let ended = changes_of c.end_seeking-poll.new.self in
    let ends_so = ends_by (is_renewed before.doing) came left ended c.end_seeking-poll.result stop.1 leaves (subst (λ (x : ClientStream). EndsBehind came x ended c.end_seeking-poll.result) stop.0 c.end_seeking-poll.ensures.ends) in
    let ends_here = subst (EndsSeeking (is_renewed before.doing) came left ended) (sym poll_is) ends_so in
    let kept = subst (λ (x : EventPoll). changes_of c.end_call.new.self ≡ kept_behind (event_ending x) ended) (sym poll_is) c.end_call.ensures.kept in
    let x = part_over (g.L.Link.awaited link) (g.L.Link.awaited mid) (g.L.Link.awaited later) (g.L.Link.log link) (g.L.Link.log mid) (g.L.Link.log later) (g.L.Link.wire link) (asked c.args.handle.now) (asked c.steps.handle) (asked c.step-stepped.new.handle) so.went.0 did.0 (lends_nothing (changes_of c.args.self.now)) before (ap asked did.2 ∙ asked_on asked told g.met.H.ClientSessionHandle.moves did.0 c.steps.handle) so.went.2 left ended (changes_of c.end_call.new.self) came c.end_call.result
    (subst (λ (w : ℤ). DoesStep (g.L.Link.awaited mid) (g.L.Link.awaited later) (g.L.Link.log mid) (g.L.Link.log later) w (asked c.steps.handle) did.0 before left came) so.keeps.later.wire did.1) (last_by (is_renewed before.doing) came left stop.1) ends_here kept in
    (x.0, so.went.0 + one_if did.0, x.1, did.2 ∙ ap (times (one_if did.0) told) so.went.1 ∙ times_on so.went.0 (one_if did.0) told c.args.handle.now)

pub returns-then-not-seeks_on-clause-sound : goal.returns-then-not-seeks_on-clause-sound
returns-then-not-seeks_on-clause-sound g c = λ plain sound plainly.
    let d = returns-then-not-seeks_on-clause-does g c in
    record {
      sound = (seeks_so d.0 plain (g.L.Link.awaited c.args.link.now) (g.L.Link.awaited c.step-stepped.new.link) (g.L.Link.log c.args.link.now) (g.L.Link.log c.step-stepped.new.link) (g.L.Link.wire c.args.link.now) (g.H.ClientSessionHandle.asked c.args.handle.now) d.1 (lends_nothing (changes_of c.args.self.now)) (changes_of c.end_call.new.self) c.end_call.result (lends_none plain c.args.self.now sound).sound refl plainly d.2).sound;
      placed = placed_counting c.end_seeking-poll.new.self c.end_call.new.self c.end_call.ensures.rest c.end_seeking-poll.ensures.placed;
    }

pub returns-then-not-seeks_on-clause-owned : goal.returns-then-not-seeks_on-clause-owned
returns-then-not-seeks_on-clause-owned g c = λ own.
    subst IsOwnPlace (sym (ap (λ (s : Changes). s.token) c.end_call.ensures.rest))
    (c.end_seeking-poll.ensures.owned (subst IsOwnPlace (sym (ap (λ (s : Changes). s.token) c.seeks_on.ensures.rest)) (c.step-stepped.ensures.owned (c.steps.invariant.owned own))))

pub returns-then-not-seeks_on-clause-leaves : goal.returns-then-not-seeks_on-clause-leaves
returns-then-not-seeks_on-clause-leaves g c =
    let d = returns-then-not-seeks_on-clause-does g c in
    (seeks_so d.0 false (g.L.Link.awaited c.args.link.now) (g.L.Link.awaited c.step-stepped.new.link) (g.L.Link.log c.args.link.now) (g.L.Link.log c.step-stepped.new.link) (g.L.Link.wire c.args.link.now) (g.H.ClientSessionHandle.asked c.args.handle.now) d.1 (lends_nothing (changes_of c.args.self.now)) (changes_of c.end_call.new.self) c.end_call.result (lends_none false c.args.self.now c.requires.sound).sound refl tt d.2).leaves

pub returns-then-not-seeks_on-clause-moved : goal.returns-then-not-seeks_on-clause-moved
returns-then-not-seeks_on-clause-moved g c =
    let d = returns-then-not-seeks_on-clause-does g c in
    (seeks_so d.0 false (g.L.Link.awaited c.args.link.now) (g.L.Link.awaited c.step-stepped.new.link) (g.L.Link.log c.args.link.now) (g.L.Link.log c.step-stepped.new.link) (g.L.Link.wire c.args.link.now) (g.H.ClientSessionHandle.asked c.args.handle.now) d.1 (lends_nothing (changes_of c.args.self.now)) (changes_of c.end_call.new.self) c.end_call.result (lends_none false c.args.self.now c.requires.sound).sound refl tt d.2).moves

pub returns-then-not-seeks_on-clause-sent : goal.returns-then-not-seeks_on-clause-sent
returns-then-not-seeks_on-clause-sent g c =
    let d = returns-then-not-seeks_on-clause-does g c in
    seeks_sent d.0 false (g.L.Link.awaited c.args.link.now) (g.L.Link.awaited c.step-stepped.new.link) (g.L.Link.log c.args.link.now) (g.L.Link.log c.step-stepped.new.link) (g.L.Link.wire c.args.link.now) (g.H.ClientSessionHandle.asked c.args.handle.now) d.1 (changes_of c.args.self.now) (changes_of c.end_call.new.self) c.end_call.result (lends_none false c.args.self.now c.requires.sound).sound d.2

pub returns-then-not-seeks_on-clause-caused : goal.returns-then-not-seeks_on-clause-caused
returns-then-not-seeks_on-clause-caused g c =
    let d = returns-then-not-seeks_on-clause-does g c in
    seeks_caused d.0 false (g.L.Link.awaited c.args.link.now) (g.L.Link.awaited c.step-stepped.new.link) (g.L.Link.log c.args.link.now) (g.L.Link.log c.step-stepped.new.link) (g.L.Link.wire c.args.link.now) (g.H.ClientSessionHandle.asked c.args.handle.now) d.1 (changes_of c.args.self.now) (changes_of c.end_call.new.self) c.end_call.result (lends_none false c.args.self.now c.requires.sound).sound d.2
