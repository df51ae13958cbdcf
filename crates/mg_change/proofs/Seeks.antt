-- Where a call that seeks an event goes on behind a step, and where it ends.
use Rattle.std.proofs.Common.{◌≡◌, ◌⊎◌, ◌<◌, ◌≤◌, ◌+◌, ◌*◌, ◌-◌, ℕ, ℤ, pos, Bool, true, false, Option, refl, sym, ap, ◌∙◌, subst, inl, inr, arith}
use Rattle.mg_link.specs.Causes.{one_if}
use Rattle.mg_link.specs.Link.{Awaited, LogTold}
use Rattle.mg_link.specs.Moment.{LinkKeeps, Moment, finished}
use Rattle.mg_link.specs.Session.{Session}
use Rattle.mg_cursor.specs.Seeking.{session_after}
use Rattle.mg_cursor.specs.declared.polls.TryPoll.{TryPoll}
use Rattle.mg_cursor.specs.declared.polls.TryPoll.TheVariants as try
use Rattle.mg_cursor.specs.declared.results.AdvanceResult.TheVariants as result
use Rattle.mg_change.specs.ClientStreams.{ClientStream, Doing, IsSound, follows, is_renewed, kills, owes, renewed, resumes, stream_ticket}
use Rattle.mg_change.specs.Steps.{DoesStep, IsLast}
use Rattle.mg_change.specs.StreamCalls.{CountsIfOpen, EndsBehind, EndsEmpty, EndsSeeking, Falls, GoesBehind, MayEnd, SeeksOnBehind, SeeksOnGiven, closed, counted, fails, finds, got, over, pends, stepped_ending, steps_left, too_many, too_often}
use Rattle.mg_change.specs.declared.counts.Counts.{Counts}
use Rattle.mg_change.specs.declared.event_poll.EventPoll.{EventPoll}
use Rattle.mg_change.specs.declared.event_poll.Stepped.{Stepped}
use Rattle.mg_change.specs.declared.event_poll.Stepped.TheVariants as stepped
use Rattle.mg_change.proofs.Calls.{InPart, StepLeaves, part_ends, part_goes}
use Rattle.mg_change.proofs.Keeping.{sound_as}
use Rattle.mg_change.proofs.Linking.{going_keeps}

-- it goes on behind a step, or behind an empty reply
pub data GoesOn (again : Bool) (r : Stepped) (left now : ClientStream) : Type 0 where
  by_step : r ≡ stepped.Goes → now ≡ left → GoesOn again r left now
  by_reply : IsLast r → GoesBehind again r left now → GoesOn again r left now

not_so : {A : Type 0} (on : Bool) → on ≡ true → on ≡ false → A
not_so on so not = let bad : true ≡ false = sym so ∙ not in absurd cc

waits_on : (again : Bool) (left now : ClientStream) (on : Bool) → on ≡ true → CountsIfOpen again left now on → GoesOn again (stepped.Gives (try.Ready result.Waiting)) left now
waits_on again left now true so h = by_reply tt (record { empty = refl; open_still = h.0; few = h.1; counts = h.2 })
waits_on again left now false so h = absurd cc

given_on : (again : Bool) (p : TryPoll) (left now : ClientStream) (on : Bool) → on ≡ true → SeeksOnGiven again p left now on → GoesOn again (stepped.Gives p) left now
given_on again try.Pending left now on so h = not_so on so h.0
given_on again (try.Ready (result.Advanced t)) left now on so h = not_so on so h.0
given_on again (try.Ready result.Exhausted) left now on so h = not_so on so h.0
given_on again (try.Ready result.Waiting) left now on so h = waits_on again left now on so h
given_on again (try.Failed e) left now on so h = not_so on so h.0

pub goes_on_by : (again : Bool) (r : Stepped) (left now : ClientStream) (on : Bool) → on ≡ true → SeeksOnBehind again r left now on → GoesOn again r left now
goes_on_by again stepped.Goes left now on so h = by_step refl h.1
goes_on_by again stepped.Found left now on so h = not_so on so h.0
goes_on_by again (stepped.Gives p) left now on so h = given_on again p left now on so h

-- ---- it ends

-- nothing was counted, and an empty reply is one too many, or the cursor is over
abbrev pub Stops : Bool → Stepped → ClientStream → Type 0
Stops again stepped.Goes s = ⊥
Stops again stepped.Found s = Unit {0}
Stops again (stepped.Gives try.Pending) s = Unit {0}
Stops again (stepped.Gives (try.Ready (result.Advanced t))) s = Unit {0}
Stops again (stepped.Gives (try.Ready result.Exhausted)) s = Unit {0}
Stops again (stepped.Gives (try.Ready result.Waiting)) s = (s.cursor.id ≡ pos 0) ⊎ (too_many ≤ got again s.counts)
Stops again (stepped.Gives (try.Failed e)) s = Unit {0}

waits_stop : (again : Bool) (left now : ClientStream) (on : Bool) → on ≡ false → CountsIfOpen again left now on → (now ≡ left) × ((left.cursor.id ≡ pos 0) ⊎ (too_many ≤ got again left.counts))
waits_stop again left now true so h = absurd cc
waits_stop again left now false so h = h

pub stops_by : (again : Bool) (r : Stepped) (left now : ClientStream) (on : Bool) → on ≡ false → SeeksOnBehind again r left now on → (now ≡ left) × Stops again r left
stops_by again stepped.Goes left now on so h = not_so on h.0 so
stops_by again stepped.Found left now on so h = (h.1, tt)
stops_by again (stepped.Gives try.Pending) left now on so h = (h.1, tt)
stops_by again (stepped.Gives (try.Ready (result.Advanced t))) left now on so h = (h.1, tt)
stops_by again (stepped.Gives (try.Ready result.Exhausted)) left now on so h = (h.1, tt)
stops_by again (stepped.Gives (try.Ready result.Waiting)) left now on so h = waits_stop again left now on so h
stops_by again (stepped.Gives (try.Failed e)) left now on so h = (h.1, tt)

pub last_by : (again : Bool) (r : Stepped) (s : ClientStream) → Stops again r s → IsLast r
last_by again stepped.Goes s h = h
last_by again stepped.Found s h = tt
last_by again (stepped.Gives p) s h = tt

pub may_end : (again : Bool) (r : Stepped) (s : ClientStream) → Stops again r s → StepLeaves r s → MayEnd r s
may_end again stepped.Goes s h leaves = h
may_end again stepped.Found s h leaves = leaves.some_left
may_end again (stepped.Gives p) s h leaves = tt

ends_empty : (again : Bool) (left ended : ClientStream) (r : EventPoll) → (left.cursor.id ≡ pos 0) ⊎ (too_many ≤ got again left.counts) → ended ≡ left → EndsEmpty left r → EndsSeeking again (stepped.Gives (try.Ready result.Waiting)) left ended r
ends_empty again left ended r why same (inl over_so) = closed refl over_so.0 same over_so.1
ends_empty again left ended r (inl over_so) same (inr held) = absurd (held.0 over_so)
ends_empty again left ended r (inr many) same (inr held) = too_often refl held.0 many same held.1

pub ends_by : (again : Bool) (came : Stepped) (left ended : ClientStream) (r : EventPoll) → Stops again came left → StepLeaves came left → EndsBehind came left ended r → EndsSeeking again came left ended r
ends_by again stepped.Goes left ended r stops leaves h = absurd stops
ends_by again stepped.Found left ended r stops leaves h = finds refl h
ends_by again (stepped.Gives try.Pending) left ended r stops leaves h = pends refl h.0 h.1
ends_by again (stepped.Gives (try.Ready (result.Advanced t))) left ended r stops leaves h = absurd leaves
ends_by again (stepped.Gives (try.Ready result.Exhausted)) left ended r stops leaves h = over refl h.0 h.1
ends_by again (stepped.Gives (try.Ready result.Waiting)) left ended r stops leaves h = ends_empty again left ended r stops h.0 h.1
ends_by again (stepped.Gives (try.Failed e)) left ended r stops leaves h = fails e refl h.0 h.1

-- ---- the measure

abbrev pub left_of : Counts → ℕ → ℕ
left_of c steps = ((1000 - c.resumptions) * 1001 + (1000 - c.empty)) * 5 + steps

pub counted_falls : (again : Bool) (c : Counts) (before now : ℕ) → got again c < too_many → now ≤ 4 → left_of (counted again c) now < left_of c before
counted_falls true c before now few less = omega arith
counted_falls false c before now few less = omega arith

at_most : (d : Doing) → steps_left d ≤ 4
at_most follows = omega arith
at_most owes = omega arith
at_most (resumes sending) = omega arith
at_most (kills before) = omega arith
at_most renewed = omega arith

more_less : (n x y : ℕ) → x < y → n + x < n + y
more_less n x y less = omega (arith, less)

steps_fall : (c : Counts) (x y : ℕ) → x < y → left_of c x < left_of c y
steps_fall c x y less = more_less (((1000 - c.resumptions) * 1001 + (1000 - c.empty)) * 5) x y less

-- behind a step that goes on, and behind an empty reply
pub smaller_by : (again : Bool) (came : Stepped) (before left now : ClientStream) → left.counts ≡ before.counts → Falls came (steps_left before.doing) (steps_left left.doing) → GoesOn again came left now → left_of now.counts (steps_left now.doing) < left_of before.counts (steps_left before.doing)
smaller_by again came before left now same falls (by_step is at) =
    let less : steps_left left.doing < steps_left before.doing = subst (λ (x : Stepped). Falls x (steps_left before.doing) (steps_left left.doing)) is falls in
    subst (λ (x : ClientStream). left_of x.counts (steps_left x.doing) < left_of before.counts (steps_left before.doing)) (sym at)
    (subst (λ (c : Counts). left_of c (steps_left left.doing) < left_of before.counts (steps_left before.doing)) (sym same) (steps_fall before.counts (steps_left left.doing) (steps_left before.doing) less))
smaller_by again came before left now same falls (by_reply last h) =
    subst (λ (x : ClientStream). left_of x.counts (steps_left x.doing) < left_of before.counts (steps_left before.doing)) (sym h.counts)
    (subst (λ (c : Counts). left_of (counted again left.counts) (steps_left left.doing) < left_of c (steps_left before.doing)) same (counted_falls again left.counts (steps_left before.doing) (steps_left left.doing) h.few (at_most left.doing)))

-- ---- what goes on behind it

pub link_by : (m m' : Moment) (ticket : Option ℕ) (again : Bool) (came : Stepped) (left now : ClientStream) → GoesOn again came left now → LinkKeeps m m' ticket (stream_ticket left) (stepped_ending came) → LinkKeeps m m' ticket (stream_ticket now) finished
link_by m m' ticket again came left now (by_step is same) k =
    subst (λ (s : ClientStream). LinkKeeps m m' ticket (stream_ticket s) finished) (sym same) (subst (λ (x : Stepped). LinkKeeps m m' ticket (stream_ticket left) (stepped_ending x)) is k)
link_by m m' ticket again came left now (by_reply last h) k = going_keeps m m' ticket again left now came k h

pub sound_by : (again : Bool) (came : Stepped) (left now : ClientStream) → GoesOn again came left now → IsSound false left → IsSound false now
sound_by again came left now (by_step is same) sound = subst (IsSound false) (sym same) sound
sound_by again came left now (by_reply last h) sound =
    sound_as false left now (ap (λ (x : ClientStream). x.aggregate) h.counts) (ap (λ (x : ClientStream). x.cursor) h.counts) (ap (λ (x : ClientStream). x.behind) h.counts) (ap (λ (x : ClientStream). x.doing) h.counts) sound

pub part_by : (old mid new : Awaited) (log log_mid log' : LogTold) (wire : ℤ) (session now_so then_so : Option Session) (starts : ℕ) (started : Bool) (s t : ClientStream) → then_so ≡ session_after started now_so → InPart old mid log log_mid wire session now_so starts s t → (left now : ClientStream) (came : Stepped) → DoesStep mid new log_mid log' wire now_so started t left came
    → GoesOn (is_renewed t.doing) came left now → InPart old new log log' wire session then_so (starts + one_if started) s now
part_by old mid new log log_mid log' wire session now_so then_so starts started s t told so left now came does (by_step is same) =
    subst (λ (x : ClientStream). InPart old new log log' wire session then_so (starts + one_if started) s x) (sym same)
    (part_goes old mid new log log_mid log' wire session now_so then_so starts started s t told so left (subst (λ (x : Stepped). DoesStep mid new log_mid log' wire now_so started t left x) is does))
part_by old mid new log log_mid log' wire session now_so then_so starts started s t told so left now came does (by_reply last h) =
    part_ends old mid new log log_mid log' wire session now_so then_so starts started s t told so left now came does last h
