-- The places of what a call sent, counted down: its getMore, its aggregate, the aggregate once more, and the killing.
use Rattle.std.proofs.Common.{◌≡◌, ◌≤◌, ◌<◌, ◌++◌, ℕ, suc, ℤ, Bool, true, false, List, [], ◌∷◌, length, None, refl, sym, ap, ◌∙◌, subst, inl, inr, arith, append_assoc}
use Rattle.std.specs.Prelude.{slice_get}
use Rattle.mg_bson.specs.Tree.{Fields}
use Rattle.mg_server.specs.Calls.{Grows, Past}
use Rattle.mg_server.specs.Owner.{IsOf}
use Rattle.mg_server.proofs.Calls.{same_keeps}
use Rattle.mg_link.specs.Log.{Call}
use Rattle.mg_link.proofs.Places.{get_within}
use Rattle.mg_cursor.specs.Client.{ClientCursor, get_more, kill}
use Rattle.mg_change.specs.Causes.{MayAskMore, Resumes, broken, first_broken, more_failed, owed, untold}
use Rattle.mg_ops.specs.declared.change_stream.WatchArgs.{WatchArgs}
use Rattle.mg_change.specs.ClientOpenings.{first_aggregate}
use Rattle.mg_change.specs.OpenedStreams.{IsOpening}
use Rattle.mg_change.specs.ClientStreams.{ClientStream, Doing, resuming_in}
use Rattle.mg_change.specs.Sent as calling
use Rattle.mg_change.specs.Sent.{AsksMoreOf, Falling, IsSentAt, KillsReplaced, ResumesBy, more_places, places_by}
use Rattle.mg_change.proofs.Growing.{resumed_grows}
use Rattle.mg_change.proofs.Sent.{falling_on}
use Rattle.mg_change.specs.Calling.{AggregatesAt, CallSends, IsCommandAt, IsRequestAt, KillingsAt, MoresAt, OpensAt, nowhere, once, twice}
use Rattle.mg_players.specs.Causes.{FallsAt, command_at, commands_at, sent_at}
use Rattle.mg_players.proofs.Commands.{at_both, below_both, falls_none}
use Rattle.mg_change.proofs.Grown.{in_first}

-- a call that began where its stream stood so sent its commands at these places
abbrev pub CallFalls : List Call → ℤ → ClientStream → List ℕ → ℕ → Type 0
CallFalls calls wire at own m = FallsAt (IsSentAt (KillsReplaced (sent_at own calls wire) true at) at) calls (calling.places at) own m

-- ---- one request

falling_up : (may : ℕ → Fields → Type 0) (n k : ℕ) (commands : List Fields) (m : ℕ) → n ≤ k → Falling may n commands m → Falling may k commands m
falling_up may n k [] m less f = let all : m ≤ n = f in omega (arith, all, less)
falling_up may n k (c ∷ cs) m less f = (f.0, (let here : f.0 < n = f.1 in omega (arith, here, less)), f.2, f.3)

module _ (may : ℕ → Fields → Type 0) (calls : List Call) where
  falls_up : (n k : ℕ) (places : List ℕ) (m : ℕ) → n ≤ k → FallsAt may calls n places m → FallsAt may calls k places m
  falls_up n k places m less f = record { within = f.within; falling = falling_up may n k (commands_at calls places) m less f.falling }

  pub falls_both : (n : ℕ) (xs : List ℕ) (k : ℕ) (ys : List ℕ) (m : ℕ) → FallsAt may calls n xs k → FallsAt may calls k ys m → FallsAt may calls n (xs ++ ys) m
  falls_both n xs k ys m f g = record {
    within = below_both xs ys (length calls) f.within g.within;
    falling = subst (λ (l : List Fields). Falling may n l m) (sym (at_both calls xs ys)) (falling_on may n (commands_at calls xs) k (commands_at calls ys) m f.falling g.falling);
  }

  at_one : (command : Fields) (place : ℕ) → IsCommandAt calls command place → command_at (slice_get calls place) ≡ command ∷ []
  at_one command place h = ap command_at h.there ∙ ap (λ (c : Fields). c ∷ []) h.command_is

  within_one : (command : Fields) (place : ℕ) → IsCommandAt calls command place → place < length calls
  within_one command place h = get_within calls place h.call h.there

  -- sent first at the one number, and once more at the other
  pub request_falls : (command : Fields) (repeats : Bool) (places : List ℕ) (high low : ℕ) → low ≤ high → (repeats ≡ true → low < high) → may high command → may low command → IsRequestAt calls command repeats places → FallsAt may calls (suc high) places low
  request_falls command repeats places high low room below is again (nowhere none) = subst (λ (l : List ℕ). FallsAt may calls (suc high) l low) (sym none) (falls_none may calls (suc high) low (omega (arith, room)))
  request_falls command repeats places high low room below is again (once place at there) =
      let one : commands_at calls (place ∷ []) ≡ command ∷ [] = ap (λ (l : List Fields). l ++ []) (at_one command place there) in
      subst (λ (l : List ℕ). FallsAt may calls (suc high) l low) (sym at)
      (record { within = (within_one command place there, tt); falling = subst (λ (l : List Fields). Falling may (suc high) l low) (sym one) (high, omega arith, is, room) })
  request_falls command repeats places high low room below is again (twice place later at may_so there lost there') =
      let both : commands_at calls (place ∷ later ∷ []) ≡ command ∷ command ∷ []
      = ap (λ (l : List Fields). l ++ (command_at (slice_get calls later) ++ [])) (at_one command place there) ∙ ap (λ (l : List Fields). command ∷ (l ++ [])) (at_one command later there') in
      let less : low < high = below may_so in
      subst (λ (l : List ℕ). FallsAt may calls (suc high) l low) (sym at)
      (record {
        within = (within_one command place there, (within_one command later there', tt));
        falling = subst (λ (l : List Fields). Falling may (suc high) l low) (sym both) (high, omega arith, is, (low, less, again, omega arith));
      })

-- the aggregate of an opening, at whatever number
pub opens_falls : (calls : List Call) (wire : ℤ) (args : WatchArgs) (places : List ℕ) → OpensAt calls wire args places → FallsAt (IsOpening args wire None) calls 3 places 1
opens_falls calls wire args places h = request_falls (IsOpening args wire None) calls (resuming_in (first_aggregate args) wire None) true places 2 1 (omega arith) (λ so. omega arith) refl refl h

-- ---- a call

asking_many : (at : ClientStream) → MayAskMore at → calling.places at ≡ 4
asking_many at may = ap (λ (d : Doing). places_by d at.cursor) may.settled.follows_on ∙ ap more_places may.settled.looked

resuming_many : (past : Past) (at : ClientStream) (c : ClientCursor) → Resumes past at c → 3 ≤ calling.places at
resuming_many past at c (owed is cursor) = let three : calling.places at ≡ 3 = ap (λ (d : Doing). places_by d at.cursor) is.owes_one in omega (arith, three)
resuming_many past at c (more_failed e (untold may why cursor) so) = let four = asking_many at may in omega (arith, four)
resuming_many past at c (more_failed e (broken may bytes said heard says cursor breaks) so) = let four = asking_many at may in omega (arith, four)
resuming_many past at c (first_broken bytes e held breaks cursor) =
    let three : calling.places at ≡ 3 = ap (λ (d : Doing). places_by d at.cursor) held.follows_on ∙ ap more_places held.in_hand in omega (arith, three)

module _ (calls : List Call) (wire : ℤ) (at : ClientStream) (own : List ℕ) (h : CallSends calls wire at own) where
  abbrev may : ℕ → Fields → Type 0
  may = IsSentAt (KillsReplaced (sent_at own calls wire) true at) at

  -- so many numbers are left, and enough for a resumption
  abbrev LeftBehind : ℕ → List ℕ → ℕ → Type 0
  LeftBehind n places least = (k : ℕ) × FallsAt may calls n places k × (3 ≤ calling.places at → least ≤ k)

  more_falls : MoresAt calls at h.more → LeftBehind (calling.places at) h.more 3
  more_falls (inl none) = (calling.places at, subst (λ (l : List ℕ). FallsAt may calls (calling.places at) l (calling.places at)) (sym none) (falls_none may calls (calling.places at) (calling.places at) (omega arith)), λ many. many)
  more_falls (inr some) =
      let its : AsksMoreOf at.cursor (get_more at.cursor None) = record { session = None; asks_so = refl } in
      let four = asking_many at some.0 in
      (3, falls_up may calls 4 (calling.places at) h.more 3 (omega (arith, four)) (request_falls may calls (get_more at.cursor None) false h.more 3 3 (omega arith) (λ bad. absurd cc) its its some.1), λ many. omega arith)

  again_falls : (n : ℕ) → (3 ≤ calling.places at → 3 ≤ n) → AggregatesAt calls wire at h.more h.again → LeftBehind n h.again 1
  again_falls n room (inl none) = (n, subst (λ (l : List ℕ). FallsAt may calls n l n) (sym none) (falls_none may calls n n (omega arith)), λ many. let more = room many in omega (arith, more))
  again_falls n room (inr some) =
      let command : Fields = resuming_in at.aggregate wire None in
      let its : ResumesBy at.aggregate command = record { wire = wire; session = None; resumes_so = refl } in
      (1, falls_up may calls 3 n h.again 1 (room (resuming_many (sent_at h.more calls wire) at some.0 some.1)) (request_falls may calls command true h.again 2 1 (omega arith) (λ so. omega arith) its its some.2), λ many. omega arith)

  all_are : own ≡ (h.more ++ h.again) ++ h.killing
  all_are = h.whole ∙ sym (append_assoc h.more h.again h.killing)

  -- what was sent before the killing is a part of all
  front_grows : Grows (sent_at (h.more ++ h.again) calls wire) (sent_at own calls wire)
  front_grows = record {
    own = λ place call there mine. elim mine [ inl of ↦ inl (subst (λ (l : List ℕ). IsOf l place) (sym all_are) (in_first (h.more ++ h.again) h.killing place of)) | inr beyond ↦ inr beyond ];
    keeps = same_keeps calls;
    wire = refl;
  }

  killing_falls : (n : ℕ) → (3 ≤ calling.places at → 1 ≤ n) → KillingsAt calls wire at (h.more ++ h.again) h.killing → FallsAt may calls n h.killing 0
  killing_falls n room (inl none) = subst (λ (l : List ℕ). FallsAt may calls n l 0) (sym none) (falls_none may calls n 0 (omega arith))
  killing_falls n room (inr k) =
      let its : KillsReplaced (sent_at own calls wire) true at (kill k.old) = record {
        old = k.old;
        there = k.there;
        kills_so = refl;
        new = k.new;
        bytes = k.bytes;
        resumed = resumed_grows (sent_at (h.more ++ h.again) calls wire) (sent_at own calls wire) front_grows true at k.old k.bytes k.new k.resumed;
      } in
      falls_up may calls 1 n h.killing 0 (room (resuming_many (sent_at (h.more ++ h.again) calls wire) at k.old k.resumed.why)) (request_falls may calls (kill k.old) false h.killing 0 0 (omega arith) (λ bad. absurd cc) its its k.request)

  -- Its commands stand at numbers that fall.
  pub call_falls : CallFalls calls wire at own 0
  call_falls =
      let first = more_falls h.asks in
      let second = again_falls first.0 first.2 h.resumes in
      subst (λ (l : List ℕ). FallsAt may calls (calling.places at) l 0) (sym h.whole)
      (falls_both may calls (calling.places at) h.more first.0 (h.again ++ h.killing) 0 first.1 (falls_both may calls first.0 h.again second.0 h.killing 0 second.1 (killing_falls second.0 second.2 h.kills)))

-- ---- how many

request_few : (calls : List Call) (command : Fields) (repeats : Bool) (places : List ℕ) → IsRequestAt calls command repeats places → length places ≤ 2
request_few calls command repeats places (nowhere none) = let count : length places ≡ 0 = ap (λ (l : List ℕ). length l) none in omega (arith, count)
request_few calls command repeats places (once place at there) = let count : length places ≡ 1 = ap (λ (l : List ℕ). length l) at in omega (arith, count)
request_few calls command repeats places (twice place later at may there lost again) = let count : length places ≡ 2 = ap (λ (l : List ℕ). length l) at in omega (arith, count)

single_few : (calls : List Call) (command : Fields) (places : List ℕ) → IsRequestAt calls command false places → length places ≤ 1
single_few calls command places (nowhere none) = let count : length places ≡ 0 = ap (λ (l : List ℕ). length l) none in omega (arith, count)
single_few calls command places (once place at there) = let count : length places ≡ 1 = ap (λ (l : List ℕ). length l) at in omega (arith, count)
single_few calls command places (twice place later at may there lost again) = absurd cc

empty_few : (places : List ℕ) (n : ℕ) → places ≡ [] → length places ≤ n
empty_few places n none = let count : length places ≡ 0 = ap (λ (l : List ℕ). length l) none in omega (arith, count)

-- At most one getMore, two aggregates and one killing.
pub call_few : (calls : List Call) (wire : ℤ) (at : ClientStream) (own : List ℕ) (h : CallSends calls wire at own) → (length h.more ≤ 1) × (length h.again ≤ 2) × (length h.killing ≤ 1)
call_few calls wire at own h = (
  elim h.asks [ inl none ↦ empty_few h.more 1 none | inr some ↦ single_few calls (get_more at.cursor None) h.more some.1 ],
  elim h.resumes [ inl none ↦ empty_few h.again 2 none | inr some ↦ request_few calls (resuming_in at.aggregate wire None) true h.again some.2 ],
  elim h.kills [ inl none ↦ empty_few h.killing 1 none | inr k ↦ single_few calls (kill k.old) h.killing k.request ],
)
