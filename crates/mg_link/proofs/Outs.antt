-- Tickets whose numbers are the places of their calls.
use Rattle.std.proofs.Common.{◌≡◌, ℕ, zero, suc, ◌+◌, ◌<◌, List, [], ◌∷◌, ◌++◌, length, Option, Some, None, true, false, refl, sym, ap, ◌∙◌, subst, arith}
use Rattle.std.specs.Prelude.{slice_get, slice_set, IsSome, unwrap_or}
use Rattle.mg_link.specs.Log.{Sight, waiting, reply, fault, memory, Call, see}
use Rattle.mg_link.specs.Places.{if_waiting, waiting_at, out_at, polls_in, IsAnswer}
use Rattle.mg_link.specs.Scripted.{commands_of}
use Rattle.mg_link.specs.Link.{Ends, OneMore, OneMoreAt, SamePolls}

same_some : {A : Type 0} (x y : A) → Some x ≡ Some y → x ≡ y
same_some x y h = cc

pub length-see : (k : ℕ) (seen : Sight) (calls : List Call) → length (see k seen calls) ≡ length calls
length-see k seen [] = refl
length-see zero seen (c ∷ calls) = refl
length-see (suc k) seen (c ∷ calls) = ap suc (length-see k seen calls)

pub commands-see : (k : ℕ) (seen : Sight) (calls : List Call) → commands_of (see k seen calls) ≡ commands_of calls
commands-see k seen [] = refl
commands-see zero seen (c ∷ calls) = refl
commands-see (suc k) seen (c ∷ calls) = ap (λ l. c.command ∷ l) (commands-see k seen calls)

get_see_other : (k : ℕ) (seen : Sight) (calls : List Call) (m : ℕ) → (m ≡ k → ⊥) → slice_get (see k seen calls) m ≡ slice_get calls m
get_see_other k seen [] m ne = refl
get_see_other zero seen (c ∷ calls) zero ne = absurd (ne refl)
get_see_other zero seen (c ∷ calls) (suc m) ne = refl
get_see_other (suc k) seen (c ∷ calls) zero ne = refl
get_see_other (suc k) seen (c ∷ calls) (suc m) ne = get_see_other k seen calls m (λ e. ne (ap suc e))

-- the call of a ticket that is out waits
pub record IsWaiting (calls : List Call) (n : ℕ) : Type 0 where
  pub call : Call
  pub found : slice_get calls n ≡ Some call
  pub waits : call.seen ≡ waiting

waits_by : (seen : Sight) (n : ℕ) → IsSome (if_waiting seen n) → seen ≡ waiting
waits_by waiting n out = refl
waits_by (reply bytes) n out = let bad : false ≡ true = out in cc
waits_by fault n out = let bad : false ≡ true = out in cc
waits_by memory n out = let bad : false ≡ true = out in cc

found_by : (calls : List Call) (n : ℕ) (o : Option Call) → slice_get calls n ≡ o → IsSome (waiting_at o n) → IsWaiting calls n
found_by calls n None e out = let bad : false ≡ true = out in cc
found_by calls n (Some call) e out = record { call = call; found = e; waits = waits_by call.seen n out }

pub is_waiting : (calls : List Call) (n : ℕ) → IsSome (out_at calls n) → IsWaiting calls n
is_waiting calls n out = found_by calls n (slice_get calls n) refl out

get_within : (calls : List Call) (n : ℕ) (call : Call) → slice_get calls n ≡ Some call → n < length calls
get_within [] n call h = cc
get_within (c ∷ calls) zero call h = omega arith
get_within (c ∷ calls) (suc n) call h = let i = get_within calls n call h in omega arith

get_see_here : (k : ℕ) (seen : Sight) (calls : List Call) (call : Call) → slice_get calls k ≡ Some call → slice_get (see k seen calls) k ≡ Some (record call { seen = seen })
get_see_here k seen [] call h = cc
get_see_here zero seen (c ∷ calls) call h = ap (λ (d : Call). Some (record d { seen = seen })) (same_some c call h)
get_see_here (suc k) seen (c ∷ calls) call h = get_see_here k seen calls call h

answer_gone : (seen : Sight) (n : ℕ) → IsAnswer seen → if_waiting seen n ≡ None
answer_gone waiting n h = absurd h
answer_gone (reply bytes) n h = refl
answer_gone fault n h = refl
answer_gone memory n h = refl

-- a ticket that is out has a place in the log
pub out_within : (calls : List Call) (n : ℕ) → IsSome (out_at calls n) → n < length calls
out_within calls n out = get_within calls n (is_waiting calls n out).call (is_waiting calls n out).found

-- a call that has seen its answer has ended
pub ends_at : (calls : List Call) (n : ℕ) (seen : Sight) → IsSome (out_at calls n) → IsAnswer seen → Ends (out_at calls) (out_at (see n seen calls)) (Some calls) (Some (see n seen calls)) n seen
ends_at calls n seen out answer =
    let gone = answer_gone seen n answer in
    let w = is_waiting calls n out in
    record {
      gone = ap (λ o. waiting_at o n) (get_see_here n seen calls w.call w.found) ∙ gone;
      rest = λ m ne. ap (λ o. waiting_at o m) (get_see_other n seen calls m ne);
      sees = λ told e.
          let same = same_some calls told e in (
            n,
            w.call,
            ap (λ o. waiting_at o n) w.found ∙ ap (λ s. if_waiting s n) w.waits,
            ap (λ l. slice_get l n) (sym same) ∙ w.found,
            w.waits,
            ap (λ l. Some (see n seen l)) same,
          );
    }

-- ---- how many polls pended

-- the place of a ticket that is out is its number
place_waiting : (seen : Sight) (n k : ℕ) → if_waiting seen n ≡ Some k → k ≡ n
place_waiting waiting n k h = same_some k n (sym h)
place_waiting (reply bytes) n k h = cc
place_waiting fault n k h = cc
place_waiting memory n k h = cc

place_at : (call : Option Call) (n k : ℕ) → waiting_at call n ≡ Some k → k ≡ n
place_at None n k h = cc
place_at (Some call) n k h = place_waiting call.seen n k h

-- a call that is new pended never
pub polls_push : (pended : List ℕ) → SamePolls (polls_in pended) (polls_in (pended ++ 0 ∷ []))
polls_push [] zero = refl
polls_push [] (suc k) = refl
polls_push (n ∷ pended) zero = refl
polls_push (n ∷ pended) (suc k) = polls_push pended k

polls_set_here : (pended : List ℕ) (k n m : ℕ) → slice_get pended k ≡ Some n → polls_in (slice_set pended k m) k ≡ m
polls_set_here [] k n m h = cc
polls_set_here (o ∷ pended) zero n m h = refl
polls_set_here (o ∷ pended) (suc k) n m h = polls_set_here pended k n m h

polls_set_other : (pended : List ℕ) (k m other : ℕ) → (other ≡ k → ⊥) → polls_in (slice_set pended k m) other ≡ polls_in pended other
polls_set_other [] k m other ne = refl
polls_set_other (o ∷ pended) zero m zero ne = absurd (ne refl)
polls_set_other (o ∷ pended) zero m (suc other) ne = refl
polls_set_other (o ∷ pended) (suc k) m zero ne = refl
polls_set_other (o ∷ pended) (suc k) m (suc other) ne = polls_set_other pended k m other (λ e. ne (ap suc e))

one_more_set : (pended : List ℕ) (k n : ℕ) → slice_get pended k ≡ Some n → OneMore k (polls_in pended) (polls_in (slice_set pended k (n + 1)))
one_more_set pended k n h = record {
  here = polls_set_here pended k n (n + 1) h ∙ ap (λ o. unwrap_or o 0 + 1) (sym h);
  rest = polls_set_other pended k (n + 1);
}

-- one more poll of the call of a ticket pended
pub polled_once_more : (calls : List Call) (pended : List ℕ) (at n : ℕ) → slice_get pended at ≡ Some n → OneMoreAt (out_at calls at) (polls_in pended) (polls_in (slice_set pended at (n + 1)))
polled_once_more calls pended at n found place out =
    subst (λ k. OneMore k (polls_in pended) (polls_in (slice_set pended at (n + 1)))) (sym (place_at (slice_get calls at) at place out)) (one_more_set pended at n found)
