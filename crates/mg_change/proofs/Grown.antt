-- The places at which a call sent, and what they tell by a later log.
use Rattle.std.proofs.Common.{◌≡◌, ◌⊎◌, ◌+◌, ◌-◌, ◌≤◌, ◌<◌, ℕ, zero, suc, ℤ, List, [], ◌∷◌, ◌++◌, length, refl, sym, ap, ◌∙◌, inl, inr, arith, append-nil, append_assoc}
use Rattle.mg_server.specs.Calls.{Grows, Keeps, past_of}
use Rattle.mg_link.specs.Log.{Call}
use Rattle.mg_server.specs.Owner.{IsOf}
use Rattle.mg_server.proofs.Calls.{same_keeps}
use Rattle.mg_link.proofs.Places.{get_within}
use Rattle.mg_change.specs.Calling.{places_from, sent_at, sent_since}

-- ---- places one behind another

places_more : (at n m : ℕ) → places_from at (n + m) ≡ places_from at n ++ places_from (at + n) m
places_more at zero m =
    let count : 0 + m ≡ m = omega arith in
    let same : at ≡ at + 0 = omega arith in
    ap (λ (k : ℕ). places_from at k) count ∙ ap (λ (k : ℕ). places_from k m) same
places_more at (suc n) m =
    let count : suc n + m ≡ suc (n + m) = omega arith in
    let same : suc at + n ≡ at + suc n = omega arith in
    ap (λ (k : ℕ). places_from at k) count ∙ ap (λ (l : List ℕ). at ∷ l) (places_more (suc at) n m) ∙ ap (λ (k : ℕ). at ∷ (places_from (suc at) n ++ places_from k m)) same

pub since_none : (places : List ℕ) (from : ℕ) → sent_since places from from ≡ places
since_none places from = let none : from - from ≡ 0 = omega arith in ap (λ (k : ℕ). places ++ places_from from k) none ∙ append-nil places

pub since_on : (places : List ℕ) (from mid upto : ℕ) → from ≤ mid → mid ≤ upto → sent_since (sent_since places from mid) mid upto ≡ sent_since places from upto
since_on places from mid upto room room' =
    let count : upto - from ≡ (mid - from) + (upto - mid) = omega (arith, room, room') in
    let at : from + (mid - from) ≡ mid = omega (arith, room) in
    let both : places_from from (upto - from) ≡ places_from from (mid - from) ++ places_from mid (upto - mid) = ap (λ (k : ℕ). places_from from k) count ∙ places_more from (mid - from) (upto - mid) ∙ ap (λ (k : ℕ). places_from from (mid - from) ++ places_from k (upto - mid)) at in
    append_assoc places (places_from from (mid - from)) (places_from mid (upto - mid)) ∙ ap (λ (l : List ℕ). places ++ l) (sym both)

-- ---- which they are

is_from : (at n place : ℕ) → IsOf (places_from at n) place → (at ≤ place) × (place < at + n)
is_from at zero place of = absurd of
is_from at (suc n) place (inl e) = (omega (arith, e), omega (arith, e))
is_from at (suc n) place (inr of) = let r = is_from (suc at) n place of in let low = r.0 in let high = r.1 in (omega (arith, low), omega (arith, high))

at_or_behind : (a b : ℕ) → a ≤ b → (a ≡ b) ⊎ (suc a ≤ b)
at_or_behind zero zero h = inl refl
at_or_behind zero (suc b) h = inr (omega arith)
at_or_behind (suc a) zero h = absurd (omega arith)
at_or_behind (suc a) (suc b) h = elim (at_or_behind a b (omega arith)) [ inl e ↦ inl (ap suc e) | inr behind ↦ inr (omega (arith, behind)) ]

pub from_is : (at n place : ℕ) → at ≤ place → place < at + n → IsOf (places_from at n) place
from_is at zero place low high = absurd (omega arith)
from_is at (suc n) place low high = elim (at_or_behind at place low) [ inl e ↦ inl e | inr behind ↦ inr (from_is (suc at) n place behind (omega arith)) ]

pub in_first : {A : Type 0} (xs ys : List A) (x : A) → IsOf xs x → IsOf (xs ++ ys) x
in_first [] ys x of = absurd of
in_first (y ∷ xs) ys x (inl e) = inl e
in_first (y ∷ xs) ys x (inr of) = inr (in_first xs ys x of)

pub in_second : {A : Type 0} (xs ys : List A) (x : A) → IsOf ys x → IsOf (xs ++ ys) x
in_second [] ys x of = of
in_second (y ∷ xs) ys x of = inr (in_second xs ys x of)

pub in_either : {A : Type 0} (xs ys : List A) (x : A) → IsOf (xs ++ ys) x → IsOf xs x ⊎ IsOf ys x
in_either [] ys x of = inr of
in_either (y ∷ xs) ys x (inl e) = inl (inl e)
in_either (y ∷ xs) ys x (inr of) = elim (in_either xs ys x of) [ inl a ↦ inl (inr a) | inr b ↦ inr b ]

pub since_is : (places : List ℕ) (from upto place : ℕ) → from ≤ upto → IsOf (sent_since places from upto) place → IsOf places place ⊎ ((from ≤ place) × (place < upto))
since_is places from upto place room of =
    elim (in_either places (places_from from (upto - from)) place of) [
      | inl before ↦ inl before
      | inr now ↦ let r = is_from from (upto - from) place now in let low = r.0 in let high = r.1 in inr (low, omega (arith, high, room))
    ]

pub is_since : (places : List ℕ) (from upto place : ℕ) → from ≤ place → place < upto → IsOf (sent_since places from upto) place
is_since places from upto place low high = in_second places (places_from from (upto - from)) place (from_is from (upto - from) place low (omega arith))

-- ---- logs

-- what was sent at these places is told so by a later log
pub grows_later : (places : List ℕ) (calls calls' : List Call) (wire : ℤ) → Keeps calls calls' → Grows (sent_at places calls wire) (sent_at places calls' wire)
grows_later places calls calls' wire keeps =
    record {
      own = λ place call there own. elim own [ inl of ↦ inl of | inr beyond ↦ absurd (let within = get_within calls place call there in omega (arith, beyond, within)) ];
      keeps = keeps;
      wire = refl;
    }

-- what a poll sent is told by the places from which on it sent
pub grows_ended : (places : List ℕ) (since : ℕ) (calls : List Call) (wire : ℤ) → Grows (past_of places since calls wire) (sent_at (sent_since places since (length calls)) calls wire)
grows_ended places since calls wire =
    record {
      own = λ place call there own. elim own [
        | inl of ↦ inl (in_first places (places_from since (length calls - since)) place of)
        | inr low ↦ inl (is_since places since (length calls) place low (get_within calls place call there))
      ];
      keeps = same_keeps calls;
      wire = refl;
    }
