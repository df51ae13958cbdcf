-- What a call sent in the poll that goes on counts as sent before, where it is seen from a later place of the log.
use Rattle.std.proofs.Common.{◌≡◌, ◌⊎◌, ◌<◌, ◌≤◌, ◌+◌, ◌-◌, ℕ, zero, suc, ℤ, List, ◌∷◌, length, Some, refl, subst, inl, inr, arith}
use Rattle.std.specs.Prelude.{slice_get}
use Rattle.mg_server.specs.Calls.{Grows, IsOwn, past_of}
use Rattle.mg_link.specs.Log.{Call}
use Rattle.mg_server.specs.Owner.{IsOf}
use Rattle.mg_server.proofs.Calls.{same_keeps}
use Rattle.mg_link.proofs.Places.{get_within}

-- these places, and so many from one on
abbrev pub spread : (from count : ℕ) → List ℕ → List ℕ
spread from zero places = places
spread from (suc n) places = from ∷ spread (suc from) n places

spread_old : (from count : ℕ) (places : List ℕ) (p : ℕ) → IsOf places p → IsOf (spread from count places) p
spread_old from zero places p h = h
spread_old from (suc n) places p h = inr (spread_old (suc from) n places p h)

spread_new : (from count : ℕ) (places : List ℕ) (j : ℕ) → j < count → IsOf (spread from count places) (from + j)
spread_new from zero places j lt = absurd (omega arith)
spread_new from (suc n) places zero lt = let e : from ≡ from + 0 = omega arith in inl e
spread_new from (suc n) places (suc j) lt =
    let within : j < n = omega arith in
    let e : suc from + j ≡ from + suc j = omega arith in
    inr (subst (IsOf (spread (suc from) n places)) e (spread_new (suc from) n places j within))

spread_only : (from count : ℕ) (places : List ℕ) (p : ℕ) → IsOf (spread from count places) p → IsOf places p ⊎ (from ≤ p)
spread_only from zero places p h = inl h
spread_only from (suc n) places p (inl e) = let le : from ≤ p = omega arith in inr le
spread_only from (suc n) places p (inr h) = elim (spread_only (suc from) n places p h) [
  | inl old ↦ inl old
  | inr later ↦ let le : from ≤ p = omega arith in inr le
]

-- the places of a call that has sent from one place on, up to the end of this log
abbrev pub places_to : List ℕ → ℕ → List Call → List ℕ
places_to places since calls = spread since (length calls - since) places

-- what was its own is so still
pub spread_to : (places : List ℕ) (since : ℕ) (calls : List Call) (wire : ℤ) → since ≤ length calls → Grows (past_of places since calls wire) (past_of (places_to places since calls) (length calls) calls wire)
spread_to places since calls wire room = record { own = λ place call there own. inl (now place call there own); keeps = same_keeps calls; wire = refl }
  where
    now : (place : ℕ) (call : Call) → slice_get calls place ≡ Some call → IsOwn (past_of places since calls wire) place → IsOf (places_to places since calls) place
    now place call there (inl old) = spread_old since (length calls - since) places place old
    now place call there (inr later) =
        let within : place < length calls = get_within calls place call there in
        let lt : place - since < length calls - since = omega arith in
        let e : since + (place - since) ≡ place = omega arith in
        subst (IsOf (places_to places since calls)) e (spread_new since (length calls - since) places (place - since) lt)

-- and nothing else became its own
pub spread_back : (places : List ℕ) (since : ℕ) (calls calls' : List Call) (wire : ℤ) → since ≤ length calls → Grows (past_of (places_to places since calls) (length calls) calls' wire) (past_of places since calls' wire)
spread_back places since calls calls' wire room = record { own = λ place call there own. before place own; keeps = same_keeps calls'; wire = refl }
  where
    before : (place : ℕ) → IsOwn (past_of (places_to places since calls) (length calls) calls' wire) place → IsOwn (past_of places since calls' wire) place
    before place (inl one) = spread_only since (length calls - since) places place one
    before place (inr later) = let le : since ≤ place = omega arith in inr le
