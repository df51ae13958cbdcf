-- A list that stands in order, where elements that tie stand as they stood, is the only one.
use Rattle.std.proofs.Common.{◌≡◌, ℕ, zero, suc, ◌<◌, ◌≤◌, Bool, true, false, List, [], ◌∷◌, length, get_or, refl, sym, ap, ◌∙◌, arith, inl, inr}
use Rattle.std.specs.Prelude.{if◌then◌else◌, not, ◌&&◌}
use Rattle.std.specs.Cmp.{IsStrictWeakOrder}
use Rattle.std.specs.List.{filter}
use Rattle.std.specs.List.Sorted.{IsSortedBy, IsStableBy, ties}
use Rattle.std.proofs.lemmas.Bool.{cases_Bool, cond_both, cond-true, cond-false}
use Rattle.std.proofs.lemmas.List.Sorted.{sorted_far}

-- ---- the sorted list, built of the last element, the one before it, and so on

module _ {X : Type 0} (lt : X → X → Bool) where
  abbrev pub placed_in : X → List X → List X
  placed_in x [] = x ∷ []
  placed_in x (y ∷ ys) = if lt y x then y ∷ placed_in x ys else x ∷ y ∷ ys

  abbrev pub placed : List X → List X
  placed [] = []
  placed (x ∷ xs) = placed_in x (placed xs)

  -- none of them is less than x
  abbrev Leads : X → List X → Type 0
  Leads x [] = Unit {0}
  Leads x (y ∷ ys) = (lt y x ≡ false) × Leads x ys

  abbrev Rises : List X → Type 0
  Rises [] = Unit {0}
  Rises (x ∷ xs) = Leads x xs × Rises xs

  leads_at : (x : X) (ys : List X) → ((j : ℕ) → j < length ys → lt (get_or ys j x) x ≡ false) → Leads x ys
  leads_at x [] h = tt
  leads_at x (y ∷ ys) h = (h zero (omega arith), leads_at x ys (λ j within. h (suc j) (omega arith)))

  rises_at : (xs : List X) → ((i j : ℕ) (d : X) → i ≤ j → j < length xs → lt (get_or xs j d) (get_or xs i d) ≡ false) → Rises xs
  rises_at [] h = tt
  rises_at (x ∷ xs) h = (leads_at x xs (λ j within. h zero (suc j) x (omega arith) (omega arith)), rises_at xs (λ i j d le within. h (suc i) (suc j) d (omega arith) (omega arith)))

module _ {X : Type 0} (lt : X → X → Bool) (o : IsStrictWeakOrder lt) where
  leads_more : (x y : X) (zs : List X) → lt y x ≡ false → Leads lt y zs → Leads lt x zs
  leads_more x y [] h l = tt
  leads_more x y (z ∷ zs) h l = (o.chain z y x l.0 h, leads_more x y zs h l.1)

  leads_placed : (w x : X) (ys : List X) → lt x w ≡ false → Leads lt w ys → Leads lt w (placed_in lt x ys)
  leads_placed w x [] h l = (h, tt)
  leads_placed w x (y ∷ ys) h l = cond_both (lt y x) _ _ (Leads lt w) (λ first. (l.0, leads_placed w x ys h l.1)) (λ behind. (h, l))

  rises_in : (x : X) (ys : List X) → Rises lt ys → Rises lt (placed_in lt x ys)
  rises_in x [] r = (tt, tt)
  rises_in x (y ∷ ys) r =
      cond_both (lt y x) _ _ (Rises lt)
      (λ first. (leads_placed y x ys (o.one_way y x first) r.0, rises_in x ys r.1))
      (λ behind. ((behind, leads_more x y ys behind r.0), r))

  rises_placed : (xs : List X) → Rises lt (placed lt xs)
  rises_placed [] = tt
  rises_placed (x ∷ xs) = rises_in x (placed lt xs) (rises_placed xs)

  -- ---- elements that tie

  never_less_by : (x : X) (b : Bool) → lt x x ≡ b → lt x x ≡ false
  never_less_by x true e = o.one_way x x e
  never_less_by x false e = e

  never_less : (x : X) → lt x x ≡ false
  never_less x = never_less_by x (lt x x) refl

  tie : (x y : X) → lt x y ≡ false → lt y x ≡ false → ties lt x y ≡ true
  tie x y p q = λ i. not (p i) && not (q i)

  untie_by : (a b : Bool) → (not a && not b) ≡ true → (a ≡ false) × (b ≡ false)
  untie_by true b h = absurd cc
  untie_by false true h = absurd cc
  untie_by false false h = (refl, refl)

  untie : (x y : X) → ties lt x y ≡ true → (lt x y ≡ false) × (lt y x ≡ false)
  untie x y h = untie_by (lt x y) (lt y x) h

  -- of two that tie with a third, none is less
  apart : (x y z : X) → lt y x ≡ true → ties lt z x ≡ true → ties lt z y ≡ true → ⊥
  apart x y z less p q =
      let bad : true ≡ false = sym less ∙ o.chain y z x (untie z y q).1 (untie z x p).0 in
      absurd cc

  exchanged : (b c : Bool) (x y : X) (zs : List X) → (b ≡ true → c ≡ true → ⊥) → (if c then y ∷ (if b then x ∷ zs else zs) else (if b then x ∷ zs else zs)) ≡ (if b then x ∷ (if c then y ∷ zs else zs) else (if c then y ∷ zs else zs))
  exchanged true true x y zs h = absurd (h refl refl)
  exchanged true false x y zs h = refl
  exchanged false true x y zs h = refl
  exchanged false false x y zs h = refl

  stays_in : (z x : X) (ys : List X) → filter (ties lt z) (placed_in lt x ys) ≡ filter (ties lt z) (x ∷ ys)
  stays_in z x [] = refl
  stays_in z x (y ∷ ys) =
      cond_both (lt y x) _ _ (λ (l : List X). filter (ties lt z) l ≡ filter (ties lt z) (x ∷ y ∷ ys))
      (λ first. ap (λ (l : List X). if ties lt z y then y ∷ l else l) (stays_in z x ys) ∙ exchanged (ties lt z x) (ties lt z y) x y (filter (ties lt z) ys) (apart x y z first))
      (λ behind. refl)

  stays : (z : X) (xs : List X) → filter (ties lt z) (placed lt xs) ≡ filter (ties lt z) xs
  stays z [] = refl
  stays z (x ∷ xs) = stays_in z x (placed lt xs) ∙ ap (λ (l : List X). if ties lt z x then x ∷ l else l) (stays z xs)

  -- ---- only one

  kept : (p : X → Bool) (y : X) (ys : List X) → p y ≡ true → filter p (y ∷ ys) ≡ y ∷ filter p ys
  kept p y ys h = cond-true _ _ _ h

  passed : (p : X → Bool) (y : X) (ys : List X) → p y ≡ false → filter p (y ∷ ys) ≡ filter p ys
  passed p y ys h = cond-false _ _ _ h

  -- one of them ties with z
  leads_tied : (x z : X) (ys : List X) (w : X) (ws : List X) → Leads lt x ys → filter (ties lt z) ys ≡ w ∷ ws → lt z x ≡ false
  leads_tied x z [] w ws l e = absurd cc
  leads_tied x z (y ∷ ys) w ws l e =
      elim (cases_Bool (ties lt z y)) [
        | inl with ↦ o.chain z y x (untie z y with).0 l.0
        | inr without ↦ leads_tied x z ys w ws l.1 (sym (passed (ties lt z) y ys without) ∙ e)
      ]

  only : (ys zs : List X) → Rises lt ys → Rises lt zs → ((x : X) → filter (ties lt x) ys ≡ filter (ties lt x) zs) → ys ≡ zs
  only [] [] left right same = refl
  only [] (z ∷ zs) left right same =
      let clash = same z ∙ kept (ties lt z) z zs (tie z z (never_less z) (never_less z)) in absurd cc
  only (y ∷ ys) [] left right same =
      let clash = sym (same y) ∙ kept (ties lt y) y ys (tie y y (never_less y) (never_less y)) in absurd cc
  only (y ∷ ys) (z ∷ zs) left right same =
      let at_y = kept (ties lt y) y ys (tie y y (never_less y) (never_less y)) in
      let at_z = kept (ties lt z) z zs (tie z z (never_less z) (never_less z)) in
      let up : lt y z ≡ false = leads_tied z y (z ∷ zs) y _ (never_less z, right.0) (sym (same y) ∙ at_y) in
      let down : lt z y ≡ false = leads_tied y z (y ∷ ys) z _ (never_less y, left.0) (same z ∙ at_z) in
      let heads : y ∷ filter (ties lt y) ys ≡ z ∷ filter (ties lt y) zs = sym at_y ∙ same y ∙ kept (ties lt y) z zs (tie y z up down) in
      let head : y ≡ z = cc in
      let tails : (x : X) → filter (ties lt x) ys ≡ filter (ties lt x) zs =
      λ x. elim (cases_Bool (ties lt x y)) [
        | inl with ↦
            let both : y ∷ filter (ties lt x) ys ≡ z ∷ filter (ties lt x) zs = sym (kept (ties lt x) y ys with) ∙ same x ∙ kept (ties lt x) z zs (ap (ties lt x) (sym head) ∙ with) in cc
        | inr without ↦
            sym (passed (ties lt x) y ys without) ∙ same x ∙ passed (ties lt x) z zs (ap (ties lt x) (sym head) ∙ without)
      ] in
      ap (λ (w : X). w ∷ ys) head ∙ ap (λ (l : List X). z ∷ l) (only ys zs left.1 right.1 tails)

  -- what a stable sort gives
  pub stable_is : (xs ys : List X) → IsSortedBy lt ys → IsStableBy lt xs ys → ys ≡ placed lt xs
  stable_is xs ys up stable = only ys (placed lt xs) (rises_at lt ys (sorted_far lt o ys up)) (rises_placed xs) (λ x. stable x ∙ sym (stays x xs))
