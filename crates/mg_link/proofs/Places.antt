-- Elements of lists by their places.
use Rattle.std.proofs.Common.{◌≡◌, ◌⊎◌, ℕ, zero, suc, ◌+◌, ◌<◌, List, [], ◌∷◌, ◌++◌, length, Some, refl, sym, ap, ◌∙◌, subst, inl, inr, take, arith}
use Rattle.std.specs.Prelude.{slice_get, slice_set}

pub get_front : {A : Type 0} (xs ys : List A) (k : ℕ) (x : A) → slice_get xs k ≡ Some x → slice_get (xs ++ ys) k ≡ Some x
get_front [] ys k x h = cc
get_front (y ∷ xs) ys zero x h = h
get_front (y ∷ xs) ys (suc k) x h = get_front xs ys k x h

pub get_back : {A : Type 0} (xs ys : List A) (j : ℕ) (x : A) → slice_get ys j ≡ Some x → slice_get (xs ++ ys) (length xs + j) ≡ Some x
get_back [] ys j x h = let e : 0 + j ≡ j = omega arith in subst (λ n. slice_get ys n ≡ Some x) (sym e) h
get_back (y ∷ xs) ys j x h =
    let e : suc (length xs) + j ≡ suc (length xs + j) = omega arith in
    subst (λ n. slice_get (y ∷ (xs ++ ys)) n ≡ Some x) (sym e) (get_back xs ys j x h)

pub get_within : {A : Type 0} (xs : List A) (k : ℕ) (x : A) → slice_get xs k ≡ Some x → k < length xs
get_within [] k x h = cc
get_within (y ∷ xs) zero x h = omega arith
get_within (y ∷ xs) (suc k) x h = let i = get_within xs k x h in omega arith

pub get_there : {A : Type 0} (xs : List A) (k : ℕ) → k < length xs → (x : A) × (slice_get xs k ≡ Some x)
get_there [] k lt = absurd (omega arith)
get_there (x ∷ xs) zero lt = (x, refl)
get_there (x ∷ xs) (suc k) lt = get_there xs k (omega arith)

pub take_more : {A : Type 0} (xs : List A) (k : ℕ) (x : A) → slice_get xs k ≡ Some x → take (suc k) xs ≡ take k xs ++ x ∷ []
take_more [] k x h = absurd cc
take_more (y ∷ ys) zero x h = let same : y ≡ x = cc in ap (λ z. z ∷ []) same
take_more (y ∷ ys) (suc k) x h = ap (λ l. y ∷ l) (take_more ys k x h)

-- an element of two lists joined is one of the first or one of the second
pub get_either : {A : Type 0} (xs ys : List A) (k : ℕ) (x : A) → slice_get (xs ++ ys) k ≡ Some x → (slice_get xs k ≡ Some x) ⊎ ((j : ℕ) × (slice_get ys j ≡ Some x))
get_either [] ys k x h = inr (k, h)
get_either (y ∷ xs) ys zero x h = inl h
get_either (y ∷ xs) ys (suc k) x h = get_either xs ys k x h

pub get_take : {A : Type 0} (n : ℕ) (xs : List A) (k : ℕ) → k < n → slice_get (take n xs) k ≡ slice_get xs k
get_take zero xs k lt = absurd (omega arith)
get_take (suc n) [] k lt = refl
get_take (suc n) (x ∷ xs) zero lt = refl
get_take (suc n) (x ∷ xs) (suc k) lt = get_take n xs k (omega arith)

pub taken_below : {A : Type 0} (n : ℕ) (xs : List A) (k : ℕ) (x : A) → slice_get (take n xs) k ≡ Some x → k < n
taken_below zero xs k x h = cc
taken_below (suc n) [] k x h = cc
taken_below (suc n) (y ∷ xs) zero x h = omega arith
taken_below (suc n) (y ∷ xs) (suc k) x h = let i = taken_below n xs k x h in omega arith

pub taken_get : {A : Type 0} (n : ℕ) (xs : List A) (k : ℕ) (x : A) → slice_get (take n xs) k ≡ Some x → slice_get xs k ≡ Some x
taken_get n xs k x h = sym (get_take n xs k (taken_below n xs k x h)) ∙ h

pub get_some : {A : Type 0} (xs : List A) (k : ℕ) → k < length xs → (x : A) × (slice_get xs k ≡ Some x)
get_some [] k lt = absurd (omega (arith, lt))
get_some (x ∷ xs) zero lt = (x, refl)
get_some (x ∷ xs) (suc k) lt = get_some xs k (omega (arith, lt))

pub get_seam : {A : Type 0} (xs ys : List A) (y : A) → slice_get (xs ++ y ∷ ys) (length xs) ≡ Some y
get_seam [] ys y = refl
get_seam (x ∷ xs) ys y = get_seam xs ys y

-- an element of a list with one more is an old one or the new one
pub get_push : {A : Type 0} (xs : List A) (y : A) (k : ℕ) (x : A) → slice_get (xs ++ y ∷ []) k ≡ Some x → (slice_get xs k ≡ Some x) ⊎ ((k ≡ length xs) × (y ≡ x))
get_push [] y zero x h = inr (refl, cc)
get_push [] y (suc k) x h = cc
get_push (z ∷ xs) y zero x h = inl h
get_push (z ∷ xs) y (suc k) x h = elim (get_push xs y k x h) [ inl e ↦ inl e | inr e ↦ inr (ap suc e.0, e.1) ]

-- a list at one of its elements
pub record SplitAt {A : Type 0} (xs : List A) (k : ℕ) (x : A) : Type 0 where
  pub front : List A
  pub back : List A
  pub whole : xs ≡ front ++ x ∷ back
  pub place : length front ≡ k

pub split_at : {A : Type 0} (xs : List A) (k : ℕ) (x : A) → slice_get xs k ≡ Some x → SplitAt xs k x
split_at [] k x h = cc
split_at (y ∷ xs) zero x h = record { front = []; back = xs; whole = cc; place = refl }
split_at (y ∷ xs) (suc k) x h =
    let r = split_at xs k x h in
    record { front = y ∷ r.front; back = r.back; whole = ap (λ l. y ∷ l) r.whole; place = ap suc r.place }

-- the same, with the place in the second
pub get_joined : {A : Type 0} (xs ys : List A) (k : ℕ) (x : A) → slice_get (xs ++ ys) k ≡ Some x → (slice_get xs k ≡ Some x) ⊎ ((j : ℕ) × (k ≡ length xs + j) × (slice_get ys j ≡ Some x))
get_joined [] ys k x h = inr (k, omega arith, h)
get_joined (y ∷ xs) ys zero x h = inl h
get_joined (y ∷ xs) ys (suc k) x h = elim (get_joined xs ys k x h) [ inl e ↦ inl e | inr e ↦ inr (e.0, (let f = e.1 in omega arith), e.2) ]

-- ---- a list with another element at one place

pub get_set_same : {A : Type 0} (xs : List A) (k : ℕ) (x y : A) → slice_get xs k ≡ Some x → slice_get (slice_set xs k y) k ≡ Some y
get_set_same [] k x y h = cc
get_set_same (z ∷ xs) zero x y h = refl
get_set_same (z ∷ xs) (suc k) x y h = get_set_same xs k x y h

pub get_set_other : {A : Type 0} (xs : List A) (k i : ℕ) (x y : A) → (i ≡ k → ⊥) → slice_get (slice_set xs k y) i ≡ Some x → slice_get xs i ≡ Some x
get_set_other [] k i x y ne h = h
get_set_other (z ∷ xs) zero zero x y ne h = absurd (ne refl)
get_set_other (z ∷ xs) zero (suc i) x y ne h = h
get_set_other (z ∷ xs) (suc k) zero x y ne h = h
get_set_other (z ∷ xs) (suc k) (suc i) x y ne h = get_set_other xs k i x y (λ e. ne (ap suc e)) h

pub get_past_other : {A : Type 0} (xs : List A) (k i : ℕ) (x y : A) → (i ≡ k → ⊥) → slice_get xs i ≡ Some x → slice_get (slice_set xs k y) i ≡ Some x
get_past_other [] k i x y ne h = h
get_past_other (z ∷ xs) zero zero x y ne h = absurd (ne refl)
get_past_other (z ∷ xs) zero (suc i) x y ne h = h
get_past_other (z ∷ xs) (suc k) zero x y ne h = h
get_past_other (z ∷ xs) (suc k) (suc i) x y ne h = get_past_other xs k i x y (λ e. ne (ap suc e)) h
