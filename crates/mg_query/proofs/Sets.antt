-- Tests of the keys of a set in order.
use Rattle.std.proofs.Common.{◌≡◌, Bool, true, false, cond, List, [], ◌∷◌, refl, sym, ap, ◌∙◌, inl, inr}
use Rattle.std.specs.Prelude.{◌||◌}
use Rattle.std.specs.declared.cmp.Ordering.{Ordering}
use Rattle.std.specs.declared.cmp.Ordering.TheVariants.{Less, Equal, Greater}
use Rattle.std.specs.BTreeSet.{insert_key}
use Rattle.std.specs.List.{list_any}
use Rattle.std.specs.Ordering.{match_ordering}
use Rattle.std.specs.Set.{remove_key}
use Rattle.std.proofs.lemmas.Bool.{cases_Bool}

pub either_first : (a b c : Bool) → (a || (b || c)) ≡ (b || (a || c))
either_first true true c = refl
either_first true false c = refl
either_first false true c = refl
either_first false false c = refl

twice : (a c : Bool) → (a || c) ≡ (a || (a || c))
twice true c = refl
twice false c = refl

any_by : {K : Type 0} (cmp : K → K → Ordering) (p : K → Bool) (x y : K) (ks : List K) (o : Ordering) → (o ≡ Equal → p x ≡ p y) → list_any p (insert_key cmp ks x) ≡ (p x || list_any p ks)
    → list_any p (match_ordering o (x ∷ y ∷ ks) (y ∷ ks) (y ∷ insert_key cmp ks x)) ≡ (p x || (p y || list_any p ks))
any_by cmp p x y ks Less same more = refl
any_by cmp p x y ks Equal same more = twice (p y) (list_any p ks) ∙ ap (λ (b : Bool). b || (p y || list_any p ks)) (sym (same refl))
any_by cmp p x y ks Greater same more = ap (λ (b : Bool). p y || b) more ∙ either_first (p y) (p x) (list_any p ks)

-- a key more, where the test cannot tell equal keys apart
pub any_insert : {K : Type 0} (cmp : K → K → Ordering) (p : K → Bool) → ((x y : K) → cmp x y ≡ Equal → p x ≡ p y) → (x : K) (ks : List K) → list_any p (insert_key cmp ks x) ≡ (p x || list_any p ks)
any_insert cmp p same x [] = refl
any_insert cmp p same x (y ∷ ks) = any_by cmp p x y ks (cmp x y) (same x y) (any_insert cmp p same x ks)

-- a key less, where the test fails at those that are taken out
pub any_remove : {K : Type 0} (t p : K → Bool) → ((x : K) → t x ≡ true → p x ≡ false) → (ks : List K) → list_any p (remove_key t ks) ≡ list_any p ks
any_remove t p other [] = refl
any_remove t p other (x ∷ ks) =
    elim (cases_Bool (t x)) [
      | inl is ↦ ap (λ (b : Bool). list_any p (cond b ks (x ∷ remove_key t ks))) is ∙ sym (ap (λ (b : Bool). b || list_any p ks) (other x is))
      | inr not ↦ ap (λ (b : Bool). list_any p (cond b ks (x ∷ remove_key t ks))) not ∙ ap (λ (b : Bool). p x || b) (any_remove t p other ks)
    ]

pub or_right : (a b : Bool) → b ≡ true → (a || b) ≡ true
or_right true b h = refl
or_right false b h = h

-- a test that passes where another does
pub any_more : {K : Type 0} (p q : K → Bool) → ((x : K) → p x ≡ true → q x ≡ true) → (ks : List K) → list_any p ks ≡ true → list_any q ks ≡ true
any_more p q h [] is = absurd cc
any_more p q h (x ∷ ks) is =
    elim (cases_Bool (p x)) [
      | inl here ↦ ap (λ (b : Bool). b || list_any q ks) (h x here)
      | inr not ↦ or_right (q x) (list_any q ks) (any_more p q h ks (sym (ap (λ (b : Bool). b || list_any p ks) not) ∙ is))
    ]
