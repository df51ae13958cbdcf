-- Where the first 0 stands.
use Rattle.std.proofs.Common.{◌≡◌, ◌≢◌, ℕ, zero, suc, ◌<◌, List, [], ◌∷◌, length, get_or, take, drop, eqb, Option, Some, None, MatchOption, option_map, Result, Ok, Err, MatchResult, refl, sym, ap, ◌∙◌, arith, Bool, true, false, ◌||◌, cond}
use Rattle.std.proofs.lemmas.Bool.{ne_eqb}
use Rattle.std.proofs.lemmas.Str.{IsUtf8-from_is_utf8, is_utf8-from_IsUtf8}
use Rattle.std.specs.List.{list_any, AllWithin, HoldsAt}
use Rattle.std.specs.Result.{result_ok}
use Rattle.std.specs.Str.{IsUtf8, is_utf8}
use Rattle.mg_bson.specs.Reading.{cut, utf8_of}
use Rattle.mg_bson.specs.Writable.{has_zero}

abbrev shift : ℕ → List ℕ × List ℕ → List ℕ × List ℕ
shift b p = (b ∷ p.0, p.1)

pub cut_here : (bs : List ℕ) (i : ℕ) → ((k : ℕ) → k < i → get_or bs k 0 ≢ 0) → i < length bs → get_or bs i 0 ≡ 0 → cut bs ≡ Some (take i bs, drop (suc i) bs)
cut_here [] i before lt here = absurd (omega arith)
cut_here (zero ∷ bs) zero before lt here = refl
cut_here (suc b ∷ bs) zero before lt here = absurd (omega arith)
cut_here (zero ∷ bs) (suc i) before lt here = absurd (before 0 (omega arith) refl)
cut_here (suc b ∷ bs) (suc i) before lt here = ap (option_map (shift (suc b))) (cut_here bs i (λ k h. before (suc k) (omega arith)) (omega arith) here)

pub cut_nowhere : (bs : List ℕ) → ((k : ℕ) → k < length bs → get_or bs k 0 ≢ 0) → cut bs ≡ None
cut_nowhere [] none = refl
cut_nowhere (zero ∷ bs) none = absurd (none 0 (omega arith) refl)
cut_nowhere (suc b ∷ bs) none = ap (option_map (shift (suc b))) (cut_nowhere bs (λ k h. none (suc k) (omega arith)))

-- where the first 0 is, as `position` says it
pub cut_at_first : (bs : List ℕ) (r : Option ℕ) → MatchOption r (AllWithin (λ b. b ≢ 0) bs 0 (length bs)) (λ i. (i < length bs) × HoldsAt (λ b. b ≡ 0) bs i × AllWithin (λ b. b ≢ 0) bs 0 i)
    → cut bs ≡ option_map (λ i. (take i bs, drop (suc i) bs)) r
cut_at_first bs None h = cut_nowhere bs (λ k lt. h k 0 (omega arith) lt)
cut_at_first bs (Some i) h = cut_here bs i (λ k lt. h.2 k 0 (omega arith) lt) h.0 (h.1 0)

-- whether some byte is 0, as `contains` says it
pub any_zero : (bs : List ℕ) → list_any (λ b. eqb b 0) bs ≡ has_zero bs
any_zero [] = refl
any_zero (zero ∷ bs) = refl
any_zero (suc b ∷ bs) = ap (λ p. p || list_any (λ b. eqb b 0) bs) (ne_eqb (suc b) 0 (λ (e : suc b ≡ 0). omega arith)) ∙ any_zero bs

pub text_is : (bs : List ℕ) → IsUtf8 bs → utf8_of bs ≡ Some bs
unfolding utf8_of
text_is bs h = rw (is_utf8-from_IsUtf8 bs h) refl

no_choice : (b : Bool) (bs : List ℕ) → (b ≡ true → ⊥) → cond b (Some bs) None ≡ None
no_choice true bs not = absurd (not refl)
no_choice false bs not = refl

no_text : (bs : List ℕ) → (IsUtf8 bs → ⊥) → utf8_of bs ≡ None
unfolding utf8_of
no_text bs h = no_choice (is_utf8 bs) bs (λ e. h (IsUtf8-from_is_utf8 bs e))

-- the text that `from_utf8` gives, if it gives one
pub text_given : {S E : Type 0} (view : S → List ℕ) (P : E → Type 0) (bs : List ℕ) (r : Result S E) → MatchResult r (λ s. (view s ≡ bs) × IsUtf8 bs) (λ e. (IsUtf8 bs → ⊥) × P e) → option_map view (result_ok r) ≡ utf8_of bs
text_given view P bs (Ok s) h = ap Some h.0 ∙ sym (text_is bs h.1)
text_given view P bs (Err e) h = sym (no_text bs h.0)
