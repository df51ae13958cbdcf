-- Ids that are drawn one by one.
use Rattle.std.proofs.Common.{◌≡◌, ◌==◌, ◌+◌, ◌<◌, ◌≤◌, ℕ, zero, suc, Bool, true, false, Option, Some, None, if◌then◌else◌, eq-eqb, eqb-true, List, [], ◌∷◌, ◌++◌, length, refl, sym, ap, ◌∙◌, inl, inr, ◌⊎◌, arith}
use Rattle.std.specs.Prelude.{slice_get}
use Rattle.std.proofs.lemmas.Option.{slice_get_past}
use Rattle.mg_bson.specs.declared.object_id.ObjectId.{ObjectId}
use Rattle.mg_ops.specs.Drawn.{AreLater}
use Rattle.mg_players.specs.Kept.{as_id, id_or_zeros, kept_id, zeros}

-- one more was drawn
pub one_later : (ids now later : ℕ → List ℕ) (n : ℕ) → AreLater ids n now → ((k : ℕ) → later k ≡ now (k + 1)) → AreLater ids (n + 1) later
one_later ids now later n before after k = after k ∙ before (k + 1) ∙ ap ids (omega arith)

kept_front : (ids : List ObjectId) (id : ObjectId) (k : ℕ) → k < length ids → kept_id (ids ++ id ∷ []) k ≡ kept_id ids k
kept_front [] id k within = absurd (omega (arith, within))
kept_front (x ∷ ids) id zero within = refl
kept_front (x ∷ ids) id (suc k) within = kept_front ids id k (omega (arith, within))

kept_end : (ids : List ObjectId) (id : ObjectId) → kept_id (ids ++ id ∷ []) (length ids) ≡ as_id id.0
kept_end [] id = refl
kept_end (x ∷ ids) id = kept_end ids id

least : (k n : ℕ) → k < n + 1 → (k < n) ⊎ (k ≡ n)
least zero zero within = inr refl
least zero (suc n) within = inl (omega arith)
least (suc k) zero within = absurd (omega (arith, within))
least (suc k) (suc n) within = elim (least k n (omega (arith, within))) [ inl less ↦ inl (omega (arith, less)) | inr same ↦ inr (ap suc same) ]

-- the bytes of an id are twelve
pub same_id : (bytes : List ℕ) → length bytes ≡ 12 → as_id bytes ≡ bytes
same_id bytes long = ap (λ (b : Bool). if b then bytes else zeros) (eq-eqb (length bytes) 12 long)

twelve_in : (bytes : List ℕ) (b : Bool) → (length bytes == 12) ≡ b → length (if b then bytes else zeros) ≡ 12
twelve_in bytes true is = eqb-true (length bytes) 12 is
twelve_in bytes false is = refl

twelve_of : (o : Option ObjectId) → length (id_or_zeros o) ≡ 12
twelve_of None = refl
twelve_of (Some id) = twelve_in id.0 (length id.0 == 12) refl

pub kept_twelve : (ids : List ObjectId) (k : ℕ) → length (kept_id ids k) ≡ 12
kept_twelve ids k = twelve_of (slice_get ids k)

-- one that is there, and what stands behind the last
pub kept_there : (ids : List ObjectId) (at : ℕ) (id : ObjectId) → slice_get ids at ≡ Some id → length id.0 ≡ 12 → id.0 ≡ kept_id ids (at + 0)
kept_there ids at id there long = let same : at ≡ at + 0 = omega arith in sym (same_id id.0 long) ∙ ap id_or_zeros (sym there) ∙ ap (kept_id ids) same

pub kept_past : (ids : List ObjectId) (k : ℕ) → length ids ≤ k → kept_id ids k ≡ zeros
kept_past ids k past = ap id_or_zeros (slice_get_past ids k past)

-- one more was kept
pub one_kept : (ids now : ℕ → List ℕ) (kept : List ObjectId) (id : ObjectId) (n : ℕ) → length kept ≡ n → AreLater ids n now → length id.0 ≡ 12 → id.0 ≡ now 0 → ((k : ℕ) → k < n → kept_id kept k ≡ ids k) → (k : ℕ) → k < n + 1 → kept_id (kept ++ id ∷ []) k ≡ ids k
one_kept ids now kept id n count later long is before k within =
    elim (least k n within) [
      | inl less ↦ kept_front kept id k (omega (arith, less, count)) ∙ before k less
      | inr same ↦ ap (kept_id (kept ++ id ∷ [])) (same ∙ sym count) ∙ kept_end kept id ∙ same_id id.0 long ∙ is ∙ later 0 ∙ ap ids (omega (arith, same))
    ]
