-- Which ids an insert draws.
use Rattle.std.proofs.Common.{◌≡◌, ◌+◌, ℕ, suc, List, [], ◌∷◌, ◌++◌, length, Option, refl, sym, ap, ◌∙◌, subst, take, arith}
use Rattle.std.specs.Prelude.{Some, slice_get}
use Rattle.std.proofs.lemmas.List.{length-take-le}
use Rattle.mg_bson.specs.Tree.{Fields}
use Rattle.mg_bson.specs.declared.object_id.ObjectId.{ObjectId}
use Rattle.mg_link.proofs.Places.{get_within, take_more}
use Rattle.mg_ops.specs.Drawn.{AreLater, lacking, lacks, sent_for, with_ids}
use Rattle.mg_ops.specs.Underway.{sent_of, with_id}

-- ---- a source

pub later_same : (ids : ℕ → List ℕ) → AreLater ids 0 ids
later_same ids k = ap ids (omega arith)

pub later_on : (ids now later : ℕ → List ℕ) (m n : ℕ) → AreLater ids m now → AreLater now n later → AreLater ids (m + n) later
later_on ids now later m n before after k = after k ∙ before (n + k) ∙ ap ids (omega arith)

-- documents get the same ids by other numbers
pub ids_by : (ids now : ℕ → List ℕ) (n : ℕ) → AreLater ids n now → (m : ℕ) (ds : List Fields) → with_ids now m ds ≡ with_ids ids (n + m) ds
ids_by ids now n later m [] = refl
ids_by ids now n later m (d ∷ ds) =
    ap (λ id. sent_for id d ∷ with_ids now (m + lacks d) ds) (later m)
    ∙ ap (λ es. sent_for (ids (n + m)) d ∷ es) (ids_by ids now n later (m + lacks d) ds ∙ ap (λ k. with_ids ids k ds) (omega arith))

pub ids_from : (ids now : ℕ → List ℕ) (n : ℕ) (ds : List Fields) → AreLater ids n now → with_ids now 0 ds ≡ with_ids ids n ds
ids_from ids now n ds later = ids_by ids now n later 0 ds ∙ ap (λ k. with_ids ids k ds) (omega arith)

-- ---- one document more

lacking_more : (ds : List Fields) (d : Fields) → lacking (ds ++ d ∷ []) ≡ lacking ds + lacks d
lacking_more [] d = omega arith
lacking_more (e ∷ ds) d = let more = lacking_more ds d in omega (arith, more)

ids_more : (ids : ℕ → List ℕ) (n : ℕ) (ds : List Fields) (d : Fields) → with_ids ids n (ds ++ d ∷ []) ≡ with_ids ids n ds ++ sent_for (ids (n + lacking ds)) d ∷ []
ids_more ids n [] d = ap (λ k. sent_for (ids k) d ∷ []) (omega arith)
ids_more ids n (e ∷ ds) d = ap (λ es. sent_for (ids n) e ∷ es) (ids_more ids (n + lacks e) ds d ∙ ap (λ k. with_ids ids (n + lacks e) ds ++ sent_for (ids k) d ∷ []) (omega arith))

sent_more : (os : List (Option ObjectId)) (ds : List Fields) (o : Option ObjectId) (d : Fields) → length os ≡ length ds → sent_of (os ++ o ∷ []) (ds ++ d ∷ []) ≡ sent_of os ds ++ with_id o d ∷ []
sent_more [] [] o d same = refl
sent_more (p ∷ os) (e ∷ ds) o d same = ap (λ es. with_id p e ∷ es) (sent_more os ds o d (omega (arith, same)))
sent_more [] (e ∷ ds) o d same = absurd (omega (arith, same))
sent_more (p ∷ os) [] o d same = absurd (omega (arith, same))

taken_more : (ds : List Fields) (k : ℕ) (d : Fields) → slice_get ds k ≡ Some d → take (k + 1) ds ≡ take k ds ++ d ∷ []
taken_more ds k d there = ap (λ n. take n ds) (let more : k + 1 ≡ suc k = omega arith in more) ∙ take_more ds k d there

-- a document's id was drawn
pub drawn_step : (ids now later : ℕ → List ℕ) (ds : List Fields) (k : ℕ) (d : Fields) → slice_get ds k ≡ Some d → AreLater ids (lacking (take k ds)) now → AreLater now (lacks d) later → AreLater ids (lacking (take (k + 1) ds)) later
drawn_step ids now later ds k d there before after =
    subst (λ n. AreLater ids n later) (sym (ap lacking (taken_more ds k d there) ∙ lacking_more (take k ds) d)) (later_on ids now later (lacking (take k ds)) (lacks d) before after)

-- and kept
pub kept_step : (ids now : ℕ → List ℕ) (ds : List Fields) (os : List (Option ObjectId)) (k : ℕ) (d : Fields) (o : Option ObjectId) → slice_get ds k ≡ Some d → length os ≡ k → AreLater ids (lacking (take k ds)) now → with_id o d ≡ sent_for (now 0) d
    → sent_of os (take k ds) ≡ with_ids ids 0 (take k ds) → sent_of (os ++ o ∷ []) (take (k + 1) ds) ≡ with_ids ids 0 (take (k + 1) ds)
kept_step ids now ds os k d o there count before is so_far =
    let whole = taken_more ds k d there in
    let id : now 0 ≡ ids (0 + lacking (take k ds)) = before 0 ∙ ap ids (omega arith) in
    ap (sent_of (os ++ o ∷ [])) whole
    ∙ sent_more os (take k ds) o d (count ∙ sym (let within = get_within ds k d there in length-take-le k ds (omega (arith, within))))
    ∙ ap (λ es. es ++ with_id o d ∷ []) so_far
    ∙ ap (λ e. with_ids ids 0 (take k ds) ++ e ∷ []) (is ∙ ap (λ x. sent_for x d) id)
    ∙ sym (ids_more ids 0 (take k ds) d)
    ∙ ap (with_ids ids 0) (sym whole)
