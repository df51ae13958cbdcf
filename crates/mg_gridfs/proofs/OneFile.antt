-- Ids that a filter does not tell apart have the same file.
use Rattle.std.proofs.Common.{◌≡◌, ℕ, Bool, true, false, List, [], ◌∷◌, filter, Option, Some, None, refl, sym, ap, ap₂, ◌∙◌, subst}
use Rattle.std.specs.Prelude.{◌||◌, codes, if◌then◌else◌}
use Rattle.std.specs.Str.{bytes_eq}
use Rattle.std.proofs.lemmas.Slice.Eq.{bytes_eq-Decides}
use Rattle.mg_bson.specs.Find.{get}
use Rattle.mg_bson.specs.Tree.{Fields, Tree, item, no_items}
use Rattle.mg_server.specs.Files.{Bucket, by_number, chunks_space, file_of, files_space, has_value}
use Rattle.mg_server.specs.Filter.{Condition, key, meets, one_of}
use Rattle.mg_server.specs.Query.{sorted}
use Rattle.mg_server.specs.State.{State}
use Rattle.mg_server.specs.Step.{documents_of}

-- ---- filters

same_first : (d x : Fields) (ds xs : List Fields) → d ∷ ds ≡ x ∷ xs → d ≡ x
same_first d x ds xs is = cc

-- what is first of those that meet a condition meets it
pub first_meets : (c : Condition) (ds : List Fields) (x : Fields) (rest : List Fields) → filter (meets c) ds ≡ x ∷ rest → meets c x ≡ true
first_meets c [] x rest is = absurd cc
first_meets c (d ∷ ds) x rest is = by_first (meets c d) refl is (λ these. first_meets c ds x rest these)
  where
    by_first : (t : Bool) → meets c d ≡ t → (if t then d ∷ filter (meets c) ds else filter (meets c) ds) ≡ x ∷ rest → (filter (meets c) ds ≡ x ∷ rest → meets c x ≡ true) → meets c x ≡ true
    by_first true here these later = let same : d ≡ x = same_first d x (filter (meets c) ds) rest these in subst (λ (y : Fields). meets c y ≡ true) same here
    by_first false other these later = later these

those_alike : (c e : Condition) → ((d : Fields) → meets c d ≡ meets e d) → (ds : List Fields) → filter (meets c) ds ≡ filter (meets e) ds
those_alike c e alike [] = refl
those_alike c e alike (d ∷ ds) = ap₂ (λ (t : Bool) (l : List Fields). if t then d ∷ l else l) (alike d) (those_alike c e alike ds)

-- ---- ids

or_false : (t : Bool) → (t || false) ≡ true → t ≡ true
or_false true is = refl
or_false false is = absurd cc

-- a document that has one value where another is asked for
pub same_key : (name : List ℕ) (asked is : Tree) (d : Fields) → get name d ≡ Some is → meets (has_value name asked) d ≡ true → key asked ≡ key is
same_key name asked is d there met =
    let one : one_of (item asked no_items) (Some is) ≡ true = sym (ap (one_of (item asked no_items)) there) ∙ met in
    (bytes_eq-Decides (key asked) (key is)).0 (or_false (bytes_eq (key asked) (key is)) one)

same_meets : (name : List ℕ) (one other : Tree) → key one ≡ key other → (d : Fields) → meets (has_value name one) d ≡ meets (has_value name other) d
same_meets name one other same d = by_value (get name d)
  where
    by_value : (o : Option Tree) → one_of (item one no_items) o ≡ one_of (item other no_items) o
    by_value None = refl
    by_value (Some t) = ap (λ (k : List ℕ). bytes_eq k (key t) || false) same

pub one_file : (one other : Tree) → key one ≡ key other → (s : State) (b : Bucket) → file_of s b one ≡ file_of s b other
unfolding file_of
one_file one other same s b =
    ap₂ (λ (rs cs : List Fields). record { records = rs; chunks = cs })
    (those_alike (has_value (codes "_id") one) (has_value (codes "_id") other) (same_meets (codes "_id") one other same) (documents_of s (files_space b)))
    (ap (sorted by_number) (those_alike (has_value (codes "files_id") one) (has_value (codes "files_id") other) (same_meets (codes "files_id") one other same) (documents_of s (chunks_space b))))
