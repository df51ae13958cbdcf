-- The maps of the store, read by names and by ids.
use Rattle.std.proofs.Common.{Ordering, ◌≡◌, ℕ, ℤ, Bool, true, false, cond, List, [], ◌∷◌, Some, None, string_bytes, refl, sym, ap, ap₂, ◌∙◌, inl, inr}
use Rattle.std.specs.Prelude.{if◌then◌else◌, ◌&&◌}
use Rattle.std.specs.declared.cmp.Ordering.TheVariants.{Less, Equal, Greater}
use Rattle.std.specs.BTreeMap.{BTreeMap, UpdatesBy, get_by}
use Rattle.std.specs.Cmp.{Equal-is, int_cmp_is}
use Rattle.std.specs.Map.{AreApart, IsKeyTest, KeepsOthers, lookup}
use Rattle.std.specs.Ordering.{eq_by_cmp, int_cmp, int_eq, is_eq, ordering_then}
use Rattle.std.specs.Str.{bytes_eq}
use Rattle.std.specs.String.{string_cmp}
use Rattle.std.proofs.lemmas.Bool.{and_parts, cases_Bool}
use Rattle.std.proofs.lemmas.Bool.Decides.{Decides-int_eq}
use Rattle.std.proofs.lemmas.Map.Lookups.{exact_signed}
use Rattle.std.proofs.lemmas.Map.Text.{is_eq-slice_cmp}
use Rattle.std.proofs.lemmas.Slice.Eq.{bytes_eq-Decides}
use Rattle.mg_link.specs.declared.namespace.Namespace.{Namespace}
use Rattle.mg_link.specs.Namespace.{Space, space}
use Rattle.mg_server.specs.State.{is_space}
use Rattle.mg_query.specs.declared.collection.Collection.{Collection}
use Rattle.mg_query.proofs.Spaces.{ns_cmp}
use Rattle.mg_store.specs.Contents.{collection_at}

-- ---- ids

same_tests : (a b : Bool) → (a ≡ true → b ≡ true) → (b ≡ true → a ≡ true) → a ≡ b
same_tests true b f g = sym (f refl)
same_tests false true f g = g refl
same_tests false false f g = refl

pub int_test : (k q : ℤ) → is_eq (int_cmp k q) ≡ int_eq q k
int_test k q =
    same_tests (is_eq (int_cmp k q)) (int_eq q k)
    (λ h. (Decides-int_eq q k).1 (sym (exact_signed k q ((Equal-is (int_cmp k q)).0 h))))
    (λ h. (Equal-is (int_cmp k q)).1 (sym (int_cmp_is k q Equal (sym ((Decides-int_eq q k).0 h)))))

-- ---- names

then_eq : (a b : Ordering) → is_eq (ordering_then a b) ≡ (is_eq a && is_eq b)
then_eq Less b = refl
then_eq Equal b = refl
then_eq Greater b = refl

pub spaces : (a b : Namespace) → is_eq (ns_cmp a b) ≡ is_space (space a) (space b)
spaces a b = then_eq (string_cmp a.db b.db) (string_cmp a.coll b.coll) ∙ ap₂ (λ (x y : Bool). x && y) (is_eq-slice_cmp (string_bytes a.db) (string_bytes b.db)) (is_eq-slice_cmp (string_bytes a.coll) (string_bytes b.coll))

pub same_space : (s t : Space) → is_space s t ≡ true → s ≡ t
same_space s t h =
    let parts = and_parts (bytes_eq s.db t.db) (bytes_eq s.coll t.coll) h in
    ap₂ (λ (db coll : List ℕ). record { db = db; coll = coll }) ((bytes_eq-Decides s.db t.db).0 parts.0) ((bytes_eq-Decides s.coll t.coll).0 parts.1)

lookup_same : {K X : Type 0} (p q : K → Bool) (es : List (K × X)) → ((k : K) → p k ≡ q k) → lookup p es ≡ lookup q es
lookup_same p q [] h = refl
lookup_same p q (e ∷ es) h = ap₂ (λ b o. cond b (Some e.1) o) (h e.0) (lookup_same p q es h)

-- what the name finds
pub found_at : (ns : Namespace) (m : BTreeMap Namespace Collection) → get_by (ns_cmp ns) m ≡ collection_at m (space ns)
found_at ns m = lookup_same (λ k. is_eq (ns_cmp ns k)) (λ k. is_space (space ns) (space k)) m.entries (spaces ns)

space_test : (s : Space) → IsKeyTest (eq_by_cmp ns_cmp) (λ k. is_space s (space k))
space_test s x y h = ap (λ (t : Space). is_space t (space y)) (same_space s (space x) h) ∙ sym (spaces x y)

spaces_apart : (ns : Namespace) (s : Space) → is_space s (space ns) ≡ false → AreApart (λ k. is_eq (ns_cmp ns k)) (λ k. is_space s (space k))
spaces_apart ns s differ k h = ap (is_space s) (sym (same_space (space ns) (space k) (sym (spaces ns k) ∙ h))) ∙ differ

-- the collections behind a change at a name
pub collections_update : (ns : Namespace) (w : Collection) (m n : BTreeMap Namespace Collection) → UpdatesBy ns_cmp (ns_cmp ns) m n (Some w) → (s : Space) → collection_at n s ≡ (if is_space s (space ns) then Some w else collection_at m s)
unfolding KeepsOthers
collections_update ns w m n updates s =
    elim (cases_Bool (is_space s (space ns))) [
      | inl same ↦ ap (collection_at n) (same_space s (space ns) same) ∙ sym (found_at ns n) ∙ updates.1 ∙ sym (ap (λ (b : Bool). if b then Some w else collection_at m s) same)
      | inr differ ↦ updates.3 (λ k. is_space s (space k)) (space_test s) (spaces_apart ns s differ) ∙ sym (ap (λ (b : Bool). if b then Some w else collection_at m s) differ)
    ]

-- and behind one that took a name out
pub collections_without : (ns : Namespace) (m n : BTreeMap Namespace Collection) → UpdatesBy ns_cmp (ns_cmp ns) m n None → (s : Space) → collection_at n s ≡ (if is_space s (space ns) then None else collection_at m s)
unfolding KeepsOthers
collections_without ns m n updates s =
    elim (cases_Bool (is_space s (space ns))) [
      | inl same ↦ ap (collection_at n) (same_space s (space ns) same) ∙ sym (found_at ns n) ∙ updates.1 ∙ sym (ap (λ (b : Bool). if b then None else collection_at m s) same)
      | inr differ ↦ updates.3 (λ k. is_space s (space k)) (space_test s) (spaces_apart ns s differ) ∙ sym (ap (λ (b : Bool). if b then None else collection_at m s) differ)
    ]
