-- Encodings in order, and the tests of documents by them.
use Rattle.std.proofs.Common.{◌≡◌, ℕ, Bool, true, false, cond, List, [], ◌∷◌, ◌++◌, map, Option, Some, None, refl, sym, ap, ap₂, ◌∙◌, Vec}
use Rattle.std.specs.Prelude.{if◌then◌else◌, ◌||◌, ◌&&◌, string_bytes, take}
use Rattle.std.specs.declared.alloc.Global.{Global}
use Rattle.std.specs.declared.cmp.Ordering.TheVariants.{Equal}
use Rattle.std.specs.BTreeMap.{is_at}
use Rattle.std.specs.BTreeSet.{BTreeSet, contains, insert_key}
use Rattle.std.specs.List.{filter, list_any}
use Rattle.std.specs.Ordering.{is_eq}
use Rattle.std.specs.Str.{bytes_eq}
use Rattle.std.proofs.lemmas.Map.Text.{is_eq-slice_cmp}
use Rattle.std.proofs.lemmas.Slice.Eq.{bytes_eq-Decides}
use Rattle.mg_bson.specs.Tree.{Tree, Fields}
use Rattle.mg_bson.specs.Find.{get}
use Rattle.mg_server.specs.Filter.{key}
use Rattle.mg_query.specs.Asking.{Keyed, has_key, held, is_key_among, matches_keys, meets_keys}
use Rattle.mg_query.specs.Numbering.{vec_cmp}
use Rattle.mg_query.specs.Querying.{chosen_by}
use Rattle.mg_query.specs.Selecting.{held_test}
use Rattle.mg_query.specs.declared.filter.Condition.{Condition}
use Rattle.mg_query.specs.declared.selection.Test.{Test}
use Rattle.mg_query.proofs.Looking.{turned}
use Rattle.mg_query.proofs.Sets.{any_insert}

abbrev Key : Type 0
Key = Vec ℕ Global

abbrev pub is_among : List ℕ → List Key → Bool
is_among k ks = is_key_among k (map (λ (l : Key). l.items) ks)

-- ---- sets of encodings

same_items : (x y : Key) → vec_cmp x y ≡ Equal → x.items ≡ y.items
same_items x y h = (bytes_eq-Decides x.items y.items).0 (sym (is_eq-slice_cmp x.items y.items) ∙ ap is_eq h)

among_any : (k : List ℕ) (ks : List Key) → is_among k ks ≡ list_any (λ (l : Key). bytes_eq l.items k) ks
among_any k [] = refl
among_any k (l ∷ ks) = ap (λ (b : Bool). bytes_eq l.items k || b) (among_any k ks)

-- an encoding more in order
among_insert : (k : List ℕ) (x : Key) (ks : List Key) → is_among k (insert_key vec_cmp ks x) ≡ (bytes_eq x.items k || is_among k ks)
among_insert k x ks =
    among_any k (insert_key vec_cmp ks x) ∙ any_insert vec_cmp (λ (l : Key). bytes_eq l.items k) (λ y z h. ap (λ (l : List ℕ). bytes_eq l k) (same_items y z h)) x ks ∙ ap (λ (b : Bool). bytes_eq x.items k || b) (sym (among_any k ks))

moved : (a b c : Bool) → ((a || b) || c) ≡ (b || (a || c))
moved true true c = refl
moved true false c = refl
moved false true c = refl
moved false false c = refl

-- the encodings that were ordered, and those that are left
pub ordered_more : (k : List ℕ) (x y : Key) (ks old new : List Key) (all : Bool) → x.items ≡ y.items → new ≡ insert_key vec_cmp old x → (is_among k old || is_among k (y ∷ ks)) ≡ all → (is_among k new || is_among k ks) ≡ all
ordered_more k x y ks old new all same put h =
    ap (λ (l : List Key). is_among k l || is_among k ks) put ∙ ap (λ (b : Bool). b || is_among k ks) (among_insert k x old ∙ ap (λ (l : List ℕ). bytes_eq l k || is_among k old) same)
    ∙ moved (bytes_eq y.items k) (is_among k old) (is_among k ks) ∙ h

contained_in : (k : Key) (ks : List Key) → list_any (is_at (vec_cmp k)) ks ≡ is_among k.items ks
contained_in k [] = refl
contained_in k (l ∷ ks) = ap₂ (λ (a b : Bool). a || b) (is_eq-slice_cmp k.items l.items ∙ turned k.items l.items) (contained_in k ks)

-- a set has the encoding where it is among its keys
pub contained : (k : Key) (s : BTreeSet Key) → contains vec_cmp s k ≡ is_among k.items s.keys
contained k s = contained_in k s.keys

-- ---- conditions

same_test : (xs ys : List Key) (o : Option Tree) → ((k : List ℕ) → is_among k xs ≡ is_among k ys) → has_key (map (λ (l : Key). l.items) xs) o ≡ has_key (map (λ (l : Key). l.items) ys) o
same_test xs ys None h = refl
same_test xs ys (Some t) h = h (key t)

one : (a b : Bool) → ((a && true) && b) ≡ (a && b)
one true b = refl
one false b = refl

apart : (a b c : Bool) → ((a && b) && c) ≡ (a && (b && c))
apart true b c = refl
apart false b c = refl

last_met : (cs : List Keyed) (c : Keyed) (d : Fields) (b : Bool) → (matches_keys (cs ++ c ∷ []) d && b) ≡ (matches_keys cs d && (meets_keys c d && b))
last_met [] c d b = one (meets_keys c d) b
last_met (x ∷ cs) c d b = apart (meets_keys x d) (matches_keys (cs ++ c ∷ []) d) b ∙ ap (λ (y : Bool). meets_keys x d && y) (last_met cs c d b) ∙ sym (apart (meets_keys x d) (matches_keys cs d) (meets_keys c d && b))

-- the tests that were made, and the conditions that are left
pub tests_more : (ts new : List Test) (t : Test) (c : Condition) (rest : List Keyed) (d : Fields) (all : Bool) → t.name.now ≡ string_bytes c.name → ((k : List ℕ) → is_among k t.keys.keys ≡ is_among k c.keys.items) → map held_test new ≡ map held_test ts ++ held_test t ∷ []
    → (matches_keys (map held_test ts) d && matches_keys (held c ∷ rest) d) ≡ all → (matches_keys (map held_test new) d && matches_keys rest d) ≡ all
tests_more ts new t c rest d all named same put h =
    ap (λ (l : List Keyed). matches_keys l d && matches_keys rest d) put ∙ last_met (map held_test ts) (held_test t) d (matches_keys rest d)
    ∙ ap (λ (b : Bool). matches_keys (map held_test ts) d && (b && matches_keys rest d))
    (ap (λ (n : List ℕ). has_key (map (λ (l : Key). l.items) t.keys.keys) (get n d)) named ∙ same_test t.keys.keys c.keys.items (get (string_bytes c.name) d) same)
    ∙ h

-- ---- documents

-- the same tests select the same documents
pub same_selected : (cs ds : List Keyed) (l : List Fields) → ((d : Fields) → matches_keys cs d ≡ matches_keys ds d) → filter (matches_keys cs) l ≡ filter (matches_keys ds) l
same_selected cs ds [] h = refl
same_selected cs ds (d ∷ l) h = ap₂ (λ (b : Bool) (rest : List Fields). cond b (d ∷ rest) rest) (h d) (same_selected cs ds l h)

pub same_chosen : (cs ds : List Keyed) (many : Bool) (l : List Fields) → ((d : Fields) → matches_keys cs d ≡ matches_keys ds d) → chosen_by cs many l ≡ chosen_by ds many l
same_chosen cs ds many l h = ap (λ (rest : List Fields). if many then rest else take 1 rest) (same_selected cs ds l h)
