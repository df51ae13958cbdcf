-- The documents of a collection, where they are changed, removed or looked up by their ids.
use Rattle.std.specs.Prelude.{◌≡◌, ℕ, Bool, true, false, not, option_map, List, [], ◌∷◌, map, if◌then◌else◌, Vec}
use Rattle.std.specs.declared.alloc.Global.{Global}
use Rattle.std.specs.BTreeMap.{is_at}
use Rattle.std.specs.BTreeSet.{BTreeSet, IsOrdered}
use Rattle.std.specs.List.{AllByRecursion, filter, list_any}
use Rattle.std.specs.Map.{lookup}
use Rattle.std.specs.Ordering.{nat_cmp}
use Rattle.mg_bson.specs.Tree.{Fields}
use Rattle.mg_bson.specs.Raw.{fields}
use Rattle.mg_query.specs.Asking.{Keyed, ahead, matches_keys}
use Rattle.mg_query.specs.Numbering.{holds_id, is_of_id, IsExact, IsKeyed, document_of}
use Rattle.mg_query.specs.declared.collection.Collection.{Collection}
use Rattle.mg_query.specs.declared.collection.KeyedDocument.{KeyedDocument}

-- the document in the place of that with this id
abbrev pub exchange_document : List ℕ → Fields → List Fields → List Fields
exchange_document k d ds = map (λ e. if is_of_id k e then d else e) ds

-- without the document with this id
abbrev pub without_document : List ℕ → List Fields → List Fields
without_document k ds = filter (λ d. not (is_of_id k d)) ds

-- the documents once each of these stands in the place of that with its id
abbrev pub exchange_documents : List KeyedDocument → List Fields → List Fields
exchange_documents [] ds = ds
exchange_documents (k ∷ ks) ds = exchange_documents ks (exchange_document k.key.items (document_of k) ds)

-- each is held as its encoding, with its id under the encoding of that
abbrev pub AreKeyed : List KeyedDocument → Type 0
AreKeyed [] = Unit {0}
AreKeyed (k ∷ ks) = IsKeyed k.key.items (document_of k) × IsExact k.document × AreKeyed ks

-- the documents without those with these ids
abbrev pub without_documents : List (Vec ℕ Global) → List Fields → List Fields
without_documents [] ds = ds
without_documents (k ∷ ks) ds = without_documents ks (without_document k.items ds)

-- no two documents have the same id
abbrev pub AreDistinct : List Fields → Type 0
AreDistinct [] = Unit {0}
AreDistinct (d ∷ ds) = ((k : Vec ℕ Global) → is_of_id k.items d ≡ true → holds_id k.items ds ≡ false) × AreDistinct ds

-- the number is one of these
abbrev pub is_in : List ℕ → ℕ → Bool
is_in ns m = list_any (is_at (nat_cmp m)) ns

-- the documents with these numbers, one after another
abbrev pub looked_up : List ℕ → List (ℕ × List ℕ) → List Fields
looked_up [] es = []
looked_up (n ∷ ns) es = ahead (option_map fields (lookup (is_at (nat_cmp n)) es)) (looked_up ns es)

-- the numbers ascend, and that of each document that meets the conditions is one of them
pub record Covers (cs : List Keyed) (c : Collection) (ns : BTreeSet ℕ) : Type 0 where
  pub ordered : IsOrdered nat_cmp ns
  pub each : AllByRecursion (λ (e : ℕ × List ℕ). matches_keys cs (fields e.1) ≡ true → is_in ns.keys e.0 ≡ true) c.documents.entries
