-- The documents of a collection, by their numbers and by the encodings of their ids.
use Rattle.std.specs.declared.alloc.Global.{Global}
use Rattle.std.specs.Prelude.{◌≡◌, ◌<◌, ◌≤◌, ℕ, Bool, false, is_some, List, [], ◌∷◌, ◌++◌, map, Option, Some, None, codes, Vec}
use Rattle.std.specs.BTreeMap.{BTreeMap, IsOrdered, get_by, keys, values}
use Rattle.std.specs.Cmp.Lexicographic.{slice_cmp}
use Rattle.std.specs.List.{AllByRecursion, list_any}
use Rattle.std.specs.Ordering.{is_eq, nat_cmp}
use Rattle.std.specs.Str.{bytes_eq}
use Rattle.std.specs.declared.cmp.Ordering.{Ordering}
use denote.Ref.{Bor}
use Rattle.mg_bson.specs.Tree.{Tree, Fields}
use Rattle.mg_bson.specs.Bytes.{bytes}
use Rattle.mg_bson.specs.Raw.{fields}
use Rattle.mg_bson.specs.Find.{get}
use Rattle.mg_server.specs.Filter.{key}
use Rattle.mg_server.specs.State.{Index}
use Rattle.mg_query.specs.Grouping.{AreGrouped}
use Rattle.mg_query.specs.Indexing.{index_held}
use Rattle.mg_query.specs.declared.groups.Groups.{Groups}
use Rattle.mg_query.specs.declared.collection.Collection.{Collection}
use Rattle.mg_query.specs.declared.collection.KeyedDocument.{KeyedDocument}

-- ---- ids

-- the order of the encodings
abbrev pub vec_cmp : Vec ℕ Global → Vec ℕ Global → Ordering
vec_cmp x y = slice_cmp nat_cmp x.items y.items

abbrev pub has_this : List ℕ → Option Tree → Bool
has_this k None = false
has_this k (Some id) = bytes_eq (key id) k

-- the document has the id with this encoding
abbrev pub is_of_id : List ℕ → Fields → Bool
is_of_id k d = has_this k (get (codes "_id") d)

-- one of the documents has it
abbrev pub holds_id : List ℕ → List Fields → Bool
holds_id k ds = list_any (is_of_id k) ds

-- this is the encoding of the document's id
abbrev pub IsKeyed : List ℕ → Fields → Type 0
IsKeyed k d = (id : Tree) × (get (codes "_id") d ≡ Some id) × (k ≡ key id)

-- the number that a map of ids has for this encoding
abbrev pub number_in : BTreeMap (Vec ℕ Global) ℕ → List ℕ → Option ℕ
number_in ids k = get_by (λ (other : Vec ℕ Global). slice_cmp nat_cmp k other.items) ids

-- the number that was found is this one
abbrev pub is_number : Option ℕ → ℕ → Bool
is_number None n = false
is_number (Some m) n = is_eq (nat_cmp m n)

-- of the documents, just that which has the number has the id
abbrev pub IsNumbered : List ℕ → Option ℕ → List (ℕ × List ℕ) → Type 0
IsNumbered k found es = AllByRecursion (λ (e : ℕ × List ℕ). is_of_id k (fields e.1) ≡ is_number found e.0) es

-- ---- collections

-- the bytes are the encoding of the document that they are read as
abbrev pub IsExact : List ℕ → Type 0
IsExact written = written ≡ bytes (fields written)

-- the bytes of the documents of a collection
abbrev pub stored_bytes : Collection → List (List ℕ)
stored_bytes c = values c.documents

-- the documents of a collection
abbrev pub stored : Collection → List Fields
stored c = map fields (stored_bytes c)

-- the map of ids has the number of each document, and so have its groups; the number to come is above those that were
-- given; each document is held as its encoding
pub record AreNumbered (documents : BTreeMap ℕ (List ℕ)) (ids : BTreeMap (Vec ℕ Global) ℕ) (groups : Groups) (next : ℕ) : Type 0 where
  pub numbered : (k : Vec ℕ Global) → IsNumbered k.items (number_in ids k.items) documents.entries
  pub held : (k : Vec ℕ Global) → is_some (number_in ids k.items) ≡ holds_id k.items (map fields (values documents))
  pub below : AllByRecursion (λ (n : ℕ). n < next) (keys documents)
  pub sorted : IsOrdered nat_cmp documents
  pub grouped : AreGrouped groups documents.entries
  pub exact : AllByRecursion (λ (e : ℕ × List ℕ). IsExact e.1) documents.entries

abbrev pub KeepsIds : Collection → Type 0
KeepsIds c = AreNumbered c.documents c.ids c.groups c.next

-- nothing changed
pub record KeepsAll (old new : Collection) : Type 0 where
  pub keeps : KeepsIds new
  pub documents_same : new.documents.entries ≡ old.documents.entries
  pub next_same : new.next ≡ old.next

-- a document was put behind the others
pub record Pushes (document : List ℕ) (old new : Collection) : Type 0 where
  pub keeps : KeepsIds new
  pub documents_are : new.documents.entries ≡ old.documents.entries ++ (old.next, document) ∷ []
  pub next_is : old.next < new.next

-- there are more documents, whose numbers had not been given
pub record GrowsBySome (old new : Collection) : Type 0 where
  pub keeps : KeepsIds new
  pub more : List (ℕ × List ℕ)
  pub documents_are : new.documents.entries ≡ old.documents.entries ++ more
  pub numbers_are : AllByRecursion (λ (e : ℕ × List ℕ). old.next ≤ e.0) more
  pub next_is : old.next ≤ new.next

-- these are the documents more
abbrev pub Grows : List Fields → Collection → Collection → Type 0
Grows ds old new = GrowsBySome old new × (stored new ≡ stored old ++ ds)

-- the indexes of a collection, none where there is no collection
abbrev pub indexed : Option Collection → List Index
indexed None = []
indexed (Some c) = map index_held c.indexes.items

-- the indexes that are there before a command
abbrev pub indexes_there : Option (Bor Collection) → List Index
indexes_there None = []
indexes_there (Some c) = map index_held c.now.indexes.items

-- the documents that are there before a command
abbrev pub there : Option (Bor Collection) → List Fields
there None = []
there (Some c) = stored c.now

abbrev pub KeepsIdsThere : Option (Bor Collection) → Type 0
KeepsIdsThere None = Unit {0}
KeepsIdsThere (Some c) = KeepsIds c.now

-- ---- documents under their ids

abbrev pub document_of : KeyedDocument → Fields
document_of d = fields d.document

-- each is held as its encoding and has an id, under the encoding of that, which is neither there nor in front of it
abbrev pub HaveNewIds : List Fields → List KeyedDocument → Type 0
HaveNewIds before [] = Unit {0}
HaveNewIds before (d ∷ ds) = IsKeyed d.key.items (document_of d) × (holds_id d.key.items before ≡ false) × IsExact d.document × HaveNewIds (before ++ document_of d ∷ []) ds
