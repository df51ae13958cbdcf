-- What an insert makes of its documents.
use Rattle.std.specs.declared.alloc.Global.{Global}
use Rattle.std.specs.Prelude.{◌≡◌, ℕ, ℤ, Bool, true, false, cond, List, [], ◌∷◌, ◌++◌, map, Option, Some, None, Result, Ok, Err, codes, Vec}
use Rattle.std.specs.BTreeSet.{contains}
use Rattle.std.specs.Str.{bytes_eq}
use Rattle.mg_bson.specs.Tree.{Tree, Fields, document}
use Rattle.mg_bson.specs.Bytes.{bytes}
use Rattle.mg_bson.specs.Raw.{fields}
use Rattle.mg_bson.specs.Find.{get, with_item}
use Rattle.mg_bson.specs.View.{tree}
use Rattle.mg_bson.specs.declared.tree.Bson.{Bson}
use Rattle.mg_link.specs.Namespace.{Space, space}
use Rattle.mg_server.specs.Filter.{key}
use Rattle.mg_server.specs.Rules.{accept, bad_request, insert_event, Inserted, is_storable, write_error}
use Rattle.mg_query.specs.Numbering.{HaveNewIds, document_of, holds_id, vec_cmp}
use Rattle.mg_store.specs.Holding.{AreExact, IsEntryOf, entries_from}
use Rattle.mg_store.specs.declared.change.ChangeEntry.{ChangeEntry}
use Rattle.mg_store.specs.declared.insert.Appended.{Appended}
use Rattle.mg_store.specs.declared.insert.Rejected.{Rejected}
use Rattle.mg_store.specs.declared.insert.Rejected.TheVariants as rejected

-- the id, or the refusal of a document that has none
abbrev pub GivesId : Result Bson Rejected → Option Tree → Type 0
GivesId (Ok id) found = found ≡ Some (tree id)
GivesId (Err rejected.Memory) found = Unit {0}
GivesId (Err (rejected.Refused code)) found = (code ≡ bad_request) × (found ≡ None)

-- the encoding of the id, or the refusal of a document that has none
abbrev pub GivesKey : Result (Vec ℕ Global) Rejected → Option Tree → Type 0
GivesKey (Ok k) found = (id : Tree) × (found ≡ Some id) × (k.items ≡ key id)
GivesKey (Err rejected.Memory) found = Unit {0}
GivesKey (Err (rejected.Refused code)) found = (code ≡ bad_request) × (found ≡ None)

-- the encoding of a document that may be stored, or the refusal of another
abbrev pub Encodes : Result (List ℕ) Rejected → Fields → Type 0
Encodes (Ok written) d = (written ≡ bytes d) × (is_storable d ≡ true) × (fields written ≡ d)
Encodes (Err rejected.Memory) d = Unit {0}
Encodes (Err (rejected.Refused code)) d = (code ≡ bad_request) × (is_storable d ≡ false)

-- ---- what is appended

abbrev pub new_documents : Appended → List Fields
new_documents a = map document_of a.documents.items

-- the ids are those of the new documents, none of which was there
pub record Fits (before : List Fields) (a : Appended) : Type 0 where
  pub ids_are : (k : Vec ℕ Global) → contains vec_cmp a.ids k ≡ holds_id k.items (new_documents a)
  pub new : HaveNewIds before a.documents.items
  pub exact : AreExact a.entries.items

-- the entry of a document, or the refusal of one that has no id
abbrev pub GivesEntry : ℕ → Space → Fields → Result ChangeEntry Rejected → Type 0
GivesEntry place s d (Ok entry) = (id : Tree) → get (codes "_id") d ≡ Some id → IsEntryOf s (insert_event place s id d) entry
GivesEntry place s d (Err rejected.Memory) = Unit {0}
GivesEntry place s d (Err (rejected.Refused code)) = (code ≡ bad_request) × (get (codes "_id") d ≡ None)

-- a document, its id and its entry were added
pub record Adds (k : Vec ℕ Global) (written : List ℕ) (entry : ChangeEntry) (old new : Appended) : Type 0 where
  pub documents_are : new.documents.items ≡ old.documents.items ++ record { key = k; document = written } ∷ []
  pub entries_are : new.entries.items ≡ old.entries.items ++ entry ∷ []
  pub errors_same : new.errors ≡ old.errors
  pub ids_are : (other : Vec ℕ Global) → contains vec_cmp new.ids other ≡ cond (bytes_eq k.items other.items) true (contains vec_cmp old.ids other)

-- the document was appended, with its entry
pub record Accepts (before : List Fields) (place : ℕ) (s : Space) (d : Fields) (old new : Appended) : Type 0 where
  pub id : Tree
  pub accepted : accept (before ++ new_documents old) d ≡ Ok id
  pub entry : ChangeEntry
  pub at : space entry.ns ≡ s
  pub event_is : fields entry.event ≡ insert_event place s id d
  pub entries_are : new.entries.items ≡ old.entries.items ++ entry ∷ []
  pub documents_are : new_documents new ≡ new_documents old ++ d ∷ []
  pub errors_same : new.errors ≡ old.errors
  pub fits : Fits before new

-- the error was listed, and nothing else changed
pub record Lists (error : Fields) (old new : Appended) : Type 0 where
  pub errors_are : new.errors ≡ with_item old.errors (document error)
  pub documents_same : new.documents ≡ old.documents
  pub entries_same : new.entries ≡ old.entries
  pub ids_same : new.ids ≡ old.ids

-- the document was refused, and its error was listed
pub record Rejects (before : List Fields) (index : ℕ) (d : Fields) (old new : Appended) : Type 0 where
  pub code : ℤ
  pub refused : accept (before ++ new_documents old) d ≡ Err code
  pub lists : Lists (write_error index code) old new

-- what came of appending a document
abbrev pub AcceptsOr : List Fields → ℕ → Space → Fields → Appended → Appended → Result (Unit {0}) Rejected → Type 0
AcceptsOr before place s d old new (Ok done) = Accepts before place s d old new
AcceptsOr before place s d old new (Err rejected.Memory) = Unit {0}
AcceptsOr before place s d old new (Err (rejected.Refused code)) = (accept (before ++ new_documents old) d ≡ Err code) × (new ≡ old)

-- whether it was appended, and else its error was listed
abbrev pub Takes : List Fields → (place index : ℕ) → Space → Fields → Appended → Appended → Bool → Type 0
Takes before place index s d old new true = Accepts before place s d old new
Takes before place index s d old new false = Rejects before index d old new

-- what an insert appends is that of the rules
pub record Appends (before : List Fields) (entries : ℕ) (i : Inserted) (a : Appended) : Type 0 where
  pub documents_are : new_documents a ≡ i.documents
  pub entries_are : entries_from entries a.entries.items ≡ i.entries
  pub errors_are : a.errors ≡ i.errors
  pub fits : Fits before a
