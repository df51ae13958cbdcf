-- Which ids an insert draws, and what it sends for its documents.
use Rattle.std.specs.Prelude.{◌≡◌, ◌+◌, ℕ, List, [], ◌∷◌, Option, Some, None, codes}
use Rattle.mg_bson.specs.Tree.{Tree, object_id, Fields, field}
use Rattle.mg_bson.specs.Find.{get}

-- one where there is no `_id`
abbrev pub one_unless_there : Option Tree → ℕ
one_unless_there None = 1
one_unless_there (Some id) = 0

-- one where the document has no `_id`
abbrev pub lacks : Fields → ℕ
lacks d = one_unless_there (get (codes "_id") d)

-- how many of the documents have no `_id`
abbrev pub lacking : List Fields → ℕ
lacking [] = 0
lacking (d ∷ ds) = lacks d + lacking ds

abbrev pub sent_by : Option Tree → List ℕ → Fields → Fields
sent_by None id d = field (codes "_id") (object_id id) d
sent_by (Some own) id d = d

-- what is sent for a document: the document itself where it has an `_id`, and otherwise this one as its first field, and the document behind it
abbrev pub sent_for : List ℕ → Fields → Fields
sent_for id d = sent_by (get (codes "_id") d) id d

-- What is sent for documents: each that has no `_id` gets the next of these ids, from the one of this number on.
abbrev pub with_ids : (ℕ → List ℕ) → ℕ → List Fields → List Fields
with_ids ids n [] = []
with_ids ids n (d ∷ ds) = sent_for (ids n) d ∷ with_ids ids (n + lacks d) ds

-- the ids that a source gives later are those that it gives now, but for the first so many
abbrev pub AreLater : (ℕ → List ℕ) → ℕ → (ℕ → List ℕ) → Type 0
AreLater now n later = (k : ℕ) → later k ≡ now (n + k)
