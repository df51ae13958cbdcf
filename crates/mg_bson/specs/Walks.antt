-- The documents of an array inside a document, with a place among them.
use Rattle.std.specs.Prelude.{◌≡◌, ◌<◌, ◌≤◌, ℕ, List, [], ◌∷◌, length, true, nat_lt, is_some, unwrap_or, Option, Some, None, if◌then◌else◌}
use Rattle.mg_bson.specs.Raw.{AreFields, IsDocument}
use Rattle.mg_bson.specs.Spans.{between, documents_left}

-- the document, the current one of its documents, and those behind it, each as its bytes
pub record Walk : Type 0 where
  pub whole : List ℕ
  pub current : Option (List ℕ)
  pub behind : List (List ℕ)

-- before the first of these documents
abbrev pub before : List ℕ → List (List ℕ) → Walk
before whole documents = record { whole = whole; current = None; behind = documents }

abbrev pub advanced_to : List ℕ → List (List ℕ) → Walk
advanced_to whole [] = record { whole = whole; current = None; behind = [] }
advanced_to whole (d ∷ ds) = record { whole = whole; current = Some d; behind = ds }

-- the next document is the current one; none is where none is left
abbrev pub advanced : Walk → Walk
advanced w = advanced_to w.whole w.behind

-- the document behind the current one
abbrev pub front_of : List (List ℕ) → Option (List ℕ)
front_of [] = None
front_of (d ∷ ds) = Some d

abbrev pub without_front : List (List ℕ) → List (List ℕ)
without_front [] = []
without_front (d ∷ ds) = ds

-- it is left out
abbrev pub passed_over : Walk → Walk
passed_over w = record w { behind = without_front w.behind }

-- ---- where it stands, for private clauses

-- the current document lies between these places, and there is none where they are the same
abbrev pub current_at : List ℕ → ℕ → ℕ → Option (List ℕ)
current_at whole begin upto = if nat_lt begin upto then Some (between begin upto whole) else None

abbrev pub walk_at : List ℕ → ℕ → ℕ → ℕ → ℕ → Walk
walk_at whole begin upto next end = record { whole = whole; current = current_at whole begin upto; behind = unwrap_or (documents_left (between next end whole)) [] }

-- what is true of each place
pub record IsWalk (whole : List ℕ) (begin upto next end : ℕ) : Type 0 where
  pub forward : begin ≤ upto
  pub before_next : upto ≤ next
  pub within : next ≤ end
  pub inside : end ≤ length whole
  pub document : begin < upto → IsDocument (between begin upto whole)
  pub elements : AreFields (between next end whole)
  pub documents : is_some (documents_left (between next end whole)) ≡ true
