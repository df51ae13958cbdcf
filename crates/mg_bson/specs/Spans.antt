-- Where values lie in the bytes of a document: a document lends its parts, and these are their own bytes.
use Rattle.std.specs.Prelude.{◌≡◌, ℕ, zero, suc, ◌≤◌, List, [], ◌∷◌, length, take, drop, Option, Some, None, if◌then◌else◌}
use Rattle.std.specs.Str.{bytes_eq}
use Rattle.mg_bson.specs.Tree.{Fields, Items}
use Rattle.mg_bson.specs.declared.kind.Kind.{Kind}
use Rattle.mg_bson.specs.declared.kind.Kind.TheVariants as kind
use Rattle.mg_bson.specs.Find.{as_array, as_document, get}
use Rattle.mg_bson.specs.Raw.{Spelled}
use Rattle.mg_bson.specs.Reading.{◌>>=◌, element_at, body_at}

-- the bytes from one place up to another
abbrev pub between : ℕ → ℕ → List ℕ → List ℕ
between from upto bs = drop from (take upto bs)

-- the first value of the name, among at most n elements
unfoldable pub named_within : ℕ → List ℕ → List ℕ → Option Spelled
named_within zero name bs = None
named_within (suc n) name bs = element_at bs >>= λ e. if bytes_eq e.name name then Some (record { kind = e.kind; bytes = e.value }) else named_within n name e.rest

-- the first value of the name in a document
unfoldable pub value_named : List ℕ → List ℕ → Option Spelled
value_named name bs = body_at bs >>= λ body. named_within (length body) name body

-- the bytes of a value that is a document, or an array
abbrev pub document_by : Kind → List ℕ → Option (List ℕ)
document_by kind.Document bs = Some bs
document_by _ bs = None

abbrev pub array_by : Kind → List ℕ → Option (List ℕ)
array_by kind.Array bs = Some bs
array_by _ bs = None

-- the first value of the name, where it is a document
abbrev pub document_named : List ℕ → List ℕ → Option (List ℕ)
document_named name bs = value_named name bs >>= λ v. document_by v.kind v.bytes

abbrev pub array_named : List ℕ → List ℕ → Option (List ℕ)
array_named name bs = value_named name bs >>= λ v. array_by v.kind v.bytes

-- the array of a name inside the document of another name
abbrev pub array_inside : List ℕ → List ℕ → List ℕ → Option (List ℕ)
array_inside outer name bs = document_named outer bs >>= array_named name

-- the values of that array
abbrev pub items_inside : List ℕ → List ℕ → Fields → Option Items
items_inside outer name fs = get outer fs >>= as_document >>= get name >>= as_array

-- the documents that at most n elements are, each as its bytes; none where one of them is of another kind
unfoldable pub documents_within : ℕ → List ℕ → Option (List (List ℕ))
documents_within n [] = Some []
documents_within zero (b ∷ bs) = None
documents_within (suc n) (b ∷ bs) = element_at (b ∷ bs) >>= λ e. document_by e.kind e.value >>= λ d. documents_within n e.rest >>= λ ds. Some (d ∷ ds)

-- the documents of elements, however many: each takes a byte at least
unfoldable pub documents_left : List ℕ → Option (List (List ℕ))
documents_left bs = documents_within (length bs) bs

-- the documents of an array
unfoldable pub documents_inside : List ℕ → Option (List (List ℕ))
documents_inside bs = body_at bs >>= documents_left

-- the bytes stand in others, as they are
pub record IsPartOf (part whole : List ℕ) : Type 0 where
  pub from : ℕ
  pub upto : ℕ
  pub forward : from ≤ upto
  pub within : upto ≤ length whole
  pub these : part ≡ between from upto whole
