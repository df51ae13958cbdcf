-- Where bytes are no document, and why.
use Rattle.std.specs.Prelude.{◌≡◌, ℕ, zero, suc, ◌+◌, ◌<◌, List, length, Bool, false, Option, Some, None, is_some, if◌then◌else◌}
use Rattle.mg_bson.specs.Reading.{◌>>=◌, Element, element_at, body_at, value_at, doc_at}
use Rattle.mg_bson.specs.declared.malformed.MalformedReason.{MalformedReason}
use Rattle.mg_bson.specs.declared.malformed.MalformedReason.TheVariants as reason

-- whether the bytes of the element's value are one of its kind
abbrev pub value_is_there : Element → Bool
value_is_there e = is_some (value_at (doc_at 99) e.kind e.value)

-- what is left behind so many elements that have their values
abbrev pub left_behind : ℕ → List ℕ → Option (List ℕ)
left_behind zero bs = Some bs
left_behind (suc n) bs = element_at bs >>= λ e. if value_is_there e then left_behind n e.rest else None

-- no element stands in front
abbrev pub NoElement : List ℕ → Type 0
NoElement bs = element_at bs ≡ None

-- the element in front has no value
abbrev pub NoValue : List ℕ → Type 0
NoValue bs = (e : Element) × (element_at bs ≡ Some e) × (value_is_there e ≡ false)

-- behind elements that have their values, at this place of the document, there are bytes that P holds of
pub record BreaksAt (place : ℕ) (body : List ℕ) (P : List ℕ → Type 0) : Type 0 where
  pub count : ℕ
  pub rest : List ℕ
  pub passed : left_behind count body ≡ Some rest
  pub some_left : 0 < length rest
  pub placed : place + length rest ≡ length body + 4
  pub breaks : P rest

-- why the elements of a document are none, and where
abbrev pub IsFaulty : MalformedReason → ℕ → List ℕ → Type 0
IsFaulty reason.Frame place body = ⊥
IsFaulty reason.Element place body = BreaksAt place body NoElement
IsFaulty reason.Value place body = BreaksAt place body NoValue

-- why the bytes are no document, and where
abbrev pub IsMalformed : MalformedReason → ℕ → List ℕ → Type 0
IsMalformed reason.Frame place bs = (body_at bs ≡ None) × (place ≡ 0)
IsMalformed reason.Element place bs = (body : List ℕ) × (body_at bs ≡ Some body) × BreaksAt place body NoElement
IsMalformed reason.Value place bs = (body : List ℕ) × (body_at bs ≡ Some body) × BreaksAt place body NoValue
