-- The document that bytes spell, if they spell one (BSON: document). Each part is read from exactly its own bytes.
use Rattle.std.specs.Prelude.{ℕ, zero, suc, ◌+◌, ◌-◌, ◌^◌, List, [], ◌∷◌, length, take, drop, true, false, ◌==◌, nat_lt, if◌then◌else◌, Option, Some, None, option_map, slice_index}
use Rattle.std.specs.Int.{w32, w64, from_le_bytes, cast_signed}
use Rattle.std.specs.Str.{is_utf8}
use Rattle.mg_bson.specs.Tree.{Tree, double, string, document, array, binary, undefined, object_id, boolean, date_time, null, regex, db_pointer, script, symbol, scoped, int32, timestamp, int64, decimal128, min_key, max_key, Fields, no_fields, field, Items, no_items, item}
use Rattle.mg_bson.specs.declared.kind.Kind.{Kind}
use Rattle.mg_bson.specs.declared.kind.Kind.TheVariants as kind
use Rattle.mg_bson.specs.Kind.{kind_at}

-- the second step, if the first gave something
infixl 10 ◌>>=◌
abbrev pub ◌>>=◌ : {A B : Type 0} → Option A → (A → Option B) → Option B
(Some x) >>= f = f x
None >>= f = None

-- the number of the first four bytes, the lowest first (BSON: int32)
unfoldable pub le32_at : List ℕ → ℕ
le32_at bs = from_le_bytes w32 bs

-- the number of the first eight bytes, the lowest first (BSON: int64)
unfoldable pub le64_at : List ℕ → ℕ
le64_at bs = from_le_bytes w64 bs

-- the bytes before the first 0, and those after it (BSON: cstring)
abbrev pub cut : List ℕ → Option (List ℕ × List ℕ)
cut [] = None
cut (zero ∷ bs) = Some ([], bs)
cut (suc b ∷ bs) = option_map (λ p. (suc b ∷ p.0, p.1)) (cut bs)

-- the bytes, where they are a text
unfoldable pub utf8_of : List ℕ → Option (List ℕ)
utf8_of bs = if is_utf8 bs then Some bs else None

-- a number in front, and more
unfoldable pub ahead : ℕ → List ℕ → Option ℕ
ahead more bs = if nat_lt (length bs) 4 then None else Some (le32_at bs + more)

-- how many bytes two texts take, each ended by a 0
unfoldable pub two_texts : List ℕ → Option ℕ
two_texts bs = cut bs >>= λ a. cut a.1 >>= λ b. Some (length a.0 + length b.0 + 2)

-- how many bytes a value of the kind takes, by its first bytes
abbrev pub extent : Kind → List ℕ → Option ℕ
extent kind.Double bs = Some 8
extent kind.String bs = ahead 4 bs
extent kind.Document bs = ahead 0 bs
extent kind.Array bs = ahead 0 bs
extent kind.Binary bs = ahead 5 bs
extent kind.Undefined bs = Some 0
extent kind.ObjectId bs = Some 12
extent kind.Boolean bs = Some 1
extent kind.DateTime bs = Some 8
extent kind.Null bs = Some 0
extent kind.Regex bs = two_texts bs
extent kind.DbPointer bs = ahead 16 bs
extent kind.Code bs = ahead 4 bs
extent kind.Symbol bs = ahead 4 bs
extent kind.CodeWithScope bs = ahead 0 bs
extent kind.Int32 bs = Some 4
extent kind.Timestamp bs = Some 8
extent kind.Int64 bs = Some 8
extent kind.Decimal128 bs = Some 16
extent kind.MinKey bs = Some 0
extent kind.MaxKey bs = Some 0

-- an element, and what follows it (BSON: element)
pub record Element : Type 0 where
  pub kind : Kind
  pub name : List ℕ
  pub value : List ℕ
  pub rest : List ℕ

-- an element of the kind and name, whose value takes n bytes
abbrev pub element_of : Kind → List ℕ → List ℕ → ℕ → Option Element
element_of k name bs n = if nat_lt (length bs) n then None else Some (record { kind = k; name = name; value = take n bs; rest = drop n bs })

-- the element in front
unfoldable pub element_at : List ℕ → Option Element
element_at [] = None
element_at (b ∷ bs) = kind_at b >>= λ k. cut bs >>= λ c. utf8_of c.0 >>= λ name. extent k c.1 >>= λ n. element_of k name c.1 n

-- what stands between the length and the last byte, where the length is that of all (BSON: document)
unfoldable pub body_at : List ℕ → Option (List ℕ)
body_at bs = if nat_lt (length bs) 5 then None else (if nat_lt (length bs) (2 ^ 31) then (if le32_at bs == length bs then (if slice_index bs (length bs - 1) == 0 then Some (drop 4 (take (length bs - 1) bs)) else None) else None) else None)

-- the text between the length and the last byte, where the length is that of all behind it (BSON: string)
unfoldable pub text_at : List ℕ → Option (List ℕ)
text_at bs = if nat_lt (length bs) 5 then None else (if le32_at bs + 4 == length bs then (if slice_index bs (length bs - 1) == 0 then utf8_of (drop 4 (take (length bs - 1) bs)) else None) else None)

-- a length, a subtype, and that many bytes (BSON: binary)
unfoldable pub binary_at : List ℕ → Option Tree
binary_at bs = if nat_lt (length bs) 5 then None else (if le32_at bs + 5 == length bs then Some (binary (slice_index bs 4) (drop 5 bs)) else None)

-- a byte 0 or 1 (BSON: boolean)
abbrev pub boolean_at : List ℕ → Option Tree
boolean_at (zero ∷ []) = Some (boolean false)
boolean_at (suc zero ∷ []) = Some (boolean true)
boolean_at _ = None

-- the values of an array, whose names are not looked at
abbrev pub values : Fields → Items
values no_fields = no_items
values (field k t fs) = item t (values fs)

-- a value of n bytes
abbrev pub fixed : ℕ → (List ℕ → Tree) → List ℕ → Option Tree
fixed n make bs = if length bs == n then Some (make bs) else None

-- two texts, each ended by a 0 (BSON: regular expression)
unfoldable pub regex_at : List ℕ → Option Tree
regex_at bs = cut bs >>= λ a. utf8_of a.0 >>= λ pattern. cut a.1 >>= λ b. utf8_of b.0 >>= λ options. if length b.1 == 0 then Some (regex pattern options) else None

-- a text and twelve bytes (BSON: DBPointer)
unfoldable pub pointer_at : List ℕ → Option Tree
pointer_at bs = if nat_lt (length bs) 12 then None else option_map (λ s. db_pointer s (drop (length bs - 12) bs)) (text_at (take (length bs - 12) bs))

-- a text, and the bytes behind it
unfoldable pub text_and_rest : List ℕ → Option (List ℕ × List ℕ)
text_and_rest bs = ahead 4 bs >>= λ n. if nat_lt (length bs) n then None else option_map (λ s. (s, drop n bs)) (text_at (take n bs))

-- the code, and the bytes of its scope, behind the length of all (BSON: code_w_s)
unfoldable pub scope_parts : List ℕ → Option (List ℕ × List ℕ)
scope_parts bs = if nat_lt (length bs) 4 then None else (if le32_at bs == length bs then text_and_rest (drop 4 bs) else None)

-- a value of the kind, where read reads the documents inside
abbrev pub value_at : (List ℕ → Option Fields) → Kind → List ℕ → Option Tree
value_at read kind.Double bs = fixed 8 double bs
value_at read kind.String bs = option_map string (text_at bs)
value_at read kind.Document bs = option_map document (read bs)
value_at read kind.Array bs = option_map (λ fs. array (values fs)) (read bs)
value_at read kind.Binary bs = binary_at bs
value_at read kind.Undefined bs = fixed 0 (λ _. undefined) bs
value_at read kind.ObjectId bs = fixed 12 object_id bs
value_at read kind.Boolean bs = boolean_at bs
value_at read kind.DateTime bs = fixed 8 (λ bs. date_time (cast_signed w64 (le64_at bs))) bs
value_at read kind.Null bs = fixed 0 (λ _. null) bs
value_at read kind.Regex bs = regex_at bs
value_at read kind.DbPointer bs = pointer_at bs
value_at read kind.Code bs = option_map script (text_at bs)
value_at read kind.Symbol bs = option_map symbol (text_at bs)
value_at read kind.CodeWithScope bs = scope_parts bs >>= λ p. option_map (scoped p.0) (read p.1)
value_at read kind.Int32 bs = fixed 4 (λ bs. int32 (cast_signed w32 (le32_at bs))) bs
value_at read kind.Timestamp bs = fixed 8 (λ bs. timestamp (le32_at (drop 4 bs)) (le32_at bs)) bs
value_at read kind.Int64 bs = fixed 8 (λ bs. int64 (cast_signed w64 (le64_at bs))) bs
value_at read kind.Decimal128 bs = fixed 16 decimal128 bs
value_at read kind.MinKey bs = fixed 0 (λ _. min_key) bs
value_at read kind.MaxKey bs = fixed 0 (λ _. max_key) bs

-- the elements, at most n of them (BSON: e_list)
unfoldable pub fields_within : (List ℕ → Option Fields) → ℕ → List ℕ → Option Fields
fields_within read n [] = Some no_fields
fields_within read zero (b ∷ bs) = None
fields_within read (suc n) (b ∷ bs) = element_at (b ∷ bs) >>= λ e. value_at read e.kind e.value >>= λ t. fields_within read n e.rest >>= λ fs. Some (field e.name t fs)

-- the elements, however many: each takes a byte at least
unfoldable pub fields_at : (List ℕ → Option Fields) → List ℕ → Option Fields
fields_at read bs = fields_within read (length bs) bs

-- a document of at most this many levels
unfoldable pub doc_at : ℕ → List ℕ → Option Fields
doc_at zero bs = None
doc_at (suc n) bs = body_at bs >>= fields_at (doc_at n)

-- the decoding of a document of at most 100 levels
abbrev pub doc : List ℕ → Option Fields
doc bs = doc_at 100 bs
