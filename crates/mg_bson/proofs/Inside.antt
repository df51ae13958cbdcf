-- Documents and arrays inside a document, by their names.
use Rattle.std.proofs.Common.{◌≡◌, ℕ, zero, suc, ◌+◌, ◌≤◌, List, [], ◌∷◌, length, drop, ltb, eqb, Option, Some, None, option_map, is_some, IfSome, refl, sym, ap, subst, ◌∙◌}
use Rattle.std.specs.Int.{w32, w64, cast_signed}
use Rattle.mg_bson.specs.Tree.{Tree, double, undefined, object_id, date_time, null, int32, timestamp, int64, decimal128, min_key, max_key, document, array, scoped, string, script, symbol, Fields}
use Rattle.mg_bson.specs.declared.kind.Kind.{Kind}
use Rattle.mg_bson.specs.declared.kind.Kind.TheVariants as kind
use Rattle.mg_bson.specs.Find.{as_array, as_document, get}
use Rattle.mg_bson.specs.Reading.{◌>>=◌, le32_at, le64_at, cut, utf8_of, text_at, binary_at, boolean_at, regex_at, pointer_at, scope_parts, fixed, value_at, doc_at}
use Rattle.mg_bson.specs.Raw.{Spelled, IsDocument, IsValue, fields, items, spelled}
use Rattle.mg_bson.specs.Spans.{between, value_named, document_by, array_by, document_named, array_named, array_inside, items_inside}
use Rattle.mg_bson.proofs.Options.{bind_some, some_is, guard_some, test_some}
use Rattle.mg_bson.proofs.Lending.{spells, inner_document, inner_array}
use Rattle.mg_bson.proofs.Spans.{Finds, value_finds, between_between}

-- ---- bytes of a kind

pub document_kind : (k : Kind) (bs d : List ℕ) → document_by k bs ≡ Some d → (k ≡ kind.Document) × (bs ≡ d)
document_kind kind.Double bs d e = absurd cc
document_kind kind.String bs d e = absurd cc
document_kind kind.Document bs d e = (refl, some_is bs d e)
document_kind kind.Array bs d e = absurd cc
document_kind kind.Binary bs d e = absurd cc
document_kind kind.Undefined bs d e = absurd cc
document_kind kind.ObjectId bs d e = absurd cc
document_kind kind.Boolean bs d e = absurd cc
document_kind kind.DateTime bs d e = absurd cc
document_kind kind.Null bs d e = absurd cc
document_kind kind.Regex bs d e = absurd cc
document_kind kind.DbPointer bs d e = absurd cc
document_kind kind.Code bs d e = absurd cc
document_kind kind.Symbol bs d e = absurd cc
document_kind kind.CodeWithScope bs d e = absurd cc
document_kind kind.Int32 bs d e = absurd cc
document_kind kind.Timestamp bs d e = absurd cc
document_kind kind.Int64 bs d e = absurd cc
document_kind kind.Decimal128 bs d e = absurd cc
document_kind kind.MinKey bs d e = absurd cc
document_kind kind.MaxKey bs d e = absurd cc

pub array_kind : (k : Kind) (bs d : List ℕ) → array_by k bs ≡ Some d → (k ≡ kind.Array) × (bs ≡ d)
array_kind kind.Double bs d e = absurd cc
array_kind kind.String bs d e = absurd cc
array_kind kind.Document bs d e = absurd cc
array_kind kind.Array bs d e = (refl, some_is bs d e)
array_kind kind.Binary bs d e = absurd cc
array_kind kind.Undefined bs d e = absurd cc
array_kind kind.ObjectId bs d e = absurd cc
array_kind kind.Boolean bs d e = absurd cc
array_kind kind.DateTime bs d e = absurd cc
array_kind kind.Null bs d e = absurd cc
array_kind kind.Regex bs d e = absurd cc
array_kind kind.DbPointer bs d e = absurd cc
array_kind kind.Code bs d e = absurd cc
array_kind kind.Symbol bs d e = absurd cc
array_kind kind.CodeWithScope bs d e = absurd cc
array_kind kind.Int32 bs d e = absurd cc
array_kind kind.Timestamp bs d e = absurd cc
array_kind kind.Int64 bs d e = absurd cc
array_kind kind.Decimal128 bs d e = absurd cc
array_kind kind.MinKey bs d e = absurd cc
array_kind kind.MaxKey bs d e = absurd cc

pub other_document : (k : Kind) (bs : List ℕ) → (k ≡ kind.Document → ⊥) → document_by k bs ≡ None
other_document k bs h = none (document_by k bs) refl where
  none : (o : Option (List ℕ)) → document_by k bs ≡ o → document_by k bs ≡ None
  none (Some d) e = absurd (h (document_kind k bs d e).0)
  none None e = e

pub other_array : (k : Kind) (bs : List ℕ) → (k ≡ kind.Array → ⊥) → array_by k bs ≡ None
other_array k bs h = none (array_by k bs) refl where
  none : (o : Option (List ℕ)) → array_by k bs ≡ o → array_by k bs ≡ None
  none (Some d) e = absurd (h (array_kind k bs d e).0)
  none None e = e

-- ---- values of a kind

record IsNeither (t : Tree) : Type 0 where
  no_document : as_document t ≡ None
  no_array : as_array t ≡ None

is_neither : (made t : Tree) → as_document made ≡ None → as_array made ≡ None → Some made ≡ Some t → IsNeither t
is_neither made t d a e = subst IsNeither (some_is made t e) (record { no_document = d; no_array = a })

fixed_neither : (n : ℕ) (make : List ℕ → Tree) (bs : List ℕ) (t : Tree) → as_document (make bs) ≡ None → as_array (make bs) ≡ None → fixed n make bs ≡ Some t → IsNeither t
fixed_neither n make bs t d a e = is_neither (make bs) t d a (test_some (eqb (length bs) n) _ t e).1

mapped_neither : {A : Type 0} (make : A → Tree) (o : Option A) (t : Tree) → ((x : A) → as_document (make x) ≡ None) → ((x : A) → as_array (make x) ≡ None) → option_map make o ≡ Some t → IsNeither t
mapped_neither make (Some x) t d a e = is_neither (make x) t (d x) (a x) e
mapped_neither make None t d a e = absurd cc

binary_neither : (bs : List ℕ) (t : Tree) → binary_at bs ≡ Some t → IsNeither t
unfolding binary_at
binary_neither bs t e =
    let long = guard_some (ltb (length bs) 5) _ t e in
    is_neither _ t refl refl (test_some _ _ t long.1).1

boolean_neither : (bs : List ℕ) (t : Tree) → boolean_at bs ≡ Some t → IsNeither t
boolean_neither (zero ∷ []) t e = is_neither _ t refl refl e
boolean_neither (suc zero ∷ []) t e = is_neither _ t refl refl e
boolean_neither [] t e = absurd cc
boolean_neither (zero ∷ b ∷ bs) t e = absurd cc
boolean_neither (suc zero ∷ b ∷ bs) t e = absurd cc
boolean_neither (suc (suc a) ∷ bs) t e = absurd cc

pointer_neither : (bs : List ℕ) (t : Tree) → pointer_at bs ≡ Some t → IsNeither t
unfolding pointer_at
pointer_neither bs t e =
    let long = guard_some (ltb (length bs) 12) _ t e in
    mapped_neither _ _ t (λ s. refl) (λ s. refl) long.1

regex_neither : (bs : List ℕ) (t : Tree) → regex_at bs ≡ Some t → IsNeither t
unfolding regex_at
regex_neither bs t e =
    let a = bind_some (cut bs) _ t e in
    let p = bind_some (utf8_of a.0.0) _ t a.2 in
    let b = bind_some (cut a.0.1) _ t p.2 in
    let o = bind_some (utf8_of b.0.0) _ t b.2 in
    is_neither _ t refl refl (test_some _ _ t o.2).1

-- the document or the array that a value is
pub record IsOpened (k : Kind) (bs : List ℕ) (t : Tree) : Type 0 where
  pub to_document : as_document t ≡ option_map fields (document_by k bs)
  pub to_array : as_array t ≡ option_map items (array_by k bs)

pub value_opened : (k : Kind) (bs : List ℕ) (t : Tree) → value_at (doc_at 99) k bs ≡ Some t → IsOpened k bs t
value_opened kind.Double bs t e = let n : IsNeither t = fixed_neither 8 double bs t refl refl e in record { to_document = n.no_document; to_array = n.no_array }
value_opened kind.String bs t e = let n : IsNeither t = mapped_neither string (text_at bs) t (λ s. refl) (λ s. refl) e in record { to_document = n.no_document; to_array = n.no_array }
value_opened kind.Document bs t e =
    let inner = (inner_document bs (ap is_some e)).1 in
    let is : document (fields bs) ≡ t = some_is (document (fields bs)) t (sym inner ∙ e) in
    record { to_document = ap as_document (sym is); to_array = ap as_array (sym is) }
value_opened kind.Array bs t e =
    let inner = (inner_array bs (ap is_some e)).1 in
    let is : array (items bs) ≡ t = some_is (array (items bs)) t (sym inner ∙ e) in
    record { to_document = ap as_document (sym is); to_array = ap as_array (sym is) }
value_opened kind.Binary bs t e = let n : IsNeither t = binary_neither bs t e in record { to_document = n.no_document; to_array = n.no_array }
value_opened kind.Undefined bs t e = let n : IsNeither t = fixed_neither 0 (λ _. undefined) bs t refl refl e in record { to_document = n.no_document; to_array = n.no_array }
value_opened kind.ObjectId bs t e = let n : IsNeither t = fixed_neither 12 object_id bs t refl refl e in record { to_document = n.no_document; to_array = n.no_array }
value_opened kind.Boolean bs t e = let n : IsNeither t = boolean_neither bs t e in record { to_document = n.no_document; to_array = n.no_array }
value_opened kind.DateTime bs t e = let n : IsNeither t = fixed_neither 8 (λ bs. date_time (cast_signed w64 (le64_at bs))) bs t refl refl e in record { to_document = n.no_document; to_array = n.no_array }
value_opened kind.Null bs t e = let n : IsNeither t = fixed_neither 0 (λ _. null) bs t refl refl e in record { to_document = n.no_document; to_array = n.no_array }
value_opened kind.Regex bs t e = let n : IsNeither t = regex_neither bs t e in record { to_document = n.no_document; to_array = n.no_array }
value_opened kind.DbPointer bs t e = let n : IsNeither t = pointer_neither bs t e in record { to_document = n.no_document; to_array = n.no_array }
value_opened kind.Code bs t e = let n : IsNeither t = mapped_neither script (text_at bs) t (λ s. refl) (λ s. refl) e in record { to_document = n.no_document; to_array = n.no_array }
value_opened kind.Symbol bs t e = let n : IsNeither t = mapped_neither symbol (text_at bs) t (λ s. refl) (λ s. refl) e in record { to_document = n.no_document; to_array = n.no_array }
value_opened kind.CodeWithScope bs t e =
    let p = bind_some (scope_parts bs) (λ p. option_map (scoped p.0) (doc_at 99 p.1)) t e in
    let n : IsNeither t = mapped_neither (scoped p.0.0) (doc_at 99 p.0.1) t (λ s. refl) (λ s. refl) p.2 in
    record { to_document = n.no_document; to_array = n.no_array }
value_opened kind.Int32 bs t e = let n : IsNeither t = fixed_neither 4 (λ bs. int32 (cast_signed w32 (le32_at bs))) bs t refl refl e in record { to_document = n.no_document; to_array = n.no_array }
value_opened kind.Timestamp bs t e = let n : IsNeither t = fixed_neither 8 (λ bs. timestamp (le32_at (drop 4 bs)) (le32_at bs)) bs t refl refl e in record { to_document = n.no_document; to_array = n.no_array }
value_opened kind.Int64 bs t e = let n : IsNeither t = fixed_neither 8 (λ bs. int64 (cast_signed w64 (le64_at bs))) bs t refl refl e in record { to_document = n.no_document; to_array = n.no_array }
value_opened kind.Decimal128 bs t e = let n : IsNeither t = fixed_neither 16 decimal128 bs t refl refl e in record { to_document = n.no_document; to_array = n.no_array }
value_opened kind.MinKey bs t e = let n : IsNeither t = fixed_neither 0 (λ _. min_key) bs t refl refl e in record { to_document = n.no_document; to_array = n.no_array }
value_opened kind.MaxKey bs t e = let n : IsNeither t = fixed_neither 0 (λ _. max_key) bs t refl refl e in record { to_document = n.no_document; to_array = n.no_array }

-- ---- by their names

inner_is : (v : Spelled) (o : Option (List ℕ)) → IsValue v → document_by v.kind v.bytes ≡ o → IfSome o IsDocument
inner_is v (Some d) h e =
    let is = document_kind v.kind v.bytes d e in
    subst IsDocument is.1 (inner_document v.bytes (subst (λ (k : Kind). IsValue (record { kind = k; bytes = v.bytes })) is.0 h)).0
inner_is v None h e = tt

-- the document of a name, as it lies in the bytes
pub record FindsDocument (o : Option (List ℕ)) (found : Option Tree) : Type 0 where
  pub document : (found >>= as_document) ≡ option_map fields o
  pub read : IfSome o IsDocument

document_found : (o : Option Spelled) (found : Option Tree) → Finds o found → FindsDocument (o >>= λ v. document_by v.kind v.bytes) found
document_found (Some v) found f = record {
  document = ap (λ (t : Option Tree). t >>= as_document) (sym f.values) ∙ (value_opened v.kind v.bytes (spelled v) (spells v f.read)).to_document;
  read = inner_is v (document_by v.kind v.bytes) f.read refl;
}
document_found None found f = record { document = ap (λ (t : Option Tree). t >>= as_document) (sym f.values); read = tt }

array_found : (o : Option Spelled) (found : Option Tree) → Finds o found → (found >>= as_array) ≡ option_map items (o >>= λ v. array_by v.kind v.bytes)
array_found (Some v) found f = ap (λ (t : Option Tree). t >>= as_array) (sym f.values) ∙ (value_opened v.kind v.bytes (spelled v) (spells v f.read)).to_array
array_found None found f = ap (λ (t : Option Tree). t >>= as_array) (sym f.values)

items_found : (name : List ℕ) (o : Option (List ℕ)) (found : Option Tree) → FindsDocument o found → option_map items (o >>= array_named name) ≡ (found >>= as_document >>= get name >>= as_array)
items_found name (Some d) found f =
    sym (array_found _ (get name (fields d)) (value_finds name d f.read)) ∙ ap (λ (fs : Option Fields). fs >>= get name >>= as_array) (sym f.document)
items_found name None found f = ap (λ (fs : Option Fields). fs >>= get name >>= as_array) (sym f.document)

-- the values of the array inside the document
pub inside_value : (outer name bs : List ℕ) → IsDocument bs → option_map items (array_inside outer name bs) ≡ items_inside outer name (fields bs)
inside_value outer name bs h = items_found name (document_named outer bs) (get outer (fields bs)) (document_found _ (get outer (fields bs)) (value_finds outer bs h))

-- ---- as they are looked for

-- a document, inside a value
pub document_is : (k : Kind) (part : List ℕ) → IsValue (record { kind = k; bytes = part }) → k ≡ kind.Document → IsDocument part
document_is k part h is = (inner_document part (subst (λ (k : Kind). IsValue (record { kind = k; bytes = part })) is h)).0

pub array_is : (k : Kind) (part : List ℕ) → IsValue (record { kind = k; bytes = part }) → k ≡ kind.Array → IsDocument part
array_is k part h is = (inner_array part (subst (λ (k : Kind). IsValue (record { kind = k; bytes = part })) is h)).0

pub document_here : (name bs : List ℕ) (k : Kind) (part : List ℕ) → Some (record { kind = k; bytes = part }) ≡ value_named name bs → k ≡ kind.Document → Some part ≡ document_named name bs
document_here name bs k part e is = ap (λ (k : Kind). document_by k part) (sym is) ∙ ap (λ (o : Option Spelled). o >>= λ v. document_by v.kind v.bytes) e

pub document_nowhere : (name bs : List ℕ) (k : Kind) (part : List ℕ) → Some (record { kind = k; bytes = part }) ≡ value_named name bs → (k ≡ kind.Document → ⊥) → None ≡ document_named name bs
document_nowhere name bs k part e not = sym (other_document k part not) ∙ ap (λ (o : Option Spelled). o >>= λ v. document_by v.kind v.bytes) e

pub array_here : (name bs : List ℕ) (k : Kind) (part : List ℕ) → Some (record { kind = k; bytes = part }) ≡ value_named name bs → k ≡ kind.Array → Some part ≡ array_named name bs
array_here name bs k part e is = ap (λ (k : Kind). array_by k part) (sym is) ∙ ap (λ (o : Option Spelled). o >>= λ v. array_by v.kind v.bytes) e

pub array_nowhere : (name bs : List ℕ) (k : Kind) (part : List ℕ) → Some (record { kind = k; bytes = part }) ≡ value_named name bs → (k ≡ kind.Array → ⊥) → None ≡ array_named name bs
array_nowhere name bs k part e not = sym (other_array k part not) ∙ ap (λ (o : Option Spelled). o >>= λ v. array_by v.kind v.bytes) e

-- the array of a name, inside a document that was found: slice is that document's bytes
pub array_within : (outer name bs slice : List ℕ) (a b c d : ℕ) → slice ≡ between c d bs → c + b ≤ d → Some (between c d bs) ≡ document_named outer bs → Some (between a b slice) ≡ array_named name slice → Some (between (c + a) (c + b) bs) ≡ array_inside outer name bs
array_within outer name bs slice a b c d is h first second =
    ap Some (sym (between_between bs a b c d h)) ∙ ap (λ (s : List ℕ). Some (between a b s)) (sym is) ∙ second ∙ ap (array_named name) is ∙ ap (λ (o : Option (List ℕ)). o >>= array_named name) first

pub array_not_within : (outer name bs slice : List ℕ) (c d : ℕ) → slice ≡ between c d bs → Some (between c d bs) ≡ document_named outer bs → None ≡ array_named name slice → None ≡ array_inside outer name bs
array_not_within outer name bs slice c d is first none = none ∙ ap (array_named name) is ∙ ap (λ (o : Option (List ℕ)). o >>= array_named name) first

pub document_within : (bs slice : List ℕ) (a b c d : ℕ) → slice ≡ between c d bs → c + b ≤ d → IsDocument (between a b slice) → IsDocument (between (c + a) (c + b) bs)
document_within bs slice a b c d is h read = subst IsDocument (ap (between a b) is ∙ between_between bs a b c d h) read
