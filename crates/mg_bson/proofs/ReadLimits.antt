-- What was read has few levels and no name with a 0.
use Rattle.std.proofs.Common.{◌≡◌, ℕ, zero, suc, ◌≤◌, List, [], ◌∷◌, length, drop, ltb, eqb, Bool, true, false, ◌||◌, Option, Some, None, option_map, refl, sym, ap, subst, ◌∙◌, arith}
use Rattle.std.specs.Int.{w32, w64, cast_signed}
use Rattle.mg_bson.specs.Tree.{Tree, double, undefined, object_id, date_time, null, int32, timestamp, int64, decimal128, min_key, max_key, document, array, scoped, regex, string, script, symbol, Fields, no_fields, field}
use Rattle.mg_bson.specs.declared.kind.Kind.{Kind}
use Rattle.mg_bson.specs.declared.kind.Kind.TheVariants as kind
use Rattle.mg_bson.specs.Kind.{kind_at}
use Rattle.mg_bson.specs.Bytes.{tree_depth, fields_depth, items_depth, levels}
use Rattle.mg_bson.specs.Writable.{has_zero, has_bad_name, fields_have_bad_name, items_have_bad_name}
use Rattle.mg_bson.specs.Reading.{le32_at, le64_at, cut, utf8_of, extent, Element, element_at, body_at, text_at, binary_at, boolean_at, regex_at, pointer_at, scope_parts, fixed, value_at, values, fields_within, fields_at, doc_at}
use Rattle.mg_bson.proofs.Options.{bind_some, map_some, some_is, guard_some, test_some}
use Rattle.mg_bson.proofs.Known.{text_there}
use Rattle.mg_bson.proofs.Elements.{then}

-- a value of few levels without such a name, and a document
pub record Plain (n : ℕ) (t : Tree) : Type 0 where
  pub shallow : tree_depth t ≤ n
  pub named : has_bad_name t ≡ false

pub record PlainFields (n : ℕ) (fs : Fields) : Type 0 where
  pub shallow : fields_depth fs ≤ n
  pub named : fields_have_bad_name fs ≡ false

-- a reader of documents that are so, each within one level more
abbrev ReadsPlain : ℕ → (List ℕ → Option Fields) → Type 0
ReadsPlain n read = (bs : List ℕ) (fs : Fields) → read bs ≡ Some fs → (suc (fields_depth fs) ≤ n) × (fields_have_bad_name fs ≡ false)

no_zero : (bs : List ℕ) (name rest : List ℕ) → cut bs ≡ Some (name, rest) → has_zero name ≡ false
no_zero [] name rest e = absurd cc
no_zero (zero ∷ bs) name rest e =
    let same : [] ≡ name = ap (λ (p : List ℕ × List ℕ). p.0) (some_is ([], bs) (name, rest) e) in
    subst (λ (k : List ℕ). has_zero k ≡ false) same refl
no_zero (suc b ∷ bs) name rest e =
    let m = map_some (cut bs) (λ p. (suc b ∷ p.0, p.1)) (name, rest) e in
    let same : suc b ∷ m.0.0 ≡ name = ap (λ (p : List ℕ × List ℕ). p.0) m.2 in
    subst (λ (k : List ℕ). has_zero k ≡ false) same (no_zero bs m.0.0 m.0.1 m.1)

flat : (n : ℕ) (made t : Tree) → tree_depth made ≡ 0 → has_bad_name made ≡ false → Some made ≡ Some t → Plain n t
flat n made t d b e = subst (Plain n) (some_is made t e) (record { shallow = omega (arith, d); named = b })

sized : (n k : ℕ) (make : List ℕ → Tree) (bs : List ℕ) (t : Tree) → tree_depth (make bs) ≡ 0 → has_bad_name (make bs) ≡ false → fixed k make bs ≡ Some t → Plain n t
sized n k make bs t d b e = flat n (make bs) t d b (test_some (eqb (length bs) k) _ t e).1

texts : (n : ℕ) (make : List ℕ → Tree) (o : Option (List ℕ)) (t : Tree) → ((s : List ℕ) → tree_depth (make s) ≡ 0) → ((s : List ℕ) → has_bad_name (make s) ≡ false) → option_map make o ≡ Some t → Plain n t
texts n make (Some s) t d b e = flat n (make s) t (d s) (b s) e
texts n make None t d b e = absurd cc

binary_plain : (n : ℕ) (bs : List ℕ) (t : Tree) → binary_at bs ≡ Some t → Plain n t
unfolding binary_at
binary_plain n bs t e =
    let long = guard_some (ltb (length bs) 5) _ t e in
    flat n _ t refl refl (test_some _ _ t long.1).1

boolean_plain : (n : ℕ) (bs : List ℕ) (t : Tree) → boolean_at bs ≡ Some t → Plain n t
boolean_plain n (zero ∷ []) t e = flat n _ t refl refl e
boolean_plain n (suc zero ∷ []) t e = flat n _ t refl refl e
boolean_plain n [] t e = absurd cc
boolean_plain n (zero ∷ b ∷ bs) t e = absurd cc
boolean_plain n (suc zero ∷ b ∷ bs) t e = absurd cc
boolean_plain n (suc (suc a) ∷ bs) t e = absurd cc

pointer_plain : (n : ℕ) (bs : List ℕ) (t : Tree) → pointer_at bs ≡ Some t → Plain n t
unfolding pointer_at
pointer_plain n bs t e =
    let long = guard_some (ltb (length bs) 12) _ t e in
    texts n _ _ t (λ s. refl) (λ s. refl) long.1

regex_plain : (n : ℕ) (bs : List ℕ) (t : Tree) → regex_at bs ≡ Some t → Plain n t
unfolding regex_at
regex_plain n bs t e =
    let a = bind_some (cut bs) _ t e in
    let p = bind_some (utf8_of a.0.0) _ t a.2 in
    let b = bind_some (cut a.0.1) _ t p.2 in
    let o = bind_some (utf8_of b.0.0) _ t b.2 in
    let end = test_some _ _ t o.2 in
    let pattern : has_zero p.0 ≡ false = ap has_zero (sym (text_there a.0.0 p.0 p.1).1) ∙ no_zero bs a.0.0 a.0.1 a.1 in
    let options : has_zero o.0 ≡ false = ap has_zero (sym (text_there b.0.0 o.0 o.1).1) ∙ no_zero a.0.1 b.0.0 b.0.1 b.1 in
    flat n (regex p.0 o.0) t refl (rw pattern options) end.1

values_plain : (n : ℕ) (fs : Fields) → PlainFields n fs → (items_depth (values fs) ≤ n) × (items_have_bad_name (values fs) ≡ false)
values_plain n no_fields p = (omega arith, refl)
values_plain n (field k t fs) p =
    let parts = either3 (has_zero k) (has_bad_name t) (fields_have_bad_name fs) p.named in
    let others = values_plain n fs (record { shallow = omega (arith, p.shallow); named = parts.1 }) in
    (omega (arith, p.shallow, others.0), rw parts.0 others.1)
  where
    either3 : (a b c : Bool) → (a || (b || c)) ≡ false → (b ≡ false) × (c ≡ false)
    either3 true b c e = absurd cc
    either3 false true c e = absurd cc
    either3 false false c e = (refl, e)

value_plain : (n : ℕ) (read : List ℕ → Option Fields) (k : Kind) (bs : List ℕ) (t : Tree) → ReadsPlain n read → value_at read k bs ≡ Some t → Plain n t
value_plain n read kind.Double bs t r e = sized n 8 double bs t refl refl e
value_plain n read kind.String bs t r e = texts n string (text_at bs) t (λ s. refl) (λ s. refl) e
value_plain n read kind.Document bs t r e =
    let m = map_some (read bs) document t e in
    let inner = r bs m.0 m.1 in
    subst (Plain n) m.2 (record { shallow = inner.0; named = inner.1 })
value_plain n read kind.Array bs t r e =
    let m = map_some (read bs) (λ fs. array (values fs)) t e in
    let inner = r bs m.0 m.1 in
    let of_items = values_plain (fields_depth m.0) m.0 (record { shallow = omega arith; named = inner.1 }) in
    subst (Plain n) m.2 (record { shallow = omega (arith, inner.0, of_items.0); named = of_items.1 })
value_plain n read kind.Binary bs t r e = binary_plain n bs t e
value_plain n read kind.Undefined bs t r e = sized n 0 (λ _. undefined) bs t refl refl e
value_plain n read kind.ObjectId bs t r e = sized n 12 object_id bs t refl refl e
value_plain n read kind.Boolean bs t r e = boolean_plain n bs t e
value_plain n read kind.DateTime bs t r e = sized n 8 (λ bs. date_time (cast_signed w64 (le64_at bs))) bs t refl refl e
value_plain n read kind.Null bs t r e = sized n 0 (λ _. null) bs t refl refl e
value_plain n read kind.Regex bs t r e = regex_plain n bs t e
value_plain n read kind.DbPointer bs t r e = pointer_plain n bs t e
value_plain n read kind.Code bs t r e = texts n script (text_at bs) t (λ s. refl) (λ s. refl) e
value_plain n read kind.Symbol bs t r e = texts n symbol (text_at bs) t (λ s. refl) (λ s. refl) e
value_plain n read kind.CodeWithScope bs t r e =
    let p = bind_some (scope_parts bs) (λ p. option_map (scoped p.0) (read p.1)) t e in
    let m = map_some (read p.0.1) (scoped p.0.0) t p.2 in
    let inner = r p.0.1 m.0 m.1 in
    subst (Plain n) m.2 (record { shallow = inner.0; named = inner.1 })
value_plain n read kind.Int32 bs t r e = sized n 4 (λ bs. int32 (cast_signed w32 (le32_at bs))) bs t refl refl e
value_plain n read kind.Timestamp bs t r e = sized n 8 (λ bs. timestamp (le32_at (drop 4 bs)) (le32_at bs)) bs t refl refl e
value_plain n read kind.Int64 bs t r e = sized n 8 (λ bs. int64 (cast_signed w64 (le64_at bs))) bs t refl refl e
value_plain n read kind.Decimal128 bs t r e = sized n 16 decimal128 bs t refl refl e
value_plain n read kind.MinKey bs t r e = sized n 0 (λ _. min_key) bs t refl refl e
value_plain n read kind.MaxKey bs t r e = sized n 0 (λ _. max_key) bs t refl refl e

name_plain : (b : ℕ) (bs : List ℕ) (e : Element) → element_at (b ∷ bs) ≡ Some e → has_zero e.name ≡ false
unfolding element_at
name_plain b bs e h =
    let k = bind_some (kind_at b) _ e h in
    let c = bind_some (cut bs) _ e k.2 in
    let name = bind_some (utf8_of c.0.0) _ e c.2 in
    let n = bind_some (extent k.0 c.0.1) _ e name.2 in
    let g = guard_some (ltb (length c.0.1) n.0) _ e n.2 in
    let plain : has_zero name.0 ≡ false = ap has_zero (sym (text_there c.0.0 name.0 name.1).1) ∙ no_zero bs c.0.0 c.0.1 c.1 in
    ap (λ (x : Element). has_zero x.name) (sym (some_is _ e g.1)) ∙ plain

within_plain : (n : ℕ) (read : List ℕ → Option Fields) (m : ℕ) (bs : List ℕ) (fs : Fields) → ReadsPlain n read → fields_within read m bs ≡ Some fs → PlainFields n fs
unfolding fields_within
within_plain n read m [] fs r e = subst (PlainFields n) (some_is no_fields fs e) (record { shallow = omega arith; named = refl })
within_plain n read zero (b ∷ bs) fs r e = absurd cc
within_plain n read (suc m) (b ∷ bs) fs r e =
    let x = bind_some (element_at (b ∷ bs)) (then read (fields_within read m)) fs e in
    let t = bind_some (value_at read x.0.kind x.0.value) _ fs x.2 in
    let others = bind_some (fields_within read m x.0.rest) _ fs t.2 in
    let of_value = value_plain n read x.0.kind x.0.value t.0 r t.1 in
    let of_others = within_plain n read m x.0.rest others.0 r others.1 in
    let name = name_plain b bs x.0 x.1 in
    let made : PlainFields n (field x.0.name t.0 others.0) = record { shallow = omega (arith, of_value.shallow, of_others.shallow); named = rw (name, of_value.named) of_others.named } in
    subst (PlainFields n) (some_is _ fs others.2) made

reads_plain : (n : ℕ) → ReadsPlain n (doc_at n)
unfolding doc_at fields_at
reads_plain zero bs fs e = absurd cc
reads_plain (suc n) bs fs e =
    let body = bind_some (body_at bs) _ fs e in
    let p = within_plain n (doc_at n) (length body.0) body.0 fs (reads_plain n) body.2 in
    (omega (arith, p.shallow), p.named)

-- what was read has at most 100 levels, and no name or text of a regular expression with a 0
pub read_within_limits : (bs : List ℕ) (d : Fields) → doc_at 100 bs ≡ Some d → (levels d ≤ 100) × (fields_have_bad_name d ≡ false)
read_within_limits bs d e = reads_plain 100 bs d e
