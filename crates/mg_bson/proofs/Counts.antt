-- No document has more fields than bytes.
use Rattle.std.proofs.Common.{◌≡◌, ℕ, zero, suc, ◌-◌, ◌≤◌, List, [], ◌∷◌, length, take, drop, ltb, eqb, get_or, Option, Some, None, refl, ap, arith, length-drop, length-take}
use Rattle.mg_bson.specs.Tree.{Fields, no_fields, field}
use Rattle.mg_bson.specs.Find.{fields_length, items_length}
use Rattle.mg_bson.specs.Reading.{le32_at, element_at, body_at, value_at, values, fields_within, fields_at, doc_at, doc}
use Rattle.mg_bson.specs.Raw.{fields, items}
use Rattle.mg_bson.proofs.Options.{bind_some, guard_some, test_some, some_is}
use Rattle.mg_bson.proofs.Elements.{then, element_shorter}

within_count : (read : List ℕ → Option Fields) (n : ℕ) (bs : List ℕ) (fs : Fields) → fields_within read n bs ≡ Some fs → fields_length fs ≤ length bs
unfolding fields_within
within_count read n [] fs e = omega (arith, ap fields_length (some_is no_fields fs e))
within_count read zero (b ∷ bs) fs e = absurd cc
within_count read (suc n) (b ∷ bs) fs e =
    let x = bind_some (element_at (b ∷ bs)) (then read (fields_within read n)) fs e in
    let t = bind_some (value_at read x.0.kind x.0.value) _ fs x.2 in
    let others = bind_some (fields_within read n x.0.rest) _ fs t.2 in
    omega (arith, element_shorter b bs x.0 x.1, within_count read n x.0.rest others.0 others.1, ap fields_length (some_is _ fs others.2))

body_count : (bs body : List ℕ) → body_at bs ≡ Some body → length body ≤ length bs
unfolding body_at
body_count bs body e =
    let a = guard_some (ltb (length bs) 5) _ body e in
    let b = test_some (ltb (length bs) 2147483648) _ body a.1 in
    let c = test_some (eqb (le32_at bs) (length bs)) _ body b.1 in
    let d = test_some (eqb (get_or bs (length bs - 1) 0) 0) _ body c.1 in
    omega (arith, ap (λ (x : List ℕ). length x) (some_is (drop 4 (take (length bs - 1) bs)) body d.1), length-drop 4 (take (length bs - 1) bs), length-take (length bs - 1) bs)

doc_count : (bs : List ℕ) (fs : Fields) → doc bs ≡ Some fs → fields_length fs ≤ length bs
unfolding doc_at fields_at
doc_count bs fs e =
    let b = bind_some (body_at bs) (fields_at (doc_at 99)) fs e in
    omega (arith, body_count bs b.0 b.1, within_count (doc_at 99) (length b.0) b.0 fs b.2)

counted : (bs : List ℕ) (o : Option Fields) → doc bs ≡ o → fields_length (fields bs) ≤ length bs
unfolding fields
counted bs (Some fs) e = rw e (doc_count bs fs e)
counted bs None e = rw e (omega arith)

length-values : (fs : Fields) → items_length (values fs) ≡ fields_length fs
length-values no_fields = refl
length-values (field k t fs) = ap suc (length-values fs)

pub items_count : (bs : List ℕ) → items_length (items bs) ≤ length bs
items_count bs = omega (arith, length-values (fields bs), counted bs (doc bs) refl)
