-- Elements one after the other.
use Rattle.std.proofs.Common.{◌≡◌, ℕ, zero, suc, ◌+◌, ◌≤◌, List, [], ◌∷◌, length, ltb, Option, Some, option_map, refl, ap, arith, length-drop}
use Rattle.mg_bson.specs.Tree.{Tree, document, array, scoped, Fields, no_fields, field}
use Rattle.mg_bson.specs.declared.kind.Kind.{Kind}
use Rattle.mg_bson.specs.declared.kind.Kind.TheVariants as kind
use Rattle.mg_bson.specs.Kind.{kind_at}
use Rattle.mg_bson.specs.Reading.{◌>>=◌, cut, utf8_of, extent, Element, element_at, body_at, scope_parts, value_at, values, fields_within, fields_at, doc_at}
use Rattle.mg_bson.proofs.Options.{bind_some, bind_same, map_some, guard_some, some_is}

pub cut_shorter : (bs : List ℕ) (c : List ℕ × List ℕ) → cut bs ≡ Some c → length c.1 ≤ length bs
cut_shorter [] c e = absurd cc
cut_shorter (zero ∷ bs) c e = omega (arith, ap (λ (p : List ℕ × List ℕ). length p.1) (some_is ([], bs) c e))
cut_shorter (suc b ∷ bs) c e =
    let m = map_some (cut bs) (λ p. (suc b ∷ p.0, p.1)) c e in
    omega (arith, cut_shorter bs m.0 m.1, ap (λ (p : List ℕ × List ℕ). length p.1) m.2)

-- with the 0
pub cut_len : (bs : List ℕ) (c : List ℕ × List ℕ) → cut bs ≡ Some c → length c.0 + length c.1 + 1 ≡ length bs
cut_len [] c e = absurd cc
cut_len (zero ∷ bs) c e = omega (arith, ap (λ (p : List ℕ × List ℕ). length p.0 + length p.1) (some_is ([], bs) c e))
cut_len (suc b ∷ bs) c e =
    let m = map_some (cut bs) (λ p. (suc b ∷ p.0, p.1)) c e in
    omega (arith, cut_len bs m.0 m.1, ap (λ (p : List ℕ × List ℕ). length p.0 + length p.1) m.2)

pub element_shorter : (b : ℕ) (bs : List ℕ) (e : Element) → element_at (b ∷ bs) ≡ Some e → length e.rest ≤ length bs
unfolding element_at
element_shorter b bs e h =
    let k = bind_some (kind_at b) _ e h in
    let c = bind_some (cut bs) _ e k.2 in
    let name = bind_some (utf8_of c.0.0) _ e c.2 in
    let n = bind_some (extent k.0 c.0.1) _ e name.2 in
    let g = guard_some (ltb (length c.0.1) n.0) _ e n.2 in
    omega (arith, cut_shorter bs c.0 c.1, length-drop n.0 c.0.1, ap (λ (x : Element). length x.rest) (some_is _ e g.1))

-- what stands in front, and then the others
abbrev pub then : (List ℕ → Option Fields) → (List ℕ → Option Fields) → Element → Option Fields
then read others e = value_at read e.kind e.value >>= λ t. others e.rest >>= λ fs. Some (field e.name t fs)

then_same : (read : List ℕ → Option Fields) (f g : List ℕ → Option Fields) (e : Element) → f e.rest ≡ g e.rest → then read f e ≡ then read g e
then_same read f g e h = ap (λ (r : Option Fields). value_at read e.kind e.value >>= λ t. r >>= λ fs. Some (field e.name t fs)) h

-- a larger count of elements changes nothing
pub within_enough : (read : List ℕ → Option Fields) (n m : ℕ) (bs : List ℕ) → length bs ≤ n → length bs ≤ m → fields_within read n bs ≡ fields_within read m bs
unfolding fields_within
within_enough read n m [] p q = refl
within_enough read zero m (b ∷ bs) p q = absurd (omega arith)
within_enough read (suc n) zero (b ∷ bs) p q = absurd (omega arith)
within_enough read (suc n) (suc m) (b ∷ bs) p q =
    bind_same (element_at (b ∷ bs)) (then read (fields_within read n)) (then read (fields_within read m)) (λ e h.
    then_same read (fields_within read n) (fields_within read m) e
    (within_enough read n m e.rest (omega (arith, element_shorter b bs e h)) (omega (arith, element_shorter b bs e h))))

pub fields_at-nil : (read : List ℕ → Option Fields) → fields_at read [] ≡ Some no_fields
unfolding fields_at fields_within
fields_at-nil read = refl

pub fields_at-front : (read : List ℕ → Option Fields) (b : ℕ) (bs : List ℕ) → fields_at read (b ∷ bs) ≡ (element_at (b ∷ bs) >>= then read (fields_at read))
unfolding fields_at fields_within
fields_at-front read b bs =
    bind_same (element_at (b ∷ bs)) (then read (fields_within read (length bs))) (then read (fields_at read)) (λ e h.
    then_same read (fields_within read (length bs)) (fields_at read) e
    (within_enough read (length bs) (length e.rest) e.rest (element_shorter b bs e h) (omega arith)))

-- ---- a reader that reads more

abbrev pub ReadsMore : (List ℕ → Option Fields) → (List ℕ → Option Fields) → Type 0
ReadsMore r s = (bs : List ℕ) (fs : Fields) → r bs ≡ Some fs → s bs ≡ Some fs

value_at-more : (r s : List ℕ → Option Fields) (k : Kind) (bs : List ℕ) (t : Tree) → ReadsMore r s → value_at r k bs ≡ Some t → value_at s k bs ≡ Some t
value_at-more r s kind.Double bs t more e = e
value_at-more r s kind.String bs t more e = e
value_at-more r s kind.Document bs t more e = let m = map_some (r bs) document t e in rw (more bs m.0 m.1) (ap Some m.2)
value_at-more r s kind.Array bs t more e = let m = map_some (r bs) (λ fs. array (values fs)) t e in rw (more bs m.0 m.1) (ap Some m.2)
value_at-more r s kind.Binary bs t more e = e
value_at-more r s kind.Undefined bs t more e = e
value_at-more r s kind.ObjectId bs t more e = e
value_at-more r s kind.Boolean bs t more e = e
value_at-more r s kind.DateTime bs t more e = e
value_at-more r s kind.Null bs t more e = e
value_at-more r s kind.Regex bs t more e = e
value_at-more r s kind.DbPointer bs t more e = e
value_at-more r s kind.Code bs t more e = e
value_at-more r s kind.Symbol bs t more e = e
value_at-more r s kind.CodeWithScope bs t more e =
    let p = bind_some (scope_parts bs) (λ p. option_map (scoped p.0) (r p.1)) t e in
    let m = map_some (r p.0.1) (scoped p.0.0) t p.2 in
    rw (p.1, more p.0.1 m.0 m.1) (ap Some m.2)
value_at-more r s kind.Int32 bs t more e = e
value_at-more r s kind.Timestamp bs t more e = e
value_at-more r s kind.Int64 bs t more e = e
value_at-more r s kind.Decimal128 bs t more e = e
value_at-more r s kind.MinKey bs t more e = e
value_at-more r s kind.MaxKey bs t more e = e

fields_within-more : (r s : List ℕ → Option Fields) (n : ℕ) (bs : List ℕ) (fs : Fields) → ReadsMore r s → fields_within r n bs ≡ Some fs → fields_within s n bs ≡ Some fs
unfolding fields_within
fields_within-more r s n [] fs more e = e
fields_within-more r s zero (b ∷ bs) fs more e = absurd cc
fields_within-more r s (suc n) (b ∷ bs) fs more e =
    let x = bind_some (element_at (b ∷ bs)) (then r (fields_within r n)) fs e in
    let t = bind_some (value_at r x.0.kind x.0.value) _ fs x.2 in
    let others = bind_some (fields_within r n x.0.rest) _ fs t.2 in
    rw (x.1, value_at-more r s x.0.kind x.0.value t.0 more t.1, fields_within-more r s n x.0.rest others.0 more others.1) others.2

fields_at-more : (r s : List ℕ → Option Fields) (bs : List ℕ) (fs : Fields) → ReadsMore r s → fields_at r bs ≡ Some fs → fields_at s bs ≡ Some fs
unfolding fields_at
fields_at-more r s bs fs more e = fields_within-more r s (length bs) bs fs more e

pub doc_at-more : (n : ℕ) (bs : List ℕ) (fs : Fields) → doc_at n bs ≡ Some fs → doc_at (suc n) bs ≡ Some fs
unfolding doc_at
doc_at-more zero bs fs e = absurd cc
doc_at-more (suc n) bs fs e =
    let b = bind_some (body_at bs) (fields_at (doc_at n)) fs e in
    rw b.1 (fields_at-more (doc_at n) (doc_at (suc n)) b.0 fs (doc_at-more n) b.2)
