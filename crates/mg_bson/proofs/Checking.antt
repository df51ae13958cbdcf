-- Elements and levels, one after the other, as the check goes through them.
use Rattle.std.proofs.Common.{◌≡◌, ℕ, zero, suc, ◌≤◌, ◌<◌, List, [], ◌∷◌, length, true, false, Option, Some, None, is_some, refl, ap, ◌∙◌, arith}
use Rattle.mg_bson.specs.Tree.{Tree, Fields, field}
use Rattle.mg_bson.specs.Reading.{◌>>=◌, Element, element_at, body_at, value_at, fields_at, doc_at}
use Rattle.mg_bson.proofs.Options.{some_there}
use Rattle.mg_bson.proofs.Elements.{then, element_shorter, fields_at-nil, fields_at-front}

pub ended : (read : List ℕ → Option Fields) (bs : List ℕ) → length bs ≤ 0 → is_some (fields_at read bs) ≡ true
ended read [] h = ap is_some (fields_at-nil read)
ended read (b ∷ bs) h = absurd (omega arith)

pub stops : (read : List ℕ → Option Fields) (bs : List ℕ) → 0 < length bs → element_at bs ≡ None → is_some (fields_at read bs) ≡ false
stops read [] lt e = absurd (omega arith)
stops read (b ∷ bs) lt e = ap is_some (fields_at-front read b bs) ∙ rw e refl

then_stops : (read others : List ℕ → Option Fields) (e : Element) → is_some (value_at read e.kind e.value) ≡ false → is_some (then read others e) ≡ false
then_stops read others e h = nothing (value_at read e.kind e.value) h where
  nothing : (o : Option Tree) → is_some o ≡ false → is_some (o >>= λ t. others e.rest >>= λ fs. Some (field e.name t fs)) ≡ false
  nothing (Some t) h = absurd cc
  nothing None h = refl

pub stops_at_value : (read : List ℕ → Option Fields) (bs : List ℕ) (e : Element) → 0 < length bs → element_at bs ≡ Some e → is_some (value_at read e.kind e.value) ≡ false → is_some (fields_at read bs) ≡ false
stops_at_value read [] e lt is h = absurd (omega arith)
stops_at_value read (b ∷ bs) e lt is h = ap is_some (fields_at-front read b bs) ∙ rw is (then_stops read (fields_at read) e h)

then_on : (e : Element) (o : Option Fields) (t : Tree) → is_some (o >>= λ fs. Some (field e.name t fs)) ≡ is_some o
then_on e (Some fs) t = refl
then_on e None t = refl

pub goes_on : (read : List ℕ → Option Fields) (bs : List ℕ) (e : Element) → 0 < length bs → element_at bs ≡ Some e → is_some (value_at read e.kind e.value) ≡ true → is_some (fields_at read bs) ≡ is_some (fields_at read e.rest)
goes_on read [] e lt is h = absurd (omega arith)
goes_on read (b ∷ bs) e lt is h =
    let t = some_there (value_at read e.kind e.value) h in
    ap is_some (fields_at-front read b bs) ∙ rw (is, t.1) (then_on e (fields_at read e.rest) t.0)

pub shorter : (bs : List ℕ) (e : Element) → 0 < length bs → element_at bs ≡ Some e → length e.rest < length bs
shorter [] e lt is = absurd (omega arith)
shorter (b ∷ bs) e lt is = omega (arith, element_shorter b bs e is)

pub no_levels : (n : ℕ) (bs : List ℕ) → n ≤ 0 → is_some (doc_at n bs) ≡ false
unfolding doc_at
no_levels zero bs h = refl
no_levels (suc n) bs h = absurd (omega arith)

pub no_body : (n : ℕ) (bs : List ℕ) → 0 < n → body_at bs ≡ None → is_some (doc_at n bs) ≡ false
unfolding doc_at
no_body zero bs lt e = absurd (omega arith)
no_body (suc n) bs lt e = rw e refl

pub in_body : (n m : ℕ) (bs body : List ℕ) → suc m ≡ n → body_at bs ≡ Some body → doc_at n bs ≡ fields_at (doc_at m) body
unfolding doc_at
in_body n m bs body e is = rw (← e, is) refl
