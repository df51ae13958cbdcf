-- What is lent of bytes is a part of them.
use Rattle.std.proofs.Common.{◌≡◌, ◌+◌, ◌-◌, ℕ, zero, suc, List, [], ◌∷◌, length, Bool, true, false, cond, Option, Some, sym, ap, subst, ◌∙◌, arith}
use Rattle.std.specs.List.{All, AllByRecursion}
use Rattle.std.specs.Str.{bytes_eq}
use Rattle.std.proofs.lemmas.List.Elements.{All-from_recursion}
use Rattle.mg_bson.specs.Reading.{◌>>=◌, Element, element_at, body_at}
use Rattle.mg_bson.specs.Raw.{Spelled}
use Rattle.mg_bson.specs.Spans.{between, named_within, value_named, document_by, array_by, document_named, array_named, array_inside, documents_within, documents_left, documents_inside, IsPartOf}
use Rattle.mg_bson.proofs.Options.{bind_some, some_is}
use Rattle.mg_bson.proofs.Spans.{between_between, length-between, Ends, lies, body_ends, pick}
use Rattle.mg_bson.proofs.Inside.{document_kind, array_kind}

-- a part of a part
part_of_part : (inner part whole : List ℕ) → IsPartOf inner part → IsPartOf part whole → IsPartOf inner whole
part_of_part inner part whole p q =
    let long : length part ≡ q.upto - q.from = ap length q.these ∙ length-between whole q.from q.upto q.within in
    let a = p.forward in
    let b = p.within in
    let c = q.forward in
    let d = q.within in
    record {
      from = q.from + p.from;
      upto = q.from + p.upto;
      forward = omega arith;
      within = omega arith;
      these = p.these ∙ ap (between p.from p.upto) q.these ∙ between_between whole p.from p.upto q.from q.upto (omega arith);
    }

-- the value of an element
element_part : (whole left : List ℕ) (upto : ℕ) (e : Element) → Ends whole upto left → element_at left ≡ Some e → IsPartOf e.value whole
element_part whole left upto e p is =
    let l = lies whole left upto e p is in
    let a = l.long in
    let b = l.short in
    let c = l.inside in
    record {
      from = upto - length e.rest - length e.value;
      upto = upto - length e.rest;
      forward = omega arith;
      within = omega arith;
      these = sym (l.value (upto - length e.rest - length e.value) (upto - length e.rest) (omega arith) (omega arith));
    }

-- the value of a name, or that of another behind it
picked : (whole name : List ℕ) (b : Bool) (e : Element) (o : Option Spelled) (v : Spelled) → IsPartOf e.value whole → (o ≡ Some v → IsPartOf v.bytes whole) → cond b (Some (record { kind = e.kind; bytes = e.value })) o ≡ Some v → IsPartOf v.bytes whole
picked whole name true e o v here later is = subst (λ (x : Spelled). IsPartOf x.bytes whole) (some_is (record { kind = e.kind; bytes = e.value }) v is) here
picked whole name false e o v here later is = later is

named_part : (whole name : List ℕ) (upto n : ℕ) (left : List ℕ) (v : Spelled) → Ends whole upto left → named_within n name left ≡ Some v → IsPartOf v.bytes whole
unfolding named_within
named_part whole name upto zero left v p is = absurd cc
named_part whole name upto (suc n) left v p is =
    let x = bind_some (element_at left) (pick name (named_within n name)) v is in
    picked whole name (bytes_eq x.0.name name) x.0 (named_within n name x.0.rest) v (element_part whole left upto x.0 p x.1)
    (λ later. named_part whole name upto n x.0.rest v (lies whole left upto x.0 p x.1).rest later) x.2

value_part : (name bs : List ℕ) (v : Spelled) → value_named name bs ≡ Some v → IsPartOf v.bytes bs
unfolding value_named
value_part name bs v is =
    let body = bind_some (body_at bs) (λ body. named_within (length body) name body) v is in
    named_part bs name (length bs - 1) (length body.0) body.0 v (body_ends bs body.0 body.1).ends body.2

document_part : (name bs d : List ℕ) → document_named name bs ≡ Some d → IsPartOf d bs
document_part name bs d is =
    let v = bind_some (value_named name bs) (λ v. document_by v.kind v.bytes) d is in
    subst (λ (part : List ℕ). IsPartOf part bs) (document_kind v.0.kind v.0.bytes d v.2).1 (value_part name bs v.0 v.1)

array_part : (name bs a : List ℕ) → array_named name bs ≡ Some a → IsPartOf a bs
array_part name bs a is =
    let v = bind_some (value_named name bs) (λ v. array_by v.kind v.bytes) a is in
    subst (λ (part : List ℕ). IsPartOf part bs) (array_kind v.0.kind v.0.bytes a v.2).1 (value_part name bs v.0 v.1)

-- an array inside a document
pub inside_part : (outer name bs a : List ℕ) → array_inside outer name bs ≡ Some a → IsPartOf a bs
inside_part outer name bs a is =
    let d = bind_some (document_named outer bs) (array_named name) a is in
    part_of_part a d.0 bs (array_part name d.0 a d.2) (document_part outer bs d.0 d.1)

documents_part : (whole : List ℕ) (upto n : ℕ) (left : List ℕ) (ds : List (List ℕ)) → Ends whole upto left → documents_within n left ≡ Some ds → AllByRecursion (λ (d : List ℕ). IsPartOf d whole) ds
unfolding documents_within
documents_part whole upto n [] ds p is = subst (AllByRecursion (λ (d : List ℕ). IsPartOf d whole)) (some_is [] ds is) tt
documents_part whole upto zero (b ∷ bs) ds p is = absurd cc
documents_part whole upto (suc n) (b ∷ bs) ds p is =
    let x = bind_some (element_at (b ∷ bs)) (λ e. document_by e.kind e.value >>= λ d. documents_within n e.rest >>= λ ds. Some (d ∷ ds)) ds is in
    let d = bind_some (document_by x.0.kind x.0.value) (λ d. documents_within n x.0.rest >>= λ ds. Some (d ∷ ds)) ds x.2 in
    let others = bind_some (documents_within n x.0.rest) (λ ds. Some (d.0 ∷ ds)) ds d.2 in
    let here : IsPartOf d.0 whole = subst (λ (part : List ℕ). IsPartOf part whole) (document_kind x.0.kind x.0.value d.0 d.1).1 (element_part whole (b ∷ bs) upto x.0 p x.1) in
    subst (AllByRecursion (λ (d : List ℕ). IsPartOf d whole)) (some_is (d.0 ∷ others.0) ds others.2)
    (here, documents_part whole upto n x.0.rest others.0 (lies whole (b ∷ bs) upto x.0 p x.1).rest others.1)

-- each document of an array
pub documents_parts : (bs : List ℕ) (ds : List (List ℕ)) → documents_inside bs ≡ Some ds → All (λ (d : List ℕ). IsPartOf d bs) ds
unfolding documents_inside documents_left
documents_parts bs ds is =
    let body = bind_some (body_at bs) (λ body. documents_within (length body) body) ds is in
    All-from_recursion (λ (d : List ℕ). IsPartOf d bs) ds (documents_part bs (length bs - 1) (length body.0) body.0 ds (body_ends bs body.0 body.1).ends body.2)
