-- What is lent of checked bytes.
use Rattle.std.proofs.Common.{◌≡◌, ℕ, List, [], ◌∷◌, true, Option, Some, None, option_map, is_some, refl, sym, ap, subst, ◌∙◌}
use Rattle.std.specs.Prelude.{unwrap_or, IfSome, MatchOption}
use Rattle.mg_bson.specs.Tree.{Tree, document, array, scoped, null, Fields, no_fields, field}
use Rattle.mg_bson.specs.RawView.{value}
use Rattle.mg_bson.specs.declared.raw.RawValue.{RawValue}
use Rattle.mg_bson.specs.declared.kind.Kind.TheVariants as kind
use Rattle.mg_bson.specs.Reading.{◌>>=◌, Element, element_at, body_at, scope_parts, value_at, values, fields_at, doc_at, doc}
use Rattle.mg_bson.specs.Raw.{Spelled, IsDocument, AreFields, IsValue, fields, fields_left, items, spelled}
use Rattle.mg_bson.proofs.Options.{bind_some, map_some, some_there, some_is}
use Rattle.mg_bson.proofs.Elements.{fields_at-nil, fields_at-front, doc_at-more}

-- the values that the words of the clauses stand for
pub fields-are : (bs : List ℕ) (fs : Fields) → doc bs ≡ Some fs → fields bs ≡ fs
unfolding fields
fields-are bs fs e = ap (λ (o : Option Fields). unwrap_or o no_fields) e

pub fields_left-are : (bs : List ℕ) (fs : Fields) → fields_at (doc_at 99) bs ≡ Some fs → fields_left bs ≡ fs
unfolding fields_left
fields_left-are bs fs e = ap (λ (o : Option Fields). unwrap_or o no_fields) e

pub spelled-is : (v : Spelled) (t : Tree) → value_at (doc_at 99) v.kind v.bytes ≡ Some t → spelled v ≡ t
unfolding spelled
spelled-is v t e = ap (λ (o : Option Tree). unwrap_or o null) e

is_there : {A : Type 0} (o : Option A) (x : A) → o ≡ Some x → is_some o ≡ true
is_there o x e = ap is_some e

-- ---- elements

pub nothing_left : AreFields []
nothing_left = ap is_some (fields_at-nil (doc_at 99))

pub no_element : (bs : List ℕ) → AreFields bs → element_at bs ≡ None → fields_left bs ≡ no_fields
no_element [] h e = fields_left-are [] no_fields (fields_at-nil (doc_at 99))
no_element (b ∷ bs) h e =
    let there = some_there (fields_at (doc_at 99) (b ∷ bs)) h in
    let front = bind_some (element_at (b ∷ bs)) _ there.0 (sym (fields_at-front (doc_at 99) b bs) ∙ there.1) in
    absurd (cc (front.1, e))

pub record HasElement (bs : List ℕ) (e : Element) : Type 0 where
  pub is_value : IsValue (record { kind = e.kind; bytes = e.value })
  pub rest : AreFields e.rest
  pub parts : fields_left bs ≡ field e.name (spelled (record { kind = e.kind; bytes = e.value })) (fields_left e.rest)

nothing_at : (e : Element) → element_at [] ≡ Some e → ⊥
unfolding element_at
nothing_at e is = cc

pub some_element : (bs : List ℕ) (e : Element) → AreFields bs → element_at bs ≡ Some e → HasElement bs e
some_element [] e h is = absurd (nothing_at e is)
some_element (b ∷ bs) e h is =
    let read = doc_at 99 in
    let there = some_there (fields_at read (b ∷ bs)) h in
    let front = bind_some (element_at (b ∷ bs)) _ there.0 (sym (fields_at-front read b bs) ∙ there.1) in
    let same : front.0 ≡ e = some_is front.0 e (sym front.1 ∙ is) in
    let t = bind_some (value_at read front.0.kind front.0.value) _ there.0 front.2 in
    let others = bind_some (fields_at read front.0.rest) _ there.0 t.2 in
    let v : Spelled = record { kind = front.0.kind; bytes = front.0.value } in
    let made : HasElement (b ∷ bs) front.0 = record {
      is_value = ap is_some t.1;
      rest = ap is_some others.1;
      parts = fields_left-are (b ∷ bs) there.0 there.1 ∙ sym (some_is _ there.0 others.2) ∙ rw (spelled-is v t.0 t.1, fields_left-are front.0.rest others.0 others.1) refl;
    } in
    subst (HasElement (b ∷ bs)) same made

-- ---- documents

pub has_body : (bs : List ℕ) → IsDocument bs → body_at bs ≡ None → ⊥
unfolding doc_at
has_body bs h e =
    let there = some_there (doc bs) h in
    let b = bind_some (body_at bs) (fields_at (doc_at 99)) there.0 there.1 in
    cc (b.1, e)

pub body_fields : (bs body : List ℕ) → IsDocument bs → body_at bs ≡ Some body → AreFields body × (fields_left body ≡ fields bs)
unfolding doc_at
body_fields bs body h e =
    let there = some_there (doc bs) h in
    let b = bind_some (body_at bs) (fields_at (doc_at 99)) there.0 there.1 in
    let same : b.0 ≡ body = some_is b.0 body (sym b.1 ∙ e) in
    let read : fields_at (doc_at 99) body ≡ Some there.0 = subst (λ (x : List ℕ). fields_at (doc_at 99) x ≡ Some there.0) same b.2 in
    (ap is_some read, fields_left-are body there.0 read ∙ sym (fields-are bs there.0 there.1))

-- ---- values

-- what a value that was opened is
pub opened_is : (v : Spelled) (o : Option RawValue) (r : RawValue) → option_map value o ≡ value_at (doc_at 99) v.kind v.bytes → o ≡ Some r → spelled v ≡ value r
opened_is v o r e is = spelled-is v (value r) (sym e ∙ ap (option_map value) is)

-- what bytes that are a value are opened as
pub spells : (v : Spelled) → IsValue v → value_at (doc_at 99) v.kind v.bytes ≡ Some (spelled v)
spells v h =
    let there = some_there (value_at (doc_at 99) v.kind v.bytes) h in
    there.1 ∙ ap Some (sym (spelled-is v there.0 there.1))

pub opens : (v : Spelled) → IsValue v → value_at (doc_at 99) v.kind v.bytes ≡ None → ⊥
opens v h e = let there = some_there (value_at (doc_at 99) v.kind v.bytes) h in cc (there.1, e)

-- an element with the value that was opened, as the next one
pub opened_next : {A : Type 0} (P : Type 0) (name : A → List ℕ) (val : A → Tree) (v : Spelled) (k : List ℕ) (all rest : Fields) (o : Option A) → IsValue v → all ≡ field k (spelled v) rest
    → IfSome o (λ r. name r ≡ k) → option_map val o ≡ value_at (doc_at 99) v.kind v.bytes → MatchOption o P (λ r. all ≡ field (name r) (val r) rest)
opened_next P name val v k all rest (Some r) is e n h =
    let opened : spelled v ≡ val r = spelled-is v (val r) (sym h) in
    e ∙ (λ i. field (sym n i) (opened i) rest)
opened_next P name val v k all rest None is e n h = absurd (opens v is (sym h))

-- the documents inside a value
pub inner_document : (bs : List ℕ) → IsValue (record { kind = kind.Document; bytes = bs }) → IsDocument bs × (option_map document (doc_at 99 bs) ≡ Some (document (fields bs)))
inner_document bs h =
    let there = some_there (value_at (doc_at 99) kind.Document bs) h in
    let inner = map_some (doc_at 99 bs) document there.0 there.1 in
    let outer = doc_at-more 99 bs inner.0 inner.1 in
    (ap is_some outer, ap (option_map document) inner.1 ∙ ap (λ fs. Some (document fs)) (sym (fields-are bs inner.0 outer)))

pub inner_array : (bs : List ℕ) → IsValue (record { kind = kind.Array; bytes = bs }) → IsDocument bs × (option_map (λ fs. array (values fs)) (doc_at 99 bs) ≡ Some (array (items bs)))
inner_array bs h =
    let there = some_there (value_at (doc_at 99) kind.Array bs) h in
    let inner = map_some (doc_at 99 bs) (λ fs. array (values fs)) there.0 there.1 in
    let outer = doc_at-more 99 bs inner.0 inner.1 in
    (ap is_some outer, ap (option_map (λ fs. array (values fs))) inner.1 ∙ ap (λ fs. Some (array (values fs))) (sym (fields-are bs inner.0 outer)))

pub inner_scope : (bs s ds : List ℕ) → IsValue (record { kind = kind.CodeWithScope; bytes = bs }) → scope_parts bs ≡ Some (s, ds)
    → IsDocument ds × ((scope_parts bs >>= λ p. option_map (scoped p.0) (doc_at 99 p.1)) ≡ Some (scoped s (fields ds)))
inner_scope bs s ds h e =
    let there = some_there (value_at (doc_at 99) kind.CodeWithScope bs) h in
    let p = bind_some (scope_parts bs) (λ p. option_map (scoped p.0) (doc_at 99 p.1)) there.0 there.1 in
    let same : p.0 ≡ (s, ds) = some_is p.0 (s, ds) (sym p.1 ∙ e) in
    let at : option_map (scoped s) (doc_at 99 ds) ≡ Some there.0 = subst (λ (q : List ℕ × List ℕ). option_map (scoped q.0) (doc_at 99 q.1) ≡ Some there.0) same p.2 in
    let inner = map_some (doc_at 99 ds) (scoped s) there.0 at in
    let outer = doc_at-more 99 ds inner.0 inner.1 in
    (ap is_some outer, rw e (ap (option_map (scoped s)) inner.1 ∙ ap (λ fs. Some (scoped s fs)) (sym (fields-are ds inner.0 outer))))
