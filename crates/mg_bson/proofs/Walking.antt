-- The documents of an array, one after the other.
use Rattle.std.proofs.Common.{◌≡◌, ℕ, zero, suc, ◌+◌, ◌-◌, ◌≤◌, List, [], ◌∷◌, length, ltb, Bool, true, false, cond, ◌==◌, ◌↔◌, IsTrue, Option, Some, None, option_map, option_and_then, is_some, unwrap_or, refl, sym, ap, ap₂, subst, ◌∙◌, arith, lt-ltb, le-ltb, eqb-true, eq-eqb}
use Rattle.std.proofs.lemmas.List.{nil_from_length}
use Rattle.mg_bson.specs.declared.kind.Kind.{Kind}
use Rattle.mg_bson.specs.declared.kind.Kind.TheVariants as kind
use Rattle.mg_bson.specs.Reading.{◌>>=◌, Element, element_at, body_at, fields_at, doc_at}
use Rattle.mg_bson.specs.Raw.{IsDocument, AreFields, IsValue}
use Rattle.mg_bson.specs.Spans.{between, document_by, documents_within, documents_left, documents_inside}
use Rattle.mg_bson.specs.Walks.{Walk, before, advanced, advanced_to, current_at, front_of, passed_over, walk_at, without_front, IsWalk}
use Rattle.mg_bson.proofs.Options.{bind_some, bind_same, some_there}
use Rattle.mg_bson.proofs.Elements.{element_shorter, fields_at-front}
use Rattle.mg_bson.proofs.Lending.{some_element, inner_document}
use Rattle.mg_bson.proofs.Spans.{length-between, between_ends, ends_between, lies, document_long}
use Rattle.mg_bson.proofs.Inside.{document_kind}

nothing_at : (e : Element) → element_at [] ≡ Some e → ⊥
unfolding element_at
nothing_at e is = cc

-- checked bytes without an element are none
pub no_more : (bs : List ℕ) → AreFields bs → element_at bs ≡ None → bs ≡ []
no_more [] h e = refl
no_more (b ∷ bs) h e =
    let there = some_there (fields_at (doc_at 99) (b ∷ bs)) h in
    let front = bind_some (element_at (b ∷ bs)) _ there.0 (sym (fields_at-front (doc_at 99) b bs) ∙ there.1) in
    absurd (cc (front.1, e))

-- the document that an element is, and then the others
abbrev pub chain : (List ℕ → Option (List (List ℕ))) → Element → Option (List (List ℕ))
chain others e = document_by e.kind e.value >>= λ d. others e.rest >>= λ ds. Some (d ∷ ds)

chain_same : (f g : List ℕ → Option (List (List ℕ))) (e : Element) → f e.rest ≡ g e.rest → chain f e ≡ chain g e
chain_same f g e h = ap (λ (r : Option (List (List ℕ))). document_by e.kind e.value >>= λ d. r >>= λ ds. Some (d ∷ ds)) h

-- a larger count of elements changes nothing
documents_enough : (n m : ℕ) (bs : List ℕ) → length bs ≤ n → length bs ≤ m → documents_within n bs ≡ documents_within m bs
unfolding documents_within
documents_enough n m [] p q = refl
documents_enough zero m (b ∷ bs) p q = absurd (omega arith)
documents_enough (suc n) zero (b ∷ bs) p q = absurd (omega arith)
documents_enough (suc n) (suc m) (b ∷ bs) p q =
    bind_same (element_at (b ∷ bs)) (chain (documents_within n)) (chain (documents_within m)) (λ e h.
    chain_same (documents_within n) (documents_within m) e
    (documents_enough n m e.rest (omega (arith, element_shorter b bs e h)) (omega (arith, element_shorter b bs e h))))

pub documents_nil : documents_left [] ≡ Some []
unfolding documents_left documents_within
documents_nil = refl

pub documents_front : (bs : List ℕ) (e : Element) → element_at bs ≡ Some e → documents_left bs ≡ chain documents_left e
unfolding documents_left documents_within
documents_front [] e is = absurd (nothing_at e is)
documents_front (b ∷ bs) e is =
    ap (λ (o : Option Element). o >>= chain (documents_within (length bs))) is
    ∙ chain_same (documents_within (length bs)) documents_left e (documents_enough (length bs) (length e.rest) e.rest (element_shorter b bs e is) (omega arith))

-- only no bytes are no documents
none_left : (bs : List ℕ) → documents_left bs ≡ Some [] → bs ≡ []
unfolding documents_left documents_within
none_left [] e = refl
none_left (b ∷ bs) e =
    let x = bind_some (element_at (b ∷ bs)) (chain (documents_within (length bs))) [] e in
    let d = bind_some (document_by x.0.kind x.0.value) _ [] x.2 in
    let ds = bind_some (documents_within (length bs) x.0.rest) _ [] d.2 in
    let wrong : Some (d.0 ∷ ds.0) ≡ Some [] = ds.2 in
    absurd cc

-- ---- one element after the other

pub stops_there : (bs : List ℕ) (e : Element) → element_at bs ≡ Some e → document_by e.kind e.value ≡ None → documents_left bs ≡ None
stops_there bs e is none =
    documents_front bs e is ∙ ap (λ (o : Option (List ℕ)). o >>= λ d. documents_left e.rest >>= λ ds. Some (d ∷ ds)) none

some_more : (d : List ℕ) (o : Option (List (List ℕ))) → is_some (o >>= λ ds. Some (d ∷ ds)) ≡ is_some o
some_more d (Some ds) = refl
some_more d None = refl

pub goes_on_there : (bs : List ℕ) (e : Element) → element_at bs ≡ Some e → e.kind ≡ kind.Document → is_some (documents_left bs) ≡ is_some (documents_left e.rest)
goes_on_there bs e is document =
    ap is_some (documents_front bs e is ∙ ap (λ (k : Kind). document_by k e.value >>= λ d. documents_left e.rest >>= λ ds. Some (d ∷ ds)) document) ∙ some_more e.value (documents_left e.rest)

pub ended_there : (bs : List ℕ) → AreFields bs → element_at bs ≡ None → is_some (documents_left bs) ≡ true
ended_there bs h is = ap (λ (xs : List ℕ). is_some (documents_left xs)) (no_more bs h is) ∙ ap is_some documents_nil

-- the first element is a document, and then come the others
pub record StartsWith (bs : List ℕ) (e : Element) : Type 0 where
  pub is_document : IsDocument e.value
  pub others : List (List ℕ)
  pub all : documents_left bs ≡ Some (e.value ∷ others)
  pub left : documents_left e.rest ≡ Some others

starts_with : (bs : List ℕ) (e : Element) → AreFields bs → is_some (documents_left bs) ≡ true → element_at bs ≡ Some e → StartsWith bs e
starts_with bs e h d is =
    let there = some_there (documents_left bs) d in
    let first = bind_some (document_by e.kind e.value) _ there.0 (sym (documents_front bs e is) ∙ there.1) in
    let others = bind_some (documents_left e.rest) _ there.0 first.2 in
    let document = document_kind e.kind e.value first.0 first.1 in
    let x = some_element bs e h is in
    record {
      is_document = (inner_document e.value (subst (λ (k : Kind). IsValue (record { kind = k; bytes = e.value })) document.0 x.is_value)).0;
      others = others.0;
      all = there.1 ∙ sym others.2 ∙ ap (λ (d : List ℕ). Some (d ∷ others.0)) (sym document.1);
      left = others.1;
    }

-- ---- a place among them

abbrev walk_of : List ℕ → Option (List ℕ) → List (List ℕ) → Walk
walk_of whole current behind = record { whole = whole; current = current; behind = behind }

-- what an advance leads to
pub record WalksTo (whole : List ℕ) (begin upto next end from to behind : ℕ) : Type 0 where
  pub walk : IsWalk whole from to behind end
  pub state : walk_at whole from to behind end ≡ advanced (walk_at whole begin upto next end)

-- where the next document lies
pub record HasRoom (upto value rest : ℕ) : Type 0 where
  pub behind : rest ≤ upto
  pub before : value ≤ upto - rest

pub has_room : (whole : List ℕ) (next end : ℕ) (e : Element) → end ≤ length whole → element_at (between next end whole) ≡ Some e → HasRoom end (length e.value) (length e.rest)
has_room whole next end e h is =
    let l = lies whole (between next end whole) end e (between_ends whole next end h) is in
    record { behind = omega (arith, l.long, l.short); before = omega (arith, l.long, l.short) }

-- the next document is a part of the bytes, and the current one
pub walks_on : (whole : List ℕ) (begin upto next end from to : ℕ) (e : Element) → IsWalk whole begin upto next end → element_at (between next end whole) ≡ Some e
    → to + length e.rest ≡ end → from + length e.value ≡ to → WalksTo whole begin upto next end from to to × (is_some (current_at whole from to) ≡ true)
walks_on whole begin upto next end from to e w is a b =
    let left = between next end whole in
    let l = lies whole left end e (between_ends whole next end w.inside) is in
    let s = starts_with left e w.elements w.documents is in
    let here : between from to whole ≡ e.value = l.value from to a b in
    let behind : between to end whole ≡ e.rest = ends_between whole e.rest end to l.rest a in
    let long : 5 ≤ length e.value = document_long e.value s.is_document in
    let lt : ltb from to ≡ true = lt-ltb from to (omega arith) in
    let now : current_at whole from to ≡ Some e.value = ap (λ (t : Bool). cond t (Some (between from to whole)) None) lt ∙ ap Some here in
    let more : documents_left (between to end whole) ≡ Some s.others = ap documents_left behind ∙ s.left in
    let walk : IsWalk whole from to to end = record {
      forward = omega arith;
      before_next = omega arith;
      within = omega arith;
      inside = w.inside;
      document = λ _. subst IsDocument (sym here) s.is_document;
      elements = subst AreFields (sym behind) (some_element left e w.elements is).rest;
      documents = ap is_some more;
    } in
    let state : walk_at whole from to to end ≡ advanced (walk_at whole begin upto next end) =
    ap₂ (walk_of whole) now (ap (λ (o : Option (List (List ℕ))). unwrap_or o []) more)
    ∙ sym (ap (λ (o : Option (List (List ℕ))). advanced_to whole (unwrap_or o [])) s.all) in
    (record { walk = walk; state = state }, ap is_some now)

nothing_between : (whole : List ℕ) (at : ℕ) → current_at whole at at ≡ None
nothing_between whole at = ap (λ (t : Bool). cond t (Some (between at at whole)) None) (le-ltb at at (omega arith))

-- where none is left, none is current
pub walks_out : (whole : List ℕ) (begin upto next end : ℕ) → IsWalk whole begin upto next end → element_at (between next end whole) ≡ None
    → WalksTo whole begin upto next end upto upto next × (is_some (current_at whole upto upto) ≡ false)
walks_out whole begin upto next end w is =
    let none : documents_left (between next end whole) ≡ Some [] = ap documents_left (no_more (between next end whole) w.elements is) ∙ documents_nil in
    let now = nothing_between whole upto in
    let walk : IsWalk whole upto upto next end = record {
      forward = omega arith;
      before_next = w.before_next;
      within = w.within;
      inside = w.inside;
      document = λ lt. absurd (omega arith);
      elements = w.elements;
      documents = w.documents;
    } in
    let state : walk_at whole upto upto next end ≡ advanced (walk_at whole begin upto next end) =
    ap₂ (walk_of whole) now (ap (λ (o : Option (List (List ℕ))). unwrap_or o []) none)
    ∙ sym (ap (λ (o : Option (List (List ℕ))). advanced_to whole (unwrap_or o [])) none) in
    (record { walk = walk; state = state }, ap is_some now)

-- ---- the document behind the current one

pub record HasFront (whole : List ℕ) (next end : ℕ) (e : Element) : Type 0 where
  pub is_document : IsDocument e.value
  pub front : Some e.value ≡ front_of (unwrap_or (documents_left (between next end whole)) [])

pub has_front : (whole : List ℕ) (begin upto next end : ℕ) (e : Element) → IsWalk whole begin upto next end → element_at (between next end whole) ≡ Some e → HasFront whole next end e
has_front whole begin upto next end e w is =
    let s = starts_with (between next end whole) e w.elements w.documents is in
    record { is_document = s.is_document; front = sym (ap (λ (o : Option (List (List ℕ))). front_of (unwrap_or o [])) s.all) }

pub no_front : (whole : List ℕ) (begin upto next end : ℕ) → IsWalk whole begin upto next end → element_at (between next end whole) ≡ None → None ≡ front_of (unwrap_or (documents_left (between next end whole)) [])
no_front whole begin upto next end w is =
    sym (ap (λ (o : Option (List (List ℕ))). front_of (unwrap_or o [])) (ap documents_left (no_more (between next end whole) w.elements is) ∙ documents_nil))

-- what leads past it
pub record PassesTo (whole : List ℕ) (begin upto next end to : ℕ) : Type 0 where
  pub walk : IsWalk whole begin upto to end
  pub state : walk_at whole begin upto to end ≡ passed_over (walk_at whole begin upto next end)

pub passes_on : (whole : List ℕ) (begin upto next end to : ℕ) (e : Element) → IsWalk whole begin upto next end → element_at (between next end whole) ≡ Some e → to + length e.rest ≡ end → PassesTo whole begin upto next end to
passes_on whole begin upto next end to e w is a =
    let left = between next end whole in
    let l = lies whole left end e (between_ends whole next end w.inside) is in
    let s = starts_with left e w.elements w.documents is in
    let behind : between to end whole ≡ e.rest = ends_between whole e.rest end to l.rest a in
    let more : documents_left (between to end whole) ≡ Some s.others = ap documents_left behind ∙ s.left in
    let long = length-between whole next end w.inside in
    let further : next ≤ to = omega (arith, l.long, long, w.within) in
    record {
      walk = record {
        forward = w.forward;
        before_next = omega (arith, w.before_next, further);
        within = omega arith;
        inside = w.inside;
        document = w.document;
        elements = subst AreFields (sym behind) (some_element left e w.elements is).rest;
        documents = ap is_some more;
      };
      state = ap (walk_of whole (current_at whole begin upto)) (ap (λ (o : Option (List (List ℕ))). unwrap_or o []) more)
          ∙ sym (ap (λ (o : Option (List (List ℕ))). walk_of whole (current_at whole begin upto) (without_front (unwrap_or o []))) s.all);
    }

pub passes_none : (whole : List ℕ) (begin upto next end : ℕ) → IsWalk whole begin upto next end → element_at (between next end whole) ≡ None → walk_at whole begin upto next end ≡ passed_over (walk_at whole begin upto next end)
passes_none whole begin upto next end w is =
    let none : documents_left (between next end whole) ≡ Some [] = ap documents_left (no_more (between next end whole) w.elements is) ∙ documents_nil in
    let empty = ap (λ (o : Option (List (List ℕ))). unwrap_or o []) none in
    ap (walk_of whole (current_at whole begin upto)) empty ∙ sym (ap (λ (ds : List (List ℕ)). walk_of whole (current_at whole begin upto) (without_front ds)) empty)

-- ---- where it begins

pub documents_in : (o : Option (List ℕ)) → option_and_then documents_inside o ≡ (option_and_then body_at o >>= documents_left)
unfolding documents_inside
documents_in (Some bs) = refl
documents_in None = refl

-- none where there is no array, or where one of its values is no document
pub begins_nowhere : (whole : List ℕ) (o : Option (List ℕ)) (elements : Option (List ℕ)) → elements ≡ option_and_then body_at o → is_some (elements >>= documents_left) ≡ false → None ≡ option_map (before whole) (option_and_then documents_inside o)
begins_nowhere whole o elements e h =
    none (elements >>= documents_left) h ∙ ap (option_map (before whole)) (ap (λ (x : Option (List ℕ)). x >>= documents_left) e ∙ sym (documents_in o)) where
      none : (x : Option (List (List ℕ))) → is_some x ≡ false → None ≡ option_map (before whole) x
      none (Some ds) h = absurd cc
      none None h = refl

pub begins_at : (whole : List ℕ) (o : Option (List ℕ)) (from upto : ℕ) → Some (between from upto whole) ≡ option_and_then body_at o → is_some (documents_left (between from upto whole)) ≡ true → Some (walk_at whole from from from upto) ≡ option_map (before whole) (option_and_then documents_inside o)
begins_at whole o from upto e h =
    let there = some_there (documents_left (between from upto whole)) h in
    ap Some (ap₂ (walk_of whole) (nothing_between whole from) (ap (λ (x : Option (List (List ℕ))). unwrap_or x []) there.1))
    ∙ ap (option_map (before whole)) (sym there.1 ∙ ap (λ (x : Option (List ℕ)). x >>= documents_left) e ∙ sym (documents_in o))

pub begins_right : (whole : List ℕ) (from upto : ℕ) → from ≤ upto → upto ≤ length whole → AreFields (between from upto whole) → is_some (documents_left (between from upto whole)) ≡ true → IsWalk whole from from from upto
begins_right whole from upto forward inside elements documents = record {
  forward = omega arith;
  before_next = omega arith;
  within = forward;
  inside = inside;
  document = λ lt. absurd (omega arith);
  elements = elements;
  documents = documents;
}

-- ---- where it ends

-- none is left just where both places are the same
pub is_over : (whole : List ℕ) (begin upto next end : ℕ) → IsWalk whole begin upto next end → IsTrue (next == end) ↔ (unwrap_or (documents_left (between next end whole)) [] ≡ [])
is_over whole begin upto next end w =
    let long = length-between whole next end w.inside in
    let there = some_there (documents_left (between next end whole)) w.documents in
    let unwrapped : unwrap_or (documents_left (between next end whole)) [] ≡ there.0 = ap (λ (o : Option (List (List ℕ))). unwrap_or o []) there.1 in (
      λ same.
          let here : next ≡ end = eqb-true next end same in
          let empty : between next end whole ≡ [] = nil_from_length (between next end whole) (omega arith) in
          ap (λ (bs : List ℕ). unwrap_or (documents_left bs) []) empty ∙ ap (λ (o : Option (List (List ℕ))). unwrap_or o []) documents_nil,
      λ none.
          let empty : between next end whole ≡ [] = none_left (between next end whole) (there.1 ∙ ap Some (sym unwrapped ∙ none)) in
          eq-eqb next end (omega (arith, ap length empty, w.within)),
    )
