-- The array inside a reply: it is a document, and its values are what its documents spell.
use Rattle.std.proofs.Common.{◌≡◌, ◌≤◌, ◌-◌, ℕ, zero, suc, List, ◌∷◌, map, length, Option, Some, None, IfSome, option_map, refl, sym, ap, ◌∙◌, subst, arith}
use Rattle.std.specs.Prelude.{option_and_then}
use Rattle.mg_bson.specs.Find.{as_document}
use Rattle.mg_bson.specs.Raw.{AreFields, IsDocument, IsValue, Spelled, fields, items, items_left, spelled}
use Rattle.mg_bson.specs.Reading.{◌>>=◌, Element, element_at, values}
use Rattle.mg_bson.specs.Spans.{array_by, array_inside, array_named, between, document_by, document_named, documents_inside, documents_left, value_named}
use Rattle.mg_bson.specs.Tree.{Fields}
use Rattle.mg_bson.proofs.Inside.{array_is, array_kind, document_is, document_kind, value_opened}
use Rattle.mg_bson.proofs.Lending.{body_fields, no_element, some_element, spells}
use Rattle.mg_bson.proofs.Options.{bind_some}
use Rattle.mg_bson.proofs.Spans.{body_there, element_less, value_finds}
use Rattle.mg_bson.proofs.Walking.{documents_front, documents_nil, no_more}
use Rattle.mg_server.specs.Commands.{documents_in}

-- ---- documents inside documents

value_read : (name bs : List ℕ) (v : Spelled) → IsDocument bs → value_named name bs ≡ Some v → IsValue v
value_read name bs v h at = subst (λ (o : Option Spelled). IfSome o IsValue) at (value_finds name bs h).read

document_read : (name bs d : List ℕ) → IsDocument bs → document_named name bs ≡ Some d → IsDocument d
document_read name bs d h at =
    let x = bind_some (value_named name bs) (λ v. document_by v.kind v.bytes) d at in
    let k = document_kind x.0.kind x.0.bytes d x.2 in
    subst IsDocument k.1 (document_is x.0.kind x.0.bytes (value_read name bs x.0 h x.1) k.0)

array_read : (name bs a : List ℕ) → IsDocument bs → array_named name bs ≡ Some a → IsDocument a
array_read name bs a h at =
    let x = bind_some (value_named name bs) (λ v. array_by v.kind v.bytes) a at in
    let k = array_kind x.0.kind x.0.bytes a x.2 in
    subst IsDocument k.1 (array_is x.0.kind x.0.bytes (value_read name bs x.0 h x.1) k.0)

pub inside_document : (outer name bs a : List ℕ) → IsDocument bs → array_inside outer name bs ≡ Some a → IsDocument a
inside_document outer name bs a h at =
    let x = bind_some (document_named outer bs) (array_named name) a at in
    array_read name x.0 a (document_read outer bs x.0 h x.1) x.2

-- ---- the values of an array, each of which is a document

-- the first of them is one, and so are the others
joined : (o : Option (List ℕ)) (rest : Option (List (List ℕ))) → option_and_then (λ (d : Fields). option_map (λ (ds : List Fields). d ∷ ds) (option_map (map fields) rest)) (option_map fields o) ≡ option_map (map fields) (o >>= λ d. rest >>= λ ds. Some (d ∷ ds))
joined None rest = refl
joined (Some d) None = refl
joined (Some d) (Some ds) = refl

abbrev IsSpelled : List ℕ → Type 0
IsSpelled bs = documents_in (items_left bs) ≡ option_map (map fields) (documents_left bs)

none_spelled : (bs : List ℕ) → AreFields bs → element_at bs ≡ None → IsSpelled bs
none_spelled bs h is = ap (λ (fs : Fields). documents_in (values fs)) (no_element bs h is) ∙ sym (ap (option_map (map fields)) (ap documents_left (no_more bs h is) ∙ documents_nil))

some_spelled : (bs : List ℕ) (e : Element) → AreFields bs → element_at bs ≡ Some e → IsSpelled e.rest → IsSpelled bs
some_spelled bs e h is later =
    let v : Spelled = record { kind = e.kind; bytes = e.value } in
    let x = some_element bs e h is in
    let opened = (value_opened e.kind e.value (spelled v) (spells v x.is_value)).to_document in
    ap (λ (fs : Fields). documents_in (values fs)) x.parts
    ∙ ap (λ (r : Option (List Fields)). option_and_then (λ (d : Fields). option_map (λ (ds : List Fields). d ∷ ds) r) (as_document (spelled v))) later
    ∙ ap (λ (o : Option Fields). option_and_then (λ (d : Fields). option_map (λ (ds : List Fields). d ∷ ds) (option_map (map fields) (documents_left e.rest))) o) opened
    ∙ joined (document_by e.kind e.value) (documents_left e.rest)
    ∙ sym (ap (option_map (map fields)) (documents_front bs e is))

spelled_by : (bs : List ℕ) (o : Option Element) → element_at bs ≡ o → AreFields bs → ((e : Element) → element_at bs ≡ Some e → AreFields e.rest → IsSpelled e.rest) → IsSpelled bs
spelled_by bs (Some e) is h later = some_spelled bs e h is (later e is (some_element bs e h is).rest)
spelled_by bs None is h later = none_spelled bs h is

left_spelled : (n : ℕ) (bs : List ℕ) → length bs ≤ n → AreFields bs → IsSpelled bs
left_spelled zero bs few h = spelled_by bs (element_at bs) refl h (λ e is rest. absurd (omega (arith, few, element_less bs e is)))
left_spelled (suc n) bs few h = spelled_by bs (element_at bs) refl h (λ e is rest. left_spelled n e.rest (omega (arith, few, element_less bs e is)) rest)

pub items_spelled : (bs : List ℕ) → IsDocument bs → documents_in (items bs) ≡ option_map (map fields) (documents_inside bs)
unfolding documents_inside
items_spelled bs h =
    let body = between 4 (length bs - 1) bs in
    let there = body_there bs h in
    let inner = body_fields bs body h there in
    ap (λ (fs : Fields). documents_in (values fs)) (sym inner.1) ∙ left_spelled (length body) body (omega arith) inner.0 ∙ sym (ap (λ (o : Option (List ℕ)). option_map (map fields) (o >>= documents_left)) there)
