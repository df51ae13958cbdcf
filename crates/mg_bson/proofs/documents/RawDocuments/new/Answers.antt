use Rattle.std.proofs.Common.{◌≡◌, ◌-◌, List, ℕ, take, drop, false, Some, None, is_some, refl, sym, ap, subst, ◌∙◌}
use Rattle.mg_bson.specs.Raw.{AreFields}
use Rattle.mg_bson.specs.Spans.{between, documents_left}
use Rattle.mg_bson.proofs.Spans.{sliced}
use Rattle.mg_bson.proofs.Steps.{begins_nowhere_in, begins_in}
use Rattle.mg_bson.proofs.documents.RawDocuments.new.Goals as goal

pub returns-in_err-elements : goal.returns-in_err-elements
returns-in_err-elements c =
    let same = c.as_bytes-bytes.ensures.bytes ∙ c.as_raw.ensures in
    rw c.from_residual.ensures (begins_nowhere_in c.args.document c.as_bytes-bytes.result.now c.args.outer.now c.args.name.now None same c.in_err-elements.ensures.elements refl)

pub are_documents-requires : goal.are_documents-requires
are_documents-requires c =
    let e = c.in_ok-elements in
    subst AreFields (sym (sliced c.as_bytes-bytes.result.now e.elements.from e.elements.upto)) e.ensures.fields

pub returns-then-not-are_documents : goal.returns-then-not-are_documents
returns-then-not-are_documents c =
    let same = c.as_bytes-bytes.ensures.bytes ∙ c.as_raw.ensures in
    let bytes = c.as_bytes-bytes.result.now in
    let e = c.in_ok-elements in
    let from = e.elements.from in
    let upto = e.elements.upto in
    let none : is_some (documents_left (between from upto bytes)) ≡ false = ap (λ (bs : List ℕ). is_some (documents_left bs)) (sym (sliced bytes from upto)) ∙ sym c.if-not-are_documents.ensures in
    begins_nowhere_in c.args.document bytes c.args.outer.now c.args.name.now (Some (between from upto bytes)) same e.ensures.elements none

pub invariant_of-result : goal.invariant_of-result
invariant_of-result c =
    let same = c.as_bytes-bytes.ensures.bytes ∙ c.as_raw.ensures in
    let bytes = c.as_bytes-bytes.result.now in
    let e = c.in_ok-elements in
    let from = e.elements.from in
    let upto = e.elements.upto in
    (begins_in c.args.document bytes c.args.outer.now c.args.name.now (take (upto - from) (drop from bytes)) from upto same (sliced bytes from upto) e.ensures.within.0 e.ensures.within.1 e.ensures.fields e.ensures.elements (sym c.if-not-are_documents.ensures)).walk

pub returns : goal.returns
returns c =
    let same = c.as_bytes-bytes.ensures.bytes ∙ c.as_raw.ensures in
    let bytes = c.as_bytes-bytes.result.now in
    let e = c.in_ok-elements in
    let from = e.elements.from in
    let upto = e.elements.upto in
    (begins_in c.args.document bytes c.args.outer.now c.args.name.now (take (upto - from) (drop from bytes)) from upto same (sliced bytes from upto) e.ensures.within.0 e.ensures.within.1 e.ensures.fields e.ensures.elements (sym c.if-not-are_documents.ensures)).state
