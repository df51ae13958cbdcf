use Rattle.std.proofs.Common.{◌≡◌, List, [], ◌∷◌, length, refl, sym, ap, ap₂, subst, ◌∙◌, arith}
use Rattle.std.specs.Vec.Iter.{into_iter_items}
use Rattle.mg_bson.specs.Raw.{fields}
use Rattle.mg_query.specs.Collecting.{exchange_document, AreKeyed, exchange_documents}
use Rattle.mg_query.specs.Numbering.{IsExact, IsKeyed, document_of, stored}
use Rattle.mg_query.specs.declared.collection.KeyedDocument.{KeyedDocument}
use Rattle.mg_query.proofs.collection.Collection.change_all.Goals as goal

nothing_left : {X : Type 0} (l : List X) → length l ≡ 0 → l ≡ []
nothing_left [] h = refl
nothing_left (x ∷ xs) h = absurd (omega arith)

pub loop-keyed-init : goal.loop-keyed-init
loop-keyed-init c =
    let gives = c.into_iter-keyed-iterator.ensures.into_iter_gives in (
      λ keeps keyed. (keeps, subst AreKeyed (sym gives.0) keyed, ap (λ (ds : List KeyedDocument). exchange_documents ds (stored c.args.self.now)) gives.0),
      refl,
      (let items = ap length gives.0 in
          let size = gives.1 in
          let fits = c.args.documents.ok.0 in
          omega arith),
    )

pub loop-keyed-preserved : goal.loop-keyed-preserved
loop-keyed-preserved c =
    let at = c.loop-keyed.self in
    let left = into_iter_items c.next.new.self in
    let steps : into_iter_items c.loop-keyed.keyed-iterator ≡ c.in-Some.keyed ∷ left = c.in-Some.ensures.steps.0 in
    let key = c.into_parts-key.result.0 in
    let document = c.into_parts-key.result.1 in
    let parts = c.into_parts-key.ensures in (
      λ keeps all.
          let h = c.loop-keyed.invariant.0 keeps all in
          let next = subst AreKeyed steps h.1 in
          let keyed : IsKeyed key.items (fields document) = subst (λ k. IsKeyed k.items (fields document)) (sym parts.key) (subst (λ d. IsKeyed c.in-Some.keyed.key.items (fields d)) (sym parts.document) next.0) in
          let exact : IsExact document = subst IsExact (sym parts.document) next.1 in
          let new : stored c.change.new.self ≡ exchange_document c.in-Some.keyed.key.items (document_of c.in-Some.keyed) (stored at) = c.change.ensures.documents h.0 ∙ ap₂ (λ k d. exchange_document k.items (fields d) (stored at)) parts.key parts.document in
          (c.change.ensures.ids h.0 keyed exact, next.2, ap (exchange_documents left) new ∙ sym (ap (λ (ds : List KeyedDocument). exchange_documents ds (stored at)) steps) ∙ h.2),
      c.change.ensures.indexes ∙ c.loop-keyed.invariant.1,
      (let was = c.loop-keyed.invariant.2 in
          let gone = c.in-Some.ensures.steps.1 in
          let short = ap length steps in
          omega arith),
    )

pub returns-clause-documents : goal.returns-clause-documents
returns-clause-documents c keeps keyed =
    let at = c.loop-keyed.self in
    let h = c.loop-keyed.invariant.0 keeps keyed in
    let none : into_iter_items c.loop-keyed.keyed-iterator ≡ [] = nothing_left _ (sym c.loop-keyed.invariant.2 ∙ c.in-None.ensures.steps.0) in
    sym (ap (λ (ds : List KeyedDocument). exchange_documents ds (stored at)) none) ∙ h.2

pub returns-clause-ids : goal.returns-clause-ids
returns-clause-ids c keeps keyed = (c.loop-keyed.invariant.0 keeps keyed).0
