use Rattle.std.proofs.Common.{◌≡◌, List, [], ◌∷◌, ◌++◌, length, map, refl, sym, ap, subst, ◌∙◌, append_assoc, append-nil, arith}
use Rattle.std.specs.Vec.Iter.{into_iter_items}
use Rattle.std.proofs.lemmas.Result.{err_from_is_err_and}
use Rattle.mg_bson.specs.Tree.{Fields}
use Rattle.mg_bson.specs.Raw.{fields}
use Rattle.mg_query.specs.Numbering.{HaveNewIds, IsExact, IsKeyed, document_of, holds_id, stored}
use Rattle.mg_query.specs.declared.collection.KeyedDocument.{KeyedDocument}
use Rattle.mg_query.proofs.Numbers.{grows_none, grows_more, grows_same, push_stored}
use Rattle.mg_query.proofs.collection.Collection.push_all.Goals as goal

nothing_left : {X : Type 0} (l : List X) → length l ≡ 0 → l ≡ []
nothing_left [] h = refl
nothing_left (x ∷ xs) h = absurd (omega arith)

pub loop-keyed-init : goal.loop-keyed-init
loop-keyed-init c =
    let gives = c.into_iter-keyed-iterator.ensures.into_iter_gives in (
      λ keeps new. (grows_none c.args.self.now keeps, subst (HaveNewIds (stored c.args.self.now)) (sym gives.0) new, ap (λ (ds : List KeyedDocument). stored c.args.self.now ++ map document_of ds) gives.0),
      refl,
      (let items = ap length gives.0 in
          let size = gives.1 in
          let fits = c.args.documents.ok.0 in
          omega arith),
    )

pub loop-keyed-preserved : goal.loop-keyed-preserved
loop-keyed-preserved c =
    let at = c.loop-keyed.self in
    let left = into_iter_items c.next.new.self in
    let steps : into_iter_items c.loop-keyed.keyed-iterator ≡ c.in-Some.keyed ∷ left = c.in-Some.ensures.steps.0 in
    let key = c.into_parts-key.result.0 in
    let document = c.into_parts-key.result.1 in
    let parts = c.into_parts-key.ensures in (
      λ keeps new.
          let h = c.loop-keyed.invariant.0 keeps new in
          let next = subst (HaveNewIds (stored at)) steps h.1 in
          let keyed : IsKeyed key.items (fields document) = subst (λ k. IsKeyed k.items (fields document)) (sym parts.key) (subst (λ d. IsKeyed c.in-Some.keyed.key.items (fields d)) (sym parts.document) next.0) in
          let fresh = ap (λ k. holds_id k.items (stored at)) parts.key ∙ next.1 in
          let exact : IsExact document = subst IsExact (sym parts.document) next.2 in
          let pushed = c.in_ok-push.ensures.ok h.0.keeps keyed fresh exact in
          let all : stored c.push.new.self ≡ stored at ++ document_of c.in-Some.keyed ∷ [] = push_stored at c.push.new.self document pushed ∙ ap (λ d. stored at ++ fields d ∷ []) parts.document in (
            grows_more c.args.self.now at c.push.new.self document h.0 pushed,
            subst (λ (ds : List Fields). HaveNewIds ds left) (sym all) next.3,
            ap (λ (ds : List Fields). ds ++ map document_of left) all ∙ append_assoc (stored at) (document_of c.in-Some.keyed ∷ []) (map document_of left)
                ∙ sym (ap (λ (ds : List KeyedDocument). stored at ++ map document_of ds) steps) ∙ h.2,
          ),
      c.push.ensures.indexes ∙ c.loop-keyed.invariant.1,
      (let was = c.loop-keyed.invariant.2 in
          let gone = c.in-Some.ensures.steps.1 in
          let short = ap length steps in
          omega arith),
    )

pub returns-clause-ok : goal.returns-clause-ok
returns-clause-ok c keeps new =
    let at = c.loop-keyed.self in
    let h = c.loop-keyed.invariant.0 keeps new in
    let none : into_iter_items c.loop-keyed.keyed-iterator ≡ [] = nothing_left _ (sym c.loop-keyed.invariant.2 ∙ c.in-None.ensures.steps.0) in
    (h.0, sym (append-nil (stored at)) ∙ sym (ap (λ (ds : List KeyedDocument). stored at ++ map document_of ds) none) ∙ h.2)

pub returns-in_err-push-clause-err : goal.returns-in_err-push-clause-err
returns-in_err-push-clause-err c =
    let p = err_from_is_err_and c.from_residual.result c.from_residual.ensures.1 in
    rw p.1 (λ keeps new.
    let h = c.loop-keyed.invariant.0 keeps new in
    grows_same c.args.self.now c.loop-keyed.self c.push.new.self h.0 (c.in_err-push.ensures.err h.0.keeps))
