use Rattle.std.proofs.Common.{◌≡◌, ℤ, List, Bool, pos, suc, map, sym, ap, ap₂, ◌∙◌, subst, arith, rules, to_z, of_z, w64, codes}
use Rattle.std.specs.Prelude.{◌||◌, if◌then◌else◌}
use mir.Val.{SFits}
use Rattle.std.proofs.lemmas.Int.{ints, to_z-of_z}
use Rattle.mg_bson.specs.Tree.{Fields}
use Rattle.mg_bson.specs.Raw.{fields}
use Rattle.mg_link.specs.Namespace.{space}
use Rattle.mg_query.specs.Querying.{GivesDocuments}
use Rattle.mg_query.specs.Replies.{found_with}
use Rattle.mg_store.specs.Answering.{AnswersAs}
use Rattle.mg_store.specs.Contents.{beginning}
use Rattle.mg_store.proofs.Holdings.{find_settles}
use Rattle.mg_store.proofs.content.Content.answer_found.Goals as goal
use Rattle.mg_store.proofs.content.Content.answer_found.Goals.{then-single, else-single}

pub returns : goal.returns
returns c s given q h at these one sized =
    let fits : SFits w64 c.in-Some.id = search rules in
    let back : to_z w64 (of_z w64 c.in-Some.id) ≡ c.in-Some.id = to_z-of_z w64 c.in-Some.id fits in
    let id : c.in-Some.id ≡ pos (suc given) = omega (arith, ints, c.in-Some.ensures, h.given_are) in
    let fits_next : SFits w64 c.id_unless-next.result = search rules in
    let next : to_z w64 (of_z w64 c.id_unless-next.result) ≡ c.id_unless-next.result = to_z-of_z w64 c.id_unless-next.result fits_next in
    let last : Bool = c.in_ok-batch.batch.is_last in
    let ends : c.if-single.ends ≡ (c.args.single || last) =
    elim c.if-single.branch [ then-single w ↦ w.ends-is ∙ w.if-single.true ∙ sym (ap (λ (b : Bool). b || last) w.if-single.true) | else-single w ↦ w.ends-is ∙ sym (ap (λ (b : Bool). b || last) w.if-single.false) ] in
    let got = subst (λ (l : List Fields). GivesDocuments l c.size_of-size.result c.in_ok-batch.batch) (ap (map fields) c.as_slice.ensures.value) c.in_ok-batch.ensures in
    find_settles s given q c.args.found c.args.single c.args.batch_size c.size_of-size.result c.in_ok-batch.batch c.in_ok-document.document c.answered.result these at one sized c.size_of-size.ensures got
    (c.in_ok-document.ensures ∙ ap (λ (x : ℤ). found_with x (space c.args.found.ns) (codes "firstBatch") c.in_ok-batch.batch.documents) (next ∙ c.id_unless-next.ensures ∙ ap₂ (λ (b : Bool) (x : ℤ). if b then pos 0 else x) ends (back ∙ id)))
    (subst (AnswersAs c.answered.result c.in_ok-document.document) (c.beginning.ensures ∙ ap₂ (λ (b : Bool) (x : ℤ). beginning b x c.args.found c.in_ok-batch.batch.count) ends (back ∙ id)) c.answered.ensures)
