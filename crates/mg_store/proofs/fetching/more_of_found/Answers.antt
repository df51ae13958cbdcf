use Rattle.std.proofs.Common.{◌≡◌, ℕ, ℤ, List, drop, pos, map, sym, ap, ◌∙◌, subst, rules, to_z, of_z, w64, codes}
use Rattle.std.specs.Prelude.{if◌then◌else◌}
use mir.Val.{SFits}
use Rattle.std.proofs.lemmas.Int.{to_z-of_z}
use Rattle.mg_bson.specs.Tree.{Fields}
use Rattle.mg_bson.specs.Raw.{fields}
use Rattle.mg_link.specs.Namespace.{space}
use Rattle.mg_query.specs.Querying.{GivesDocuments}
use Rattle.mg_query.specs.Replies.{found_with}
use Rattle.mg_store.specs.Answering.{AnswersAs}
use Rattle.mg_store.specs.Contents.{taking}
use Rattle.mg_store.proofs.Holdings.{query_more_settles}
use Rattle.mg_store.proofs.fetching.more_of_found.Goals as goal

pub returns : goal.returns
returns c s given left stood is =
    let back : to_z w64 (of_z w64 c.args.id) ≡ c.args.id = to_z-of_z w64 c.args.id c.ranges.id in
    let fits : SFits w64 c.id_unless-next.result = search rules in
    let next : to_z w64 (of_z w64 c.id_unless-next.result) ≡ c.id_unless-next.result = to_z-of_z w64 c.id_unless-next.result fits in
    let slice : map fields c.as_slice.result.now ≡ map fields c.args.found.now.documents.items = ap (map fields) c.as_slice.ensures.value in
    let got = subst (λ (n : ℕ). GivesDocuments left n c.in_ok-batch.batch) c.size_of-size.ensures
    (subst (λ (l : List Fields). GivesDocuments l c.size_of-size.result c.in_ok-batch.batch) (ap (drop c.args.from) slice ∙ sym is) c.in_ok-batch.ensures) in
    query_more_settles s given c.args.id (space c.args.ns.now) (space c.args.found.now.ns) c.args.batch_size left c.in_ok-batch.batch c.in_ok-document.document c.answered.result stood (sym c.is_same_space.ensures ∙ c.if-not-is_same_space.false) got
    (c.in_ok-document.ensures ∙ ap (λ (x : ℤ). found_with x (space c.args.ns.now) (codes "nextBatch") c.in_ok-batch.batch.documents) (next ∙ c.id_unless-next.ensures ∙ ap (λ (x : ℤ). if c.in_ok-batch.batch.is_last then pos 0 else x) back))
    (subst (AnswersAs c.answered.result c.in_ok-document.document) (c.taking-effect.ensures ∙ ap (λ (x : ℤ). taking c.in_ok-batch.batch.is_last x c.in_ok-batch.batch.count) back) c.answered.ensures)
