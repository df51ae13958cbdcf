use Rattle.std.proofs.Common.{sym, ap, ◌∙◌, arith}
use Rattle.mg_bson.specs.Tree.{field, item, fields_size, items_size}
use Rattle.mg_bson.specs.Find.{joined, items_joined}
use Rattle.mg_bson.specs.Raw.{fields_left, items_left}
use Rattle.mg_bson.proofs.Joining.{joined_more, joined_all, items_joined_more, items_joined_all}
use Rattle.mg_bson.proofs.decode.+decode.Goals as goal

pub read_document-loop-name-preserved : goal.read_document-loop-name-preserved
read_document-loop-name-preserved t c =
    let rest = fields_left c.next.new.self in
    let d = c.loop-name.document in
    let k = c.in-Some.name.now in (
      ap (λ d. joined d rest) c.in_ok-append.ensures.ok ∙ joined_more d k _ rest ∙ ap (λ t. joined d (field k t rest)) c.in_ok-read_value.ensures.ok ∙ ap (joined d) (sym c.in-Some.ensures) ∙ c.loop-name.invariant.0,
      omega (arith, c.loop-name.invariant.1, ap fields_size c.in-Some.ensures),
    )

pub read_document-returns-clause-ok : goal.read_document-returns-clause-ok
read_document-returns-clause-ok t c = sym (joined_all c.loop-name.document) ∙ ap (joined c.loop-name.document) (sym c.in_default.ensures.0) ∙ c.loop-name.invariant.0

pub read_array-loop-value-preserved : goal.read_array-loop-value-preserved
read_array-loop-value-preserved t c =
    let rest = items_left c.next.new.self in
    let a = c.loop-value.array in (
      ap (λ a. items_joined a rest) c.in_ok-push.ensures.ok ∙ items_joined_more a _ rest ∙ ap (λ t. items_joined a (item t rest)) c.in_ok-read_value.ensures.ok ∙ ap (items_joined a) (sym c.in-Some.ensures) ∙ c.loop-value.invariant.0,
      omega (arith, c.loop-value.invariant.1, ap items_size c.in-Some.ensures),
    )

pub read_array-returns-clause-ok : goal.read_array-returns-clause-ok
read_array-returns-clause-ok t c = sym (items_joined_all c.loop-value.array) ∙ ap (items_joined c.loop-value.array) (sym c.in_default.ensures.0) ∙ c.loop-value.invariant.0
