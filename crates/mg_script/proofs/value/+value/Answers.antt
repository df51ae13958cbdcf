use Rattle.std.proofs.Common.{◌≡◌, Result, string_bytes, sym, ap, ◌∙◌, arith}
use Rattle.serde_json.specs.View.{view, items_view, members_view}
use Rattle.mg_bson.specs.View.{tree}
use Rattle.mg_bson.specs.Tree.{Fields}
use Rattle.mg_bson.specs.Find.{with_field}
use Rattle.mg_script.specs.declared.fault.Place.{Place}
use Rattle.mg_script.specs.Values.{items_at, fields_at}
use Rattle.mg_script.proofs.Steps.{with_fields, items_go_on, items_end, fields_go_on, fields_end}
use Rattle.mg_script.proofs.value.+value.Goals as goal

pub fields_of-loop-name-preserved : goal.fields_of-loop-name-preserved
fields_of-loop-name-preserved t c =
    let p = c.args.place in
    let k = string_bytes c.in-Some.name.now in
    let front = c.loop-name.document in
    let total : Result Fields Place = fields_at p (members_view c.args.members.now.entries) in
    let appended : c.append.new.self ≡ with_field front k (tree c.in_ok-value.value) = c.in_ok-append.ensures.ok ∙ ap (λ n. with_field front n (tree c.in_ok-value.value)) c.as_str.ensures.value in
    let so_far = ap (λ es. with_fields front (fields_at p (members_view es))) (sym c.in-Some.ensures.steps) ∙ c.loop-name.invariant in
    fields_go_on p front c.append.new.self k (tree c.in_ok-value.value) (view c.in-Some.member.now) (members_view c.next.new.self) total c.in_ok-value.ensures appended so_far

pub fields_of-returns : goal.fields_of-returns
fields_of-returns t c =
    let p = c.args.place in
    fields_end p c.loop-name.document (fields_at p (members_view c.args.members.now.entries)) (ap (λ es. with_fields c.loop-name.document (fields_at p (members_view es))) (sym c.in-None.ensures.steps.0) ∙ c.loop-name.invariant)

pub items_of-loop-item-preserved : goal.items_of-loop-item-preserved
items_of-loop-item-preserved t c =
    let p = c.args.place in
    items_go_on p c.loop-item.array c.push.new.self (tree c.in_ok-value.value) c.deref-item-items.result.now c.loop-item.item-index c.item-item.result (items_at p (items_view c.deref-item-items.result.now)) (omega arith) c.item-item.is c.in_ok-value.ensures c.in_ok-push.ensures.ok c.loop-item.invariant

pub items_of-returns : goal.items_of-returns
items_of-returns t c =
    let p = c.args.place in
    ap (λ vs. items_at p (items_view vs)) (sym c.deref-item-items.ensures.value) ∙ items_end p c.loop-item.array c.deref-item-items.result.now c.loop-item.item-index (items_at p (items_view c.deref-item-items.result.now)) (omega arith) c.loop-item.invariant
