use Rattle.std.proofs.Common.{◌≡◌, ◌+◌, List, [], ◌∷◌, drop, map, sym, ap, ◌∙◌}
use Rattle.std.specs.Prelude.{◌&&◌}
use Rattle.std.proofs.lemmas.List.{drop_more, map-append}
use Rattle.mg_query.specs.Asking.{held, matches_keys}
use Rattle.mg_query.specs.Selecting.{held_test}
use Rattle.mg_query.specs.declared.filter.Condition.{Condition}
use Rattle.mg_query.specs.declared.selection.Test.{Test}
use Rattle.mg_query.proofs.Selecting.{tests_more}
use Rattle.mg_query.proofs.selection.Selection.new.Goals as goal

pub loop-condition-preserved : goal.loop-condition-preserved
loop-condition-preserved c =
    let items = c.deref-condition-items.result.now in
    let item = c.condition-item.result in
    let i = c.loop-condition.condition-index in
    let tests = c.loop-condition.tests.items in
    let test : Test = record { name = c.as_str-name.result; keys = c.in_ok-keys.keys } in
    let here : drop i items ≡ item ∷ drop (i + 1) items = drop_more items i item c.loop-condition-test.true ∙ ap (λ (x : Condition). x ∷ drop (i + 1) items) (sym c.condition-item.is) in
    λ d. tests_more tests c.push.new.self.items test item (map held (drop (i + 1) items)) d _ c.as_str-name.ensures.value c.in_ok-keys.ensures (ap (map held_test) c.in_ok-push.ensures.items ∙ map-append held_test tests (test ∷ []))
    (ap (λ (cs : List Condition). matches_keys (map held_test tests) d && matches_keys (map held cs) d) (sym here) ∙ c.loop-condition.invariant d)
