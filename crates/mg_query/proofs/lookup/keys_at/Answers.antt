use Rattle.std.proofs.Common.{◌≡◌, ◌+◌, List, ◌∷◌, drop, map, sym, ap, ◌∙◌}
use Rattle.std.proofs.lemmas.List.{drop_more}
use Rattle.std.proofs.lemmas.Slice.Eq.{bytes_eq-Decides}
use Rattle.mg_query.specs.Asking.{held, matches_keys}
use Rattle.mg_query.specs.declared.filter.Condition.{Condition}
use Rattle.mg_query.proofs.Looking.{first_met}
use Rattle.mg_query.proofs.lookup.keys_at.Goals as goal

pub returns-then-eq : goal.returns-then-eq
returns-then-eq c d met =
    let items = c.deref-condition-items.result.now in
    let item = c.condition-item.result in
    let i = c.loop-condition.condition-index in
    let here : drop i items ≡ item ∷ drop (i + 1) items = drop_more items i item c.loop-condition-test.true ∙ ap (λ (x : Condition). x ∷ drop (i + 1) items) (sym c.condition-item.is) in
    first_met c.args.name.now item (map held (drop (i + 1) items)) d (sym c.as_str.ensures.value ∙ (bytes_eq-Decides c.as_str.result.now c.args.name.now).0 (sym c.eq.ensures ∙ c.if-eq.true))
    (ap (λ (cs : List Condition). matches_keys (map held cs) d) (sym here) ∙ c.loop-condition.invariant d met)
