use Rattle.std.proofs.Common.{◌≡◌, ◌+◌, ◌++◌, List, ◌∷◌, drop, map, sym, ap, ◌∙◌, append_assoc, Vec, ℕ}
use Rattle.std.specs.declared.alloc.Global.{Global}
use Rattle.std.proofs.lemmas.List.{drop_more}
use Rattle.mg_query.specs.Grouping.{paired}
use Rattle.mg_query.proofs.lookup.paired.Goals as goal

pub loop-first-preserved : goal.loop-first-preserved
loop-first-preserved c =
    let items = c.deref-first-items.result.now in
    let first = c.first-item.result in
    let others = c.args.others.now.items in
    let i = c.loop-first.first-index in
    let pairs = map (λ (k : Vec ℕ Global). k.items) c.loop-first.pairs.items in
    let more = map (λ (k : Vec ℕ Global). first.items ++ k.items) others in
    let here : drop i items ≡ first ∷ drop (i + 1) items = drop_more items i first c.loop-first-test.true ∙ ap (λ (x : Vec ℕ Global). x ∷ drop (i + 1) items) (sym c.first-item.is) in
    ap (λ l. l ++ paired (drop (i + 1) items) others) c.in_ok-add_pairs.ensures ∙ append_assoc pairs more (paired (drop (i + 1) items) others)
    ∙ ap (λ (fs : List (Vec ℕ Global)). pairs ++ paired fs others) (sym here) ∙ c.loop-first.invariant
