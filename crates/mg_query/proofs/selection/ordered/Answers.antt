use Rattle.std.proofs.Common.{◌≡◌, ℕ, ◌+◌, List, ◌∷◌, drop, sym, ap, ◌∙◌, Vec}
use Rattle.std.specs.Prelude.{◌||◌}
use Rattle.std.specs.declared.alloc.Global.{Global}
use Rattle.std.specs.List.{each_same}
use Rattle.std.proofs.lemmas.List.{drop_more}
use Rattle.mg_query.proofs.Selecting.{is_among, ordered_more}
use Rattle.mg_query.proofs.selection.ordered.Goals as goal

pub loop-key-preserved : goal.loop-key-preserved
loop-key-preserved c =
    let items = c.deref-key-items.result.now in
    let key = c.key-item.result in
    let i = c.loop-key.key-index in
    let here : drop i items ≡ key ∷ drop (i + 1) items = drop_more items i key c.loop-key-test.true ∙ ap (λ (k : Vec ℕ Global). k ∷ drop (i + 1) items) (sym c.key-item.is) in
    λ k. ordered_more k c.in_ok-copy.copy key (drop (i + 1) items) c.loop-key.ordered.keys c.insert.new.self.keys _ (each_same key.items c.in_ok-copy.copy.items c.in_ok-copy.ensures.cases.0) c.in_ok-insert.ensures.keys
    (ap (λ (ks : List (Vec ℕ Global)). is_among k c.loop-key.ordered.keys || is_among k ks) (sym here) ∙ c.loop-key.invariant k)
