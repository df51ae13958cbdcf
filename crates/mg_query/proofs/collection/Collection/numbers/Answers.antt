use Rattle.std.proofs.Common.{◌≡◌, ℕ, ◌+◌, List, ◌∷◌, drop, sym, ap, ◌∙◌, Vec}
use Rattle.std.specs.Prelude.{◌||◌}
use Rattle.std.specs.declared.alloc.Global.{Global}
use Rattle.std.specs.BTreeSet.{contains}
use Rattle.std.specs.List.{list_any}
use Rattle.std.specs.Ordering.{nat_cmp}
use Rattle.std.proofs.lemmas.List.{drop_more}
use Rattle.mg_query.specs.Numbering.{is_number, number_in}
use Rattle.mg_query.proofs.Looking.{number_none, number_some}
use Rattle.mg_query.proofs.collection.Collection.numbers.Goals as goal

pub loop-key-preserved-in_default : goal.loop-key-preserved-in_default
loop-key-preserved-in_default c =
    let items = c.deref-key-items.result.now in
    let key = c.key-item.result in
    let i = c.loop-key.key-index in
    let ids = c.args.self.now.ids in
    let here : drop i items ≡ key ∷ drop (i + 1) items = drop_more items i key c.loop-key-test.true ∙ ap (λ (k : Vec ℕ Global). k ∷ drop (i + 1) items) (sym c.key-item.is) in (
      c.loop-key.invariant.0,
      λ m. number_none ids key m (contains nat_cmp c.loop-key.numbers m) (drop (i + 1) items) _ (sym c.in_default.ensures.value)
          (ap (λ (ks : List (Vec ℕ Global)). contains nat_cmp c.loop-key.numbers m || list_any (λ (k : Vec ℕ Global). is_number (number_in ids k.items) m) ks) (sym here) ∙ c.loop-key.invariant.1 m),
    )

pub loop-key-preserved : goal.loop-key-preserved
loop-key-preserved c =
    let items = c.deref-key-items.result.now in
    let key = c.key-item.result in
    let i = c.loop-key.key-index in
    let ids = c.args.self.now.ids in
    let here : drop i items ≡ key ∷ drop (i + 1) items = drop_more items i key c.loop-key-test.true ∙ ap (λ (k : Vec ℕ Global). k ∷ drop (i + 1) items) (sym c.key-item.is) in (
      c.insert.ensures.ordered,
      λ m. number_some ids key c.in-Some.number.now m (contains nat_cmp c.loop-key.numbers m) (contains nat_cmp c.insert.new.self m) (drop (i + 1) items) _ (sym c.in-Some.ensures.value) (c.in_ok-insert.ensures.updates.0 m)
          (ap (λ (ks : List (Vec ℕ Global)). contains nat_cmp c.loop-key.numbers m || list_any (λ (k : Vec ℕ Global). is_number (number_in ids k.items) m) ks) (sym here) ∙ c.loop-key.invariant.1 m),
    )
