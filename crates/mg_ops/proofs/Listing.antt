-- Parts that go into an array one after another.
use Rattle.std.proofs.Common.{◌≡◌, ℕ, ◌+◌, ◌<◌, ◌≤◌, List, ◌∷◌, length, get_or, drop, sym, ap, ◌∙◌}
use Rattle.std.proofs.lemmas.List.{drop_more, drop_all}
use Rattle.mg_bson.specs.Tree.{Tree, Items, item}
use Rattle.mg_bson.specs.Find.{with_item, items_joined}
use Rattle.mg_bson.proofs.Joining.{items_joined_more, items_joined_all}
use Rattle.mg_options.specs.Printing.{listed}

pub listed_go_on : {A : Type 0} (f : A → Tree) (front after : Items) (xs : List A) (i : ℕ) (x : A) (v : Tree) (all : Items) → i < length xs → x ≡ get_or xs i x → v ≡ f x → after ≡ with_item front v
    → items_joined front (listed f (drop i xs)) ≡ all → items_joined after (listed f (drop (i + 1) xs)) ≡ all
listed_go_on f front after xs i x v all lt is same e so_far =
    let here : listed f (drop i xs) ≡ item (f x) (listed f (drop (i + 1) xs)) = ap (listed f) (drop_more xs i x lt ∙ ap (λ y. y ∷ drop (i + 1) xs) (sym is)) in
    ap (λ a. items_joined a (listed f (drop (i + 1) xs))) (e ∙ ap (with_item front) same) ∙ items_joined_more front (f x) (listed f (drop (i + 1) xs)) ∙ ap (items_joined front) (sym here) ∙ so_far

pub listed_on : {A : Type 0} (f : A → Tree) (front after : Items) (xs : List A) (i : ℕ) (d : A) (all : Items) → i < length xs → after ≡ with_item front (f (get_or xs i d))
    → items_joined front (listed f (drop i xs)) ≡ all → items_joined after (listed f (drop (i + 1) xs)) ≡ all
listed_on f front after xs i d all lt e so_far =
    let here : listed f (drop i xs) ≡ item (f (get_or xs i d)) (listed f (drop (i + 1) xs)) = ap (listed f) (drop_more xs i d lt) in
    ap (λ a. items_joined a (listed f (drop (i + 1) xs))) e ∙ items_joined_more front (f (get_or xs i d)) (listed f (drop (i + 1) xs)) ∙ ap (items_joined front) (sym here) ∙ so_far

pub listed_end : {A : Type 0} (f : A → Tree) (front : Items) (xs : List A) (i : ℕ) (all : Items) → length xs ≤ i → items_joined front (listed f (drop i xs)) ≡ all → front ≡ all
listed_end f front xs i all le so_far = sym (items_joined_all front) ∙ ap (λ ys. items_joined front (listed f ys)) (sym (drop_all i xs le)) ∙ so_far
