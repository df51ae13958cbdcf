-- Texts that go into an array one after another.
use Rattle.std.proofs.Common.{◌≡◌, ℕ, ◌+◌, ◌<◌, ◌≤◌, List, ◌∷◌, length, get_or, drop, map, sym, ap, ◌∙◌}
use Rattle.std.proofs.lemmas.List.{drop_more, drop_all}
use Rattle.mg_bson.specs.Tree.{Tree, string, Items, item}
use Rattle.mg_bson.specs.Find.{with_item, items_joined}
use Rattle.mg_bson.proofs.Joining.{items_joined_more, items_joined_all}
use Rattle.mg_server.specs.Rules.{words_of}

pub words_go_on : {A : Type 0} (f : A → List ℕ) (front after : Items) (ls : List A) (i : ℕ) (l : A) (v : Tree) (all : Items) → i < length ls → l ≡ get_or ls i l → v ≡ string (f l) → after ≡ with_item front v
    → items_joined front (words_of (map f (drop i ls))) ≡ all → items_joined after (words_of (map f (drop (i + 1) ls))) ≡ all
words_go_on f front after ls i l v all lt is same e so_far =
    let here : words_of (map f (drop i ls)) ≡ item (string (f l)) (words_of (map f (drop (i + 1) ls))) = ap (λ xs. words_of (map f xs)) (drop_more ls i l lt ∙ ap (λ x. x ∷ drop (i + 1) ls) (sym is)) in
    ap (λ a. items_joined a (words_of (map f (drop (i + 1) ls)))) (e ∙ ap (with_item front) same) ∙ items_joined_more front (string (f l)) (words_of (map f (drop (i + 1) ls))) ∙ ap (items_joined front) (sym here) ∙ so_far

pub words_end : {A : Type 0} (f : A → List ℕ) (front : Items) (ls : List A) (i : ℕ) (all : Items) → length ls ≤ i → items_joined front (words_of (map f (drop i ls))) ≡ all → front ≡ all
words_end f front ls i all le so_far = sym (items_joined_all front) ∙ ap (λ xs. items_joined front (words_of (map f xs))) (sym (drop_all i ls le)) ∙ so_far
