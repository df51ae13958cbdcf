-- What was read, and what is still to read.
use Rattle.std.proofs.Common.{◌≡◌, List, [], ◌∷◌, ◌++◌, ℕ, ◌+◌, ◌<◌, ◌≤◌, length, get_or, drop, refl, sym, ap, ap₂, ◌∙◌}
use Rattle.std.proofs.lemmas.List.{drop_all}
use Rattle.mg_bson.specs.View.{tree, fields_of, items_of}
use Rattle.mg_bson.specs.declared.tree.Bson.{Bson}
use Rattle.mg_bson.specs.declared.tree.Field.{Field}
use Rattle.mg_bson.proofs.Places.{fields_of-push, items_of-push}
use Rattle.mg_bson.proofs.Along.{fields_here, items_here}
use Rattle.mg_bson.specs.Tree.{Tree, Fields, no_fields, field, Items, no_items, item}
use Rattle.mg_bson.specs.Find.{with_field, with_item, joined, items_joined}

pub joined_more : (fs : Fields) (k : List ℕ) (t : Tree) (gs : Fields) → joined (with_field fs k t) gs ≡ joined fs (field k t gs)
joined_more no_fields k t gs = refl
joined_more (field l u fs) k t gs = ap (field l u) (joined_more fs k t gs)

pub joined_all : (fs : Fields) → joined fs no_fields ≡ fs
joined_all no_fields = refl
joined_all (field l u fs) = ap (field l u) (joined_all fs)

pub items_joined_more : (ts : Items) (t : Tree) (us : Items) → items_joined (with_item ts t) us ≡ items_joined ts (item t us)
items_joined_more no_items t us = refl
items_joined_more (item u ts) t us = ap (item u) (items_joined_more ts t us)

pub items_joined_all : (ts : Items) → items_joined ts no_items ≡ ts
items_joined_all no_items = refl
items_joined_all (item u ts) = ap (item u) (items_joined_all ts)

-- ---- copies, one after the other

pub fields_copied : (done new fs : List Field) (i : ℕ) (f g : Field) → i < length fs → f ≡ get_or fs i f → g.name ≡ f.name → tree g.value ≡ tree f.value → new ≡ done ++ g ∷ []
    → joined (fields_of done) (fields_of (drop i fs)) ≡ fields_of fs → joined (fields_of new) (fields_of (drop (i + 1) fs)) ≡ fields_of fs
fields_copied done new fs i f g lt is name value e so_far =
    ap (λ (xs : List Field). joined (fields_of xs) (fields_of (drop (i + 1) fs))) e
    ∙ ap (λ (d : Fields). joined d (fields_of (drop (i + 1) fs))) (fields_of-push done g)
    ∙ joined_more (fields_of done) g.name (tree g.value) (fields_of (drop (i + 1) fs))
    ∙ ap₂ (λ (k : List ℕ) (t : Tree). joined (fields_of done) (field k t (fields_of (drop (i + 1) fs)))) name value
    ∙ ap (joined (fields_of done)) (sym (fields_here fs i f lt is)) ∙ so_far

pub fields_all_copied : (done fs : List Field) (i : ℕ) → length fs ≤ i → joined (fields_of done) (fields_of (drop i fs)) ≡ fields_of fs → fields_of done ≡ fields_of fs
fields_all_copied done fs i h e = sym (joined_all (fields_of done)) ∙ ap (λ (xs : List Field). joined (fields_of done) (fields_of xs)) (sym (drop_all i fs h)) ∙ e

pub items_copied : (done new ts : List Bson) (i : ℕ) (t u : Bson) → i < length ts → t ≡ get_or ts i t → tree u ≡ tree t → new ≡ done ++ u ∷ []
    → items_joined (items_of done) (items_of (drop i ts)) ≡ items_of ts → items_joined (items_of new) (items_of (drop (i + 1) ts)) ≡ items_of ts
items_copied done new ts i t u lt is value e so_far =
    ap (λ (xs : List Bson). items_joined (items_of xs) (items_of (drop (i + 1) ts))) e
    ∙ ap (λ (d : Items). items_joined d (items_of (drop (i + 1) ts))) (items_of-push done u)
    ∙ items_joined_more (items_of done) (tree u) (items_of (drop (i + 1) ts))
    ∙ ap (λ (v : Tree). items_joined (items_of done) (item v (items_of (drop (i + 1) ts)))) value
    ∙ ap (items_joined (items_of done)) (sym (items_here ts i t lt is)) ∙ so_far

pub items_all_copied : (done ts : List Bson) (i : ℕ) → length ts ≤ i → items_joined (items_of done) (items_of (drop i ts)) ≡ items_of ts → items_of done ≡ items_of ts
items_all_copied done ts i h e = sym (items_joined_all (items_of done)) ∙ ap (λ (xs : List Bson). items_joined (items_of done) (items_of xs)) (sym (drop_all i ts h)) ∙ e
