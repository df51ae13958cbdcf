-- The ids of a killCursors, one after another.
use Rattle.std.proofs.Common.{◌≡◌, ℤ, Bool, true, false, List, [], ◌∷◌, ◌++◌, is_some, not, refl, sym, ap, ap₂, ◌∙◌}
use Rattle.std.specs.Prelude.{if◌then◌else◌, ◌||◌, ◌&&◌}
use Rattle.std.specs.Ordering.{int_eq}
use Rattle.mg_bson.specs.Tree.{int64, Items, item}
use Rattle.mg_bson.specs.Find.{with_item, items_joined}
use Rattle.mg_bson.proofs.Joining.{items_joined_more, items_joined_all}
use Rattle.mg_server.specs.State.{State}
use Rattle.mg_server.specs.Rules.{ids_if, is_id_among, is_killed, same_answer}

abbrev SameIds : List ℤ → List ℤ → Type 0
SameIds xs ys = (q : ℤ) → is_id_among q xs ≡ is_id_among q ys

-- only which ids came before counts
ids_same : (wanted : Bool) (s : State) (xs ys ids : List ℤ) → SameIds xs ys → ids_if wanted s xs ids ≡ ids_if wanted s ys ids
ids_same wanted s xs ys [] h = refl
ids_same wanted s xs ys (id ∷ ids) h =
    ap₂ (λ (b : Bool) (r : Items). if same_answer wanted (if b then false else is_some (s.cursors id)) then item (int64 id) r else r) (h id)
    (ids_same wanted s (id ∷ xs) (id ∷ ys) ids (λ q. ap (λ (b : Bool). int_eq q id || b) (h q)))

or_swap : (a b c : Bool) → (a || (b || c)) ≡ (b || (a || c))
or_swap true true c = refl
or_swap true false c = refl
or_swap false b c = refl

pub among_push : (q id : ℤ) (xs : List ℤ) → is_id_among q (xs ++ id ∷ []) ≡ (int_eq q id || is_id_among q xs)
among_push q id [] = refl
among_push q id (x ∷ xs) = ap (λ (b : Bool). int_eq q x || b) (among_push q id xs) ∙ or_swap (int_eq q x) (int_eq q id) (is_id_among q xs)

-- one of the two lists that a reply has, and what is left of it
abbrev pub Lists : Bool → State → Items → (before rest all : List ℤ) → Type 0
Lists wanted s listed before rest all = items_joined listed (ids_if wanted s before rest) ≡ ids_if wanted s [] all

-- what the code adds to one of the lists
abbrev pub added : Bool → ℤ → Items → Items
added b id listed = if b then with_item listed (int64 id) else listed

added_joined : (b : Bool) (id : ℤ) (listed rest : Items) → items_joined (added b id listed) rest ≡ items_joined listed (if b then item (int64 id) rest else rest)
added_joined true id listed rest = items_joined_more listed (int64 id) rest
added_joined false id listed rest = refl

pub lists_more : (wanted b : Bool) (s : State) (listed listed' : Items) (before before' rest all : List ℤ) (id : ℤ) → listed' ≡ added b id listed → b ≡ same_answer wanted (is_killed s before id) → before' ≡ before ++ id ∷ []
    → Lists wanted s listed before (id ∷ rest) all → Lists wanted s listed' before' rest all
lists_more wanted b s listed listed' before before' rest all id is asked next h =
    let same : SameIds before' (id ∷ before) = λ q. ap (is_id_among q) next ∙ among_push q id before in
    ap₂ items_joined is (ids_same wanted s before' (id ∷ before) rest same)
    ∙ added_joined b id listed (ids_if wanted s (id ∷ before) rest)
    ∙ ap (λ (x : Bool). items_joined listed (if x then item (int64 id) (ids_if wanted s (id ∷ before) rest) else ids_if wanted s (id ∷ before) rest)) asked ∙ h

pub lists_end : (wanted : Bool) (s : State) (listed : Items) (before rest all : List ℤ) → rest ≡ [] → Lists wanted s listed before rest all → listed ≡ ids_if wanted s [] all
lists_end wanted s listed before rest all none h = sym (items_joined_all listed) ∙ sym (ap (λ (l : List ℤ). items_joined listed (ids_if wanted s before l)) none) ∙ h

by_fresh : (among fresh held there : Bool) → fresh ≡ not among → there ≡ held → (if among then false else there) ≡ (fresh && held)
by_fresh true true held there f h = cc
by_fresh true false held there f h = refl
by_fresh false true held there f h = h
by_fresh false false held there f h = cc

-- whether an id names a cursor that was not named before
pub killed_when : (s : State) (id : ℤ) (before : List ℤ) (fresh held : Bool) → fresh ≡ not (is_id_among id before) → is_some (s.cursors id) ≡ held → is_killed s before id ≡ (fresh && held)
killed_when s id before fresh held f h = by_fresh (is_id_among id before) fresh held (is_some (s.cursors id)) f h
