-- What a watch sees, by the encodings of its values.
use Rattle.std.proofs.Common.{◌≡◌, ℕ, suc, ◌<◌, length, get_or, Bool, List, [], ◌∷◌, map, Option, Some, None, refl, sym, ap, ap₂, ◌∙◌}
use Rattle.std.specs.Prelude.{◌&&◌, ◌||◌, IfOk, Result, Ok, Err, true, false}
use Rattle.std.proofs.lemmas.Bool.{and_right}
use Rattle.mg_bson.specs.Tree.{Tree, Fields, Items, no_items, item}
use Rattle.mg_bson.specs.Find.{get}
use Rattle.mg_bson.specs.Raw.{fields}
use Rattle.mg_link.specs.Namespace.{Target, target}
use Rattle.mg_server.specs.Filter.{Condition, key, is_same, is_among, one_of, matches}
use Rattle.mg_server.specs.Rules.{ended_before}
use Rattle.mg_server.specs.State.{Watch, is_invalidate, is_of, sees}
use Rattle.mg_query.specs.Asking.{Keyed, held, keyed, keys_of, is_key_among, has_key, matches_keys}
use Rattle.mg_store.specs.Holding.{change_told, entries_from, entry_at, IsWatch, IsWatchOf}
use Rattle.mg_store.specs.declared.change.ChangeEntry.{ChangeEntry}
use Rattle.mg_store.specs.declared.cursor.Watch as code
use Rattle.mg_store.proofs.Entries.{ended_at}

among_keys : (vs : Items) (t : Tree) → is_key_among (key t) (keys_of vs) ≡ is_among vs t
among_keys no_items t = refl
among_keys (item v vs) t = ap (λ (b : Bool). is_same v t || b) (among_keys vs t)

one_key : (vs : Items) (o : Option Tree) → has_key (keys_of vs) o ≡ one_of vs o
one_key vs None = refl
one_key vs (Some t) = among_keys vs t

pub matches_by_keys : (cs : List Condition) (d : Fields) → matches_keys (map keyed cs) d ≡ matches cs d
matches_by_keys [] d = refl
matches_by_keys (c ∷ cs) d = ap₂ (λ (a b : Bool). a && b) (one_key c.values (get c.name d)) (matches_by_keys cs d)

-- a watch is of what its conditions select, in whatever form they are held
pub selected_watch : (c : code.Watch) (keys : List Keyed) (w : Watch) → ((d : Fields) → matches_keys keys d ≡ matches_keys (map held c.filter.items) d) → IsWatch c w → IsWatchOf (target c.target) keys w
selected_watch c keys w same h = record { target_is = h.target_is; selects = λ d. same d ∙ ap (λ (ks : List Keyed). matches_keys ks d) h.filter_is }

-- what the code finds is what the watch sees
sees_is : (t : Target) (keys : List Keyed) (w : Watch) (place : ℕ) (e : ChangeEntry) (b d : Bool) → IsWatchOf t keys w → b ≡ is_of t (entry_at place e) → d ≡ (b && matches_keys keys (fields e.event)) → d ≡ sees w (entry_at place e)
sees_is t keys w place e b d h of is =
    is ∙ ap₂ (λ (x m : Bool). x && m) (of ∙ ap (λ (u : Target). is_of u (entry_at place e)) (sym h.target_is)) (h.selects (fields e.event) ∙ matches_by_keys w.filter (fields e.event))

and_true : (a b : Bool) → b ≡ true → (a && b) ≡ a
and_true true b h = h
and_true false b h = refl

pub sees_ok : {E : Type 0} (t : Target) (keys : List Keyed) (e : ChangeEntry) (b : Bool) (r : Result Bool E) → b ≡ true → ((place : ℕ) → b ≡ is_of t (entry_at place e)) → IfOk r (λ d. d ≡ matches_keys keys (fields e.event))
    → IfOk r (λ d. (w : Watch) (place : ℕ) → IsWatchOf t keys w → d ≡ sees w (entry_at place e))
sees_ok t keys e b (Ok d) its of is = λ w place h. sees_is t keys w place e b d h (of place) (is ∙ ap (λ (x : Bool). x && matches_keys keys (fields e.event)) (sym its))
sees_ok t keys e b (Err x) its of is = tt

-- the watch ended where it sees an invalidate entry before the place
pub ended_ok : {E : Type 0} (c : code.Watch) (keys : List Keyed) (es : List ChangeEntry) (e : ChangeEntry) (place n : ℕ) (r : Result Bool E) → ((d : Fields) → matches_keys keys d ≡ matches_keys (map held c.filter.items) d)
    → place ≡ suc n → n < length es → e ≡ get_or es n e → is_invalidate (change_told (fields e.event)) ≡ true
    → IfOk r (λ d. (w : Watch) (place : ℕ) → IsWatchOf (target c.target) keys w → d ≡ sees w (entry_at place e)) → IfOk r (λ d. (w : Watch) → IsWatch c w → d ≡ ended_before w (entries_from 0 es) place)
ended_ok c keys es e place n (Ok d) same at lt is last seen = λ w h.
    let a = and_true (sees w (entry_at n e)) (is_invalidate (change_told (fields e.event))) last in
    seen w n (selected_watch c keys w same h) ∙ sym a ∙ sym (ended_at w place n es e at lt is)
ended_ok c keys es e place n (Err x) same at lt is last seen = tt

pub not_ended : (w : Watch) (es : List ChangeEntry) (e : ChangeEntry) (place n : ℕ) → place ≡ suc n → n < length es → e ≡ get_or es n e → is_invalidate (change_told (fields e.event)) ≡ false → false ≡ ended_before w (entries_from 0 es) place
not_ended w es e place n at lt is other = sym (ended_at w place n es e at lt is ∙ and_right (sees w (entry_at n e)) (is_invalidate (change_told (fields e.event))) other)
