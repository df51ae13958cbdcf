-- The collections of a server stand in the order of their names.
use Rattle.std.proofs.Common.{Ordering, ◌≡◌, ℤ, pos, Bool, true, false, List, [], ◌∷◌, Option, refl, sym, ap, ap₂, ◌∙◌, subst}
use Rattle.std.specs.Prelude.{if◌then◌else◌, ◌&&◌}
use Rattle.std.specs.declared.cmp.Ordering.TheVariants.{Less, Equal, Greater}
use Rattle.std.specs.Cmp.{IsTotalOrder, on_total, then_total}
use Rattle.std.specs.Cmp.Lexicographic.{nat_list_cmp_total, slice_cmp}
use Rattle.std.specs.List.{AllByRecursion}
use Rattle.std.specs.List.Sorted.{IsStrictlySortedBy}
use Rattle.std.specs.Ordering.{int_eq, is_eq, is_lt, nat_cmp, ordering_reverse, ordering_then}
use Rattle.std.proofs.lemmas.Map.Text.{is_eq-slice_cmp}
use Rattle.mg_bson.specs.Tree.{Fields}
use Rattle.mg_link.specs.Namespace.{Space}
use Rattle.mg_server.specs.State.{Collection, Cursor, State, nothing, is_space, comes_before, put_collection, without_collection, change_documents, space_cmp, names_of, AreInOrder}
use Rattle.mg_server.specs.Commands.{Asked, asked, asks_insert, asks_update, asks_delete, asks_query, asks_watch, asks_more, asks_kill, asks_create, asks_indexes, asks_drop, Told, refuses, inserted, updated, deleted, done, opened, gave, killed}
use Rattle.mg_server.specs.Step.{Made, grown, effect, ends_cursor}
use Rattle.mg_server.specs.History.{Step, step_after, state_after, state_of, told_at}
use Rattle.mg_server.proofs.Collections.{same_space}

-- ---- the order of names

pub spaces_total : IsTotalOrder space_cmp
spaces_total = then_total (on_total (λ (s : Space). s.db) nat_list_cmp_total) (on_total (λ (s : Space). s.coll) nat_list_cmp_total)

then_tied : (a b : Ordering) → is_eq (ordering_then a b) ≡ (is_eq a && is_eq b)
then_tied Less b = refl
then_tied Equal b = refl
then_tied Greater b = refl

-- names are alike in the order where they are the same
pub tied_is : (s t : Space) → is_eq (space_cmp s t) ≡ is_space s t
tied_is s t = then_tied (slice_cmp nat_cmp s.db t.db) (slice_cmp nat_cmp s.coll t.coll) ∙ ap₂ (λ (x y : Bool). x && y) (is_eq-slice_cmp s.db t.db) (is_eq-slice_cmp s.coll t.coll)

less_is : (r : Ordering) → is_lt r ≡ true → r ≡ Less
less_is Less h = refl
less_is Equal h = absurd cc
less_is Greater h = absurd cc

-- of two other names the one that is not first is the later
later_is : (r t : Ordering) → t ≡ ordering_reverse r → is_lt r ≡ false → is_eq t ≡ false → t ≡ Less
later_is Less t e first apart = absurd cc
later_is Equal t e first apart = let bad : true ≡ false = sym (ap is_eq e) ∙ apart in absurd cc
later_is Greater t e first apart = e

-- ---- collections

abbrev AreBehind : Space → List Collection → Type 0
AreBehind s cs = AllByRecursion (λ (t : Space). space_cmp s t ≡ Less) (names_of cs)

behind_also : (s t : Space) (cs : List Collection) → space_cmp s t ≡ Less → AreBehind t cs → AreBehind s cs
behind_also s t [] lt h = tt
behind_also s t (c ∷ cs) lt h = (spaces_total.trans s t c.space lt h.0, behind_also s t cs lt h.1)

put_if : (s : Space) (c d : Collection) (ds rest : List Collection) (a b : Bool) → space_cmp s d.space ≡ Less → space_cmp s c.space ≡ Less → AreBehind s ds → AreBehind s rest
    → AreBehind s (if a then c ∷ ds else (if b then c ∷ d ∷ ds else d ∷ rest))
put_if s c d ds rest true b first new old more = (new, old)
put_if s c d ds rest false true first new old more = (new, (first, old))
put_if s c d ds rest false false first new old more = (first, more)

-- what is put is behind whatever it and the others are behind
put_behind : (s : Space) (c : Collection) (ds : List Collection) → space_cmp s c.space ≡ Less → AreBehind s ds → AreBehind s (put_collection c ds)
put_behind s c [] new h = (new, tt)
put_behind s c (d ∷ ds) new h = put_if s c d ds (put_collection c ds) (is_space d.space c.space) (comes_before c.space d.space) h.0 new h.1 (put_behind s c ds new h.1)

put_in : (a b : Bool) (c d : Collection) (ds : List Collection) → is_space d.space c.space ≡ a → comes_before c.space d.space ≡ b → AreInOrder (d ∷ ds) → AreInOrder (put_collection c ds)
    → AreInOrder (if a then c ∷ ds else (if b then c ∷ d ∷ ds else d ∷ put_collection c ds))
unfolding IsStrictlySortedBy
put_in true b c d ds same first h more = let e : d.space ≡ c.space = same_space d.space c.space same in (subst (λ (s : Space). AreBehind s ds) e h.0, h.1)
put_in false true c d ds same first h more = let lt = less_is (space_cmp c.space d.space) first in ((lt, behind_also c.space d.space ds lt h.0), h)
put_in false false c d ds same first h more =
    let lt = later_is (space_cmp c.space d.space) (space_cmp d.space c.space) (spaces_total.antisymm d.space c.space) first (tied_is d.space c.space ∙ same) in
    (put_behind d.space c ds lt h.0, more)

pub put_ordered : (c : Collection) (cs : List Collection) → AreInOrder cs → AreInOrder (put_collection c cs)
unfolding IsStrictlySortedBy
put_ordered c [] h = (tt, tt)
put_ordered c (d ∷ ds) h = put_in (is_space d.space c.space) (comes_before c.space d.space) c d ds refl refl h (put_ordered c ds h.1)

without_behind : (s space : Space) (cs : List Collection) → AreBehind s cs → AreBehind s (without_collection space cs)
without_behind s space [] h = tt
without_behind s space (c ∷ cs) h = kept (is_space space c.space) s c (without_collection space cs) h.0 (without_behind s space cs h.1)
  where
    kept : (b : Bool) (s : Space) (c : Collection) (rest : List Collection) → space_cmp s c.space ≡ Less → AreBehind s rest → AreBehind s (if b then rest else c ∷ rest)
    kept true s c rest first h = h
    kept false s c rest first h = (first, h)

kept_in : (b : Bool) (c : Collection) (rest : List Collection) → AreBehind c.space rest → AreInOrder rest → AreInOrder (if b then rest else c ∷ rest)
unfolding IsStrictlySortedBy
kept_in true c rest behind h = h
kept_in false c rest behind h = (behind, h)

pub without_ordered : (space : Space) (cs : List Collection) → AreInOrder cs → AreInOrder (without_collection space cs)
unfolding IsStrictlySortedBy
without_ordered space [] h = tt
without_ordered space (c ∷ cs) h = kept_in (is_space space c.space) c (without_collection space cs) (without_behind c.space space cs h.0) (without_ordered space cs h.1)

names_if : (b : Bool) (c : Collection) (ds : List Fields) (cs changed : List Collection) → names_of changed ≡ names_of cs → names_of (if b then record c { documents = ds } ∷ cs else c ∷ changed) ≡ names_of (c ∷ cs)
names_if true c ds cs changed e = refl
names_if false c ds cs changed e = ap (λ (l : List Space). c.space ∷ l) e

-- other documents leave the names
names_changed : (space : Space) (g : List Fields → List Fields) (cs : List Collection) → names_of (change_documents space g cs) ≡ names_of cs
names_changed space g [] = refl
names_changed space g (c ∷ cs) = names_if (is_space space c.space) c (g c.documents) cs (change_documents space g cs) (names_changed space g cs)

changed_ordered : (space : Space) (g : List Fields → List Fields) (cs : List Collection) → AreInOrder cs → AreInOrder (change_documents space g cs)
changed_ordered space g cs h = subst (IsStrictlySortedBy space_cmp) (sym (names_changed space g cs)) h

-- ---- steps

opened_ordered : (b : Bool) (s : State) (cursors : ℤ → Option Cursor) (ids : ℤ → Bool) → AreInOrder s.collections → AreInOrder (if b then s else record s { cursors = cursors; given = ids }).collections
opened_ordered true s cursors ids h = h
opened_ordered false s cursors ids h = h

ended_ordered : (b : Bool) (s : State) (cursors : ℤ → Option Cursor) → AreInOrder s.collections → AreInOrder (if b then record s { cursors = cursors } else s).collections
ended_ordered true s cursors h = h
ended_ordered false s cursors h = h

effect_ordered : (s : State) (command : Asked) (reply : Told) → AreInOrder s.collections → AreInOrder (effect s command reply).collections
unfolding effect
effect_ordered s (asks_insert space documents ordered) (inserted n failures) h = put_ordered _ s.collections h
effect_ordered s (asks_update space conditions m many) (updated n changed []) h = changed_ordered space _ s.collections h
effect_ordered s (asks_delete space conditions many) (deleted n []) h = changed_ordered space _ s.collections h
effect_ordered s (asks_create space) done h = put_ordered _ s.collections h
effect_ordered s (asks_indexes space indexes) done h = put_ordered _ s.collections h
effect_ordered s (asks_drop space) done h = without_ordered space s.collections h
effect_ordered s (asks_query q) (opened id at documents token time) h = opened_ordered (int_eq id (pos 0)) s _ _ h
effect_ordered s (asks_watch watch start) (opened id at events token time) h = opened_ordered (int_eq id (pos 0)) s _ _ h
effect_ordered s (asks_more id space) (gave left at events token) h = h
effect_ordered s (asks_more id space) (refuses code labels) h = ended_ordered (ends_cursor code) s _ h
effect_ordered s (asks_kill ids) killed h = h
effect_ordered s command reply h = h

grown_ordered : (s : State) (made : Made) → AreInOrder s.collections → AreInOrder (grown s made).collections
unfolding grown
grown_ordered s made h = h

after_ordered : (s : State) (steps : List Step) → AreInOrder s.collections → AreInOrder (state_after s steps).collections
unfolding state_after
after_ordered s [] h = h
after_ordered s (step ∷ steps) h = after_ordered (step_after s step) steps (effect_ordered (grown s step.made) (asked step.command) (told_at step) (grown_ordered s step.made h))

-- behind any steps from an empty server the collections stand in order
pub state_ordered : (steps : List Step) → AreInOrder (state_of steps).collections
unfolding IsStrictlySortedBy
state_ordered steps = after_ordered nothing steps tt
