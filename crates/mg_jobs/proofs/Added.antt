-- The entries that the commands of jobs add: modest ones, and none by which a watch ends.
use Rattle.std.proofs.Common.{◌≡◌, ◌≤◌, ◌-◌, ◌++◌, ℕ, suc, zero, ℤ, pos, Bool, true, false, List, [], ◌∷◌, length, take, drop, map, Option, Some, None, Result, Ok, Err, refl, sym, ap, ◌∙◌, subst, inl, inr}
use Rattle.std.specs.Prelude.{if◌then◌else◌, codes, slice_get}
use Rattle.std.specs.List.{filter, list_all}
use Rattle.std.proofs.lemmas.Bool.{cases_Bool, and_parts, leb-true}
use Rattle.mg_bson.specs.Tree.{Tree, Fields}
use Rattle.mg_bson.specs.Bytes.{levels}
use Rattle.mg_bson.specs.Raw.{fields}
use Rattle.mg_server.specs.Commands.{Told, deleted, done, garbled, gave, inserted, killed, opened, refuses, updated}
use Rattle.mg_server.specs.History.{state_after}
use Rattle.mg_server.specs.Kept.{AreByRulesFrom, IsByRules, Kept, given_after, made_by, made_of, rule_entries, state_behind, state_of_kept, step_of, steps_from, told_kept}
use Rattle.mg_link.specs.Namespace.{Space}
use Rattle.mg_server.specs.Rules.{Answer, Inserted, Request, accept, answer, answer_insert, answer_more, answer_of, answer_with, bad_request, choose, create_collection, create_indexes, delete, deleted_entries, deleted_event, deleted_reply, done_reply, drop_collection, events_may_be_given, find, insert, insert_entry, inserting, is_watch_of, kill, killed_reply, max_given_levels, max_name, may_be_given, may_stay, more, more_reply, no_more, place_at, query_more_reply, query_reply, size_of, update, watch, watch_reply, with_document, with_error}
use Rattle.mg_server.specs.State.{Cursor, Entry, Index, State, Watch, between, collection_in, events_between, indexes_of, is_invalidate, is_space, nothing, query, sees, watching}
use Rattle.mg_server.specs.Query.{index_listed}
use Rattle.mg_server.specs.Write.{chosen, with_indexes}
use Rattle.mg_server.specs.Step.{documents_of}
use Rattle.mg_server.proofs.Allowed.{Rule, answered_if, answers_by, create_ok, found_by, map_some, refuses_by, rule_is}
use Rattle.mg_server.proofs.Histories.{step_after-changes}
use Rattle.mg_jobs.proofs.Mild.{IsMild, IsMildCommand}
use Rattle.mg_jobs.proofs.Sizes.{AreModest, IsModest, deleted_modest, event_modest, part_of}
use Rattle.mg_jobs.proofs.Stored.{AreShort, HaveShort, accepted, chosen_short, documents_short, stays_short}

-- ---- entries

abbrev pub IsModestEntry : Entry → Type 0
IsModestEntry e = IsModest e.event × (is_invalidate e.change ≡ false)

abbrev pub AreModestEntries : List Entry → Type 0
AreModestEntries [] = Unit {0}
AreModestEntries (e ∷ es) = IsModestEntry e × AreModestEntries es

modest_on : (es fs : List Entry) → AreModestEntries es → AreModestEntries fs → AreModestEntries (es ++ fs)
modest_on [] fs a b = b
modest_on (e ∷ es) fs a b = (a.0, modest_on es fs a.1 b)

modest_behind : (n : ℕ) (es : List Entry) → AreModestEntries es → AreModestEntries (drop n es)
modest_behind zero es a = a
modest_behind (suc n) [] a = tt
modest_behind (suc n) (e ∷ es) a = modest_behind n es a.1

modest_first : (n : ℕ) (es : List Entry) → AreModestEntries es → AreModestEntries (take n es)
modest_first zero es a = tt
modest_first (suc n) [] a = tt
modest_first (suc n) (e ∷ es) a = (a.0, modest_first n es a.1)

seen_by : (b : Bool) (e : Entry) (es : List Entry) → IsModestEntry e → AreModest (map (λ (f : Entry). f.event) es) → AreModest (map (λ (f : Entry). f.event) (if b then e ∷ es else es))
seen_by true e es a rest = (a.0, rest)
seen_by false e es a rest = rest

seen_modest : (w : Watch) (es : List Entry) → AreModestEntries es → AreModest (map (λ (f : Entry). f.event) (filter (sees w) es))
seen_modest w [] a = tt
seen_modest w (e ∷ es) a = seen_by (sees w e) e (filter (sees w) es) a.0 (seen_modest w es a.1)

pub events_modest : (w : Watch) (changes : List Entry) (from upto : ℕ) → AreModestEntries changes → AreModest (events_between w changes from upto)
events_modest w changes from upto a = seen_modest w (between changes from upto) (modest_first (upto - from) (drop from changes) (modest_behind from changes a))

-- ---- what an insert appends

taken_modest : (r : Result Tree ℤ) (with_id : Tree → Inserted) (without : ℤ → Inserted) → ((id : Tree) → r ≡ Ok id → AreModestEntries (with_id id).entries) → ((code : ℤ) → AreModestEntries (without code).entries) → AreModestEntries (choose r with_id without).entries
taken_modest (Ok id) with_id without a b = a id refl
taken_modest (Err code) with_id without a b = b code

cut_modest : (ordered : Bool) (i : Inserted) → AreModestEntries i.entries → AreModestEntries (if ordered then no_more else i).entries
cut_modest true i a = tt
cut_modest false i a = a

inserting_modest : (space : Space) (ordered : Bool) (index place : ℕ) (there ds : List Fields) → length space.db ≤ max_name → length space.coll ≤ max_name → AreModestEntries (inserting space ordered index place there ds).entries
unfolding inserting
inserting_modest space ordered index place there [] db coll = tt
inserting_modest space ordered index place there (d ∷ ds) db coll =
    taken_modest (accept there d) (λ id. with_document d (insert_entry (suc place) space id d) (inserting space ordered (suc index) (suc place) (there ++ d ∷ []) ds))
    (λ code. with_error index code (if ordered then no_more else inserting space ordered (suc index) place there ds))
    (λ id is. let a = accepted there d id is in (
      (event_modest (suc place) space id d db coll (part_of (codes "_id") d id a.there) a.few a.flat, refl),
      inserting_modest space ordered (suc index) (suc place) (there ++ d ∷ []) ds db coll,
    ))
    (λ code. cut_modest ordered (inserting space ordered (suc index) place there ds) (inserting_modest space ordered (suc index) place there ds db coll))

-- ---- what a delete appends

deleted_are_modest : (place : ℕ) (space : Space) (ds : List Fields) → length space.db ≤ max_name → length space.coll ≤ max_name → AreShort ds → events_may_be_given (deleted_entries place space ds) ≡ true → AreModestEntries (deleted_entries place space ds)
deleted_are_modest place space [] db coll short may = tt
deleted_are_modest place space (d ∷ ds) db coll short may =
    let parts = and_parts (may_be_given (deleted_event (suc place) space d)) (events_may_be_given (deleted_entries (suc place) space ds)) may in
    ((deleted_modest (suc place) space d db coll short.0.0 (leb-true (levels (deleted_event (suc place) space d)) max_given_levels parts.0), refl), deleted_are_modest (suc place) space ds db coll short.1 parts.1)

-- ---- what a mild command appends

none_by : (x a : Answer) → x ≡ a → x.entries ≡ [] → AreModestEntries a.entries
none_by x a is none = subst (λ (es : List Entry). AreModestEntries es) (sym none ∙ ap (λ (y : Answer). y.entries) is) tt

more_none : (s : State) (id : ℤ) (space : Space) (size : ℕ) (o : Option Cursor) (a : Answer) → answer_more s id space size o ≡ Ok a → AreModestEntries a.entries
more_none s id space size None a h = absurd cc
more_none s id space size (Some (query other left)) a h = elim (cases_Bool (is_space space other)) [
  | inl same ↦ (let f = sym (ap (λ (b : Bool). if b then Ok (answer_with [] (query_more_reply id space left size)) else Err bad_request) same) ∙ h in let g : answer_with [] (query_more_reply id space left size) ≡ a = cc in none_by (answer_with [] (query_more_reply id space left size)) a g refl)
  | inr other' ↦ (let bad : Err bad_request ≡ Ok a = sym (ap (λ (b : Bool). if b then Ok (answer_with [] (query_more_reply id space left size)) else Err bad_request) other') ∙ h in absurd cc)
]
more_none s id space size (Some (watching w place)) a h = elim (cases_Bool (is_watch_of space w)) [
  | inl same ↦ (let f = sym (ap (λ (b : Bool). if b then Ok (answer_with [] (more_reply s id space w place size)) else Err bad_request) same) ∙ h in let g : answer_with [] (more_reply s id space w place size) ≡ a = cc in none_by (answer_with [] (more_reply s id space w place size)) a g refl)
  | inr other' ↦ (let bad : Err bad_request ≡ Ok a = sym (ap (λ (b : Bool). if b then Ok (answer_with [] (more_reply s id space w place size)) else Err bad_request) other') ∙ h in absurd cc)
]

answers_modest : (s : State) (id : ℤ) (r : Request) (a : Answer) → IsMild r → HaveShort s.collections → answer s id r ≡ Ok a → AreModestEntries a.entries
answers_modest s id (insert space ds ordered) a q short h =
    let same : answer_insert s space ds ordered ≡ a = cc in
    subst (λ (x : Answer). AreModestEntries x.entries) same (inserting_modest space ordered 0 (length s.changes) (documents_of s space) ds q.0 q.1)
answers_modest s id (find q') a q short h = let f = found_by s id q' a h in none_by (answer_with [] (query_reply id q' f.documents)) a f.is refl
answers_modest s id (watch w start resumes size) a q short h = let from = map_some (λ (from : ℕ). answer_with [] (watch_reply s id w from (size_of size))) (place_at s w start resumes) a h in none_by (answer_with [] (watch_reply s id w from.0 (size_of size))) a from.2 refl
answers_modest s id (more cursor space size) a q short h = more_none s cursor space (size_of size) (s.cursors cursor) a h
answers_modest s id (kill ids) a q short h = let f : answer_with [] (killed_reply s ids) ≡ a = cc in none_by (answer_with [] (killed_reply s ids)) a f refl
answers_modest s id (create_collection space) a q short h = let f = create_ok (collection_in s.collections space) a h in none_by (answer_with [] done_reply) a f.1 refl
answers_modest s id (create_indexes space indexes) a q short h = let f = answered_if (list_all (λ (i : Index). may_stay (index_listed i)) (with_indexes (indexes_of s space) indexes)) (answer_with [] done_reply) a h in none_by (answer_with [] done_reply) a f.1 refl
answers_modest s id (update space conditions m many) a q short h = absurd q
answers_modest s id (delete space conditions many) a q short h =
    let gone : List Fields = chosen conditions many (documents_of s space) in
    let entries : List Entry = deleted_entries (length s.changes) space gone in
    let f = answered_if (events_may_be_given entries) (answer_with entries (deleted_reply (length gone))) a h in
    subst (λ (x : Answer). AreModestEntries x.entries) f.1 (deleted_are_modest (length s.changes) space gone q.0 q.1 (chosen_short conditions many (documents_of s space) (documents_short s space short)) f.0)
answers_modest s id (drop_collection space) a q short h = absurd q

added_by : (s : State) (id : ℤ) (fs : Fields) (o : Answer) → IsMildCommand fs → HaveShort s.collections → Rule s id fs o → AreModestEntries o.entries
added_by s id fs o mild short (refuses_by code is) = subst (λ (x : Answer). AreModestEntries x.entries) (sym is) tt
added_by s id fs o mild short (answers_by r a asks answers is) = subst (λ (x : Answer). AreModestEntries x.entries) (sym is) (answers_modest s id r a (mild r asks) short answers)

-- ---- the entries of a history

made_modest : (s : State) (started : Bool) (entries : List Entry) (t : Told) → AreModestEntries entries → AreModestEntries (made_by s started entries t).entries
made_modest s started entries (refuses code labels) a = tt
made_modest s started entries (inserted n failures) a = a
made_modest s started entries (updated n changed failures) a = a
made_modest s started entries (deleted n failures) a = a
made_modest s started entries done a = a
made_modest s started entries (opened id space events token time) a = a
made_modest s started entries (gave id space events token) a = a
made_modest s started entries killed a = a
made_modest s started entries garbled a = a

history_modest : (s : State) (given : ℕ) (started : Bool) (kept : List Kept) → AreByRulesFrom s given started kept → HaveShort s.collections → AreModestEntries s.changes → ((p : ℕ) (k : Kept) → slice_get kept p ≡ Some k → IsMildCommand (fields k.command))
    → AreModestEntries (state_after s (steps_from s given started kept)).changes
unfolding steps_from state_after made_of AreByRulesFrom
history_modest s given started [] by_rules short a each = a
history_modest s given started (k ∷ kept) by_rules short a each =
    let mild = each 0 k refl in
    let made = made_modest s started (rule_entries s given k) (told_kept k) (added_by s (pos (suc given)) (fields k.command) (answer_of s (pos (suc given)) (fields k.command)) mild short (rule_is s (pos (suc given)) (fields k.command))) in
    let now : AreModestEntries (state_behind s given started k).changes = subst (λ (es : List Entry). AreModestEntries es) (sym (step_after-changes s (step_of s given started k))) (modest_on s.changes (step_of s given started k).made.entries a made) in
    history_modest (state_behind s given started k) (given_after given k) true kept by_rules.1 (stays_short s given started k mild by_rules.0 short) now (λ p j there. each (suc p) j there)

-- All entries behind mild commands that the store replied to are such.
pub kept_modest : (kept : List Kept) → IsByRules kept → ((p : ℕ) (k : Kept) → slice_get kept p ≡ Some k → IsMildCommand (fields k.command)) → AreModestEntries (state_of_kept kept).changes
kept_modest kept by_rules each = history_modest nothing 0 false kept by_rules tt tt each

front_by_rules : (s : State) (given : ℕ) (started : Bool) (before later : List Kept) → AreByRulesFrom s given started (before ++ later) → AreByRulesFrom s given started before
unfolding AreByRulesFrom
front_by_rules s given started [] later by_rules = tt
front_by_rules s given started (k ∷ before) later by_rules = (by_rules.0, front_by_rules (state_behind s given started k) (given_after given k) true before later by_rules.1)

-- so it replied to the first of them
pub first_by_rules : (before later : List Kept) → IsByRules (before ++ later) → IsByRules before
first_by_rules before later by_rules = front_by_rules nothing 0 false before later by_rules
