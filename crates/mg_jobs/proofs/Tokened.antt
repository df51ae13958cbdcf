-- The events of a store that took mild commands have the tokens of their places.
use Rattle.std.proofs.Common.{◌≡◌, ◌≤◌, ◌+◌, ◌-◌, ◌++◌, ℕ, suc, zero, ℤ, pos, Bool, true, false, List, [], ◌∷◌, length, take, drop, map, Option, Some, None, Ok, Err, refl, sym, ap, ◌∙◌, subst, inl, inr, arith}
use Rattle.std.specs.Prelude.{if◌then◌else◌, codes, slice_get}
use Rattle.std.specs.List.{filter, list_all}
use Rattle.std.proofs.lemmas.Bool.{cases_Bool}
use Rattle.mg_bson.specs.Tree.{Fields}
use Rattle.mg_bson.specs.Find.{get}
use Rattle.mg_bson.specs.Raw.{fields}
use Rattle.mg_server.specs.Commands.{Told, deleted, done, garbled, gave, inserted, killed, opened, refuses, updated}
use Rattle.mg_server.specs.History.{state_after}
use Rattle.mg_server.specs.Kept.{AreStoreEntries, Kept, given_after, made_by, made_of, rule_entries, state_behind, state_of_kept, step_of, steps_from, told_kept}
use Rattle.mg_link.specs.Namespace.{Space}
use Rattle.mg_server.specs.Rules.{Answer, Request, answer, answer_insert, answer_more, answer_of, answer_with, bad_request, create_collection, create_indexes, delete, deleted_entries, deleted_reply, done_reply, drop_collection, events_may_be_given, find, insert, is_watch_of, kill, killed_reply, may_stay, more, more_reply, place_at, query_more_reply, query_reply, size_of, token_of, update, watch, watch_reply}
use Rattle.mg_server.specs.State.{Cursor, Entry, Index, State, Watch, between, collection_in, events_between, indexes_of, is_space, nothing, query, sees, watching}
use Rattle.mg_server.specs.Query.{index_listed}
use Rattle.mg_server.specs.Write.{chosen, with_indexes}
use Rattle.mg_server.specs.Step.{documents_of}
use Rattle.mg_server.proofs.Allowed.{Rule, answered_if, answers_by, create_ok, found_by, map_some, refuses_by, rule_is}
use Rattle.mg_server.proofs.Changing.{deleted_are}
use Rattle.mg_server.proofs.Histories.{step_after-changes}
use Rattle.mg_server.proofs.Inserting.{inserting_is}
use Rattle.mg_jobs.proofs.Mild.{IsMild, IsMildCommand}

-- ---- entries

store_on : (place : ℕ) (es fs : List Entry) → AreStoreEntries place es → AreStoreEntries (place + length es) fs → AreStoreEntries place (es ++ fs)
store_on place [] fs a b = let same : place + 0 ≡ place = omega arith in subst (λ (n : ℕ). AreStoreEntries n fs) same b
store_on place (e ∷ es) fs a b = let same : place + suc (length es) ≡ suc place + length es = omega arith in (a.0, store_on (suc place) es fs a.1 (subst (λ (n : ℕ). AreStoreEntries n fs) same b))

-- ---- what a mild command appends

none_by : (place : ℕ) (x a : Answer) → x ≡ a → x.entries ≡ [] → AreStoreEntries place a.entries
none_by place x a is none = subst (λ (es : List Entry). AreStoreEntries place es) (sym none ∙ ap (λ (y : Answer). y.entries) is) tt

more_none : (place : ℕ) (s : State) (id : ℤ) (space : Space) (size : ℕ) (o : Option Cursor) (a : Answer) → answer_more s id space size o ≡ Ok a → AreStoreEntries place a.entries
more_none place s id space size None a h = absurd cc
more_none place s id space size (Some (query other left)) a h = elim (cases_Bool (is_space space other)) [
  | inl same ↦ (let f = sym (ap (λ (b : Bool). if b then Ok (answer_with [] (query_more_reply id space left size)) else Err bad_request) same) ∙ h in let g : answer_with [] (query_more_reply id space left size) ≡ a = cc in none_by place (answer_with [] (query_more_reply id space left size)) a g refl)
  | inr other' ↦ (let bad : Err bad_request ≡ Ok a = sym (ap (λ (b : Bool). if b then Ok (answer_with [] (query_more_reply id space left size)) else Err bad_request) other') ∙ h in absurd cc)
]
more_none place s id space size (Some (watching w from)) a h = elim (cases_Bool (is_watch_of space w)) [
  | inl same ↦ (let f = sym (ap (λ (b : Bool). if b then Ok (answer_with [] (more_reply s id space w from size)) else Err bad_request) same) ∙ h in let g : answer_with [] (more_reply s id space w from size) ≡ a = cc in none_by place (answer_with [] (more_reply s id space w from size)) a g refl)
  | inr other' ↦ (let bad : Err bad_request ≡ Ok a = sym (ap (λ (b : Bool). if b then Ok (answer_with [] (more_reply s id space w from size)) else Err bad_request) other') ∙ h in absurd cc)
]

answers_stored : (s : State) (id : ℤ) (r : Request) (a : Answer) → IsMild r → answer s id r ≡ Ok a → AreStoreEntries (length s.changes) a.entries
answers_stored s id (insert space ds ordered) a q h =
    let same : answer_insert s space ds ordered ≡ a = cc in
    subst (λ (x : Answer). AreStoreEntries (length s.changes) x.entries) same (inserting_is space ordered 0 (length s.changes) (documents_of s space) ds).entries_are
answers_stored s id (find q') a q h = let f = found_by s id q' a h in none_by (length s.changes) (answer_with [] (query_reply id q' f.documents)) a f.is refl
answers_stored s id (watch w start resumes size) a q h = let from = map_some (λ (from : ℕ). answer_with [] (watch_reply s id w from (size_of size))) (place_at s w start resumes) a h in none_by (length s.changes) (answer_with [] (watch_reply s id w from.0 (size_of size))) a from.2 refl
answers_stored s id (more cursor space size) a q h = more_none (length s.changes) s cursor space (size_of size) (s.cursors cursor) a h
answers_stored s id (kill ids) a q h = let f : answer_with [] (killed_reply s ids) ≡ a = cc in none_by (length s.changes) (answer_with [] (killed_reply s ids)) a f refl
answers_stored s id (create_collection space) a q h = let f = create_ok (collection_in s.collections space) a h in none_by (length s.changes) (answer_with [] done_reply) a f.1 refl
answers_stored s id (create_indexes space indexes) a q h = let f = answered_if (list_all (λ (i : Index). may_stay (index_listed i)) (with_indexes (indexes_of s space) indexes)) (answer_with [] done_reply) a h in none_by (length s.changes) (answer_with [] done_reply) a f.1 refl
answers_stored s id (update space conditions m many) a q h = absurd q
answers_stored s id (delete space conditions many) a q h =
    let gone = chosen conditions many (documents_of s space) in
    let entries : List Entry = deleted_entries (length s.changes) space gone in
    let f = answered_if (events_may_be_given entries) (answer_with entries (deleted_reply (length gone))) a h in
    subst (λ (x : Answer). AreStoreEntries (length s.changes) x.entries) f.1 (deleted_are (length s.changes) space gone)
answers_stored s id (drop_collection space) a q h = absurd q

added_by : (s : State) (id : ℤ) (fs : Fields) (o : Answer) → IsMildCommand fs → Rule s id fs o → AreStoreEntries (length s.changes) o.entries
added_by s id fs o mild (refuses_by code is) = subst (λ (x : Answer). AreStoreEntries (length s.changes) x.entries) (sym is) tt
added_by s id fs o mild (answers_by r a asks answers is) = subst (λ (x : Answer). AreStoreEntries (length s.changes) x.entries) (sym is) (answers_stored s id r a (mild r asks) answers)

made_stored : (place : ℕ) (s : State) (started : Bool) (entries : List Entry) (t : Told) → AreStoreEntries place entries → AreStoreEntries place (made_by s started entries t).entries
made_stored place s started entries (refuses code labels) a = tt
made_stored place s started entries (inserted n failures) a = a
made_stored place s started entries (updated n changed failures) a = a
made_stored place s started entries (deleted n failures) a = a
made_stored place s started entries done a = a
made_stored place s started entries (opened id space events token time) a = a
made_stored place s started entries (gave id space events token) a = a
made_stored place s started entries killed a = a
made_stored place s started entries garbled a = a

history_stored : (s : State) (given : ℕ) (started : Bool) (kept : List Kept) → AreStoreEntries 0 s.changes → ((p : ℕ) (k : Kept) → slice_get kept p ≡ Some k → IsMildCommand (fields k.command)) → AreStoreEntries 0 (state_after s (steps_from s given started kept)).changes
unfolding steps_from state_after made_of
history_stored s given started [] a each = a
history_stored s given started (k ∷ kept) a each =
    let made = made_stored (length s.changes) s started (rule_entries s given k) (told_kept k) (added_by s (pos (suc given)) (fields k.command) (answer_of s (pos (suc given)) (fields k.command)) (each 0 k refl) (rule_is s (pos (suc given)) (fields k.command))) in
    let none : 0 + length s.changes ≡ length s.changes = omega arith in
    let now : AreStoreEntries 0 (state_behind s given started k).changes = subst (λ (es : List Entry). AreStoreEntries 0 es) (sym (step_after-changes s (step_of s given started k))) (store_on 0 s.changes (step_of s given started k).made.entries a (subst (λ (n : ℕ). AreStoreEntries n (step_of s given started k).made.entries) (sym none) made)) in
    history_stored (state_behind s given started k) (given_after given k) true kept now (λ p j there. each (suc p) j there)

-- the entries behind mild commands have the tokens of their places
pub kept_stored : (kept : List Kept) → ((p : ℕ) (k : Kept) → slice_get kept p ≡ Some k → IsMildCommand (fields k.command)) → AreStoreEntries 0 (state_of_kept kept).changes
kept_stored kept each = history_stored nothing 0 false kept tt each

-- ---- events

-- the `_id` of the event is the token of a place up to this one
pub record IsTokened (upto : ℕ) (event : Fields) : Type 0 where
  pub place : ℕ
  pub within : place ≤ upto
  pub id : get (codes "_id") event ≡ Some (token_of place)

abbrev pub AreTokened : ℕ → List Fields → Type 0
AreTokened upto [] = Unit {0}
AreTokened upto (e ∷ es) = IsTokened upto e × AreTokened upto es

abbrev EntriesTokened : ℕ → List Entry → Type 0
EntriesTokened upto [] = Unit {0}
EntriesTokened upto (e ∷ es) = IsTokened upto e.event × EntriesTokened upto es

entries_tokened : (upto place : ℕ) (es : List Entry) → place + length es ≤ upto → AreStoreEntries place es → ((k : ℕ) (e : Entry) → slice_get es k ≡ Some e → get (codes "_id") e.event ≡ Some e.token) → EntriesTokened upto es
entries_tokened upto place [] within stored ids = tt
entries_tokened upto place (e ∷ es) within stored ids = (
  record { place = suc place; within = omega (arith, within); id = ids 0 e refl ∙ ap Some stored.0.token_is },
  entries_tokened upto (suc place) es (omega (arith, within)) stored.1 (λ k f there. ids (suc k) f there),
)

behind_tokened : (upto n : ℕ) (es : List Entry) → EntriesTokened upto es → EntriesTokened upto (drop n es)
behind_tokened upto zero es t = t
behind_tokened upto (suc n) [] t = tt
behind_tokened upto (suc n) (e ∷ es) t = behind_tokened upto n es t.1

first_tokened : (upto n : ℕ) (es : List Entry) → EntriesTokened upto es → EntriesTokened upto (take n es)
first_tokened upto zero es t = tt
first_tokened upto (suc n) [] t = tt
first_tokened upto (suc n) (e ∷ es) t = (t.0, first_tokened upto n es t.1)

seen_by : (upto : ℕ) (b : Bool) (e : Entry) (es : List Entry) → IsTokened upto e.event → AreTokened upto (map (λ (f : Entry). f.event) es) → AreTokened upto (map (λ (f : Entry). f.event) (if b then e ∷ es else es))
seen_by upto true e es t rest = (t, rest)
seen_by upto false e es t rest = rest

seen_tokened : (upto : ℕ) (w : Watch) (es : List Entry) → EntriesTokened upto es → AreTokened upto (map (λ (f : Entry). f.event) (filter (sees w) es))
seen_tokened upto w [] t = tt
seen_tokened upto w (e ∷ es) t = seen_by upto (sees w e) e (filter (sees w) es) t.0 (seen_tokened upto w es t.1)

-- so have the events that a batch shows
pub batch_tokened : (w : Watch) (changes : List Entry) (from upto : ℕ) → AreStoreEntries 0 changes → ((k : ℕ) (e : Entry) → slice_get changes k ≡ Some e → get (codes "_id") e.event ≡ Some e.token) → AreTokened (length changes) (events_between w changes from upto)
batch_tokened w changes from upto stored ids =
    seen_tokened (length changes) w (between changes from upto) (first_tokened (length changes) (upto - from) (drop from changes) (behind_tokened (length changes) from changes (entries_tokened (length changes) 0 changes (omega arith) stored ids)))
