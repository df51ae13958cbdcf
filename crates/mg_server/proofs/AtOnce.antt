-- What the rules answer holds nothing back, unless they refuse.
use Rattle.std.proofs.Common.{◌≡◌, ◌≢◌, ◌⊎◌, ℕ, ℤ, pos, zero, suc, ◌<◌, ◌≤◌, ◌+◌, ◌^◌, Bool, true, false, List, [], ◌∷◌, ◌++◌, length, Option, Some, None, Contains, Ok, refl, sym, ap, ◌∙◌, subst, inl, inr, arith, take, drop}
use Rattle.std.specs.Prelude.{if◌then◌else◌, ◌&&◌, ◌||◌, codes, option_and_then, unwrap_or, map, slice_get}
use Rattle.std.specs.List.{list_all}
use Rattle.std.specs.Ordering.{int_eq}
use Rattle.std.proofs.lemmas.Bool.{cases_Bool}
use Rattle.std.proofs.lemmas.List.{take-append-drop}
use Rattle.mg_bson.specs.Find.{get}
use Rattle.mg_bson.specs.Literal.{◌⇒◌⨾◌, empty}
use Rattle.mg_bson.specs.Raw.{fields}
use Rattle.mg_bson.specs.Tree.{Fields, Items, int32, item, no_items}
use Rattle.mg_server.specs.Commands.{Asked, Failure, Told, asked, asks_create, asks_delete, asks_drop, asks_indexes, asks_insert, asks_kill, asks_more, asks_query, asks_update, asks_watch, deleted, documents_in, done, failures_at, failures_by, gave, inserted, killed, opened, told, updated}
use Rattle.mg_server.specs.Filter.{Condition}
use Rattle.mg_server.specs.History.{Step, state_after, told_at}
use Rattle.mg_server.specs.Kept.{AreByRulesFrom, Follows, IsByRules, IsStoreState, Kept, by_choice, by_rules, given_after, is_given, made_by, made_of, made_these, state_behind, state_of_kept, step_of, steps_from, steps_of, told_kept}
use Rattle.mg_link.specs.Namespace.{Space}
use Rattle.mg_server.specs.Prompt.{AnswersAtOnce, EndsByInvalidate, GivesSome, HoldsBackNone, IsRefused, MeetsConcern, rule_failures}
use Rattle.mg_server.specs.Query.{Query, Source, index_listed, of_collection, of_database, of_indexes, read, result, through}
use Rattle.mg_server.specs.Rules.{Answer, Inserted, Request, answer, answer_insert, answer_more, answer_of, answer_with, batch_id, batch_of_query, batch_place, create_collection, create_indexes, default_batch, delete, deleted_entries, deleted_reply, done_reply, drop_collection, dropped_entries, ends_watch, errors_field, events_may_be_given, find, first_held, has_invalidate, id_unless, id_while, insert, inserted_reply, inserting, is_watch_of, kill, killed_reply, may_stay, modified_entries, more, more_reply, now_of, number_of, place_at, query_id, query_more_reply, query_reply, query_space, refusal, size_of, token_of, update, updated_reply, watch, watch_reply, watch_space}
use Rattle.mg_server.specs.State.{Cursor, Entry, Index, Start, State, Watch, collection_in, events_between, give, indexes_of, is_invalidate, is_space, nothing, put_cursor, query, seen_between, watching}
use Rattle.mg_server.specs.Step.{documents_of, effect, grown, next, queried_at}
use Rattle.mg_server.specs.Write.{Modification, changing, chosen, modified, with_indexes}
use Rattle.mg_server.proofs.Allowed.{Rule, answered_if, answers_by, create_ok, drop_ok, found_by, grown_changes, map_some, named_by, none_left, place_begins, place_fits, refuses_by, result_grown, rule_is, rules_allowed}
use Rattle.mg_server.proofs.Batched.{is_full}
use Rattle.mg_server.proofs.Batching.{batch_within}
use Rattle.mg_server.proofs.Filling.{is_full_batch}
use Rattle.mg_server.proofs.Histories.{effect-changes}
use Rattle.mg_server.proofs.Inserting.{failing, inserting_is}
use Rattle.mg_server.proofs.Later.{contains_more}
use Rattle.mg_server.proofs.Legal.{fits_before, follows_allowed, nothing_is}
use Rattle.mg_server.proofs.Prompts.{IsAtOnce, nonzero, watch_or_query}
use Rattle.mg_server.proofs.Requests.{HasName, IsNamed, asked_is, asks_of, request_reads}
use Rattle.mg_server.proofs.Telling.{created_tells, deleted_tells, dropped_tells, found_tells, gave_tells, indexed_tells, insert_tells, killed_tells, more_found_tells, opened_tells, refusal_tells, told_reads, updated_tells}

-- ---- lists

behind_same : {A : Type 0} (xs ys zs : List A) → xs ++ ys ≡ xs ++ zs → ys ≡ zs
behind_same [] ys zs e = e
behind_same (x ∷ xs) ys zs e = let rest : xs ++ ys ≡ xs ++ zs = cc e in behind_same xs ys zs rest

some_taken : {A : Type 0} (n : ℕ) (x : A) (xs : List A) → 0 < n → take n (x ∷ xs) ≡ [] → ⊥
some_taken zero x xs some e = absurd (omega arith)
some_taken (suc n) x xs some e = absurd cc

-- ---- batches

some_invalidate : (es : List Entry) → has_invalidate es ≡ true → (e : Entry) × Contains es e × (is_invalidate e.change ≡ true)
some_invalidate [] h = absurd cc
some_invalidate (e ∷ es) h =
    elim (cases_Bool (is_invalidate e.change)) [
      | inl is ↦ (e, (0, omega arith, refl), is)
      | inr not ↦
          let rest : has_invalidate es ≡ true = sym (ap (λ (b : Bool). b || has_invalidate es) not) ∙ h in
          let more = some_invalidate es rest in
          (more.0, contains_more e es more.0 more.1, more.2)
    ]

unless_ended : (ended : Bool) (id : ℤ) → id ≢ pos 0 → id_unless ended id ≡ pos 0 → ended ≡ true
unless_ended true id some e = refl
unless_ended false id some e = absurd (some e)

-- a cursor of a watch ends only behind an invalidate entry that the batch holds
watch_ends : (s s' : State) (given : ℕ) (w : Watch) (from size : ℕ) (id : ℤ) → IsStoreState s' given true → s'.changes ≡ s.changes → from ≤ length s.changes → length s.changes < 2 ^ 64 → id ≢ pos 0
    → EndsByInvalidate s' w from (batch_id id w s.changes from (batch_place w s.changes from size)) (Some (token_of (batch_place w s.changes from size)))
watch_ends s s' given w from size id stays same le lt some ends =
    let place : ℕ = batch_place w s.changes from size in
    let within = (batch_within w s.changes from size le).1 in
    let long : length s'.changes ≡ length s.changes = ap length same in
    let found = some_invalidate (seen_between w s.changes from place) (unless_ended (ends_watch w s.changes from place) id some ends) in (
      place,
      named_by s' given place stays (omega (arith, within, long)) (omega (arith, long, lt)),
      found.0,
      subst (λ (es : List Entry). Contains (seen_between w es from place) found.0) (sym same) found.1,
      found.2,
    )

-- a batch of a query leaves a document only behind one that it holds
query_holds : (size : ℕ) (ds : List Fields) → 0 < size → take (batch_of_query size ds) ds ≡ [] → drop (batch_of_query size ds) ds ≡ []
query_holds size [] sized none = none_left (batch_of_query size []) [] refl
query_holds size (d ∷ ds) sized none = absurd (some_taken (batch_of_query size (d ∷ ds)) d ds ((is_full size (d ∷ ds)).some sized (omega arith)) none)

while_ends : (id : ℤ) (ds : List Fields) → ds ≡ [] → id_while id ds ≡ pos 0
while_ends id ds none = ap (id_while id) none

first_sized : (size : Option ℕ) → size ≢ Some 0 → 0 < unwrap_or size default_batch
first_sized None some = let size : unwrap_or None default_batch ≡ 101 = refl in omega (arith, size)
first_sized (Some zero) some = absurd (some refl)
first_sized (Some (suc n)) some = let size : unwrap_or (Some (suc n)) default_batch ≡ suc n = refl in omega (arith, size)

query_ends : (id : ℤ) (q : Query) (ds : List Fields) → drop (first_held q ds) ds ≡ [] → query_id id q ds ≡ pos 0
query_ends id q ds none = elim q.single as (λ b. (if b then pos 0 else id_while id (drop (first_held q ds) ds)) ≡ pos 0) [ true ↦ refl | false ↦ while_ends id (drop (first_held q ds) ds) none ]

-- ---- what the rules answer to a request

-- the state behind a command that was told so
abbrev behind : State → Bool → Asked → Told → List Entry → State
behind s started command reply entries = next s command reply (made_by s started entries reply)

abbrev IsAtOnceBy : State → State → Asked → Told → List ℕ → Type 0
IsAtOnceBy s s' command reply bytes = AnswersAtOnce s s' command reply × MeetsConcern command bytes

-- it is so where the state behind it is one of a store
abbrev BehindAtOnce : State → Bool → Asked → Told → List ℕ → List Entry → Type 0
BehindAtOnce s started command reply bytes entries =
    (given : ℕ) → IsStoreState (behind s started command reply entries) given true → length s.changes < 2 ^ 64 → IsAtOnceBy s (behind s started command reply entries) command reply bytes

abbrev AnswersSo : State → Bool → Request → Answer → Type 0
AnswersSo s started r a = (bytes : List ℕ) → fields bytes ≡ a.reply → BehindAtOnce s started (asks_of r) (told (asks_of r) bytes) bytes a.entries

so_told : (s : State) (started : Bool) (r : Request) (a : Answer) (t : Told) → ((bytes : List ℕ) → fields bytes ≡ a.reply → told (asks_of r) bytes ≡ t) → ((bytes : List ℕ) → fields bytes ≡ a.reply → BehindAtOnce s started (asks_of r) t bytes a.entries) → AnswersSo s started r a
so_told s started r a t tells so bytes e = subst (λ (u : Told). BehindAtOnce s started (asks_of r) u bytes a.entries) (sym (tells bytes e)) (so bytes e)

-- ---- inserts

abbrev insert_fields : ℕ → Items → Fields
insert_fields n errors = "n" ⇒ number_of n ⨾ errors_field errors ("ok" ⇒ int32 (pos 1) ⨾ empty)

listed_again : (n : ℕ) (errors : Items) (failures : List Failure) → option_and_then failures_by (documents_in errors) ≡ Some failures → failures_at (get (codes "writeErrors") (insert_fields n errors)) ≡ Some failures
listed_again n no_items failures e = e
listed_again n (item t ts) failures e = e

no_concern : (n : ℕ) (errors : Items) → get (codes "writeConcernError") (insert_fields n errors) ≡ None
no_concern n no_items = refl
no_concern n (item t ts) = refl

insert_so : (s : State) (started : Bool) (space : Space) (ds : List Fields) (ordered : Bool) → AnswersSo s started (insert space ds ordered) (answer_insert s space ds ordered)
insert_so s started space ds ordered =
    let i : Inserted = inserting space ordered 0 (length s.changes) (documents_of s space) ds in
    let is = inserting_is space ordered 0 (length s.changes) (documents_of s space) ds in
    let failures : List Failure = failing ordered 0 (documents_of s space) ds in
    let rules : rule_failures s space ds ordered ≡ failures = ap (λ (o : Option (List Failure)). unwrap_or o []) (listed_again (length i.documents) i.errors failures is.failures_are) in
    so_told s started (insert space ds ordered) (answer_insert s space ds ordered) (inserted (pos (length i.documents)) failures)
    (λ bytes e. told_reads (asks_insert space ds ordered) bytes (inserted_reply i) e ∙ insert_tells space ds ordered i failures is.failures_are is.errors_keep)
    (λ bytes e given stays lt. (λ f has. subst (λ (l : List Failure). Contains l f) (sym rules) has, ap (get (codes "writeConcernError")) e ∙ no_concern (length i.documents) i.errors))

-- ---- watches

watch_so : (s : State) (given : ℕ) (started : Bool) (w : Watch) (start : Start) (resumes : Bool) (size : Option ℕ) (from : ℕ) → IsNamed (watch_space w.target) → place_at s w start resumes ≡ Ok from
    → AnswersSo s started (watch w start resumes size) (answer_with [] (watch_reply s (pos (suc given)) w from (size_of size)))
watch_so s given started w start resumes size from named at =
    let place : ℕ = batch_place w s.changes from (size_of size) in
    let id : ℤ = batch_id (pos (suc given)) w s.changes from place in
    let reply : Fields = watch_reply s (pos (suc given)) w from (size_of size) in
    let events : List Fields = events_between w s.changes from place in
    let t : Told = opened id (watch_space w.target) events (Some (token_of place)) (Some (now_of (length s.changes))) in
    let s' : State = behind s started (asks_watch w start) t [] in
    let same : s'.changes ≡ s.changes = effect-changes (grown s (made_these s started [])) (asks_watch w start) t ∙ grown_changes s started in
    so_told s started (watch w start resumes size) (answer_with [] reply) t
    (λ bytes e. told_reads (asks_watch w start) bytes reply e ∙ opened_tells w start id (watch_space w.target) events place (length s.changes) named)
    (λ bytes e given' stays lt. (
      λ from' begins.
          let one : from ≡ from' = (let both : Some from ≡ Some from' = sym (place_begins s s' given' w start resumes from stays same at) ∙ begins in cc) in
          subst (λ (n : ℕ). EndsByInvalidate s' w n id (Some (token_of place))) one (watch_ends s s' given' w from (size_of size) (pos (suc given)) stays same (place_fits s w start resumes from at) lt (nonzero given)),
      tt,
    ))

given_some : (given : ℕ) (id : ℤ) → is_given given id ≡ true → id ≢ pos 0
given_some given id is none = let bad : is_given given (pos 0) ≡ true = subst (λ (x : ℤ). is_given given x ≡ true) none is in absurd cc

more_so : (s : State) (given : ℕ) (started : Bool) (id : ℤ) (space : Space) (size : Option ℕ) (w : Watch) (from : ℕ) → IsStoreState s given started → IsNamed space → 0 < size_of size → s.cursors id ≡ Some (watching w from)
    → AnswersSo s started (more id space size) (answer_with [] (more_reply s id space w from (size_of size)))
more_so s given started id space size w from h named sized stood =
    let place : ℕ = batch_place w s.changes from (size_of size) in
    let left : ℤ = batch_id id w s.changes from place in
    let reply : Fields = more_reply s id space w from (size_of size) in
    let events : List Fields = events_between w s.changes from place in
    let t : Told = gave left space events (Some (token_of place)) in
    let s' : State = behind s started (asks_more id space) t [] in
    let same : s'.changes ≡ s.changes = effect-changes (grown s (made_these s started [])) (asks_more id space) t ∙ grown_changes s started in
    let cursor = h.cursors_are id (watching w from) stood in
    let le : from ≤ length s.changes = cursor.0 in
    so_told s started (more id space size) (answer_with [] reply) t
    (λ bytes e. told_reads (asks_more id space) bytes reply e ∙ gave_tells id space left space events place named)
    (λ bytes e given' stays lt. (
      (
        λ other from' there.
            let both : Some (watching w from) ≡ Some (watching other from') = sym stood ∙ there in
            let watches : w ≡ other = cc both in
            let begins : from ≡ from' = cc both in
            subst (λ (x : Watch). GivesSome s x from' events × EndsByInvalidate s' x from' left (Some (token_of place))) watches
            (subst (λ (n : ℕ). GivesSome s w n events × EndsByInvalidate s' w n left (Some (token_of place))) begins
            ((is_full_batch w s.changes from (size_of size) le).some sized, watch_ends s s' given' w from (size_of size) id stays same le lt (given_some given id cursor.1))),
        λ of rest there. absurd (watch_or_query w from of (events ++ rest) (sym stood ∙ there)),
      ),
      tt,
    ))

-- ---- queries

read_opened : (s : State) (cursors : ℤ → Option Cursor) (given : ℤ → Bool) (source : Source) → read (record s { cursors = cursors; given = given }) source ≡ read s source
read_opened s cursors given (of_collection space) = refl
read_opened s cursors given (of_database db) = refl
read_opened s cursors given (of_indexes space) = refl

-- an opened cursor leaves what is read
result_opened : (s : State) (b : Bool) (cursors : ℤ → Option Cursor) (given : ℤ → Bool) (q : Query) → result (if b then s else record s { cursors = cursors; given = given }) q ≡ result s q
unfolding result
result_opened s true cursors given q = refl
result_opened s false cursors given q = ap (option_and_then (through q.stages)) (read_opened s cursors given q.source)

abbrev found : State → ℕ → Query → List Fields → Told
found s given q ds = opened (query_id (pos (suc given)) q ds) (query_space q.source) (take (first_held q ds) ds) None None

result_behind : (s : State) (given : ℕ) (started : Bool) (q : Query) (ds : List Fields) → result s q ≡ Some ds → result (behind s started (asks_query q) (found s given q ds) []) q ≡ Some ds
unfolding effect
result_behind s given started q ds is =
    let s' : State = grown s (made_these s started []) in
    let id : ℤ = query_id (pos (suc given)) q ds in
    let c : Cursor = queried_at s' q (query_space q.source) (take (first_held q ds) ds) in
    result_opened s' (int_eq id (pos 0)) (put_cursor id (Some c) s'.cursors) (give id s'.given) q ∙ result_grown s (made_these s started []) q ds is

find_so : (s : State) (given : ℕ) (started : Bool) (q : Query) (ds : List Fields) → IsNamed (query_space q.source) → result s q ≡ Some ds → AnswersSo s started (find q) (answer_with [] (query_reply (pos (suc given)) q ds))
find_so s given started q ds named is =
    let id : ℤ = query_id (pos (suc given)) q ds in
    let n : ℕ = first_held q ds in
    let reply : Fields = query_reply (pos (suc given)) q ds in
    so_told s started (find q) (answer_with [] reply) (found s given q ds)
    (λ bytes e. told_reads (asks_query q) bytes reply e ∙ found_tells q id (query_space q.source) (take n ds) named)
    (λ bytes e given' stays lt. (
      λ left there.
          let both : Some (take n ds ++ left) ≡ Some ds = sym there ∙ result_behind s given started q ds is in
          let whole : take n ds ++ left ≡ ds = cc both in
          let rest : left ≡ drop n ds = behind_same (take n ds) left (drop n ds) (whole ∙ sym (take-append-drop n ds)) in
          record {
            some = λ sized none. rest ∙ query_holds (unwrap_or q.size default_batch) ds (first_sized q.size sized) none;
            ends = λ none. query_ends (pos (suc given)) q ds (sym rest ∙ none);
          },
      tt,
    ))

query_more_so : (s : State) (started : Bool) (id : ℤ) (space other : Space) (size : Option ℕ) (left : List Fields) → IsNamed space → 0 < size_of size → s.cursors id ≡ Some (query other left)
    → AnswersSo s started (more id space size) (answer_with [] (query_more_reply id space left (size_of size)))
query_more_so s started id space other size left named sized stood =
    let n : ℕ = batch_of_query (size_of size) left in
    let reply : Fields = query_more_reply id space left (size_of size) in
    so_told s started (more id space size) (answer_with [] reply) (gave (id_while id (drop n left)) space (take n left) None)
    (λ bytes e. told_reads (asks_more id space) bytes reply e ∙ more_found_tells id space (id_while id (drop n left)) space (take n left) named)
    (λ bytes e given stays lt. (
      (
        λ w from there. absurd (watch_or_query w from other left (sym there ∙ stood)),
        λ of rest there.
            let both : Some (query of (take n left ++ rest)) ≡ Some (query other left) = sym there ∙ stood in
            let whole : take n left ++ rest ≡ left = cc both in
            let is : rest ≡ drop n left = behind_same (take n left) rest (drop n left) (whole ∙ sym (take-append-drop n left)) in
            record { some = λ any none. is ∙ query_holds (size_of size) left sized none; ends = λ none. while_ends id (drop n left) (sym is ∙ none) },
      ),
      tt,
    ))

-- ---- other commands

kill_so : (s : State) (started : Bool) (ids : List ℤ) → AnswersSo s started (kill ids) (answer_with [] (killed_reply s ids))
kill_so s started ids = so_told s started (kill ids) (answer_with [] (killed_reply s ids)) killed (λ bytes e. told_reads (asks_kill ids) bytes (killed_reply s ids) e ∙ killed_tells s ids) (λ bytes e given stays lt. (tt, tt))

-- the reply of a command that only succeeds lists nothing
done_lists : (bytes : List ℕ) → fields bytes ≡ done_reply → (get (codes "writeConcernError") (fields bytes) ≡ None) × (failures_at (get (codes "writeErrors") (fields bytes)) ≡ Some [])
done_lists bytes e = (ap (get (codes "writeConcernError")) e, ap (λ (fs : Fields). failures_at (get (codes "writeErrors") fs)) e)

create_so : (s : State) (started : Bool) (space : Space) → AnswersSo s started (create_collection space) (answer_with [] done_reply)
create_so s started space = so_told s started (create_collection space) (answer_with [] done_reply) done (λ bytes e. told_reads (asks_create space) bytes done_reply e ∙ created_tells space) (λ bytes e given stays lt. (tt, done_lists bytes e))

indexes_so : (s : State) (started : Bool) (space : Space) (indexes : List Index) → AnswersSo s started (create_indexes space indexes) (answer_with [] done_reply)
indexes_so s started space indexes =
    so_told s started (create_indexes space indexes) (answer_with [] done_reply) done (λ bytes e. told_reads (asks_indexes space indexes) bytes done_reply e ∙ indexed_tells space indexes) (λ bytes e given stays lt. (tt, done_lists bytes e))

drop_so : (s : State) (started : Bool) (space : Space) → AnswersSo s started (drop_collection space) (answer_with (dropped_entries (length s.changes) space) done_reply)
drop_so s started space =
    so_told s started (drop_collection space) (answer_with (dropped_entries (length s.changes) space) done_reply) done (λ bytes e. told_reads (asks_drop space) bytes done_reply e ∙ dropped_tells space) (λ bytes e given stays lt. (tt, done_lists bytes e))

update_so : (s : State) (started : Bool) (space : Space) (conditions : List Condition) (m : Modification) (many : Bool) (n changed : ℕ) (entries : List Entry) → AnswersSo s started (update space conditions m many) (answer_with entries (updated_reply n changed))
update_so s started space conditions m many n changed entries =
    so_told s started (update space conditions m many) (answer_with entries (updated_reply n changed)) (updated (pos n) (pos changed) [])
    (λ bytes e. told_reads (asks_update space conditions m many) bytes (updated_reply n changed) e ∙ updated_tells space conditions m many n changed)
    (λ bytes e given stays lt. (refl, ap (get (codes "writeConcernError")) e))

delete_so : (s : State) (started : Bool) (space : Space) (conditions : List Condition) (many : Bool) (n : ℕ) (entries : List Entry) → AnswersSo s started (delete space conditions many) (answer_with entries (deleted_reply n))
delete_so s started space conditions many n entries =
    so_told s started (delete space conditions many) (answer_with entries (deleted_reply n)) (deleted (pos n) [])
    (λ bytes e. told_reads (asks_delete space conditions many) bytes (deleted_reply n) e ∙ deleted_tells space conditions many n)
    (λ bytes e given stays lt. (refl, ap (get (codes "writeConcernError")) e))

-- ---- any request

more_by : (s : State) (given : ℕ) (started : Bool) (id : ℤ) (space : Space) (size : Option ℕ) (o : Option Cursor) (a : Answer) → IsStoreState s given started → IsNamed space → 0 < size_of size → s.cursors id ≡ o → answer_more s id space (size_of size) o ≡ Ok a → AnswersSo s started (more id space size) a
more_by s given started id space size None a h named sized stood e = absurd cc
more_by s given started id space size (Some (query other left)) a h named sized stood e =
    let known = answered_if (is_space space other) (answer_with [] (query_more_reply id space left (size_of size))) a e in
    subst (AnswersSo s started (more id space size)) known.1 (query_more_so s started id space other size left named sized stood)
more_by s given started id space size (Some (watching w from)) a h named sized stood e =
    let known = answered_if (is_watch_of space w) (answer_with [] (more_reply s id space w from (size_of size))) a e in
    subst (AnswersSo s started (more id space size)) known.1 (more_so s given started id space size w from h named sized stood)

request_so : (s : State) (given : ℕ) (started : Bool) (r : Request) (a : Answer) → IsStoreState s given started → HasName r → answer s (pos (suc given)) r ≡ Ok a → AnswersSo s started r a
request_so s given started (insert space ds ordered) a h named e =
    let f : answer_insert s space ds ordered ≡ a = cc in
    subst (AnswersSo s started (insert space ds ordered)) f (insert_so s started space ds ordered)
request_so s given started (find q) a h named e =
    let rows = found_by s (pos (suc given)) q a e in
    subst (AnswersSo s started (find q)) rows.is (find_so s given started q rows.documents named rows.these)
request_so s given started (watch w start resumes size) a h named e =
    let from = map_some (λ (from : ℕ). answer_with [] (watch_reply s (pos (suc given)) w from (size_of size))) (place_at s w start resumes) a e in
    subst (AnswersSo s started (watch w start resumes size)) from.2 (watch_so s given started w start resumes size from.0 named from.1)
request_so s given started (more id space size) a h named e = more_by s given started id space size (s.cursors id) a h named.0 named.1 refl e
request_so s given started (kill ids) a h named e =
    let f : answer_with [] (killed_reply s ids) ≡ a = cc in
    subst (AnswersSo s started (kill ids)) f (kill_so s started ids)
request_so s given started (create_collection space) a h named e =
    let known = create_ok (collection_in s.collections space) a e in
    subst (AnswersSo s started (create_collection space)) known.1 (create_so s started space)
request_so s given started (create_indexes space indexes) a h named e =
    let known = answered_if (list_all (λ (i : Index). may_stay (index_listed i)) (with_indexes (indexes_of s space) indexes)) (answer_with [] done_reply) a e in
    subst (AnswersSo s started (create_indexes space indexes)) known.1 (indexes_so s started space indexes)
request_so s given started (update space conditions m many) a h named e =
    let changed : List Fields = changing conditions many m (documents_of s space) in
    let entries : List Entry = modified_entries (length s.changes) space m changed in
    let n : ℕ = length (chosen conditions many (documents_of s space)) in
    let known = answered_if (list_all may_stay (map (modified m) changed) && events_may_be_given entries) (answer_with entries (updated_reply n (length changed))) a e in
    subst (AnswersSo s started (update space conditions m many)) known.1 (update_so s started space conditions m many n (length changed) entries)
request_so s given started (delete space conditions many) a h named e =
    let gone : List Fields = chosen conditions many (documents_of s space) in
    let entries : List Entry = deleted_entries (length s.changes) space gone in
    let known = answered_if (events_may_be_given entries) (answer_with entries (deleted_reply (length gone))) a e in
    subst (AnswersSo s started (delete space conditions many)) known.1 (delete_so s started space conditions many (length gone) entries)
request_so s given started (drop_collection space) a h named e =
    let known = drop_ok (collection_in s.collections space) (answer_with (dropped_entries (length s.changes) space) done_reply) a e in
    subst (AnswersSo s started (drop_collection space)) known.2 (drop_so s started space)

-- ---- any command

refused_so : (command : List ℕ) (bytes : List ℕ) (code : ℤ) (labels : List (List ℕ)) → fields bytes ≡ refusal code labels → IsRefused (told (asked command) bytes)
refused_so command bytes code labels e = subst IsRefused (sym (told_reads (asked command) bytes (refusal code labels) e ∙ refusal_tells (asked command) code labels)) tt

rule_so : (s : State) (given : ℕ) (started : Bool) (command bytes : List ℕ) (o : Answer) → IsStoreState s given started → Rule s (pos (suc given)) (fields command) o → fields bytes ≡ o.reply
    → IsRefused (told (asked command) bytes) ⊎ BehindAtOnce s started (asked command) (told (asked command) bytes) bytes o.entries
rule_so s given started command bytes o h (refuses_by code is) e = inl (refused_so command bytes code [] (e ∙ ap (λ (x : Answer). x.reply) is))
rule_so s given started command bytes o h (answers_by r a asks answers is) e =
    let so : BehindAtOnce s started (asks_of r) (told (asks_of r) bytes) bytes a.entries = request_so s given started r a h (request_reads (fields command) r asks).named answers bytes (e ∙ ap (λ (x : Answer). x.reply) is) in
    let there = subst (λ (c : Asked). BehindAtOnce s started c (told c bytes) bytes a.entries) (sym (asked_is command r asks)) so in
    inr (subst (λ (x : Answer). BehindAtOnce s started (asked command) (told (asked command) bytes) bytes x.entries) (sym is) there)

-- What the rules answer holds nothing back, or refuses.
pub rules_at_once : (s : State) (given : ℕ) (started : Bool) (kept : Kept) → IsStoreState s given started → length s.changes + length (made_of s given started kept).entries < 2 ^ 64 → fields kept.reply ≡ (answer_of s (pos (suc given)) (fields kept.command)).reply
    → IsRefused (told_kept kept) ⊎ (AnswersAtOnce s (state_behind s given started kept) (asked kept.command) (told_kept kept) × MeetsConcern (asked kept.command) kept.reply)
unfolding made_of given_after
rules_at_once s given started kept h lt e =
    let stays = (rules_allowed s given started kept h lt e).stays in
    elim (rule_so s given started kept.command kept.reply (answer_of s (pos (suc given)) (fields kept.command)) h (rule_is s (pos (suc given)) (fields kept.command)) e) [
      | inl refused ↦ inl refused
      | inr so ↦ inr (so (given_after given kept) stays (omega (arith, lt)))
    ]

-- ---- all steps

follows_at_once : (s : State) (given : ℕ) (started : Bool) (kept : Kept) → IsStoreState s given started → length s.changes + length (made_of s given started kept).entries < 2 ^ 64 → Follows s given kept → (IsRefused (told_kept kept) → ⊥) → IsAtOnce s (step_of s given started kept)
follows_at_once s given started kept h lt (by_rules is) taken = elim (rules_at_once s given started kept h lt is.read_back) [ inl refused ↦ absurd (taken refused) | inr so ↦ so ]
follows_at_once s given started kept h lt (by_choice code labels is) taken = absurd (taken (refused_so kept.command kept.reply code labels is.read_back))

each_so : (s : State) (given : ℕ) (started : Bool) (kept : List Kept) → IsStoreState s given started → AreByRulesFrom s given started kept → length (state_after s (steps_from s given started kept)).changes < 2 ^ 64
    → (position : ℕ) (step : Step) → slice_get (steps_from s given started kept) position ≡ Some step → (IsRefused (told_at step) → ⊥) → IsAtOnce (state_after s (take position (steps_from s given started kept))) step
unfolding AreByRulesFrom steps_from state_after given_after
each_so s given started [] h by lt position step at taken = absurd cc
each_so s given started (k ∷ kept) h by lt zero step at taken =
    let same : step_of s given started k ≡ step = cc at in
    let fits = fits_before s (step_of s given started k) (steps_from (state_behind s given started k) (given_after given k) true kept) lt in
    subst (λ (x : Step). IsAtOnce s x) same (follows_at_once s given started k h fits by.0 (λ refused. taken (subst (λ (x : Step). IsRefused (told_at x)) same refused)))
each_so s given started (k ∷ kept) h by lt (suc position) step at taken =
    let fits = fits_before s (step_of s given started k) (steps_from (state_behind s given started k) (given_after given k) true kept) lt in
    let now = follows_allowed s given started k h fits by.0 in
    each_so (state_behind s given started k) (given_after given k) true kept now.stays by.1 lt position step at taken

-- A store holds nothing back from a caller none of whose steps it refused.
pub kept_prompt : (kept : List Kept) → IsByRules kept → length (state_of_kept kept).changes < 2 ^ 64 → HoldsBackNone (steps_of kept)
kept_prompt kept by lt = record { each = λ own taken position step has at. each_so nothing 0 false kept nothing_is by lt position step at (taken position step has at) }
