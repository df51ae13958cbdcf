-- What the replies of the rules tell.
use Rattle.std.proofs.Common.{◌≡◌, ℕ, ℤ, pos, suc, ◌+◌, Bool, true, false, List, [], ◌∷◌, ◌++◌, length, take, drop, Option, Some, None, refl, sym, ap, ap₂, ◌∙◌, arith, option_map, length-append, append_assoc}
use Rattle.std.specs.Prelude.{if◌then◌else◌, cond, not, ◌&&◌, nat_lt, nat_le, option_and_then, unwrap_or, codes}
use Rattle.std.specs.List.{position_or_len}
use Rattle.std.proofs.lemmas.Bool.{or_parts, lt-ltb}
use Rattle.std.proofs.lemmas.List.{take_at, drop_at}
use Rattle.mg_bson.specs.Tree.{document, array, int32, int64, Fields, Items, no_items, item}
use Rattle.mg_bson.specs.Raw.{fields}
use Rattle.mg_bson.specs.Literal.{◌⇒◌⨾◌, empty}
use Rattle.mg_link.specs.declared.reply.Verdict.{Verdict}
use Rattle.mg_link.specs.declared.reply.Verdict.TheVariants as verdict
use Rattle.mg_link.specs.Namespace.{Space, is_dot, space_of, full_name, has_dot}
use Rattle.mg_server.specs.Filter.{Condition}
use Rattle.mg_server.specs.Write.{Modification}
use Rattle.mg_server.specs.State.{Index, Watch, Start, State}
use Rattle.mg_link.specs.Reply.{verdict_of, code_of, labels_of, texts_of}
use Rattle.mg_link.specs.Numbers.{as_integer}
use Rattle.mg_server.specs.Commands.{Asked, asks_insert, asks_watch, asks_more, asks_kill, Failure, Told, refuses, inserted, opened, gave, killed, garbled, documents_in, failures_by, failures_at, inserted_by, Batch, batch_by, batch_of, opened_by, gave_by, success_by, told, told_by, asks_create, asks_indexes, done, asks_update, asks_delete, updated, deleted, updated_by, deleted_by, are_write_errors, within_grammar, asks_query, asks_drop}
use Rattle.mg_server.specs.Rules.{Inserted, number_of, errors_field, inserted_reply, documents_of_items, cursor_fields, first_batch, next_batch, token_of, stamp_of, now_of, killed_reply, done_reply, updated_reply, words_of, refusal, query_cursor, deleted_reply}
use Rattle.mg_server.specs.Query.{Query}
use Rattle.mg_server.proofs.Requests.{IsNamed}

-- a reply is told by what it is read as
pub told_reads : (command : Asked) (reply : List ℕ) (read : Fields) → fields reply ≡ read → told command reply ≡ told_by (verdict_of read) command read
unfolding told
told_reads command reply read e = ap (λ (fs : Fields). told_by (verdict_of fs) command fs) e

-- ---- refusals

words_again : (labels : List (List ℕ)) → texts_of (words_of labels) ≡ labels
words_again [] = refl
words_again (w ∷ ws) = ap (λ (l : List (List ℕ)). w ∷ l) (words_again ws)

pub refusal_tells : (command : Asked) (code : ℤ) (labels : List (List ℕ)) → told_by (verdict_of (refusal code labels)) command (refusal code labels) ≡ refuses code labels
unfolding verdict_of code_of labels_of
refusal_tells command code labels = ap (refuses code) (words_again labels)

-- ---- inserts

number_again : (n : ℕ) → as_integer (number_of n) ≡ Some (pos n)
number_again n = elim (nat_le n 2147483647) as (λ b. as_integer (if b then int32 (pos n) else int64 (pos n)) ≡ Some (pos n)) [ true ↦ refl | false ↦ refl ]

insert_counts : (n : ℕ) (o : Option (List Failure)) (failures : List Failure) → o ≡ Some failures → option_and_then (λ (z : ℤ). option_map (inserted z) o) (as_integer (number_of n)) ≡ Some (inserted (pos n) failures)
insert_counts n o failures e = ap₂ (λ (z : Option ℤ) (fs : Option (List Failure)). option_and_then (λ (z : ℤ). option_map (inserted z) fs) z) (number_again n) e

abbrev insert_fields : ℕ → Items → Fields
insert_fields n errors = "n" ⇒ number_of n ⨾ errors_field errors ("ok" ⇒ int32 (pos 1) ⨾ empty)

insert_read : (n : ℕ) (errors : Items) (failures : List Failure) → option_and_then failures_by (documents_in errors) ≡ Some failures → are_write_errors errors ≡ true → within_grammar (insert_fields n errors) (inserted_by (insert_fields n errors)) ≡ Some (inserted (pos n) failures)
unfolding inserted_by
insert_read n no_items failures e keep = insert_counts n (failures_at None) failures e
insert_read n (item t ts) failures e keep = ap (λ (b : Bool). if b && true then inserted_by (insert_fields n (item t ts)) else None) keep ∙ insert_counts n (failures_at (Some (array (item t ts)))) failures e

insert_succeeds : (n : ℕ) (errors : Items) → verdict_of (insert_fields n errors) ≡ verdict.Success
unfolding verdict_of
insert_succeeds n no_items = refl
insert_succeeds n (item t ts) = refl

told_well : (v : Verdict) (command : Asked) (reply : Fields) (t : Told) → v ≡ verdict.Success → success_by command reply ≡ Some t → told_by v command reply ≡ t
told_well v command reply t e f = ap (λ (x : Verdict). told_by x command reply) e ∙ ap (λ (o : Option Told). unwrap_or o garbled) f

pub insert_tells : (space : Space) (ds : List Fields) (ordered : Bool) (i : Inserted) (failures : List Failure) → option_and_then failures_by (documents_in i.errors) ≡ Some failures → are_write_errors i.errors ≡ true
    → told_by (verdict_of (inserted_reply i)) (asks_insert space ds ordered) (inserted_reply i) ≡ inserted (pos (length i.documents)) failures
insert_tells space ds ordered i failures e keep =
    told_well (verdict_of (inserted_reply i)) (asks_insert space ds ordered) (inserted_reply i) (inserted (pos (length i.documents)) failures) (insert_succeeds (length i.documents) i.errors) (insert_read (length i.documents) i.errors failures e keep)

-- ---- batches

documents_again : (events : List Fields) → documents_in (documents_of_items events) ≡ Some events
documents_again [] = refl
documents_again (d ∷ ds) = ap (option_map (λ (l : List Fields). d ∷ l)) (documents_again ds)

dot_behind : (xs ys : List ℕ) → has_dot xs ≡ false → position_or_len is_dot (xs ++ 46 ∷ ys) ≡ length xs
dot_behind [] ys h = refl
dot_behind (x ∷ xs) ys h =
    let parts = or_parts (is_dot x) (has_dot xs) h in
    ap (λ (b : Bool). cond (not b) (1 + position_or_len is_dot (xs ++ 46 ∷ ys)) 0) parts.0 ∙ ap (λ (n : ℕ). 1 + n) (dot_behind xs ys parts.1) ∙ (let e : 1 + length xs ≡ suc (length xs) = omega arith in e)

abbrev space_cut : ℕ → List ℕ → Option Space
space_cut n s = if nat_lt n (length s) && nat_lt 0 (length (take n s)) && nat_lt 0 (length (drop (n + 1) s)) then Some (record { db = take n s; coll = drop (n + 1) s }) else None

space_parts : (xs ys : List ℕ) (n : ℕ) → n ≡ length xs → nat_lt 0 (length xs) ≡ true → nat_lt 0 (length ys) ≡ true → space_cut n (xs ++ 46 ∷ ys) ≡ Some (record { db = xs; coll = ys })
space_parts xs ys n e here there =
    let within : nat_lt n (length (xs ++ 46 ∷ ys)) ≡ true = lt-ltb n (length (xs ++ 46 ∷ ys)) (omega (arith, length-append xs (46 ∷ ys))) in
    let front : take n (xs ++ 46 ∷ ys) ≡ xs = take_at xs (46 ∷ ys) n (sym e) in
    let back : drop (n + 1) (xs ++ 46 ∷ ys) ≡ ys = ap (drop (n + 1)) (sym (append_assoc xs (46 ∷ []) ys)) ∙ drop_at (xs ++ 46 ∷ []) ys (n + 1) (length-append xs (46 ∷ []) ∙ ap (λ (k : ℕ). k + 1) (sym e)) in
    rw (within, front, back, here, there) refl

pub space_again : (space : Space) → IsNamed space → space_of (full_name space) ≡ Some space
space_again space h = space_parts space.db space.coll (position_or_len is_dot (full_name space)) (dot_behind space.db space.coll h.no_dot) h.db_there h.coll_there

abbrev batch_with : ℤ → ℕ → Option Space → Option (List Fields) → Option Batch
batch_with id place space events = option_and_then (λ (s : Space). option_map (λ (ds : List Fields). record { id = id; space = s; events = ds; token = Some (token_of place) }) events) space

batch_again : (id : ℤ) (space : Space) (events : List Fields) (place : ℕ) → IsNamed space → batch_with id place (space_of (full_name space)) (documents_in (documents_of_items events)) ≡ Some (record { id = id; space = space; events = events; token = Some (token_of place) })
batch_again id space events place h = ap₂ (batch_with id place) (space_again space h) (documents_again events)

first_again : (id : ℤ) (space : Space) (events : List Fields) (place : ℕ) → IsNamed space → batch_by (cursor_fields id space (first_batch events place)) ≡ Some (record { id = id; space = space; events = events; token = Some (token_of place) })
first_again id space events place h = batch_again id space events place h

next_again : (id : ℤ) (space : Space) (events : List Fields) (place : ℕ) → IsNamed space → batch_by (cursor_fields id space (next_batch events place)) ≡ Some (record { id = id; space = space; events = events; token = Some (token_of place) })
next_again id space events place h = batch_again id space events place h

abbrev pub opened_reply : ℤ → Space → List Fields → ℕ → ℕ → Fields
opened_reply id space events place entries = "cursor" ⇒ document (cursor_fields id space (first_batch events place)) ⨾ "operationTime" ⇒ stamp_of entries ⨾ "ok" ⇒ int32 (pos 1) ⨾ empty

abbrev pub gave_reply : ℤ → Space → List Fields → ℕ → Fields
gave_reply id space events place = "cursor" ⇒ document (cursor_fields id space (next_batch events place)) ⨾ "ok" ⇒ int32 (pos 1) ⨾ empty

opened_read : (w : Watch) (start : Start) (id : ℤ) (space : Space) (events : List Fields) (place entries : ℕ) → IsNamed space → success_by (asks_watch w start) (opened_reply id space events place entries) ≡ Some (opened id space events (Some (token_of place)) (Some (now_of entries)))
unfolding batch_of
opened_read w start id space events place entries h = ap (option_map (opened_by (Some (now_of entries)))) (first_again id space events place h)

gave_read : (asked : ℤ) (at : Space) (id : ℤ) (space : Space) (events : List Fields) (place : ℕ) → IsNamed space → success_by (asks_more asked at) (gave_reply id space events place) ≡ Some (gave id space events (Some (token_of place)))
unfolding batch_of
gave_read asked at id space events place h = ap (option_map gave_by) (next_again id space events place h)

pub opened_tells : (w : Watch) (start : Start) (id : ℤ) (space : Space) (events : List Fields) (place entries : ℕ) → IsNamed space
    → told_by (verdict_of (opened_reply id space events place entries)) (asks_watch w start) (opened_reply id space events place entries) ≡ opened id space events (Some (token_of place)) (Some (now_of entries))
unfolding verdict_of
opened_tells w start id space events place entries h = told_well verdict.Success (asks_watch w start) (opened_reply id space events place entries) (opened id space events (Some (token_of place)) (Some (now_of entries))) refl (opened_read w start id space events place entries h)

pub gave_tells : (asked : ℤ) (at : Space) (id : ℤ) (space : Space) (events : List Fields) (place : ℕ) → IsNamed space
    → told_by (verdict_of (gave_reply id space events place)) (asks_more asked at) (gave_reply id space events place) ≡ gave id space events (Some (token_of place))
unfolding verdict_of
gave_tells asked at id space events place h = told_well verdict.Success (asks_more asked at) (gave_reply id space events place) (gave id space events (Some (token_of place))) refl (gave_read asked at id space events place h)

-- ---- batches of queries

abbrev plain_with : ℤ → Option Space → Option (List Fields) → Option Batch
plain_with id space ds = option_and_then (λ (s : Space). option_map (λ (l : List Fields). record { id = id; space = s; events = l; token = None }) ds) space

plain_again : (id : ℤ) (space : Space) (ds : List Fields) → IsNamed space → plain_with id (space_of (full_name space)) (documents_in (documents_of_items ds)) ≡ Some (record { id = id; space = space; events = ds; token = None })
plain_again id space ds h = ap₂ (plain_with id) (space_again space h) (documents_again ds)

found_read : (q : Query) (id : ℤ) (space : Space) (ds : List Fields) → IsNamed space → success_by (asks_query q) (query_cursor id space (codes "firstBatch") ds) ≡ Some (opened id space ds None None)
unfolding batch_of
found_read q id space ds h = ap (option_map (opened_by None)) (plain_again id space ds h)

pub found_tells : (q : Query) (id : ℤ) (space : Space) (ds : List Fields) → IsNamed space → told_by (verdict_of (query_cursor id space (codes "firstBatch") ds)) (asks_query q) (query_cursor id space (codes "firstBatch") ds) ≡ opened id space ds None None
unfolding verdict_of
found_tells q id space ds h = told_well verdict.Success (asks_query q) (query_cursor id space (codes "firstBatch") ds) (opened id space ds None None) refl (found_read q id space ds h)

more_found_read : (asked : ℤ) (at : Space) (id : ℤ) (space : Space) (ds : List Fields) → IsNamed space → success_by (asks_more asked at) (query_cursor id space (codes "nextBatch") ds) ≡ Some (gave id space ds None)
unfolding batch_of
more_found_read asked at id space ds h = ap (option_map gave_by) (plain_again id space ds h)

pub more_found_tells : (asked : ℤ) (at : Space) (id : ℤ) (space : Space) (ds : List Fields) → IsNamed space → told_by (verdict_of (query_cursor id space (codes "nextBatch") ds)) (asks_more asked at) (query_cursor id space (codes "nextBatch") ds) ≡ gave id space ds None
unfolding verdict_of
more_found_tells asked at id space ds h = told_well verdict.Success (asks_more asked at) (query_cursor id space (codes "nextBatch") ds) (gave id space ds None) refl (more_found_read asked at id space ds h)

-- ---- kills

pub killed_tells : (s : State) (ids : List ℤ) → told_by (verdict_of (killed_reply s ids)) (asks_kill ids) (killed_reply s ids) ≡ killed
unfolding verdict_of
killed_tells s ids = refl

-- ---- collections and indexes

pub created_tells : (space : Space) → told_by (verdict_of done_reply) (asks_create space) done_reply ≡ done
unfolding verdict_of
created_tells space = refl

pub indexed_tells : (space : Space) (indexes : List Index) → told_by (verdict_of done_reply) (asks_indexes space indexes) done_reply ≡ done
unfolding verdict_of
indexed_tells space indexes = refl

pub dropped_tells : (space : Space) → told_by (verdict_of done_reply) (asks_drop space) done_reply ≡ done
unfolding verdict_of
dropped_tells space = refl

-- ---- updates and deletes

delete_read : (space : Space) (conditions : List Condition) (many : Bool) (n : ℕ) → success_by (asks_delete space conditions many) (deleted_reply n) ≡ Some (deleted (pos n) [])
unfolding deleted_by
delete_read space conditions many n = ap (λ (z : Option ℤ). option_and_then (λ (z : ℤ). Some (deleted z [])) z) (number_again n)

pub deleted_tells : (space : Space) (conditions : List Condition) (many : Bool) (n : ℕ) → told_by (verdict_of (deleted_reply n)) (asks_delete space conditions many) (deleted_reply n) ≡ deleted (pos n) []
unfolding verdict_of
deleted_tells space conditions many n = told_well verdict.Success (asks_delete space conditions many) (deleted_reply n) (deleted (pos n) []) refl (delete_read space conditions many n)

update_read : (space : Space) (conditions : List Condition) (m : Modification) (many : Bool) (n changed : ℕ) → success_by (asks_update space conditions m many) (updated_reply n changed) ≡ Some (updated (pos n) (pos changed) [])
unfolding updated_by
update_read space conditions m many n changed =
    ap₂ (λ (y z : Option ℤ). option_and_then (λ (y : ℤ). option_and_then (λ (z : ℤ). Some (updated y z [])) z) y) (number_again n) (number_again changed)

pub updated_tells : (space : Space) (conditions : List Condition) (m : Modification) (many : Bool) (n changed : ℕ) → told_by (verdict_of (updated_reply n changed)) (asks_update space conditions m many) (updated_reply n changed) ≡ updated (pos n) (pos changed) []
unfolding verdict_of
updated_tells space conditions m many n changed =
    told_well verdict.Success (asks_update space conditions m many) (updated_reply n changed) (updated (pos n) (pos changed) []) refl (update_read space conditions m many n changed)
