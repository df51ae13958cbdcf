-- What read replies tell.
use Rattle.std.proofs.Common.{◌≡◌, ℕ, ℤ, pos, negsuc, Bool, List, [], ◌∷◌, ◌++◌, Option, Some, None, Result, Ok, Err, refl, ap, ◌∙◌, option_map, true, sym}
use Rattle.std.specs.Prelude.{codes, option_and_then}
use Rattle.mg_bson.specs.Tree.{Tree, Fields, Items, no_items, item, array}
use Rattle.mg_bson.specs.Find.{as_array, as_document, as_int64, get}
use Rattle.mg_bson.specs.Raw.{fields}
use Rattle.mg_link.specs.Namespace.{Space, space_of}
use Rattle.mg_server.specs.Filter.{Condition}
use Rattle.mg_server.specs.Query.{Query}
use Rattle.mg_link.specs.Reply.{verdict_of}
use Rattle.mg_server.specs.State.{Index}
use Rattle.mg_server.specs.Write.{Modification}
use Rattle.mg_link.specs.Numbers.{as_integer}
use Rattle.mg_server.specs.Commands.{Batch, asks_create, asks_delete, asks_drop, asks_indexes, asks_insert, asks_more, asks_query, asks_update, batch_by, batch_items, batch_of, deleted, deleted_by, documents_in, done, failures_at, gave, inserted, inserted_by, opened, time_in, updated, updated_by, text_of, token_in, told, list_write_errors, is_concern_error, keeps_grammar, are_write_errors}
use Rattle.mg_link.specs.declared.error.Malformed.{Malformed}
use Rattle.mg_link.specs.declared.error.Malformed.TheVariants as malformed
use Rattle.mg_link.specs.declared.reply.Verdict.TheVariants as verdict
use Rattle.mg_ops.specs.Cursors.{Cursor, cursor_in, cursor_of, found, ◌>>=◌}
use Rattle.mg_ops.specs.Writes.{Failure, Inserted, Wrote, as_count, changed_of, concern_error_at, count_of, counts_of, failures_of, item_error, last_index, with_concern, write_errors_at, write_errors_in, failure_at}

then_ok : {A B : Type 0} (r : Result A Malformed) (f : A → Result B Malformed) (y : B) → (r >>= f) ≡ Ok y → (x : A) × (r ≡ Ok x) × (f x ≡ Ok y)
then_ok (Ok x) f y h = (x, refl, h)
then_ok (Err e) f y h = absurd cc

found_some : {A : Type 0} (m : Malformed) (o : Option A) (x : A) → found m o ≡ Ok x → o ≡ Some x
found_some m (Some y) x h = cc
found_some m None x h = absurd cc

abbrev batch_as : Cursor → List Fields → Batch
batch_as c events = record { id = c.id; space = c.space; events = events; token = c.token }

abbrev batch_from : Option Items → Option Tree → ℤ → Space → Option Batch
batch_from b t id space = option_map (λ es. record { id = id; space = space; events = es; token = t }) (option_and_then documents_in b)

batch_chain : (i : Option ℤ) (s : Option Space) (b : Option Items) (t : Option Tree) (x : ℤ) (y : Space) (z : Items) (events : List Fields) → i ≡ Some x → s ≡ Some y → b ≡ Some z → documents_in z ≡ Some events
    → option_and_then (λ (id : ℤ). option_and_then (batch_from b t id) s) i ≡ Some (record { id = x; space = y; events = events; token = t })
batch_chain i s b t x y z events ei es eb ed = rw (ei, es, eb, ed) refl

cursor_batch : (cursor : Fields) (c : Cursor) (events : List Fields) → cursor_in cursor ≡ Ok c → documents_in c.batch ≡ Some events → batch_by cursor ≡ Some (batch_as c events)
cursor_batch cursor c events h are =
    let i = then_ok (found malformed.BadId (option_and_then as_int64 (get (codes "id") cursor))) (λ id. found malformed.BadNs (option_and_then space_of (text_of (codes "ns") cursor)) >>= λ space. found malformed.NoBatch (batch_items cursor) >>= λ batch. Ok (record { id = id; space = space; token = token_in cursor; batch = batch })) c h in
    let s = then_ok (found malformed.BadNs (option_and_then space_of (text_of (codes "ns") cursor))) (λ space. found malformed.NoBatch (batch_items cursor) >>= λ batch. Ok (record { id = i.0; space = space; token = token_in cursor; batch = batch })) c i.2 in
    let b = then_ok (found malformed.NoBatch (batch_items cursor)) (λ batch. Ok (record { id = i.0; space = s.0; token = token_in cursor; batch = batch })) c s.2 in
    let made : record { id = i.0; space = s.0; token = token_in cursor; batch = b.0 } ≡ c = cc in
    let all : documents_in b.0 ≡ Some events = ap (λ (d : Cursor). documents_in d.batch) made ∙ are in
    batch_chain (option_and_then as_int64 (get (codes "id") cursor)) (option_and_then space_of (text_of (codes "ns") cursor)) (batch_items cursor) (token_in cursor) i.0 s.0 b.0 events
    (found_some malformed.BadId _ i.0 i.1) (found_some malformed.BadNs _ s.0 s.1) (found_some malformed.NoBatch _ b.0 b.1) all
    ∙ ap (λ (d : Cursor). Some (batch_as d events)) made

reply_batch : (reply : Fields) (c : Cursor) (events : List Fields) → cursor_of reply ≡ Ok c → documents_in c.batch ≡ Some events → batch_of reply ≡ Some (batch_as c events)
unfolding cursor_of batch_of
reply_batch reply c events h are =
    let a = then_ok (found malformed.NoCursor (option_and_then as_document (get (codes "cursor") reply))) cursor_in c h in
    ap (option_and_then batch_by) (found_some malformed.NoCursor _ a.0 a.1) ∙ cursor_batch a.0 c events a.2 are

batch_id : (i : Option ℤ) (s : Option Space) (b : Option Items) (t : Option Tree) (x : ℤ) (batch : Batch) → i ≡ Some x → option_and_then (λ (id : ℤ). option_and_then (batch_from b t id) s) i ≡ Some batch → batch.id ≡ x
batch_id None s b t x batch ei h = absurd cc
batch_id (Some y) None b t x batch ei h = absurd cc
batch_id (Some y) (Some space) None t x batch ei h = absurd cc
batch_id (Some y) (Some space) (Some ts) t x batch ei h = listed_id y space t (documents_in ts) batch h ∙ (let same : y ≡ x = cc in same)
  where
    listed_id : (y : ℤ) (space : Space) (t : Option Tree) (ds : Option (List Fields)) (batch : Batch) → option_map (λ (es : List Fields). record { id = y; space = space; events = es; token = t }) ds ≡ Some batch → batch.id ≡ y
    listed_id y space t None batch h = absurd cc
    listed_id y space t (Some es) batch h = let same : record { id = y; space = space; events = es; token = t } ≡ batch = cc in sym (ap (λ (b : Batch). b.id) same)

-- a cursor and a batch that are read of one reply have one id
pub same_id : (reply : Fields) (c : Cursor) (batch : Batch) → cursor_of reply ≡ Ok c → batch_of reply ≡ Some batch → c.id ≡ batch.id
unfolding cursor_of batch_of
same_id reply c batch h is =
    let a = then_ok (found malformed.NoCursor (option_and_then as_document (get (codes "cursor") reply))) cursor_in c h in
    let fs : Fields = a.0 in
    let i = then_ok (found malformed.BadId (option_and_then as_int64 (get (codes "id") fs))) (λ id. found malformed.BadNs (option_and_then space_of (text_of (codes "ns") fs)) >>= λ space. found malformed.NoBatch (batch_items fs) >>= λ batch. Ok (record { id = id; space = space; token = token_in fs; batch = batch })) c a.2 in
    let s = then_ok (found malformed.BadNs (option_and_then space_of (text_of (codes "ns") fs))) (λ space. found malformed.NoBatch (batch_items fs) >>= λ batch. Ok (record { id = i.0; space = space; token = token_in fs; batch = batch })) c i.2 in
    let b = then_ok (found malformed.NoBatch (batch_items fs)) (λ batch. Ok (record { id = i.0; space = s.0; token = token_in fs; batch = batch })) c s.2 in
    let made : record { id = i.0; space = s.0; token = token_in fs; batch = b.0 } ≡ c = cc in
    let read : batch_by fs ≡ Some batch = ap (option_and_then batch_by) (sym (found_some malformed.NoCursor _ a.0 a.1)) ∙ is in
    sym (ap (λ (d : Cursor). d.id) made)
    ∙ sym (batch_id (option_and_then as_int64 (get (codes "id") fs)) (option_and_then space_of (text_of (codes "ns") fs)) (batch_items fs) (token_in fs) i.0 batch (found_some malformed.BadId _ i.0 i.1) read)

pub tells_of_more : (id : ℤ) (space : Space) (reply : List ℕ) (c : Cursor) (events : List Fields) → verdict_of (fields reply) ≡ verdict.Success → cursor_of (fields reply) ≡ Ok c → documents_in c.batch ≡ Some events
    → told (asks_more id space) reply ≡ gave c.id c.space events c.token
unfolding told
tells_of_more id space reply c events success h are = rw (success, reply_batch (fields reply) c events h are) refl

-- ---- inserts

count_back : (o : Option ℤ) (n : ℕ) → option_and_then as_count o ≡ Some n → o ≡ Some (pos n)
count_back None n h = absurd cc
count_back (Some (pos m)) n h = cc
count_back (Some (negsuc m)) n h = absurd cc

reply_count : (reply : Fields) (n : ℕ) → count_of reply ≡ Ok n → option_and_then as_integer (get (codes "n") reply) ≡ Some (pos n)
unfolding count_of
reply_count reply n h = count_back _ n (found_some malformed.BadCount _ n h)

front_none : {A : Type 0} (xs ys : List A) → xs ++ ys ≡ [] → xs ≡ []
front_none [] ys h = refl
front_none (x ∷ xs) ys h = absurd cc

none_in : (ts : Items) → write_errors_in ts ≡ Ok [] → ts ≡ no_items
none_in no_items h = refl
none_in (item t ts) h =
    let first = then_ok (item_error t) (λ (failure : Failure). write_errors_in ts >>= λ failures. Ok (failure ∷ failures)) [] h in
    let rest = then_ok (write_errors_in ts) (λ failures. Ok (first.0 ∷ failures)) [] first.2 in
    let bad = rest.2 in
    absurd cc

none_at : (o : Option Tree) → write_errors_at o ≡ Ok [] → failures_at o ≡ Some []
none_at None h = refl
none_at (Some t) h =
    let list = then_ok (found malformed.BadItem (as_array t)) write_errors_in [] h in
    rw (found_some malformed.BadItem (as_array t) list.0 list.1, none_in list.0 list.2) refl

reply_failures : (count : ℕ) (reply : Fields) → failures_of count reply ≡ Ok [] → failures_at (get (codes "writeErrors") reply) ≡ Some []
unfolding failures_of
reply_failures count reply h =
    let errors = then_ok (write_errors_at (get (codes "writeErrors") reply)) (λ errors. with_concern errors count (get (codes "writeConcernError") reply)) [] h in
    let concern = then_ok (concern_error_at count (get (codes "writeConcernError") reply)) (λ failures. Ok (errors.0 ++ failures)) [] errors.2 in
    let joined : errors.0 ++ concern.0 ≡ [] = (let e = concern.2 in cc) in
    none_at (get (codes "writeErrors") reply) (errors.1 ∙ ap (λ (fs : List Failure). Ok fs) (front_none errors.0 concern.0 joined))

array_kept : (t : Tree) (ts : Items) → as_array t ≡ Some ts → ts ≡ no_items → list_write_errors (Some t) ≡ true
array_kept (array us) ts h none = let same : us ≡ no_items = let e : us ≡ ts = cc in e ∙ none in ap are_write_errors same
array_kept t ts h none = absurd cc

list_kept : (o : Option Tree) → write_errors_at o ≡ Ok [] → list_write_errors o ≡ true
list_kept None h = refl
list_kept (Some t) h =
    let list = then_ok (found malformed.BadItem (as_array t)) write_errors_in [] h in
    array_kept t list.0 (found_some malformed.BadItem (as_array t) list.0 list.1) (none_in list.0 list.2)

no_concern : (count : ℕ) (o : Option Tree) → concern_error_at count o ≡ Ok [] → is_concern_error o ≡ true
no_concern count None h = refl
no_concern count (Some t) h =
    let f = then_ok (found malformed.BadItem (as_document t) >>= failure_at count) (λ failure. Ok (failure ∷ [])) [] h in
    let bad = f.2 in
    absurd cc

back_none : {A : Type 0} (xs ys : List A) → xs ++ ys ≡ [] → ys ≡ []
back_none [] ys h = h
back_none (x ∷ xs) ys h = absurd cc

-- a reply that lists no failure keeps the grammar
reply_keeps : (count : ℕ) (reply : Fields) → failures_of count reply ≡ Ok [] → keeps_grammar reply ≡ true
unfolding failures_of
reply_keeps count reply h =
    let errors = then_ok (write_errors_at (get (codes "writeErrors") reply)) (λ errors. with_concern errors count (get (codes "writeConcernError") reply)) [] h in
    let concern = then_ok (concern_error_at count (get (codes "writeConcernError") reply)) (λ failures. Ok (errors.0 ++ failures)) [] errors.2 in
    let joined : errors.0 ++ concern.0 ≡ [] = (let e = concern.2 in cc) in
    let list = list_kept (get (codes "writeErrors") reply) (errors.1 ∙ ap (λ (fs : List Failure). Ok fs) (front_none errors.0 concern.0 joined)) in
    let met = no_concern count (get (codes "writeConcernError") reply) (concern.1 ∙ ap (λ (fs : List Failure). Ok fs) (back_none errors.0 concern.0 joined)) in
    rw (list, met) refl

pub tells_of_insert : (space : Space) (documents : List Fields) (ordered : Bool) (reply : List ℕ) (count n : ℕ) → verdict_of (fields reply) ≡ verdict.Success → Inserted count (fields reply) n
    → told (asks_insert space documents ordered) reply ≡ inserted (pos n) []
unfolding told inserted_by
tells_of_insert space documents ordered reply count n success i = rw (success, reply_keeps (last_index count) (fields reply) i.none_failed, reply_count (fields reply) n i.counted, reply_failures (last_index count) (fields reply) i.none_failed) refl

-- ---- other writes

pub tells_of_delete : (space : Space) (conditions : List Condition) (many : Bool) (reply : List ℕ) (n : ℕ) → verdict_of (fields reply) ≡ verdict.Success → Wrote (count_of (fields reply)) (fields reply) n
    → told (asks_delete space conditions many) reply ≡ deleted (pos n) []
unfolding told deleted_by
tells_of_delete space conditions many reply n success w = rw (success, reply_keeps 0 (fields reply) w.none_failed, reply_count (fields reply) n w.has, reply_failures 0 (fields reply) w.none_failed) refl

reply_changed : (reply : Fields) (n : ℕ) → changed_of reply ≡ Ok n → option_and_then as_integer (get (codes "nModified") reply) ≡ Some (pos n)
unfolding changed_of
reply_changed reply n h = count_back _ n (found_some malformed.BadCount _ n h)

both_counts : (reply : Fields) (n changed : ℕ) → counts_of reply ≡ Ok (n, changed) → (count_of reply ≡ Ok n) × (changed_of reply ≡ Ok changed)
both_counts reply n changed h =
    let first = then_ok (count_of reply) (λ (x : ℕ). changed_of reply >>= λ y. Ok (x, y)) (n, changed) h in
    let rest = then_ok (changed_of reply) (λ (y : ℕ). Ok (first.0, y)) (n, changed) first.2 in
    let same : (first.0, rest.0) ≡ (n, changed) = (let e = rest.2 in cc) in
    let found : first.0 ≡ n = ap (λ (p : ℕ × ℕ). p.0) same in
    let other : rest.0 ≡ changed = ap (λ (p : ℕ × ℕ). p.1) same in
    (first.1 ∙ ap (λ (x : ℕ). Ok x) found, rest.1 ∙ ap (λ (x : ℕ). Ok x) other)

pub tells_of_update : (space : Space) (conditions : List Condition) (m : Modification) (many : Bool) (reply : List ℕ) (n changed : ℕ) → verdict_of (fields reply) ≡ verdict.Success
    → Wrote (counts_of (fields reply)) (fields reply) (n, changed) → told (asks_update space conditions m many) reply ≡ updated (pos n) (pos changed) []
unfolding told updated_by
tells_of_update space conditions m many reply n changed success w =
    let counts = both_counts (fields reply) n changed w.has in
    rw (success, reply_keeps 0 (fields reply) w.none_failed, reply_count (fields reply) n counts.0, reply_changed (fields reply) changed counts.1, reply_failures 0 (fields reply) w.none_failed) refl

pub tells_of_create : (space : Space) (reply : List ℕ) → verdict_of (fields reply) ≡ verdict.Success → failures_of 0 (fields reply) ≡ Ok [] → told (asks_create space) reply ≡ done
unfolding told
tells_of_create space reply success none = rw (success, reply_keeps 0 (fields reply) none) refl

pub tells_of_drop : (space : Space) (reply : List ℕ) → verdict_of (fields reply) ≡ verdict.Success → failures_of 0 (fields reply) ≡ Ok [] → told (asks_drop space) reply ≡ done
unfolding told
tells_of_drop space reply success none = rw (success, reply_keeps 0 (fields reply) none) refl

pub tells_of_index : (space : Space) (indexes : List Index) (reply : List ℕ) → verdict_of (fields reply) ≡ verdict.Success → failures_of 0 (fields reply) ≡ Ok [] → told (asks_indexes space indexes) reply ≡ done
unfolding told
tells_of_index space indexes reply success none = rw (success, reply_keeps 0 (fields reply) none) refl

-- ---- queries

pub tells_of_query : (query : Query) (reply : List ℕ) (c : Cursor) (documents : List Fields) → verdict_of (fields reply) ≡ verdict.Success → cursor_of (fields reply) ≡ Ok c → documents_in c.batch ≡ Some documents
    → told (asks_query query) reply ≡ opened c.id c.space documents c.token (time_in (fields reply))
unfolding told
tells_of_query query reply c documents success h are = rw (success, reply_batch (fields reply) c documents h are) refl
