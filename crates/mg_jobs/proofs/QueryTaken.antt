-- The rules of the store refuse no query that has a result, and no getMore of a query's cursor that stands; how that cursor stands behind them.
use Rattle.std.proofs.Common.{◌≡◌, ◌≢◌, ℕ, suc, ℤ, pos, negsuc, Bool, List, [], ◌∷◌, length, take, drop, Option, Some, None, Result, Ok, Err, refl, sym, ap, ap₂, ◌∙◌, subst, arith}
use Rattle.std.specs.Prelude.{if◌then◌else◌, codes, option_and_then, option_map, unwrap_or}
use Rattle.std.specs.Ordering.{int_eq}
use Rattle.std.proofs.lemmas.Bool.Decides.{Decides-int_eq}
use Rattle.mg_bson.specs.Tree.{Tree, Fields}
use Rattle.mg_bson.specs.Raw.{fields}
use Rattle.mg_server.specs.Commands.{Asked, Batch, Told, asked, asks_more, asks_query, batch_of, documents_in, gave, opened, told}
use Rattle.mg_server.specs.History.{Step, step_after, told_at}
use Rattle.mg_link.specs.Namespace.{Space}
use Rattle.mg_server.specs.Query.{Query, result, read, through}
use Rattle.mg_server.specs.Rules.{Answer, Request, answer, answer_more, answer_of, answer_query, answer_with, bad_request, batch_of_query, default_batch, find, find_request, first_held, fitting, id_while, map_ok, more, named_space, no_such_collection, or_code, query_id, query_more_reply, query_reply, query_space, request_of, where_ok}
use Rattle.mg_server.specs.State.{Cursor, State, give, put_cursor, query}
use Rattle.mg_server.specs.Step.{Made, effect, grown, moved, queried_at}
use Rattle.mg_server.proofs.Collections.{is_space_self}
use Rattle.mg_server.proofs.Cursoring.{other_int}
use Rattle.mg_server.proofs.Later.{grown-cursors}
use Rattle.mg_server.proofs.Owners.{same_some}
use Rattle.mg_server.proofs.Requests.{asked_is, request_reads}
use Rattle.mg_server.proofs.Telling.{found_tells, more_found_tells, told_reads}
use Rattle.mg_ops.specs.Bodies.{find_body}
use Rattle.mg_ops.specs.Cursors.{Cursor as Told_cursor, cursor_of}
use Rattle.mg_ops.specs.Plain.{plain_find}
use Rattle.mg_ops.proofs.Reading.{batch_as, batch_read}
use Rattle.mg_options.specs.Fields.{fields_in}
use Rattle.mg_chunks.specs.Filters.{of_file}
use Rattle.mg_gridfs.specs.Commands.{by_id, in_order}
use Rattle.mg_gridfs.specs.Downloaded.{chunks_query, record_query}
use Rattle.mg_jobs.specs.Completing.{HasShortNames}
use Rattle.mg_jobs.proofs.QueryFits.{IsModestBatch, batch_modest, query_small}
use Rattle.mg_jobs.proofs.Replying.{collection_there, database_there, fits, named, undotted}
use Rattle.mg_jobs.proofs.Stored.{AreShort}
use Rattle.mg_jobs.proofs.WatchTaken.{TakesSpace}

-- ---- what is read

-- the store takes short names
pub takes_space : (space : Space) → HasShortNames space → TakesSpace space
takes_space space short =
    let db = database_there space.db short.named.db in
    let coll = collection_there space.coll short.named.coll in
    record { db = named space.db db.0 short.db_fits; plain = undotted space.db db.1; coll = named space.coll coll short.coll_fits }

pub record_reads : (space : Space) (id : Tree) → TakesSpace space → request_of (fields_in (find_body space (by_id id) (record plain_find { limit = Some (negsuc 0) }) None)) ≡ Ok (find (record_query space id))
unfolding find_request named_space
record_reads space id t = rw (t.db, t.plain, t.coll) refl

pub chunks_read : (space : Space) (id : Tree) → TakesSpace space → request_of (fields_in (find_body space (of_file id) (record plain_find { sort = Some in_order }) None)) ≡ Ok (find (chunks_query space id))
unfolding find_request named_space
chunks_read space id t = rw (t.db, t.plain, t.coll) refl

-- ---- what a reply tells

-- the cursor that is read in a reply is that of its batch
pub record IsOfBatch (c : Told_cursor) (batch : Batch) : Type 0 where
  pub id_is : c.id ≡ batch.id
  pub space_is : c.space ≡ batch.space

pub of_batch : (reply : Fields) (c : Told_cursor) (batch : Batch) → cursor_of reply ≡ Ok c → batch_of reply ≡ Some batch → IsOfBatch c batch
of_batch reply c batch says there = by_documents (documents_in c.batch) (sym (batch_read reply c says) ∙ there)
  where
    by_documents : (o : Option (List Fields)) → option_map (batch_as c) o ≡ Some batch → IsOfBatch c batch
    by_documents None h = absurd cc
    by_documents (Some ds) h =
        let same : batch_as c ds ≡ batch = same_some (batch_as c ds) batch h in
        record { id_is = ap (λ (b : Batch). b.id) same; space_is = ap (λ (b : Batch). b.space) same }

-- ---- a query

answer_by : (id : ℤ) (q : Query) (ds : List Fields) (o : Option (List Fields)) → option_and_then (through q.stages) o ≡ Some ds
    → where_ok (λ ds. map_ok (λ found. answer_with [] (query_reply id q found)) (or_code bad_request (through q.stages ds))) (or_code no_such_collection o) ≡ Ok (answer_with [] (query_reply id q ds))
answer_by id q ds None h = absurd cc
answer_by id q ds (Some xs) h = ap (λ (r : Option (List Fields)). map_ok (λ found. answer_with [] (query_reply id q found)) (or_code bad_request r)) h

query_answered : (s : State) (id : ℤ) (q : Query) (ds : List Fields) → result s q ≡ Some ds → answer_query s id q ≡ Ok (answer_with [] (query_reply id q ds))
unfolding result
query_answered s id q ds h = answer_by id q ds (read s q.source) h

module _ (s : State) (given : ℕ) (q : Query) (ds : List Fields) (found : result s q ≡ Some ds) (plain : q.size ≡ None) (short : HasShortNames (query_space q.source)) (stored : AreShort ds) where
  -- its first batch, and the cursor that it opens
  abbrev pub first_batch : List Fields
  first_batch = take (first_held q ds) ds

  abbrev pub first_id : ℤ
  first_id = query_id (pos (suc given)) q ds

  first_modest : IsModestBatch 101 first_batch
  first_modest = subst (λ (o : Option ℕ). IsModestBatch 101 (take (batch_of_query (unwrap_or o default_batch) ds) ds)) (sym plain) (batch_modest 101 ds stored)

  find_answered : (fs : Fields) → request_of fs ≡ Ok (find q) → answer_of s (pos (suc given)) fs ≡ answer_with [] (query_reply (pos (suc given)) q ds)
  unfolding answer_of
  find_answered fs reads =
      let small = query_small first_id (query_space q.source) (codes "firstBatch") first_batch (omega arith) short.db_fits short.coll_fits first_modest in
      ap (λ (r : Result Request ℤ). fitting (where_ok (answer s (pos (suc given))) r)) reads
      ∙ ap fitting (query_answered s (pos (suc given)) q ds found)
      ∙ fits (answer_with [] (query_reply (pos (suc given)) q ds)) small

  -- what the rules' reply tells
  pub find_told : (command reply : List ℕ) → request_of (fields command) ≡ Ok (find q) → fields reply ≡ (answer_of s (pos (suc given)) (fields command)).reply → told (asked command) reply ≡ opened first_id (query_space q.source) first_batch None None
  find_told command reply reads read =
      ap (λ (a : Asked). told a reply) (asked_is command (find q) reads)
      ∙ told_reads (asks_query q) reply (query_reply (pos (suc given)) q ds) (read ∙ ap (λ (a : Answer). a.reply) (find_answered (fields command) reads))
      ∙ found_tells q first_id (query_space q.source) first_batch (request_reads (fields command) (find q) reads).named

  result_grown : (made : Made) → result (grown s made) q ≡ Some ds
  unfolding result grown
  result_grown made = found

  put_here : (x : ℤ) (o : Option Cursor) (cursors : ℤ → Option Cursor) → put_cursor x o cursors x ≡ o
  put_here x o cursors = ap (λ (b : Bool). if b then o else cursors x) ((Decides-int_eq x x).1 refl)

  -- the cursor stands behind it, with what is left
  pub find_stands : (step : Step) → asked step.command ≡ asks_query q → told_at step ≡ opened first_id (query_space q.source) first_batch None None → first_id ≢ pos 0
      → (step_after s step).cursors first_id ≡ Some (query (query_space q.source) (drop (length first_batch) ds))
  unfolding effect
  find_stands step asks says held =
      let g : State = grown s step.made in
      let at : Space = query_space q.source in
      let c : Cursor = queried_at g q at first_batch in
      ap₂ (λ (a : Asked) (t : Told). (effect g a t).cursors first_id) asks says
      ∙ ap (λ (b : Bool). (if b then g else record g { cursors = put_cursor first_id (Some c) g.cursors; given = give first_id g.given }).cursors first_id) (other_int first_id (pos 0) held)
      ∙ put_here first_id (Some c) g.cursors
      ∙ ap (λ (o : Option (List Fields)). Some (query at (drop (length first_batch) (unwrap_or o [])))) (result_grown step.made)

-- ---- a getMore

-- the id of a reply that goes on is that of the cursor
pub id_goes_on : (id : ℤ) (ds : List Fields) → id_while id ds ≢ pos 0 → id_while id ds ≡ id
id_goes_on id [] ne = absurd (ne refl)
id_goes_on id (d ∷ ds) ne = refl

module _ (s : State) (given : ℕ) (x : ℤ) (space : Space) (left : List Fields) (stood : s.cursors x ≡ Some (query space left)) (short : HasShortNames space) (stored : AreShort left) where
  -- its batch, and what is left behind it
  abbrev pub next_batch : List Fields
  next_batch = take (batch_of_query 101 left) left

  abbrev pub next_id : ℤ
  next_id = id_while x (drop (batch_of_query 101 left) left)

  more_answered : (fs : Fields) → request_of fs ≡ Ok (more x space None) → answer_of s (pos (suc given)) fs ≡ answer_with [] (query_more_reply x space left 101)
  unfolding answer_of
  more_answered fs reads =
      let a : Answer = answer_with [] (query_more_reply x space left 101) in
      let small = query_small next_id space (codes "nextBatch") next_batch (omega arith) short.db_fits short.coll_fits (batch_modest 101 left stored) in
      ap (λ (r : Result Request ℤ). fitting (where_ok (answer s (pos (suc given))) r)) reads
      ∙ ap (λ (o : Option Cursor). fitting (answer_more s x space 101 o)) stood
      ∙ ap (λ (b : Bool). fitting (if b then Ok a else Err bad_request)) (is_space_self space)
      ∙ fits a small

  -- what the rules' reply tells
  pub more_told : (command reply : List ℕ) → request_of (fields command) ≡ Ok (more x space None) → fields reply ≡ (answer_of s (pos (suc given)) (fields command)).reply → told (asked command) reply ≡ gave next_id space next_batch None
  more_told command reply reads read =
      ap (λ (a : Asked). told a reply) (asked_is command (more x space None) reads)
      ∙ told_reads (asks_more x space) reply (query_more_reply x space left 101) (read ∙ ap (λ (a : Answer). a.reply) (more_answered (fields command) reads))
      ∙ more_found_tells x space next_id space next_batch (request_reads (fields command) (more x space None) reads).named.0

  put_there : (o : Option Cursor) (cursors : ℤ → Option Cursor) → put_cursor x o cursors x ≡ o
  put_there o cursors = ap (λ (b : Bool). if b then o else cursors x) ((Decides-int_eq x x).1 refl)

  -- the cursor goes on standing, where its reply tells it
  pub more_stands : (step : Step) → asked step.command ≡ asks_more x space → told_at step ≡ gave next_id space next_batch None → next_id ≢ pos 0 → (step_after s step).cursors x ≡ Some (query space (drop (length next_batch) left))
  unfolding effect
  more_stands step asks says held =
      let g : State = grown s step.made in
      let still : g.cursors x ≡ Some (query space left) = ap (λ (f : ℤ → Option Cursor). f x) (grown-cursors s step.made) ∙ stood in
      ap₂ (λ (a : Asked) (t : Told). (effect g a t).cursors x) asks says
      ∙ put_there (if int_eq next_id (pos 0) then None else moved g next_batch None (g.cursors x)) g.cursors
      ∙ ap (λ (b : Bool). if b then None else moved g next_batch None (g.cursors x)) (other_int next_id (pos 0) held)
      ∙ ap (moved g next_batch None) still
