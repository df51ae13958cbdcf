-- A second script, as a history: three documents are inserted, a watch of `app.c` opens, a find gives them in two batches, one is updated and one deleted, the collection is dropped, and the watch ends.
use Rattle.std.specs.Prelude.{◌≡◌, ℕ, pos, Some, None, List, [], ◌∷◌, take}
use Rattle.mg_bson.specs.Tree.{Tree, document, array, object_id, int32, int64, timestamp, Fields, no_items}
use Rattle.mg_bson.specs.Raw.{fields}
use Rattle.mg_bson.specs.Literal.{◌⇒◌⨾◌, empty, word, ◌⨟◌}
use Rattle.mg_server.specs.State.{Change, inserts, drops, invalidates, Entry, query, watching, documents_at, events_between}
use Rattle.mg_server.specs.Step.{Made}
use Rattle.mg_server.specs.History.{Step, IsLegal, state_of}
use Rattle.mg_server.specs.Prompt.{IsPrompt}
use Rattle.mg_server.specs.Example.{app_c, watch, id_0, id_1, x_1, x_2}

abbrev pub id_2 : Tree
id_2 = object_id (0 ∷ 0 ∷ 0 ∷ 0 ∷ 0 ∷ 0 ∷ 0 ∷ 0 ∷ 0 ∷ 0 ∷ 0 ∷ 2 ∷ [])

abbrev pub x_3 : Fields
x_3 = "_id" ⇒ id_2 ⨾ "x" ⇒ int32 (pos 3) ⨾ empty

-- the first document behind the update
abbrev pub x_7 : Fields
x_7 = "_id" ⇒ id_0 ⨾ "x" ⇒ int32 (pos 7) ⨾ empty

-- ---- the commands

abbrev pub inserts_three : Fields
inserts_three = "insert" ⇒ word "c" ⨾ "documents" ⇒ array (document x_1 ⨟ document x_2 ⨟ document x_3 ⨟ no_items) ⨾ "$db" ⇒ word "app" ⨾ empty

abbrev pub opens_watch : Fields
opens_watch = "aggregate" ⇒ word "c" ⨾ "pipeline" ⇒ array (document ("$changeStream" ⇒ document empty ⨾ empty) ⨟ no_items) ⨾ "cursor" ⇒ document empty ⨾ "$db" ⇒ word "app" ⨾ empty

abbrev pub finds_all : Fields
finds_all = "find" ⇒ word "c" ⨾ "filter" ⇒ document empty ⨾ "batchSize" ⇒ int32 (pos 2) ⨾ "$db" ⇒ word "app" ⨾ empty

abbrev pub updates_first : Fields
updates_first = "update" ⇒ word "c" ⨾ "updates" ⇒ array (document ("q" ⇒ document ("_id" ⇒ id_0 ⨾ empty) ⨾ "u" ⇒ document ("$set" ⇒ document ("x" ⇒ int32 (pos 7) ⨾ empty) ⨾ empty) ⨾ empty) ⨟ no_items) ⨾ "$db" ⇒ word "app" ⨾ empty

abbrev pub finds_more : Fields
finds_more = "getMore" ⇒ int64 (pos 2) ⨾ "collection" ⇒ word "c" ⨾ "$db" ⇒ word "app" ⨾ empty

abbrev pub deletes_second : Fields
deletes_second = "delete" ⇒ word "c" ⨾ "deletes" ⇒ array (document ("q" ⇒ document ("_id" ⇒ id_1 ⨾ empty) ⨾ "limit" ⇒ int32 (pos 1) ⨾ empty) ⨟ no_items) ⨾ "$db" ⇒ word "app" ⨾ empty

abbrev pub drops_all : Fields
drops_all = "drop" ⇒ word "c" ⨾ "$db" ⇒ word "app" ⨾ empty

abbrev pub watches_more : Fields
watches_more = "getMore" ⇒ int64 (pos 1) ⨾ "collection" ⇒ word "c" ⨾ "$db" ⇒ word "app" ⨾ empty

-- ---- their replies

abbrev pub t_1 : Tree
t_1 = document ("_data" ⇒ word "1" ⨾ empty)

abbrev pub t_2 : Tree
t_2 = document ("_data" ⇒ word "2" ⨾ empty)

abbrev pub t_3 : Tree
t_3 = document ("_data" ⇒ word "3" ⨾ empty)

abbrev pub t_4 : Tree
t_4 = document ("_data" ⇒ word "4" ⨾ empty)

abbrev pub t_5 : Tree
t_5 = document ("_data" ⇒ word "5" ⨾ empty)

abbrev pub t_6 : Tree
t_6 = document ("_data" ⇒ word "6" ⨾ empty)

abbrev pub t_7 : Tree
t_7 = document ("_data" ⇒ word "7" ⨾ empty)

-- an event that tells no more than it must
abbrev pub event_of : Tree → Fields
event_of token = "_id" ⇒ token ⨾ empty

abbrev pub entry_of : Tree → ℕ → Change → Entry
entry_of token time change = record { token = token; time = time; space = app_c; change = change; event = event_of token }

abbrev pub wrote_three : Fields
wrote_three = "n" ⇒ int32 (pos 3) ⨾ "ok" ⇒ int32 (pos 1) ⨾ empty

abbrev pub opened_watch : Fields
opened_watch = "cursor" ⇒ document ("id" ⇒ int64 (pos 1) ⨾ "ns" ⇒ word "app.c" ⨾ "firstBatch" ⇒ array no_items ⨾ "postBatchResumeToken" ⇒ t_3 ⨾ empty) ⨾ "operationTime" ⇒ timestamp 0 3 ⨾ "ok" ⇒ int32 (pos 1) ⨾ empty

abbrev pub found_two : Fields
found_two = "cursor" ⇒ document ("id" ⇒ int64 (pos 2) ⨾ "ns" ⇒ word "app.c" ⨾ "firstBatch" ⇒ array (document x_1 ⨟ document x_2 ⨟ no_items) ⨾ empty) ⨾ "ok" ⇒ int32 (pos 1) ⨾ empty

abbrev pub updated_one : Fields
updated_one = "n" ⇒ int32 (pos 1) ⨾ "nModified" ⇒ int32 (pos 1) ⨾ "ok" ⇒ int32 (pos 1) ⨾ empty

-- what was found is what stood there as the find took effect
abbrev pub found_last : Fields
found_last = "cursor" ⇒ document ("id" ⇒ int64 (pos 0) ⨾ "ns" ⇒ word "app.c" ⨾ "nextBatch" ⇒ array (document x_3 ⨟ no_items) ⨾ empty) ⨾ "ok" ⇒ int32 (pos 1) ⨾ empty

abbrev pub deleted_one : Fields
deleted_one = "n" ⇒ int32 (pos 1) ⨾ "ok" ⇒ int32 (pos 1) ⨾ empty

abbrev pub dropped : Fields
dropped = "ok" ⇒ int32 (pos 1) ⨾ empty

-- the batch ends with the invalidate event, and the cursor with it
abbrev pub gave_four : Fields
gave_four = "cursor" ⇒ document ("id" ⇒ int64 (pos 0) ⨾ "ns" ⇒ word "app.c" ⨾ "nextBatch" ⇒ array (document (event_of t_4) ⨟ document (event_of t_5) ⨟ document (event_of t_6) ⨟ document (event_of t_7) ⨟ no_items)
    ⨾ "postBatchResumeToken" ⇒ t_7 ⨾ empty) ⨾ "ok" ⇒ int32 (pos 1) ⨾ empty

-- ---- what the steps add

abbrev pub adds : List Entry → ℕ → Made
adds entries now = record { entries = entries; tokens = []; now = now }

abbrev pub three_inserts : List Entry
three_inserts = entry_of t_1 1 inserts ∷ entry_of t_2 2 inserts ∷ entry_of t_3 3 inserts ∷ []

abbrev pub two_drops : List Entry
two_drops = entry_of t_6 6 drops ∷ entry_of t_7 7 invalidates ∷ []

-- a step that is read so, and adds this
pub record IsStepOf (command reply : Fields) (made : Made) (step : Step) : Type 0 where
  pub command_is : fields step.command ≡ command
  pub reply_is : fields step.reply ≡ reply
  pub made_is : step.made ≡ made

-- ---- what the definitions make of it

pub record IsWorked (history : List Step) : Type 0 where
  pub legal : IsLegal history
  -- behind the find: what is left of its result, and behind the next batch the cursor is gone
  pub find_left : (state_of (take 3 history)).cursors (pos 2) ≡ Some (query app_c (x_3 ∷ []))
  pub find_ended : (state_of (take 5 history)).cursors (pos 2) ≡ None
  -- behind the update, the delete and the drop
  pub updated : documents_at (state_of (take 4 history)) app_c ≡ Some (x_7 ∷ x_2 ∷ x_3 ∷ [])
  pub deleted : documents_at (state_of (take 6 history)) app_c ≡ Some (x_7 ∷ x_3 ∷ [])
  pub gone : documents_at (state_of (take 7 history)) app_c ≡ None
  -- the watch stood before the update, and ended
  pub watch_stood : (state_of (take 7 history)).cursors (pos 1) ≡ Some (watching watch 3)
  pub watch_ended : (state_of history).cursors (pos 1) ≡ None
  pub view_is : events_between watch (state_of history).changes 3 7 ≡ event_of t_4 ∷ event_of t_5 ∷ event_of t_6 ∷ event_of t_7 ∷ []
  -- and no step holds anything back
  pub prompt : IsPrompt (0 ∷ 1 ∷ 2 ∷ 3 ∷ 4 ∷ 5 ∷ 6 ∷ 7 ∷ []) history
