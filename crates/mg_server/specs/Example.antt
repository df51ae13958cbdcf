-- The first script, as a history: a watch of `app.c` opens, two documents are inserted, the next batch is asked for, and the cursor is killed.
use Rattle.std.specs.Prelude.{◌≡◌, ℕ, pos, true, Some, None, List, [], ◌∷◌, take, codes}
use Rattle.mg_bson.specs.Tree.{Tree, document, array, object_id, boolean, int32, int64, timestamp, Fields, no_items, item}
use Rattle.mg_bson.specs.Raw.{fields}
use Rattle.mg_bson.specs.Literal.{◌⇒◌⨾◌, empty, word}
use Rattle.mg_link.specs.Namespace.{Space, collection}
use Rattle.mg_server.specs.State.{inserts, Entry, Watch, watching, nowhere, documents_at, events_between, time_of}
use Rattle.mg_server.specs.History.{Step, state_of, opening}
use Rattle.mg_server.specs.Kept.{Kept}
use Rattle.mg_server.specs.Prompt.{IsPrompt}
use Rattle.mg_server.specs.Rules.{answer_of}

abbrev pub app_c : Space
app_c = record { db = codes "app"; coll = codes "c" }

-- the watch has no filter
abbrev pub watch : Watch
watch = record { target = collection app_c; filter = [] }

-- the first two ids that are drawn
abbrev pub id_0 : Tree
id_0 = object_id (0 ∷ 0 ∷ 0 ∷ 0 ∷ 0 ∷ 0 ∷ 0 ∷ 0 ∷ 0 ∷ 0 ∷ 0 ∷ 0 ∷ [])

abbrev pub id_1 : Tree
id_1 = object_id (0 ∷ 0 ∷ 0 ∷ 0 ∷ 0 ∷ 0 ∷ 0 ∷ 0 ∷ 0 ∷ 0 ∷ 0 ∷ 1 ∷ [])

abbrev pub x_1 : Fields
x_1 = "_id" ⇒ id_0 ⨾ "x" ⇒ int32 (pos 1) ⨾ empty

abbrev pub x_2 : Fields
x_2 = "_id" ⇒ id_1 ⨾ "x" ⇒ int32 (pos 2) ⨾ empty

-- ---- the four commands

abbrev pub opens : Fields
opens = "aggregate" ⇒ word "c" ⨾ "pipeline" ⇒ array (item (document ("$changeStream" ⇒ document empty ⨾ empty)) no_items) ⨾ "cursor" ⇒ document empty ⨾ "$db" ⇒ word "app" ⨾ empty

abbrev pub inserts_two : Fields
inserts_two = "insert" ⇒ word "c" ⨾ "documents" ⇒ array (item (document x_1) (item (document x_2) no_items)) ⨾ "ordered" ⇒ boolean true ⨾ "$db" ⇒ word "app" ⨾ empty

abbrev pub asks_more : Fields
asks_more = "getMore" ⇒ int64 (pos 1) ⨾ "collection" ⇒ word "c" ⨾ "$db" ⇒ word "app" ⨾ empty

abbrev pub kills : Fields
kills = "killCursors" ⇒ word "c" ⨾ "cursors" ⇒ array (item (int64 (pos 1)) no_items) ⨾ "$db" ⇒ word "app" ⨾ empty

-- ---- their replies

abbrev pub token_0 : Tree
token_0 = document ("_data" ⇒ word "0000000000000000" ⨾ empty)

abbrev pub token_1 : Tree
token_1 = document ("_data" ⇒ word "0000000000000001" ⨾ empty)

abbrev pub token_2 : Tree
token_2 = document ("_data" ⇒ word "0000000000000002" ⨾ empty)

abbrev pub event_with : Tree → ℕ → Tree → Fields → Fields
event_with token seconds id d = "_id" ⇒ token ⨾ "operationType" ⇒ word "insert" ⨾ "clusterTime" ⇒ timestamp seconds 1
    ⨾ "ns" ⇒ document ("db" ⇒ word "app" ⨾ "coll" ⇒ word "c" ⨾ empty) ⨾ "documentKey" ⇒ document ("_id" ⇒ id ⨾ empty) ⨾ "fullDocument" ⇒ document d ⨾ empty

abbrev pub event_1 : Fields
event_1 = event_with token_1 1 id_0 x_1

abbrev pub event_2 : Fields
event_2 = event_with token_2 2 id_1 x_2

abbrev pub opened : Fields
opened = "cursor" ⇒ document ("id" ⇒ int64 (pos 1) ⨾ "ns" ⇒ word "app.c" ⨾ "firstBatch" ⇒ array no_items ⨾ "postBatchResumeToken" ⇒ token_0 ⨾ empty) ⨾ "operationTime" ⇒ timestamp 0 1 ⨾ "ok" ⇒ int32 (pos 1) ⨾ empty

abbrev pub inserted_two : Fields
inserted_two = "n" ⇒ int32 (pos 2) ⨾ "ok" ⇒ int32 (pos 1) ⨾ empty

abbrev pub gave_two : Fields
gave_two = "cursor" ⇒ document ("id" ⇒ int64 (pos 1) ⨾ "ns" ⇒ word "app.c" ⨾ "nextBatch" ⇒ array (item (document event_1) (item (document event_2) no_items)) ⨾ "postBatchResumeToken" ⇒ token_2 ⨾ empty) ⨾ "ok" ⇒ int32 (pos 1) ⨾ empty

abbrev pub killed : Fields
killed = "cursorsKilled" ⇒ array (item (int64 (pos 1)) no_items) ⨾ "cursorsNotFound" ⇒ array no_items ⨾ "cursorsAlive" ⇒ array no_items ⨾ "cursorsUnknown" ⇒ array no_items ⨾ "ok" ⇒ int32 (pos 1) ⨾ empty

-- ---- what the definitions make of it

-- a step whose command and reply are read as these
pub record IsStep (command reply : Fields) (kept : Kept) : Type 0 where
  pub command_is : fields kept.command ≡ command
  pub reply_is : fields kept.reply ≡ reply

abbrev pub entry_1 : Entry
entry_1 = record { token = token_1; time = time_of 1 1; space = app_c; change = inserts; event = event_1 }

abbrev pub entry_2 : Entry
entry_2 = record { token = token_2; time = time_of 2 1; space = app_c; change = inserts; event = event_2 }

-- behind so many steps of the history the store's rules answer this; its next cursor has the id
abbrev pub RulesAnswer : List Step → ℕ → ℕ → Fields → Fields → Type 0
RulesAnswer history steps id command reply = (answer_of (state_of (take steps history)) (pos id) command).reply ≡ reply

pub record IsExample (history : List Step) : Type 0 where
  pub opening_is : opening history 0 nowhere ≡ Some 0
  -- behind the aggregate: cursor 1 stands at the end of the empty list
  pub cursor_opened : (state_of (take 1 history)).cursors (pos 1) ≡ Some (watching watch 0)
  -- behind the insert: two documents, two entries
  pub documents_are : documents_at (state_of (take 2 history)) app_c ≡ Some (x_1 ∷ x_2 ∷ [])
  pub changes_are : (state_of (take 2 history)).changes ≡ entry_1 ∷ entry_2 ∷ []
  pub cursor_stays : (state_of (take 2 history)).cursors (pos 1) ≡ Some (watching watch 0)
  -- behind the getMore the cursor stands at 2, and behind the killCursors it is gone
  pub cursor_moved : (state_of (take 3 history)).cursors (pos 1) ≡ Some (watching watch 2)
  pub cursor_gone : (state_of history).cursors (pos 1) ≡ None
  pub id_given : (state_of history).given (pos 1) ≡ true
  pub view_is : events_between watch (state_of history).changes 0 2 ≡ event_1 ∷ event_2 ∷ []
  pub token_named : (state_of history).tokens token_2 ≡ Some 2
  -- and each reply is the rules'
  pub opened_by_rules : RulesAnswer history 0 1 opens opened
  pub inserted_by_rules : RulesAnswer history 1 2 inserts_two inserted_two
  pub gave_by_rules : RulesAnswer history 2 2 asks_more gave_two
  pub killed_by_rules : RulesAnswer history 3 2 kills killed
  -- which hold nothing back
  pub prompt : IsPrompt (0 ∷ 1 ∷ 2 ∷ 3 ∷ []) history
