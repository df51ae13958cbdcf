-- When the answers to a caller hold nothing back (change streams, getMore and insert specifications: a server may cut batches where it likes, and refuse).
use Rattle.std.specs.Prelude.{◌≡◌, ℕ, ℤ, pos, Bool, true, Some, None, List, [], Contains, length, take, slice_get, unwrap_or, codes, ◌≢◌, Option, ◌++◌}
use Rattle.mg_bson.specs.Tree.{Tree, Fields}
use Rattle.mg_bson.specs.Find.{get}
use Rattle.mg_bson.specs.Raw.{fields}
use Rattle.mg_link.specs.Namespace.{Space}
use Rattle.mg_server.specs.State.{Entry, Watch, watching, State, start_place, events_between, seen_between, is_invalidate, query}
use Rattle.mg_server.specs.Commands.{Asked, asks_insert, asks_watch, asks_more, asks_kill, Failure, Told, refuses, inserted, opened, gave, killed, asked, failures_at, updated, deleted, asks_update, asks_delete, asks_query, asks_create, asks_indexes, asks_drop}
use Rattle.mg_server.specs.Step.{IsNamed, documents_of}
use Rattle.mg_server.specs.History.{Step, state_of, step_after, told_at}
use Rattle.mg_server.specs.Rules.{collection_exists, inserting, inserted_reply}
use Rattle.mg_server.specs.Query.{result}

-- the write errors that the store's rules list for an insert
abbrev pub rule_failures : State → Space → List Fields → Bool → List Failure
rule_failures s space documents ordered = unwrap_or (failures_at (get (codes "writeErrors") (inserted_reply (inserting space ordered 0 (length s.changes) (documents_of s space) documents)))) []

-- a cursor ends only behind an invalidate entry that its batch holds; s' is the state after the step
abbrev pub EndsByInvalidate : State → Watch → ℕ → ℤ → Option Tree → Type 0
EndsByInvalidate s' w from id token = id ≡ pos 0 → (upto : ℕ) × IsNamed s' token upto × (e : Entry) × Contains (seen_between w s'.changes from upto) e × (is_invalidate e.change ≡ true)

-- a batch is empty only where no entry is left to be seen
abbrev pub GivesSome : State → Watch → ℕ → List Fields → Type 0
GivesSome s w from events = events ≡ [] → events_between w s.changes from (length s.changes) ≡ []

-- a batch of a query holds a document where one is left, and ends the cursor as soon as nothing is left
pub record HoldsNothingBack (size : Option ℕ) (id : ℤ) (given left : List Fields) : Type 0 where
  pub some : size ≢ Some 0 → given ≡ [] → left ≡ []
  pub ends : left ≡ [] → id ≡ pos 0

-- The first batch of a watch may be empty, and later ones not while an entry is left. Nothing is refused but a create of a collection that is there,
-- and a write fails only as the store's rules have it. This is our own: no public standard says when a server holds nothing back.
abbrev pub AnswersAtOnce : State → State → Asked → Told → Type 0
AnswersAtOnce s s' (asks_create space) (refuses code labels) = code ≡ collection_exists
AnswersAtOnce s s' command (refuses code labels) = ⊥
AnswersAtOnce s s' (asks_insert space documents ordered) (inserted n failures) = (f : Failure) → Contains failures f → Contains (rule_failures s space documents ordered) f
AnswersAtOnce s s' (asks_update space conditions modification many) (updated n changed failures) = failures ≡ []
AnswersAtOnce s s' (asks_delete space conditions many) (deleted n failures) = failures ≡ []
AnswersAtOnce s s' (asks_query q) (opened id space documents token time) = (left : List Fields) → result s' q ≡ Some (documents ++ left) → HoldsNothingBack q.size id documents left
AnswersAtOnce s s' (asks_watch watch start) (opened id space events token time) = (from : ℕ) → start_place s' start ≡ Some from → EndsByInvalidate s' watch from id token
AnswersAtOnce s s' (asks_more id space) (gave next other events token) = ((watch : Watch) (from : ℕ) → s.cursors id ≡ Some (watching watch from) → GivesSome s watch from events × EndsByInvalidate s' watch from next token)
    × ((of : Space) (left : List Fields) → s.cursors id ≡ Some (query of (events ++ left)) → HoldsNothingBack None next events left)
AnswersAtOnce s s' (asks_kill ids) killed = Unit {0}
AnswersAtOnce s s' command reply = Unit {0}

-- no write error is listed
abbrev pub ListsNone : List ℕ → Type 0
ListsNone bytes = failures_at (get (codes "writeErrors") (fields bytes)) ≡ Some []

-- the reply to a write tells of no write concern that was not met; one that tells nothing of write errors lists none
abbrev pub MeetsConcern : Asked → List ℕ → Type 0
MeetsConcern (asks_insert space documents ordered) bytes = get (codes "writeConcernError") (fields bytes) ≡ None
MeetsConcern (asks_update space conditions modification many) bytes = get (codes "writeConcernError") (fields bytes) ≡ None
MeetsConcern (asks_delete space conditions many) bytes = get (codes "writeConcernError") (fields bytes) ≡ None
MeetsConcern (asks_create space) bytes = (get (codes "writeConcernError") (fields bytes) ≡ None) × ListsNone bytes
MeetsConcern (asks_indexes space indexes) bytes = (get (codes "writeConcernError") (fields bytes) ≡ None) × ListsNone bytes
MeetsConcern (asks_drop space) bytes = (get (codes "writeConcernError") (fields bytes) ≡ None) × ListsNone bytes
MeetsConcern command bytes = Unit {0}

-- the command was refused
abbrev pub IsRefused : Told → Type 0
IsRefused (refuses code labels) = Unit {0}
IsRefused reply = ⊥

-- the steps at these positions, which are a caller's own, were answered so
abbrev pub IsPrompt : List ℕ → List Step → Type 0
IsPrompt own history = (position : ℕ) (step : Step) → Contains own position → slice_get history position ≡ Some step →
    AnswersAtOnce (state_of (take position history)) (step_after (state_of (take position history)) step) (asked step.command) (told_at step) × MeetsConcern (asked step.command) step.reply

-- so were those of each caller none of whose steps was refused
pub record HoldsBackNone (history : List Step) : Type 0 where
  pub each : (own : List ℕ) → ((position : ℕ) (step : Step) → Contains own position → slice_get history position ≡ Some step → IsRefused (told_at step) → ⊥) → IsPrompt own history
