-- What events have and tell (change events).
use Rattle.std.specs.Prelude.{◌≡◌, ℕ, Some, List, [], ◌∷◌, codes}
use Rattle.mg_bson.specs.Tree.{Tree, string, document, Fields, no_fields, field}
use Rattle.mg_bson.specs.Find.{get}
use Rattle.mg_link.specs.Namespace.{Space}
use Rattle.mg_server.specs.State.{Entry, Watch, watching, State}
use Rattle.mg_server.specs.Commands.{Asked, asks_insert, asks_watch, asks_more, Told, refuses, inserted, opened, gave, killed, garbled, asked, updated, deleted, done}
use Rattle.mg_server.specs.Step.{written}
use Rattle.mg_server.specs.History.{Step, told_at}

-- ---- tokens

-- an event has an `_id`, its token
abbrev pub HasId : Fields → Type 0
HasId event = (token : Tree) × (get (codes "_id") event ≡ Some token)

abbrev pub HaveIds : List Fields → Type 0
HaveIds [] = Unit {0}
HaveIds (e ∷ es) = HasId e × HaveIds es

-- the events, or the documents, that a reply brings
abbrev pub events_in : Told → List Fields
events_in (opened id space events token time) = events
events_in (gave id space events token) = events
events_in (refuses code labels) = []
events_in (inserted n failures) = []
events_in (updated n changed failures) = []
events_in (deleted n failures) = []
events_in done = []
events_in killed = []
events_in garbled = []

-- the command asks, in this state, for a batch of a watch
abbrev pub AsksForEvents : State → Asked → Type 0
AsksForEvents s (asks_watch watch start) = Unit {0}
AsksForEvents s (asks_more id space) = (watch : Watch) × (place : ℕ) × (s.cursors id ≡ Some (watching watch place))
AsksForEvents s command = ⊥

-- ---- inserts

-- What the event of an inserted document tells beside its token: its kind, where the document stands, and the document. A legal history need not have it.
pub record TellsInsert (space : Space) (d event : Fields) : Type 0 where
  pub kind : get (codes "operationType") event ≡ Some (string (codes "insert"))
  pub ns : get (codes "ns") event ≡ Some (document (field (codes "db") (string space.db) (field (codes "coll") (string space.coll) no_fields)))
  pub full : get (codes "fullDocument") event ≡ Some (document d)

-- the event of each entry tells of its document
abbrev pub TellInserts : Space → List Fields → List Entry → Type 0
TellInserts space [] [] = Unit {0}
TellInserts space (d ∷ ds) (e ∷ es) = TellsInsert space d e.event × TellInserts space ds es
TellInserts space [] (e ∷ es) = ⊥
TellInserts space (d ∷ ds) [] = ⊥

-- the events that an insert added tell of the documents that it wrote
abbrev pub TellsWritten : Asked → Told → List Entry → Type 0
TellsWritten command (refuses code labels) entries = Unit {0}
TellsWritten (asks_insert space documents ordered) (inserted n failures) entries = TellInserts space (written ordered failures 0 documents) entries
TellsWritten command reply entries = Unit {0}

-- so does each step of a history
unfoldable pub TellsItsInserts : List Step → Type 0
TellsItsInserts [] = Unit {0}
TellsItsInserts (step ∷ steps) = TellsWritten (asked step.command) (told_at step) step.made.entries × TellsItsInserts steps
