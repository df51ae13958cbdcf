-- What the store holds, seen as the parts of a server's state.
use Rattle.std.specs.Prelude.{◌≡◌, ℕ, suc, List, [], ◌∷◌, map, codes, unwrap_or, if◌then◌else◌}
use Rattle.std.specs.Str.{bytes_eq}
use Rattle.mg_bson.specs.Tree.{Fields}
use Rattle.mg_bson.specs.Raw.{fields}
use Rattle.mg_link.specs.Namespace.{Space, Target, space, target}
use Rattle.mg_server.specs.Commands.{text_of}
use Rattle.mg_server.specs.State.{inserts, updates, replaces, deletes, drops, invalidates, Change, Entry, Watch}
use Rattle.mg_server.specs.Rules.{token_of, now_of, batch_place, documents_of_items, ends_watch, batch_events}
use Rattle.mg_query.specs.Asking.{Keyed, held, keyed, matches_keys}
use Rattle.mg_query.specs.Numbering.{IsExact}
use Rattle.mg_store.specs.declared.change.ChangeEntry.{ChangeEntry}
use Rattle.mg_store.specs.declared.change.Events.{Events}
use Rattle.mg_store.specs.declared.cursor.Watch as code

-- the change of this name
abbrev pub change_named : List ℕ → Change
change_named k = if bytes_eq k (codes "invalidate") then invalidates
    else (if bytes_eq k (codes "update") then updates
    else (if bytes_eq k (codes "replace") then replaces
    else (if bytes_eq k (codes "delete") then deletes
    else (if bytes_eq k (codes "drop") then drops else inserts))))

-- the change that an event tells
abbrev pub change_told : Fields → Change
change_told event = change_named (unwrap_or (text_of (codes "operationType") event) [])

-- the entry that stands behind this place
abbrev pub entry_at : ℕ → ChangeEntry → Entry
entry_at place e = record { token = token_of (suc place); time = now_of (suc place); space = space e.ns; change = change_told (fields e.event); event = fields e.event }

-- the entries, the first of which stands behind this place
abbrev pub entries_from : ℕ → List ChangeEntry → List Entry
entries_from place [] = []
entries_from place (e ∷ es) = entry_at place e ∷ entries_from (suc place) es

-- the bytes of each event are the encoding of the document that they are read as
abbrev pub AreExact : List ChangeEntry → Type 0
AreExact [] = Unit {0}
AreExact (e ∷ es) = IsExact e.event × AreExact es

-- the entry has this event, as its bytes
pub record IsEntryOf (at : Space) (event : Fields) (e : ChangeEntry) : Type 0 where
  pub at_is : space e.ns ≡ at
  pub event_is : fields e.event ≡ event
  pub exact : IsExact e.event

-- the watch, held with the encodings of its values
pub record IsWatch (c : code.Watch) (w : Watch) : Type 0 where
  pub target_is : w.target ≡ target c.target
  pub filter_is : map held c.filter.items ≡ map keyed w.filter

-- the watch is of this target, and of what meets these conditions
pub record IsWatchOf (t : Target) (keys : List Keyed) (w : Watch) : Type 0 where
  pub target_is : w.target ≡ t
  pub selects : (d : Fields) → matches_keys keys d ≡ matches_keys (map keyed w.filter) d

-- the batch of the rules from a place on
pub record GivesBatch (w : Watch) (es : List Entry) (from size : ℕ) (batch : Events) : Type 0 where
  pub place_is : batch.place ≡ batch_place w es from size
  pub events_are : batch.events ≡ documents_of_items (batch_events w es from (batch_place w es from size))
  pub ended_is : batch.ended ≡ ends_watch w es from (batch_place w es from size)
