-- What a store in memory keeps of its steps, and the history that this is.
use Rattle.std.specs.Prelude.{◌≡◌, ◌⊎◌, ◌+◌, ◌≤◌, ℕ, zero, suc, ℤ, pos, negsuc, Bool, true, false, Option, Some, None, List, [], ◌∷◌, length, nat_lt, if◌then◌else◌}
use Rattle.std.specs.Ordering.{int_eq}
use Rattle.mg_bson.specs.Tree.{Tree, Fields}
use Rattle.mg_bson.specs.Bytes.{bytes}
use Rattle.mg_bson.specs.Raw.{fields}
use Rattle.mg_server.specs.State.{Entry, Cursor, query, watching, State, nothing}
use Rattle.mg_server.specs.Commands.{Told, refuses, inserted, opened, gave, killed, garbled, asked, told, updated, deleted, done}
use Rattle.mg_server.specs.Step.{Made, Named, May}
use Rattle.mg_server.specs.History.{Step, step_after, state_of}
use Rattle.mg_server.specs.Events.{TellsWritten}
use Rattle.mg_server.specs.Rules.{answer_of, refusal, token_of, token_place, now_of}

-- a command as it came, and the reply as it was given
pub record Kept : Type 0 where
  pub command : List ℕ
  pub reply : List ℕ

-- ---- what a step made

-- the first step adds the token of the place before all entries
abbrev pub first_tokens : Bool → List Named
first_tokens started = if started then [] else record { token = token_of 0; place = 0 } ∷ []

abbrev pub made_none : State → Bool → Made
made_none s started = record { entries = []; tokens = first_tokens started; now = s.now }

abbrev pub made_these : State → Bool → List Entry → Made
made_these s started entries = record { entries = entries; tokens = first_tokens started; now = now_of (length s.changes + length entries) }

-- what a step made that was told so: a refusal adds no entry and leaves the time
abbrev pub made_by : State → Bool → List Entry → Told → Made
made_by s started entries (refuses code labels) = made_none s started
made_by s started entries (inserted n failures) = made_these s started entries
made_by s started entries (updated n changed failures) = made_these s started entries
made_by s started entries (deleted n failures) = made_these s started entries
made_by s started entries done = made_these s started entries
made_by s started entries (opened id space events token time) = made_these s started entries
made_by s started entries (gave id space events token) = made_these s started entries
made_by s started entries killed = made_these s started entries
made_by s started entries garbled = made_these s started entries

-- how many ids were given to cursors behind a step that was told so
abbrev pub given_by : ℕ → Told → ℕ
given_by given (opened id space events token time) = if int_eq id (pos 0) then given else suc given
given_by given (refuses code labels) = given
given_by given (inserted n failures) = given
given_by given (updated n changed failures) = given
given_by given (deleted n failures) = given
given_by given done = given
given_by given (gave id space events token) = given
given_by given killed = given
given_by given garbled = given

abbrev pub told_kept : Kept → Told
told_kept kept = told (asked kept.command) kept.reply

-- the entries that the rules add
abbrev pub rule_entries : State → ℕ → Kept → List Entry
rule_entries s given kept = (answer_of s (pos (suc given)) (fields kept.command)).entries

-- what a kept step made: the state before it, how many ids were given before, and whether a step came before
unfoldable pub made_of : State → ℕ → Bool → Kept → Made
made_of s given started kept = made_by s started (rule_entries s given kept) (told_kept kept)

unfoldable pub given_after : ℕ → Kept → ℕ
given_after given kept = given_by given (told_kept kept)

-- ---- the history

abbrev pub step_of : State → ℕ → Bool → Kept → Step
step_of s given started kept = record { command = kept.command; reply = kept.reply; made = made_of s given started kept }

abbrev pub state_behind : State → ℕ → Bool → Kept → State
state_behind s given started kept = step_after s (step_of s given started kept)

unfoldable pub steps_from : State → ℕ → Bool → List Kept → List Step
steps_from s given started [] = []
steps_from s given started (k ∷ kept) = step_of s given started k ∷ steps_from (state_behind s given started k) (given_after given k) true kept

-- the history of a store that began empty
abbrev pub steps_of : List Kept → List Step
steps_of kept = steps_from nothing 0 false kept

abbrev pub state_of_kept : List Kept → State
state_of_kept kept = state_of (steps_of kept)

-- how many ids were given behind kept steps
unfoldable pub given_from : ℕ → List Kept → ℕ
given_from given [] = given
given_from given (k ∷ kept) = given_from (given_after given k) kept

abbrev pub given_of : List Kept → ℕ
given_of kept = given_from 0 kept

-- there was a step
abbrev pub started_from : Bool → List Kept → Bool
started_from started [] = started
started_from started (k ∷ kept) = true

abbrev pub is_started : List Kept → Bool
is_started kept = started_from false kept

-- ---- what the replies follow

-- the bytes are those of the document, and are read as it
pub record IsReply (document : Fields) (reply : List ℕ) : Type 0 where
  pub encoded : reply ≡ bytes document
  pub read_back : fields reply ≡ document

-- the reply is that of the rules, or a refusal that somebody chose
pub data Follows (s : State) (given : ℕ) (kept : Kept) : Type 0 where
  by_rules : IsReply (answer_of s (pos (suc given)) (fields kept.command)).reply kept.reply → Follows s given kept
  by_choice : (code : ℤ) (labels : List (List ℕ)) → IsReply (refusal code labels) kept.reply → Follows s given kept

unfoldable pub AreByRulesFrom : State → ℕ → Bool → List Kept → Type 0
AreByRulesFrom s given started [] = Unit {0}
AreByRulesFrom s given started (k ∷ kept) = Follows s given k × AreByRulesFrom (state_behind s given started k) (given_after given k) true kept

-- each reply is that of the rules there, or a chosen refusal
abbrev pub IsByRules : List Kept → Type 0
IsByRules kept = AreByRulesFrom nothing 0 false kept

-- ---- the states of a store in memory

-- the entry behind this place is as the rules make it
pub record IsStoreEntry (place : ℕ) (e : Entry) : Type 0 where
  pub token_is : e.token ≡ token_of (suc place)
  pub time_is : e.time ≡ now_of (suc place)

abbrev pub AreStoreEntries : ℕ → List Entry → Type 0
AreStoreEntries place [] = Unit {0}
AreStoreEntries place (e ∷ es) = IsStoreEntry place e × AreStoreEntries (suc place) es

-- the tokens of all places up to this one, once there was a step
abbrev pub tokens_when : Bool → ℕ → Tree → Option ℕ
tokens_when started places token = if started then token_place places token else None

-- the ids from 1 on, so many of them
abbrev pub is_given : ℕ → ℤ → Bool
is_given given (pos zero) = false
is_given given (pos (suc n)) = nat_lt n given
is_given given (negsuc n) = false

-- the cursors of a store are of queries, or of watches, each at a place that is there
abbrev pub IsStoreCursor : ℕ → Cursor → Type 0
IsStoreCursor places (watching w place) = place ≤ places
IsStoreCursor places (query space left) = Unit {0}

-- the time is that of the number of entries, or that of an empty store
abbrev pub IsStoreTime : ℕ → ℕ → Type 0
IsStoreTime entries now = (now ≡ now_of entries) ⊎ ((now ≡ 0) × (entries ≡ 0))

-- a state of a store in memory, with how many ids it gave to cursors, and whether it took a step
pub record IsStoreState (s : State) (given : ℕ) (started : Bool) : Type 0 where
  pub entries_are : AreStoreEntries 0 s.changes
  pub tokens_are : (token : Tree) → s.tokens token ≡ tokens_when started (length s.changes) token
  pub ids_are : (id : ℤ) → s.given id ≡ is_given given id
  pub cursors_are : (id : ℤ) (c : Cursor) → s.cursors id ≡ Some c → IsStoreCursor (length s.changes) c × (is_given given id ≡ true)
  pub time_is : IsStoreTime (length s.changes) s.now
  pub empty_before : started ≡ false → s.changes ≡ []

-- a server may do what the store did, its events tell of the documents that it wrote, and the store goes on in a state of its kind
pub record IsAllowed (s : State) (given : ℕ) (started : Bool) (kept : Kept) : Type 0 where
  pub may : May s (asked kept.command) (told_kept kept) (made_of s given started kept)
  pub tells : TellsWritten (asked kept.command) (told_kept kept) (made_of s given started kept).entries
  pub stays : IsStoreState (state_behind s given started kept) (given_after given kept) true
