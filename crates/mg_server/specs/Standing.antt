-- When the log of a link stands in a server's history.
use Rattle.std.specs.Prelude.{Contains, ◌≡◌, ◌≢◌, ◌<◌, ℕ, ℤ, pos, Option, Some, None, List, [], ◌∷◌, slice_get, take}
use Rattle.mg_link.specs.Log.{Sight, waiting, reply, fault, memory, Call}
use Rattle.mg_server.specs.Commands.{Asked, asks_insert, asks_watch, asks_more, asks_kill, asks_other, Told, refuses, inserted, opened, gave, killed, garbled, asked, updated, deleted, done, asks_update, asks_delete, asks_query, asks_create, asks_indexes, asks_drop}
use Rattle.mg_server.specs.History.{Step, told_at}

-- the command asks about this cursor
abbrev pub Names : Asked → ℤ → Type 0
Names (asks_more id space) x = id ≡ x
Names (asks_kill ids) x = Contains ids x
Names (asks_insert space documents ordered) x = ⊥
Names (asks_update space conditions modification many) x = ⊥
Names (asks_delete space conditions many) x = ⊥
Names (asks_query q) x = ⊥
Names (asks_create space) x = ⊥
Names (asks_indexes space indexes) x = ⊥
Names (asks_drop space) x = ⊥
Names (asks_watch watch start) x = ⊥
Names asks_other x = ⊥

-- the reply opens this cursor
abbrev pub OpensId : Told → ℤ → Type 0
OpensId (opened id space events token time) x = (id ≡ x) × (x ≢ pos 0)
OpensId (refuses code labels) x = ⊥
OpensId (inserted n failures) x = ⊥
OpensId (updated n changed failures) x = ⊥
OpensId (deleted n failures) x = ⊥
OpensId done x = ⊥
OpensId (gave id space events token) x = ⊥
OpensId killed x = ⊥
OpensId garbled x = ⊥

-- the call at this place of the log took effect as this step
pub record TookEffect (calls : List Call) (history : List Step) (k position : ℕ) (step : Step) : Type 0 where
  pub call : Call
  pub found : slice_get calls k ≡ Some call
  pub placed : call.position ≡ Some position
  pub there : slice_get history position ≡ Some step

-- a reply to a call of the log opened this cursor
pub record GivenTo (calls : List Call) (history : List Step) (x : ℤ) : Type 0 where
  pub at : ℕ
  pub position : ℕ
  pub step : Step
  pub took : TookEffect calls history at position step
  pub opens : OpensId (told_at step) x

-- what was seen of a call is the reply of its step, where a reply was seen
abbrev pub SeenFits : Sight → List ℕ → Type 0
SeenFits waiting given = Unit {0}
SeenFits (reply bytes) given = bytes ≡ given
SeenFits fault given = Unit {0}
SeenFits memory given = Unit {0}

-- a log stands in a history; this is our own, and no public standard has it
pub record Stands (calls : List Call) (history : List Step) : Type 0 where
  -- the positions rise
  pub rising : (i j : ℕ) (a b : Call) (p q : ℕ) → i < j → slice_get calls i ≡ Some a → slice_get calls j ≡ Some b → a.position ≡ Some p → b.position ≡ Some q → p < q
  -- the step at a call's position has its command, and the reply that it saw
  pub same : (k : ℕ) (call : Call) (p : ℕ) → slice_get calls k ≡ Some call → call.position ≡ Some p →
      (step : Step) × (slice_get history p ≡ Some step) × (step.command ≡ call.command) × SeenFits call.seen step.reply
  -- a call that saw a reply has a position
  pub placed : (k : ℕ) (call : Call) (bytes : List ℕ) → slice_get calls k ≡ Some call → call.seen ≡ reply bytes → (p : ℕ) × (call.position ≡ Some p)
  -- each step that asks about a cursor which the log was given before is one of the log's
  pub alone : (p : ℕ) (step : Step) (x : ℤ) → slice_get history p ≡ Some step → Names (asked step.command) x → (g : GivenTo calls history x) → g.position < p → (k : ℕ) × (call : Call) × (slice_get calls k ≡ Some call) × (call.position ≡ Some p)

-- a cursor that an earlier call of the log saw given
pub record SeenGiven (calls : List Call) (k : ℕ) (x : ℤ) : Type 0 where
  pub at : ℕ
  pub call : Call
  pub bytes : List ℕ
  pub earlier : at < k
  pub found : slice_get calls at ≡ Some call
  pub saw : call.seen ≡ reply bytes
  pub opens : OpensId (told_at (record { command = call.command; reply = bytes; made = record { entries = []; tokens = []; now = 0 } })) x

-- a log names its own cursors only
abbrev pub IsSelfMade : List Call → Type 0
IsSelfMade calls = (k : ℕ) (call : Call) (x : ℤ) → slice_get calls k ≡ Some call → Names (asked call.command) x → SeenGiven calls k x

-- ---- fronts of a log

abbrev pub first_of : Option ℕ → Option ℕ → Option ℕ
first_of (Some p) other = Some p
first_of None other = other

-- the position of the first call that has one
abbrev pub first_position : List Call → Option ℕ
first_position [] = None
first_position (c ∷ cs) = first_of c.position (first_position cs)

abbrev pub cut : Option ℕ → List Step → List Step
cut None history = history
cut (Some position) history = take position history

-- the history before the first step that one of these calls took
abbrev pub history_before : List Call → List Step → List Step
history_before calls history = cut (first_position calls) history
