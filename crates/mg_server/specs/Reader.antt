-- What the reader of a query's result knows of every legal history in which the log stands: its cursor is a list with a place (find, getMore and killCursors specification).
use Rattle.std.specs.Prelude.{◌≡◌, ◌≢◌, ◌⊎◌, ◌≤◌, ◌+◌, ℕ, ℤ, pos, Bool, true, false, Option, Some, List, [], ◌∷◌, ◌++◌, slice_get, take, suc}
use Rattle.mg_bson.specs.Tree.{Fields}
use Rattle.mg_link.specs.Namespace.{Space}
use Rattle.mg_server.specs.State.{State, Cursor, query}
use Rattle.mg_server.specs.Query.{Query, result}
use Rattle.mg_server.specs.Commands.{Batch, asked, asks_query, asks_more, Told, refuses, inserted, opened, gave, killed, garbled, updated, deleted, done}
use Rattle.mg_server.specs.Follow.{CameAs}
use Rattle.mg_server.specs.History.{Step, IsLegal, state_of, told_at}
use Rattle.mg_link.specs.Log.{Call, reply}
use Rattle.mg_link.specs.Link as link
use Rattle.mg_link.specs.Exec.{Stage, unsent, first, second}
use Rattle.mg_server.specs.Owner.{Owner, Holds, Passes, nobody}
use Rattle.mg_server.specs.Standing.{Stands}

-- what it waits for: the number is the place in the log of its getMore, where the log is told
pub data Fetching : Type 0 where
  still : Fetching
  fetching : (place : Option ℕ) → Fetching

pub record Reader : Type 0 where
  pub query : Query
  -- the place in the log of the command that opened it
  pub opened : ℕ
  pub doing : Fetching
  -- the id of its cursor, 0 where the server holds none
  pub cursor : ℤ
  -- the documents handed out, and those received and not handed out
  pub given : List Fields
  pub ahead : List Fields
  -- how many getMores failed, each of which may have lost a batch
  pub losses : ℕ
  -- whether the server refused a getMore so that it holds the cursor no longer
  pub refused : Bool

abbrev pub coming_to : Fetching → List (Option ℕ)
coming_to still = []
coming_to (fetching place) = place ∷ []

-- a getMore in flight gives it no other cursor
abbrev pub owner_of_reader : Reader → Owner
owner_of_reader r = record { ids = r.cursor ∷ []; coming = coming_to r.doing }

-- ---- batches

-- a batch that the server gave; it is lost where its reply did not arrive, or was not read
pub record Portion : Type 0 where
  pub documents : List Fields
  pub lost : Bool

abbrev pub all_in : List Portion → List Fields
all_in [] = []
all_in (p ∷ ps) = p.documents ++ all_in ps

abbrev pub kept_of : Bool → List Fields → List Fields
kept_of true documents = []
kept_of false documents = documents

-- without the lost ones
abbrev pub kept_in : List Portion → List Fields
kept_in [] = []
kept_in (p ∷ ps) = kept_of p.lost p.documents ++ kept_in ps

abbrev pub one_lost : Bool → ℕ
one_lost true = 1
one_lost false = 0

abbrev pub losses_in : List Portion → ℕ
losses_in [] = 0
losses_in (p ∷ ps) = one_lost p.lost + losses_in ps

-- The documents given are the first of a result without the documents of the lost batches.
pub record Given (all : List Fields) (portions : List Portion) (given : List Fields) : Type 0 where
  -- what the server has not given to anybody
  pub left : List Fields
  pub cut : all ≡ all_in portions ++ left
  pub ahead : List Fields
  pub these : kept_in portions ≡ given ++ ahead

-- ---- in one history

-- the cursor, where it is open, holds what is left
abbrev pub HoldsLeft : State → ℤ → List Fields → Type 0
HoldsLeft s id left = (c : Cursor) → id ≢ pos 0 → s.cursors id ≡ Some c → (space : Space) × (c ≡ query space left)

-- a batch is the first of what is left, and ends the cursor only where nothing is left behind it
pub record GivesNext (s : State) (id : ℤ) (left : List Fields) (next : ℤ) (documents : List Fields) : Type 0 where
  pub behind : List Fields
  pub these : left ≡ documents ++ behind
  pub holds : HoldsLeft s id behind
  pub same : (next ≡ id) ⊎ ((next ≡ pos 0) × (behind ≡ []))

-- what the reply to a getMore of the cursor tells
abbrev pub AfterFetch : State → ℤ → List Fields → Told → Type 0
AfterFetch s id left (gave next space documents token) = GivesNext s id left next documents
AfterFetch s id left (refuses code labels) = HoldsLeft s id left
AfterFetch s id left (opened other space events token time) = ⊥
AfterFetch s id left (inserted n failures) = ⊥
AfterFetch s id left (updated n changed failures) = ⊥
AfterFetch s id left (deleted n failures) = ⊥
AfterFetch s id left done = ⊥
AfterFetch s id left killed = ⊥
AfterFetch s id left garbled = ⊥

pub record IsFetched (s : State) (id : ℤ) (left : List Fields) (step : Step) : Type 0 where
  pub space : Space
  pub asks : asked step.command ≡ asks_more id space
  pub tells : AfterFetch s id left (told_at step)

-- a getMore on its way has told what was next, where it took effect; where it did not, the cursor stands as it did
pub record MayBeFetched (calls : List Call) (history : List Step) (id : ℤ) (left : List Fields) (place : Option ℕ) : Type 0 where
  pub came : (position : ℕ) (step : Step) → CameAs calls history place position step → IsFetched (state_of history) id left step
  pub never : ((position : ℕ) (step : Step) → CameAs calls history place position step → ⊥) → HoldsLeft (state_of history) id left

abbrev pub HandBy : List Call → List Step → ℤ → List Fields → Fetching → Type 0
HandBy calls history id left still = HoldsLeft (state_of history) id left
HandBy calls history id left (fetching place) = MayBeFetched calls history id left place

-- the server ended the cursor: nothing was left, or one batch was asked for and it gave one, or it refused a getMore so
abbrev pub HasEnded : Query → Bool → List Fields → List Portion → Type 0
HasEnded q refused left portions = (left ≡ []) ⊎ (((q.single ≡ true) × (portions ≢ [])) ⊎ (refused ≡ true))

-- what it knows of one history, in which the command at this position opened its cursor
pub record FactsOf (calls : List Call) (history : List Step) (r : Reader) (position : ℕ) : Type 0 where
  -- the result, fixed as the cursor was opened
  pub all : List Fields
  pub fixed : result (state_of (take (suc position) history)) r.query ≡ Some all
  pub portions : List Portion
  pub left : List Fields
  pub cut : all ≡ all_in portions ++ left
  pub these : kept_in portions ≡ r.given ++ r.ahead
  pub few : losses_in portions ≤ r.losses
  pub hand : HandBy calls history r.cursor left r.doing
  pub ends : r.cursor ≡ pos 0 → HasEnded r.query r.refused left portions

-- the call of the log that opened its cursor: a reply to it came
pub record OpenedBy (calls : List Call) (r : Reader) : Type 0 where
  pub call : Call
  pub bytes : List ℕ
  pub found : slice_get calls r.opened ≡ Some call
  pub queries : asked call.command ≡ asks_query r.query
  pub heard : call.seen ≡ reply bytes

-- What the reader of a query's result knows of every legal history in which the log stands.
pub record KnowsRead (calls : List Call) (r : Reader) : Type 0 where
  pub owned : Holds calls (owner_of_reader r)
  pub opened : OpenedBy calls r
  pub facts : (history : List Step) → IsLegal history → Stands calls history → (position : ℕ) → opened.call.position ≡ Some position → FactsOf calls history r position

-- ---- its opening

-- a query's command on its way, whose reply may give a cursor
abbrev pub finder : Option ℕ → Owner
finder place = record { ids = []; coming = place ∷ [] }

-- the reply gives the first documents of the result, and a cursor that holds what is left
pub record OpensWith (history : List Step) (q : Query) (position : ℕ) (id : ℤ) (documents : List Fields) : Type 0 where
  pub left : List Fields
  pub fixed : result (state_of (take (suc position) history)) q ≡ Some (documents ++ left)
  pub holds : HoldsLeft (state_of history) id left
  pub ends : id ≡ pos 0 → (left ≡ []) ⊎ (q.single ≡ true)

-- what the reply to the command at this position tells
abbrev pub AfterFind : List Step → Query → ℕ → Told → Type 0
AfterFind history q position (opened id space documents token time) = OpensWith history q position id documents
AfterFind history q position (refuses code labels) = Unit {0}
AfterFind history q position (inserted n failures) = ⊥
AfterFind history q position (updated n changed failures) = ⊥
AfterFind history q position (deleted n failures) = ⊥
AfterFind history q position done = ⊥
AfterFind history q position (gave id space documents token) = ⊥
AfterFind history q position killed = ⊥
AfterFind history q position garbled = ⊥

-- what is known while the command waits for its reply
pub record KnowsFinding (calls : List Call) (q : Query) (place : Option ℕ) : Type 0 where
  pub owned : Holds calls (finder place)
  pub queries : (k : ℕ) (call : Call) → place ≡ Some k → slice_get calls k ≡ Some call → asked call.command ≡ asks_query q
  pub coming : (history : List Step) → IsLegal history → Stands calls history → (position : ℕ) (step : Step) → CameAs calls history place position step → AfterFind history q position (told_at step)

-- the same, by how far the command has come
abbrev pub FindingAt : link.Awaited → List Call → Query → Stage → Type 0
FindingAt awaited calls q unsent = Unit {0}
FindingAt awaited calls q (first ticket) = KnowsFinding calls q (awaited ticket)
FindingAt awaited calls q (second ticket) = KnowsFinding calls q (awaited ticket)

abbrev pub finder_at : link.Awaited → Stage → Owner
finder_at awaited unsent = nobody
finder_at awaited (first ticket) = finder (awaited ticket)
finder_at awaited (second ticket) = finder (awaited ticket)

-- the reader behind the first batch, where the command stands at this place of the log
abbrev pub opened_at : Query → ℕ → Batch → Reader
opened_at q place batch = record { query = q; opened = place; doing = still; cursor = batch.id; given = []; ahead = batch.events; losses = 0; refused = false }

-- ---- moves

pub record ReadOn (calls calls' : List Call) (r r' : Reader) : Type 0 where
  pub knows : KnowsRead calls r → KnowsRead calls' r'
  pub passes : KnowsRead calls r → Passes calls calls' (owner_of_reader r) (owner_of_reader r')

-- A reader went from one log and standing to another: it goes on knowing, and each other caller is left alone.
abbrev pub ReadMoved : link.LogTold → link.LogTold → Reader → Reader → Type 0
ReadMoved log log' r r' = (calls : List Call) → log ≡ Some calls → (calls' : List Call) × (log' ≡ Some calls') × ReadOn calls calls' r r'

-- ---- what this comes to

-- what it gave, in a history in which the log stands: the call opened its cursor at this position
pub record GivenIn (history : List Step) (r : Reader) (call : Call) : Type 0 where
  pub position : ℕ
  pub placed : call.position ≡ Some position
  pub all : List Fields
  pub fixed : result (state_of (take (suc position) history)) r.query ≡ Some all
  pub portions : List Portion
  pub given : Given all portions r.given
  pub few : losses_in portions ≤ r.losses

-- In every legal history in which the log stands, the documents given are the first of the result without the lost batches.
pub record HasGiven (calls : List Call) (r : Reader) : Type 0 where
  pub opened : OpenedBy calls r
  pub each : (history : List Step) → IsLegal history → Stands calls history → GivenIn history r opened.call
