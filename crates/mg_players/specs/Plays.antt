-- What a turn does to a job, said over the words of its kind.
use Rattle.std.specs.List.{concat}
use Rattle.std.specs.Prelude.{◌≡◌, ◌⊎◌, ◌<◌, ◌≤◌, ◌++◌, ℕ, ℤ, Bool, suc, List, length, Option, Some, slice_get}
use Rattle.mg_link.specs.Acts.{IsOut, Tickets}
use Rattle.mg_server.specs.Calls.{AddsOnly}
use Rattle.mg_link.specs.Link.{Awaited, LogTold}
use Rattle.mg_link.specs.Log.{Call}
use Rattle.mg_server.specs.Owner.{IsOf, Owner, Passes}
use Rattle.mg_players.specs.Causes.{sent_since}
use Rattle.mg_players.specs.Drawing.{sent_from, supply_from}
use Rattle.mg_players.specs.Follows.{Placing, same_place}
use Rattle.mg_players.specs.Losses.{Part}
use Rattle.mg_players.specs.Puts.{IsMoment, Supply}
use Rattle.mg_players.specs.Sends.{MaySend}
use Rattle.mg_script.specs.Plan.{Task}

-- ---- what a job sent

-- The places in the log of what a job sent: for its opening, for each of its calls, and for what goes on, which is all of a job that has neither.
pub record Places : Type 0 where
  pub opened : List ℕ
  pub owns : List (List ℕ)
  pub now : List ℕ

-- all of them, in the order in which they were sent
abbrev pub all_places : Places → List ℕ
all_places q = q.opened ++ (concat q.owns ++ q.now)

-- the place is one of what went on, or was sent at from one place on, up to another
abbrev pub IsNow : Places → ℕ → ℕ → ℕ → Type 0
IsNow q from upto place = IsOf q.now place ⊎ ((from ≤ place) × (place < upto))

-- behind a turn that sent at the places from one on, up to another, these are told behind those before, each as what was sent for what goes on
pub record Extends (q q' : Places) (n n' : ℕ) (from upto : ℕ) : Type 0 where
  pub opened : (place : ℕ) → IsOf q'.opened place → IsOf q.opened place ⊎ ((n ≡ 0) × IsNow q from upto place)
  pub owns : (k : ℕ) (own : List ℕ) → slice_get q'.owns k ≡ Some own → (slice_get q.owns k ≡ Some own) ⊎ ((suc k ≡ n) × ((place : ℕ) → IsOf own place → IsNow q from upto place))
  pub now : (place : ℕ) → IsOf q'.now place → (n' ≡ n) × IsNow q from upto place
  pub whole : all_places q' ≡ sent_since (all_places q) from upto

-- ---- words of a kind

-- what a job knows of its server, where it is this to the other jobs and the call at this place opened its stream
abbrev pub Knowledge : Type 0 → Type 1
Knowledge P = Awaited → List Call → P → Owner → Option ℕ → Type 0

-- what it tells of what it sent at these places, where it is supplied so, its task is sent as this one, and the call at this place opened its stream
abbrev pub Account : Type 0 → Type 1
Account P = Awaited → List Call → ℤ → Places → Supply → Task → P → Option ℕ → Type 0

-- it may be given a turn over a link
pub record CanGo {P : Type 0} (ticket : P → Option ℕ) (keeps : ℤ → P → Type 0) (awaited : Awaited) (wire : ℤ) (p : P) : Type 0 where
  pub out : IsOut awaited (ticket p)
  pub holds : keeps wire p

-- ---- a turn

-- how a turn says which call opened the stream of its job: by the one before; or it was one of those that it waited for at these places, or that the turn sent
pub data Moves : Type 0 where
  by_placing : (next : Placing) → Moves
  by_finding : (waited : List (Option ℕ)) → Moves

abbrev pub no_move : Moves
no_move = by_placing same_place

-- behind a turn from one log to another it is the second, where it was the first
abbrev pub MovesTo : Moves → List Call → List Call → Option ℕ → Option ℕ → Type 0
MovesTo (by_placing next) calls calls' at at' = at' ≡ next at
MovesTo (by_finding waited) calls calls' at at' = (place : ℕ) × (at' ≡ Some place) × (IsOf waited (Some place) ⊎ ((length calls ≤ place) × (place < length calls')))

pub record Took {P : Type 0} (knows : Knowledge P) (awaited : Awaited) (calls calls' : List Call) (p : P) (o : Owner) (next : Moves) (at : Option ℕ) : Type 0 where
  pub place : Option ℕ
  pub placed : MovesTo next calls calls' at place
  pub owner : Owner
  pub plays : knows awaited calls' p owner place
  pub passes : Passes calls calls' o owner

-- A job took a turn: it knows what it should, and leaves every other job alone.
abbrev pub Turns : {P : Type 0} → Knowledge P → Awaited → Awaited → LogTold → LogTold → P → P → Moves → Type 0
Turns knows old new log log' p p' next = (calls : List Call) → log ≡ Some calls → (o : Owner) (at : Option ℕ) → knows old calls p o at
    → (calls' : List Call) × (log' ≡ Some calls') × Took knows new calls calls' p' o next at

-- what a job tells behind a turn that led from one log to another, where it told of these places before
pub record TellsBehind {P : Type 0} (says : Account P) (number : P → ℕ) (awaited : Awaited) (begun calls : List Call) (wire : ℤ) (supply : Supply) (t : Task) (q : Places) (n : ℕ) (p : P) (at : Option ℕ) : Type 0 where
  pub longer : length begun ≤ length calls
  pub places : Places
  pub tells : says awaited calls wire places supply t p at
  pub extends : Extends q places n (number p) (length begun) (length calls)
  pub adds : AddsOnly (MaySend supply t) begun calls

-- whatever a job is supplied with, and its task is sent as
abbrev pub AnySent : Supply → Task → Type 0
AnySent supply t = Unit {0}

-- new records get this moment
abbrev pub SentAt : ℤ → Supply → Task → Type 0
SentAt moment supply t = IsMoment supply.moment moment

-- A turn led a job, which knew what it should, from one state to another: it goes on telling, where this holds of what it is supplied with and of its task as it is sent.
abbrev pub TurnTells : {P : Type 0} → (P → Task) → Knowledge P → Account P → (P → ℕ) → (Supply → Task → Type 0) → Awaited → Awaited → LogTold → LogTold → ℤ → P → P → Moves → Type 0
TurnTells does knows says number so old new log log' wire p p' next = (calls calls' : List Call) → log ≡ Some calls → log' ≡ Some calls' → (supply : Supply) (n : ℕ) → so (supply_from supply n) (sent_from supply.ids n (does p)) → (q : Places) (at at' : Option ℕ)
    → MovesTo next calls calls' at at' → (o : Owner) → knows old calls p o at → says old calls wire q (supply_from supply n) (sent_from supply.ids n (does p)) p at → TellsBehind says number new calls calls' wire (supply_from supply n) (sent_from supply.ids n (does p)) q (number p) p' at'

-- what the first tells, the second tells too, where this holds of what it is supplied with and of its task as it is sent
pub record TellsAs {P : Type 0} (does : P → Task) (says : Account P) (number : P → ℕ) (so : Supply → Task → Type 0) (p p' : P) : Type 0 where
  pub number_same : number p' ≡ number p
  pub tells : (awaited : Awaited) (calls : List Call) (wire : ℤ) (q : Places) (supply : Supply) (n : ℕ) (at : Option ℕ) → so (supply_from supply n) (sent_from supply.ids n (does p)) → says awaited calls wire q (supply_from supply n) (sent_from supply.ids n (does p)) p at → says awaited calls wire q (supply_from supply n) (sent_from supply.ids n (does p)) p' at

-- what a turn does to its job, to the link's tickets, and to what the job knows of its server, and tells where this holds of what it is supplied with and of its
-- task as it is sent
pub record Goes {P : Type 0} (ticket : P → Option ℕ) (keeps : ℤ → P → Type 0) (does : P → Task) (knows : Knowledge P) (says : Account P) (number : P → ℕ) (drew : P → Type 0) (so : Supply → Task → Type 0) (old new : Awaited) (log log' : LogTold) (wire : ℤ) (p p' : P) : Type 0 where
  pub tickets : Tickets old new (ticket p) (ticket p')
  pub holds : keeps wire p'
  pub next : Moves
  pub turned : Turns knows old new log log' p p' next
  pub told : TurnTells does knows says number so old new log log' wire p p' next
  pub task : does p' ≡ does p
  pub has : drew p → drew p'

-- A job got what it needs for a turn. Nothing was sent, and one that had no ids drew them from a source, so that this holds of what it is supplied with and of its
-- task as it is sent.
pub record GetsReady {P : Type 0} (ticket_in : P → Option ℕ) (keeps : ℤ → P → Type 0) (does : P → Task) (plays : Knowledge P) (says : Account P) (number : P → ℕ) (comes ready : ℕ → P → ℕ → Bool → Type 0) (drew : P → Type 0) (lost : P → Part → Type 0) (so : Supply → Task → Type 0) (p q : P) : Type 0 where
  pub ticket : ticket_in q ≡ ticket_in p
  pub holds : (wire : ℤ) → keeps wire p → keeps wire q
  pub knows : (awaited : Awaited) (calls : List Call) (o : Owner) (at : Option ℕ) → plays awaited calls p o at → plays awaited calls q o at
  pub task : does q ≡ does p
  pub at : (calls k : ℕ) (last : Bool) → comes calls p k last → ready calls q k last
  pub tells : TellsAs does says number so p q
  pub has : drew p → drew q
  pub lost_same : (part : Part) → lost q part → lost p part
