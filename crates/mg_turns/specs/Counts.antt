-- What is counted of a turn.
use Rattle.std.specs.Prelude.{◌≡◌, ◌+◌, ◌-◌, ◌^◌, ◌<◌, ◌≤◌, ℕ, zero, suc, Bool, true, false, nat_eq, Option, Some, None, is_some, IsSome, List, [], ◌∷◌, length, slice_get, if◌then◌else◌}
use Rattle.mg_server.specs.Calls.{Stays}
use Rattle.mg_link.specs.Causes.{RoseJust, one_if}
use Rattle.mg_link.specs.Link.{Awaited, OneMore, Polls, SamePolls, LogTold}
use Rattle.mg_link.specs.Log.{fault, Call}
use Rattle.mg_turns.specs.declared.turned.Turned.{Turned}

-- so many commands were started between two states of a log, where it is told
abbrev pub StartedBy : ℕ → LogTold → LogTold → Type 0
StartedBy n old new = (calls : List Call) → old ≡ Some calls → (calls' : List Call) × (new ≡ Some calls') × (length calls' ≡ length calls + n)

-- the count of pending replies rose by one, or is the same
abbrev pub RoseIf : Bool → ℕ → ℕ → Type 0
RoseIf true before now = RoseJust 1 before now
RoseIf false before now = now ≡ before

-- a call that has seen a fault had seen it before
abbrev pub Faultless : List Call → List Call → Type 0
Faultless calls calls' = (place : ℕ) (call : Call) → slice_get calls' place ≡ Some call → call.seen ≡ fault → slice_get calls place ≡ Some call

-- the same of logs that are told
abbrev pub LosesNothing : LogTold → LogTold → Type 0
LosesNothing log log' = (calls : List Call) → log ≡ Some calls → (calls' : List Call) × (log' ≡ Some calls') × Faultless calls calls'

-- a link that was prompt is so still, let nothing pend, and lost nothing
abbrev pub StayedPrompt : LogTold → LogTold → Type 0 → Type 0 → Type 0 → Type 0
StayedPrompt old new prompts prompts' none_pended = prompts → prompts' × none_pended × LosesNothing old new

-- what was counted since a turn began is true of the link: so many commands, and so many polls that pended
pub record Counted (old new : LogTold) (started pended before now : ℕ) (prompts prompts' : Type 0) : Type 0 where
  pub starts : StartedBy started old new
  pub stays : Stays old new
  pub pends : pended < 2 ^ 64 - 1 → RoseJust pended before now
  pub never_less : before ≤ now
  pub prompt : StayedPrompt old new prompts prompts' (pended ≡ 0)

-- The note is true of the turn: it started so many commands, and one poll of it pended where the note says so, else none.
pub record IsNoted (note : Turned) (old new : LogTold) (before now : ℕ) (prompts prompts' : Type 0) : Type 0 where
  pub starts : StartedBy note.started old new
  pub stays : Stays old new
  pub pends : RoseIf note.pended before now
  pub never_less : before ≤ now
  pub prompt : StayedPrompt old new prompts prompts' (note.pended ≡ false)

-- ---- the calls of a turn

-- the ticket is this one
abbrev pub is_held : Option ℕ → ℕ → Bool
is_held None n = false
is_held (Some m) n = nat_eq m n

-- A turn is shown the ticket that its job held as it began, and those that were not out then.
abbrev pub shown : Option ℕ → (began now : Awaited) → Awaited
shown held began now n = if is_held held n then now n else (if is_some (began n) then None else now n)

-- since a turn began of a job that held this ticket, the tickets of others are as they were
abbrev pub OthersStay : Option ℕ → (began now : Awaited) → Type 0
OthersStay held began now = (n : ℕ) → is_held held n ≡ false → IsSome (began n) → now n ≡ began n

-- The newest call of a turn stands at this place of the log, from which on to which other the turn led.
pub data NewestAt (held : Option ℕ) (began : Awaited) (calls calls' : List Call) (place : ℕ) : Type 0 where
  -- it is the last one that the turn sent
  sent_last : length calls < length calls' → place + 1 ≡ length calls' → NewestAt held began calls calls' place
  -- the turn sent none, and it is that of the ticket which its job held as it began
  was_held : length calls' ≡ length calls → (n : ℕ) → held ≡ Some n → began n ≡ Some place → NewestAt held began calls calls' place

-- the same of logs that are told
abbrev pub IsNewest : Option ℕ → Awaited → (from to : LogTold) → ℕ → Type 0
IsNewest held began from to place = (calls : List Call) → from ≡ Some calls → (calls' : List Call) × (to ≡ Some calls') × NewestAt held began calls calls' place

-- where a ticket is held, its call is the newest of the turn
abbrev pub HoldsNewest : (held after : Option ℕ) → (began now : Awaited) → (from to : LogTold) → Type 0
HoldsNewest held after began now from to = (n place : ℕ) → after ≡ Some n → now n ≡ Some place → IsNewest held began from to place

-- so many polls pended, one behind the other, each of a call of which this holds
abbrev pub PolledBy : ℕ → (ℕ → Type 0) → (before now : Polls) → Type 0
PolledBy zero own before now = SamePolls before now
PolledBy (suc n) own before now = (between : Polls) × PolledBy n own before between × ((place : ℕ) × own place × OneMore place between now)

-- The tickets and the polls of a turn, of which so many pended: no ticket of its own is out but this one, that of its newest call, and no other call was
-- polled and pended.
pub record IsOwnTurn (held : Option ℕ) (began now : Awaited) (from to : LogTold) (out : Option ℕ) (pended : ℕ) (before after : Polls) : Type 0 where
  pub others : OthersStay held began now
  pub only : (n : ℕ) → IsSome (shown held began now n) → out ≡ Some n
  pub newest : HoldsNewest held out began now from to
  pub polls : pended < 2 ^ 64 - 1 → PolledBy pended (IsNewest held began from to) before after

-- One poll of a turn pended, or none: that was of the newest call of the turn, and so is the ticket that its job holds behind it.
pub record PolledNewest (pended : Bool) (held after : Option ℕ) (began now : Awaited) (from to : LogTold) (polls polls' : Polls) : Type 0 where
  pub polled : PolledBy (one_if pended) (IsNewest held began from to) polls polls'
  pub holds : HoldsNewest held after began now from to

-- ---- the notes of many turns

-- Turn by turn the notes lead from one log, and one count of pending replies, to another. A turn started as many commands as its note says, behind those
-- of the turns before it, and the count rose by one just where the note says that it pended.
abbrev pub AreNoted : List Turned → (old new : LogTold) → (before now : ℕ) → Type 0
AreNoted [] old new before now = (new ≡ old) × (now ≡ before)
AreNoted (note ∷ notes) old new before now =
    (log : LogTold) × (count : ℕ) × StartedBy note.started old log × Stays old log × RoseIf note.pended before count × AreNoted notes log new count now

-- how many turns pended
abbrev pub turns_pended : List Turned → ℕ
turns_pended [] = 0
turns_pended (note ∷ notes) = one_if note.pended + turns_pended notes
