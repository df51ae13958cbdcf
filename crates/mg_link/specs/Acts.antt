-- What the polls of an action do.
use Rattle.std.specs.Prelude.{◌≡◌, ◌⊎◌, ◌<◌, ◌+◌, ℕ, zero, suc, ℤ, Option, Some, None, IsSome}
use Rattle.mg_link.specs.declared.action.Step.{Step}
use Rattle.mg_link.specs.declared.action.Step.TheVariants.{Pending, Done, Failed}
use Rattle.mg_link.specs.declared.error.ErrorKind.TheVariants as kind
use Rattle.mg_link.specs.Causes.{Rose, RoseJust}
use Rattle.mg_link.specs.Link.{Awaited, LogTold}

-- the ticket, where one is held, is out
abbrev pub IsOut : Awaited → Option ℕ → Type 0
IsOut awaited ticket = (n : ℕ) → ticket ≡ Some n → IsSome (awaited n)

-- one ticket at most goes and one comes: its number is the same or new, all others stay, and no other comes
pub record Tickets (old new : Awaited) (ticket ticket' : Option ℕ) : Type 0 where
  pub held : IsOut new ticket'
  pub rest : (m : ℕ) → (ticket ≡ Some m → ⊥) → IsSome (old m) → new m ≡ old m
  pub origin : (m : ℕ) → ticket' ≡ Some m → (ticket ≡ Some m) ⊎ (old m ≡ None)
  pub only : (m : ℕ) → IsSome (new m) → (ticket' ≡ Some m) ⊎ (IsSome (old m) × (ticket ≡ Some m → ⊥))

-- the ticket that is held afterwards
abbrev pub ticket_after : {S T : Type 0} → (S → Option ℕ) → Step S T → Option ℕ
ticket_after ticket (Pending s) = ticket s
ticket_after ticket (Done t) = None
ticket_after ticket (Failed e) = None

-- a reply pends: its ticket is held, and the count of pending replies rose by so many polls
abbrev pub PendsAfter : ℕ → Option ℕ → ℕ → ℕ → Type 0
PendsAfter polls ticket before now = IsSome ticket × RoseJust polls before now

-- it pends after so many polls that pended, or ended after fewer
abbrev pub PendsBy : {S T : Type 0} → ℕ → (S → Option ℕ) → Step S T → ℕ → ℕ → Type 0
PendsBy n ticket (Pending s) before now = PendsAfter n (ticket s) before now
PendsBy n ticket (Done t) before now = now < before + n
PendsBy n ticket (Failed e) before now = now < before + n

-- it pends after one poll that pended, or the count is the same
abbrev pub Pended : {S T : Type 0} → (S → Option ℕ) → Step S T → ℕ → ℕ → Type 0
Pended ticket (Pending s) before now = PendsAfter 1 (ticket s) before now
Pended ticket (Done t) before now = now ≡ before
Pended ticket (Failed e) before now = now ≡ before

-- it fails by the link only where the count of faults rose
abbrev pub FailsByFault : {S T : Type 0} → Step S T → ℕ → ℕ → Type 0
FailsByFault (Pending s) before now = Unit {0}
FailsByFault (Done t) before now = Unit {0}
FailsByFault (Failed e) before now = e.kind ≡ kind.Io → Rose before now

-- over a prompt link it neither pends nor fails by the link
abbrev pub EndsAtOnce : {S T : Type 0} → Step S T → Type 0
EndsAtOnce (Pending s) = ⊥
EndsAtOnce (Done t) = Unit {0}
EndsAtOnce (Failed e) = e.kind ≡ kind.Io → ⊥

-- ---- several polls

-- what a poll does to the tickets and the calls of its link, over a wire version, from a state to what it answers
abbrev pub PollDoes : Type 0 → Type 0 → Type 1
PollDoes S T = Awaited → Awaited → LogTold → LogTold → ℤ → S → Step S T → Type 0

-- so many polls pended, each from the state that the one before gave back
abbrev pub Pendings : {S T : Type 0} → PollDoes S T → ℕ → Awaited → Awaited → LogTold → LogTold → ℤ → S → S → Type 0
Pendings {S} {T} does zero old new log log' wire s s' = (new ≡ old) × (log' ≡ log) × (s' ≡ s)
Pendings {S} {T} does (suc n) old new log log' wire s s' = (between : Awaited) × (log_between : LogTold) × (mid : S) × Pendings does n old between log log_between wire s mid × does between new log_between log' wire mid (Pending s')

abbrev pub StillPends : {S T : Type 0} → Step S T → Type 0
StillPends (Pending s) = Unit {0}
StillPends (Done t) = ⊥
StillPends (Failed e) = ⊥

-- An action was polled at most so many times, and this is what its last poll answered: all polls before it pended, and it did only as the last one that there could be.
pub record RunsBy {S T : Type 0} (does : PollDoes S T) (most : ℕ) (old new : Awaited) (log log' : LogTold) (wire : ℤ) (s : S) (r : Step S T) : Type 0 where
  pub pendings : ℕ
  pub within : pendings < most
  pub last : StillPends r → pendings + 1 ≡ most
  pub between : Awaited
  pub log_between : LogTold
  pub state : S
  pub pended : Pendings does pendings old between log log_between wire s state
  pub answers : does between new log_between log' wire state r
