-- A link at one moment, and what each poll over it keeps.
use Rattle.std.specs.Prelude.{◌≡◌, ℕ, ℤ, Option}
use Rattle.mg_link.specs.Acts.{PendsAfter, Tickets}
use Rattle.mg_link.specs.Causes.{Rose}
use Rattle.mg_link.specs.Link.{Awaited, LogTold, Later}
use Rattle.mg_link.specs.declared.action.Step.{Step}
use Rattle.mg_link.specs.declared.action.Step.TheVariants as step
use Rattle.mg_link.specs.declared.error.Error.{Error}
use Rattle.mg_link.specs.declared.error.ErrorKind.TheVariants as kind

-- what a link tells of itself
pub record Moment : Type 1 where
  -- the tickets that are out, and the calls, where it tells them
  pub awaited : Awaited
  pub log : LogTold
  -- how many faults and how many pending replies it answered
  pub faults : ℕ
  pub pends : ℕ
  pub wire : ℤ
  -- holds where it never again fails or lets a reply pend
  pub prompt : Type 0

-- the same, by its parts
abbrev pub moment : Awaited → LogTold → ℕ → ℕ → ℤ → Type 0 → Moment
moment awaited log faults pends wire prompt = record { awaited = awaited; log = log; faults = faults; pends = pends; wire = wire; prompt = prompt }

-- how a poll ended
pub data Ending : Type 0 where
  -- a reply pends, and the next poll goes on
  pending : Ending
  finished : Ending
  failed : (e : Error) → Ending

abbrev pub step_ending : {S T : Type 0} → Step S T → Ending
step_ending (step.Pending s) = pending
step_ending (step.Done t) = finished
step_ending (step.Failed e) = failed e

-- a reply pends just where the count of pending replies rose by one, and then its ticket is held
abbrev pub PendsJust : Ending → Option ℕ → ℕ → ℕ → Type 0
PendsJust pending ticket before now = PendsAfter 1 ticket before now
PendsJust finished ticket before now = now ≡ before
PendsJust (failed e) ticket before now = now ≡ before

-- it fails by the link only where the count of faults rose
abbrev pub LosesByFault : Ending → ℕ → ℕ → Type 0
LosesByFault pending before now = Unit {0}
LosesByFault finished before now = Unit {0}
LosesByFault (failed e) before now = e.kind ≡ kind.Io → Rose before now

-- it neither pends nor fails by the link
abbrev pub IsAtOnce : Ending → Type 0
IsAtOnce pending = ⊥
IsAtOnce finished = Unit {0}
IsAtOnce (failed e) = e.kind ≡ kind.Io → ⊥

-- What each poll keeps that began and ended at these moments, with these tickets in hand.
pub record LinkKeeps (m m' : Moment) (ticket ticket' : Option ℕ) (ending : Ending) : Type 0 where
  -- the tickets of others stay
  pub tickets : Tickets m.awaited m'.awaited ticket ticket'
  pub pended : PendsJust ending ticket' m.pends m'.pends
  pub lost : LosesByFault ending m.faults m'.faults
  pub prompt : m.prompt → IsAtOnce ending
  -- the counts did not fall, and the wire version is the same
  pub later : Later m.faults m'.faults m.pends m'.pends m.wire m'.wire m.prompt m'.prompt
