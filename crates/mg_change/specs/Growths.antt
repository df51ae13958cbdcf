-- What is sure of a log whatever commands are sent, and what an aggregate comes to that no server takes.
use Rattle.std.specs.Prelude.{◌≡◌, ℕ, List, Option, Some, None, slice_get}
use Rattle.mg_link.specs.declared.action.Step.{Step}
use Rattle.mg_link.specs.declared.action.Step.TheVariants as step
use Rattle.mg_link.specs.Exec.{Sending, ticket_of}
use Rattle.mg_server.specs.History as history
use Rattle.mg_server.specs.History.{IsLegal}
use Rattle.mg_link.specs.Link.{Awaited, LogTold}
use Rattle.mg_link.specs.Log.{Call}
use Rattle.mg_server.specs.Owner.{Onward, Passes, nobody}
use Rattle.mg_server.specs.Standing.{Stands}
use Rattle.mg_change.specs.ClientOpenings.{ClientOpening}
use Rattle.mg_change.specs.ClientStreams.{ClientStream}

-- Each call is still there, what was seen is still seen, and where the log stands in a legal history it stood in an earlier one.
abbrev pub GoesOnward : LogTold → LogTold → Type 0
GoesOnward log log' = (calls : List Call) → log ≡ Some calls → (calls' : List Call) × (log' ≡ Some calls') × Onward calls calls' nobody

-- no server that is honest could have given this log
abbrev pub StandsNowhere : List Call → Type 0
StandsNowhere calls = (h : List history.Step) → IsLegal h → Stands calls h → ⊥

-- ---- an aggregate that no server takes

-- the call of this ticket has this command
abbrev pub HasCommand : Awaited → List Call → List ℕ → Option ℕ → Type 0
HasCommand awaited calls command None = Unit {0}
HasCommand awaited calls command (Some ticket) = (k : ℕ) × (call : Call) × (awaited ticket ≡ Some k) × (slice_get calls k ≡ Some call) × (call.command ≡ command)

-- the aggregate in flight, where there is one, is a call of the log
abbrev pub IsInFlight : Awaited → List Call → Option Sending → Type 0
IsInFlight awaited calls None = Unit {0}
IsInFlight awaited calls (Some exec) = HasCommand awaited calls exec.command (ticket_of exec)

-- what came of it: over an honest link it is refused
abbrev pub ComesToNothing : Awaited → List Call → Step ClientOpening ClientStream → Type 0
ComesToNothing awaited calls (step.Pending o) = IsInFlight awaited calls o.sending
ComesToNothing awaited calls (step.Done s) = StandsNowhere calls
ComesToNothing awaited calls (step.Failed e) = Unit {0}

-- the poll of an opening that asks for nothing: it names no cursor and opens none
abbrev pub OpensInVain : Awaited → Awaited → LogTold → LogTold → Option Sending → Step ClientOpening ClientStream → Type 0
OpensInVain old new log log' exec result = (calls : List Call) → log ≡ Some calls → IsInFlight old calls exec
    → (calls' : List Call) × (log' ≡ Some calls') × Passes calls calls' nobody nobody × ComesToNothing new calls' result
