-- How a stream stands that was opened, and what a call that opens one comes to over all its polls.
use Rattle.std.specs.Prelude.{◌≡◌, ℕ, ℤ, List, [], length, Option, Some, None}
use Rattle.mg_bson.specs.Tree.{Fields}
use Rattle.mg_link.specs.Acts.{EndsAtOnce, FailsByFault, PendsBy, Tickets, ticket_after}
use Rattle.mg_server.specs.Calls.{Keeps, past_of}
use Rattle.mg_link.specs.Exec.{Sending}
use Rattle.mg_server.specs.Follow.{Moved}
use Rattle.mg_link.specs.Link.{Awaited, Later, LogTold}
use Rattle.mg_link.specs.Log.{Call}
use Rattle.mg_link.specs.Moment.{Moment}
use Rattle.mg_link.specs.Session.{Session}
use Rattle.mg_server.specs.State.{Start, Watch}
use Rattle.mg_link.specs.declared.action.Step.{Step}
use Rattle.mg_link.specs.declared.action.Step.TheVariants as step
use Rattle.mg_ops.specs.declared.change_stream.WatchArgs.{WatchArgs}
use Rattle.mg_change.specs.ClientOpenings.{ClientOpening, first_aggregate}
use Rattle.mg_change.specs.ClientStreams.{Asks, ClientStream, IsBetween, resuming_in}
use Rattle.mg_change.specs.Following.{OpensTo, follow_of, not_open, opening_by}
use Rattle.mg_change.specs.OpeningCauses.{StreamOpened, OpeningCame, OpensSoFar}
use Rattle.mg_change.specs.Sent.{Falling, Sent}

-- A stream was opened by the call of the log at whose place its aggregate heard the reply: from there on the stream knows what it watches.
pub record OpenedAt (old new : Awaited) (log log' : LogTold) (wire : ℤ) (args : WatchArgs) (before : Option Sending) (s : ClientStream) : Type 0 where
  pub place : Option ℕ
  pub moved : (w : Watch) (start : Start) → Asks args w start → Moved log log' (opening_by old before w start) (follow_of new w start s place [])
  pub caused : (calls : List Call) → log ≡ Some calls → (places : List ℕ) → OpensSoFar old (past_of places (length calls) calls wire) args before
      → (calls' : List Call) × (log' ≡ Some calls') × (was : StreamOpened (past_of places (length calls) calls' wire) args s) × (place ≡ Some was.heard.place)

-- A stream that was opened has these arguments, and stands between two calls.
pub record Begins (args : WatchArgs) (s : ClientStream) : Type 0 where
  pub args_are : s.aggregate.args ≡ args
  pub rests : IsBetween s

-- ---- a call that opens a stream

-- what it comes to has these arguments
abbrev pub OpenBegins : WatchArgs → Step ClientOpening ClientStream → Type 0
OpenBegins args (step.Pending o) = o.args ≡ args
OpenBegins args (step.Done s) = Begins args s
OpenBegins args (step.Failed e) = Unit {0}

-- the aggregate of these arguments, at whatever place
abbrev pub IsOpening : WatchArgs → ℤ → Option Session → ℕ → Fields → Type 0
IsOpening args wire session place command = command ≡ resuming_in (first_aggregate args) wire session

-- it sent the aggregate, at most twice, and nothing else
pub record OpenSent (log log' : LogTold) (wire : ℤ) (session : Option Session) (args : WatchArgs) : Type 0 where
  pub commands : List Fields
  pub adds : Sent log log' commands
  pub falling : Falling (IsOpening args wire session) 2 commands 0

-- what in the log is the cause of the answer: all that the call sent stands behind the log that it found
abbrev pub OpenCaused : Awaited → LogTold → LogTold → ℤ → Option Session → WatchArgs → Step ClientOpening ClientStream → Type 0
OpenCaused new log log' wire session args r = (calls : List Call) → log ≡ Some calls
    → (calls' : List Call) × (log' ≡ Some calls') × Keeps calls calls' × OpeningCame new (past_of [] (length calls) calls' wire) session args r

-- where the watch is
abbrev pub OpenMoves : Awaited → LogTold → LogTold → WatchArgs → Step ClientOpening ClientStream → Type 0
OpenMoves new log log' args r = (w : Watch) (start : Start) → Asks args w start → OpensTo new log log' (not_open w start) w start r

-- all of it
pub record CallOpens (new : Awaited) (log log' : LogTold) (wire : ℤ) (session : Option Session) (args : WatchArgs) (r : Step ClientOpening ClientStream) : Type 0 where
  pub begins : OpenBegins args r
  pub sent : OpenSent log log' wire session args
  pub caused : OpenCaused new log log' wire session args r
  pub moved : OpenMoves new log log' args r

-- ---- for private clauses

-- what a call keeps that polls at most so many times
pub record OpenKeeps {A B : Type 0} (polls : ℕ) (m m' : Moment) (ticket : A → Option ℕ) (r : Step A B) : Type 0 where
  pub tickets : Tickets m.awaited m'.awaited None (ticket_after ticket r)
  pub pended : PendsBy polls ticket r m.pends m'.pends
  pub lost : FailsByFault r m.faults m'.faults
  pub prompt : m.prompt → EndsAtOnce r
  pub later : Later m.faults m'.faults m.pends m'.pends m.wire m'.wire m.prompt m'.prompt
