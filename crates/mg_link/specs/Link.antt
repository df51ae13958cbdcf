-- What the calls of a link do to its tickets and its log.
use Rattle.std.specs.Prelude.{◌≡◌, ◌≢◌, ◌≤◌, ◌+◌, ◌++◌, ◌∷◌, ℕ, ℤ, Option, Some, None, List, [], length, slice_get, IsSome, Result, Ok, Err}
use Rattle.mg_link.specs.declared.link.LinkError.{LinkError}
use Rattle.mg_link.specs.declared.link.LinkError.TheVariants as error
use Rattle.mg_link.specs.declared.link.Polled.{Polled}
use Rattle.mg_link.specs.declared.link.Polled.TheVariants as polled
use Rattle.mg_link.specs.declared.link.Ticket.{Ticket}
use Rattle.mg_link.specs.Causes.{RoseJust}
use Rattle.mg_link.specs.Log.{Sight, waiting, reply, fault, memory, Call, see}

-- the tickets that are out, each with the place of its call in the log
abbrev pub Awaited : Type 0
Awaited = ℕ → Option ℕ

-- the calls, where the link tells them
abbrev pub LogTold : Type 0
LogTold = Option (List Call)

-- how many polls pended of the call at each place of the log
abbrev pub Polls : Type 0
Polls = ℕ → ℕ

-- a call with this command is added at the end of a log that is told
abbrev pub Adds : LogTold → LogTold → List ℕ → Sight → Type 0
Adds old new command seen = (calls : List Call) → old ≡ Some calls → (position : Option ℕ) × (new ≡ Some (calls ++ record { command = command; position = position; seen = seen } ∷ []))

-- the call at this place of a log that is told, which was waiting, has seen this
abbrev pub Sees : LogTold → LogTold → Option ℕ → Sight → Type 0
Sees old new place seen = (calls : List Call) → old ≡ Some calls → (k : ℕ) × (call : Call) × (place ≡ Some k) × (slice_get calls k ≡ Some call) × (call.seen ≡ waiting) × (new ≡ Some (see k seen calls))

-- a command was started: the number of its ticket is new, and goes with the call that the log has more
pub record Starts (old new : Awaited) (log log' : LogTold) (number : ℕ) (command : List ℕ) : Type 0 where
  pub fresh : old number ≡ None
  pub out : IsSome (new number)
  pub place : (calls : List Call) → log ≡ Some calls → new number ≡ Some (length calls)
  pub rest : (m : ℕ) → m ≢ number → new m ≡ old m
  pub adds : Adds log log' command waiting

-- a command was sent, and nothing more comes of it: no ticket is out for it, and its call has seen this
pub record Sends (old new : Awaited) (log log' : LogTold) (command : List ℕ) (seen : Sight) : Type 0 where
  pub rest : (m : ℕ) → new m ≡ old m
  pub adds : Adds log log' command seen

-- nothing was sent
pub record SendsNothing (old new : Awaited) (log log' : LogTold) : Type 0 where
  pub rest : (m : ℕ) → new m ≡ old m
  pub log_same : log' ≡ log

-- the reply is not there yet: the ticket is given back
pub record Waits (old new : Awaited) (log log' : LogTold) (number given : ℕ) : Type 0 where
  pub same : given ≡ number
  pub rest : (m : ℕ) → new m ≡ old m
  pub log_same : log' ≡ log

-- the call of this number has seen its answer, and its ticket is gone
pub record Ends (old new : Awaited) (log log' : LogTold) (number : ℕ) (seen : Sight) : Type 0 where
  pub gone : new number ≡ None
  pub rest : (m : ℕ) → m ≢ number → new m ≡ old m
  pub sees : Sees log log' (old number) seen

-- what a start does
abbrev pub StartMeans : Awaited → Awaited → LogTold → LogTold → List ℕ → Result Ticket LinkError → Type 0
StartMeans old new log log' command (Ok number) = Starts old new log log' number command
StartMeans old new log log' command (Err error.Fault) = Sends old new log log' command fault
StartMeans old new log log' command (Err error.Memory) = SendsNothing old new log log'

-- what a poll does
abbrev pub PollMeans : Awaited → Awaited → LogTold → LogTold → ℕ → Polled → Type 0
PollMeans old new log log' number (polled.Pending given) = Waits old new log log' number given
PollMeans old new log log' number (polled.Reply bytes) = Ends old new log log' number (reply bytes.items)
PollMeans old new log log' number polled.Failed = Ends old new log log' number fault
PollMeans old new log log' number polled.Memory = Ends old new log log' number memory

-- no further poll pended
abbrev pub SamePolls : Polls → Polls → Type 0
SamePolls before now = (place : ℕ) → now place ≡ before place

-- one more poll pended, of the call at this place
pub record OneMore (place : ℕ) (before now : Polls) : Type 0 where
  pub here : now place ≡ before place + 1
  pub rest : (other : ℕ) → other ≢ place → now other ≡ before other

-- the same of a call that has a place
abbrev pub OneMoreAt : Option ℕ → Polls → Polls → Type 0
OneMoreAt place before now = (at : ℕ) → place ≡ Some at → OneMore at before now

-- where a reply pends, and only there, the count of pending replies rises by one, and that of the call at this place does
abbrev pub PollPends : Polled → (place : Option ℕ) → (before now : ℕ) → (polls polls' : Polls) → Type 0
PollPends (polled.Pending given) place before now polls polls' = RoseJust 1 before now × OneMoreAt place polls polls'
PollPends (polled.Reply bytes) place before now polls polls' = (now ≡ before) × SamePolls polls polls'
PollPends polled.Failed place before now polls polls' = (now ≡ before) × SamePolls polls polls'
PollPends polled.Memory place before now polls polls' = (now ≡ before) × SamePolls polls polls'

-- a prompt link lets nothing pend, and loses nothing by a fault
abbrev pub StartsAtOnce : Result Ticket LinkError → Type 0
StartsAtOnce (Ok number) = Unit {0}
StartsAtOnce (Err error.Fault) = ⊥
StartsAtOnce (Err error.Memory) = Unit {0}

abbrev pub ComesAtOnce : Polled → Type 0
ComesAtOnce (polled.Pending given) = ⊥
ComesAtOnce (polled.Reply bytes) = Unit {0}
ComesAtOnce polled.Failed = ⊥
ComesAtOnce polled.Memory = Unit {0}

-- a link that is prompt stays so, and neither of its counts rises
pub record StaysPrompt (prompts' : Type 0) (faulted faulted' pended pended' : ℕ) : Type 0 where
  pub stays : prompts'
  pub no_fault : faulted' ≡ faulted
  pub no_pend : pended' ≡ pended

-- what holds of a link after more calls: its counts did not fall, its wire version is the same, and it is prompt if it was
pub record Later (faulted faulted' pended pended' : ℕ) (version version' : ℤ) (prompts prompts' : Type 0) : Type 0 where
  pub faults : faulted ≤ faulted'
  pub pends : pended ≤ pended'
  pub wire : version' ≡ version
  pub prompt : prompts → StaysPrompt prompts' faulted faulted' pended pended'
