-- How a command is sent, once or twice, and what comes of it.
use Rattle.std.specs.Prelude.{◌≡◌, ◌⊎◌, ◌&&◌, ℕ, ℤ, List, Bool, true, false, Option, Some, None}
use Rattle.mg_bson.specs.Tree.{Fields}
use Rattle.mg_bson.specs.Raw.{fields}
use Rattle.mg_bson.specs.Reading.{doc}
use Rattle.mg_link.specs.declared.action.Step.{Step}
use Rattle.mg_link.specs.declared.action.Step.TheVariants as step
use Rattle.mg_link.specs.declared.error.Error.{Error}
use Rattle.mg_link.specs.declared.error.ErrorKind.TheVariants as kind
use Rattle.mg_link.specs.declared.error.Malformed.TheVariants as malformed
use Rattle.mg_link.specs.declared.reply.Verdict.{Verdict}
use Rattle.mg_link.specs.declared.reply.Verdict.TheVariants as verdict
use Rattle.mg_link.specs.Errors.{plain}
use Rattle.mg_link.specs.Failures.{ErrorTells}
use Rattle.mg_link.specs.Link.{Awaited, LogTold, Starts, Sends, SendsNothing, Waits, Ends}
use Rattle.mg_link.specs.Log.{Sight, waiting, reply, fault, memory}
use Rattle.mg_link.specs.Reply.{refusal_of, verdict_of}
use Rattle.mg_link.specs.Retry.{is_retried}

-- how far a command has come: it was not sent, or its first or second attempt waits
pub data Stage : Type 0 where
  unsent : Stage
  first : (ticket : ℕ) → Stage
  second : (ticket : ℕ) → Stage

-- a command, whether it may be sent once more, and how far it has come
pub record Sending : Type 0 where
  pub command : List ℕ
  pub retries : Bool
  pub stage : Stage

-- what came of one attempt so far
pub data Attempt : Type 0 where
  not_sent : Attempt
  waits : (ticket : ℕ) → Attempt
  answered : (seen : Sight) → Attempt

-- the ticket that is held
abbrev pub ticket_at : Stage → Option ℕ
ticket_at unsent = None
ticket_at (first ticket) = Some ticket
ticket_at (second ticket) = Some ticket

-- it was not sent, or its first attempt waits
abbrev pub IsFirstTry : Stage → Type 0
IsFirstTry unsent = Unit {0}
IsFirstTry (first ticket) = Unit {0}
IsFirstTry (second ticket) = ⊥

abbrev pub ticket_of : Sending → Option ℕ
ticket_of s = ticket_at s.stage

-- what an attempt that begins does to the link
abbrev pub Begins : Awaited → Awaited → LogTold → LogTold → List ℕ → Attempt → Type 0
Begins old new log log' command not_sent = SendsNothing old new log log'
Begins old new log log' command (waits ticket) = Starts old new log log' ticket command
Begins old new log log' command (answered seen) = Sends old new log log' command seen

-- what an attempt that waited does to the link
abbrev pub GoesOn : Awaited → Awaited → LogTold → LogTold → ℕ → Attempt → Type 0
GoesOn old new log log' ticket not_sent = ⊥
GoesOn old new log log' ticket (waits given) = Waits old new log log' ticket given
GoesOn old new log log' ticket (answered seen) = Ends old new log log' ticket seen

-- what the attempt at this stage does to the link
abbrev pub Tries : Awaited → Awaited → LogTold → LogTold → List ℕ → Stage → Attempt → Type 0
Tries old new log log' command unsent attempt = Begins old new log log' command attempt
Tries old new log log' command (first ticket) attempt = GoesOn old new log log' ticket attempt
Tries old new log log' command (second ticket) attempt = GoesOn old new log log' ticket attempt

abbrev pub is_retried_attempt : Attempt → Bool
is_retried_attempt not_sent = false
is_retried_attempt (waits ticket) = false
is_retried_attempt (answered seen) = is_retried seen

-- the command is sent once more: it may be, it was not yet, and its first attempt was lost or refused
abbrev pub is_repeated : Bool → Stage → Attempt → Bool
is_repeated retries (second ticket) attempt = false
is_repeated retries unsent attempt = retries && is_retried_attempt attempt
is_repeated retries (first ticket) attempt = retries && is_retried_attempt attempt

-- a reply whose `ok` is 1
abbrev pub IsSuccess : List ℕ → Type 0
IsSuccess bytes = verdict_of (fields bytes) ≡ verdict.Success

-- why a reply is no success; want of memory may take the place of a refusal
abbrev pub FailsAs : Verdict → Fields → ℤ → Error → Type 0
FailsAs verdict.Success said wire e = ⊥
FailsAs verdict.Refusal said wire e = (e ≡ plain kind.OutOfMemory) ⊎ ErrorTells (refusal_of said) wire e
FailsAs verdict.NoOk said wire e = e ≡ plain (kind.InvalidResponse malformed.NoOk)

abbrev pub FailsByReply : Option Fields → ℤ → Error → Type 0
FailsByReply None wire e = e ≡ plain kind.BsonDeserialization
FailsByReply (Some said) wire e = FailsAs (verdict_of said) said wire e

-- why an attempt failed
abbrev pub AttemptFails : Attempt → ℤ → Error → Type 0
AttemptFails not_sent wire e = e ≡ plain kind.OutOfMemory
AttemptFails (waits ticket) wire e = ⊥
AttemptFails (answered waiting) wire e = ⊥
AttemptFails (answered (reply bytes)) wire e = FailsByReply (doc bytes) wire e
AttemptFails (answered fault) wire e = e ≡ plain kind.Io
AttemptFails (answered memory) wire e = e ≡ plain kind.OutOfMemory

-- what a poll answers by what came of its last attempt
abbrev pub AttemptGives : Attempt → ℤ → (ℕ → Sending) → Step Sending (List ℕ) → Type 0
AttemptGives attempt wire holding (step.Pending s) = (ticket : ℕ) × (attempt ≡ waits ticket) × (s ≡ holding ticket)
AttemptGives attempt wire holding (step.Done bytes) = (attempt ≡ answered (reply bytes)) × IsSuccess bytes
AttemptGives attempt wire holding (step.Failed e) = AttemptFails attempt wire e

-- the stage of an attempt that waits still, or waits now
abbrev pub holding : Stage → ℕ → Stage
holding unsent ticket = first ticket
holding (first old) ticket = first ticket
holding (second old) ticket = second ticket

-- a poll with one attempt, which is not repeated
pub record Once (old new : Awaited) (log log' : LogTold) (wire : ℤ) (s : Sending) (result : Step Sending (List ℕ)) : Type 0 where
  pub attempt : Attempt
  pub tries : Tries old new log log' s.command s.stage attempt
  pub last : is_repeated s.retries s.stage attempt ≡ false
  pub gives : AttemptGives attempt wire (λ ticket. record s { stage = holding s.stage ticket }) result

-- a poll whose attempt was lost or refused, and in which the same command was sent once more
pub record Twice (old new : Awaited) (log log' : LogTold) (wire : ℤ) (s : Sending) (result : Step Sending (List ℕ)) : Type 0 where
  pub attempt : Attempt
  pub between : Awaited
  pub log_between : LogTold
  pub tries : Tries old between log log_between s.command s.stage attempt
  pub repeated : is_repeated s.retries s.stage attempt ≡ true
  pub again : Attempt
  pub begins : Begins between new log_between log' s.command again
  pub gives : AttemptGives again wire (λ ticket. record s { stage = second ticket }) result

-- what a poll does
abbrev pub Runs : Awaited → Awaited → LogTold → LogTold → ℤ → Sending → Step Sending (List ℕ) → Type 0
Runs old new log log' wire s result = Once old new log log' wire s result ⊎ Twice old new log log' wire s result

-- ---- the start of a command

abbrev pub was_sent : Attempt → Bool
was_sent not_sent = false
was_sent (waits ticket) = true
was_sent (answered seen) = true

-- the first attempt began in this poll, and was sent
abbrev pub was_started : Stage → Attempt → Bool
was_started unsent attempt = was_sent attempt
was_started (first ticket) attempt = false
was_started (second ticket) attempt = false

-- what a poll does, and whether the command was started in it
abbrev pub RunsStarting : Awaited → Awaited → LogTold → LogTold → ℤ → Sending → Step Sending (List ℕ) → Bool → Type 0
RunsStarting old new log log' wire s result started =
    ((once : Once old new log log' wire s result) × (started ≡ was_started s.stage once.attempt))
    ⊎ ((twice : Twice old new log log' wire s result) × (started ≡ was_started s.stage twice.attempt))
