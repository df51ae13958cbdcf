-- What an attempt and its reading are seen as, for private clauses.
use Rattle.std.specs.Prelude.{◌≡◌, ◌&&◌, ℕ, ℤ, List, Bool, true, false, if◌then◌else◌}
use Rattle.mg_bson.specs.Raw.{IsDocument, fields}
use Rattle.mg_exec.specs.declared.attempt.Attempt.{Attempt}
use Rattle.mg_exec.specs.declared.attempt.Attempt.TheVariants as attempt
use Rattle.mg_exec.specs.declared.attempt.Judged.{Judged}
use Rattle.mg_exec.specs.declared.attempt.Judged.TheVariants as judged
use Rattle.mg_link.specs.declared.reply.Verdict.TheVariants as verdict
use Rattle.mg_link.specs.Causes.{Rose, RoseJust}
use Rattle.mg_link.specs.Log.{waiting, reply, fault, memory}
use Rattle.mg_link.specs.Reply.{verdict_of}
use Rattle.mg_link.specs.declared.action.Step.{Step}
use Rattle.mg_link.specs.Link.{Awaited, LogTold}
use Rattle.mg_link.specs.Exec as exec

abbrev pub attempt_of : Attempt → exec.Attempt
attempt_of attempt.NotSent = exec.not_sent
attempt_of (attempt.Waits ticket) = exec.waits ticket
attempt_of (attempt.Reply bytes) = exec.answered (reply bytes.items)
attempt_of attempt.Fault = exec.answered fault
attempt_of attempt.Memory = exec.answered memory

-- the count of pending replies rose by one just where the attempt waits, and that of faults where it is lost
abbrev pub HasCounts : exec.Attempt → ℕ → ℕ → ℕ → ℕ → Type 0
HasCounts exec.not_sent faulted faulted' pended pended' = pended' ≡ pended
HasCounts (exec.waits ticket) faulted faulted' pended pended' = RoseJust 1 pended pended'
HasCounts (exec.answered waiting) faulted faulted' pended pended' = pended' ≡ pended
HasCounts (exec.answered (reply bytes)) faulted faulted' pended pended' = pended' ≡ pended
HasCounts (exec.answered fault) faulted faulted' pended pended' = Rose faulted faulted' × (pended' ≡ pended)
HasCounts (exec.answered memory) faulted faulted' pended pended' = pended' ≡ pended

-- the attempt neither waits nor is lost
abbrev pub IsAtOnce : exec.Attempt → Type 0
IsAtOnce exec.not_sent = Unit {0}
IsAtOnce (exec.waits ticket) = ⊥
IsAtOnce (exec.answered waiting) = Unit {0}
IsAtOnce (exec.answered (reply bytes)) = Unit {0}
IsAtOnce (exec.answered fault) = ⊥
IsAtOnce (exec.answered memory) = Unit {0}

-- the attempt was read so
abbrev pub Reads : exec.Attempt → Judged → Type 0
Reads a (judged.Waits ticket) = a ≡ exec.waits ticket
Reads a (judged.Success bytes) = (a ≡ exec.answered (reply bytes)) × IsDocument bytes × (verdict_of (fields bytes) ≡ verdict.Success)
Reads a (judged.Refusal r) = (a ≡ exec.answered (reply r.reply)) × IsDocument r.reply × (verdict_of (fields r.reply) ≡ verdict.Refusal)
Reads a judged.Lost = a ≡ exec.answered fault
Reads a (judged.Failed e) = ((wire : ℤ) → exec.AttemptFails a wire e) × (exec.is_retried_attempt a ≡ false)

-- the stage of an attempt that waits, the first or the second
abbrev pub stage_held : Bool → ℕ → exec.Stage
stage_held again ticket = if again then exec.second ticket else exec.first ticket

-- a command that waits, for the first time or again
abbrev pub held : List ℕ → Bool → Bool → ℕ → exec.Sending
held command retries again ticket = record { command = command; retries = retries; stage = stage_held again ticket }

-- the attempt is the last, and nothing more is sent
pub record Stops (old new : Awaited) (log log' : LogTold) (wire : ℤ) (command : List ℕ) (retries : Bool) (attempt : exec.Attempt) (pended pended' : ℕ) (result : Step exec.Sending (List ℕ)) : Type 0 where
  pub awaited_same : new ≡ old
  pub log_same : log' ≡ log
  pub pended_same : pended' ≡ pended
  pub last : retries && exec.is_retried_attempt attempt ≡ false
  pub gives : exec.AttemptGives attempt wire (held command retries false) result

-- the command is sent once more
pub record Repeats (old new : Awaited) (log log' : LogTold) (wire : ℤ) (command : List ℕ) (retries : Bool) (attempt : exec.Attempt) (faulted faulted' pended pended' : ℕ) (prompts : Type 0) (result : Step exec.Sending (List ℕ)) : Type 0 where
  pub repeated : retries && exec.is_retried_attempt attempt ≡ true
  pub again : exec.Attempt
  pub begins : exec.Begins old new log log' command again
  pub counts : HasCounts again faulted faulted' pended pended'
  pub at_once : prompts → IsAtOnce again
  pub gives : exec.AttemptGives again wire (held command retries true) result
