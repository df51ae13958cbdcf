-- What comes of an operation that is sent in one call.
use Rattle.std.specs.Prelude.{◌≡◌, ◌⊎◌, ◌-◌, ℕ, ℤ, List, Bool, false}
use Rattle.mg_bson.specs.Raw.{fields}
use Rattle.mg_bson.specs.Tree.{Fields}
use Rattle.mg_link.specs.Acts.{EndsAtOnce, FailsByFault, RunsBy}
use Rattle.mg_link.specs.Exec.{Runs, RunsStarting, Sending}
use Rattle.mg_link.specs.Link.{Awaited, LogTold, SendsNothing}
use Rattle.mg_link.specs.declared.action.Step.{Step}
use Rattle.mg_link.specs.declared.action.Step.TheVariants as step
use Rattle.mg_link.specs.declared.error.Error.{Error}
use Rattle.mg_ops.specs.Failing.{FailsBy}

-- the reply was read, where there is one: it gives this, or is such an error; a request that pends or failed is told as it is
abbrev pub ReadsReply : {T : Type 0} → (List ℕ → T → Type 0) → (Fields → Error → Type 0) → Step Sending (List ℕ) → Step Sending T → Type 0
ReadsReply gives fails (step.Pending s) r = r ≡ step.Pending s
ReadsReply gives fails (step.Failed e) r = r ≡ step.Failed e
ReadsReply gives fails (step.Done reply) (step.Pending s) = ⊥
ReadsReply gives fails (step.Done reply) (step.Done output) = gives reply output
ReadsReply gives fails (step.Done reply) (step.Failed e) = FailsBy (fails (fields reply)) e

-- nothing more was done, and it came to the same
pub record StaysSo (old new : Awaited) (log log' : LogTold) (first came : Step Sending (List ℕ)) : Type 0 where
  pub awaited_same : new ≡ old
  pub log_same : log' ≡ log
  pub came_same : came ≡ first

-- what a request came to behind its first poll: it ended there, or pends and was polled once alone, or as often as was left
abbrev pub ComesOn : ℕ → Awaited → Awaited → LogTold → LogTold → ℤ → Step Sending (List ℕ) → Step Sending (List ℕ) → Type 0
ComesOn most old new log log' wire (step.Pending s) came = ((most ≡ 1) × StaysSo old new log log' (step.Pending s) came) ⊎ RunsBy Runs (most - 1) old new log log' wire s came
ComesOn most old new log log' wire (step.Done reply) came = StaysSo old new log log' (step.Done reply) came
ComesOn most old new log log' wire (step.Failed e) came = StaysSo old new log log' (step.Failed e) came

-- A request was polled at most so many times and came to this; whether it was started in the first of them. It failed by the link only where the count of faults rose,
-- and over a prompt link it neither pends nor does that.
pub record CameTo (most : ℕ) (old new : Awaited) (log log' : LogTold) (wire : ℤ) (faults faults' : ℕ) (prompts : Type 0) (sending : Sending) (started : Bool) (came : Step Sending (List ℕ)) : Type 0 where
  pub between : Awaited
  pub log_between : LogTold
  pub first : Step Sending (List ℕ)
  pub begins : RunsStarting old between log log_between wire sending first started
  pub goes_on : ComesOn most between new log_between log' wire first came
  pub lost : FailsByFault came faults faults'
  pub at_once : prompts → EndsAtOnce came

-- What one call makes of an operation: its command was not built, and nothing was sent or started; or it was sent, and what came of that was read.
pub data RunsAs {T : Type 0} (most : ℕ) (old new : Awaited) (log log' : LogTold) (wire : ℤ) (faults faults' : ℕ) (prompts : Type 0) (sending : Sending) (unfit : Error → Type 0) (gives : List ℕ → T → Type 0) (fails : Fields → Error → Type 0) (started : Bool) (r : Step Sending T) : Type 0 where
  not_built : (e : Error) → FailsBy unfit e → SendsNothing old new log log' → started ≡ false → r ≡ step.Failed e → RunsAs most old new log log' wire faults faults' prompts sending unfit gives fails started r
  was_sent : (came : Step Sending (List ℕ)) → CameTo most old new log log' wire faults faults' prompts sending started came → ReadsReply gives fails came r → RunsAs most old new log log' wire faults faults' prompts sending unfit gives fails started r
