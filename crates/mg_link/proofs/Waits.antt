-- A request that waits still, of a command that is sent once.
use Rattle.std.proofs.Common.{◌≡◌, ℕ, ℤ, Bool, true, false, refl, ap, ◌∙◌, inl, inr}
use Rattle.mg_link.specs.Exec.{Attempt, IsFirstTry, Stage, unsent, first, second, Sending, Runs, holding, is_repeated}
use Rattle.mg_link.specs.Link.{Awaited, LogTold}
use Rattle.mg_link.specs.declared.action.Step.TheVariants as step

pub held_first : (stage : Stage) → IsFirstTry stage → (ticket : ℕ) → holding stage ticket ≡ first ticket
held_first unsent h ticket = refl
held_first (first old) h ticket = refl
held_first (second old) h ticket = absurd h

pub never_again : (retries : Bool) (stage : Stage) (attempt : Attempt) → retries ≡ false → is_repeated retries stage attempt ≡ true → ⊥
never_again true stage attempt single h = absurd cc
never_again false unsent attempt single h = absurd cc
never_again false (first ticket) attempt single h = absurd cc
never_again false (second ticket) attempt single h = absurd cc

-- the request that waits is the one that was polled, at its first attempt
pub record WaitsStill (s s' : Sending) : Type 0 where
  pub same_command : s'.command ≡ s.command
  pub same_retries : s'.retries ≡ s.retries
  pub ticket : ℕ
  pub waits_by : s'.stage ≡ first ticket

pub waits_still : (old new : Awaited) (log log' : LogTold) (wire : ℤ) (s s' : Sending) → s.retries ≡ false → IsFirstTry s.stage → Runs old new log log' wire s (step.Pending s') → WaitsStill s s'
waits_still old new log log' wire s s' single at (inl once) =
    let g = once.gives in
    record {
      same_command = ap (λ (x : Sending). x.command) g.2;
      same_retries = ap (λ (x : Sending). x.retries) g.2;
      ticket = g.0;
      waits_by = ap (λ (x : Sending). x.stage) g.2 ∙ held_first s.stage at g.0;
    }
waits_still old new log log' wire s s' single at (inr twice) = absurd (never_again s.retries s.stage twice.attempt single twice.repeated)
