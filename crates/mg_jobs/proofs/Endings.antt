-- What known input says of an ending.
use Rattle.std.proofs.Common.{ℕ, List, Option, Some}
use Rattle.mg_program.proofs.Refusals.{is_script, refusal_decided}
use Rattle.mg_jobs.specs.Program.{Caused, IsOf}
use Rattle.mg_jobs.specs.declared.program.Ending.{Ending}
use Rattle.mg_jobs.specs.declared.program.Ending.TheVariants as endings

pub decided : (words : List (List ℕ)) (bytes : List ℕ) (new : Option (List ℕ)) (before now : ℕ) (ending : Ending) → Caused words (Some bytes) new before now ending → IsOf words bytes ending
decided words bytes new before now (endings.Refused refusal) h = refusal_decided words bytes new before now refusal h
decided words bytes new before now (endings.Unprinted run) h = (h.0, is_script bytes new _ h.1.script, h.1.jobs)
decided words bytes new before now (endings.Done run) h = (h.0, is_script bytes new _ h.1.script, h.1.jobs)
