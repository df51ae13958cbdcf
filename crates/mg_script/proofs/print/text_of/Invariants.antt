use Rattle.std.proofs.Common.{◌≡◌, drop, ◌++◌, string_bytes}
use Rattle.mg_script.specs.Text.{outcomes_text}
use Rattle.mg_script.proofs.print.text_of.Given as goal

abbrev pub invariant-loop-job : goal.invariant-loop-job
invariant-loop-job l = string_bytes l.out ++ outcomes_text l.job (drop l.job l.outcome-items) ≡ outcomes_text 0 l.outcome-items
