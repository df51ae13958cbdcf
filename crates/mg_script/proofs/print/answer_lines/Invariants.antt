use Rattle.std.proofs.Common.{◌≡◌, ◌++◌, drop, string_bytes}
use Rattle.mg_script.specs.Text.{answers_text}
use Rattle.mg_script.proofs.print.answer_lines.Given as goal

abbrev pub invariant-loop-call : goal.invariant-loop-call
invariant-loop-call l = string_bytes l.out ++ answers_text l.job l.call (drop l.call l.answers) ≡ string_bytes l.fn.out ++ answers_text l.job 0 l.answers
