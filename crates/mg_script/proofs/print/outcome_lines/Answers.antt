use Rattle.std.proofs.Common.{◌∙◌, append_assoc}
use Rattle.std.proofs.lemmas.Result.{on_ok_weaker}
use Rattle.mg_script.proofs.print.outcome_lines.Goals as goal

pub returns-in_ok-error-in-Failed : goal.returns-in_ok-error-in-Failed
returns-in_ok-error-in-Failed c = on_ok_weaker c.writeln-in-Failed.result (λ h. h ∙ rw (c.in-Follow.is, c.in-Failed.is, c.in_ok-error-in-Failed.ensures) (simp append_assoc)) c.writeln-in-Failed.ensures.bytes
