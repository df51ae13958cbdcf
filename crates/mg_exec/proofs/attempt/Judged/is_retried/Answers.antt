use Rattle.std.proofs.Common.{sym, ap, ◌∙◌}
use Rattle.mg_link.specs.Exec.{is_retried_attempt}
use Rattle.mg_exec.proofs.Replies.{retried_success, retried_refusal}
use Rattle.mg_exec.proofs.attempt.Judged.is_retried.Goals as goal

pub returns-in-Success : goal.returns-in-Success
returns-in-Success c attempt reads =
    let r = rw c.in-Success.is at reads in
    sym (ap is_retried_attempt r.0 ∙ retried_success c.in-Success.field-0 r.1 r.2)

pub returns-in-Refusal : goal.returns-in-Refusal
returns-in-Refusal c attempt reads =
    let r = rw c.in-Refusal.is at reads in
    let code = rw c.as_raw.ensures at c.is_retried_refusal.ensures in
    code ∙ sym (ap is_retried_attempt r.0 ∙ retried_refusal c.in-Refusal.refused.reply r.1 r.2)
