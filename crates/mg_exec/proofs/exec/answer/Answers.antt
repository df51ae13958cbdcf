use Rattle.std.proofs.Common.{sym, subst}
use Rattle.mg_bson.specs.Raw.{fields}
use Rattle.mg_link.specs.declared.reply.Verdict.{Verdict}
use Rattle.mg_link.specs.Exec.{FailsAs, AttemptFails}
use Rattle.mg_link.specs.Exec as exec
use Rattle.mg_exec.proofs.Replies.{fails_as}
use Rattle.mg_exec.proofs.exec.answer.Goals as goal

pub returns-in-Refusal : goal.returns-in-Refusal
returns-in-Refusal g c attempt reads =
    let r = rw c.in-Refusal.is at reads in
    let bytes = c.in-Refusal.reply.reply in
    let wire = g.L.Link.wire c.args.link.now in
    let said = subst (λ (v : Verdict). FailsAs v (fields bytes) wire c.refused.result) (sym r.2) c.refused.ensures in
    subst (λ (a : exec.Attempt). AttemptFails a wire c.refused.result) (sym r.0) (fails_as bytes wire c.refused.result r.1 said)
