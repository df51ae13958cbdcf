use Rattle.std.proofs.Common.{◌≡◌, rules}
use Rattle.mg_bson.specs.Raw.{fields}
use Rattle.mg_link.specs.declared.reply.Verdict.TheVariants as verdict
use Rattle.mg_link.specs.Reply.{verdict_of}
use Rattle.mg_exec.proofs.Replies.{retried_no_ok, fails_no_ok}
use Rattle.mg_exec.proofs.attempt.judge_reply.Goals as goal

pub returns-in-NoOk : goal.returns-in-NoOk
returns-in-NoOk c =
    let bytes = c.args.bytes.items in
    let said : verdict_of (fields bytes) ≡ verdict.NoOk = search rules in
    (λ wire. fails_no_ok bytes wire c.plain-in-NoOk.result c.in-Ok.ensures.1 said c.plain-in-NoOk.ensures, retried_no_ok bytes c.in-Ok.ensures.1 said)
