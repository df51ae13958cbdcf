use Rattle.std.proofs.Common.{◌≡◌, Err, [], ◌∙◌, subst, rules, to_z, of_z, w32}
use mir.Val.{SFits}
use Rattle.std.proofs.lemmas.Int.{to_z-of_z}
use Rattle.std.specs.Prelude.{IfOk}
use Rattle.mg_server.specs.Rules.{refusal}
use Rattle.mg_query.specs.Wanted.{refusal_code}
use Rattle.mg_query.specs.declared.refusal.Stop.{Stop}
use Rattle.mg_store.specs.Answering.{Replies}
use Rattle.mg_store.specs.Contents.{AnswersOr}
use Rattle.mg_store.specs.declared.content.Effect.TheVariants as effects
use Rattle.mg_store.proofs.Settling.{refused_ok}
use Rattle.mg_store.proofs.content.Content.answer.Goals as goal

pub returns-in-Err-Refused : goal.returns-in-Err-Refused
returns-in-Err-Refused c s given h order =
    let known = subst (λ (e : Stop). AnswersOr s given c.args.command.now (Err e)) c.in-Err-Refused.field-0-is (c.in-Err-Refused.ensures s given h order) in
    let fits : SFits w32 c.code.result = search rules in
    let back : to_z w32 (of_z w32 c.code.result) ≡ c.code.result = to_z-of_z w32 c.code.result fits in
    refused_ok s given c.args.command.now (refusal_code c.in-Err-Refused.refusal) c.refused.result known.0 known.1 (subst (λ code. IfOk c.refused.result (Replies (refusal code []) effects.Nothing)) (back ∙ c.code.ensures) c.refused.ensures)
