use mir.Val.{SFits}
use Rattle.std.proofs.Common.{rules, ◌≡◌, ℤ, refl, ap, ◌∙◌, subst, w32, to_z, of_z}
use Rattle.std.proofs.lemmas.Int.{to_z-of_z}
use Rattle.std.proofs.lemmas.Result.{err_from_is_err_and}
use Rattle.std.specs.Prelude.{option_copied}
use Rattle.mg_bson.specs.Bytes.{bytes}
use Rattle.mg_exec.specs.ExecView.{reads}
use Rattle.mg_ops.specs.Failing.{FailsBy}
use Rattle.mg_change.specs.ClientStreams.{resuming_in}
use Rattle.mg_change.specs.Steps.{CannotResume}
use Rattle.mg_change.proofs.commands.resume.Goals as goal

pub returns-in_err-command-clause-fails : goal.returns-in_err-command-clause-fails
returns-in_err-command-clause-fails c =
    let fits : SFits w32 c.args.wire = search rules in
    let same : to_z w32 (of_z w32 c.args.wire) ≡ c.args.wire = to_z-of_z w32 c.args.wire fits in
    let p = err_from_is_err_and c.from_residual.result c.from_residual.ensures.1 in
    rw (p.1, p.2) (subst (λ (w : ℤ). FailsBy (CannotResume c.args.aggregate.now w (option_copied c.args.session)) c.in_err-command.field-0.0) same c.in_err-command.ensures.err)

pub returns-clause-built : goal.returns-clause-built
returns-clause-built c =
    let fits : SFits w32 c.args.wire = search rules in
    let same : to_z w32 (of_z w32 c.args.wire) ≡ c.args.wire = to_z-of_z w32 c.args.wire fits in
    rw c.start.ensures (record {
      bytes_are = c.in_ok-command.ensures.bytes ∙ ap (λ (w : ℤ). bytes (resuming_in c.args.aggregate.now w (option_copied c.args.session))) same;
      command_is = c.in_ok-command.ensures.read_back ∙ ap (λ (w : ℤ). resuming_in c.args.aggregate.now w (option_copied c.args.session)) same;
      retries_is = ap reads c.retry.ensures;
      new = refl;
    })
