use Rattle.std.proofs.Common.{◌≡◌, ◌⊎◌, ℤ, None, ap, ◌∙◌, subst, w32, to_z, of_z}
use Rattle.std.proofs.lemmas.Int.{to_z-of_z}
use Rattle.std.proofs.lemmas.Result.{err_from_is_err_and}
use Rattle.mg_bson.specs.Raw.{fields}
use Rattle.mg_link.specs.Exec.{Sending}
use Rattle.mg_exec.specs.ExecView.{reads}
use Rattle.mg_link.specs.declared.error.Error.{Error}
use Rattle.mg_ops.specs.Failing.{CannotBeSent, FailsBy}
use Rattle.mg_gridfs.specs.Commands.{IsEncoded}
use Rattle.mg_gridfs.proofs.commands.request.Goals as goal

pub returns-clause-ok : goal.returns-clause-ok
returns-clause-ok g c =
    let same : to_z w32 (of_z w32 c.args.wire) ≡ c.args.wire = to_z-of_z w32 c.args.wire c.ranges.wire in
    subst (λ (wire : ℤ). IsEncoded (g.O.Operation.command c.args.operation.now wire None) (reads (g.O.Operation.retried c.args.operation.now None)) c.start.result) same (record {
      bytes_are = ap (λ (s : Sending). s.command) c.start.ensures ∙ c.in_ok-command.ensures.bytes;
      command_is = ap (λ (s : Sending). fields s.command) c.start.ensures ∙ c.in_ok-command.ensures.read_back;
      retries_is = ap (λ (s : Sending). s.retries) c.start.ensures ∙ ap reads c.retry.ensures;
      new = ap (λ (s : Sending). s.stage) c.start.ensures;
    })

pub returns-in_err-command-clause-err : goal.returns-in_err-command-clause-err
returns-in_err-command-clause-err g c =
    let same : to_z w32 (of_z w32 c.args.wire) ≡ c.args.wire = to_z-of_z w32 c.args.wire c.ranges.wire in
    let p = err_from_is_err_and c.from_residual.result c.from_residual.ensures.1 in
    rw (p.1, p.2) (subst (λ (wire : ℤ). FailsBy (λ (e : Error). g.O.Operation.unfit c.args.operation.now e ⊎ CannotBeSent (g.O.Operation.command c.args.operation.now wire None) e) c.in_err-command.field-0.0) same c.in_err-command.ensures.err)
