use Rattle.std.proofs.Common.{◌⊎◌, ℕ, Option, refl, ap, ◌∙◌, subst}
use Rattle.std.specs.Prelude.{option_copied}
use Rattle.std.proofs.lemmas.Result.{err_from_is_err_and}
use Rattle.mg_bson.specs.Bytes.{bytes}
use Rattle.mg_bson.specs.Tree.{Fields}
use Rattle.mg_link.specs.declared.error.Error.{Error}
use Rattle.mg_ops.specs.Cursors.{asking_command}
use Rattle.mg_ops.specs.Failing.{CannotBeSent, FailsBy, HasBadSize}
use Rattle.mg_ops.specs.Sessions.{in_session}
use Rattle.mg_cursor.proofs.commands.ask.Goals as goal

pub returns-in_err-command-clause-err : goal.returns-in_err-command-clause-err
returns-in_err-command-clause-err c =
    let at = c.args.cursor.now in
    let session = option_copied c.args.session in
    let more = c.in_ok-get_more.get_more in
    let p = err_from_is_err_and c.from_residual-in_err-command.result c.from_residual-in_err-command.ensures.1 in
    rw (p.1, p.2) (subst (λ (size : Option ℕ). FailsBy (λ (e : Error). HasBadSize size e ⊎ CannotBeSent (in_session session (asking_command at)) e) c.in_err-command.field-0.0) c.in_ok-get_more.ensures.size
    (subst (λ (d : Fields). FailsBy (λ (e : Error). HasBadSize more.batch_size e ⊎ CannotBeSent (in_session session d) e) c.in_err-command.field-0.0) c.in_ok-get_more.ensures.command c.in_err-command.ensures.err))

pub returns-clause-ok : goal.returns-clause-ok
returns-clause-ok c =
    let session = option_copied c.args.session in
    let same = ap (in_session session) c.in_ok-get_more.ensures.command in
    rw c.start-exec.ensures (record {
      bytes_are = c.in_ok-command.ensures.bytes ∙ ap bytes same;
      command_is = c.in_ok-command.ensures.read_back ∙ same;
      single = rw c.retry.ensures;
      new = refl;
    })
