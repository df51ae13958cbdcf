use Rattle.std.proofs.Common.{refl}
use Rattle.std.proofs.lemmas.Result.{err_from_is_err_and}
use Rattle.mg_cursor.proofs.batches.Batches.prepare.Goals as goal

pub returns-in_err-exec-clause-err : goal.returns-in_err-exec-clause-err
returns-in_err-exec-clause-err c =
    let p = err_from_is_err_and c.from_residual.result c.from_residual.ensures.1 in
    rw (p.1, p.2) c.in_err-exec.ensures.err

pub returns-clause-built : goal.returns-clause-built
returns-clause-built c = (c.in_ok-exec.exec, c.in_ok-exec.ensures.ok, refl)
