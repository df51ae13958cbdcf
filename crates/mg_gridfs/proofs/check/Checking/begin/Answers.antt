use Rattle.std.proofs.Common.{refl}
use Rattle.std.proofs.lemmas.Result.{err_from_is_err_and}
use Rattle.mg_gridfs.proofs.check.Checking.begin.Goals as goal

pub returns-clause-ok : goal.returns-clause-ok
returns-clause-ok c = (c.in_ok-exec.exec, refl, c.in_ok-exec.ensures.ok)

pub returns-in_err-exec-clause-err : goal.returns-in_err-exec-clause-err
returns-in_err-exec-clause-err c =
    let p = err_from_is_err_and c.from_residual.result c.from_residual.ensures.1 in
    rw (p.1, p.2) c.in_err-exec.ensures.err
