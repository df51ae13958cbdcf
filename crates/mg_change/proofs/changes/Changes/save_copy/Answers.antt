use Rattle.std.proofs.Common.{refl}
use Rattle.std.proofs.lemmas.Result.{err_from_is_err_and}
use Rattle.mg_change.proofs.changes.Changes.save_copy.Goals as goal

pub save-requires : goal.save-requires
save-requires c = c.in_ok-copy.ensures.ok

pub returns-in_err-copy-clause-stays : goal.returns-in_err-copy-clause-stays
returns-in_err-copy-clause-stays c = let p = err_from_is_err_and c.from_residual.result c.from_residual.ensures.1 in rw p.1 refl

pub returns-in_err-copy-clause-err : goal.returns-in_err-copy-clause-err
returns-in_err-copy-clause-err c = let p = err_from_is_err_and c.from_residual.result c.from_residual.ensures.1 in rw (p.1, p.2) c.in_err-copy.ensures.err

pub returns-clause-same : goal.returns-clause-same
returns-clause-same c = c.save.ensures.same

pub returns-clause-saved : goal.returns-clause-saved
returns-clause-saved c = c.save.ensures.saved
