use Rattle.std.proofs.Common.{refl, inl, inr, arith}
use Rattle.mg_gridfs.proofs.open_upload.checked_size.Goals as goal

pub returns-then-size-eq0-clause-err : goal.returns-then-size-eq0-clause-err
returns-then-size-eq0-clause-err c = (inl c.if-size-eq0.true, c.plain.ensures)

pub returns-then-size-gt-GREATEST_SIZE-clause-err : goal.returns-then-size-gt-GREATEST_SIZE-clause-err
returns-then-size-gt-GREATEST_SIZE-clause-err c = (inr (omega (arith, c.if-size-gt-GREATEST_SIZE.true)), c.plain-then-size-gt-GREATEST_SIZE.ensures)

pub returns-clause-ok : goal.returns-clause-ok
returns-clause-ok c = (refl, record { some = omega (arith, c.if-size-eq0.false); small = omega (arith, c.if-size-gt-GREATEST_SIZE.false) })
