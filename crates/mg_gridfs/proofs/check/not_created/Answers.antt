use Rattle.std.proofs.Common.{refl}
use Rattle.std.proofs.lemmas.Bool.{iff_false}
use Rattle.mg_gridfs.specs.Checks as check
use Rattle.mg_gridfs.proofs.check.not_created.Goals as goal

pub returns-then-is_there : goal.returns-then-is_there
returns-then-is_there c = check.there c.args.error refl (c.is_there.ensures.0 c.if-is_there.true) c.list_next.ensures

pub returns : goal.returns
returns c = check.other c.args.error refl (iff_false c.is_there.ensures c.if-is_there.false) refl
