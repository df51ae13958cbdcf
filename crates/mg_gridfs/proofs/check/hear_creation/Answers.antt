use Rattle.std.proofs.Common.{◌≡◌, [], ℕ, List, Ok, refl, subst}
use Rattle.mg_bson.specs.Raw.{fields}
use Rattle.mg_ops.specs.Failing.{FailsBy}
use Rattle.mg_ops.specs.Writes.{WriteFails, failures_of}
use Rattle.mg_gridfs.specs.Checks as check
use Rattle.mg_gridfs.proofs.check.hear_creation.Goals as goal

pub returns-in-Ok : goal.returns-in-Ok
returns-in-Ok c = check.created c.args.reply refl (subst (λ (b : List ℕ). failures_of 0 (fields b) ≡ Ok []) c.as_raw.ensures c.in-Ok.ensures.ok) c.list_next.ensures

pub returns : goal.returns
returns c = check.unread c.args.reply c.in-Err.error refl (subst (λ (b : List ℕ). FailsBy (WriteFails (fields b)) c.in-Err.error) c.as_raw.ensures c.in-Err.ensures.err) refl
