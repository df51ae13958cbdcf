use Rattle.std.proofs.Common.{false, ap, refl}
use Rattle.mg_cursor.specs.Documents.{DocumentCursor}
use Rattle.mg_gridfs.specs.Checks as check
use Rattle.mg_gridfs.specs.Checks.{reads}
use Rattle.mg_gridfs.proofs.check.hear_list.Goals as goal

pub returns-in-Ok : goal.returns-in-Ok
returns-in-Ok c = check.opened c.opened.result (c.opened.ensures c.args.reply c.in-Ok.ensures.ok) (ap (λ (d : DocumentCursor). check.goes (reads c.args.place d false 0)) c.new_cursor.ensures)

pub returns-in-Err : goal.returns-in-Err
returns-in-Err c = check.broke c.in-Err.error c.in-Err.ensures.err refl
