use Rattle.mg_cursor.specs.View.{document_cursor}
use Rattle.mg_cursor.proofs.Giving.{copies_none, copies_some}
use Rattle.mg_cursor.proofs.documents.Documents.item.Goals as goal

pub returns-in-Some : goal.returns-in-Some
returns-in-Some c = copies_some (document_cursor c.args.self.now) c.in-Some.document c.copied.result c.in-Some.ensures c.copied.ensures

pub returns-in-None : goal.returns-in-None
returns-in-None c = copies_none (document_cursor c.args.self.now) c.in-None.ensures
