use Rattle.mg_cursor.specs.View.{document_cursor}
use Rattle.mg_cursor.proofs.Giving.{more_held, more_left, more_there}
use Rattle.mg_cursor.proofs.documents.Documents.has_next.Goals as goal

pub returns-then-has_current : goal.returns-then-has_current
returns-then-has_current c = more_there (document_cursor c.args.self.now) c.has_current.result c.has_current.ensures c.if-has_current.true

pub returns-then-not-is_last : goal.returns-then-not-is_last
returns-then-not-is_last c = more_left (document_cursor c.args.self.now) c.is_last.result c.is_last.ensures c.if-not-is_last.true

pub returns : goal.returns
returns c =
    more_held (document_cursor c.args.self.now) c.has_current.result c.is_last.result c.has_next.result c.has_current.ensures c.if-has_current.false c.is_last.ensures c.if-not-is_last.false c.has_next.ensures
