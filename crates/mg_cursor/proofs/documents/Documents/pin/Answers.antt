use Rattle.std.proofs.Common.{ap}
use Rattle.mg_cursor.specs.Client.{ClientCursor}
use Rattle.mg_cursor.specs.View.{document_cursor}
use Rattle.mg_cursor.proofs.documents.Documents.pin.Goals as goal

pub returns : goal.returns
returns c = ap (λ (x : ClientCursor). record (document_cursor c.args.self.now) { cursor = x }) c.pin.ensures
