use Rattle.std.proofs.Common.{◌↔◌, IsTrue, subst}
use Rattle.mg_cursor.specs.Documents.{DocumentCursor, HasMore}
use Rattle.mg_cursor.proofs.session_cursor.SessionCursor.has_next.Goals as goal

pub returns : goal.returns
returns g c = subst (λ (d : DocumentCursor). IsTrue c.has_next.result ↔ HasMore d) c.self.view_is c.has_next.ensures
