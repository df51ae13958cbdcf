use Rattle.std.proofs.Common.{◌↔◌, IsTrue, subst}
use Rattle.mg_cursor.specs.Client.{ClientCursor, HasNext}
use Rattle.mg_cursor.proofs.session_raw.SessionRawBatchCursor.has_next.Goals as goal

pub returns : goal.returns
returns c = subst (λ (x : ClientCursor). IsTrue c.has_next.result ↔ HasNext x) c.self.view_is c.has_next.ensures
