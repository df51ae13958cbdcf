use Rattle.std.proofs.Common.{◌≡◌, ◌↔◌, IsTrue, pos, subst}
use Rattle.mg_cursor.specs.Client.{ClientCursor}
use Rattle.mg_cursor.proofs.session_raw.SessionRawBatchCursor.is_exhausted.Goals as goal

pub returns : goal.returns
returns c = subst (λ (x : ClientCursor). IsTrue c.is_exhausted.result ↔ (x.id ≡ pos 0)) c.self.view_is c.is_exhausted.ensures
