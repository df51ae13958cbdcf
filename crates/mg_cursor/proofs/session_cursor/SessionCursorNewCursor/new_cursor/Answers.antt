use Rattle.std.proofs.Common.{false, sym, subst}
use Rattle.mg_cursor.specs.Client.{IsSound}
use Rattle.mg_cursor.specs.Documents.{DocumentCursor}
use Rattle.mg_cursor.proofs.session_cursor.SessionCursorNewCursor.new_cursor.Goals as goal

-- nothing is on its way yet
pub invariant_of-result : goal.invariant_of-result
invariant_of-result g c = subst (λ (d : DocumentCursor). IsSound false d.cursor) (sym c.new.ensures) tt
