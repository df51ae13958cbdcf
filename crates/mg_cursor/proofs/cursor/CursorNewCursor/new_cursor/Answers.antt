use Rattle.std.proofs.Common.{true, sym, subst}
use Rattle.mg_cursor.specs.Client.{IsSound}
use Rattle.mg_cursor.specs.Documents.{DocumentCursor}
use Rattle.mg_cursor.proofs.cursor.CursorNewCursor.new_cursor.Goals as goal

-- nothing is on its way yet
pub invariant_of-result : goal.invariant_of-result
invariant_of-result g c = subst (λ (d : DocumentCursor). IsSound true d.cursor) (sym c.new.ensures) tt
