use Rattle.std.proofs.Common.{true, sym, subst}
use Rattle.mg_cursor.specs.Client.{IsSound}
use Rattle.mg_cursor.proofs.raw_cursor.RawBatchCursorNewCursor.new_cursor.Goals as goal

-- nothing is on its way yet
pub invariant_of-result : goal.invariant_of-result
invariant_of-result c = subst (IsSound true) (sym c.new.ensures) tt
