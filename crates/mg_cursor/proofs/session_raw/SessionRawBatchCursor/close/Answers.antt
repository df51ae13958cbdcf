use Rattle.std.proofs.Common.{ap, ◌∙◌}
use Rattle.mg_cursor.specs.Closing.{closed}
use Rattle.mg_cursor.proofs.session_raw.SessionRawBatchCursor.close.Goals as goal

pub close-requires : goal.close-requires
close-requires c = c.self.invariant

pub returns : goal.returns
returns c = c.close.ensures ∙ ap closed c.self.view_is
