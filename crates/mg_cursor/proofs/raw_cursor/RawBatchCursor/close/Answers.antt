use Rattle.std.proofs.Common.{true, ap, ◌∙◌}
use Rattle.mg_cursor.specs.Closing.{closed}
use Rattle.mg_cursor.specs.View.{client_of}
use Rattle.mg_cursor.proofs.Keeping.{sound_in_any}
use Rattle.mg_cursor.proofs.raw_cursor.RawBatchCursor.close.Goals as goal

pub close-requires : goal.close-requires
close-requires c = sound_in_any true (client_of c.self.inside.batches) c.self.invariant

pub returns : goal.returns
returns c = c.close.ensures ∙ ap closed c.self.view_is
