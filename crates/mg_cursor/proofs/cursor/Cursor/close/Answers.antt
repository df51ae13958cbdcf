use Rattle.std.proofs.Common.{true, ap, ◌∙◌}
use Rattle.mg_cursor.specs.Closing.{closed}
use Rattle.mg_cursor.specs.Documents.{DocumentCursor}
use Rattle.mg_cursor.specs.View.{document_cursor}
use Rattle.mg_cursor.proofs.Keeping.{sound_in_any}
use Rattle.mg_cursor.proofs.cursor.Cursor.close.Goals as goal

pub close-requires : goal.close-requires
close-requires g c = sound_in_any true (document_cursor c.self.inside.documents).cursor c.self.invariant

pub returns : goal.returns
returns g c = c.close.ensures ∙ ap (λ (d : DocumentCursor). closed d.cursor) c.self.view_is
