use Rattle.std.proofs.Common.{ap, ◌∙◌}
use Rattle.mg_cursor.specs.Closing.{closed}
use Rattle.mg_cursor.specs.Documents.{DocumentCursor}
use Rattle.mg_cursor.proofs.session_cursor.SessionCursor.close.Goals as goal

pub close-requires : goal.close-requires
close-requires g c = c.self.invariant

pub returns : goal.returns
returns g c = c.close.ensures ∙ ap (λ (d : DocumentCursor). closed d.cursor) c.self.view_is
