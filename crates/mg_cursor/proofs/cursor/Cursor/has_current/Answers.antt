use Rattle.std.proofs.Common.{is_some, ap, ◌∙◌}
use Rattle.mg_cursor.specs.Documents.{DocumentCursor}
use Rattle.mg_cursor.proofs.cursor.Cursor.has_current.Goals as goal

pub returns : goal.returns
returns g c = c.has_current.ensures ∙ ap (λ (d : DocumentCursor). is_some d.current) c.self.view_is
