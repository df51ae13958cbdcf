use Rattle.std.proofs.Common.{ap, ◌∙◌}
use Rattle.mg_cursor.specs.Documents.{DocumentCursor}
use Rattle.mg_cursor.proofs.session_cursor.SessionCursor.current.Goals as goal

pub returns : goal.returns
returns g c = c.current.ensures ∙ ap (λ (d : DocumentCursor). d.current) c.self.view_is
