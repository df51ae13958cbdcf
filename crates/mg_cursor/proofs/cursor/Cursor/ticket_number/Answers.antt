use Rattle.std.proofs.Common.{ap, ◌∙◌}
use Rattle.mg_cursor.specs.Client.{client_ticket}
use Rattle.mg_cursor.specs.Documents.{DocumentCursor}
use Rattle.mg_cursor.proofs.cursor.Cursor.ticket_number.Goals as goal

pub returns : goal.returns
returns g c = c.ticket_number.ensures ∙ ap (λ (d : DocumentCursor). client_ticket d.cursor) c.self.view_is
