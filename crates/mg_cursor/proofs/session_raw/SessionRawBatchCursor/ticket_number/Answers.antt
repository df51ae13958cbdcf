use Rattle.std.proofs.Common.{ap, ◌∙◌}
use Rattle.mg_cursor.specs.Client.{client_ticket}
use Rattle.mg_cursor.proofs.session_raw.SessionRawBatchCursor.ticket_number.Goals as goal

pub returns : goal.returns
returns c = c.ticket_number.ensures ∙ ap client_ticket c.self.view_is
