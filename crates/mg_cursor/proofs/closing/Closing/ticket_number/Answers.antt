use Rattle.std.proofs.Common.{ap, ◌∙◌}
use Rattle.mg_cursor.specs.Closing.{closing_ticket}
use Rattle.mg_cursor.proofs.closing.Closing.ticket_number.Goals as goal

pub returns : goal.returns
returns c = c.held.ensures ∙ ap closing_ticket c.self.view_is
