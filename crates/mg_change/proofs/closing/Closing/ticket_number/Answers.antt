use Rattle.std.proofs.Common.{ap, ◌∙◌}
use Rattle.mg_change.specs.ClosingStreams.{stream_closing_ticket}
use Rattle.mg_change.proofs.closing.Closing.ticket_number.Goals as goal

pub returns : goal.returns
returns c = c.held.ensures ∙ ap stream_closing_ticket c.self.view_is
