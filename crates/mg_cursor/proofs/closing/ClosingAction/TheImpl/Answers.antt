use Rattle.mg_cursor.proofs.closing.ClosingAction.TheImpl.Goals as goal

pub poll-tells : goal.poll-tells
poll-tells g c = record { polled = (c.ensures.closes, c.ensures.caused); tickets = c.ensures.tickets; pended = c.ensures.pended; lost = c.ensures.lost; prompt = c.ensures.prompt; later = c.ensures.later }
