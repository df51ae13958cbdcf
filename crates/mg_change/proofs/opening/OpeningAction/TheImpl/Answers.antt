use Rattle.mg_change.proofs.opening.OpeningAction.TheImpl.Goals as goal

pub poll-tells : goal.poll-tells
poll-tells g c = record { polled = (c.ensures.sound, c.ensures.opens, c.ensures.caused); tickets = c.ensures.tickets; pended = c.ensures.pended; lost = c.ensures.lost; prompt = c.ensures.prompt; later = c.ensures.later }
