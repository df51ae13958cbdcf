use Rattle.mg_gridfs.proofs.open_download.OpenDownloadStreamAction.TheImpl.Goals as goal

pub poll-tells : goal.poll-tells
poll-tells g c = record { polled = (c.ensures.opens, c.ensures.sound, c.ensures.caused); tickets = c.ensures.tickets; pended = c.ensures.pended; lost = c.ensures.lost; prompt = c.ensures.prompt; later = c.ensures.later }
