use Rattle.mg_link.specs.Acts.{IsOut}
use Rattle.mg_link.specs.Moment.{LinkKeeps, finished, moment}
use Rattle.mg_cursor.specs.Client.{client_ticket}
use Rattle.mg_gridfs.specs.Downloads.{IsSoundDownload}
use Rattle.mg_gridfs.specs.DownloadView.{HoldsBytes}
use Rattle.mg_gridfs.specs.Fetching.{rank, reading_of}
use Rattle.mg_gridfs.proofs.Fetches.{Took}
use Rattle.mg_gridfs.proofs.download.GridFsDownloadStream.fetch.Given as goal

abbrev pub invariant-batches : goal.invariant-batches
invariant-batches g l = record {
  held : IsOut (g.L.Link.awaited l.link) (client_ticket l.reading.cursor);
  keeps : LinkKeeps (moment (g.L.Link.awaited l.fn.link) (g.L.Link.log l.fn.link) (g.L.Link.faults l.fn.link) (g.L.Link.pends l.fn.link) (g.L.Link.wire l.fn.link) (g.L.Link.prompt l.fn.link))
      (moment (g.L.Link.awaited l.link) (g.L.Link.log l.link) (g.L.Link.faults l.link) (g.L.Link.pends l.link) (g.L.Link.wire l.link) (g.L.Link.prompt l.link))
      (client_ticket l.fn.reading.cursor) (client_ticket l.reading.cursor) finished;
  sound : IsSoundDownload (reading_of l.self l.reading);
  holds : HoldsBytes l.self.hand;
  took : Took (g.L.Link.awaited l.fn.link) (g.L.Link.awaited l.link) (g.L.Link.log l.fn.link) (g.L.Link.log l.link) (g.L.Link.wire l.fn.link) (reading_of l.fn.self l.fn.reading) (reading_of l.self l.reading);
}

abbrev pub decreases-batches : goal.decreases-batches
decreases-batches g l = rank l.reading.missing l.reading.empty
