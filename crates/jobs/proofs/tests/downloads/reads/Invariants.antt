use Rattle.mg_link.specs.Acts.{IsOut}
use Rattle.mg_link.specs.Places.{out_at}
use Rattle.mg_gridfs.specs.Downloads.{download_ticket}
use Rattle.mg_gridfs.specs.DownloadView.{IsDownload, download_of}
use Rattle.jobs.proofs.tests.downloads.reads.Given as goal

abbrev pub invariant-reads : goal.invariant-reads
invariant-reads g l = record {
  out : IsOut (out_at l.link.calls) (download_ticket (download_of l.download));
  sound : IsDownload l.download;
}
