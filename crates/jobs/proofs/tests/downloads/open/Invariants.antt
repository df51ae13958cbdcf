use Rattle.mg_link.specs.Acts.{IsOut}
use Rattle.mg_link.specs.Places.{out_at}
use Rattle.mg_gridfs.specs.DownloadView.{finding_of, ticket_in}
use Rattle.mg_gridfs.specs.Findings.{IsSoundFinding}
use Rattle.jobs.proofs.tests.downloads.open.Given as goal

abbrev pub invariant-polls : goal.invariant-polls
invariant-polls l = record {
  out : IsOut (out_at l.link.calls) (ticket_in l.opening);
  sound : IsSoundFinding (finding_of l.opening);
}
