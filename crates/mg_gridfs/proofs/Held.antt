-- The cursors that an upload knows are its own.
use Rattle.std.proofs.Common.{List}
use Rattle.mg_link.specs.Exec.{Stage, first, second, unsent}
use Rattle.mg_link.specs.Link.{Awaited}
use Rattle.mg_link.specs.Log.{Call}
use Rattle.mg_server.specs.Owner.{Holds}
use Rattle.mg_server.specs.Query.{Query}
use Rattle.mg_server.specs.Reader.{FindingAt, finder_at}
use Rattle.mg_server.proofs.Apart.{holds_nobody}
use Rattle.mg_gridfs.specs.Buckets.{ClientBucket}
use Rattle.mg_gridfs.specs.Checks.{ClientCheck, creates, finds, indexes, lists, reads}
use Rattle.mg_gridfs.specs.Cursors.{KnowsAt, KnowsCheck, KnowsCursors, KnowsFlight, KnowsIn, check_owner, flight_owner, indexes_query, owner_by, phase_owner, upload_owner}
use Rattle.mg_gridfs.specs.Indexes.{space_in}
use Rattle.mg_gridfs.specs.Uploads.{ClientUpload, Doing, Flight, Phase, begins, busy, by_check, by_command, checks, closed, ends, fills, idle, inserts, lands, lasts, records, removes, rests, undoes}

pub finding_holds : (awaited : Awaited) (calls : List Call) (q : Query) (stage : Stage) → FindingAt awaited calls q stage → Holds calls (finder_at awaited stage)
finding_holds awaited calls q unsent k = holds_nobody calls
finding_holds awaited calls q (first ticket) k = k.owned
finding_holds awaited calls q (second ticket) k = k.owned

module _ (awaited : Awaited) (calls : List Call) (b : ClientBucket) where
  check_holds : (c : ClientCheck) → KnowsCheck awaited calls b c → Holds calls (check_owner awaited c)
  check_holds (finds s) k = holds_nobody calls
  check_holds (creates at s) k = holds_nobody calls
  check_holds (lists at s) k = finding_holds awaited calls (indexes_query (space_in b at)) s.stage k
  check_holds (reads at d found count) k = k.2.owned
  check_holds (indexes at s) k = holds_nobody calls

  flight_holds : (flight : Flight) → KnowsFlight awaited calls b flight → Holds calls (flight_owner awaited flight)
  flight_holds (by_check c) k = check_holds c k
  flight_holds (by_command s) k = holds_nobody calls

  phase_holds : (p : Phase) → KnowsAt awaited calls b p → Holds calls (phase_owner awaited p)
  phase_holds begins k = holds_nobody calls
  phase_holds (checks c) k = check_holds c k
  phase_holds fills k = holds_nobody calls
  phase_holds (inserts s count) k = holds_nobody calls
  phase_holds (rests moment) k = holds_nobody calls
  phase_holds (lasts s ending) k = holds_nobody calls
  phase_holds (ends ending) k = holds_nobody calls
  phase_holds (records s ending) k = holds_nobody calls
  phase_holds (lands flight error) k = flight_holds flight k
  phase_holds (undoes error) k = holds_nobody calls
  phase_holds (removes s error) k = holds_nobody calls

  doing_holds : (d : Doing) → KnowsIn awaited calls b d → Holds calls (owner_by awaited d)
  doing_holds idle k = holds_nobody calls
  doing_holds (busy call p) k = phase_holds p k
  doing_holds closed k = holds_nobody calls

pub uploads_hold : (awaited : Awaited) (calls : List Call) (u : ClientUpload) → KnowsCursors awaited calls u → Holds calls (upload_owner awaited u)
uploads_hold awaited calls u k = doing_holds awaited calls u.aim.bucket u.doing k.by
