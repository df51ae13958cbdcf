use Rattle.std.proofs.Common.{length}
use Rattle.mg_server.specs.Calls.{past_of}
use Rattle.mg_gridfs.proofs.Holding.{idle_has, recorded_is_whole, stored_is_whole}
use Rattle.mg_gridfs.proofs.laws.upload_stores.Goals as goal

pub returns : goal.returns
returns c = λ awaited calls wire places at u taken. record {
  idle_so = λ rests_so k. idle_has awaited (past_of places (length calls) calls wire) at u taken rests_so k;
  recorded_so = λ between sending ending doing ticket held k. recorded_is_whole awaited (past_of places (length calls) calls wire) at u taken between sending ending doing ticket held k;
  stored_so = λ size h. stored_is_whole (past_of places (length calls) calls wire) at u taken h;
}
