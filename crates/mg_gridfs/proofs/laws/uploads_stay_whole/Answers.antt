use Rattle.mg_gridfs.proofs.Behind.{recorded_stays, stored_stays}
use Rattle.mg_gridfs.proofs.laws.uploads_stay_whole.Goals as goal

pub returns : goal.returns
returns c = λ awaited past past' at u taken. record {
  recorded_so = λ between sending ending doing ticket held k later. recorded_stays awaited past past' at u taken between sending ending doing ticket held k later;
  stored_so = λ h later. stored_stays past past' at u taken h later;
}
