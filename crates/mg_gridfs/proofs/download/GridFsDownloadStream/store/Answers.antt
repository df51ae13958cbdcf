use Rattle.std.proofs.Common.{ℕ, List, ap}
use Rattle.mg_gridfs.specs.DownloadView.{download_of}
use Rattle.mg_gridfs.proofs.download.GridFsDownloadStream.store.Goals as goal

pub take-requires-clause-holds : goal.take-requires-clause-holds
take-requires-clause-holds c = c.requires.holds

pub take-requires-clause-later : goal.take-requires-clause-later
take-requires-clause-later c = c.requires.later

pub returns-in-Ok-clause-ok : goal.returns-in-Ok-clause-ok
returns-in-Ok-clause-ok c = ap (λ (l : List ℕ). record (download_of c.args.self.now) { taken = c.args.taken; ahead = l }) c.in-Ok.ensures.ok

pub returns-in-Ok-clause-holds : goal.returns-in-Ok-clause-holds
returns-in-Ok-clause-holds c = c.take.ensures.keeps

pub returns-in-Err-clause-err : goal.returns-in-Err-clause-err
returns-in-Err-clause-err c = c.plain.ensures

pub returns-in-Err-clause-same : goal.returns-in-Err-clause-same
returns-in-Err-clause-same c = ap (λ (l : List ℕ). record (download_of c.args.self.now) { ahead = l }) c.in-Err.ensures.same

pub returns-in-Err-clause-holds : goal.returns-in-Err-clause-holds
returns-in-Err-clause-holds c = c.take.ensures.keeps
