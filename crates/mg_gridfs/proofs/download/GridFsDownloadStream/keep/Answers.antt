use Rattle.std.proofs.Common.{◌∷◌}
use Rattle.std.proofs.lemmas.Result.{on_ok_weaker}
use Rattle.mg_gridfs.proofs.Turned.{is_later, keeps_batch, unbroken}
use Rattle.mg_gridfs.proofs.download.GridFsDownloadStream.keep.Goals as goal

pub store-requires-clause-holds : goal.store-requires-clause-holds
store-requires-clause-holds c = c.requires.holds

pub store-requires-clause-later : goal.store-requires-clause-later
store-requires-clause-later c = is_later c.args.batch c.in-Ok.chunks c.requires.chunks c.in-Ok.ensures.ok.0 c.in-Ok.ensures.ok.1

pub returns-in-Ok-clause-ok : goal.returns-in-Ok-clause-ok
returns-in-Ok-clause-ok c = on_ok_weaker c.store.result (keeps_batch c.args.self.now c.store.new.self c.args.taken c.args.batch c.in-Ok.chunks c.in-Ok.ensures.ok.0 c.in-Ok.ensures.ok.1) c.store.ensures.ok

pub returns-in-Ok-clause-err : goal.returns-in-Ok-clause-err
returns-in-Ok-clause-err c = c.store.ensures.err

pub returns-in-Ok-clause-same : goal.returns-in-Ok-clause-same
returns-in-Ok-clause-same c = c.store.ensures.same

pub returns-in-Ok-clause-holds : goal.returns-in-Ok-clause-holds
returns-in-Ok-clause-holds c = c.store.ensures.holds

-- its documents are there, so this does not happen
pub returns-in-Err-clause-err : goal.returns-in-Err-clause-err
returns-in-Err-clause-err c = absurd (unbroken c.args.batch (c.requires.chunks.first ∷ c.requires.chunks.more) c.in-Err.error c.requires.chunks.there c.in-Err.ensures.err)

pub returns-in-Err-clause-holds : goal.returns-in-Err-clause-holds
returns-in-Err-clause-holds c = c.requires.holds
