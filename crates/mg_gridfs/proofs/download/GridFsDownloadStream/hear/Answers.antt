use Rattle.std.proofs.Common.{refl, inr}
use Rattle.mg_gridfs.proofs.Turned.{differs_so}
use Rattle.mg_gridfs.proofs.download.GridFsDownloadStream.hear.Goals as goal

pub look-requires : goal.look-requires
look-requires c = c.requires.few

-- ---- its chunks are in order

pub sort-requires-clause-looks : goal.sort-requires-clause-looks
sort-requires-clause-looks c = c.in-Ok.ensures.ok

pub sort-requires-clause-short : goal.sort-requires-clause-short
sort-requires-clause-short c = c.requires.short

pub sort-requires-clause-room : goal.sort-requires-clause-room
sort-requires-clause-room c = c.requires.room

pub sort-requires-clause-holds : goal.sort-requires-clause-holds
sort-requires-clause-holds c = c.requires.holds

pub returns-in-Ok-clause-takes : goal.returns-in-Ok-clause-takes
returns-in-Ok-clause-takes c = c.sort.ensures.takes

pub returns-in-Ok-clause-falls : goal.returns-in-Ok-clause-falls
returns-in-Ok-clause-falls c = c.sort.ensures.falls

pub returns-in-Ok-clause-holds : goal.returns-in-Ok-clause-holds
returns-in-Ok-clause-holds c = c.sort.ensures.holds

-- ---- or they are not

pub returns-in-Err-clause-takes : goal.returns-in-Err-clause-takes
returns-in-Err-clause-takes c = (inr (differs_so c.args.self.now c.args.cursor c.args.missing c.args.empty c.args.batch c.in-Err.error c.in-Err.ensures.err), refl)

pub returns-in-Err-clause-holds : goal.returns-in-Err-clause-holds
returns-in-Err-clause-holds c = c.requires.holds
