use Rattle.std.proofs.Common.{ap, inl}
use Rattle.std.proofs.lemmas.Bool.{iff_false}
use Rattle.mg_gridfs.specs.Downloads.{spoiled_at}
use Rattle.mg_gridfs.specs.DownloadView.{download_of}
use Rattle.mg_gridfs.proofs.Turned.{empty_falls, empty_taken, has_chunks, kept_falls, kept_taken}
use Rattle.mg_gridfs.proofs.download.GridFsDownloadStream.sort.Goals as goal

-- ---- an empty batch

pub count_empty-requires : goal.count_empty-requires
count_empty-requires c = c.requires.room

pub returns-then-is_same-clause-takes : goal.returns-then-is_same-clause-takes
returns-then-is_same-clause-takes c = empty_taken c.args.self.now c.args.cursor c.args.missing c.args.empty c.args.batch c.args.place c.count_empty.result c.requires.looks (c.is_same.ensures.0 c.if-is_same.true) c.count_empty.ensures

pub returns-then-is_same-clause-falls : goal.returns-then-is_same-clause-falls
returns-then-is_same-clause-falls c = empty_falls c.args.cursor c.args.missing c.args.empty c.count_empty.result c.requires.room c.count_empty.ensures

pub returns-then-is_same-clause-holds : goal.returns-then-is_same-clause-holds
returns-then-is_same-clause-holds c = c.requires.holds

-- ---- one with chunks

pub keep-requires-clause-holds : goal.keep-requires-clause-holds
keep-requires-clause-holds c = c.requires.holds

pub keep-requires-clause-chunks : goal.keep-requires-clause-chunks
keep-requires-clause-chunks c = has_chunks (download_of c.args.self.now) c.args.missing c.args.batch c.args.place c.requires.looks (iff_false c.is_same.ensures c.if-is_same.false)

pub returns-in-Ok-clause-takes : goal.returns-in-Ok-clause-takes
returns-in-Ok-clause-takes c = kept_taken c.args.self.now c.keep.new.self c.args.cursor c.args.missing c.args.empty c.args.batch c.args.place c.requires.looks (iff_false c.is_same.ensures c.if-is_same.false) c.in-Ok.ensures.ok

pub returns-in-Ok-clause-falls : goal.returns-in-Ok-clause-falls
returns-in-Ok-clause-falls c = kept_falls (download_of c.args.self.now) c.args.missing c.args.empty c.args.batch c.args.place c.requires.looks (iff_false c.is_same.ensures c.if-is_same.false) c.requires.short

pub returns-in-Ok-clause-holds : goal.returns-in-Ok-clause-holds
returns-in-Ok-clause-holds c = c.keep.ensures.holds

pub returns-in-Err-clause-takes : goal.returns-in-Err-clause-takes
returns-in-Err-clause-takes c = (inl c.in-Err.ensures.err, ap spoiled_at c.in-Err.ensures.same)

pub returns-in-Err-clause-holds : goal.returns-in-Err-clause-holds
returns-in-Err-clause-holds c = c.keep.ensures.holds
