use Rattle.std.proofs.Common.{option_map, inl, inr, ℕ, List}
use Rattle.mg_bson.specs.Raw.{fields}
use Rattle.mg_link.specs.declared.error.Error.{Error}
use Rattle.mg_ops.specs.Cursors.{BreaksIn}
use Rattle.mg_ops.specs.Failing.{FailsBy}
use Rattle.mg_records.specs.FileRecords.{file_record}
use Rattle.mg_gridfs.specs.Findings.{BreaksRecord, no_cursor}
use Rattle.mg_gridfs.proofs.Found.{reply_breaks, reply_gives}
use Rattle.mg_gridfs.proofs.open_download.read_record.Goals as goal

without_cursor : (reply : List ℕ) (e : Error) → FailsBy (BreaksIn (fields reply)) e → FailsBy (BreaksRecord reply) e
without_cursor reply e (inl memory) = inl memory
without_cursor reply e (inr breaks) = inr (no_cursor breaks)

pub returns-in-Ok-clause-ok : goal.returns-in-Ok-clause-ok
returns-in-Ok-clause-ok c = reply_gives (option_map file_record) c.gave_record.result c.in-Ok.gave c.args.reply c.in-Ok.ensures.ok c.gave_record.ensures.ok

pub returns-in-Ok-clause-err : goal.returns-in-Ok-clause-err
returns-in-Ok-clause-err c = reply_breaks (option_map file_record) c.gave_record.result c.in-Ok.gave c.args.reply c.in-Ok.ensures.ok c.gave_record.ensures.err

pub returns-in-Err-clause-err : goal.returns-in-Err-clause-err
returns-in-Err-clause-err c = without_cursor c.args.reply c.in-Err.error c.in-Err.ensures.err
