use Rattle.std.proofs.Common.{◌≡◌, Result, Ok, Err, option_map, sym, ◌∙◌}
use Rattle.mg_bson.specs.Raw.{fields, items}
use Rattle.mg_bson.specs.Tree.{Items}
use Rattle.mg_link.specs.declared.error.Malformed.{Malformed}
use Rattle.mg_ops.proofs.Reading.{items_read}
use Rattle.mg_records.specs.FileRecords.{file_record}
use Rattle.mg_gridfs.proofs.Found.{said_breaks, said_gives}
use Rattle.mg_gridfs.proofs.open_download.first_record.Goals as goal

never_both : (ts : Items) (m : Malformed) → ◌≡◌ {A = Result Items Malformed} (Ok ts) (Err m) → ⊥
never_both ts m e = cc

pub returns-in-Ok-clause-ok : goal.returns-in-Ok-clause-ok
returns-in-Ok-clause-ok c = said_gives (option_map file_record) c.first_of.result (fields c.args.reply.now) (items c.in-Ok.batch) c.in-Ok.ensures c.first_of.ensures.ok

pub returns-in-Ok-clause-err : goal.returns-in-Ok-clause-err
returns-in-Ok-clause-err c = said_breaks (option_map file_record) c.first_of.result (fields c.args.reply.now) (items c.in-Ok.batch) c.in-Ok.ensures c.first_of.ensures.err

-- a reply with a cursor has a batch
pub returns-in-Err-clause-err : goal.returns-in-Err-clause-err
returns-in-Err-clause-err c = λ said says. absurd (never_both said.batch c.in-Err.how (sym (items_read (fields c.args.reply.now) said says) ∙ c.in-Err.ensures))
