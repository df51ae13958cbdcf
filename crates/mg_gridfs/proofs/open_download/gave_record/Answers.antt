use Rattle.std.proofs.Common.{option_map}
use Rattle.mg_records.specs.FileRecords.{file_record}
use Rattle.mg_gridfs.proofs.Found.{gave_breaks, gave_gives}
use Rattle.mg_gridfs.proofs.open_download.gave_record.Goals as goal

pub returns-clause-ok : goal.returns-clause-ok
returns-clause-ok c = gave_gives (option_map file_record) c.first_record.result c.as_raw.result c.args.gave c.as_raw.ensures c.first_record.ensures.ok

pub returns-clause-err : goal.returns-clause-err
returns-clause-err c = gave_breaks (option_map file_record) c.first_record.result c.as_raw.result c.args.gave c.as_raw.ensures c.first_record.ensures.err
