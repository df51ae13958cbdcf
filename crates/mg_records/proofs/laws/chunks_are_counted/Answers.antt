use Rattle.mg_records.proofs.Counting.{chunks_counted, chunks_long, count_holds}
use Rattle.mg_records.proofs.laws.chunks_are_counted.Goals as goal

pub returns-clause-bounds : goal.returns-clause-bounds
returns-clause-bounds c = count_holds

pub returns-clause-count : goal.returns-clause-count
returns-clause-count c = chunks_counted

pub returns-clause-lengths : goal.returns-clause-lengths
returns-clause-lengths c = chunks_long
