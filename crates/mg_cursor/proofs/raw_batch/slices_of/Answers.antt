use Rattle.std.proofs.Common.{sym}
use Rattle.mg_bson.specs.Raw.{fields, items}
use Rattle.mg_ops.proofs.Reading.{values_found}
use Rattle.mg_cursor.proofs.Batching.{no_batch_in}
use Rattle.mg_cursor.proofs.raw_batch.slices_of.Goals as goal

pub returns-in-Some-clause-bytes : goal.returns-in-Some-clause-bytes
returns-in-Some-clause-bytes c = sym c.in-Some.ensures.bytes

pub returns-in-Some-clause-values : goal.returns-in-Some-clause-values
returns-in-Some-clause-values c = values_found (fields c.args.reply.now) (items c.in-Some.batch) (sym c.in-Some.ensures.values)

pub returns-in-None-clause-bytes : goal.returns-in-None-clause-bytes
returns-in-None-clause-bytes c = sym c.in-None.ensures.bytes

pub returns-in-None-clause-values : goal.returns-in-None-clause-values
returns-in-None-clause-values c = no_batch_in (fields c.args.reply.now) c.missing.result c.plain.result c.in-None.ensures.values c.missing.ensures c.plain.ensures
