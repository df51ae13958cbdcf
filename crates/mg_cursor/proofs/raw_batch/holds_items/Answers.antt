use Rattle.mg_bson.specs.Raw.{items}
use Rattle.mg_cursor.proofs.Batching.{has_none, has_some}
use Rattle.mg_cursor.proofs.raw_batch.holds_items.Goals as goal

pub returns-in-Ok : goal.returns-in-Ok
returns-in-Ok c = has_some c.args.reply.now (items c.in-Ok.batch) c.is_empty.result c.in-Ok.ensures.values c.is_empty.ensures

pub returns-in-Err : goal.returns-in-Err
returns-in-Err c = has_none c.args.reply.now c.in-Err._error c.in-Err.ensures.values
