use Rattle.std.proofs.Common.{sym}
use Rattle.std.specs.Prelude.{codes}
use Rattle.mg_bson.specs.Spans.{array_inside}
use Rattle.mg_cursor.specs.Batches.{batch_in}
use Rattle.mg_cursor.proofs.Batching.{or_first, or_next}
use Rattle.mg_cursor.proofs.raw_batch.first_name.Goals as goal

pub returns-in-Some : goal.returns-in-Some
unfolding batch_in
returns-in-Some c =
    let reply = c.args.reply.now in
    sym (or_first (array_inside (codes "cursor") (codes "firstBatch") reply) (array_inside (codes "cursor") (codes "nextBatch") reply) c.in-Some._batch (sym c.in-Some.ensures.bytes))

pub returns-in-None : goal.returns-in-None
unfolding batch_in
returns-in-None c =
    let reply = c.args.reply.now in
    sym (or_next (array_inside (codes "cursor") (codes "firstBatch") reply) (array_inside (codes "cursor") (codes "nextBatch") reply) (sym c.in-None.ensures.bytes))
