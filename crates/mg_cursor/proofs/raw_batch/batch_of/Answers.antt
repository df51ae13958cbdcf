use Rattle.std.proofs.Common.{sym, ◌∙◌}
use Rattle.std.specs.Prelude.{codes, option_map}
use Rattle.mg_bson.specs.Raw.{fields, items}
use Rattle.mg_bson.specs.Spans.{array_inside}
use Rattle.mg_cursor.specs.Batches.{batch_in}
use Rattle.mg_cursor.proofs.Batching.{first_values, next_values, or_first, or_next}
use Rattle.mg_cursor.proofs.raw_batch.batch_of.Goals as goal

pub returns-in-Some-clause-bytes : goal.returns-in-Some-clause-bytes
unfolding batch_in
returns-in-Some-clause-bytes c =
    let reply = c.args.reply.now in
    c.in-Some.ensures.bytes ∙ sym (or_first (array_inside (codes "cursor") (codes "firstBatch") reply) (array_inside (codes "cursor") (codes "nextBatch") reply) c.in-Some.batch (sym c.in-Some.ensures.bytes))

pub returns-in-Some-clause-values : goal.returns-in-Some-clause-values
returns-in-Some-clause-values c = first_values (fields c.args.reply.now) (items c.in-Some.batch) c.in-Some.ensures.values

pub returns-in-None-clause-bytes : goal.returns-in-None-clause-bytes
unfolding batch_in
returns-in-None-clause-bytes c =
    let reply = c.args.reply.now in
    c.array_inside-in-None.ensures.bytes ∙ sym (or_next (array_inside (codes "cursor") (codes "firstBatch") reply) (array_inside (codes "cursor") (codes "nextBatch") reply) (sym c.in-None.ensures.bytes))

pub returns-in-None-clause-values : goal.returns-in-None-clause-values
returns-in-None-clause-values c = next_values (fields c.args.reply.now) (option_map items c.array_inside-in-None.result) c.in-None.ensures.values c.array_inside-in-None.ensures.values
