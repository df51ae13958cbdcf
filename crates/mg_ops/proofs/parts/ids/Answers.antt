use Rattle.std.proofs.Common.{◌≡◌, get_or, pos, rules}
use Rattle.mg_bson.specs.Tree.{int64}
use Rattle.mg_bson.specs.Find.{with_item}
use Rattle.mg_ops.proofs.Listing.{listed_on, listed_end}
use Rattle.mg_ops.proofs.parts.ids.Goals as goal
use Rattle.mg_options.specs.Printing.{listed}

pub loop-id-preserved : goal.loop-id-preserved
loop-id-preserved c =
    let put : c.put_id.new.array ≡ with_item c.loop-id.array (int64 (get_or c.args.ids.now c.loop-id.id-index (pos 0))) = search rules in
    listed_on int64 c.loop-id.array c.put_id.new.array c.args.ids.now c.loop-id.id-index (pos 0) (listed int64 c.args.ids.now) c.loop-id-test.true put c.loop-id.invariant

pub returns-clause-ok : goal.returns-clause-ok
returns-clause-ok c = listed_end int64 c.loop-id.array c.args.ids.now c.loop-id.id-index (listed int64 c.args.ids.now) c.loop-id-test.false c.loop-id.invariant
