use Rattle.std.proofs.Common.{◌≡◌, ◌+◌, ◌<◌, ◌^◌, ap, arith, length, subst}
use Rattle.mg_bson.specs.Find.{items_length}
use Rattle.mg_bson.specs.Raw.{items, items_left}
use Rattle.mg_bson.specs.Reading.{values}
use Rattle.mg_bson.proofs.Counts.{items_count}
use Rattle.mg_bson.proofs.raw.RawArray.len.Goals as goal

pub overflow_add-count : goal.overflow_add-count
overflow_add-count c =
    let counted : c.loop-count.count + items_length (items_left c.loop-count.left) ≡ items_length (items c.args.self.now) = c.loop-count.invariant in
    let short : length c.args.self.now < 2 ^ 64 = subst (λ bs. length bs < 2 ^ 64) c.self.view_is c.self.told.0 in
    omega (arith, counted, short, ap (λ fs. items_length (values fs)) c.in-Some.ensures.1, items_count c.args.self.now)
