use Rattle.std.proofs.lemmas.Result.{err_from_is_err_and}
use Rattle.mg_bson.specs.Raw.{items, items_left}
use Rattle.mg_bson.specs.RawView.{value}
use Rattle.mg_chunks.proofs.Ordered.{came_all, came_differing, came_none, came_on}
use Rattle.mg_chunks.proofs.judging.judge_all.Goals as goal

pub items-init : goal.items-init
items-init c = came_none c.args.file.now c.args.place (items c.args.batch.now) (items_left c.iter-left.result) c.iter-left.ensures c.requires

pub items-preserved : goal.items-preserved
items-preserved c =
    came_on c.args.file.now c.args.place c.items.place _ (items c.args.batch.now) (items_left c.items.left) (items_left c.next.new.self) (value c.in-Some.found) c.items.invariant c.in-Some.ensures c.in_ok-place.ensures.ok

pub returns-clause-ok : goal.returns-clause-ok
returns-clause-ok c = came_all c.args.file.now c.args.place c.items.place (items c.args.batch.now) (items_left c.items.left) c.items.invariant c.in_default.ensures.0

pub returns-in_err-place-clause-err : goal.returns-in_err-place-clause-err
returns-in_err-place-clause-err c =
    let p = err_from_is_err_and c.from_residual.result c.from_residual.ensures.1 in
    rw (p.1, p.2) (came_differing c.args.file.now c.args.place c.items.place (items c.args.batch.now) (items_left c.items.left) (items_left c.next.new.self) (value c.in-Some.found) c.in_err-place.field-0.0 c.items.invariant c.in-Some.ensures c.in_err-place.ensures.err)
