use Rattle.std.proofs.Common.{arith}
use Rattle.std.proofs.lemmas.Result.{err_from_is_err_and}
use Rattle.serde_json.specs.View.{items_view}
use Rattle.mg_script.specs.declared.fault.Place.TheVariants as place
use Rattle.mg_script.specs.Reads.{each}
use Rattle.mg_script.specs.Script.{turns_of, turn_of}
use Rattle.mg_script.proofs.Steps.{list_go_on, list_stop, list_end}
use Rattle.mg_script.proofs.parse.order_of.Goals as goal

pub returns-in_err-turn : goal.returns-in_err-turn
unfolding turns_of
returns-in_err-turn c =
    let p = err_from_is_err_and c.from_residual.result c.from_residual.ensures.1 in
    rw (p.1, p.2) (list_stop c.in_err-turn.field-0.0 (λ n. turn_of (place.Order n)) c.loop-i.order.items c.args.values.now c.loop-i.i c.index-values-i.result (each (λ n. turn_of (place.Order n)) 0 (items_view c.args.values.now)) (omega arith) c.index-values-i.is c.in_err-turn.ensures c.loop-i.invariant)

pub loop-i-preserved : goal.loop-i-preserved
loop-i-preserved c =
    list_go_on (λ n. turn_of (place.Order n)) c.loop-i.order.items c.push.new.self.items c.in_ok-turn.turn c.args.values.now c.loop-i.i c.index-values-i.result (each (λ n. turn_of (place.Order n)) 0 (items_view c.args.values.now)) (omega arith) c.index-values-i.is c.in_ok-turn.ensures c.in_ok-push.ensures.items c.loop-i.invariant

pub returns : goal.returns
unfolding turns_of
returns c =
    list_end (λ n. turn_of (place.Order n)) c.loop-i.order.items c.args.values.now c.loop-i.i (each (λ n. turn_of (place.Order n)) 0 (items_view c.args.values.now)) (omega arith) c.loop-i.invariant
