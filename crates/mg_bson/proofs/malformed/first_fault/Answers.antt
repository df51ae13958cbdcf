use Rattle.std.proofs.Common.{sym, arith, rules}
use Rattle.mg_bson.specs.ReadView.{element_view}
use Rattle.mg_bson.proofs.Checking.{shorter}
use Rattle.mg_bson.proofs.Malforming.{passed_none, passed_more, passed_all, no_element, no_value}
use Rattle.mg_bson.proofs.malformed.first_fault.Goals as goal

pub loop-rest-init : goal.loop-rest-init
loop-rest-init c = passed_none c.args.body.now

pub returns-in-None : goal.returns-in-None
returns-in-None c = no_element c.args.body.now c.loop-rest.rest.now _ c.loop-rest.invariant (search rules) (omega (arith, c.loop-rest.invariant.short)) (sym c.in-None.ensures)

pub returns-then-not-is_value : goal.returns-then-not-is_value
returns-then-not-is_value c =
    no_value c.args.body.now c.loop-rest.rest.now _ (element_view c.in-Some.element) c.loop-rest.invariant (search rules) (omega (arith, c.loop-rest.invariant.short)) (sym c.in-Some.ensures) (sym c.if-not-is_value.ensures)

pub loop-rest-smaller : goal.loop-rest-smaller
loop-rest-smaller c = shorter c.loop-rest.rest.now (element_view c.in-Some.element) (search rules) (sym c.in-Some.ensures)

pub loop-rest-preserved : goal.loop-rest-preserved
loop-rest-preserved c = passed_more c.args.body.now c.loop-rest.rest.now (element_view c.in-Some.element) c.loop-rest.invariant (search rules) (sym c.in-Some.ensures) (sym c.if-not-is_value.ensures)

pub returns : goal.returns
returns c = passed_all c.args.body.now c.loop-rest.rest.now c.loop-rest.invariant (search rules)
