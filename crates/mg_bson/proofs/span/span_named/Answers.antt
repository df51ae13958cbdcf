use Rattle.std.proofs.Common.{sym, arith, ◌∙◌}
use Rattle.mg_bson.specs.ReadView.{element_view}
use Rattle.mg_bson.proofs.Lending.{has_body}
use Rattle.mg_bson.proofs.Spans.{element_less, looks_at_first, looks_on, looks_in_vain, reaches, is_found}
use Rattle.mg_bson.proofs.span.span_named.Goals as goal

pub returns-in_err-left : goal.returns-in_err-left
returns-in_err-left c = absurd (has_body c.args.bytes.now c.requires (sym c.in_err-left.ensures))

pub loop-element-init : goal.loop-element-init
loop-element-init c = looks_at_first c.args.bytes.now c.args.name.now c.in_ok-left.left.now c.requires (sym c.in_ok-left.ensures)

pub split_known-requires : goal.split_known-requires
split_known-requires c = c.loop-element.invariant.read

pub overflow_sub-upto : goal.overflow_sub-upto
overflow_sub-upto c = omega (arith, (reaches c.args.bytes.now c.args.name.now c.loop-element.left.now (element_view c.in-Some.element) c.loop-element.invariant (sym c.in-Some.ensures)).long)

pub overflow_sub-upto-then-eq : goal.overflow_sub-upto-then-eq
overflow_sub-upto-then-eq c = omega (arith, (reaches c.args.bytes.now c.args.name.now c.loop-element.left.now (element_view c.in-Some.element) c.loop-element.invariant (sym c.in-Some.ensures)).behind)

pub overflow_sub-from : goal.overflow_sub-from
overflow_sub-from c = omega (arith, (reaches c.args.bytes.now c.args.name.now c.loop-element.left.now (element_view c.in-Some.element) c.loop-element.invariant (sym c.in-Some.ensures)).before)

pub returns-then-eq-clause-value : goal.returns-then-eq-clause-value
returns-then-eq-clause-value c = (is_found c.args.bytes.now c.args.name.now c.loop-element.left.now (element_view c.in-Some.element) c.loop-element.invariant (sym c.in-Some.ensures) (sym c.eq.ensures ∙ c.if-eq.true)).value

pub returns-then-eq-clause-read : goal.returns-then-eq-clause-read
returns-then-eq-clause-read c = (is_found c.args.bytes.now c.args.name.now c.loop-element.left.now (element_view c.in-Some.element) c.loop-element.invariant (sym c.in-Some.ensures) (sym c.eq.ensures ∙ c.if-eq.true)).read

pub loop-element-preserved : goal.loop-element-preserved
loop-element-preserved c = looks_on c.args.bytes.now c.args.name.now c.loop-element.left.now (element_view c.in-Some.element) c.loop-element.invariant (sym c.in-Some.ensures) (sym c.eq.ensures ∙ c.if-eq.false)

pub loop-element-smaller : goal.loop-element-smaller
loop-element-smaller c = element_less c.loop-element.left.now (element_view c.in-Some.element) (sym c.in-Some.ensures)

pub returns-clause-value : goal.returns-clause-value
returns-clause-value c = looks_in_vain c.args.bytes.now c.args.name.now c.loop-element.left.now c.loop-element.invariant (sym c.in_default.ensures)
