use Rattle.std.proofs.Common.{◌-◌, sym, ap, ◌∙◌, is_some, arith, rules}
use Rattle.mg_bson.specs.Reading.{doc_at}
use Rattle.mg_bson.specs.ReadView.{element_view}
use Rattle.mg_bson.proofs.Checking.{ended, stops, stops_at_value, goes_on, shorter, no_levels, no_body, in_body}
use Rattle.mg_bson.proofs.check.+check.Goals as goal

pub are_fields-returns-in-None : goal.are_fields-returns-in-None
are_fields-returns-in-None t c = sym (stops (doc_at c.args.levels) c.loop-rest.rest.now (search rules) (sym c.in-None.ensures)) ∙ c.loop-rest.invariant

pub are_fields-returns-then-not-is_value : goal.are_fields-returns-then-not-is_value
are_fields-returns-then-not-is_value t c = sym (stops_at_value (doc_at c.args.levels) c.loop-rest.rest.now (element_view c.in-Some.element) (search rules) (sym c.in-Some.ensures) (sym c.if-not-is_value.ensures)) ∙ c.loop-rest.invariant

pub are_fields-loop-rest-smaller : goal.are_fields-loop-rest-smaller
are_fields-loop-rest-smaller t c = shorter c.loop-rest.rest.now (element_view c.in-Some.element) (search rules) (sym c.in-Some.ensures)

pub are_fields-loop-rest-preserved : goal.are_fields-loop-rest-preserved
are_fields-loop-rest-preserved t c = sym (goes_on (doc_at c.args.levels) c.loop-rest.rest.now (element_view c.in-Some.element) (search rules) (sym c.in-Some.ensures) (sym c.if-not-is_value.ensures)) ∙ c.loop-rest.invariant

pub are_fields-returns : goal.are_fields-returns
are_fields-returns t c = sym (ended (doc_at c.args.levels) c.loop-rest.rest.now (search rules)) ∙ c.loop-rest.invariant

pub is_document-returns-then-levels-eq0 : goal.is_document-returns-then-levels-eq0
is_document-returns-then-levels-eq0 t c = sym (no_levels c.args.levels c.args.bytes.now (omega arith))

pub is_document-returns-in-None : goal.is_document-returns-in-None
is_document-returns-in-None t c = sym (no_body c.args.levels c.args.bytes.now (omega arith) (sym c.in-None.ensures))

pub is_document-returns-in-Some : goal.is_document-returns-in-Some
is_document-returns-in-Some t c = c.are_fields.ensures ∙ sym (ap is_some (in_body c.args.levels (c.args.levels - 1) c.args.bytes.now c.in-Some.body.now (omega arith) (sym c.in-Some.ensures)))
