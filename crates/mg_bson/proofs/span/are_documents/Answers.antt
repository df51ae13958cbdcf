use Rattle.std.proofs.Common.{sym, ap, ◌∙◌, is_some}
use Rattle.mg_bson.specs.ReadView.{element_view}
use Rattle.mg_bson.proofs.Lending.{some_element}
use Rattle.mg_bson.proofs.Spans.{element_less}
use Rattle.mg_bson.proofs.Inside.{other_document}
use Rattle.mg_bson.proofs.Walking.{stops_there, goes_on_there, ended_there}
use Rattle.mg_bson.proofs.span.are_documents.Goals as goal

pub split_known-requires : goal.split_known-requires
split_known-requires c = c.loop-element.invariant.read

pub returns-in_default-kind : goal.returns-in_default-kind
returns-in_default-kind c =
    let e = element_view c.in-Some.element in
    sym (ap is_some (stops_there c.loop-element.left.now e (sym c.in-Some.ensures) (other_document e.kind e.value c.in_default-kind.not-Document))) ∙ c.loop-element.invariant.same

pub loop-element-preserved : goal.loop-element-preserved
loop-element-preserved c =
    let e = element_view c.in-Some.element in
    record {
      read = (some_element c.loop-element.left.now e c.loop-element.invariant.read (sym c.in-Some.ensures)).rest;
      same = sym (goes_on_there c.loop-element.left.now e (sym c.in-Some.ensures) c.in-Document.is) ∙ c.loop-element.invariant.same;
    }

pub loop-element-smaller : goal.loop-element-smaller
loop-element-smaller c = element_less c.loop-element.left.now (element_view c.in-Some.element) (sym c.in-Some.ensures)

pub returns : goal.returns
returns c = sym (ended_there c.loop-element.left.now c.loop-element.invariant.read (sym c.in_default.ensures)) ∙ c.loop-element.invariant.same
