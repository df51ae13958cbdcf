use Rattle.std.proofs.Common.{◌-◌, take, drop, sym, ap, ◌∙◌}
use Rattle.mg_bson.specs.ReadView.{element_view}
use Rattle.mg_bson.specs.Walks.{passed_over}
use Rattle.mg_bson.proofs.Spans.{sliced}
use Rattle.mg_bson.proofs.Steps.{passes_in, passes_none_in, room_in}
use Rattle.mg_bson.proofs.documents.RawDocuments.pass_over.Goals as goal

pub overflow_sub-self : goal.overflow_sub-self
overflow_sub-self c =
    let s = c.self.inside in
    let bytes = c.as_bytes-bytes.result.now in
    (room_in s.document bytes (take (s.end - s.next) (drop s.next bytes)) s.begin s.upto s.next s.end (element_view c.in-Some.element) c.as_bytes-bytes.ensures (sliced bytes s.next s.end) c.self.invariant (sym c.in-Some.ensures)).behind

pub invariant_of-self : goal.invariant_of-self
invariant_of-self c =
    let s = c.self.inside in
    let bytes = c.as_bytes-bytes.result.now in
    (passes_in s.document bytes (take (s.end - s.next) (drop s.next bytes)) s.begin s.upto s.next s.end (element_view c.in-Some.element) c.as_bytes-bytes.ensures (sliced bytes s.next s.end) c.self.invariant (sym c.in-Some.ensures)).walk

pub returns-in-Some : goal.returns-in-Some
returns-in-Some c =
    let s = c.self.inside in
    let bytes = c.as_bytes-bytes.result.now in
    (passes_in s.document bytes (take (s.end - s.next) (drop s.next bytes)) s.begin s.upto s.next s.end (element_view c.in-Some.element) c.as_bytes-bytes.ensures (sliced bytes s.next s.end) c.self.invariant (sym c.in-Some.ensures)).state ∙ ap passed_over c.self.view_is

pub returns-in_default : goal.returns-in_default
returns-in_default c =
    let s = c.self.inside in
    let bytes = c.as_bytes-bytes.result.now in
    sym c.self.view_is
    ∙ passes_none_in s.document bytes (take (s.end - s.next) (drop s.next bytes)) s.begin s.upto s.next s.end c.as_bytes-bytes.ensures (sliced bytes s.next s.end) c.self.invariant (sym c.in_default.ensures)
    ∙ ap passed_over c.self.view_is
