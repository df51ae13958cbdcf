use Rattle.std.proofs.Common.{◌-◌, take, drop, sym, ap, ◌∙◌}
use Rattle.mg_bson.specs.ReadView.{element_view}
use Rattle.mg_bson.specs.Walks.{advanced}
use Rattle.mg_bson.proofs.Spans.{sliced}
use Rattle.mg_bson.proofs.Steps.{room_in, steps_on, steps_out}
use Rattle.mg_bson.proofs.documents.RawDocuments.advance.Goals as goal

pub returns-in_default-clause-state : goal.returns-in_default-clause-state
returns-in_default-clause-state c =
    let s = c.self.inside in
    let bytes = c.as_bytes-bytes.result.now in
    (steps_out s.document bytes (take (s.end - s.next) (drop s.next bytes)) s.begin s.upto s.next s.end c.as_bytes-bytes.ensures (sliced bytes s.next s.end) c.self.invariant (sym c.in_default.ensures)).0.state ∙ ap advanced c.self.view_is

-- none is current
pub invariant_of-self : goal.invariant_of-self
invariant_of-self c =
    let s = c.self.inside in
    let bytes = c.as_bytes-bytes.result.now in
    (steps_out s.document bytes (take (s.end - s.next) (drop s.next bytes)) s.begin s.upto s.next s.end c.as_bytes-bytes.ensures (sliced bytes s.next s.end) c.self.invariant (sym c.in_default.ensures)).0.walk

pub overflow_sub-self : goal.overflow_sub-self
overflow_sub-self c =
    let s = c.self.inside in
    let bytes = c.as_bytes-bytes.result.now in
    (room_in s.document bytes (take (s.end - s.next) (drop s.next bytes)) s.begin s.upto s.next s.end (element_view c.in-Some.element) c.as_bytes-bytes.ensures (sliced bytes s.next s.end) c.self.invariant (sym c.in-Some.ensures)).behind

pub overflow_sub-self-2 : goal.overflow_sub-self-2
overflow_sub-self-2 c =
    let s = c.self.inside in
    let bytes = c.as_bytes-bytes.result.now in
    (room_in s.document bytes (take (s.end - s.next) (drop s.next bytes)) s.begin s.upto s.next s.end (element_view c.in-Some.element) c.as_bytes-bytes.ensures (sliced bytes s.next s.end) c.self.invariant (sym c.in-Some.ensures)).before

pub invariant_of-self-2 : goal.invariant_of-self-2
invariant_of-self-2 c =
    let s = c.self.inside in
    let bytes = c.as_bytes-bytes.result.now in
    (steps_on s.document bytes (take (s.end - s.next) (drop s.next bytes)) s.begin s.upto s.next s.end (element_view c.in-Some.element) c.as_bytes-bytes.ensures (sliced bytes s.next s.end) c.self.invariant (sym c.in-Some.ensures)).walks.walk

pub returns-clause-state : goal.returns-clause-state
returns-clause-state c =
    let s = c.self.inside in
    let bytes = c.as_bytes-bytes.result.now in
    (steps_on s.document bytes (take (s.end - s.next) (drop s.next bytes)) s.begin s.upto s.next s.end (element_view c.in-Some.element) c.as_bytes-bytes.ensures (sliced bytes s.next s.end) c.self.invariant (sym c.in-Some.ensures)).walks.state ∙ ap advanced c.self.view_is

pub returns-clause-there : goal.returns-clause-there
returns-clause-there c =
    let s = c.self.inside in
    let bytes = c.as_bytes-bytes.result.now in
    sym (steps_on s.document bytes (take (s.end - s.next) (drop s.next bytes)) s.begin s.upto s.next s.end (element_view c.in-Some.element) c.as_bytes-bytes.ensures (sliced bytes s.next s.end) c.self.invariant (sym c.in-Some.ensures)).there
