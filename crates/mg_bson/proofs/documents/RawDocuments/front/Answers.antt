use Rattle.std.proofs.Common.{◌-◌, take, drop, Some, sym, ap, ◌∙◌}
use Rattle.mg_bson.specs.ReadView.{element_view}
use Rattle.mg_bson.specs.Walks.{Walk, front_of}
use Rattle.mg_bson.proofs.Spans.{sliced}
use Rattle.mg_bson.proofs.Steps.{front_in, no_front_in}
use Rattle.mg_bson.proofs.documents.RawDocuments.front.Goals as goal

pub checked-requires : goal.checked-requires
checked-requires c =
    let s = c.self.inside in
    let bytes = c.as_bytes-bytes.result.now in
    (front_in s.document bytes (take (s.end - s.next) (drop s.next bytes)) s.begin s.upto s.next s.end (element_view c.in-Some.element) c.as_bytes-bytes.ensures (sliced bytes s.next s.end) c.self.invariant (sym c.in-Some.ensures)).is_document

pub returns-in-Some : goal.returns-in-Some
returns-in-Some c =
    let s = c.self.inside in
    let bytes = c.as_bytes-bytes.result.now in
    ap Some c.checked.ensures
    ∙ (front_in s.document bytes (take (s.end - s.next) (drop s.next bytes)) s.begin s.upto s.next s.end (element_view c.in-Some.element) c.as_bytes-bytes.ensures (sliced bytes s.next s.end) c.self.invariant (sym c.in-Some.ensures)).front
    ∙ ap (λ (w : Walk). front_of w.behind) c.self.view_is

pub returns-in-None : goal.returns-in-None
returns-in-None c =
    let s = c.self.inside in
    let bytes = c.as_bytes-bytes.result.now in
    no_front_in s.document bytes (take (s.end - s.next) (drop s.next bytes)) s.begin s.upto s.next s.end c.as_bytes-bytes.ensures (sliced bytes s.next s.end) c.self.invariant (sym c.in-None.ensures)
    ∙ ap (λ (w : Walk). front_of w.behind) c.self.view_is
