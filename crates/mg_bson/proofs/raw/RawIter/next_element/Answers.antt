use Rattle.std.proofs.Common.{sym}
use Rattle.mg_bson.specs.ReadView.{element_view}
use Rattle.mg_bson.proofs.Lending.{no_element, some_element}
use Rattle.mg_bson.proofs.raw.RawIter.next_element.Goals as goal

pub returns-in_err-element : goal.returns-in_err-element
returns-in_err-element c =
    let none = no_element c.self.inside.rest.now c.self.invariant (sym c.in_err-element.ensures) in
    rw c.from_residual.ensures (rw (← c.self.view_is) (none, none))

pub invariant_of-self : goal.invariant_of-self
invariant_of-self c = (some_element c.self.inside.rest.now (element_view c.in_ok-element.element) c.self.invariant (sym c.in_ok-element.ensures)).rest

pub returns : goal.returns
returns c =
    let e = some_element c.self.inside.rest.now (element_view c.in_ok-element.element) c.self.invariant (sym c.in_ok-element.ensures) in
    rw (← c.self.view_is) (e.is_value, e.parts)
