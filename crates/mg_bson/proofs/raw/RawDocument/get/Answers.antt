use Rattle.std.proofs.Common.{◌≡◌, Some, refl, sym, ap, ◌∙◌}
use Rattle.mg_bson.specs.Find.{get}
use Rattle.mg_bson.specs.Raw.{fields_left, spelled}
use Rattle.mg_bson.specs.ReadView.{spelling}
use Rattle.mg_bson.proofs.Lending.{spells}
use Rattle.mg_bson.proofs.raw.RawDocument.get.Goals as goal

pub returns-then-eq : goal.returns-then-eq
returns-then-eq c =
    let k = c.args.name.now in
    let v = spelling c.in-Some.element in
    let found : get k (fields_left c.loop-element.left) ≡ Some (spelled v) = ap (get k) c.in-Some.ensures.1 ∙ rw (sym c.eq.ensures ∙ c.if-eq.true) refl in
    c.in_ok-value.ensures.value ∙ spells v c.in-Some.ensures.0 ∙ sym found ∙ c.loop-element.invariant
