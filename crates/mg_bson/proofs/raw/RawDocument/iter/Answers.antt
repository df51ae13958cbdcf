use Rattle.std.proofs.Common.{sym, ap, ◌∙◌}
use Rattle.mg_bson.specs.Raw.{fields}
use Rattle.mg_bson.proofs.Lending.{nothing_left, has_body, body_fields}
use Rattle.mg_bson.proofs.raw.RawDocument.iter.Goals as goal

pub invariant_of-t-5 : goal.invariant_of-t-5
invariant_of-t-5 c = (body_fields c.self.inside.bytes.now c.in-Some.rest.now c.self.invariant (sym c.in-Some.ensures)).0

pub invariant_of-result : goal.invariant_of-result
invariant_of-result c = nothing_left

pub returns-in-Some : goal.returns-in-Some
returns-in-Some c = (body_fields c.self.inside.bytes.now c.in-Some.rest.now c.self.invariant (sym c.in-Some.ensures)).1 ∙ ap fields c.self.view_is

pub returns-in-None : goal.returns-in-None
returns-in-None c = absurd (has_body c.self.inside.bytes.now c.self.invariant (sym c.in-None.ensures))
