use Rattle.std.proofs.Common.{arith, sym, ap, ◌∙◌}
use Rattle.std.specs.Prelude.{option_and_then}
use Rattle.mg_bson.specs.Reading.{body_at}
use Rattle.mg_bson.proofs.Spans.{elements_are}
use Rattle.mg_bson.proofs.span.elements_inside.Goals as goal

pub overflow_sub-result : goal.overflow_sub-result
overflow_sub-result c =
    let a = c.in_ok-array in
    omega (arith, (elements_are c.args.bytes.now a.array.from a.array.upto a.ensures.within.1 a.ensures.read).long)

pub returns-clause-elements : goal.returns-clause-elements
returns-clause-elements c =
    let a = c.in_ok-array in
    sym (elements_are c.args.bytes.now a.array.from a.array.upto a.ensures.within.1 a.ensures.read).these ∙ ap (option_and_then body_at) a.ensures.array

pub returns-clause-fields : goal.returns-clause-fields
returns-clause-fields c =
    let a = c.in_ok-array in
    (elements_are c.args.bytes.now a.array.from a.array.upto a.ensures.within.1 a.ensures.read).read

pub returns-clause-within : goal.returns-clause-within
returns-clause-within c =
    let a = c.in_ok-array in
    let long = (elements_are c.args.bytes.now a.array.from a.array.upto a.ensures.within.1 a.ensures.read).long in
    (omega (arith, long), omega (arith, a.ensures.within.1))
