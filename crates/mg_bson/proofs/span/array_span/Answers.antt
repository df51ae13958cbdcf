use Rattle.mg_bson.specs.Spans.{between}
use Rattle.mg_bson.proofs.Inside.{array_is, array_here, array_nowhere}
use Rattle.mg_bson.proofs.span.array_span.Goals as goal

pub returns-in-Array-clause-array : goal.returns-in-Array-clause-array
returns-in-Array-clause-array c =
    let s = c.in_ok-span in
    array_here c.args.name.now c.args.bytes.now s.kind (between s.span.from s.span.upto c.args.bytes.now) s.ensures.value c.in-Array.is

pub returns-in-Array-clause-read : goal.returns-in-Array-clause-read
returns-in-Array-clause-read c =
    let s = c.in_ok-span in
    array_is s.kind (between s.span.from s.span.upto c.args.bytes.now) s.ensures.read c.in-Array.is

pub returns-in_default-clause-array : goal.returns-in_default-clause-array
returns-in_default-clause-array c =
    let s = c.in_ok-span in
    array_nowhere c.args.name.now c.args.bytes.now s.kind (between s.span.from s.span.upto c.args.bytes.now) s.ensures.value c.in_default.not-Array
