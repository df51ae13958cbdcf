use Rattle.std.proofs.Common.{◌-◌, take, drop}
use Rattle.mg_bson.proofs.Spans.{sliced, fits_within}
use Rattle.mg_bson.proofs.Inside.{array_within, array_not_within, document_within}
use Rattle.mg_bson.proofs.span.span_inside.Goals as goal

pub returns-in_err-array-clause-array : goal.returns-in_err-array-clause-array
returns-in_err-array-clause-array c =
    let bytes = c.args.bytes.now in
    let d = c.in_ok-document in
    let from = d.document.from in
    let upto = d.document.upto in
    rw c.from_residual-in_err-array.ensures (array_not_within c.args.outer.now c.args.name.now bytes (take (upto - from) (drop from bytes)) from upto (sliced bytes from upto) d.ensures.document c.in_err-array.ensures.array)

pub returns-clause-array : goal.returns-clause-array
returns-clause-array c =
    let bytes = c.args.bytes.now in
    let d = c.in_ok-document in
    let from = d.document.from in
    let upto = d.document.upto in
    let slice = take (upto - from) (drop from bytes) in
    let a = c.in_ok-array in
    let is = sliced bytes from upto in
    array_within c.args.outer.now c.args.name.now bytes slice a.array.from a.array.upto from upto is (fits_within bytes slice a.array.upto from upto is d.ensures.within.0 d.ensures.within.1 a.ensures.within.1) d.ensures.document a.ensures.array

pub returns-clause-read : goal.returns-clause-read
returns-clause-read c =
    let bytes = c.args.bytes.now in
    let d = c.in_ok-document in
    let from = d.document.from in
    let upto = d.document.upto in
    let slice = take (upto - from) (drop from bytes) in
    let a = c.in_ok-array in
    let is = sliced bytes from upto in
    document_within bytes slice a.array.from a.array.upto from upto is (fits_within bytes slice a.array.upto from upto is d.ensures.within.0 d.ensures.within.1 a.ensures.within.1) a.ensures.read
