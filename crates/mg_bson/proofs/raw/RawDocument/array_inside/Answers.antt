use Rattle.std.proofs.Common.{Some, option_map, sym, ap, subst, ◌∙◌}
use Rattle.mg_bson.specs.Raw.{IsDocument, items}
use Rattle.mg_bson.specs.Spans.{array_inside}
use Rattle.mg_bson.proofs.Spans.{sliced}
use Rattle.mg_bson.proofs.Inside.{inside_value}
use Rattle.mg_bson.proofs.raw.RawDocument.array_inside.Goals as goal

pub returns-in_err-array-clause-values : goal.returns-in_err-array-clause-values
returns-in_err-array-clause-values c =
    let b = c.as_bytes-bytes.ensures in
    rw c.from_residual.ensures (ap (option_map items) (c.in_err-array.ensures.array ∙ ap (array_inside c.args.outer.now c.args.name.now) b.bytes) ∙ inside_value c.args.outer.now c.args.name.now c.args.self.now b.document)

pub checked-requires : goal.checked-requires
checked-requires c =
    let a = c.in_ok-array in
    subst IsDocument (sym (sliced c.as_bytes-bytes.result.now a.array.from a.array.upto)) a.ensures.read

pub returns-clause-bytes : goal.returns-clause-bytes
returns-clause-bytes c =
    let a = c.in_ok-array in
    ap Some (c.checked.ensures ∙ sliced c.as_bytes-bytes.result.now a.array.from a.array.upto) ∙ a.ensures.array ∙ ap (array_inside c.args.outer.now c.args.name.now) c.as_bytes-bytes.ensures.bytes

pub returns-clause-values : goal.returns-clause-values
returns-clause-values c = ap (option_map items) (returns-clause-bytes c) ∙ inside_value c.args.outer.now c.args.name.now c.args.self.now c.as_bytes-bytes.ensures.document
