use Rattle.std.proofs.Common.{◌+◌, length, drop, sym, ap, subst, ◌∙◌, arith}
use Rattle.std.proofs.lemmas.Result.{on_ok_weaker, err_from_is_err_and, IfErr-weaker}
use Rattle.mg_bson.specs.Tree.{field}
use Rattle.mg_bson.specs.Bytes.{value_bytes, tree_depth}
use Rattle.mg_bson.specs.Writable.{has_bad_name}
use Rattle.mg_bson.specs.Writing.{StopsAt}
use Rattle.mg_bson.specs.View.{tree, fields_of, items_of}
use Rattle.mg_bson.proofs.Along.{fields_here, items_here}
use Rattle.mg_bson.proofs.Measuring.{MeasuredOn, MeasuredItems, stops_more, measured_head, measured_items_head, measured_items_value, measured_step, measured_value}
use Rattle.mg_bson.proofs.Plain.{plain, plain_depth}
use Rattle.mg_bson.proofs.measure.+measure.Goals as goal

pub measure_fields-returns-in_err-head-clause-err : goal.measure_fields-returns-in_err-head-clause-err
measure_fields-returns-in_err-head-clause-err t c =
    let f = c.field-item.result in
    let rest = fields_of (drop (c.loop-field.field-index + 1) c.args.fields.now) in
    let here = fields_here c.args.fields.now c.loop-field.field-index f (omega arith) c.field-item.is ∙ ap (λ k. field k (tree f.value) rest) (sym c.as_str.ensures) in
    let a = subst (MeasuredOn c.args.levels c.args.len c.loop-field.end (fields_of c.args.fields.now)) here c.loop-field.invariant in
    let p = err_from_is_err_and c.from_residual.result c.from_residual.ensures.1 in
    rw (p.1, p.2) (measured_head _ c.args.levels c.args.len c.loop-field.end (fields_of c.args.fields.now) rest c.as_str.result.now (tree f.value) a c.in_err-head.ensures.err)

pub measure_fields-returns-in_err-end-clause-err : goal.measure_fields-returns-in_err-end-clause-err
measure_fields-returns-in_err-end-clause-err t c =
    let f = c.field-item.result in
    let rest = fields_of (drop (c.loop-field.field-index + 1) c.args.fields.now) in
    let here = fields_here c.args.fields.now c.loop-field.field-index f (omega arith) c.field-item.is ∙ ap (λ k. field k (tree f.value) rest) (sym c.as_str.ensures) in
    let a = subst (MeasuredOn c.args.levels c.args.len c.loop-field.end (fields_of c.args.fields.now)) here c.loop-field.invariant in
    let p = err_from_is_err_and c.from_residual-in_err-end.result c.from_residual-in_err-end.ensures.1 in
    rw (p.1, p.2) (measured_value _ c.args.levels c.args.len c.loop-field.end c.in_ok-head.head (fields_of c.args.fields.now) rest c.as_str.result.now (tree f.value) a c.in_ok-head.ensures.ok c.in_err-end.ensures.err)

pub measure_fields-loop-field-preserved : goal.measure_fields-loop-field-preserved
measure_fields-loop-field-preserved t c =
    let f = c.field-item.result in
    let rest = fields_of (drop (c.loop-field.field-index + 1) c.args.fields.now) in
    let here = fields_here c.args.fields.now c.loop-field.field-index f (omega arith) c.field-item.is ∙ ap (λ k. field k (tree f.value) rest) (sym c.as_str.ensures) in
    let a = subst (MeasuredOn c.args.levels c.args.len c.loop-field.end (fields_of c.args.fields.now)) here c.loop-field.invariant in
    let done = c.in_ok-end.ensures.sound in
    measured_step c.args.levels c.args.len c.loop-field.end c.in_ok-head.head c.in_ok-end.end (fields_of c.args.fields.now) rest c.as_str.result.now (tree f.value) a c.in_ok-head.ensures.ok c.in_ok-end.ensures.ok c.in_ok-head.ensures.name done.0 done.1

pub measure_items-returns-in_err-head-clause-err : goal.measure_items-returns-in_err-head-clause-err
measure_items-returns-in_err-head-clause-err t c =
    let x = c.index-items-i.result in
    let i = c.loop-i.i in
    let ts = c.args.items.now in
    let rest = items_of (drop (i + 1) ts) in
    let here = items_here ts i x (omega arith) c.index-items-i.is in
    let a = subst (MeasuredItems c.args.levels i c.args.len c.loop-i.end (items_of ts)) here c.loop-i.invariant in
    let p = err_from_is_err_and c.from_residual.result c.from_residual.ensures.1 in
    rw (p.1, p.2) (measured_items_head _ c.args.levels i c.args.len c.loop-i.end (items_of ts) rest (tree x) a c.in_err-head.ensures.err)

pub measure_items-returns-in_err-end-clause-err : goal.measure_items-returns-in_err-end-clause-err
measure_items-returns-in_err-end-clause-err t c =
    let x = c.index-items-i.result in
    let i = c.loop-i.i in
    let ts = c.args.items.now in
    let rest = items_of (drop (i + 1) ts) in
    let here = items_here ts i x (omega arith) c.index-items-i.is in
    let a = subst (MeasuredItems c.args.levels i c.args.len c.loop-i.end (items_of ts)) here c.loop-i.invariant in
    let p = err_from_is_err_and c.from_residual-in_err-end.result c.from_residual-in_err-end.ensures.1 in
    rw (p.1, p.2) (measured_items_value _ c.args.levels i c.args.len c.loop-i.end c.in_ok-head.head (items_of ts) rest (tree x) a c.in_ok-head.ensures.ok c.in_err-end.ensures.err)

pub measure_value-measure_plain-requires : goal.measure_value-measure_plain-requires
measure_value-measure_plain-requires t c = plain c.args.value.now c.in_default.not-Document c.in_default.not-Array c.in_default.not-CodeWithScope

pub measure_value-returns-in_default-clause-sound : goal.measure_value-returns-in_default-clause-sound
measure_value-returns-in_default-clause-sound t c =
    let v = c.args.value.now in
    let flat = plain_depth (tree v) (plain v c.in_default.not-Document c.in_default.not-Array c.in_default.not-CodeWithScope) in
    on_ok_weaker c.measure_plain.result (λ s. (s, omega (arith, flat))) c.measure_plain.ensures.sound

pub measure_value-returns-in_default-clause-err : goal.measure_value-returns-in_default-clause-err
measure_value-returns-in_default-clause-err t c =
    let v = c.args.value.now in
    let n = c.args.len + length (value_bytes (tree v)) in
    let b = has_bad_name (tree v) in
    IfErr-weaker c.measure_plain.result (λ e. StopsAt e n 0 0 b) (λ e. StopsAt e n c.args.levels (tree_depth (tree v)) b)
    (λ e h. stops_more e n n 0 c.args.levels 0 (tree_depth (tree v)) b b h (omega arith) (λ q. absurd (omega arith)) (λ q. q)) c.measure_plain.ensures.err
