use Rattle.std.proofs.Common.{map, string_bytes, ap, ◌∙◌, arith}
use Rattle.std.proofs.lemmas.List.{map_push}
use Rattle.std.proofs.lemmas.Result.{err_from_is_err_and}
use Rattle.serde_json.specs.View.{items_view}
use Rattle.mg_script.specs.Reads.{each}
use Rattle.mg_script.specs.Script.{label_of}
use Rattle.mg_script.proofs.Steps.{list_go_on, list_stop, list_end}
use Rattle.mg_script.proofs.parse_fate.texts_of.Goals as goal

pub returns-in_err-label : goal.returns-in_err-label
returns-in_err-label c =
    let p = err_from_is_err_and c.from_residual.result c.from_residual.ensures.1 in
    rw (p.1, p.2) (list_stop c.in_err-label.field-0.0 (λ n. label_of c.args.place) (map string_bytes c.loop-value.labels.items) c.args.values.now c.loop-value.value-index c.value-item.result (each (λ n. label_of c.args.place) 0 (items_view c.args.values.now)) (omega arith) c.value-item.is c.in_err-label.ensures c.loop-value.invariant)

pub loop-value-preserved : goal.loop-value-preserved
loop-value-preserved c =
    list_go_on (λ n. label_of c.args.place) (map string_bytes c.loop-value.labels.items) (map string_bytes c.push.new.self.items) (string_bytes c.in_ok-label.label) c.args.values.now c.loop-value.value-index c.value-item.result (each (λ n. label_of c.args.place) 0 (items_view c.args.values.now)) (omega arith) c.value-item.is c.in_ok-label.ensures (ap (map string_bytes) c.in_ok-push.ensures.items ∙ map_push string_bytes c.loop-value.labels.items c.in_ok-label.label) c.loop-value.invariant

pub returns : goal.returns
returns c =
    list_end (λ n. label_of c.args.place) (map string_bytes c.loop-value.labels.items) c.args.values.now c.loop-value.value-index (each (λ n. label_of c.args.place) 0 (items_view c.args.values.now)) (omega arith) c.loop-value.invariant
