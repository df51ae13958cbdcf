use Rattle.std.proofs.Common.{◌≡◌, map, string_bytes, drop}
use Rattle.serde_json.specs.View.{items_view}
use Rattle.mg_script.specs.Reads.{each}
use Rattle.mg_script.specs.Script.{label_of}
use Rattle.mg_script.proofs.Steps.{with_list}
use Rattle.mg_script.proofs.parse_fate.texts_of.Given as goal

abbrev pub invariant-loop-value : goal.invariant-loop-value
invariant-loop-value l = with_list (map string_bytes l.labels.items) (each (λ n. label_of l.place) l.value-index (items_view (drop l.value-index l.values))) ≡ each (λ n. label_of l.place) 0 (items_view l.values)
