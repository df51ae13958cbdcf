use Rattle.std.proofs.Common.{◌≡◌, drop}
use Rattle.serde_json.specs.View.{items_view}
use Rattle.mg_script.specs.Reads.{each}
use Rattle.mg_script.specs.Script.{turn_of}
use Rattle.mg_script.specs.declared.fault.Place.TheVariants as place
use Rattle.mg_script.proofs.Steps.{with_list}
use Rattle.mg_script.proofs.parse.order_of.Given as goal

abbrev pub invariant-loop-i : goal.invariant-loop-i
invariant-loop-i l = with_list l.order.items (each (λ n. turn_of (place.Order n)) l.i (items_view (drop l.i l.values))) ≡ each (λ n. turn_of (place.Order n)) 0 (items_view l.values)
