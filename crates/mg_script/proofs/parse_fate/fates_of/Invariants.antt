use Rattle.std.proofs.Common.{◌≡◌, drop}
use Rattle.serde_json.specs.View.{items_view}
use Rattle.mg_script.specs.Plan.{fates}
use Rattle.mg_script.specs.Reads.{each}
use Rattle.mg_script.specs.Script.{fate_of}
use Rattle.mg_script.specs.declared.fault.Place.TheVariants as place
use Rattle.mg_script.proofs.Steps.{with_list}
use Rattle.mg_script.proofs.parse_fate.fates_of.Given as goal

abbrev pub invariant-loop-i : goal.invariant-loop-i
invariant-loop-i l = with_list (fates l.fates.items) (each (λ n. fate_of (place.Fate n)) l.i (items_view (drop l.i l.values))) ≡ each (λ n. fate_of (place.Fate n)) 0 (items_view l.values)
