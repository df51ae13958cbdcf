use Rattle.std.proofs.Common.{◌≡◌, drop}
use Rattle.serde_json.specs.View.{items_view}
use Rattle.mg_script.specs.Plan.{pieces}
use Rattle.mg_script.specs.Reads.{each}
use Rattle.mg_script.specs.Parts.{bytes_at}
use Rattle.mg_script.proofs.Steps.{with_list}
use Rattle.mg_script.proofs.parse_job.pieces_of.Given as goal

abbrev pub invariant-loop-value : goal.invariant-loop-value
invariant-loop-value l = with_list (pieces l.pieces.items) (each (λ n. bytes_at l.place) l.value-index (items_view (drop l.value-index l.values))) ≡ each (λ n. bytes_at l.place) 0 (items_view l.values)
