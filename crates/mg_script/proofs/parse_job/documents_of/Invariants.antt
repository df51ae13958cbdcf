use Rattle.std.proofs.Common.{◌≡◌, drop}
use Rattle.serde_json.specs.View.{items_view}
use Rattle.mg_script.specs.Reads.{each}
use Rattle.mg_script.specs.Values.{document_at}
use Rattle.mg_script.proofs.Steps.{with_list}
use Rattle.mg_script.proofs.parse_job.documents_of.Given as goal

abbrev pub invariant-loop-value : goal.invariant-loop-value
invariant-loop-value l = with_list l.documents.items (each (λ n. document_at l.place) l.value-index (items_view (drop l.value-index l.values))) ≡ each (λ n. document_at l.place) 0 (items_view l.values)
