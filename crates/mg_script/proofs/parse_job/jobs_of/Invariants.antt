use Rattle.std.proofs.Common.{◌≡◌, drop}
use Rattle.serde_json.specs.View.{items_view}
use Rattle.mg_script.specs.Plan.{tasks}
use Rattle.mg_script.specs.Reads.{each}
use Rattle.mg_script.specs.Script.{task_of}
use Rattle.mg_script.specs.declared.fault.Place.TheVariants as place
use Rattle.mg_script.proofs.Steps.{with_list}
use Rattle.mg_script.proofs.parse_job.jobs_of.Given as goal

abbrev pub invariant-loop-i : goal.invariant-loop-i
invariant-loop-i l = with_list (tasks l.jobs.items) (each (λ n. task_of (place.Job n)) l.i (items_view (drop l.i l.values))) ≡ each (λ n. task_of (place.Job n)) 0 (items_view l.values)
