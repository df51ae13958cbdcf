use Rattle.std.proofs.Common.{ap, ◌∙◌, arith}
use Rattle.std.proofs.lemmas.Result.{err_from_is_err_and}
use Rattle.std.proofs.lemmas.List.{map_push}
use Rattle.serde_json.specs.View.{items_view}
use Rattle.mg_script.specs.declared.fault.Place.TheVariants as place
use Rattle.mg_script.specs.Plan.{task, tasks}
use Rattle.mg_script.specs.Reads.{each}
use Rattle.mg_script.specs.Script.{tasks_of, task_of}
use Rattle.mg_script.proofs.Steps.{list_go_on, list_stop, list_end}
use Rattle.mg_script.proofs.parse_job.jobs_of.Goals as goal

pub returns-in_err-job : goal.returns-in_err-job
unfolding tasks_of
returns-in_err-job c =
    let p = err_from_is_err_and c.from_residual.result c.from_residual.ensures.1 in
    rw (p.1, p.2) (list_stop c.in_err-job.field-0.0 (λ n. task_of (place.Job n)) (tasks c.loop-i.jobs.items) c.args.values.now c.loop-i.i c.index-values-i.result (each (λ n. task_of (place.Job n)) 0 (items_view c.args.values.now)) (omega arith) c.index-values-i.is c.in_err-job.ensures c.loop-i.invariant)

pub loop-i-preserved : goal.loop-i-preserved
loop-i-preserved c =
    list_go_on (λ n. task_of (place.Job n)) (tasks c.loop-i.jobs.items) (tasks c.push.new.self.items) (task c.in_ok-job.job) c.args.values.now c.loop-i.i c.index-values-i.result (each (λ n. task_of (place.Job n)) 0 (items_view c.args.values.now)) (omega arith) c.index-values-i.is c.in_ok-job.ensures (ap tasks c.in_ok-push.ensures.items ∙ map_push task c.loop-i.jobs.items c.in_ok-job.job) c.loop-i.invariant

pub returns : goal.returns
unfolding tasks_of
returns c =
    list_end (λ n. task_of (place.Job n)) (tasks c.loop-i.jobs.items) c.args.values.now c.loop-i.i (each (λ n. task_of (place.Job n)) 0 (items_view c.args.values.now)) (omega arith) c.loop-i.invariant
