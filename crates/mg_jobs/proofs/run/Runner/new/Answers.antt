use Rattle.std.proofs.Common.{◌+◌, [], length, arith, refl, sym, subst, take}
use Rattle.std.proofs.lemmas.Option.{slice_get_read}
use Rattle.mg_players.specs.Headline.{DoTasks}
use Rattle.mg_script.specs.Plan.{tasks}
use Rattle.mg_players.specs.Progress.{AllAt}
use Rattle.mg_players.proofs.Advancing.{at_first_more}
use Rattle.mg_players.proofs.Knowing.{first_more, tasks_step}
use Rattle.std.proofs.lemmas.Grind.{common_steps}
use Rattle.mg_players.proofs.Apart.{apart_new, new_more}
use Rattle.mg_jobs.proofs.run.Runner.new.Goals as goal

pub loop-job-preserved : goal.loop-job-preserved
loop-job-preserved c = record {
  new = rw c.in_ok-push.ensures.items (new_more _ _ c.loop-job.invariant.new c.new.ensures.new);
  first = rw c.in_ok-push.ensures.items (first_more _ _ c.loop-job.invariant.first c.new.ensures.first);
  does = subst (λ ps. DoTasks (tasks (take (c.loop-job.job-index + 1) c.args.jobs.now)) ps) (sym c.in_ok-push.ensures.items)
      (tasks_step c.args.jobs.now c.loop-job.job-index c.loop-job.players.items c.job-item.result c.new.result (slice_get_read c.args.jobs.now (length c.args.jobs.now) c.loop-job.job-index c.job-item.result refl (omega arith) c.job-item.is) c.loop-job.invariant.count c.loop-job.invariant.does c.new.ensures.task);
  at = subst (λ ps. AllAt (tasks (take (c.loop-job.job-index + 1) c.args.jobs.now)) [] [] ps) (sym c.in_ok-push.ensures.items)
      (at_first_more c.args.jobs.now c.loop-job.job-index c.loop-job.players.items c.job-item.result c.new.result (slice_get_read c.args.jobs.now (length c.args.jobs.now) c.loop-job.job-index c.job-item.result refl (omega arith) c.job-item.is) c.loop-job.invariant.count c.loop-job.invariant.at c.new.ensures.at);
  count = grind (arith, common_steps);
}

pub returns-clause-stands : goal.returns-clause-stands
returns-clause-stands c = λ awaited wire. apart_new awaited wire c.loop-job.players.items c.loop-job.invariant.new
