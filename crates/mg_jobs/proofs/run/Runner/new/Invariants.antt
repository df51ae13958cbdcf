use Rattle.std.proofs.Common.{◌≡◌, [], length, take}
use Rattle.mg_players.specs.Headline.{AreFirst, DoTasks}
use Rattle.mg_script.specs.Plan.{tasks}
use Rattle.mg_players.specs.Progress.{AllAt}
use Rattle.mg_players.specs.Runs.{AreNew}
use Rattle.mg_jobs.proofs.run.Runner.new.Given as goal

abbrev pub invariant-loop-job : goal.invariant-loop-job
invariant-loop-job l = record {
  new : AreNew l.players.items;
  first : AreFirst l.players.items;
  does : DoTasks (tasks (take l.job-index l.fn.jobs)) l.players.items;
  at : AllAt (tasks (take l.job-index l.fn.jobs)) [] [] l.players.items;
  count : length l.players.items ≡ l.job-index;
}
