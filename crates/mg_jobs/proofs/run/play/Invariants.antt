use Rattle.std.proofs.Common.{◌≡◌, ℕ, List, [], length, take, false}
use Rattle.std.specs.List.{All, sum_by}
use Rattle.mg_link.specs.Link.{Awaited, Later, LogTold}
use Rattle.mg_players.specs.Causes.{AllPollOwn}
use Rattle.mg_turns.specs.Counts.{AreNoted, LosesNothing, StartedBy}
use Rattle.mg_players.specs.Drawing.{HaveDrawn}
use Rattle.mg_players.specs.Headline.{DoTasks, Knowing}
use Rattle.mg_players.specs.Losses.{AllLoseBy}
use Rattle.mg_script.specs.Plan.{Task}
use Rattle.mg_players.specs.Progress.{AllAt}
use Rattle.mg_players.specs.Puts.{IsMoment, Supply}
use Rattle.mg_players.specs.Runs.{AreHeld}
use Rattle.mg_jobs.specs.Runners.{Stands}
use Rattle.mg_players.specs.Telling.{AllTell}
use Rattle.mg_turns.specs.declared.turned.Turned.{Turned}
use Rattle.mg_jobs.proofs.run.play.Given as goal

abbrev pub invariant-loop-number : goal.invariant-loop-number
invariant-loop-number g l = record {
  stands : Stands (g.L.Link.awaited l.link) (g.L.Link.wire l.link) l.runner;
  later : Later (g.L.Link.faults l.initial.link) (g.L.Link.faults l.link) (g.L.Link.pends l.initial.link) (g.L.Link.pends l.link) (g.L.Link.wire l.initial.link) (g.L.Link.wire l.link) (g.L.Link.prompt l.initial.link) (g.L.Link.prompt l.link);
  turns : length l.runner.turns.items ≡ l.number-index;
  started : StartedBy (sum_by (λ (t : Turned). t.started) l.runner.turns.items) (g.L.Link.log l.initial.link) (g.L.Link.log l.link);
  noted : AreNoted l.runner.turns.items (g.L.Link.log l.initial.link) (g.L.Link.log l.link) (g.L.Link.pends l.initial.link) (g.L.Link.pends l.link);
  quiet : g.L.Link.prompt l.initial.link → All (λ (t : Turned). t.pended ≡ false) l.runner.turns.items;
  lossless : g.L.Link.prompt l.initial.link → LosesNothing (g.L.Link.log l.initial.link) (g.L.Link.log l.link);
  jobs : length l.runner.players.items ≡ length l.initial.runner.players.items;
  lost : AllLoseBy (g.L.Link.faults l.initial.link) (g.L.Link.faults l.link) (g.L.Link.pends l.initial.link) (g.L.Link.pends l.link) l.initial.runner.players.items l.runner.players.items;
  none_lost : (before : Awaited) → AreHeld before (g.L.Link.awaited l.initial.link) l.initial.runner.players.items → AreHeld before (g.L.Link.awaited l.link) l.runner.players.items;
  knowing : (begun : LogTold) → Knowing (g.L.Link.awaited l.initial.link) begun (g.L.Link.log l.initial.link) l.initial.runner.players.items → Knowing (g.L.Link.awaited l.link) begun (g.L.Link.log l.link) l.runner.players.items;
  rows : (ts : List Task) → AllAt ts [] [] l.initial.runner.players.items → AllAt ts (take l.number-index l.fn.order) l.runner.turns.items l.runner.players.items;
  drawn : (first : ℕ → List ℕ) (ts : List Task) → DoTasks ts l.initial.runner.players.items → HaveDrawn first (g.I.IdSource.ids l.initial.ids) ts [] l.initial.runner.players.items → HaveDrawn first (g.I.IdSource.ids l.ids) ts (take l.number-index l.fn.order) l.runner.players.items;
  told : (supply : Supply) (begun : LogTold) (ts : List Task) → IsMoment supply.moment l.fn.moment.millis → DoTasks ts l.initial.runner.players.items → AllAt ts [] [] l.initial.runner.players.items → HaveDrawn supply.ids (g.I.IdSource.ids l.initial.ids) ts [] l.initial.runner.players.items → AllTell supply (g.L.Link.awaited l.initial.link) begun (g.L.Link.log l.initial.link) (g.L.Link.wire l.initial.link) ts [] [] l.initial.runner.players.items
      → AllTell supply (g.L.Link.awaited l.link) begun (g.L.Link.log l.link) (g.L.Link.wire l.link) ts (take l.number-index l.fn.order) l.runner.turns.items l.runner.players.items;
  polled : (supply : Supply) (begun : LogTold) (ts : List Task) → IsMoment supply.moment l.fn.moment.millis → DoTasks ts l.initial.runner.players.items → AllAt ts [] [] l.initial.runner.players.items → HaveDrawn supply.ids (g.I.IdSource.ids l.initial.ids) ts [] l.initial.runner.players.items → AllTell supply (g.L.Link.awaited l.initial.link) begun (g.L.Link.log l.initial.link) (g.L.Link.wire l.initial.link) ts [] [] l.initial.runner.players.items
      → AllPollOwn begun (take l.number-index l.fn.order) l.runner.turns.items (g.L.Link.polls l.initial.link) (g.L.Link.polls l.link);
  tasks : (ts : List Task) → DoTasks ts l.initial.runner.players.items → DoTasks ts l.runner.players.items;
}
