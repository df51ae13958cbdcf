use Rattle.std.proofs.Common.{◌≡◌, ◌+◌, length}
use Rattle.mg_players.specs.Headline.{Made}
use Rattle.mg_jobs.proofs.run.Runner.into_played.Given as goal

abbrev pub invariant-loop-player : goal.invariant-loop-player
invariant-loop-player l = record {
  count : length l.outcomes.items + length l.player-iterator.rest.items ≡ length l.fn.self.players.items;
  made : Made l.fn.self.players.items l.player-iterator.rest.items l.outcomes.items;
}
