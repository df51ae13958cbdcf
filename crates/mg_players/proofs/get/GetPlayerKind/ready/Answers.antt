use Rattle.std.proofs.Common.{refl}
use Rattle.mg_players.proofs.JobTelling.{get_number, tells_same_job}
use Rattle.mg_players.specs.Headline.{get_task}
use Rattle.mg_players.specs.Plays.{AnySent}
use Rattle.mg_players.specs.Telling.{GetSays}
use Rattle.mg_players.proofs.get.GetPlayerKind.ready.Goals as goal

pub returns-clause-got : goal.returns-clause-got
returns-clause-got g c = record {
  ticket = refl;
  holds = λ wire holds. holds;
  knows = λ awaited calls o at plays. plays;
  task = refl;
  at = λ calls k last at. at;
  tells = tells_same_job get_task GetSays get_number AnySent c.args.self.now;
  has = λ has. has;
  lost_same = λ part lost. lost;
}
