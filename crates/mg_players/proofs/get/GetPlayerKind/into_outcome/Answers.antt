use Rattle.std.proofs.Common.{ap}
use Rattle.mg_script.specs.declared.outcome.Ended.{Ended}
use Rattle.mg_script.specs.declared.outcome.Outcome.TheVariants as outcomes
use Rattle.mg_players.proofs.get.GetPlayerKind.into_outcome.Goals as goal

pub returns-clause-of : goal.returns-clause-of
returns-clause-of c = ap (λ (e : Ended (Unit {0})). outcomes.Get c.args.self.bytes e) c.end_of.ensures
