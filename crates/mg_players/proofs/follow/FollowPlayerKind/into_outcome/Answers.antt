use Rattle.std.proofs.Common.{Option, ap}
use Rattle.mg_bson.specs.Tree.{Tree}
use Rattle.mg_script.specs.declared.outcome.Outcome.TheVariants as outcomes
use Rattle.mg_players.proofs.follow.FollowPlayerKind.into_outcome.Goals as goal

pub returns-clause-of : goal.returns-clause-of
returns-clause-of c = ap (λ (t : Option Tree). outcomes.Follow c.args.self.opened c.args.self.answers t c.args.self.alive c.args.self.closed) c.in_ok-token.ensures.token
