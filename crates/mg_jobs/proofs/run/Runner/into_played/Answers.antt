use Rattle.std.proofs.Common.{List, sym, subst, rules}
use Rattle.mg_players.specs.Headline.{Made}
use Rattle.mg_script.specs.declared.outcome.Outcome.{Outcome}
use Rattle.mg_players.proofs.Knowing.{made_more}
use Rattle.mg_jobs.proofs.run.Runner.into_played.Goals as goal

pub loop-player-preserved : goal.loop-player-preserved
loop-player-preserved c = record {
  count = search rules;
  made = subst (λ (os : List Outcome). Made c.args.self.players.items c.next.new.self.rest.items os) (sym c.in_ok-push.ensures.items)
      (made_more _ _ _ _ c.in-Some.player _ c.in-Some.ensures.steps.0 c.loop-player.invariant.made c.in_ok-into_outcome.ensures.of);
}
