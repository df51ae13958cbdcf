use Rattle.std.proofs.Common.{arith}
use Rattle.std.proofs.lemmas.Grind.{common_steps}
use Rattle.mg_jobs.proofs.Small.{small_more}
use Rattle.mg_jobs.proofs.fates.small_copies.Goals as goal

pub loop-fate-preserved : goal.loop-fate-preserved
loop-fate-preserved c = record {
  same = grind (arith, common_steps);
  small = rw c.in_ok-push.ensures.items (small_more _ _ c.loop-fate.invariant.small c.in_ok-small_copy.ensures.small);
}
