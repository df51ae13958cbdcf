use Rattle.std.proofs.Common.{arith}
use Rattle.mg_bson.proofs.Scanning.{non_zero_more}
use Rattle.mg_bson.proofs.scan.zero_end.Goals as goal

pub returns-then-run-lt16-clause-before : goal.returns-then-run-lt16-clause-before
returns-then-run-lt16-clause-before c = non_zero_more c.args.bytes.now c.loop-end.end _ c.loop-end.invariant.1 c.zero_run-run.ensures.before

pub loop-end-preserved : goal.loop-end-preserved
loop-end-preserved c = (omega (arith, c.zero_run-run.ensures.within), non_zero_more c.args.bytes.now c.loop-end.end _ c.loop-end.invariant.1 c.zero_run-run.ensures.before)
