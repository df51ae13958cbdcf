use Rattle.std.proofs.Common.{arith}
use Rattle.mg_bson.proofs.Scanning.{ascii_more}
use Rattle.mg_bson.proofs.scan.ascii_end.Goals as goal

pub returns-then-run-lt16-clause-ascii : goal.returns-then-run-lt16-clause-ascii
returns-then-run-lt16-clause-ascii c = ascii_more c.args.bytes.now c.loop-end.end _ c.loop-end.invariant.1 c.ascii_run-run.ensures.ascii

pub loop-end-preserved : goal.loop-end-preserved
loop-end-preserved c = (omega (arith, c.ascii_run-run.ensures.within), ascii_more c.args.bytes.now c.loop-end.end _ c.loop-end.invariant.1 c.ascii_run-run.ensures.ascii)
