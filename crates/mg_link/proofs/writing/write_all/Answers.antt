use Rattle.std.proofs.Common.{arith}
use Rattle.mg_link.proofs.Known.{Appends-more}
use Rattle.mg_link.proofs.writing.write_all.Goals as goal

pub writes-preserved : goal.writes-preserved
writes-preserved g c = record {
  within = omega (arith, c.in_ok-count.ensures.bound);
  taken = Appends-more _ _ _ c.writes.done c.in_ok-count.count c.args.text.now c.writes.invariant.taken c.in_ok-count.ensures.bytes;
  later = omega (arith, c.in_ok-count.ensures.cause.later);
}
