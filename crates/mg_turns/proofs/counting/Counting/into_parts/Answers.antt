use Rattle.std.proofs.Common.{sym}
use Rattle.mg_turns.proofs.counting.Counting.into_parts.Goals as goal

pub returns-clause-own : goal.returns-clause-own
returns-clause-own g c = rw (sym c.self.view_is) (c.self.inside.out, c.self.invariant.1)
