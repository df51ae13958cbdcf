use Rattle.std.proofs.Common.{ap}
use Rattle.mg_change.specs.declared.counts.Counts.{Counts}
use Rattle.mg_change.proofs.changes.Changes.uncount.Goals as goal

pub returns : goal.returns
returns c = ap (λ (n : Counts). record c.args.self.now { counts = n }) c.none-self.ensures
