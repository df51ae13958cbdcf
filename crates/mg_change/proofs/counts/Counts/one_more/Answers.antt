use Rattle.std.proofs.Common.{Bool, sym, subst}
use Rattle.mg_change.specs.StreamCalls.{CountsOne}
use Rattle.mg_change.proofs.counts.Counts.one_more.Goals as goal

pub returns-then-again : goal.returns-then-again
returns-then-again c = subst (λ (again : Bool). CountsOne again c.args.self c.one_resumption.result) (sym c.if-again.true) c.one_resumption.ensures

pub returns-else-again : goal.returns-else-again
returns-else-again c = subst (λ (again : Bool). CountsOne again c.args.self c.one_empty.result) (sym c.if-again.false) c.one_empty.ensures
