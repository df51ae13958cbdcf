use Rattle.std.proofs.Common.{true, false, refl, sym, subst}
use Rattle.mg_change.specs.StreamCalls.{SeeksOnBehind}
use Rattle.mg_change.specs.StreamView.{changes_of}
use Rattle.mg_change.specs.declared.event_poll.Stepped.{Stepped}
use Rattle.mg_change.proofs.changes.Changes.seeks_on.Goals as goal

pub returns-in-Goes-clause-seeks : goal.returns-in-Goes-clause-seeks
returns-in-Goes-clause-seeks c = subst (λ (r : Stepped). SeeksOnBehind c.args.again r (changes_of c.args.self.now) (changes_of c.args.self.now) true) (sym c.in-Goes.is) (refl, refl)

pub returns-in-Found-clause-seeks : goal.returns-in-Found-clause-seeks
returns-in-Found-clause-seeks c = subst (λ (r : Stepped). SeeksOnBehind c.args.again r (changes_of c.args.self.now) (changes_of c.args.self.now) false) (sym c.in-Found.is) (refl, refl)

pub returns-in-Gives-clause-seeks : goal.returns-in-Gives-clause-seeks
returns-in-Gives-clause-seeks c = subst (λ (r : Stepped). SeeksOnBehind c.args.again r (changes_of c.args.self.now) (changes_of c.seeks_behind.new.self) c.seeks_behind.result) (sym c.in-Gives.is) c.seeks_behind.ensures.seeks
