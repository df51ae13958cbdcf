use Rattle.std.proofs.Common.{false, refl, sym, subst}
use Rattle.mg_cursor.specs.declared.polls.TryPoll.TheVariants as try
use Rattle.mg_cursor.specs.declared.results.AdvanceResult.{AdvanceResult}
use Rattle.mg_change.specs.StreamCalls.{SeeksOnGiven}
use Rattle.mg_change.specs.StreamView.{changes_of}
use Rattle.mg_change.proofs.changes.Changes.seeks_by.Goals as goal

pub returns-in-Advanced-clause-seeks : goal.returns-in-Advanced-clause-seeks
returns-in-Advanced-clause-seeks c = subst (λ (a : AdvanceResult (Unit {0})). SeeksOnGiven c.args.again (try.Ready a) (changes_of c.args.self.now) (changes_of c.args.self.now) false) (sym c.in-Advanced.is) (refl, refl)

pub returns-in-Exhausted-clause-seeks : goal.returns-in-Exhausted-clause-seeks
returns-in-Exhausted-clause-seeks c = subst (λ (a : AdvanceResult (Unit {0})). SeeksOnGiven c.args.again (try.Ready a) (changes_of c.args.self.now) (changes_of c.args.self.now) false) (sym c.in-Exhausted.is) (refl, refl)

pub returns-in-Waiting-clause-seeks : goal.returns-in-Waiting-clause-seeks
returns-in-Waiting-clause-seeks c = subst (λ (a : AdvanceResult (Unit {0})). SeeksOnGiven c.args.again (try.Ready a) (changes_of c.args.self.now) (changes_of c.count.new.self) c.count.result) (sym c.in-Waiting.is) c.count.ensures.counts
