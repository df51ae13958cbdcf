use Rattle.std.proofs.Common.{None, refl, sym, subst}
use Rattle.mg_cursor.specs.declared.polls.TryPoll.TheVariants as try
use Rattle.mg_cursor.specs.declared.results.AdvanceResult.{AdvanceResult}
use Rattle.mg_change.specs.StreamCalls.{EndsGiven}
use Rattle.mg_change.specs.StreamView.{changes_of}
use Rattle.mg_change.specs.declared.event_poll.EventPoll.TheVariants as poll
use Rattle.mg_change.proofs.changes.Changes.end_with.Goals as goal

pub returns-in-Advanced : goal.returns-in-Advanced
returns-in-Advanced c = subst (λ (a : AdvanceResult (Unit {0})). EndsGiven (try.Ready a) (changes_of c.args.self.now) (changes_of c.args.self.now) (poll.Ready None)) (sym c.in-Advanced.is) (refl, refl)

pub returns-in-Exhausted : goal.returns-in-Exhausted
returns-in-Exhausted c = subst (λ (a : AdvanceResult (Unit {0})). EndsGiven (try.Ready a) (changes_of c.args.self.now) (changes_of c.args.self.now) (poll.Ready None)) (sym c.in-Exhausted.is) (refl, refl)

pub returns-in-Waiting : goal.returns-in-Waiting
returns-in-Waiting c = subst (λ (a : AdvanceResult (Unit {0})). EndsGiven (try.Ready a) (changes_of c.args.self.now) (changes_of c.args.self.now) c.end_empty.result) (sym c.in-Waiting.is) (refl, c.end_empty.ensures)
