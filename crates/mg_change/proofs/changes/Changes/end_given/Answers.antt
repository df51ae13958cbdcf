use Rattle.std.proofs.Common.{refl, sym, subst}
use Rattle.mg_cursor.specs.declared.polls.TryPoll.{TryPoll}
use Rattle.mg_change.specs.StreamCalls.{EndsGiven}
use Rattle.mg_change.specs.StreamView.{changes_of}
use Rattle.mg_change.specs.declared.event_poll.EventPoll.TheVariants as poll
use Rattle.mg_change.proofs.changes.Changes.end_given.Goals as goal

pub returns-in-Pending : goal.returns-in-Pending
returns-in-Pending c = subst (λ (p : TryPoll). EndsGiven p (changes_of c.args.self.now) (changes_of c.args.self.now) poll.Pending) (sym c.in-Pending.is) (refl, refl)

pub returns-in-Ready : goal.returns-in-Ready
returns-in-Ready c = subst (λ (p : TryPoll). EndsGiven p (changes_of c.args.self.now) (changes_of c.args.self.now) c.end_with.result) (sym c.in-Ready.is) c.end_with.ensures

pub returns-in-Failed : goal.returns-in-Failed
returns-in-Failed c = subst (λ (p : TryPoll). EndsGiven p (changes_of c.args.self.now) (changes_of c.args.self.now) (poll.Failed c.in-Failed.error)) (sym c.in-Failed.is) (refl, refl)
