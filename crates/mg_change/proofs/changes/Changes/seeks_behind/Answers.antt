use Rattle.std.proofs.Common.{false, refl, sym, subst}
use Rattle.mg_cursor.specs.declared.polls.TryPoll.{TryPoll}
use Rattle.mg_change.specs.StreamCalls.{SeeksOnGiven}
use Rattle.mg_change.specs.StreamView.{changes_of}
use Rattle.mg_change.proofs.changes.Changes.seeks_behind.Goals as goal

pub returns-in-Pending-clause-seeks : goal.returns-in-Pending-clause-seeks
returns-in-Pending-clause-seeks c = subst (λ (p : TryPoll). SeeksOnGiven c.args.again p (changes_of c.args.self.now) (changes_of c.args.self.now) false) (sym c.in-Pending.is) (refl, refl)

pub returns-in-Ready-clause-seeks : goal.returns-in-Ready-clause-seeks
returns-in-Ready-clause-seeks c = subst (λ (p : TryPoll). SeeksOnGiven c.args.again p (changes_of c.args.self.now) (changes_of c.seeks_by.new.self) c.seeks_by.result) (sym c.in-Ready.is) c.seeks_by.ensures.seeks

pub returns-in-Failed-clause-seeks : goal.returns-in-Failed-clause-seeks
returns-in-Failed-clause-seeks c = subst (λ (p : TryPoll). SeeksOnGiven c.args.again p (changes_of c.args.self.now) (changes_of c.args.self.now) false) (sym c.in-Failed.is) (refl, refl)
