use Rattle.std.proofs.Common.{refl, sym, ap, ◌∙◌}
use Rattle.mg_change.specs.declared.event_poll.EventPoll.TheVariants as poll
use Rattle.mg_change.specs.StreamView.{changes_of}
use Rattle.mg_change.specs.declared.changes.Changes.{Changes}
use Rattle.mg_change.proofs.Parts.{call_kept}
use Rattle.mg_change.proofs.changes.Changes.end_call.Goals as goal

pub returns-in-Pending-clause-answer : goal.returns-in-Pending-clause-answer
returns-in-Pending-clause-answer c = sym c.in-Pending.is

pub returns-in-Pending-clause-kept : goal.returns-in-Pending-clause-kept
returns-in-Pending-clause-kept c = call_kept (changes_of c.args.self.now) (changes_of c.args.self.now) c.args.poll poll.Pending c.in-Pending.is refl

pub returns-in-Ready-clause-answer : goal.returns-in-Ready-clause-answer
returns-in-Ready-clause-answer c = sym c.in-Ready.is

pub returns-in-Ready-clause-kept : goal.returns-in-Ready-clause-kept
returns-in-Ready-clause-kept c = call_kept (changes_of c.args.self.now) (changes_of c.uncount.new.self) c.args.poll (poll.Ready c.in-Ready.event) c.in-Ready.is (ap changes_of c.uncount.ensures)

pub returns-in-Ready-clause-rest : goal.returns-in-Ready-clause-rest
returns-in-Ready-clause-rest c = c.uncount.ensures ∙ ap (λ (s : Changes). record c.args.self.now { counts = s.counts }) (sym c.uncount.ensures)

pub returns-in-Failed-clause-answer : goal.returns-in-Failed-clause-answer
returns-in-Failed-clause-answer c = sym c.in-Failed.is

pub returns-in-Failed-clause-kept : goal.returns-in-Failed-clause-kept
returns-in-Failed-clause-kept c = call_kept (changes_of c.args.self.now) (changes_of c.uncount-in-Failed.new.self) c.args.poll (poll.Failed c.in-Failed.error) c.in-Failed.is (ap changes_of c.uncount-in-Failed.ensures)

pub returns-in-Failed-clause-rest : goal.returns-in-Failed-clause-rest
returns-in-Failed-clause-rest c = c.uncount-in-Failed.ensures ∙ ap (λ (s : Changes). record c.args.self.now { counts = s.counts }) (sym c.uncount-in-Failed.ensures)
