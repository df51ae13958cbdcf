use Rattle.std.proofs.Common.{List, ℕ, refl, sym, ap, subst}
use Rattle.mg_link.specs.Exec.{Sending}
use Rattle.mg_link.specs.declared.action.Step.{Step}
use Rattle.mg_cursor.specs.declared.polls.TryPoll.TheVariants as try
use Rattle.mg_change.specs.Steps.{HearsResumption}
use Rattle.mg_change.specs.StreamCalls.{steps_left}
use Rattle.mg_change.specs.StreamView.{changes_of, doing_of}
use Rattle.mg_change.specs.declared.changes.Changes.{Changes}
use Rattle.mg_change.specs.declared.event_poll.Stepped.TheVariants as stepped
use Rattle.mg_change.proofs.Parts.{owing_falls}
use Rattle.mg_change.proofs.changes.Changes.hear.Goals as goal

pub read-requires-clause-saved : goal.read-requires-clause-saved
read-requires-clause-saved c = c.requires.saved

pub read-requires-clause-none_left : goal.read-requires-clause-none_left
read-requires-clause-none_left c = c.requires.none_left

pub read-requires-clause-quiet : goal.read-requires-clause-quiet
read-requires-clause-quiet c = c.requires.quiet

pub returns-in-Pending-clause-hears : goal.returns-in-Pending-clause-hears
returns-in-Pending-clause-hears c =
    subst (λ (came : Step Sending (List ℕ)). HearsResumption (changes_of c.args.self.now) came (changes_of c.enter.new.self) (stepped.Gives try.Pending)) (sym c.in-Pending.is) (ap changes_of c.enter.ensures, refl)

pub returns-in-Pending-clause-place : goal.returns-in-Pending-clause-place
returns-in-Pending-clause-place c = ap (λ (s : Changes). s.token) c.enter.ensures

pub returns-in-Done-clause-hears : goal.returns-in-Done-clause-hears
returns-in-Done-clause-hears c = subst (λ (came : Step Sending (List ℕ)). HearsResumption (changes_of c.args.self.now) came (changes_of c.read.new.self) c.read.result) (sym c.in-Done.is) c.read.ensures.reads

pub returns-in-Failed-clause-hears : goal.returns-in-Failed-clause-hears
returns-in-Failed-clause-hears c = subst (λ (came : Step Sending (List ℕ)). HearsResumption (changes_of c.args.self.now) came (changes_of c.fail_resumption.new.self) c.fail_resumption.result) (sym c.in-Failed.is) (c.fail_resumption.ensures.phase, c.fail_resumption.ensures.fails)

pub returns-in-Failed-clause-falls : goal.returns-in-Failed-clause-falls
returns-in-Failed-clause-falls c = owing_falls c.fail_resumption.result c.in-Failed.error 2 (steps_left (doing_of c.fail_resumption.new.self.phase)) c.fail_resumption.ensures.fails
