use Rattle.std.proofs.Common.{refl, ap}
use Rattle.mg_change.specs.StreamView.{changes_of}
use Rattle.mg_change.specs.declared.changes.Changes.{Changes}
use Rattle.mg_change.specs.declared.event_poll.Stepped.TheVariants as stepped
use Rattle.mg_change.proofs.Failing.{leads_so}
use Rattle.mg_change.proofs.changes.Changes.lead.Goals as goal

pub returns-in-Resumes-clause-leads : goal.returns-in-Resumes-clause-leads
returns-in-Resumes-clause-leads c =
    leads_so c.args.command (changes_of c.args.self.now) (changes_of c.enter.new.self) c.args.error stepped.Goes c.fault_of.result _ _ c.fault_of.ensures c.after_failure.ensures c.in-Resumes.is (ap changes_of c.enter.ensures, refl)

pub returns-in-Resumes-clause-place : goal.returns-in-Resumes-clause-place
returns-in-Resumes-clause-place c = ap (λ (s : Changes). s.token) c.enter.ensures

pub returns-in-Owes-clause-leads : goal.returns-in-Owes-clause-leads
returns-in-Owes-clause-leads c =
    leads_so c.args.command (changes_of c.args.self.now) (changes_of c.owe.new.self) c.args.error c.owe.result c.fault_of.result _ _ c.fault_of.ensures c.after_failure.ensures c.in-Owes.is (c.owe.ensures.phase, c.owe.ensures.fails)

pub returns-in-Fails-clause-leads : goal.returns-in-Fails-clause-leads
returns-in-Fails-clause-leads c =
    leads_so c.args.command (changes_of c.args.self.now) (changes_of c.args.self.now) c.args.error _ c.fault_of.result _ _ c.fault_of.ensures c.after_failure.ensures c.in-Fails.is (refl, refl)

pub returns-in-PassesOver-clause-leads : goal.returns-in-PassesOver-clause-leads
returns-in-PassesOver-clause-leads c =
    leads_so c.args.command (changes_of c.args.self.now) (changes_of c.go_to_batch.new.self) c.args.error c.go_to_batch.result c.fault_of.result _ _ c.fault_of.ensures c.after_failure.ensures c.in-PassesOver.is (c.go_to_batch.ensures.phase, c.go_to_batch.ensures.goes)
