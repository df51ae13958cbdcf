use mir.Val.{SFits}
use Rattle.std.proofs.Common.{rules, ◌≡◌, ℕ, ℤ, List, Some, None, refl, sym, subst, w32, to_z, of_z}
use Rattle.std.proofs.lemmas.Int.{to_z-of_z}
use Rattle.mg_link.specs.Exec.{Sending}
use Rattle.mg_link.specs.declared.action.Step.{Step}
use Rattle.mg_link.specs.declared.action.Step.TheVariants as step
use Rattle.mg_change.specs.ClientOpenings.{HearsOpening, ReadsOpening, broke}
use Rattle.mg_change.specs.StreamView.{changes_of}
use Rattle.mg_change.proofs.Linking.{own_saved, placed_saved, saved_is}
use Rattle.mg_change.proofs.Seen.{read_sound}
use Rattle.mg_change.proofs.opens.hear.Goals as goal

-- ---- it waits

pub returns-in-Pending-clause-hears : goal.returns-in-Pending-clause-hears
returns-in-Pending-clause-hears c =
    subst (λ (came : Step Sending (List ℕ)). HearsOpening c.args.wire (record { args = c.args.aggregate.args; sending = None }) came (step.Pending (record { args = c.args.aggregate.args; sending = Some c.in-Pending.exec }))) (sym c.in-Pending.is) refl

-- ---- a reply came

pub returns-in-Ok-clause-hears : goal.returns-in-Ok-clause-hears
returns-in-Ok-clause-hears c =
    let fits : SFits w32 c.args.wire = search rules in
    let same : to_z w32 (of_z w32 c.args.wire) ≡ c.args.wire = to_z-of_z w32 c.args.wire fits in
    subst (λ (came : Step Sending (List ℕ)). HearsOpening c.args.wire (record { args = c.args.aggregate.args; sending = None }) came (step.Done (changes_of c.in-Ok.changes))) (sym c.in-Done.is)
    (subst (λ (w : ℤ). ReadsOpening w (record { args = c.args.aggregate.args; sending = None }) c.in-Done.reply (step.Done (changes_of c.in-Ok.changes))) same c.in-Ok.ensures.ok)

pub returns-in-Ok-clause-sound : goal.returns-in-Ok-clause-sound
returns-in-Ok-clause-sound c = λ plain. record {
  sound = read_sound plain _ (record { args = c.args.aggregate.args; sending = None }) c.in-Done.reply (step.Done (changes_of c.in-Ok.changes)) c.in-Ok.ensures.ok;
  placed = placed_saved c.in-Ok.changes (saved_is c.in-Ok.changes.token c.in-Ok.ensures.saved);
}

pub returns-in-Ok-clause-owned : goal.returns-in-Ok-clause-owned
returns-in-Ok-clause-owned c = own_saved c.in-Ok.changes.token c.in-Ok.ensures.saved

pub returns-in-Err-clause-hears : goal.returns-in-Err-clause-hears
returns-in-Err-clause-hears c =
    subst (λ (came : Step Sending (List ℕ)). HearsOpening c.args.wire (record { args = c.args.aggregate.args; sending = None }) came (step.Failed c.in-Err.error)) (sym c.in-Done.is) (broke c.in-Err.error c.in-Err.ensures.err refl)

-- ---- it failed

pub returns-in-Failed-clause-hears : goal.returns-in-Failed-clause-hears
returns-in-Failed-clause-hears c =
    subst (λ (came : Step Sending (List ℕ)). HearsOpening c.args.wire (record { args = c.args.aggregate.args; sending = None }) came (step.Failed c.in-Failed.error)) (sym c.in-Failed.is) refl
