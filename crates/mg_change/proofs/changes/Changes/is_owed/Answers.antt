use Rattle.std.proofs.Common.{◌↔◌, true, false, IsTrue, refl, sym, subst}
use Rattle.mg_change.specs.ClientStreams.{IsOwed}
use Rattle.mg_change.specs.StreamView.{doing_of}
use Rattle.mg_change.specs.declared.changes.Phase.{Phase}
use Rattle.mg_change.proofs.changes.Changes.is_owed.Goals as goal

pub returns-in-Follows : goal.returns-in-Follows
returns-in-Follows c = subst (λ (p : Phase). IsTrue false ↔ IsOwed (doing_of p)) (sym c.in-Follows.is) (λ bad. absurd cc, λ h. absurd h)

pub returns-in-Owes : goal.returns-in-Owes
returns-in-Owes c = subst (λ (p : Phase). IsTrue true ↔ IsOwed (doing_of p)) (sym c.in-Owes.is) (λ t. tt, λ h. refl)

pub returns-in-Resumes : goal.returns-in-Resumes
returns-in-Resumes c = subst (λ (p : Phase). IsTrue true ↔ IsOwed (doing_of p)) (sym c.in-Resumes.is) (λ t. tt, λ h. refl)

pub returns-in-Kills : goal.returns-in-Kills
returns-in-Kills c = subst (λ (p : Phase). IsTrue false ↔ IsOwed (doing_of p)) (sym c.in-Kills.is) (λ bad. absurd cc, λ h. absurd h)

pub returns-in-Renewed : goal.returns-in-Renewed
returns-in-Renewed c = subst (λ (p : Phase). IsTrue false ↔ IsOwed (doing_of p)) (sym c.in-Renewed.is) (λ bad. absurd cc, λ h. absurd h)
