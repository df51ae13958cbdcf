use Rattle.std.proofs.Common.{sym, ap, ◌∙◌}
use Rattle.mg_link.specs.declared.error.Error.{Error}
use Rattle.std.specs.Prelude.{Some}
use Rattle.mg_gridfs.proofs.steps.both.Goals as goal

pub returns-in_ok-new-in-Some : goal.returns-in_ok-new-in-Some
returns-in_ok-new-in-Some c = (ap (λ (e : Error). Some e) c.in_ok-new-in-Some.ensures.ok ∙ sym c.in-Some.is, c.in_ok-delete.ensures.ok)

pub returns-in-None : goal.returns-in-None
returns-in-None c = (sym c.in-None.is, c.in_ok-delete.ensures.ok)
