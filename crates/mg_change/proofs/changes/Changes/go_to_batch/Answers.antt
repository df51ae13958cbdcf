use Rattle.std.proofs.Common.{ap}
use Rattle.mg_change.specs.StreamView.{changes_of}
use Rattle.mg_change.specs.declared.changes.Changes.{Changes}
use Rattle.mg_change.proofs.changes.Changes.go_to_batch.Goals as goal

pub returns-clause-phase : goal.returns-clause-phase
returns-clause-phase c = ap changes_of c.enter.ensures

pub returns-clause-place : goal.returns-clause-place
returns-clause-place c = ap (λ (s : Changes). s.token) c.enter.ensures
