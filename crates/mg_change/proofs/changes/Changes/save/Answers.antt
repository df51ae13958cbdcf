use Rattle.mg_change.proofs.Parts.{kept_same}
use Rattle.mg_change.proofs.changes.Changes.save.Goals as goal

pub returns-clause-same : goal.returns-clause-same
returns-clause-same c = kept_same c.args.self.now c.remember.new.aggregate c.args.token c.requires c.remember.ensures
