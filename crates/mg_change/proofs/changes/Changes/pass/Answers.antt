use Rattle.mg_change.specs.StreamView.{changes_of}
use Rattle.mg_change.proofs.Failing.{hears_closing}
use Rattle.mg_change.proofs.changes.Changes.pass.Goals as goal

pub returns-clause-hears : goal.returns-clause-hears
returns-clause-hears c = hears_closing (changes_of c.args.self.now) (changes_of c.lead.new.self) c.args.error c.lead.result c.lead.ensures.leads
