use Rattle.mg_change.specs.StreamView.{changes_of}
use Rattle.mg_change.proofs.Failing.{fails_more}
use Rattle.mg_change.proofs.changes.Changes.fail.Goals as goal

pub returns-clause-fails : goal.returns-clause-fails
returns-clause-fails c = fails_more (changes_of c.args.self.now) (changes_of c.lead.new.self) c.args.error c.lead.result c.requires.none_left c.lead.ensures.leads

pub returns-clause-place : goal.returns-clause-place
returns-clause-place c = c.lead.ensures.place
