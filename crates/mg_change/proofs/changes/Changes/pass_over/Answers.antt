use Rattle.mg_change.proofs.Parts.{lacks_so, passed_placed}
use Rattle.mg_change.proofs.changes.Changes.pass_over.Goals as goal

pub returns-clause-lacks : goal.returns-clause-lacks
returns-clause-lacks c = lacks_so c.args.self.now c.pass_over.new.self c.plain.result c.requires.next c.requires.lacks c.pass_over.ensures.current c.pass_over.ensures.behind c.plain.ensures

pub returns-clause-placed : goal.returns-clause-placed
returns-clause-placed c = passed_placed c.args.self.now c.pass_over.new.self c.pass_over.ensures.current c.requires.placed
