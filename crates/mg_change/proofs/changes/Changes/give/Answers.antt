use Rattle.mg_change.proofs.Parts.{gives_current, gives_placed, gives_so}
use Rattle.mg_change.proofs.changes.Changes.give.Goals as goal

pub returns-clause-gives : goal.returns-clause-gives
returns-clause-gives c = gives_so c.args.self.now c.advance.new.self c.place_behind-self.result c.advance.result c.mark_returned.new.aggregate c.requires.has c.advance.ensures.advances c.place_behind-self.ensures c.mark_returned.ensures

pub returns-clause-event : goal.returns-clause-event
returns-clause-event c = gives_current c.args.self.now c.advance.new.self c.place_behind-self.result c.advance.result c.mark_returned.new.aggregate c.requires.has c.advance.ensures.advances c.place_behind-self.ensures c.mark_returned.ensures

pub returns-clause-placed : goal.returns-clause-placed
returns-clause-placed c = gives_placed c.args.self.now c.advance.new.self c.place_behind-self.result c.advance.result c.mark_returned.new.aggregate c.requires.has c.advance.ensures.advances c.place_behind-self.ensures c.mark_returned.ensures c.requires.follows c.requires.rests
