use Rattle.std.proofs.Common.{sym, subst}
use Rattle.mg_change.specs.StreamCalls.{EndsBehind, MayEnd}
use Rattle.mg_change.specs.StreamView.{changes_of}
use Rattle.mg_change.specs.declared.event_poll.Stepped.{Stepped}
use Rattle.mg_change.proofs.changes.Changes.end_seeking.Goals as goal

pub unreachable-requires : goal.unreachable-requires
unreachable-requires c = subst (λ (r : Stepped). MayEnd r (changes_of c.args.self.now)) c.in-Goes.is c.requires.last

pub copy-requires-clause-next : goal.copy-requires-clause-next
copy-requires-clause-next c = subst (λ (r : Stepped). MayEnd r (changes_of c.args.self.now)) c.in-Found.is c.requires.last

pub copy-requires-clause-rests : goal.copy-requires-clause-rests
copy-requires-clause-rests c = c.requires.rests c.in-Found.is

pub copy-requires-clause-follows : goal.copy-requires-clause-follows
copy-requires-clause-follows c = c.requires.follows c.in-Found.is

pub copy-requires-clause-placed : goal.copy-requires-clause-placed
copy-requires-clause-placed c = c.requires.placed

pub returns-in-Found-clause-ends : goal.returns-in-Found-clause-ends
returns-in-Found-clause-ends c = subst (λ (r : Stepped). EndsBehind r (changes_of c.args.self.now) (changes_of c.copy.new.self) c.copy.result) (sym c.in-Found.is) c.copy.ensures.copies

pub returns-in-Gives-clause-ends : goal.returns-in-Gives-clause-ends
returns-in-Gives-clause-ends c = subst (λ (r : Stepped). EndsBehind r (changes_of c.args.self.now) (changes_of c.args.self.now) c.end_given.result) (sym c.in-Gives.is) c.end_given.ensures

pub returns-in-Gives-clause-placed : goal.returns-in-Gives-clause-placed
returns-in-Gives-clause-placed c = c.requires.placed

pub returns-in-Gives-clause-owned : goal.returns-in-Gives-clause-owned
returns-in-Gives-clause-owned c = λ own. own
