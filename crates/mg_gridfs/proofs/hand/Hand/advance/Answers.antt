use Rattle.std.proofs.Common.{refl}
use Rattle.mg_gridfs.proofs.Hands.{next_bytes, next_holds, through, through_bytes}
use Rattle.mg_gridfs.proofs.hand.Hand.advance.Goals as goal

pub returns-then-advance-clause-left : goal.returns-then-advance-clause-left
returns-then-advance-clause-left c = next_bytes c.args.self.now (record c.args.self.now { batch = c.advance.new.self }) c.advance.result c.if-advance.true c.requires.given refl c.advance.ensures.advances

pub returns-then-advance-clause-keeps : goal.returns-then-advance-clause-keeps
returns-then-advance-clause-keeps c = next_holds c.args.self.now (record c.args.self.now { batch = c.advance.new.self }) c.advance.result c.if-advance.true c.requires.given refl c.requires.passed c.advance.ensures.advances

pub turn-requires-clause-given : goal.turn-requires-clause-given
turn-requires-clause-given c = c.requires.given

pub turn-requires-clause-current : goal.turn-requires-clause-current
turn-requires-clause-current c = (through c.args.self.now c.advance.new.self c.advance.result c.if-advance.false c.advance.ensures.advances).current

pub turn-requires-clause-behind : goal.turn-requires-clause-behind
turn-requires-clause-behind c = (through c.args.self.now c.advance.new.self c.advance.result c.if-advance.false c.advance.ensures.advances).behind

pub turn-requires-clause-later : goal.turn-requires-clause-later
turn-requires-clause-later c = c.requires.passed.later

pub returns-clause-left : goal.returns-clause-left
returns-clause-left c = through_bytes c.args.self.now c.advance.new.self _ (through c.args.self.now c.advance.new.self c.advance.result c.if-advance.false c.advance.ensures.advances) c.turn.ensures.left

pub returns-clause-keeps : goal.returns-clause-keeps
returns-clause-keeps c = c.turn.ensures.keeps
