use Rattle.std.proofs.Common.{refl}
use Rattle.mg_chunks.proofs.Buffering.{popped_cut, popped_none, popped_some}
use Rattle.mg_chunks.proofs.buffer.Buffer.pop.Goals as goal

pub returns-clause-some : goal.returns-clause-some
returns-clause-some c = popped_some c.args.self.now (record c.args.self.now { full = c.pop_front.new.self }) c.requires refl refl c.pop_front.result c.pop_front.ensures.items

pub returns-clause-none : goal.returns-clause-none
returns-clause-none c = popped_none c.args.self.now (record c.args.self.now { full = c.pop_front.new.self }) c.requires refl refl c.pop_front.result c.pop_front.ensures.items c.pop_front.ensures.variant

pub returns-clause-keeps : goal.returns-clause-keeps
returns-clause-keeps c = popped_cut c.args.self.now (record c.args.self.now { full = c.pop_front.new.self }) c.requires refl refl c.pop_front.result c.pop_front.ensures.items
