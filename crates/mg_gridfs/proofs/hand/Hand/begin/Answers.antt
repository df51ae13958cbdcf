use Rattle.std.proofs.Common.{refl, subst}
use Rattle.mg_cursor.specs.View.{AdvancesBy, behind_of}
use Rattle.mg_cursor.specs.declared.buffer.BatchBuffer.{BatchBuffer}
use Rattle.mg_gridfs.proofs.Hands.{begun_bytes, begun_holds}
use Rattle.mg_gridfs.proofs.hand.Hand.begin.Goals as goal

pub returns-clause-begun : goal.returns-clause-begun
returns-clause-begun c =
    let advances = subst (λ (x : BatchBuffer). AdvancesBy (behind_of x) c.advance.new.self c.advance.result) c.replace.ensures.after c.advance.ensures.advances in
    begun_bytes (record c.args.self.now { batch = c.advance.new.self }) c.args.batch c.advance.new.self c.advance.result refl c.requires.given c.requires.batch advances

pub returns-clause-keeps : goal.returns-clause-keeps
returns-clause-keeps c =
    let advances = subst (λ (x : BatchBuffer). AdvancesBy (behind_of x) c.advance.new.self c.advance.result) c.replace.ensures.after c.advance.ensures.advances in
    begun_holds (record c.args.self.now { batch = c.advance.new.self }) c.args.batch c.advance.new.self c.advance.result refl c.requires.given c.requires.later c.requires.batch advances
