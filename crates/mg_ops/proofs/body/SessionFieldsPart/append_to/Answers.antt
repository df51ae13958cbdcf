use Rattle.mg_ops.proofs.Composing.{nothing_put}
use Rattle.mg_ops.proofs.body.SessionFieldsPart.append_to.Goals as goal

pub returns-in-None-clause-ok : goal.returns-in-None-clause-ok
returns-in-None-clause-ok c = rw c.in-None.is (nothing_put c.args.body.now)

pub returns-in-Some-clause-ok : goal.returns-in-Some-clause-ok
returns-in-Some-clause-ok c = rw c.in-Some.is c.put_given.ensures.ok
