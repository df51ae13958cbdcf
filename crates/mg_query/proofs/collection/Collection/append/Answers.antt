use Rattle.mg_query.proofs.Numbers.{cut_down}
use Rattle.mg_query.proofs.collection.Collection.append.Goals as goal

pub returns-in-Ok-clause-ok : goal.returns-in-Ok-clause-ok
returns-in-Ok-clause-ok c keeps new = (c.in-Ok.ensures.ok keeps new).1

pub returns-in-Err-clause-err : goal.returns-in-Err-clause-err
returns-in-Err-clause-err c keeps new = cut_down c.args.self.now c.push_all.new.self c.truncate.new.self keeps (c.in-Err.ensures.err keeps new) c.truncate.ensures.documents

pub returns-in-Ok-clause-ids : goal.returns-in-Ok-clause-ids
returns-in-Ok-clause-ids c keeps new = (c.in-Ok.ensures.ok keeps new).0.keeps

pub returns-in-Err-clause-ids : goal.returns-in-Err-clause-ids
returns-in-Err-clause-ids c keeps new = c.truncate.ensures.ids (c.in-Err.ensures.err keeps new).keeps
