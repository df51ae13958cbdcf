use Rattle.std.proofs.Common.{Option, ap}
use Rattle.mg_bson.specs.Tree.{Tree}
use Rattle.mg_cursor.specs.View.{client_of}
use Rattle.mg_cursor.proofs.batches.Batches.take_token.Goals as goal

pub returns-clause-token : goal.returns-clause-token
returns-clause-token c = c.take.ensures.value

pub returns-clause-rest : goal.returns-clause-rest
returns-clause-rest c = ap (λ (t : Option Tree). record (client_of c.args.self.now) { token = t }) c.take.ensures.after
