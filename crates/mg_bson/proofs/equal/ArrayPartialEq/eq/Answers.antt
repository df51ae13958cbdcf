use Rattle.std.specs.Bool.{one_answer}
use Rattle.mg_bson.specs.Same.{items_eq, items_eq-decides}
use Rattle.mg_bson.proofs.equal.ArrayPartialEq.eq.Goals as goal

pub returns-clause-value : goal.returns-clause-value
returns-clause-value c = one_answer c.same_array.result (items_eq c.args.self.now c.args.other.now) c.same_array.ensures (items_eq-decides c.args.self.now c.args.other.now)
