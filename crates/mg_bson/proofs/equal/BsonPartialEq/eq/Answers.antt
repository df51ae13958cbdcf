use Rattle.std.specs.Bool.{one_answer}
use Rattle.mg_bson.specs.Same.{tree_eq, tree_eq-decides}
use Rattle.mg_bson.specs.View.{tree}
use Rattle.mg_bson.proofs.equal.BsonPartialEq.eq.Goals as goal

pub returns-clause-value : goal.returns-clause-value
returns-clause-value c =
    let t = tree c.args.self.now in
    let u = tree c.args.other.now in
    one_answer c.same_value.result (tree_eq t u) c.same_value.ensures (tree_eq-decides t u)
