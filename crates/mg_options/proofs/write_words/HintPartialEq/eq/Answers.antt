use Rattle.std.specs.Bool.{one_answer}
use Rattle.mg_bson.specs.Same.{tree_eq, tree_eq-decides}
use Rattle.mg_options.specs.Tables.{hint_value}
use Rattle.mg_options.proofs.write_words.HintPartialEq.eq.Goals as goal

pub returns-clause-value : goal.returns-clause-value
returns-clause-value c =
    let t = hint_value c.args.self.now in
    let u = hint_value c.args.other.now in
    one_answer c.is_same.result (tree_eq t u) c.is_same.ensures (tree_eq-decides t u)
