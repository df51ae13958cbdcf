use Rattle.mg_bson.specs.View.{tree}
use Rattle.mg_bson.proofs.Plain.{plain, plain_within}
use Rattle.mg_bson.proofs.levels.+levels.Goals as goal

pub is_value_within-returns-in_default : goal.is_value_within-returns-in_default
is_value_within-returns-in_default t c =
    let v = c.args.value.now in
    plain_within (tree v) c.args.levels (plain v c.in_default.not-Document c.in_default.not-Array c.in_default.not-CodeWithScope)
