use Rattle.std.specs.Bool.{one_answer}
use Rattle.mg_bson.specs.Same.{fields_eq, fields_eq-decides}
use Rattle.mg_bson.proofs.equal.DocumentPartialEq.eq.Goals as goal

pub returns-clause-value : goal.returns-clause-value
returns-clause-value c = one_answer c.same_document.result (fields_eq c.args.self.now c.args.other.now) c.same_document.ensures (fields_eq-decides c.args.self.now c.args.other.now)
