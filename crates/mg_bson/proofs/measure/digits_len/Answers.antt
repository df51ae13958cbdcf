use Rattle.std.proofs.Common.{length, ap, arith}
use Rattle.std.proofs.lemmas.Fmt.{decimal_digit, length-decimal-le}
use Rattle.mg_bson.proofs.Measuring.{digits_more}
use Rattle.mg_bson.proofs.measure.digits_len.Goals as goal

pub overflow_add-len : goal.overflow_add-len
overflow_add-len c = omega (arith, c.loop-front.invariant, length-decimal-le 20 c.args.n (omega arith) (omega arith) (omega arith))

pub loop-front-preserved : goal.loop-front-preserved
loop-front-preserved c = omega (arith, c.loop-front.invariant, digits_more c.loop-front.front (omega arith) (omega arith))

pub returns-clause-value : goal.returns-clause-value
returns-clause-value c = omega (arith, c.loop-front.invariant, ap length (decimal_digit c.loop-front.front (omega arith)))

pub returns-clause-short : goal.returns-clause-short
returns-clause-short c =
    omega (
      arith,
      c.loop-front.invariant,
      ap length (decimal_digit c.loop-front.front (omega arith)),
      length-decimal-le 20 c.args.n (omega arith) (omega arith) (omega arith),
    )
