use Rattle.std.proofs.Common.{sym, arith}
use Rattle.mg_bson.proofs.Elements.{cut_len}
use Rattle.mg_bson.proofs.read.two_texts_of.Goals as goal

pub overflow_add-result-2 : goal.overflow_add-result-2
overflow_add-result-2 c =
    omega (
      arith,
      cut_len c.args.bytes.now (c.in_ok-first.first.now, c.in_ok-first.behind.now) (sym c.in_ok-first.ensures),
      cut_len c.in_ok-first.behind.now (c.in_ok-second.second.now, c.in_ok-second.field-0-1.now) (sym c.in_ok-second.ensures),
    )
