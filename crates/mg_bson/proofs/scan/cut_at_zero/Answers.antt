use Rattle.std.proofs.Common.{◌≡◌, ◌+◌, ◌-◌, length, take, drop, sym, arith, add-one, length-drop}
use Rattle.std.proofs.lemmas.List.{take_all}
use Rattle.mg_bson.proofs.Cutting.{cut_here, cut_nowhere}
use Rattle.mg_bson.proofs.scan.cut_at_zero.Goals as goal

pub returns-then-end-bytes : goal.returns-then-end-bytes
returns-then-end-bytes c = sym (cut_nowhere c.args.bytes.now (λ k h. c.zero_end-end.ensures.before k (omega arith)))

pub returns : goal.returns
returns c =
    let bs = c.args.bytes.now in
    let end = c.zero_end-end.result in
    let all : take (length bs - (end + 1)) (drop (end + 1) bs) ≡ drop (end + 1) bs = take_all (length bs - (end + 1)) (drop (end + 1) bs) (omega (arith, length-drop (end + 1) bs)) in
    rw (all, add-one) (sym (cut_here bs end c.zero_end-end.ensures.before (omega arith) (c.zero_end-end.ensures.zero (omega arith))))
