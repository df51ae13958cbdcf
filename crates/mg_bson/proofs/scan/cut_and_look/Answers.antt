use Rattle.std.proofs.Common.{◌≡◌, ◌≢◌, ℕ, ◌+◌, ◌-◌, ◌<◌, length, get_or, take, drop, sym, arith, add-one, length-drop}
use Rattle.std.proofs.lemmas.List.{take_all}
use Rattle.mg_bson.proofs.Cutting.{cut_here, cut_nowhere}
use Rattle.mg_bson.proofs.Known.{ascii_front}
use Rattle.mg_bson.proofs.scan.cut_and_look.Goals as goal

pub returns-then-end-bytes-clause-cut : goal.returns-then-end-bytes-clause-cut
returns-then-end-bytes-clause-cut c = sym (cut_nowhere c.args.bytes.now (λ k h. λ e. omega (arith, e, (c.ascii_end-end.ensures.ascii k (omega arith)).0)))

pub returns-then-bytes-end-eq0-clause-cut : goal.returns-then-bytes-end-eq0-clause-cut
returns-then-bytes-end-eq0-clause-cut c =
    let bs = c.args.bytes.now in
    let end = c.ascii_end-end.result in
    let before : (k : ℕ) → k < end → get_or bs k 0 ≢ 0 = λ k h. λ e. omega (arith, e, (c.ascii_end-end.ensures.ascii k h).0) in
    let all : take (length bs - (end + 1)) (drop (end + 1) bs) ≡ drop (end + 1) bs = take_all (length bs - (end + 1)) (drop (end + 1) bs) (omega (arith, length-drop (end + 1) bs)) in
    rw (all, add-one) (sym (cut_here bs end before (omega arith) c.if-bytes-end-eq0.true))

pub returns-then-bytes-end-eq0-clause-ascii : goal.returns-then-bytes-end-eq0-clause-ascii
returns-then-bytes-end-eq0-clause-ascii c = λ ascii. ascii_front c.args.bytes.now c.ascii_end-end.result (λ k h. (c.ascii_end-end.ensures.ascii k h).1)
