use Rattle.std.proofs.Common.{◌≡◌, ◌+◌, ◌++◌, ◌∷◌, [], decimal, ◌/◌, ◌%◌, sym, ap, ◌∙◌, append_assoc, arith}
use Rattle.std.proofs.lemmas.Fmt.{decimal_digit, decimal_step}
use Rattle.std.proofs.lemmas.Result.{on_ok_weaker}
use Rattle.mg_bson.proofs.write.+put_decimal.Goals as goal
use Rattle.mg_bson.proofs.write.+put_decimal.Goals.{then-n-ge10+in_ok-put_decimal, else-n-ge10}

pub returns : goal.returns
returns t c =
    let n = c.args.n in
    let front = c.args.out.now.items in
    let last = (48 + n % 10) ∷ [] in
    let all : c.if-n-ge10.out.items ++ last ≡ front ++ decimal n =
    elim c.if-n-ge10.branch [
      | then-n-ge10+in_ok-put_decimal w ↦ ap (λ o. o.items ++ last) w.out-is
          ∙ ap (λ l. l ++ last) w.in_ok-put_decimal.ensures
          ∙ append_assoc front (decimal (n / 10)) last
          ∙ ap (λ l. front ++ l) (sym (decimal_step n (omega (arith, w.if-n-ge10.true)) (omega (arith, c.ranges.n))))
      | else-n-ge10 w ↦ ap (λ o. o.items ++ last) w.out-is
          ∙ ap (λ l. front ++ l) (ap (λ k. (48 + k) ∷ []) (omega (arith, w.if-n-ge10.false)) ∙ sym (decimal_digit n (omega (arith, w.if-n-ge10.false))))
    ] in
    on_ok_weaker c.put.result (λ e. e ∙ all) c.put.ensures
