use mir.Val.{SFits}
use Rattle.std.proofs.Common.{◌≡◌, ◌≤◌, ◌+◌, ◌^◌, ℕ, ℤ, pos, List, true, Result, Ok, Err, MatchResult, sym, ap, ◌∙◌, subst, rules, w32}
use Rattle.std.specs.Ordering.{int_eq}
use Rattle.std.proofs.lemmas.Int.{to_z-of_z}
use Rattle.mg_bson.specs.Raw.{fields}
use Rattle.mg_link.specs.declared.error.Error.{Error}
use Rattle.mg_chunks.proofs.Judged.{number_missing, number_there, only_if}
use Rattle.mg_chunks.proofs.judging.judge.Goals as goal

pub returns-in-Some-clause-judged : goal.returns-in-Some-clause-judged
returns-in-Some-clause-judged c =
    let fits : SFits w32 c.in-Some.number = search rules in
    let same = c.is_number.ensures.same ∙ ap (λ (z : ℤ). int_eq z (pos c.args.n)) (to_z-of_z w32 c.in-Some.number fits) in
    subst (λ (r : Result (List ℕ) Error). MatchResult c.judge_bytes.result (λ b. r ≡ Ok b.now) (λ e. r ≡ Err e))
    (sym (number_there c.args.file.now c.args.n (fields c.args.chunk.now) c.in-Some.number c.is_number.result c.in-Some.ensures same)) c.judge_bytes.ensures.judged

pub returns-in-Some-clause-small : goal.returns-in-Some-clause-small
returns-in-Some-clause-small c = only_if c.judge_bytes.result (c.is_number.result ≡ true) (c.args.n + 1 ≤ 2 ^ 31) c.is_number.ensures.small c.judge_bytes.ensures.so

pub returns-in-None-clause-judged : goal.returns-in-None-clause-judged
returns-in-None-clause-judged c =
    number_missing c.args.file.now c.args.n (fields c.args.chunk.now) c.in-None.ensures ∙ ap (λ (x : Error). Err x) (sym c.broken.ensures)
