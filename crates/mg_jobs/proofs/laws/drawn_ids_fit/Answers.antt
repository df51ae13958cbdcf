use Rattle.std.proofs.Common.{◌≡◌, ◌%◌, ◌^◌, ◌∷◌, ◌++◌, [], ℕ, length, length-append, refl, arith}
use Rattle.std.specs.Int.{w64, to_be_bytes}
use Rattle.mg_jobs.proofs.laws.drawn_ids_fit.Goals as goal

eight : (n : ℕ) → length (to_be_bytes w64 n) ≡ 8
eight n = refl

pub returns : goal.returns
returns c = λ ids n three.
    let all = length-append (ids ++ 0 ∷ []) (to_be_bytes w64 (n % 2 ^ 64)) in
    let front = length-append ids (0 ∷ []) in
    let last = eight (n % 2 ^ 64) in
    omega (arith, all, front, last, three)
