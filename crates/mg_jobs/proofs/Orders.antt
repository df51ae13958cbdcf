-- Numbers that name jobs.
use Rattle.std.proofs.Common.{◌≡◌, ℕ, ◌<◌, List, [], ◌∷◌, Bool, true, false, cond, Some, None, refl, arith}
use Rattle.std.specs.Prelude.{nat_lt}
use Rattle.std.specs.List.{All}
use Rattle.std.proofs.lemmas.Bool.{ltb-true}
use Rattle.std.proofs.lemmas.List.Elements.{All-cons}
use Rattle.mg_script.specs.Script.{first_missing}

one_more : (count n : ℕ) (ns : List ℕ) (b : Bool) → nat_lt n count ≡ b → cond b (first_missing count ns) (Some n) ≡ None → (first_missing count ns ≡ None → All (λ m. m < count) ns) → All (λ m. m < count) (n ∷ ns)
one_more count n ns true t e h = All-cons (λ m. m < count) n ns (ltb-true n count t) (h e)
one_more count n ns false t e h = absurd cc

-- where none is missing, all are below the count
pub none_missing : (count : ℕ) (ns : List ℕ) → first_missing count ns ≡ None → All (λ n. n < count) ns
unfolding first_missing
none_missing count [] e = λ k d lt. absurd (omega arith)
none_missing count (n ∷ ns) e = one_more count n ns (nat_lt n count) refl e (none_missing count ns)
