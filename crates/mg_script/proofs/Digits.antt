-- The number that prints as a text.
use Rattle.std.proofs.Common.{◌≡◌, ℕ, ℤ, pos, negsuc, List, Bool, true, false, cond, ◌&&◌, Some, None, Result, Ok, Err, refl, arith}
use Rattle.std.specs.Prelude.{FitsSigned, nat_le}
use Rattle.std.specs.Int.{w64}
use Rattle.std.specs.Str.{bytes_eq}
use Rattle.std.specs.Str.Parse.{ParsesSigned, signed_digits_value}
use Rattle.std.specs.Fmt.{signed_decimal}
use Rattle.std.proofs.lemmas.Bool.{and_parts, leb-true}
use Rattle.std.proofs.lemmas.Fmt.{parse-signed_decimal}
use Rattle.std.proofs.lemmas.Slice.Eq.{bytes_eq-Decides}
use Rattle.mg_script.specs.Parts.{fits_64, printed_number}

fits : (z : ℤ) → fits_64 z ≡ true → FitsSigned w64 z
fits (pos n) e = record { sfits = omega (arith, leb-true n 9223372036854775807 e) }
fits (negsuc n) e = record { sfits = omega (arith, leb-true n 9223372036854775807 (and_parts (nat_le n 9223372036854775807) true e).0) }

none : (a b : Bool) (v : ℤ) → (a ≡ true → b ≡ true → ⊥) → None ≡ cond (a && b) (Some v) None
none true true v h = absurd (h refl refl)
none true false v h = refl
none false b v h = refl

not_ok : {E : Type 0} (x : E) (v : ℤ) (r : Result ℤ E) → r ≡ Err x → r ≡ Ok v → ⊥
not_ok x v r failed found = absurd cc

-- the text is no number of 64 bits
pub number_missing : {E : Type 0} (s : List ℕ) (r : Result ℤ E) (x : E) → r ≡ Err x → ParsesSigned w64 10 s r → None ≡ printed_number s
number_missing s r x is h =
    let v = signed_digits_value 10 s in
    none (fits_64 v) (bytes_eq s (signed_decimal v)) v (λ f t. not_ok x v r is (parse-signed_decimal w64 v s r (fits v f) (omega (arith, (fits v f).sfits)) ((bytes_eq-Decides s (signed_decimal v)).0 t) h))
