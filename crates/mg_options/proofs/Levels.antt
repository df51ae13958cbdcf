-- The levels of strengths, and numbers of servers.
use Rattle.std.proofs.Common.{◌≡◌, ◌<◌, ◌^◌, ℕ, pos, Some, if◌then◌else◌, lt-ltb, refl, sym, ap, ◌∙◌, arith}
use Rattle.std.specs.Prelude.{◌==◌}
use Rattle.mg_link.specs.Concerns.{so_many}
use Rattle.mg_options.specs.Collations.{strength_level}
use Rattle.mg_options.specs.Tables.{counted}
use Rattle.mg_options.specs.declared.collation.CollationStrength.{CollationStrength}
use Rattle.mg_options.specs.declared.collation.CollationStrength.TheVariants as strength

abbrev strength_at : ℕ → CollationStrength
strength_at n = if n == 1 then strength.Primary else (if n == 2 then strength.Secondary else (if n == 3 then strength.Tertiary else (if n == 4 then strength.Quaternary else strength.Identical)))

strength_back : (s : CollationStrength) → strength_at (strength_level s) ≡ s
strength_back strength.Primary = refl
strength_back strength.Secondary = refl
strength_back strength.Tertiary = refl
strength_back strength.Quaternary = refl
strength_back strength.Identical = refl

pub levels_apart : (a b : CollationStrength) → strength_level a ≡ strength_level b → a ≡ b
levels_apart a b e = sym (strength_back a) ∙ ap strength_at e ∙ strength_back b

pub nodes_back : (n : ℕ) → n < 2 ^ 31 → counted (pos n) ≡ Some (so_many n)
nodes_back n lt = rw (lt-ltb n (2 ^ 32) (omega (arith, lt))) refl
