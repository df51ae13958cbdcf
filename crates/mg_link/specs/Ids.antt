-- The ids that a counter gives.
use Rattle.std.specs.Prelude.{ℕ, ◌%◌, ◌^◌, ◌++◌, List}
use Rattle.std.specs.Int.{w64, to_be_bytes}

-- the bytes that stay, and the number of the next id
pub record Counter : Type 0 where
  pub prefix : List ℕ
  pub next : ℕ

-- the prefix, and the number in eight bytes, the highest first
abbrev pub counted_id : List ℕ → ℕ → List ℕ
counted_id prefix n = prefix ++ to_be_bytes w64 (n % 2 ^ 64)
