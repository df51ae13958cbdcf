-- Bytes that are passed over on the way to the 0 that ends a text. No public clause cites this module.
use Rattle.std.specs.Prelude.{◌≢◌, ℕ, ◌<◌, List, slice_index, ◌==◌, if◌then◌else◌}
use Rattle.std.specs.Int.{w64, trailing_zeros}

-- the place of the lowest bit that is set, or 16
abbrev pub first_set : ℕ → ℕ
first_set mask = if mask == 0 then 16 else trailing_zeros w64 mask

-- none of the first n bytes is 0
abbrev pub AreNonZero : List ℕ → ℕ → Type 0
AreNonZero bs n = (k : ℕ) → k < n → slice_index bs k ≢ 0

-- the byte is ASCII, and not 0
abbrev pub IsNonZeroAscii : ℕ → Type 0
IsNonZeroAscii b = (0 < b) × (b < 128)

-- so are the first n bytes
abbrev pub AreNonZeroAscii : List ℕ → ℕ → Type 0
AreNonZeroAscii bs n = (k : ℕ) → k < n → IsNonZeroAscii (slice_index bs k)
