-- What was read and written, where the ends of the program tell.
use Rattle.std.specs.Prelude.{ℕ, ◌≤◌, List, length, take, Option}
use Rattle.std.specs.Io.KnownBytes.{Consumes, IsAtEnd, Appends}

-- the longest input, in bytes
abbrev pub longest : ℕ
longest = 16777216

-- the bytes are all that was left
abbrev pub ReadWhole : Option (List ℕ) → Option (List ℕ) → List ℕ → Type 0
ReadWhole old new bytes = Consumes old new bytes × IsAtEnd new

-- a front of the text was taken
abbrev pub TookFront : Option (List ℕ) → Option (List ℕ) → List ℕ → Type 0
TookFront old new text = (n : ℕ) × (n ≤ length text) × Appends old new (take n text)
