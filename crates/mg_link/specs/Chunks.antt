-- The bytes of a file in chunks (GridFS specification: the chunks collection).
use Rattle.std.specs.Prelude.{◌≡◌, ◌≤◌, ◌<◌, ℕ, ◌+◌, ◌==◌, List, [], ◌∷◌, ◌++◌, length, if◌then◌else◌}

-- the last chunk: what is left, unless nothing is
abbrev pub last_chunk : List ℕ → List (List ℕ)
last_chunk [] = []
last_chunk (b ∷ bs) = (b ∷ bs) ∷ []

-- the chunks of the bytes behind a chunk that has begun
unfoldable pub chunks_behind : (size : ℕ) → (begun bytes : List ℕ) → List (List ℕ)
chunks_behind size begun [] = last_chunk begun
chunks_behind size begun (b ∷ bs) = if length begun + 1 == size then (begun ++ b ∷ []) ∷ chunks_behind size [] bs else chunks_behind size (begun ++ b ∷ []) bs

-- the bytes in consecutive chunks of this size, the rest last where there is one; of no bytes none (GridFS: chunks are numbered from 0, each has `chunkSize` bytes but the last, which has the rest)
abbrev pub chunked : ℕ → List ℕ → List (List ℕ)
chunked size bytes = chunks_behind size [] bytes

-- each chunk has the size but the last, which has at least one byte
abbrev pub HaveSize : ℕ → List (List ℕ) → Type 0
HaveSize size [] = Unit {0}
HaveSize size (c ∷ []) = (0 < length c) × (length c ≤ size)
HaveSize size (c ∷ d ∷ cs) = (length c ≡ size) × HaveSize size (d ∷ cs)
