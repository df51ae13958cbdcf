-- Why a part of a document is not encoded, for private clauses.
use Rattle.std.specs.Prelude.{◌≡◌, ℕ, ◌<◌, Bool, true}
use Rattle.mg_bson.specs.Writable.{max_len}
use Rattle.mg_bson.specs.declared.error.BsonError.{BsonError}
use Rattle.mg_bson.specs.declared.error.BsonError.TheVariants.{OutOfMemory, Malformed, TooLarge, TooDeep, BadName}

-- n is the length with the part, l the levels that there may be, d its levels, and b whether it has a bad name
abbrev pub StopsAt : BsonError → ℕ → ℕ → ℕ → Bool → Type 0
StopsAt OutOfMemory n l d b = ⊥
StopsAt Malformed n l d b = ⊥
StopsAt TooLarge n l d b = max_len < n
StopsAt TooDeep n l d b = l < d
StopsAt BadName n l d b = b ≡ true
