-- A number that was written is read again.
use Rattle.std.proofs.Common.{◌≡◌, ℕ, ◌<◌, ◌^◌, List, [], ◌∷◌, ◌++◌, length, take, drop, get_or, refl, length-append}
use Rattle.std.specs.Int.{w32, w64, from_le_bytes}
use Rattle.std.proofs.lemmas.Nat.{from_le_bytes-to_le_bytes_4, from_le_bytes-to_le_bytes_8}
use Rattle.mg_bson.specs.Bytes.{le32, le64}
use Rattle.mg_bson.specs.Reading.{le32_at, le64_at}

pub length-le32 : (n : ℕ) → length (le32 n) ≡ 4
unfolding le32
length-le32 n = refl

pub length-le64 : (n : ℕ) → length (le64 n) ≡ 8
unfolding le64
length-le64 n = refl

pub le32_at-le32 : (n : ℕ) (rest : List ℕ) → n < 2 ^ 32 → le32_at (le32 n ++ rest) ≡ n
unfolding le32 le32_at
le32_at-le32 n rest lt = from_le_bytes-to_le_bytes_4 n lt

pub le32_at-alone : (n : ℕ) → n < 2 ^ 32 → le32_at (le32 n) ≡ n
unfolding le32 le32_at
le32_at-alone n lt = from_le_bytes-to_le_bytes_4 n lt

pub le64_at-alone : (n : ℕ) → n < 2 ^ 64 → le64_at (le64 n) ≡ n
unfolding le64 le64_at
le64_at-alone n lt = from_le_bytes-to_le_bytes_8 n lt

pub drop-le32 : (n : ℕ) (rest : List ℕ) → drop 4 (le32 n ++ rest) ≡ rest
unfolding le32
drop-le32 n rest = refl

pub byte_behind : (n b : ℕ) (rest : List ℕ) → get_or (le32 n ++ b ∷ rest) 4 0 ≡ b
unfolding le32
byte_behind n b rest = refl

pub drop_behind : (n b : ℕ) (rest : List ℕ) → drop 5 (le32 n ++ b ∷ rest) ≡ rest
unfolding le32
drop_behind n b rest = refl

-- only the bytes in front are read
pub first_four : (bs : List ℕ) → from_le_bytes w32 (take 4 bs) ≡ le32_at bs
unfolding le32_at
first_four [] = refl
first_four (a ∷ []) = refl
first_four (a ∷ b ∷ []) = refl
first_four (a ∷ b ∷ c ∷ []) = refl
first_four (a ∷ b ∷ c ∷ d ∷ bs) = refl

pub first_eight : (bs : List ℕ) → from_le_bytes w64 (take 8 bs) ≡ le64_at bs
unfolding le64_at
first_eight [] = refl
first_eight (a ∷ []) = refl
first_eight (a ∷ b ∷ []) = refl
first_eight (a ∷ b ∷ c ∷ []) = refl
first_eight (a ∷ b ∷ c ∷ d ∷ []) = refl
first_eight (a ∷ b ∷ c ∷ d ∷ e ∷ []) = refl
first_eight (a ∷ b ∷ c ∷ d ∷ e ∷ f ∷ []) = refl
first_eight (a ∷ b ∷ c ∷ d ∷ e ∷ f ∷ g ∷ []) = refl
first_eight (a ∷ b ∷ c ∷ d ∷ e ∷ f ∷ g ∷ h ∷ bs) = refl

pub ruleset lengths = (length-le32, length-le64, length-append)
