-- The ids of a counter.
use Rattle.std.proofs.Common.{◌≡◌, ℕ, ◌+◌, ◌%◌, ◌^◌, ◌<◌, List, [], ◌∷◌, length, get_or, refl, sym, ap, ◌∙◌, arith}
use Rattle.std.proofs.lemmas.List.{append_cancel_left}
use Rattle.std.proofs.lemmas.Nat.{from_be_bytes-to_be_bytes_8}
use Rattle.std.specs.Int.{w64, to_be_bytes, from_be_bytes}
use Rattle.mg_link.specs.Ids.{counted_id}

pub four : (p : List ℕ) → length p ≡ 4 → get_or p 0 0 ∷ get_or p 1 0 ∷ get_or p 2 0 ∷ get_or p 3 0 ∷ [] ≡ p
four [] h = absurd (omega arith)
four (a ∷ []) h = absurd (omega arith)
four (a ∷ b ∷ []) h = absurd (omega arith)
four (a ∷ b ∷ c ∷ []) h = absurd (omega arith)
four (a ∷ b ∷ c ∷ d ∷ []) h = refl
four (a ∷ b ∷ c ∷ d ∷ e ∷ p) h = absurd (omega arith)

-- numbers with the same eight bytes are the same
bytes_apart : (m n : ℕ) → m < 2 ^ 64 → n < 2 ^ 64 → to_be_bytes w64 m ≡ to_be_bytes w64 n → m ≡ n
bytes_apart m n h k e = sym (from_be_bytes-to_be_bytes_8 m h) ∙ ap (from_be_bytes w64) e ∙ from_be_bytes-to_be_bytes_8 n k

remainders_apart : (first i j : ℕ) → i < 2 ^ 64 → j < 2 ^ 64 → (first + i) % 2 ^ 64 ≡ (first + j) % 2 ^ 64 → i ≡ j
remainders_apart first i j h k e = omega arith

pub counted_id_apart : (prefix : List ℕ) (first i j : ℕ) → i < 2 ^ 64 → j < 2 ^ 64 → counted_id prefix (first + i) ≡ counted_id prefix (first + j) → i ≡ j
counted_id_apart prefix first i j h k e =
    remainders_apart first i j h k (bytes_apart _ _ (omega arith) (omega arith) (append_cancel_left prefix _ _ e))
