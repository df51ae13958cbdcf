-- How many chunks bytes stand in, and how long each is.
use Rattle.std.proofs.Common.{◌≡◌, ◌<◌, ◌≤◌, ℕ, zero, suc, ◌+◌, ◌*◌, ◌%◌, Bool, true, false, List, [], ◌∷◌, ◌++◌, length, Some, refl, sym, ap, ◌∙◌, subst, inl, inr, arith, length-append, zero-add}
use Rattle.std.specs.Prelude.{◌==◌, ◌&&◌, not, if◌then◌else◌, slice_get, unwrap_or}
use Rattle.std.specs.Int.{div_ceil}
use Rattle.std.proofs.lemmas.Bool.{cases_eq, eq-eqb, eqb-true, ne_eqb}
use Rattle.std.proofs.lemmas.Grind.{div_ceil_times}
use Rattle.std.proofs.Math.Nat.{add-div_left, add-mod_left, div-eq_of_lt, mod-eq_of_lt, zero-div, zero-mod}
use Rattle.mg_link.specs.Chunks.{chunked, chunks_behind, last_chunk}
use Rattle.mg_chunks.specs.Sizes.{chunk_count, chunk_length}

-- a full chunk more
count_more : (n size : ℕ) → 0 < size → div_ceil (size + n) size ≡ suc (div_ceil n size)
count_more n size some = rw (add-div_left n some, add-mod_left size n) (omega arith)

-- less than a chunk, but some
count_one : (n size : ℕ) → 0 < n → n < size → div_ceil n size ≡ 1
count_one n size some lt = rw (div-eq_of_lt lt, mod-eq_of_lt lt) (omega (arith, some))

-- nothing is in no chunk, and what is in none is nothing
count_none : (size : ℕ) → div_ceil 0 size ≡ 0
count_none size = rw (zero-div size, zero-mod size) refl

none_counted : (n size : ℕ) → 0 < size → div_ceil n size ≡ 0 → n ≡ 0
none_counted n size some none = let bounds = div_ceil_times n size some in omega (arith, subst (λ q. n ≤ q * size) none bounds.0)

-- the length of the chunks behind one that has begun
last_counted : (size : ℕ) (begun : List ℕ) → length begun < size → length (last_chunk begun) ≡ div_ceil (length begun) size
last_counted size [] lt = sym (count_none size)
last_counted size (b ∷ bs) lt = sym (count_one (length (b ∷ bs)) size (omega arith) lt)

behind_counted : (size : ℕ) (begun bytes : List ℕ) → length begun < size → length (chunks_behind size begun bytes) ≡ div_ceil (length begun + length bytes) size
unfolding chunks_behind
behind_counted size begun [] lt = last_counted size begun lt ∙ ap (λ n. div_ceil n size) (omega arith)
behind_counted size begun (b ∷ bs) lt =
    elim (cases_eq (length begun + 1) size) [
      | inl full ↦
          subst (λ (t : Bool). length (if t then (begun ++ b ∷ []) ∷ chunks_behind size [] bs else chunks_behind size (begun ++ b ∷ []) bs) ≡ div_ceil (length begun + length (b ∷ bs)) size) (sym (eq-eqb (length begun + 1) size full))
          (ap suc (behind_counted size [] bs (omega (arith, lt)) ∙ ap (λ n. div_ceil n size) (omega arith)) ∙ sym (count_more (length bs) size (omega (arith, lt))) ∙ ap (λ n. div_ceil n size) (omega (arith, full)))
      | inr short ↦
          subst (λ (t : Bool). length (if t then (begun ++ b ∷ []) ∷ chunks_behind size [] bs else chunks_behind size (begun ++ b ∷ []) bs) ≡ div_ceil (length begun + length (b ∷ bs)) size) (sym (ne_eqb (length begun + 1) size short))
          (behind_counted size (begun ++ b ∷ []) bs (omega (arith, length-append begun (b ∷ []), short, lt)) ∙ ap (λ n. div_ceil n size) (omega (arith, length-append begun (b ∷ []))))
    ]

pub chunks_counted : (size : ℕ) (bytes : List ℕ) → 0 < size → length (chunked size bytes) ≡ chunk_count (length bytes) size
chunks_counted size bytes some = behind_counted size [] bytes some ∙ ap (λ n. div_ceil n size) (omega arith)

pub count_holds : (length size : ℕ) → 0 < size → (length ≤ chunk_count length size * size) × (chunk_count length size * size < length + size)
count_holds length size some = div_ceil_times length size some

-- ---- how long each chunk is

same_next : (m n : ℕ) → (suc m == suc n) ≡ (m == n)
same_next m n =
    elim (cases_eq m n) [
      | inl e ↦ eq-eqb (suc m) (suc n) (ap suc e) ∙ sym (eq-eqb m n e)
      | inr apart ↦ ne_eqb (suc m) (suc n) (λ e. apart (omega (arith, e))) ∙ sym (ne_eqb m n apart)
    ]

length_more : (size n m : ℕ) → 0 < size → chunk_length (size + m) size (suc n) ≡ chunk_length m size n
length_more size n m some = rw (count_more m size some, add-mod_left size m, same_next (suc n) (div_ceil m size)) refl

-- the first of full chunks
length_full : (size m : ℕ) (b : Bool) → 0 < size → suc 0 == div_ceil (size + m) size ≡ b → (if b && not ((size + m) % size == 0) then (size + m) % size else size) ≡ size
length_full size m false some e = refl
length_full size m true some e =
    let one : 1 ≡ div_ceil (size + m) size = eqb-true 1 (div_ceil (size + m) size) e in
    let none : div_ceil m size ≡ 0 = omega (arith, one, count_more m size some) in
    let nothing : m ≡ 0 = none_counted m size some none in
    rw (add-mod_left size m, nothing, zero-mod size) refl

length_last : (size m : ℕ) → 0 < m → m < size → chunk_length m size 0 ≡ m
length_last size m some lt = rw (count_one m size some lt, mod-eq_of_lt lt, ne_eqb m 0 (omega (arith, some))) refl

last_long : (size n : ℕ) (begun chunk : List ℕ) → length begun < size → slice_get (last_chunk begun) n ≡ Some chunk → length chunk ≡ chunk_length (length begun) size n
last_long size n [] chunk lt e = absurd cc
last_long size zero (b ∷ bs) chunk lt e = sym (ap (λ o. length (unwrap_or o [])) e) ∙ sym (length_last size (length (b ∷ bs)) (omega arith) lt)
last_long size (suc n) (b ∷ bs) chunk lt e = absurd cc

-- a full chunk, and those behind it
long_full : (size n : ℕ) (begun bs : List ℕ) (b : ℕ) (chunk : List ℕ) → 0 < size → length begun + 1 ≡ size
    → ((k : ℕ) → slice_get (chunks_behind size [] bs) k ≡ Some chunk → length chunk ≡ chunk_length (length bs) size k)
    → slice_get ((begun ++ b ∷ []) ∷ chunks_behind size [] bs) n ≡ Some chunk → length chunk ≡ chunk_length (length begun + length (b ∷ bs)) size n
long_full size zero begun bs b chunk some full later e =
    sym (ap (λ o. length (unwrap_or o [])) e) ∙ length-append begun (b ∷ []) ∙ full ∙ sym (length_full size (length bs) (suc 0 == div_ceil (size + length bs) size) some refl)
    ∙ ap (λ m. chunk_length m size 0) (omega (arith, full))
long_full size (suc n) begun bs b chunk some full later e =
    later n e ∙ sym (length_more size n (length bs) some) ∙ ap (λ m. chunk_length m size (suc n)) (omega (arith, full))

long_behind : (size n : ℕ) (begun bytes chunk : List ℕ) → length begun < size → slice_get (chunks_behind size begun bytes) n ≡ Some chunk → length chunk ≡ chunk_length (length begun + length bytes) size n
unfolding chunks_behind
long_behind size n begun [] chunk lt e = last_long size n begun chunk lt e ∙ ap (λ m. chunk_length m size n) (omega arith)
long_behind size n begun (b ∷ bs) chunk lt e =
    elim (cases_eq (length begun + 1) size) [
      | inl full ↦ long_full size n begun bs b chunk (omega (arith, lt)) full (λ k f. long_behind size k [] bs chunk (omega (arith, lt)) f ∙ ap (λ m. chunk_length m size k) (zero-add (length bs)))
          (subst (λ (t : Bool). slice_get (if t then (begun ++ b ∷ []) ∷ chunks_behind size [] bs else chunks_behind size (begun ++ b ∷ []) bs) n ≡ Some chunk) (eq-eqb (length begun + 1) size full) e)
      | inr short ↦
          long_behind size n (begun ++ b ∷ []) bs chunk (omega (arith, length-append begun (b ∷ []), short, lt))
          (subst (λ (t : Bool). slice_get (if t then (begun ++ b ∷ []) ∷ chunks_behind size [] bs else chunks_behind size (begun ++ b ∷ []) bs) n ≡ Some chunk) (ne_eqb (length begun + 1) size short) e)
          ∙ ap (λ m. chunk_length m size n) (omega (arith, length-append begun (b ∷ [])))
    ]

pub chunks_long : (size n : ℕ) (bytes chunk : List ℕ) → 0 < size → slice_get (chunked size bytes) n ≡ Some chunk → length chunk ≡ chunk_length (length bytes) size n
chunks_long size n bytes chunk some e = long_behind size n [] bytes chunk some e ∙ ap (λ m. chunk_length m size n) (omega arith)
