-- From the mask of one load to the bytes that are passed over.
use Rattle.std.proofs.Common.{◌≡◌, ◌≢◌, ℕ, ◌+◌, ◌%◌, ◌^◌, ◌<◌, ◌≤◌, ltb, Bool, not, cond, List, map, length, get_or, replicate, Fits, w8, ap, ◌∙◌, arith, eqb, ltb-false, inl, inr}
use Rattle.std.proofs.lemmas.Bool.{cases_lt, eqb-true, eqb-false}
use Rattle.std.proofs.lemmas.List.{length-map}
use Rattle.std.proofs.lemmas.Simd.{length-chunk, bitmask_splat, zip2_splat, map-map, first_set_mask_l, run_in_chunk_le, run_in_chunk_fails, run_in_chunk_stops}
use Rattle.std.specs.List.{prefix_len}
use lib.Lanes.{chunk, zip2, mask_l, top}
use Rattle.mg_bson.specs.Scan.{first_set, AreNonZero, IsNonZeroAscii, AreNonZeroAscii}

-- a byte that is moved up by 128 lies below 129
abbrev stops : ℕ → Bool
stops x = ltb ((x + 128) % 256) 129

-- the mask of the 16 bytes from i on
abbrev marked : List ℕ → ℕ → ℕ
marked bs i = mask_l (map (top 7) (zip2 (λ a b. cond (ltb a b) 255 0) (zip2 (λ a b. (a + b) % 256) (chunk i 16 bs) (replicate 16 128)) (replicate 16 129))) % 2 ^ 64

marked_is : (bs : List ℕ) (i : ℕ) → i + 16 ≤ length bs → marked bs i ≡ mask_l (map stops (chunk i 16 bs))
marked_is bs i room =
    let v = chunk i 16 bs in
    let long = length-chunk i 16 bs room in
    ap (λ (w : List ℕ). mask_l (map (top 7) (zip2 (λ a b. cond (ltb a b) 255 0) w (replicate 16 129))) % 2 ^ 64) (zip2_splat (λ a b. (a + b) % 256) v 16 128 long)
    ∙ bitmask_splat w8 ltb (map (λ x. (x + 128) % 256) v) 16 129 (length-map v (λ x. (x + 128) % 256) ∙ long) (omega arith)
    ∙ ap mask_l (map-map (λ x. ltb x 129) (λ x. (x + 128) % 256) v)

counted : (bs : List ℕ) (i r : ℕ) → i + 16 ≤ length bs → r ≡ first_set (marked bs i) → r ≡ prefix_len (λ x. not (stops x)) (chunk i 16 bs)
counted bs i r room e = e ∙ ap first_set (marked_is bs i room) ∙ first_set_mask_l stops (chunk i 16 bs) 16 (length-chunk i 16 bs room) (omega arith)

pub run_within : (bs : List ℕ) (i r : ℕ) → i + 16 ≤ length bs → r ≡ first_set (marked bs i) → r ≤ 16
run_within bs i r room e = run_in_chunk_le stops bs i 16 r 0 room (counted bs i r room e)

pub run_ascii : (bs : List ℕ) (i r : ℕ) → i + 16 ≤ length bs → ((k : ℕ) → Fits w8 (get_or bs k 0)) → r ≡ first_set (marked bs i) → (k : ℕ) → i ≤ k → k < i + r → IsNonZeroAscii (get_or bs k 0)
run_ascii bs i r room fits e k from to =
    let passed : 129 ≤ (get_or bs k 0 + 128) % 256 = ltb-false _ _ (run_in_chunk_fails stops bs i 16 r 0 room (counted bs i r room e) k from to) in
    let small : get_or bs k 0 < 256 = (fits k).fits in
    (omega (arith, passed, small), omega (arith, passed, small))

-- a run behind others
pub ascii_more : (bs : List ℕ) (i j : ℕ) → AreNonZeroAscii bs i → ((k : ℕ) → i ≤ k → k < j → IsNonZeroAscii (get_or bs k 0)) → AreNonZeroAscii bs j
ascii_more bs i j front back k to = elim (cases_lt k i) [ inl early ↦ front k early | inr late ↦ back k late to ]

-- ---- the 0 alone

abbrev zero_marked : List ℕ → ℕ → ℕ
zero_marked bs i = mask_l (map (top 7) (zip2 (λ a b. cond (eqb a b) 255 0) (chunk i 16 bs) (replicate 16 0))) % 2 ^ 64

zero_counted : (bs : List ℕ) (i r : ℕ) → i + 16 ≤ length bs → r ≡ first_set (zero_marked bs i) → r ≡ prefix_len (λ x. not (eqb x 0)) (chunk i 16 bs)
zero_counted bs i r room e =
    let long = length-chunk i 16 bs room in
    e ∙ ap first_set (bitmask_splat w8 eqb (chunk i 16 bs) 16 0 long (omega arith)) ∙ first_set_mask_l (λ x. eqb x 0) (chunk i 16 bs) 16 long (omega arith)

pub zero_within : (bs : List ℕ) (i r : ℕ) → i + 16 ≤ length bs → r ≡ first_set (zero_marked bs i) → r ≤ 16
zero_within bs i r room e = run_in_chunk_le (λ x. eqb x 0) bs i 16 r 0 room (zero_counted bs i r room e)

pub zero_before : (bs : List ℕ) (i r : ℕ) → i + 16 ≤ length bs → r ≡ first_set (zero_marked bs i) → (k : ℕ) → i ≤ k → k < i + r → get_or bs k 0 ≢ 0
zero_before bs i r room e k from to = eqb-false (get_or bs k 0) 0 (run_in_chunk_fails (λ x. eqb x 0) bs i 16 r 0 room (zero_counted bs i r room e) k from to)

pub zero_here : (bs : List ℕ) (i r : ℕ) → i + 16 ≤ length bs → r ≡ first_set (zero_marked bs i) → r < 16 → get_or bs (i + r) 0 ≡ 0
zero_here bs i r room e short = eqb-true (get_or bs (i + r) 0) 0 (run_in_chunk_stops (λ x. eqb x 0) bs i 16 r 0 room (zero_counted bs i r room e) short)

pub non_zero_more : (bs : List ℕ) (i j : ℕ) → AreNonZero bs i → ((k : ℕ) → i ≤ k → k < j → get_or bs k 0 ≢ 0) → AreNonZero bs j
non_zero_more bs i j front back k to = elim (cases_lt k i) [ inl early ↦ front k early | inr late ↦ back k late to ]
