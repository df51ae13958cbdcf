-- Chunks as many and as long as a record says are the cut of their bytes.
use Rattle.std.proofs.Common.{◌≡◌, ◌<◌, ◌≤◌, ◌+◌, ◌*◌, ◌/◌, ◌%◌, ◌++◌, ℕ, zero, suc, min, List, [], ◌∷◌, length, refl, sym, ap, ◌∙◌, arith, append-nil, div-add-mod', length-append}
use Rattle.std.specs.Prelude.{◌&&◌, ◌==◌, if◌then◌else◌, not}
use Rattle.std.specs.List.{concat}
use Rattle.std.proofs.lemmas.Nat.{mod_below}
use Rattle.mg_link.specs.Chunks.{chunked}
use Rattle.mg_server.proofs.Chunking.{chunked_full, chunked_none, chunked_short}
use Rattle.mg_chunks.specs.Sizes.{chunk_count, chunk_length}
use Rattle.mg_records.specs.FileRecords.{FileRecord}
use Rattle.mg_gridfs.specs.DownloadLaws.{AllReceived, AreSized, CutsAsSized}
use Rattle.mg_gridfs.specs.Downloads.{received}
use Rattle.mg_gridfs.proofs.Counting.{full_one, short_one}

-- ---- so many full chunks, and a rest

-- pieces as long as they are to be, from this number on
abbrev AreLong : (full rest size : ℕ) → ℕ → List (List ℕ) → Type 0
AreLong full rest size n [] = Unit {0}
AreLong full rest size n (c ∷ cs) = (length c ≡ (if suc n == full + min 1 rest && not (rest == 0) then rest else size)) × AreLong full rest size (suc n) cs

as_long : (f : FileRecord) (n : ℕ) (chunks : List (List ℕ)) → AreSized f n chunks → AreLong (f.length / f.chunk_size) (f.length % f.chunk_size) f.chunk_size n chunks
as_long f n [] h = tt
as_long f n (c ∷ cs) h = (h.0, as_long f (suc n) cs h.1)

record IsCut (size long : ℕ) (chunks : List (List ℕ)) : Type 0 where
  counted : length (concat chunks) ≡ long
  cut : chunked size (concat chunks) ≡ chunks

-- what is left is one chunk
last_cut : (size : ℕ) (c : List ℕ) → 0 < length c → length c < size → chunked size (c ++ []) ≡ c ∷ []
last_cut size [] some lt = absurd (omega arith)
last_cut size (b ∷ bs) some lt = ap (chunked size) (append-nil (b ∷ bs)) ∙ chunked_short size (b ∷ bs) lt

-- behind the full ones
rest_cut : (full rest size n : ℕ) (chunks : List (List ℕ)) → 0 < size → rest < size → n ≡ full → AreLong full rest size n chunks → n + length chunks ≡ full + min 1 rest → IsCut size rest chunks
rest_cut full zero size n [] some lt at long many = record { counted = refl; cut = chunked_none size }
rest_cut full zero size n (c ∷ cs) some lt at long many = absurd (omega arith)
rest_cut full (suc k) size n [] some lt at long many = absurd (omega arith)
rest_cut full (suc k) size n (c ∷ d ∷ cs) some lt at long many = absurd (omega arith)
rest_cut full (suc k) size n (c ∷ []) some lt at long many =
    let next : suc n ≡ full + min 1 (suc k) = omega arith in
    let left : 0 < suc k = omega arith in
    let here : length c ≡ suc k = long.0 ∙ short_one n (full + min 1 (suc k)) (suc k) size next left in
    let there : 0 < length c = omega arith in
    let within : length c < size = omega arith in
    record { counted = ap (length {A = ℕ}) (append-nil c) ∙ here; cut = last_cut size c there within }

-- so many full ones are left
full_cut : (left full rest size n : ℕ) (chunks : List (List ℕ)) → 0 < size → rest < size → n + left ≡ full → AreLong full rest size n chunks → n + length chunks ≡ full + min 1 rest → IsCut size (left * size + rest) chunks
full_cut zero full rest size n chunks some lt at long many =
    let here : n ≡ full = omega arith in
    let h = rest_cut full rest size n chunks some lt here long many in
    let none : rest ≡ zero * size + rest = omega arith in
    record { counted = h.counted ∙ none; cut = h.cut }
full_cut (suc left) full rest size n [] some lt at long many = absurd (omega arith)
full_cut (suc left) full rest size n (c ∷ cs) some lt at long many =
    let before : n < full = omega arith in
    let here : length c ≡ size = long.0 ∙ full_one n full rest size before in
    let next : suc n + left ≡ full = omega arith in
    let others : suc n + length cs ≡ full + min 1 rest = omega arith in
    let h = full_cut left full rest size (suc n) cs some lt next long.1 others in
    let known = h.counted in
    let parts = length-append c (concat cs) in
    let more : suc left * size ≡ size + left * size = omega arith in
    let counted : length (c ++ concat cs) ≡ suc left * size + rest = omega arith in
    record { counted = counted; cut = chunked_full size c (concat cs) some here ∙ ap (λ (l : List (List ℕ)). c ∷ l) h.cut }

pub cuts_as_sized : CutsAsSized
cuts_as_sized f chunks some sized many =
    let e : f.length / f.chunk_size * f.chunk_size + f.length % f.chunk_size ≡ f.length = div-add-mod' f.length f.chunk_size in
    let below : f.length % f.chunk_size < f.chunk_size = mod_below f.length f.chunk_size some in
    let start : 0 + f.length / f.chunk_size ≡ f.length / f.chunk_size = omega arith in
    let all : 0 + length chunks ≡ f.length / f.chunk_size + min 1 (f.length % f.chunk_size) = (let none : 0 + length chunks ≡ length chunks = omega arith in none ∙ many) in
    let h = full_cut (f.length / f.chunk_size) (f.length / f.chunk_size) (f.length % f.chunk_size) f.chunk_size 0 chunks some below start (as_long f 0 chunks sized) all in
    (h.counted ∙ e, h.cut)

-- ---- how many bytes so many chunks have

-- full ones
received_full : (f : FileRecord) (n : ℕ) → n ≤ f.length / f.chunk_size → received f n ≡ n * f.chunk_size
received_full f zero le = omega arith
received_full f (suc n) le =
    let before : n < f.length / f.chunk_size = omega arith in
    let less : n ≤ f.length / f.chunk_size = omega arith in
    let known = received_full f n less in
    let here : chunk_length f.length f.chunk_size n ≡ f.chunk_size = full_one n (f.length / f.chunk_size) (f.length % f.chunk_size) f.chunk_size before in
    let more : suc n * f.chunk_size ≡ f.chunk_size + n * f.chunk_size = omega arith in
    let sum : received f n + chunk_length f.length f.chunk_size n ≡ suc n * f.chunk_size = omega arith in
    sum

-- and the rest, where there is one
all_by : (f : FileRecord) (rest : ℕ) → f.length % f.chunk_size ≡ rest → received f (chunk_count f.length f.chunk_size) ≡ f.length / f.chunk_size * f.chunk_size + rest
all_by f zero is =
    let same : f.length / f.chunk_size ≤ f.length / f.chunk_size = omega arith in
    let count : f.length / f.chunk_size + min 1 (f.length % f.chunk_size) ≡ f.length / f.chunk_size = omega arith in
    let none : f.length / f.chunk_size * f.chunk_size ≡ f.length / f.chunk_size * f.chunk_size + 0 = omega arith in
    ap (received f) count ∙ received_full f (f.length / f.chunk_size) same ∙ none
all_by f (suc k) is =
    let same : f.length / f.chunk_size ≤ f.length / f.chunk_size = omega arith in
    let known = received_full f (f.length / f.chunk_size) same in
    let count : f.length / f.chunk_size + min 1 (f.length % f.chunk_size) ≡ suc (f.length / f.chunk_size) = omega arith in
    let some : 0 < f.length % f.chunk_size = omega arith in
    let here : chunk_length f.length f.chunk_size (f.length / f.chunk_size) ≡ f.length % f.chunk_size = short_one (f.length / f.chunk_size) (f.length / f.chunk_size + min 1 (f.length % f.chunk_size)) (f.length % f.chunk_size) f.chunk_size (sym count) some in
    let sum : received f (f.length / f.chunk_size) + chunk_length f.length f.chunk_size (f.length / f.chunk_size) ≡ f.length / f.chunk_size * f.chunk_size + suc k = omega arith in
    ap (received f) count ∙ sum

pub all_received : AllReceived
all_received f some = all_by f (f.length % f.chunk_size) refl ∙ div-add-mod' f.length f.chunk_size
