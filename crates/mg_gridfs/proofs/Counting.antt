-- How many chunks a file has, and how long each is.
use Rattle.std.proofs.Common.{◌≡◌, ◌<◌, ◌≤◌, ◌+◌, ◌*◌, ◌/◌, ◌%◌, ℕ, zero, suc, min, Bool, true, false, List, [], ◌∷◌, ◌++◌, length, take, drop, Some, refl, sym, ap, ap₂, ◌∙◌, inl, inr, arith, div-add-mod', length-append, length-drop}
use Rattle.std.specs.Prelude.{◌&&◌, ◌==◌, if◌then◌else◌, not, slice_get}
use Rattle.std.proofs.lemmas.Bool.{eq-eqb, ne_eqb}
use Rattle.std.proofs.lemmas.List.{length-take-le, take-append-drop}
use Rattle.std.proofs.lemmas.Nat.{mod_below}
use Rattle.mg_link.specs.Chunks.{chunked, last_chunk}
use Rattle.mg_server.proofs.Chunking.{chunked-append, chunked_full, chunked_none, chunked_short, length-chunked}
use Rattle.mg_server.proofs.Owners.{same_some}
use Rattle.mg_link.proofs.Places.{get_joined, get_within}
use Rattle.mg_gridfs.specs.Laws.{CutsAsCounted}

-- what is left makes one chunk, or none
last_many : (bs : List ℕ) → length (last_chunk bs) ≡ min 1 (length bs)
last_many [] = omega arith
last_many (b ∷ bs) = let e : min 1 (suc (length bs)) ≡ 1 = omega arith in sym e

last_at : (bs : List ℕ) (j : ℕ) (c : List ℕ) → slice_get (last_chunk bs) j ≡ Some c → (j ≡ 0) × (c ≡ bs) × (0 < length bs)
last_at [] j c h = absurd cc
last_at (b ∷ bs) zero c h = (refl, sym (same_some (b ∷ bs) c h), omega arith)
last_at (b ∷ bs) (suc j) c h = absurd cc

-- of full chunks each has the size
full_each : (q size : ℕ) (a : List ℕ) (n : ℕ) (c : List ℕ) → 0 < size → length a ≡ q * size → slice_get (chunked size a) n ≡ Some c → length c ≡ size
full_each zero size [] n c lt e h = let bad : slice_get [] n ≡ Some c = ap (λ (l : List (List ℕ)). slice_get l n) (sym (chunked_none size)) ∙ h in absurd cc
full_each zero size (x ∷ a) n c lt e h = absurd (omega arith)
full_each (suc q) size a n c lt e h =
    let more : suc q * size ≡ size + q * size = omega arith in
    let long : size ≤ length a = omega (arith, e, more) in
    let whole = take-append-drop size a in
    let full = length-take-le size a long in
    let cut_is : chunked size a ≡ take size a ∷ chunked size (drop size a) = ap (λ (l : List ℕ). chunked size l) (sym whole) ∙ chunked_full size (take size a) (drop size a) lt full in
    let left : length (drop size a) ≡ q * size = omega (arith, length-drop size a, more) in
    by_place full (λ m there. full_each q size (drop size a) m c lt left there) n (ap (λ (l : List (List ℕ)). slice_get l n) (sym cut_is) ∙ h)
  where
    by_place : length (take size a) ≡ size → ((m : ℕ) → slice_get (chunked size (drop size a)) m ≡ Some c → length c ≡ size) → (m : ℕ) → slice_get (take size a ∷ chunked size (drop size a)) m ≡ Some c → length c ≡ size
    by_place full behind zero there = ap length (sym (same_some (take size a) c there)) ∙ full
    by_place full behind (suc m) there = behind m there

-- the last chunk has the rest
pub short_one : (n count r size : ℕ) → suc n ≡ count → 0 < r → (if suc n == count && not (r == 0) then r else size) ≡ r
short_one n count r size is some = ap₂ (λ (s t : Bool). if s && not t then r else size) (eq-eqb (suc n) count is) (ne_eqb r 0 (λ e. omega arith))

-- one before it is full, and so is each where no rest is left
pub full_one : (n q r size : ℕ) → n < q → (if suc n == q + min 1 r && not (r == 0) then r else size) ≡ size
full_one n q zero size lt = elim (suc n == q + min 1 0) as (λ s. (if s && not (0 == 0) then 0 else size) ≡ size) [ true ↦ refl | false ↦ refl ]
full_one n q (suc r) size lt = ap (λ (s : Bool). if s && not (suc r == 0) then suc r else size) (ne_eqb (suc n) (q + min 1 (suc r)) (λ e. omega arith))

pub cuts_are_counted : (size : ℕ) (bytes : List ℕ) → 0 < size → CutsAsCounted size bytes
cuts_are_counted size bytes some =
    let q = length bytes / size in
    let r = length bytes % size in
    let e : q * size + r ≡ length bytes = div-add-mod' (length bytes) size in
    let below : r < size = mod_below (length bytes) size some in
    let first = take (q * size) bytes in
    let rest = drop (q * size) bytes in
    let even : length first ≡ q * size = length-take-le (q * size) bytes (omega (arith, e)) in
    let left : length rest ≡ r = omega (arith, length-drop (q * size) bytes, e) in
    let cut_is : chunked size bytes ≡ chunked size first ++ last_chunk rest =
    ap (λ (l : List ℕ). chunked size l) (sym (take-append-drop (q * size) bytes)) ∙ chunked-append q size first rest some even ∙ ap (λ (l : List (List ℕ)). chunked size first ++ l) (chunked_short size rest (omega arith)) in
    let as_many : length (chunked size first) ≡ q = length-chunked q size first some even in
    record {
      count = ap length cut_is ∙ length-append (chunked size first) (last_chunk rest) ∙ ap₂ (λ (m n : ℕ). m + n) as_many (last_many rest ∙ ap (λ (n : ℕ). min 1 n) left);
      each = λ n chunk there. elim (get_joined (chunked size first) (last_chunk rest) n chunk (ap (λ (l : List (List ℕ)). slice_get l n) (sym cut_is) ∙ there)) [
        | inl full ↦
            let within = get_within (chunked size first) n chunk full in
            full_each q size first n chunk some even full ∙ sym (full_one n q r size (omega arith))
        | inr at ↦
            let last_one = last_at rest at.0 chunk at.2 in
            let place = at.1 in
            let none_before = last_one.0 in
            let some_left = last_one.2 in
            let some_rest : 0 < r = omega arith in
            let one : min 1 r ≡ 1 = omega arith in
            ap length last_one.1 ∙ left ∙ sym (short_one n (q + min 1 r) r size (omega arith) some_rest)
      ];
    }
