-- Bytes behind a length and before a 0.
use Rattle.std.proofs.Common.{◌≡◌, ℕ, ◌+◌, ◌-◌, ◌^◌, ◌<◌, List, [], ◌∷◌, ◌++◌, length, take, drop, get_or, Some, true, false, eqb, ltb, refl, sym, ap, ◌∙◌, arith, append_assoc, length-append}
use Rattle.std.specs.Str.{IsUtf8}
use Rattle.std.proofs.lemmas.Bool.{le-ltb, lt-ltb, eq-eqb}
use Rattle.std.proofs.lemmas.List.{take_at}
use Rattle.mg_bson.specs.Bytes.{le32, framed, text_bytes}
use Rattle.mg_bson.specs.Reading.{le32_at, body_at, text_at}
use Rattle.mg_bson.proofs.Numbers.{length-le32, le32_at-le32, drop-le32}
use Rattle.mg_bson.proofs.Cutting.{text_is}

-- what stands between a length and a last 0
length_whole : (n : ℕ) (s : List ℕ) → length (le32 n ++ (s ++ 0 ∷ [])) ≡ length s + 5
length_whole n s = omega (arith, length-append (le32 n) (s ++ 0 ∷ []), length-append s (0 ∷ []), length-le32 n)

regroup : (n : ℕ) (s : List ℕ) → le32 n ++ (s ++ 0 ∷ []) ≡ (le32 n ++ s) ++ 0 ∷ []
regroup n s = sym (append_assoc (le32 n) s (0 ∷ []))

last_is : (xs : List ℕ) (b : ℕ) → get_or (xs ++ b ∷ []) (length xs) 0 ≡ b
last_is [] b = refl
last_is (x ∷ xs) b = last_is xs b

length_front : (n : ℕ) (s : List ℕ) → length (le32 n ++ s) ≡ length (le32 n ++ (s ++ 0 ∷ [])) - 1
length_front n s = omega (arith, length_whole n s, length-append (le32 n) s, length-le32 n)

pub last-whole : (n : ℕ) (s : List ℕ) → get_or (le32 n ++ (s ++ 0 ∷ [])) (length (le32 n ++ (s ++ 0 ∷ [])) - 1) 0 ≡ 0
last-whole n s = rw (← length_front n s, regroup n s) (last_is (le32 n ++ s) 0)

pub inner-whole : (n : ℕ) (s : List ℕ) → drop 4 (take (length (le32 n ++ (s ++ 0 ∷ [])) - 1) (le32 n ++ (s ++ 0 ∷ []))) ≡ s
inner-whole n s =
    let front : take (length (le32 n ++ (s ++ 0 ∷ [])) - 1) ((le32 n ++ s) ++ 0 ∷ []) ≡ le32 n ++ s = take_at (le32 n ++ s) (0 ∷ []) _ (length_front n s) in
    ap (λ (xs : List ℕ). drop 4 (take (length (le32 n ++ (s ++ 0 ∷ [])) - 1) xs)) (regroup n s) ∙ ap (drop 4) front ∙ drop-le32 n s

pub body_at-framed : (body : List ℕ) → length body + 5 < 2 ^ 31 → body_at (framed body) ≡ Some body
unfolding body_at
body_at-framed body lt =
    let n = length body + 5 in
    let bs = le32 n ++ (body ++ 0 ∷ []) in
    let len = length_whole n body in
    let long : ltb (length bs) 5 ≡ false = le-ltb _ _ (omega arith) in
    let short : ltb (length bs) (2 ^ 31) ≡ true = lt-ltb _ _ (omega (arith, len)) in
    let same : eqb (le32_at bs) (length bs) ≡ true = eq-eqb _ _ (le32_at-le32 n (body ++ 0 ∷ []) (omega arith) ∙ sym len) in
    let last : eqb (get_or bs (length bs - 1) 0) 0 ≡ true = eq-eqb _ _ (last-whole n body) in
    rw (long, short, same, last, inner-whole n body) refl

pub text_at-text : (s : List ℕ) → IsUtf8 s → length s + 5 < 2 ^ 32 → text_at (text_bytes s) ≡ Some s
unfolding text_at
text_at-text s h lt =
    let n = length s + 1 in
    let bs = le32 n ++ (s ++ 0 ∷ []) in
    let len = length_whole n s in
    let long : ltb (length bs) 5 ≡ false = le-ltb _ _ (omega arith) in
    let same : eqb (le32_at bs + 4) (length bs) ≡ true = eq-eqb _ _ (omega (arith, le32_at-le32 n (s ++ 0 ∷ []) (omega arith), len)) in
    let last : eqb (get_or bs (length bs - 1) 0) 0 ≡ true = eq-eqb _ _ (last-whole n s) in
    rw (long, same, last, inner-whole n s) (text_is s h)
