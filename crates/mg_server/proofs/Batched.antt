-- Batches of queries are as full as their size and their bytes allow.
use Rattle.std.proofs.Common.{◌≡◌, ◌⊎◌, ℕ, zero, suc, ◌+◌, ◌-◌, ◌<◌, ◌≤◌, Bool, true, List, [], ◌∷◌, ◌++◌, length, take, refl, sym, ap, subst, inl, inr, arith, length-append}
use Rattle.std.specs.Prelude.{if◌then◌else◌}
use Rattle.std.proofs.lemmas.Bool.{cases_lt, lt-ltb, le-ltb}
use Rattle.mg_bson.specs.Tree.{Fields}
use Rattle.mg_bson.specs.Bytes.{bytes, fields_bytes, framed, le32}
use Rattle.mg_server.specs.Rules.{IsFull, batch_of_query, bytes_of, held_in, max_batch}

framed_some : (body : List ℕ) → 1 ≤ length (framed body)
framed_some body = omega (arith, length-append (le32 (length body + 5)) (body ++ 0 ∷ []), length-append body (0 ∷ []))

pub some_bytes : (d : Fields) → 1 ≤ length (bytes d)
some_bytes d = framed_some (fields_bytes d)

-- what a batch holds behind its first document
record Goes (size room n : ℕ) (ds : List Fields) : Type 0 where
  within : (n ≤ size) × (n ≤ length ds)
  fits : bytes_of (take n ds) ≤ room
  full : n < size → n < length ds → room < bytes_of (take (suc n) ds)

goes_on : (size room : ℕ) (ds : List Fields) → Goes size room (held_in size room true ds) ds
goes_on zero room ds = record { within = (omega arith, omega arith); fits = omega arith; full = λ a b. absurd (omega arith) }
goes_on (suc size) room [] = record { within = (omega arith, omega arith); fits = omega arith; full = λ a b. absurd (omega arith) }
goes_on (suc size) room (d ∷ ds) =
    elim (cases_lt room (length (bytes d))) [
      | inl small ↦
          subst (λ (b : Bool). Goes (suc size) room (if b then 0 else suc (held_in size (room - length (bytes d)) true ds)) (d ∷ ds)) (sym (lt-ltb room (length (bytes d)) small))
          (record { within = (omega arith, omega arith); fits = omega arith; full = λ a b. omega arith })
      | inr enough ↦
          let rest = goes_on size (room - length (bytes d)) ds in
          let a = rest.within.0 in
          let b = rest.within.1 in
          let c = rest.fits in
          subst (λ (b : Bool). Goes (suc size) room (if b then 0 else suc (held_in size (room - length (bytes d)) true ds)) (d ∷ ds)) (sym (le-ltb room (length (bytes d)) enough))
          (record { within = (omega arith, omega arith); fits = omega arith; full = λ short there. let e = rest.full (omega arith) (omega arith) in omega arith })
    ]

-- documents have bytes
none_held : (n : ℕ) (ds : List Fields) → n ≤ length ds → bytes_of (take n ds) ≤ 0 → n ≡ 0
none_held zero ds le none = refl
none_held (suc n) [] le none = absurd (omega arith)
none_held (suc n) (d ∷ ds) le none = let some = some_bytes d in absurd (omega arith)

first_fits : (room n : ℕ) (d : Fields) (ds : List Fields) → n ≤ length ds → bytes_of (take n ds) ≤ room - length (bytes d) → (bytes_of (take (suc n) (d ∷ ds)) ≤ room) ⊎ (suc n ≡ 1)
first_fits room n d ds le fits =
    elim (cases_lt room (length (bytes d))) [
      | inl small ↦ let none = none_held n ds le (omega arith) in inr (ap suc none)
      | inr enough ↦ inl (omega arith)
    ]

pub is_full : (size : ℕ) (ds : List Fields) → IsFull size ds (batch_of_query size ds)
is_full zero ds = record { within = (omega arith, omega arith); some = λ a b. absurd (omega arith); fits = inl (omega arith); full = λ a b. absurd (omega arith) }
is_full (suc size) [] = record { within = (omega arith, omega arith); some = λ a b. absurd (omega arith); fits = inl (omega arith); full = λ a b. absurd (omega arith) }
is_full (suc size) (d ∷ ds) =
    let rest = goes_on size (max_batch - length (bytes d)) ds in
    let a = rest.within.0 in
    let b = rest.within.1 in
    record {
      within = (omega arith, omega arith);
      some = λ x y. omega arith;
      fits = first_fits max_batch (held_in size (max_batch - length (bytes d)) true ds) d ds b rest.fits;
      full = λ short there. let e = rest.full (omega arith) (omega arith) in omega arith;
    }
