-- What is found of one chunk.
use Rattle.std.proofs.Common.{◌≡◌, ℕ, ℤ, pos, Bool, List, Option, Some, None, Result, Ok, Err, IfOk, refl, sym, ap, ◌∙◌}
use Rattle.std.specs.Prelude.{codes}
use Rattle.std.specs.Ordering.{int_eq}
use Rattle.mg_bson.specs.Tree.{Fields}
use Rattle.mg_link.specs.Numbers.{number_at}
use Rattle.mg_link.specs.declared.error.Error.{Error}
use Rattle.mg_link.specs.declared.error.Malformed.{Malformed}
use Rattle.mg_link.specs.declared.error.Malformed.TheVariants as malformed
use Rattle.mg_chunks.specs.declared.sizes.FileSizes.{FileSizes}
use Rattle.mg_chunks.specs.Broken.{Breaks, broken}
use Rattle.mg_chunks.specs.Chunks.{and_then, data_of, judged, needed_as, sized_as}
use Rattle.mg_chunks.specs.Judging.{judged_if, sized_if}

-- ---- its length

pub size_broken : (n : ℕ) (bytes : List ℕ) (r : Result ℕ Malformed) (e : Error) → Breaks r e → sized_as n bytes r ≡ Err e
size_broken n bytes (Err m) e is = ap (λ (x : Error). Err x) (sym is)
size_broken n bytes (Ok expected) e is = absurd is

-- ---- results

-- what holds anyhow
pub whatever : {X E : Type 0} (r : Result X E) (P : Type 0) → P → IfOk r (λ x. P)
whatever (Ok x) P h = h
whatever (Err e) P h = tt

pub only_if : {X E : Type 0} (r : Result X E) (P Q : Type 0) → (P → Q) → IfOk r (λ x. P) → IfOk r (λ x. Q)
only_if (Ok x) P Q f h = f h
only_if (Err e) P Q f h = tt

-- ---- a chunk

-- its bytes are there
pub bytes_there : (f : FileSizes) (n : ℕ) (same : Bool) (bytes : List ℕ) (o : Option (List ℕ)) → Some bytes ≡ o → judged_if f n same o ≡ sized_if f n bytes same
bytes_there f n same bytes o is = sym (ap (judged_if f n same) is)

pub bytes_missing : (f : FileSizes) (n : ℕ) (same : Bool) (o : Option (List ℕ)) → None ≡ o → judged_if f n same o ≡ Err (broken malformed.BadChunk)
bytes_missing f n same o is = sym (ap (judged_if f n same) is)

-- its number is there
abbrev judged_by : FileSizes → ℕ → Option (List ℕ) → Option ℤ → Result (List ℕ) Error
judged_by f n o number = and_then (needed_as malformed.BadChunk number) (λ z. judged_if f n (int_eq z (pos n)) o)

by_parts : (f : FileSizes) (n : ℕ) (d : Fields) → judged f n d ≡ judged_by f n (data_of d) (number_at (codes "n") d)
by_parts f n d = refl

pub number_there : (f : FileSizes) (n : ℕ) (d : Fields) (z : ℤ) (same : Bool) → Some z ≡ number_at (codes "n") d → same ≡ int_eq z (pos n) → judged f n d ≡ judged_if f n same (data_of d)
number_there f n d z same is so = by_parts f n d ∙ sym (ap (judged_by f n (data_of d)) is) ∙ ap (λ (b : Bool). judged_if f n b (data_of d)) (sym so)

pub number_missing : (f : FileSizes) (n : ℕ) (d : Fields) → None ≡ number_at (codes "n") d → judged f n d ≡ Err (broken malformed.BadChunk)
number_missing f n d is = by_parts f n d ∙ sym (ap (judged_by f n (data_of d)) is)
