-- Chunks as they are received (GridFS specification, "File Download").
use Rattle.std.specs.Prelude.{◌==◌, ℕ, suc, ℤ, pos, List, [], ◌∷◌, length, Option, Some, None, option_and_then, Result, Ok, Err, codes, if◌then◌else◌}
use Rattle.std.specs.Ordering.{int_eq}
use Rattle.mg_bson.specs.Find.{as_binary, as_document, get}
use Rattle.mg_bson.specs.Tree.{Fields, Items, item, no_items}
use Rattle.mg_link.specs.Errors.{plain}
use Rattle.mg_link.specs.Numbers.{number_at}
use Rattle.mg_link.specs.declared.error.Error.{Error}
use Rattle.mg_link.specs.declared.error.ErrorKind.TheVariants as kind
use Rattle.mg_link.specs.declared.error.GridFsErrorKind.TheVariants as grid
use Rattle.mg_link.specs.declared.error.Malformed.{Malformed}
use Rattle.mg_link.specs.declared.error.Malformed.TheVariants as malformed
use Rattle.mg_chunks.specs.declared.sizes.FileSizes.{FileSizes}
use Rattle.mg_chunks.specs.Broken.{broken}
use Rattle.mg_chunks.specs.Sizes.{chunk_length_of}

-- the chunk of this number is missing
abbrev pub missing_chunk : ℕ → Error
missing_chunk n = plain (kind.GridFs (grid.MissingChunk n))

-- it has another length than its record says
abbrev pub wrong_size : (n actual expected : ℕ) → Error
wrong_size n actual expected = plain (kind.GridFs (grid.WrongSizeChunk n actual expected))

-- the bytes of a binary, given with its subtype, where that is 0
abbrev pub of_subtype_0 : ℕ × List ℕ → Option (List ℕ)
of_subtype_0 b = if b.0 == 0 then Some b.1 else None

-- the bytes of a chunk: a binary of subtype 0
abbrev pub data_of : Fields → Option (List ℕ)
data_of d = option_and_then of_subtype_0 (option_and_then as_binary (get (codes "data") d))

-- one after the other, up to the first error
abbrev pub and_then : {A B : Type 0} → Result A Error → (A → Result B Error) → Result B Error
and_then (Ok x) f = f x
and_then (Err e) f = Err e

-- what has to stand there
abbrev pub needed_as : {A : Type 0} → Malformed → Option A → Result A Error
needed_as m (Some x) = Ok x
needed_as m None = Err (broken m)

-- the length is the expected one
abbrev pub sized_as : ℕ → List ℕ → Result ℕ Malformed → Result (List ℕ) Error
sized_as n bytes (Ok expected) = if length bytes == expected then Ok bytes else Err (wrong_size n (length bytes) expected)
sized_as n bytes (Err m) = Err (broken m)

-- the number is the awaited one, and then the length is the expected one
abbrev pub numbered_as : FileSizes → ℕ → ℤ → List ℕ → Result (List ℕ) Error
numbered_as f n number bytes = if int_eq number (pos n) then sized_as n bytes (chunk_length_of f.length f.chunk_size n) else Err (missing_chunk n)

-- The bytes of a chunk of the file that is to have this number, or how it differs: by its kind, then by its number, then by its length.
abbrev pub judged : FileSizes → ℕ → Fields → Result (List ℕ) Error
judged f n d = and_then (needed_as malformed.BadChunk (number_at (codes "n") d)) (λ number. and_then (needed_as malformed.BadChunk (data_of d)) (numbered_as f n number))

-- each of a batch, numbered from one on, or how the first one differs that does
abbrev pub all_judged : FileSizes → ℕ → Items → Result (List (List ℕ)) Error
all_judged f n no_items = Ok []
all_judged f n (item t ts) = and_then (needed_as malformed.BadItem (as_document t)) (λ d. and_then (judged f n d) (λ bytes. and_then (all_judged f (suc n) ts) (λ more. Ok (bytes ∷ more))))
