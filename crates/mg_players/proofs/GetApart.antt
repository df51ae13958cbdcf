-- The errors of chunks that are not what their record says are apart from that of too many empty batches.
use Rattle.std.proofs.Common.{◌≡◌, ℕ, suc, ℤ, pos, Bool, true, false, List, length, Option, Some, None, Result, Ok, Err, subst}
use Rattle.std.specs.Prelude.{◌==◌, codes, if◌then◌else◌}
use Rattle.std.specs.Ordering.{int_eq}
use Rattle.mg_bson.specs.Find.{as_document}
use Rattle.mg_bson.specs.Tree.{Fields, Items, item, no_items}
use Rattle.mg_link.specs.Numbers.{number_at}
use Rattle.mg_link.specs.declared.error.Error.{Error}
use Rattle.mg_link.specs.declared.error.ErrorKind.TheVariants as kind
use Rattle.mg_link.specs.declared.error.GridFsErrorKind.TheVariants as grid
use Rattle.mg_link.specs.declared.error.Malformed.{Malformed}
use Rattle.mg_link.specs.declared.error.Malformed.TheVariants as malformed
use Rattle.mg_cursor.specs.Batches.{NoBatchIn}
use Rattle.mg_chunks.specs.Sizes.{chunk_length_of}
use Rattle.mg_chunks.specs.Chunks.{all_judged, and_then, data_of, judged, missing_chunk, needed_as, numbered_as, sized_as, wrong_size}
use Rattle.mg_records.specs.FileRecords.{FileRecord}
use Rattle.mg_gridfs.specs.Downloads.{sizes_of}

-- if a result is an error, it is another
abbrev IsApart : {A : Type 0} → Result A Error → Type 0
IsApart (Ok x) = Unit {0}
IsApart (Err e) = e.kind ≡ kind.EmptyBatches → ⊥

malformed_apart : (how : Malformed) → kind.InvalidResponse how ≡ kind.EmptyBatches → ⊥
malformed_apart how same = cc

pub missing_apart : (n : ℕ) → (missing_chunk n).kind ≡ kind.EmptyBatches → ⊥
missing_apart n same = let bad : kind.GridFs (grid.MissingChunk n) ≡ kind.EmptyBatches = same in cc

size_apart : (n actual expected : ℕ) → (wrong_size n actual expected).kind ≡ kind.EmptyBatches → ⊥
size_apart n actual expected same = let bad : kind.GridFs (grid.WrongSizeChunk n actual expected) ≡ kind.EmptyBatches = same in cc

needed_apart : {A : Type 0} (how : Malformed) (o : Option A) → IsApart (needed_as how o)
needed_apart how (Some x) = tt
needed_apart how None = malformed_apart how

then_apart : {A B : Type 0} (r : Result A Error) (f : A → Result B Error) → IsApart r → ((x : A) → IsApart (f x)) → IsApart (and_then r f)
then_apart (Ok x) f first each = each x
then_apart (Err e) f first each = first

if_apart : {A : Type 0} (b : Bool) (x y : Result A Error) → IsApart x → IsApart y → IsApart (if b then x else y)
if_apart true x y first second = first
if_apart false x y first second = second

sized_apart : (n : ℕ) (bytes : List ℕ) (expected : Result ℕ Malformed) → IsApart (sized_as n bytes expected)
sized_apart n bytes (Ok expected) = if_apart (length bytes == expected) (Ok bytes) (Err (wrong_size n (length bytes) expected)) tt (size_apart n (length bytes) expected)
sized_apart n bytes (Err how) = malformed_apart how

number_apart : (f : FileRecord) (n : ℕ) (number : ℤ) (bytes : List ℕ) → IsApart (numbered_as (sizes_of f) n number bytes)
number_apart f n number bytes = if_apart (int_eq number (pos n)) (sized_as n bytes (chunk_length_of f.length f.chunk_size n)) (Err (missing_chunk n)) (sized_apart n bytes (chunk_length_of f.length f.chunk_size n)) (missing_apart n)

chunk_apart : (f : FileRecord) (n : ℕ) (d : Fields) → IsApart (judged (sizes_of f) n d)
chunk_apart f n d =
    then_apart (needed_as malformed.BadChunk (number_at (codes "n") d)) _ (needed_apart malformed.BadChunk (number_at (codes "n") d)) (λ number. then_apart (needed_as malformed.BadChunk (data_of d)) _ (needed_apart malformed.BadChunk (data_of d)) (λ bytes. number_apart f n number bytes))

all_apart : (f : FileRecord) (n : ℕ) (batch : Items) → IsApart (all_judged (sizes_of f) n batch)
all_apart f n no_items = tt
all_apart f n (item t ts) =
    then_apart (needed_as malformed.BadItem (as_document t)) _ (needed_apart malformed.BadItem (as_document t)) (λ d. then_apart (judged (sizes_of f) n d) _ (chunk_apart f n d) (λ bytes. then_apart (all_judged (sizes_of f) (suc n) ts) _ (all_apart f (suc n) ts) (λ more. tt)))

-- so is that of a batch whose items are judged, and that of a reply without one
pub items_apart : (f : FileRecord) (n : ℕ) (batch : Items) (e : Error) → all_judged (sizes_of f) n batch ≡ Err e → e.kind ≡ kind.EmptyBatches → ⊥
items_apart f n batch e bad = subst (λ (r : Result (List (List ℕ)) Error). IsApart r) bad (all_apart f n batch)

pub none_apart : (said : Fields) (e : Error) → NoBatchIn said e → e.kind ≡ kind.EmptyBatches → ⊥
none_apart said e none same = malformed_apart none.how (subst (λ (x : Error). x.kind ≡ kind.EmptyBatches) none.error same)
