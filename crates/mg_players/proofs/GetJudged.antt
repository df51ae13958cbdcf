-- What the record of a whole file says, and that each of its chunks is in order by it.
use Rattle.std.proofs.Common.{◌≡◌, ◌<◌, ◌++◌, ◌+◌, ℕ, ℤ, zero, suc, pos, Bool, true, false, List, [], ◌∷◌, length, Option, Some, None, Result, Ok, Err, refl, sym, ap, ◌∙◌, subst, arith, option_map}
use Rattle.std.specs.Prelude.{◌==◌, ◌^◌, codes, if◌then◌else◌, ltb, option_and_then}
use Rattle.std.proofs.lemmas.Bool.Decides.{Decides-int_eq}
use Rattle.std.proofs.lemmas.Bool.{eq-eqb}
use Rattle.mg_bson.specs.Find.{as_binary, as_date_time, as_document, as_int32, as_string, get}
use Rattle.mg_bson.specs.Reading.{◌>>=◌}
use Rattle.mg_bson.specs.Tree.{Fields, Tree}
use Rattle.mg_link.specs.Numbers.{as_count, as_integer, count_of, number_at}
use Rattle.mg_server.specs.Files.{AreChunks, Bucket, IsChunk, IsWhole, file_of, files_space, has_value}
use Rattle.mg_server.specs.Filter.{meets}
use Rattle.mg_server.specs.State.{State}
use Rattle.mg_server.specs.Step.{documents_of}
use Rattle.mg_link.specs.declared.error.Malformed.{Malformed}
use Rattle.mg_link.specs.declared.error.Malformed.TheVariants as malformed
use Rattle.mg_server.proofs.Owners.{same_some}
use Rattle.mg_chunks.specs.Sizes.{chunk_count, chunk_count_of, chunk_length, chunk_length_of, counted, where_counted}
use Rattle.mg_records.specs.FileRecords.{FileRecord, Numbers, file_fields, file_numbers, file_record_of, small_count, with_chunks}
use Rattle.mg_records.specs.Readings.{any_value, needed, optional}
use Rattle.mg_chunks.specs.Chunks.{and_then, data_of, judged, missing_chunk, needed_as, numbered_as, of_subtype_0, sized_as, wrong_size}
use Rattle.mg_gridfs.specs.Downloads.{sizes_of}
use Rattle.mg_gridfs.specs.Laws.{CutsAsCounted}
use Rattle.mg_gridfs.proofs.Counting.{cuts_are_counted}
use Rattle.mg_gridfs.proofs.OneFile.{first_meets, one_file, same_key}

-- ---- the record

-- the numbers and the record that are read, field by field
abbrev numbers_from : Option ℕ → Option ℕ → Option ℤ → Option Numbers
numbers_from length chunk_size upload_date = length
    >>= λ length. chunk_size
    >>= λ chunk_size. upload_date
    >>= λ upload_date. Some (record { length = length; chunk_size = chunk_size; upload_date = upload_date })

abbrev record_from : Option Numbers → Option (Option (List ℕ)) → Option (Option Fields) → Option Tree → Option FileRecord
record_from numbers filename metadata id = numbers
    >>= λ numbers. filename
    >>= λ filename. metadata
    >>= λ metadata. id
    >>= λ id. Some (record { id = id; length = numbers.length; chunk_size = numbers.chunk_size; upload_date = numbers.upload_date; filename = filename; metadata = metadata })

record NumbersSay (o : Option Numbers) (i : Option Tree) (f : FileRecord) : Type 0 where
  numbers : Numbers
  are : o ≡ Some numbers
  id_is : i ≡ Some f.id
  length_is : numbers.length ≡ f.length
  size_is : numbers.chunk_size ≡ f.chunk_size

record_says : (numbers : Option Numbers) (filename : Option (Option (List ℕ))) (metadata : Option (Option Fields)) (id : Option Tree) (f : FileRecord) → record_from numbers filename metadata id ≡ Some f → NumbersSay numbers id f
record_says None filename metadata id f h = absurd cc
record_says (Some n) None metadata id f h = absurd cc
record_says (Some n) (Some name) None id f h = absurd cc
record_says (Some n) (Some name) (Some meta) None f h = absurd cc
record_says (Some n) (Some name) (Some meta) (Some id) f h =
    let made : FileRecord = record { id = id; length = n.length; chunk_size = n.chunk_size; upload_date = n.upload_date; filename = name; metadata = meta } in
    let same : made ≡ f = same_some made f h in
    record { numbers = n; are = refl; id_is = ap (λ (g : FileRecord). Some g.id) same; length_is = ap (λ (g : FileRecord). g.length) same; size_is = ap (λ (g : FileRecord). g.chunk_size) same }

record SizesSay (l s : Option ℕ) (n : Numbers) : Type 0 where
  length_is : l ≡ Some n.length
  size_is : s ≡ Some n.chunk_size

numbers_say : (l s : Option ℕ) (upload_date : Option ℤ) (n : Numbers) → numbers_from l s upload_date ≡ Some n → SizesSay l s n
numbers_say None s date n h = absurd cc
numbers_say (Some l) None date n h = absurd cc
numbers_say (Some l) (Some s) None n h = absurd cc
numbers_say (Some l) (Some s) (Some date) n h =
    let made : Numbers = record { length = l; chunk_size = s; upload_date = date } in
    let same : made ≡ n = same_some made n h in
    record { length_is = ap (λ (m : Numbers). Some m.length) same; size_is = ap (λ (m : Numbers). Some m.chunk_size) same }

-- it is read, and has chunks of some bytes
record IsKept (o : Option FileRecord) (f : FileRecord) : Type 0 where
  same : o ≡ Some f
  some : 0 < f.chunk_size

some_of : (n : ℕ) → (n == 0) ≡ false → 0 < n
some_of zero is = absurd cc
some_of (suc n) is = omega arith

kept_of : (o : Option FileRecord) (f : FileRecord) → with_chunks o ≡ Ok f → IsKept o f
kept_of None f h = absurd cc
kept_of (Some g) f h = by_size (g.chunk_size == 0) refl h
  where
    same_ok : (x y : FileRecord) → ◌≡◌ {A = Result FileRecord Malformed} (Ok x) (Ok y) → x ≡ y
    same_ok x y e = cc

    by_size : (t : Bool) → (g.chunk_size == 0) ≡ t → (if t then Err malformed.ChunkSizeZero else Ok g) ≡ Ok f → IsKept (Some g) f
    by_size true is e = absurd cc
    by_size false is e = let same = same_ok g f e in record { same = ap Some same; some = subst (λ (x : FileRecord). 0 < x.chunk_size) same (some_of g.chunk_size is) }

-- what a record that is read says
pub record RecordSays (d : Fields) (f : FileRecord) : Type 0 where
  pub id_is : get (codes "_id") d ≡ Some f.id
  pub length_is : needed count_of (codes "length") d ≡ Some f.length
  pub size_is : needed small_count (codes "chunkSize") d ≡ Some f.chunk_size
  pub some : 0 < f.chunk_size

pub record_is : (d : Fields) (f : FileRecord) → file_record_of d ≡ Ok f → RecordSays d f
record_is d f h =
    let kept = kept_of (file_fields d) f h in
    let r = record_says (file_numbers d) (optional as_string (codes "filename") d) (optional as_document (codes "metadata") d) (needed any_value (codes "_id") d) f kept.same in
    let n = numbers_say (needed count_of (codes "length") d) (needed small_count (codes "chunkSize") d) (needed as_date_time (codes "uploadDate") d) r.numbers r.are in
    record {
      id_is = by_value (get (codes "_id") d) r.id_is;
      length_is = n.length_is ∙ ap Some r.length_is;
      size_is = n.size_is ∙ ap Some r.size_is;
      some = kept.some;
    }
  where
    by_value : (o : Option Tree) → option_and_then any_value o ≡ Some f.id → o ≡ Some f.id
    by_value None e = absurd cc
    by_value (Some t) e = e

-- ---- a file that is whole

length_read : (d : Fields) (n m : ℕ) → option_and_then as_integer (get (codes "length") d) ≡ Some (pos n) → needed count_of (codes "length") d ≡ Some m → n ≡ m
length_read d n m is says = same_some n m (sym (by_value (get (codes "length") d) is) ∙ says)
  where
    by_value : (o : Option Tree) → option_and_then as_integer o ≡ Some (pos n) → option_and_then count_of o ≡ Some n
    by_value None e = absurd cc
    by_value (Some t) e = ap (option_and_then as_count) e

size_read : (d : Fields) (n m : ℕ) → number_at (codes "chunkSize") d ≡ Some (pos n) → needed small_count (codes "chunkSize") d ≡ Some m → n ≡ m
size_read d n m is says = same_some n m (sym (by_value (get (codes "chunkSize") d) is) ∙ says)
  where
    by_value : (o : Option Tree) → option_and_then as_int32 o ≡ Some (pos n) → option_and_then small_count o ≡ Some n
    by_value None e = absurd cc
    by_value (Some t) e = ap (λ (z : Option ℤ). z >>= as_count) e

-- the sizes of its record are its own, and both ids have its file
pub record WholeSays (s : State) (at : Bucket) (id : Tree) (whole : List ℕ) (size : ℕ) (f : FileRecord) : Type 0 where
  pub length_is : length whole ≡ f.length
  pub size_is : size ≡ f.chunk_size
  pub some : 0 < f.chunk_size
  pub one : (t : State) → file_of t at f.id ≡ file_of t at id

record_meets : (s : State) (at : Bucket) (id : Tree) (first : Fields) (rest : List Fields) → (file_of s at id).records ≡ first ∷ rest → meets (has_value (codes "_id") id) first ≡ true
unfolding file_of
record_meets s at id first rest is = first_meets (has_value (codes "_id") id) (documents_of s (files_space at)) first rest is

pub whole_says : (s : State) (at : Bucket) (id : Tree) (whole : List ℕ) (size : ℕ) (f : FileRecord) (w : IsWhole s at id whole size) → file_record_of w.record_of ≡ Ok f → WholeSays s at id whole size f
whole_says s at id whole size f w read =
    let says = record_is w.record_of f read in
    let key = same_key (codes "_id") id f.id w.record_of says.id_is (record_meets s at id w.record_of [] w.alone) in
    record {
      length_is = length_read w.record_of (length whole) f.length w.length_is says.length_is;
      size_is = size_read w.record_of size f.chunk_size w.size_is says.size_is;
      some = says.some;
      one = λ t. one_file f.id id (sym key) t at;
    }

-- so are its chunks as many and as long as its record says
pub whole_counts : (whole : List ℕ) (size : ℕ) (f : FileRecord) → length whole ≡ f.length → size ≡ f.chunk_size → 0 < f.chunk_size → CutsAsCounted size whole
whole_counts whole size f long same some = cuts_are_counted size whole (subst (λ (n : ℕ). 0 < n) (sym same) some)

-- ---- a chunk

sized_fine : (n : ℕ) (b : List ℕ) (expected : ℕ) → length b ≡ expected → sized_as n b (Ok expected) ≡ Ok b
sized_fine n b expected is = ap (λ (t : Bool). if t then Ok b else Err (wrong_size n (length b) expected)) (eq-eqb (length b) expected is)

numbered_fine : (f : FileRecord) (n : ℕ) (b : List ℕ) (expected : ℕ) → chunk_length_of f.length f.chunk_size n ≡ Ok expected → length b ≡ expected → numbered_as (sizes_of f) n (pos n) b ≡ Ok b
numbered_fine f n b expected says is =
    ap (λ (t : Bool). if t then sized_as n b (chunk_length_of f.length f.chunk_size n) else Err (missing_chunk n)) ((Decides-int_eq (pos n) (pos n)).1 refl) ∙ ap (sized_as n b) says ∙ sized_fine n b expected is

pub chunk_fine : (f : FileRecord) (n : ℕ) (b : List ℕ) (d : Fields) (count : ℕ) → IsChunk n b d → chunk_count_of f.length f.chunk_size ≡ Ok count → length b ≡ chunk_length f.length f.chunk_size n → judged (sizes_of f) n d ≡ Ok b
chunk_fine f n b d count is counts long =
    let holds_it : data_of d ≡ Some b = ap (λ (o : Option Tree). option_and_then of_subtype_0 (option_and_then as_binary o)) is.data_is in
    ap (λ o. and_then (needed_as malformed.BadChunk o) (λ number. and_then (needed_as malformed.BadChunk (data_of d)) (numbered_as (sizes_of f) n number))) is.number_is
    ∙ ap (λ o. and_then (needed_as malformed.BadChunk o) (numbered_as (sizes_of f) n (pos n))) holds_it
    ∙ numbered_fine f n b (chunk_length f.length f.chunk_size n) (ap (λ r. where_counted r (chunk_length f.length f.chunk_size n)) counts) long

-- ---- chunks, one behind another

pub record IsPaired {A : Type 0} (first : Option A) (rest : Option (List A)) (xs : List A) : Type 0 where
  pub x : A
  pub more : List A
  pub first_is : first ≡ Some x
  pub rest_is : rest ≡ Some more
  pub these : x ∷ more ≡ xs

pub paired : {A : Type 0} (first : Option A) (rest : Option (List A)) (xs : List A) → option_and_then (λ (x : A). option_map (λ (l : List A). x ∷ l) rest) first ≡ Some xs → IsPaired first rest xs
paired None rest xs h = absurd cc
paired (Some x) None xs h = absurd cc
paired {A} (Some x) (Some more) xs h = record { x = x; more = more; first_is = refl; rest_is = refl; these = same_some (x ∷ more) xs h }

-- chunks and what is behind them, cut at the same place
pub record AreCut (cut : List (List ℕ)) (xs ys : List Fields) : Type 0 where
  pub before : List (List ℕ)
  pub rest : List (List ℕ)
  pub these : cut ≡ before ++ rest
  pub long : length before ≡ length xs
  pub are : AreChunks (length before) rest ys

cut_from : (n : ℕ) (cut : List (List ℕ)) (xs ys : List Fields) → AreChunks n cut (xs ++ ys) → (before : List (List ℕ)) × (rest : List (List ℕ)) × (cut ≡ before ++ rest) × (length before ≡ length xs) × AreChunks (n + length before) rest ys
cut_from n cut [] ys are = let same : n ≡ n + 0 = omega arith in ([], cut, refl, refl, subst (λ (m : ℕ). AreChunks m cut ys) same are)
cut_from n [] (x ∷ xs) ys are = absurd are
cut_from n (c ∷ cut) (x ∷ xs) ys are =
    let r = cut_from (suc n) cut xs ys are.1 in
    let same : suc n + length r.0 ≡ n + suc (length r.0) = omega arith in
    (c ∷ r.0, r.1, ap (λ (l : List (List ℕ)). c ∷ l) r.2, ap suc r.3, subst (λ (m : ℕ). AreChunks m r.1 ys) same r.4)

pub are_cut : (cut : List (List ℕ)) (xs ys : List Fields) → AreChunks 0 cut (xs ++ ys) → AreCut cut xs ys
are_cut cut xs ys are =
    let r = cut_from 0 cut xs ys are in
    let zero_is : 0 + length r.0 ≡ length r.0 = omega arith in
    record { before = r.0; rest = r.1; these = r.2; long = r.3; are = subst (λ (m : ℕ). AreChunks m r.1 ys) zero_is r.4 }

-- as many chunks as documents
pub chunks_many : (n : ℕ) (cut : List (List ℕ)) (ds : List Fields) → AreChunks n cut ds → length cut ≡ length ds
chunks_many n [] [] are = refl
chunks_many n [] (d ∷ ds) are = absurd are
chunks_many n (c ∷ cut) [] are = absurd are
chunks_many n (c ∷ cut) (d ∷ ds) are = ap suc (chunks_many (suc n) cut ds are.1)

-- ---- how many there are

-- a count of a record that counts its chunks
pub count_said : (long size count : ℕ) → chunk_count_of long size ≡ Ok count → count ≡ chunk_count long size
count_said long size count h = by_size (size == 0) h
  where
    by_count : (t : Bool) → (if t then Ok (chunk_count long size) else Err malformed.TooManyChunks) ≡ Ok count → count ≡ chunk_count long size
    by_count true e = same_ok count (chunk_count long size) (sym e)
      where
        same_ok : (x y : ℕ) → ◌≡◌ {A = Result ℕ Malformed} (Ok x) (Ok y) → x ≡ y
        same_ok x y e = cc
    by_count false e = absurd cc

    by_size : (t : Bool) → (if t then Err malformed.ChunkSizeZero else counted (chunk_count long size)) ≡ Ok count → count ≡ chunk_count long size
    by_size true e = absurd cc
    by_size false e = by_count (ltb (chunk_count long size) (2 ^ 32)) e
