-- What a download knows says what the server held.
use Rattle.std.proofs.Common.{◌≡◌, ◌≢◌, ◌⊎◌, ◌<◌, ◌≤◌, ◌++◌, ◌+◌, ◌-◌, ℕ, ℤ, zero, suc, pos, Bool, true, false, List, [], ◌∷◌, length, take, filter, Option, Some, None, Result, Ok, Err, refl, sym, ap, ◌∙◌, subst, inl, inr, arith, append_assoc, append-nil}
use Rattle.std.specs.Prelude.{◌&&◌, ◌==◌, codes, if◌then◌else◌, option_and_then, slice_get}
use Rattle.std.specs.Ordering.{int_eq}
use Rattle.std.specs.List.{concat}
use Rattle.std.proofs.lemmas.List.Folds.{concat-append}
use Rattle.mg_bson.specs.Find.{as_binary, as_date_time, as_document, as_string, get}
use Rattle.mg_bson.specs.Reading.{◌>>=◌}
use Rattle.mg_bson.specs.Tree.{Fields, Tree}
use Rattle.mg_link.specs.Numbers.{as_count, as_integer, count_of}
use Rattle.mg_link.specs.Chunks.{chunked}
use Rattle.mg_server.specs.Files.{AreChunks, Bucket, File, IsChunk, IsWhole, LeavesFile, by_number, chunks_space, file_of, files_space, has_value, with_value}
use Rattle.mg_server.specs.Filter.{Condition, matches, meets}
use Rattle.mg_server.specs.History.{IsLegal, Step, state_of}
use Rattle.mg_link.specs.Link.{Awaited}
use Rattle.mg_link.specs.Log.{Call}
use Rattle.mg_link.specs.Namespace.{Space}
use Rattle.mg_server.specs.Query.{Query, can_sort, result, sorted, through}
use Rattle.mg_server.specs.Standing.{Stands}
use Rattle.mg_server.specs.State.{State}
use Rattle.mg_server.specs.Step.{documents_of}
use Rattle.mg_link.specs.declared.error.Error.{Error}
use Rattle.mg_link.specs.declared.error.Malformed.{Malformed}
use Rattle.mg_link.specs.declared.error.Malformed.TheVariants as malformed
use Rattle.mg_server.proofs.Files.{chunks_join, quiet_stays}
use Rattle.mg_server.proofs.Owners.{same_some, state_one}
use Rattle.mg_link.proofs.Places.{get_within}
use Rattle.mg_cursor.specs.Client.{ClientCursor}
use Rattle.mg_cursor.specs.Reading.{in_reply, reader_in}
use Rattle.mg_chunks.specs.Sizes.{chunk_count_of, chunk_length_of}
use Rattle.mg_records.specs.FileRecords.{FileRecord, Numbers, file_fields, file_numbers, file_record_of, small_count, with_chunks}
use Rattle.mg_records.specs.Readings.{any_value, needed, optional}
use Rattle.mg_chunks.specs.Chunks.{and_then, data_of, judged, missing_chunk, needed_as, numbered_as, of_subtype_0, sized_as, wrong_size}
use Rattle.mg_gridfs.specs.Downloads.{ClientDownload, Doing, ended, idle, reads, sizes_of, spoiled}
use Rattle.mg_gridfs.specs.Downloaded.{AreReceived, HasAll, HasNone, IsFront, KnowsBy, KnowsChunks, KnowsRecord, chunks_query, record_query}
use Rattle.mg_gridfs.specs.DownloadLaws.{DownloadReads, DownloadReadsFile, DownloadReadsUntil, ReadsFront}
use Rattle.mg_gridfs.proofs.Fronts.{front_known, front_opened}
use Rattle.mg_gridfs.proofs.OneFile.{first_meets, one_file, same_key}

-- ---- results

and_true : (t : Bool) → (t && true) ≡ t
and_true true = refl
and_true false = refl

those_same : (c : Condition) (ds : List Fields) → filter (matches (c ∷ [])) ds ≡ filter (meets c) ds
those_same c [] = refl
those_same c (d ∷ ds) =
    ap (λ (t : Bool). if t then d ∷ filter (matches (c ∷ [])) ds else filter (matches (c ∷ [])) ds) (and_true (meets c d))
    ∙ ap (λ (l : List Fields). if meets c d then d ∷ l else l) (those_same c ds)

record_result : (s : State) (space : Space) (id : Tree) (ds : List Fields) → result s (record_query space id) ≡ Some ds → take 1 (with_value (codes "_id") id (documents_of s space)) ≡ ds
unfolding result
record_result s space id ds is =
    let c = has_value (codes "_id") id in
    ap (take 1) (sym (those_same c (documents_of s space))) ∙ same_some (take 1 (filter (matches (c ∷ [])) (documents_of s space))) ds is

sorted_so : (t : Bool) (xs ds : List Fields) → option_and_then (through []) (if t then Some xs else None) ≡ Some ds → xs ≡ ds
sorted_so true xs ds is = same_some xs ds is
sorted_so false xs ds is = absurd cc

chunks_result : (s : State) (space : Space) (id : Tree) (ds : List Fields) → result s (chunks_query space id) ≡ Some ds → sorted by_number (with_value (codes "files_id") id (documents_of s space)) ≡ ds
unfolding result
chunks_result s space id ds is =
    let c = has_value (codes "files_id") id in
    let xs = filter (matches (c ∷ [])) (documents_of s space) in
    ap (sorted by_number) (sym (those_same c (documents_of s space))) ∙ sorted_so (can_sort by_number xs) (sorted by_number xs) ds is

record TakenOne (xs : List Fields) (y : Fields) : Type 0 where
  rest : List Fields
  these : xs ≡ y ∷ rest

taken_one : (xs ys : List Fields) (y : Fields) → take 1 xs ≡ y ∷ ys → TakenOne xs y
taken_one [] ys y is = absurd cc
taken_one (x ∷ xs) ys y is = record { rest = xs; these = let e : x ≡ y = same_some x y (ap (λ (l : List Fields). slice_get l 0) is) in ap (λ (z : Fields). z ∷ xs) e }

records_are : (s : State) (at : Bucket) (id : Tree) (first : Fields) (more left : List Fields) → result s (record_query (files_space at) id) ≡ Some ((first ∷ more) ++ left) → TakenOne (file_of s at id).records first
unfolding file_of
records_are s at id first more left is = taken_one (with_value (codes "_id") id (documents_of s (files_space at))) (more ++ left) first (record_result s (files_space at) id ((first ∷ more) ++ left) is)

chunks_are : (s : State) (at : Bucket) (id : Tree) (ds left : List Fields) → result s (chunks_query (chunks_space at) id) ≡ Some (ds ++ left) → (file_of s at id).chunks ≡ ds ++ left
unfolding file_of
chunks_are s at id ds left is = chunks_result s (chunks_space at) id (ds ++ left) is

-- ---- what was listed, for each that is not spoiled

-- the chunks received are the first of the list that the call at the second place asked for, behind the first place; or the file has no bytes
record Listed (calls : List Call) (at : Bucket) (d : ClientDownload) (bytes : List ℕ) (place listed : ℕ) : Type 0 where
  chunks : List (List ℕ)
  documents : List Fields
  tail : List Fields
  whole : Bool
  front : IsFront calls (chunks_query (chunks_space at) d.file.id) (documents ++ tail) whole
  later : place < front.place
  asked_at : front.place ≡ listed
  received : AreReceived d.file 0 chunks documents
  parts : concat chunks ≡ bytes ++ d.ahead
  at_end : d.doing ≡ ended → (whole ≡ true) × (tail ≡ []) × (chunk_count_of d.file.length d.file.chunk_size ≡ Ok (length chunks))

not_ended : (d : ClientDownload) (c : ClientCursor) → d.doing ≡ idle c → d.doing ≡ ended → ⊥
not_ended d c is over = let e : idle c ≡ ended = sym is ∙ over in cc

not_over : (d : ClientDownload) (c : ClientCursor) (m k : ℕ) → d.doing ≡ reads c m k → d.doing ≡ ended → ⊥
not_over d c m k is over = let e : reads c m k ≡ ended = sym is ∙ over in cc

module _ (awaited : Awaited) (calls : List Call) (at : Bucket) (d : ClientDownload) (bytes : List ℕ) (place listed : ℕ) where
  by_cursor : (c : ClientCursor) → (d.doing ≡ ended → ⊥) → KnowsChunks awaited calls at d bytes c place listed → Listed calls at d bytes place listed
  by_cursor c never k =
      record {
        chunks = k.chunks;
        documents = k.reader.given;
        tail = [] ++ in_reply c.doing;
        whole = false;
        front = fronted.0;
        later = subst (λ (n : ℕ). place < n) (sym fronted.1) k.later;
        asked_at = fronted.1 ∙ k.asked_at;
        received = k.received;
        parts = k.parts;
        at_end = λ over. absurd (never over);
      }
    where
      fronted : (g : IsFront calls (chunks_query (chunks_space at) d.file.id) (k.reader.given ++ ([] ++ in_reply c.doing)) false) × (g.place ≡ k.reader.opened)
      fronted = subst (λ (q : Query). (g : IsFront calls q (k.reader.given ++ ([] ++ in_reply c.doing)) false) × (g.place ≡ k.reader.opened)) k.queries (
        front_known calls (reader_in awaited c k.reader) (k.reader.given ++ ([] ++ in_reply c.doing)) k.knows k.none_lost refl,
        front_opened calls (reader_in awaited c k.reader) (k.reader.given ++ ([] ++ in_reply c.doing)) k.knows k.none_lost refl,
      )

  by_end : HasAll calls at d bytes place listed → Listed calls at d bytes place listed
  by_end h =
      record {
        chunks = h.chunks;
        documents = h.documents;
        tail = [];
        whole = true;
        front = (moved (h.documents ++ []) none_more).0;
        later = subst (λ (n : ℕ). place < n) (sym (moved (h.documents ++ []) none_more).1) h.later;
        asked_at = (moved (h.documents ++ []) none_more).1 ∙ h.asked_at;
        received = h.received;
        parts = h.parts ∙ sym (append-nil bytes) ∙ ap (λ (l : List ℕ). bytes ++ l) (sym h.none_ahead);
        at_end = λ over. (refl, refl, h.counted);
      }
    where
      none_more : h.documents ≡ h.documents ++ []
      none_more = sym (append-nil h.documents)

      moved : (ds : List Fields) (e : h.documents ≡ ds) → (g : IsFront calls (chunks_query (chunks_space at) d.file.id) ds true) × (g.place ≡ h.front.place)
      moved ds e = subst (λ (x : List Fields). (g : IsFront calls (chunks_query (chunks_space at) d.file.id) x true) × (g.place ≡ h.front.place)) e (h.front, refl)

  listed_by : (x : Doing) → d.doing ≡ x → x ≢ spoiled → KnowsBy awaited calls at d bytes place listed x → HasNone d bytes place listed ⊎ Listed calls at d bytes place listed
  listed_by (idle c) is fine k = inr (by_cursor c (not_ended d c is) k)
  listed_by (reads c m e) is fine k = inr (by_cursor c (not_over d c m e is) k)
  listed_by ended is fine (inl none) = inl none
  listed_by ended is fine (inr all) = inr (by_end all)
  listed_by spoiled is fine k = absurd (fine refl)

-- ---- the first law

front_read : (calls : List Call) (at : Bucket) (d : ClientDownload) (bytes : List ℕ) (place listed : ℕ) (l : Listed calls at d bytes place listed) (history : List Step) → IsLegal history → Stands calls history → (fetched : ℕ) × ReadsFront history at d bytes fetched
front_read calls at d bytes place listed l history legal stands =
    let f = l.front.each history legal stands in
    let stood = chunks_are (state_of (take (suc f.0) history)) at d.file.id (l.documents ++ l.tail) f.2 f.3 ∙ append_assoc l.documents l.tail f.2 in (
      f.0,
      record {
        chunks = l.chunks;
        documents = l.documents;
        left = l.tail ++ f.2;
        stood = stood;
        received = l.received;
        parts = l.parts;
        all_at_end = λ over. let e = l.at_end over in (ap (λ (t : List Fields). t ++ f.2) e.1 ∙ f.4 e.0, e.2);
      },
    )

pub download_reads : DownloadReads
download_reads awaited calls at id d bytes listed k fine history legal stands =
    let f = k.of_record.front.each history legal stands in
    let first = records_are (state_of (take (suc f.0) history)) at id k.of_record.first k.of_record.more f.2 f.3 in
    record {
      opened = f.0;
      first = k.of_record.first;
      more = first.rest;
      stood = first.these;
      reads_as = k.of_record.reads_as;
      chunks_so = elim (listed_by awaited calls at d bytes k.of_record.front.place listed d.doing refl fine k.by) [
        | inl none ↦ inl (none.no_length, none.none_read, none.none_ahead)
        | inr l ↦ inr (front_read calls at d bytes k.of_record.front.place listed l history legal stands)
      ];
    }

-- ---- a file that stays

take_next : (xs : List Step) (m : ℕ) (x : Step) → slice_get xs m ≡ Some x → take (suc m) xs ≡ take m xs ++ x ∷ []
take_next [] m x is = absurd cc
take_next (y ∷ ys) zero x is = ap (λ (z : Step). z ∷ []) (same_some y x is)
take_next (y ∷ ys) (suc m) x is = ap (λ (l : List Step). y ∷ l) (take_next ys m x is)

take_end : (xs : List Step) (m : ℕ) → slice_get xs m ≡ None → take (suc m) xs ≡ take m xs
take_end [] zero is = refl
take_end [] (suc m) is = refl
take_end (y ∷ ys) zero is = absurd cc
take_end (y ∷ ys) (suc m) is = ap (λ (l : List Step). y ∷ l) (take_end ys m is)

file_stays : (history : List Step) (at : Bucket) (id : Tree) (from : ℕ) → ((position : ℕ) (step : Step) → from ≤ position → slice_get history position ≡ Some step → LeavesFile (state_of (take position history)) step at id) → (j : ℕ)
    → file_of (state_of (take (from + j) history)) at id ≡ file_of (state_of (take from history)) at id
file_stays history at id from leaves zero = let e : from + 0 ≡ from = omega arith in ap (λ (n : ℕ). file_of (state_of (take n history)) at id) e
file_stays history at id from leaves (suc j) = by_step (slice_get history (from + j)) refl ∙ file_stays history at id from leaves j
  where
    next : from + suc j ≡ suc (from + j)
    next = omega arith

    here : file_of (state_of (take (from + suc j) history)) at id ≡ file_of (state_of (take (suc (from + j)) history)) at id
    here = ap (λ (n : ℕ). file_of (state_of (take n history)) at id) next

    by_step : (o : Option Step) → slice_get history (from + j) ≡ o → file_of (state_of (take (from + suc j) history)) at id ≡ file_of (state_of (take (from + j) history)) at id
    by_step (Some step) is =
        let le : from ≤ from + j = omega arith in
        here ∙ ap (λ (h : List Step). file_of (state_of h) at id) (take_next history (from + j) step is) ∙ ap (λ (s : State). file_of s at id) (state_one (take (from + j) history) step) ∙ leaves (from + j) step le is
    by_step None is = here ∙ ap (λ (h : List Step). file_of (state_of h) at id) (take_end history (from + j) is)

pub stays_at : (history : List Step) (at : Bucket) (id : Tree) (from : ℕ) → ((position : ℕ) (step : Step) → from ≤ position → slice_get history position ≡ Some step → LeavesFile (state_of (take position history)) step at id) → (n : ℕ) → from ≤ n
    → file_of (state_of (take n history)) at id ≡ file_of (state_of (take from history)) at id
stays_at history at id from leaves n le =
    let e : from + (n - from) ≡ n = omega arith in
    subst (λ (m : ℕ). file_of (state_of (take m history)) at id ≡ file_of (state_of (take from history)) at id) e (file_stays history at id from leaves (n - from))

-- ---- chunks as they stand

abbrev value_in : Result (List ℕ) Error → List ℕ
value_in (Ok bytes) = bytes
value_in (Err e) = []

sized_is : (n : ℕ) (b c : List ℕ) (r : Result ℕ Malformed) → sized_as n b r ≡ Ok c → b ≡ c
sized_is n b c (Ok expected) h = by_length (length b == expected) h
  where
    by_length : (t : Bool) → (if t then Ok b else Err (wrong_size n (length b) expected)) ≡ Ok c → b ≡ c
    by_length true e = ap value_in e
    by_length false e = absurd cc
sized_is n b c (Err m) h = absurd cc

numbered_is : (f : FileRecord) (n : ℕ) (b c : List ℕ) → numbered_as (sizes_of f) n (pos n) b ≡ Ok c → b ≡ c
numbered_is f n b c h = by_number_of (int_eq (pos n) (pos n)) h
  where
    by_number_of : (t : Bool) → (if t then sized_as n b (chunk_length_of f.length f.chunk_size n) else Err (missing_chunk n)) ≡ Ok c → b ≡ c
    by_number_of true e = sized_is n b c (chunk_length_of f.length f.chunk_size n) e
    by_number_of false e = absurd cc

-- a chunk that was received holds the bytes that stand there
chunk_is : (f : FileRecord) (n : ℕ) (b c : List ℕ) (d : Fields) → IsChunk n b d → judged (sizes_of f) n d ≡ Ok c → b ≡ c
chunk_is f n b c d is h =
    let holds_it : data_of d ≡ Some b = ap (λ (o : Option Tree). option_and_then of_subtype_0 (option_and_then as_binary o)) is.data_is in
    numbered_is f n b c
    (sym (ap (λ o. and_then (needed_as malformed.BadChunk o) (λ number. and_then (needed_as malformed.BadChunk (data_of d)) (numbered_as (sizes_of f) n number))) is.number_is ∙ ap (λ o. and_then (needed_as malformed.BadChunk o) (numbered_as (sizes_of f) n (pos n))) holds_it) ∙ h)

record IsFirst (n : ℕ) (bs cs : List (List ℕ)) (gs : List Fields) : Type 0 where
  rest : List (List ℕ)
  these : bs ≡ cs ++ rest
  are : AreChunks (n + length cs) rest gs

first_chunks : (f : FileRecord) (n : ℕ) (bs cs : List (List ℕ)) (ds gs : List Fields) → AreReceived f n cs ds → AreChunks n bs (ds ++ gs) → IsFirst n bs cs gs
first_chunks f n bs [] [] gs a b = let e : n ≡ n + 0 = omega arith in record { rest = bs; these = refl; are = subst (λ (m : ℕ). AreChunks m bs gs) e b }
first_chunks f n bs [] (d ∷ ds) gs a b = absurd a
first_chunks f n bs (c ∷ cs) [] gs a b = absurd a
first_chunks f n [] (c ∷ cs) (d ∷ ds) gs a b = absurd b
first_chunks f n (x ∷ bs) (c ∷ cs) (d ∷ ds) gs a b =
    let i = first_chunks f (suc n) bs cs ds gs a.1 b.1 in
    let e : suc n + length cs ≡ n + suc (length cs) = omega arith in
    record {
      rest = i.rest;
      these = ap (λ (y : List ℕ). y ∷ bs) (chunk_is f n x c d b.0 a.0) ∙ ap (λ (l : List (List ℕ)). c ∷ l) i.these;
      are = subst (λ (m : ℕ). AreChunks m i.rest gs) e i.are;
    }

none_after : (n : ℕ) (rest : List (List ℕ)) (gs : List Fields) → gs ≡ [] → AreChunks n rest gs → rest ≡ []
none_after n [] gs is a = refl
none_after n (c ∷ cs) gs is a = absurd (subst (AreChunks n (c ∷ cs)) is a)

-- ---- the length that a record says

-- the numbers and the record that are read, field by field
abbrev numbers_from : Option ℕ → Option ℕ → Option ℤ → Option Numbers
numbers_from length chunk_size upload_date = length
    >>= λ length. chunk_size
    >>= λ chunk_size. upload_date
    >>= λ upload_date. Some (record { length = length; chunk_size = chunk_size; upload_date = upload_date })

abbrev record_from : Option Numbers → Option (Option (List ℕ)) → Option (Option Fields) → Option Tree → Option FileRecord
record_from numbers filename metadata id = numbers
    >>= λ numbers. filename
    >>= λ filename. metadata
    >>= λ metadata. id
    >>= λ id. Some (record { id = id; length = numbers.length; chunk_size = numbers.chunk_size; upload_date = numbers.upload_date; filename = filename; metadata = metadata })

record NumbersSay (o : Option Numbers) (length : ℕ) : Type 0 where
  numbers : Numbers
  are : o ≡ Some numbers
  length_is : numbers.length ≡ length

abbrev length_of : ℕ → Option FileRecord → ℕ
length_of n None = n
length_of n (Some f) = f.length

record_says : (numbers : Option Numbers) (filename : Option (Option (List ℕ))) (metadata : Option (Option Fields)) (id : Option Tree) (f : FileRecord) → record_from numbers filename metadata id ≡ Some f → NumbersSay numbers f.length
record_says None filename metadata id f h = absurd cc
record_says (Some n) None metadata id f h = absurd cc
record_says (Some n) (Some name) None id f h = absurd cc
record_says (Some n) (Some name) (Some meta) None f h = absurd cc
record_says (Some n) (Some name) (Some meta) (Some id) f h = record { numbers = n; are = refl; length_is = ap (length_of n.length) h }

abbrev id_in : Tree → Option FileRecord → Tree
id_in t None = t
id_in t (Some f) = f.id

id_says : (numbers : Option Numbers) (filename : Option (Option (List ℕ))) (metadata : Option (Option Fields)) (id : Option Tree) (f : FileRecord) → record_from numbers filename metadata id ≡ Some f → id ≡ Some f.id
id_says None filename metadata id f h = absurd cc
id_says (Some n) None metadata id f h = absurd cc
id_says (Some n) (Some name) None id f h = absurd cc
id_says (Some n) (Some name) (Some meta) None f h = absurd cc
id_says (Some n) (Some name) (Some meta) (Some id) f h = ap (λ (o : Option FileRecord). Some (id_in id o)) h

abbrev length_in : ℕ → Option Numbers → ℕ
length_in n None = n
length_in n (Some numbers) = numbers.length

numbers_say : (length chunk_size : Option ℕ) (upload_date : Option ℤ) (n : Numbers) → numbers_from length chunk_size upload_date ≡ Some n → length ≡ Some n.length
numbers_say None size date n h = absurd cc
numbers_say (Some l) None date n h = absurd cc
numbers_say (Some l) (Some size) None n h = absurd cc
numbers_say (Some l) (Some size) (Some date) n h = ap (λ (o : Option Numbers). Some (length_in l o)) h

abbrev record_in : FileRecord → Result FileRecord Malformed → FileRecord
record_in g (Ok f) = f
record_in g (Err m) = g

with_chunks_is : (o : Option FileRecord) (f : FileRecord) → with_chunks o ≡ Ok f → o ≡ Some f
with_chunks_is None f h = absurd cc
with_chunks_is (Some g) f h = by_size (g.chunk_size == 0) h
  where
    by_size : (t : Bool) → (if t then Err malformed.ChunkSizeZero else Ok g) ≡ Ok f → Some g ≡ Some f
    by_size true e = absurd cc
    by_size false e = ap (λ (r : Result FileRecord Malformed). Some (record_in g r)) e

length_said : (d : Fields) (f : FileRecord) → file_record_of d ≡ Ok f → needed count_of (codes "length") d ≡ Some f.length
length_said d f h =
    let read : file_fields d ≡ Some f = with_chunks_is (file_fields d) f h in
    let n = record_says (file_numbers d) (optional as_string (codes "filename") d) (optional as_document (codes "metadata") d) (needed any_value (codes "_id") d) f read in
    numbers_say (needed count_of (codes "length") d) (needed small_count (codes "chunkSize") d) (needed as_date_time (codes "uploadDate") d) n.numbers n.are ∙ ap Some n.length_is

id_said : (d : Fields) (f : FileRecord) → file_record_of d ≡ Ok f → get (codes "_id") d ≡ Some f.id
id_said d f h =
    let read : file_fields d ≡ Some f = with_chunks_is (file_fields d) f h in
    let says = id_says (file_numbers d) (optional as_string (codes "filename") d) (optional as_document (codes "metadata") d) (needed any_value (codes "_id") d) f read in
    by_value (get (codes "_id") d) says
  where
    by_value : (o : Option Tree) → option_and_then any_value o ≡ Some f.id → o ≡ Some f.id
    by_value None e = absurd cc
    by_value (Some t) e = e

-- the first record of a file has its id
record_meets : (s : State) (at : Bucket) (id : Tree) (first : Fields) (rest : List Fields) → (file_of s at id).records ≡ first ∷ rest → meets (has_value (codes "_id") id) first ≡ true
unfolding file_of
record_meets s at id first rest is = first_meets (has_value (codes "_id") id) (documents_of s (files_space at)) first rest is

-- the file of the id that its record has is the one that was asked for
its_file : (calls : List Call) (at : Bucket) (id : Tree) (f : FileRecord) → KnowsRecord calls at id f → (history : List Step) → IsLegal history → Stands calls history → (s : State) → file_of s at f.id ≡ file_of s at id
its_file calls at id f k history legal stands s =
    let x = k.front.each history legal stands in
    let first = records_are (state_of (take (suc x.0) history)) at id k.first k.more x.2 x.3 in
    let met = record_meets (state_of (take (suc x.0) history)) at id k.first first.rest first.these in
    one_file f.id id (sym (same_key (codes "_id") id f.id k.first (id_said k.first f k.reads_as) met)) s at

length_read : (d : Fields) (n m : ℕ) → option_and_then as_integer (get (codes "length") d) ≡ Some (pos n) → needed count_of (codes "length") d ≡ Some m → n ≡ m
length_read d n m is says = same_some n m (sym (by_value (get (codes "length") d) is) ∙ says)
  where
    by_value : (o : Option Tree) → option_and_then as_integer o ≡ Some (pos n) → option_and_then count_of o ≡ Some n
    by_value None e = absurd cc
    by_value (Some t) e = ap (option_and_then as_count) e

-- ---- the second law

nothing_in : (bytes : List ℕ) → length bytes ≡ 0 → bytes ≡ []
nothing_in [] is = refl
nothing_in (b ∷ bs) is = absurd cc

-- the chunks that were listed are those of the file, where it was as it had been as its list took effect
list_reads : (calls : List Call) (at : Bucket) (id : Tree) (d : ClientDownload) (bytes : List ℕ) (place listed : ℕ) (l : Listed calls at d bytes place listed) → ((s : State) → file_of s at d.file.id ≡ file_of s at id) → (history : List Step) → IsLegal history → Stands calls history → (whole : List ℕ) (size from : ℕ) → IsWhole (state_of (take from history)) at id whole size
    → ((fetched : ℕ) → l.front.call.position ≡ Some fetched → file_of (state_of (take (suc fetched) history)) at id ≡ file_of (state_of (take from history)) at id) → (left : List ℕ) × (whole ≡ bytes ++ d.ahead ++ left) × (d.doing ≡ ended → left ≡ [])
list_reads calls at id d bytes place listed l same_file history legal stands whole size from w same =
    let f = l.front.each history legal stands in
    let stood = chunks_are (state_of (take (suc f.0) history)) at d.file.id (l.documents ++ l.tail) f.2 f.3 ∙ append_assoc l.documents l.tail f.2 in
    let file = same f.0 f.1 in
    let chunks_there : (file_of (state_of (take from history)) at id).chunks ≡ l.documents ++ (l.tail ++ f.2)
    = ap (λ (x : File). x.chunks) (sym file) ∙ ap (λ (x : File). x.chunks) (sym (same_file (state_of (take (suc f.0) history)))) ∙ stood in
    let i = first_chunks d.file 0 (chunked size whole) l.chunks l.documents (l.tail ++ f.2) l.received (subst (AreChunks 0 (chunked size whole)) chunks_there w.chunks_are) in
    let these : whole ≡ (bytes ++ d.ahead) ++ concat i.rest
    = sym (chunks_join size whole) ∙ ap concat i.these ∙ concat-append l.chunks i.rest ∙ ap (λ (x : List ℕ). x ++ concat i.rest) l.parts in (
      concat i.rest,
      these,
      λ over.
          let e = l.at_end over in
          let none : l.tail ++ f.2 ≡ [] = ap (λ (t : List Fields). t ++ f.2) e.1 ∙ f.4 e.0 in
          ap concat (none_after (0 + length l.chunks) i.rest (l.tail ++ f.2) none i.are),
    )

-- a file without bytes is read as such, where it was as it had been as its record was found
none_reads : (calls : List Call) (at : Bucket) (id : Tree) (d : ClientDownload) (bytes : List ℕ) (place listed : ℕ) (k : KnowsRecord calls at id d.file) → HasNone d bytes place listed → (history : List Step) → IsLegal history → Stands calls history → (whole : List ℕ) (size from : ℕ) → IsWhole (state_of (take from history)) at id whole size
    → ((opened : ℕ) → k.front.call.position ≡ Some opened → file_of (state_of (take (suc opened) history)) at id ≡ file_of (state_of (take from history)) at id) → (left : List ℕ) × (whole ≡ bytes ++ d.ahead ++ left) × (d.doing ≡ ended → left ≡ [])
none_reads calls at id d bytes place listed k none history legal stands whole size from w same =
    let opened = k.front.each history legal stands in
    let first = records_are (state_of (take (suc opened.0) history)) at id k.first k.more opened.2 opened.3 in
    let first_is : k.first ≡ w.record_of
    = same_some k.first w.record_of (ap (λ (l : List Fields). slice_get l 0) (sym first.these ∙ ap (λ (f : File). f.records) (same opened.0 opened.1) ∙ w.alone)) in
    let says = length_said k.first d.file k.reads_as in
    let n : length whole ≡ d.file.length = length_read k.first (length whole) d.file.length (ap (λ (f : Fields). option_and_then as_integer (get (codes "length") f)) first_is ∙ w.length_is) says in
    let empty : whole ≡ [] = nothing_in whole (n ∙ none.no_length) in
    let nothing : [] ≡ bytes ++ d.ahead ++ [] = ap (λ (l : List ℕ). l ++ []) (sym none.none_ahead) ∙ ap (λ (l : List ℕ). l ++ d.ahead ++ []) (sym none.none_read) in
    ([], empty ∙ nothing, λ over. refl)

pub download_reads_file : DownloadReadsFile
download_reads_file awaited calls at id d bytes listed k fine same_id history legal stands whole size from stays after = elim (listed_by awaited calls at d bytes place listed d.doing refl fine k.by) [
  | inl none ↦ none_reads calls at id d bytes place listed k.of_record none history legal stands whole size from stays.0 (λ position at_call. as_it_was position (after k.of_record.front.call position k.of_record.front.found at_call))
  | inr l ↦ some_bytes l
]
  where
    place : ℕ
    place = k.of_record.front.place

    as_it_was : (position : ℕ) → from ≤ position → file_of (state_of (take (suc position) history)) at id ≡ file_of (state_of (take from history)) at id
    as_it_was position since = stays_at history at id from stays.1 (suc position) (omega (arith, since))

    some_bytes : Listed calls at d bytes place listed → (left : List ℕ) × (whole ≡ bytes ++ d.ahead ++ left) × (d.doing ≡ ended → left ≡ [])
    some_bytes l =
        let opened = k.of_record.front.each history legal stands in
        let since : from ≤ opened.0 = after k.of_record.front.call opened.0 k.of_record.front.found opened.1 in
        list_reads calls at id d bytes place listed l (λ s. ap (λ (t : Tree). file_of s at t) same_id) history legal stands whole size from stays.0
        (λ fetched at_call.
        let order : opened.0 < fetched = stands.rising place l.front.place k.of_record.front.call l.front.call opened.0 fetched l.later k.of_record.front.found l.front.found opened.1 at_call in
        as_it_was fetched (omega (arith, order, since)))

-- ---- the third law

pub download_reads_until : DownloadReadsUntil
download_reads_until awaited calls at id d bytes listed k fine history legal stands whole size from upto w leaves between = elim (listed_by awaited calls at d bytes place listed d.doing refl fine k.by) [
  | inl none ↦ none_reads calls at id d bytes place listed k.of_record none history legal stands whole size from w (λ position at_call. as_it_was k.of_record.front.call position (subst (λ (n : ℕ). slice_get calls n ≡ Some k.of_record.front.call) none.asked_at k.of_record.front.found) at_call)
  | inr l ↦ list_reads calls at id d bytes place listed l (its_file calls at id d.file k.of_record history legal stands) history legal stands whole size from w (λ position at_call. as_it_was l.front.call position (subst (λ (n : ℕ). slice_get calls n ≡ Some l.front.call) l.asked_at l.front.found) at_call)
]
  where
    place : ℕ
    place = k.of_record.front.place

    as_it_was : (call : Call) (position : ℕ) → slice_get calls listed ≡ Some call → call.position ≡ Some position → file_of (state_of (take (suc position) history)) at id ≡ file_of (state_of (take from history)) at id
    as_it_was call position there at_call =
        let here = between call position there at_call in
        let since = here.0 in
        let before = here.1 in
        let step = stands.same listed call position there at_call in
        let within : position < length history = get_within history position step.0 step.1 in
        let n : ℕ = suc position - from in
        let all : from + n ≡ suc position = omega (arith, since) in
        subst (λ (m : ℕ). file_of (state_of (take m history)) at id ≡ file_of (state_of (take from history)) at id) all
        (quiet_stays history at id from n (omega (arith, all, within)) (λ p own low high found. leaves p own low (omega (arith, all, before, high)) found))
