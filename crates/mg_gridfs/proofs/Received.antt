-- Chunks that were received: those of a batch, and those behind others.
use Rattle.std.proofs.Common.{◌≡◌, ◌<◌, ◌+◌, ◌%◌, ◌==◌, ◌&&◌, ◌++◌, ℕ, pos, suc, zero, Bool, true, false, not, List, [], ◌∷◌, length, map, Option, Some, None, option_map, is_some, Result, Ok, Err, refl, sym, ap, ◌∙◌, subst, arith, eqb-true, length-append}
use Rattle.std.specs.Prelude.{codes, if◌then◌else◌, option_and_then, unwrap_or}
use Rattle.std.specs.List.{concat}
use Rattle.std.specs.Ordering.{int_eq}
use Rattle.mg_bson.specs.Find.{as_document}
use Rattle.mg_bson.specs.Raw.{IsDocument, fields, items}
use Rattle.mg_bson.specs.Reading.{doc}
use Rattle.mg_bson.specs.Spans.{array_inside, documents_inside}
use Rattle.mg_bson.specs.Tree.{Fields, Items, item, no_fields, no_items}
use Rattle.mg_bson.proofs.Options.{map_some}
use Rattle.mg_server.specs.Commands.{documents_in}
use Rattle.mg_link.specs.Numbers.{number_at}
use Rattle.mg_link.specs.declared.error.Error.{Error}
use Rattle.mg_link.specs.declared.error.Malformed.{Malformed}
use Rattle.mg_link.specs.declared.error.Malformed.TheVariants as malformed
use Rattle.mg_ops.specs.Cursors.{batch_at}
use Rattle.mg_chunks.specs.Sizes.{chunk_count, chunk_count_of, chunk_length, chunk_length_of, where_counted}
use Rattle.mg_records.specs.FileRecords.{FileRecord}
use Rattle.mg_cursor.specs.Batches.{batch_in, documents_of, or_else}
use Rattle.mg_cursor.specs.Reading.{batch_documents}
use Rattle.mg_cursor.proofs.Spelled.{inside_document, items_spelled}
use Rattle.mg_chunks.specs.Chunks.{all_judged, and_then, data_of, judged, missing_chunk, needed_as, numbered_as, sized_as, wrong_size}
use Rattle.mg_gridfs.specs.Downloads.{received, sizes_of}
use Rattle.mg_gridfs.specs.Downloaded.{AreReceived}
use Rattle.mg_gridfs.specs.DownloadView.{HaveBytes, data_in}

-- ---- steps one after the other

record WentOn {A B : Type 0} (r : Result A Error) (f : A → Result B Error) (y : B) : Type 0 where
  value : A
  first : r ≡ Ok value
  behind : f value ≡ Ok y

went_on : {A B : Type 0} (r : Result A Error) (f : A → Result B Error) (y : B) → and_then r f ≡ Ok y → WentOn r f y
went_on (Ok x) f y h = record { value = x; first = refl; behind = h }
went_on (Err e) f y h = absurd cc

needed_there : {A : Type 0} (m : Malformed) (o : Option A) (x : A) → needed_as m o ≡ Ok x → o ≡ Some x
needed_there m (Some y) x h = cc
needed_there m None x h = absurd cc

abbrev chunks_in : Result (List (List ℕ)) Error → List (List ℕ)
chunks_in (Ok chunks) = chunks
chunks_in (Err e) = []

-- ---- a batch

pub record BatchIs (f : FileRecord) (n : ℕ) (ts : Items) (chunks : List (List ℕ)) : Type 0 where
  pub documents : List Fields
  pub these : documents_in ts ≡ Some documents
  pub received : AreReceived f n chunks documents

pub batch_is : (f : FileRecord) (n : ℕ) (ts : Items) (chunks : List (List ℕ)) → all_judged (sizes_of f) n ts ≡ Ok chunks → BatchIs f n ts chunks
batch_is f n no_items chunks h = record { documents = []; these = refl; received = subst (λ (cs : List (List ℕ)). AreReceived f n cs []) (ap chunks_in h) tt }
batch_is f n (item t ts) chunks h =
    let a = went_on (needed_as malformed.BadItem (as_document t)) (λ d. and_then (judged (sizes_of f) n d) (λ bytes. and_then (all_judged (sizes_of f) (suc n) ts) (λ more. Ok (bytes ∷ more)))) chunks h in
    let b = went_on (judged (sizes_of f) n a.value) (λ bytes. and_then (all_judged (sizes_of f) (suc n) ts) (λ more. Ok (bytes ∷ more))) chunks a.behind in
    let c = went_on (all_judged (sizes_of f) (suc n) ts) (λ more. Ok (b.value ∷ more)) chunks b.behind in
    let rest = batch_is f (suc n) ts c.value c.first in
    record {
      documents = a.value ∷ rest.documents;
      these = ap (option_and_then (λ d. option_map (λ ds. d ∷ ds) (documents_in ts))) (needed_there malformed.BadItem (as_document t) a.value a.first) ∙ ap (option_map (λ ds. a.value ∷ ds)) rest.these;
      received = subst (λ (cs : List (List ℕ)). AreReceived f n cs (a.value ∷ rest.documents)) (ap chunks_in c.behind) (b.first, rest.received);
    }

-- the documents of a reply that has this batch
pub reply_documents : (reply array : List ℕ) (documents : List Fields) → IsDocument array → batch_in reply ≡ Some array → documents_in (items array) ≡ Some documents → batch_documents reply ≡ documents
unfolding documents_of
reply_documents reply array documents is there these =
    ap (λ (o : Option (List ℕ)). unwrap_or (option_map (map fields) (option_and_then documents_inside o)) []) there
    ∙ ap (λ (o : Option (List Fields)). unwrap_or o []) (sym (items_spelled array is) ∙ these)

-- ---- behind others

pub received_behind : (f : FileRecord) (n : ℕ) (cs es : List (List ℕ)) (ds gs : List Fields) → AreReceived f n cs ds → AreReceived f (n + length cs) es gs → AreReceived f n (cs ++ es) (ds ++ gs)
received_behind f n [] es [] gs a b = let e : n + 0 ≡ n = omega arith in subst (λ (k : ℕ). AreReceived f k es gs) e b
received_behind f n [] es (d ∷ ds) gs a b = absurd a
received_behind f n (c ∷ cs) es [] gs a b = absurd a
received_behind f n (c ∷ cs) es (d ∷ ds) gs a b =
    let e : n + suc (length cs) ≡ suc n + length cs = omega arith in
    (a.0, received_behind f (suc n) cs es ds gs a.1 (subst (λ (k : ℕ). AreReceived f k es gs) e b))

-- ---- what a chunk that is in order has

-- its bytes, which are as many as its file says, where that counts its chunks
pub record IsJudged (f : FileRecord) (n : ℕ) (d : Fields) (c : List ℕ) : Type 0 where
  pub data_is : data_of d ≡ Some c
  pub long : length c ≡ chunk_length f.length f.chunk_size n
  pub count : ℕ
  pub counted : chunk_count_of f.length f.chunk_size ≡ Ok count

record IsSized (bytes : List ℕ) (r : Result ℕ Malformed) (c : List ℕ) : Type 0 where
  expected : ℕ
  says : r ≡ Ok expected
  long : length bytes ≡ expected
  same : bytes ≡ c

sized_ok : (n : ℕ) (bytes : List ℕ) (r : Result ℕ Malformed) (c : List ℕ) → sized_as n bytes r ≡ Ok c → IsSized bytes r c
sized_ok n bytes (Ok expected) c h = by_test (length bytes == expected) refl h
  where
    same_ok : (x y : List ℕ) → ◌≡◌ {A = Result (List ℕ) Error} (Ok x) (Ok y) → x ≡ y
    same_ok x y e = cc

    by_test : (t : Bool) → (length bytes == expected) ≡ t → (if t then Ok bytes else Err (wrong_size n (length bytes) expected)) ≡ Ok c → IsSized bytes (Ok expected) c
    by_test true is h = record { expected = expected; says = refl; long = eqb-true (length bytes) expected is; same = same_ok bytes c h }
    by_test false is h = absurd cc
sized_ok n bytes (Err m) c h = absurd cc

if_ok : {A : Type 0} (t : Bool) (r : Result A Error) (e : Error) (x : A) → (if t then r else Err e) ≡ Ok x → r ≡ Ok x
if_ok true r e x h = h
if_ok false r e x h = absurd cc

record IsCounted (r : Result ℕ Malformed) (long expected : ℕ) : Type 0 where
  count : ℕ
  says : r ≡ Ok count
  same : long ≡ expected

counted_ok : (r : Result ℕ Malformed) (long expected : ℕ) → where_counted r long ≡ Ok expected → IsCounted r long expected
counted_ok (Ok count) long expected h = record { count = count; says = refl; same = same_ok long expected h }
  where
    same_ok : (x y : ℕ) → ◌≡◌ {A = Result ℕ Malformed} (Ok x) (Ok y) → x ≡ y
    same_ok x y e = cc
counted_ok (Err m) long expected h = absurd cc

pub is_judged : (f : FileRecord) (n : ℕ) (d : Fields) (c : List ℕ) → judged (sizes_of f) n d ≡ Ok c → IsJudged f n d c
is_judged f n d c h =
    let a = went_on (needed_as malformed.BadChunk (number_at (codes "n") d)) (λ number. and_then (needed_as malformed.BadChunk (data_of d)) (numbered_as (sizes_of f) n number)) c h in
    let b = went_on (needed_as malformed.BadChunk (data_of d)) (numbered_as (sizes_of f) n a.value) c a.behind in
    let s = sized_ok n b.value (chunk_length_of f.length f.chunk_size n) c (if_ok (int_eq a.value (pos n)) (sized_as n b.value (chunk_length_of f.length f.chunk_size n)) (missing_chunk n) c b.behind) in
    let k = counted_ok (chunk_count_of f.length f.chunk_size) (chunk_length f.length f.chunk_size n) s.expected s.says in
    record {
      data_is = needed_there malformed.BadChunk (data_of d) b.value b.first ∙ ap (λ (l : List ℕ). Some l) s.same;
      long = sym (ap (length {A = ℕ}) s.same) ∙ s.long ∙ sym k.same;
      count = k.count;
      counted = k.says;
    }

-- the rest, where there is one, or the full size
rest_or_size : (t u : Bool) (rest size : ℕ) → 0 < size → (rest == 0) ≡ u → 0 < (if t && not u then rest else size)
rest_or_size true false zero size some is = absurd cc
rest_or_size true false (suc k) size some is = omega arith
rest_or_size true true rest size some is = some
rest_or_size false u rest size some is = some

-- each chunk has bytes
pub chunk_some : (long size n count : ℕ) → chunk_count_of long size ≡ Ok count → 0 < chunk_length long size n
chunk_some long zero n count h = absurd cc
chunk_some long (suc k) n count h = let some : 0 < suc k = omega arith in rest_or_size (suc n == chunk_count long (suc k)) (long % suc k == 0) (long % suc k) (suc k) some refl

-- so many chunks have so many bytes
pub received_more : (f : FileRecord) (n : ℕ) (cs : List (List ℕ)) (ds : List Fields) → AreReceived f n cs ds → received f (n + length cs) ≡ received f n + length (concat cs)
received_more f n [] [] a =
    let e : n + 0 ≡ n = omega arith in
    let z : received f n ≡ received f n + 0 = omega arith in
    ap (received f) e ∙ z
received_more f n [] (d ∷ ds) a = absurd a
received_more f n (c ∷ cs) [] a = absurd a
received_more f n (c ∷ cs) (d ∷ ds) a =
    let e : n + suc (length cs) ≡ suc n + length cs = omega arith in
    let long = (is_judged f n d c a.0).long in
    let rest : received f (suc n + length cs) ≡ received f n + chunk_length f.length f.chunk_size n + length (concat cs) = received_more f (suc n) cs ds a.1 in
    let whole = length-append c (concat cs) in
    let sum : received f n + chunk_length f.length f.chunk_size n + length (concat cs) ≡ received f n + length (c ++ concat cs) = omega arith in
    ap (received f) e ∙ rest ∙ sum

-- ---- the bytes of a batch that was looked at

there_at : (o : Option Fields) (ts : Items) → batch_at (unwrap_or o no_fields) ≡ Ok ts → is_some o ≡ true
unfolding batch_at
there_at (Some fs) ts h = refl
there_at None ts h = absurd cc

document_at : (reply : List ℕ) (ts : Items) → batch_at (fields reply) ≡ Ok ts → IsDocument reply
unfolding fields
document_at reply ts h = there_at (doc reply) ts h

either_array : (o p : Option (List ℕ)) (a : List ℕ) (P : Type 0) → or_else o p ≡ Some a → (o ≡ Some a → P) → (p ≡ Some a → P) → P
either_array (Some x) p a P h here there = here h
either_array None p a P h here there = there h

pub batch_array : (reply array : List ℕ) (ts : Items) → batch_at (fields reply) ≡ Ok ts → batch_in reply ≡ Some array → IsDocument array
unfolding batch_in
batch_array reply array ts at is =
    either_array (array_inside (codes "cursor") (codes "firstBatch") reply) (array_inside (codes "cursor") (codes "nextBatch") reply) array (IsDocument array) is
    (inside_document (codes "cursor") (codes "firstBatch") reply array (document_at reply ts at)) (inside_document (codes "cursor") (codes "nextBatch") reply array (document_at reply ts at))

-- the documents hold these chunks, each of which has bytes
pub record HoldChunks (documents chunks : List (List ℕ)) : Type 0 where
  pub bytes : map data_in documents ≡ chunks
  pub some : HaveBytes documents

hold_chunks : (f : FileRecord) (n : ℕ) (documents chunks : List (List ℕ)) → AreReceived f n chunks (map fields documents) → HoldChunks documents chunks
hold_chunks f n [] [] a = record { bytes = refl; some = tt }
hold_chunks f n [] (c ∷ cs) a = absurd a
hold_chunks f n (x ∷ xs) [] a = absurd a
hold_chunks f n (x ∷ xs) (c ∷ cs) a =
    let j = is_judged f n (fields x) c a.0 in
    let rest = hold_chunks f (suc n) xs cs a.1 in
    let here : data_in x ≡ c = ap (λ (o : Option (List ℕ)). unwrap_or o []) j.data_is in
    let long = ap (length {A = ℕ}) here in
    let known = j.long in
    let full = chunk_some f.length f.chunk_size n j.count j.counted in
    let some : 0 < length (data_in x) = omega arith in
    record { bytes = ap (λ (b : List ℕ). b ∷ map data_in xs) here ∙ ap (λ (bs : List (List ℕ)). c ∷ bs) rest.bytes; some = (some, rest.some) }

-- the documents of a reply that has this batch
pub record BatchHolds (reply : List ℕ) (chunks : List (List ℕ)) : Type 0 where
  pub documents : List (List ℕ)
  pub there : documents_of reply ≡ Some documents
  pub hold : HoldChunks documents chunks

pub batch_holds : (f : FileRecord) (n : ℕ) (reply array : List ℕ) (chunks : List (List ℕ)) → IsDocument array → batch_in reply ≡ Some array → all_judged (sizes_of f) n (items array) ≡ Ok chunks → BatchHolds reply chunks
unfolding documents_of
batch_holds f n reply array chunks is there in_order =
    let b = batch_is f n (items array) chunks in_order in
    let m = map_some (documents_inside array) (map fields) b.documents (sym (items_spelled array is) ∙ b.these) in
    record {
      documents = m.0;
      there = ap (option_and_then documents_inside) there ∙ m.1;
      hold = hold_chunks f n m.0 chunks (subst (λ (ds : List Fields). AreReceived f n chunks ds) (sym m.2) b.received);
    }

-- no chunk is in no item, and only there
pub none_judged : (f : FileRecord) (n : ℕ) (ts : Items) (chunks : List (List ℕ)) → all_judged (sizes_of f) n ts ≡ Ok chunks → length chunks ≡ 0 → ts ≡ no_items
none_judged f n no_items chunks h none = refl
none_judged f n (item t ts) chunks h none =
    let a = went_on (needed_as malformed.BadItem (as_document t)) (λ d. and_then (judged (sizes_of f) n d) (λ bytes. and_then (all_judged (sizes_of f) (suc n) ts) (λ more. Ok (bytes ∷ more)))) chunks h in
    let b = went_on (judged (sizes_of f) n a.value) (λ bytes. and_then (all_judged (sizes_of f) (suc n) ts) (λ more. Ok (bytes ∷ more))) chunks a.behind in
    let c = went_on (all_judged (sizes_of f) (suc n) ts) (λ more. Ok (b.value ∷ more)) chunks b.behind in
    let long : suc (length c.value) ≡ length chunks = ap (λ (r : Result (List (List ℕ)) Error). length (chunks_in r)) c.behind in
    absurd (omega arith)
