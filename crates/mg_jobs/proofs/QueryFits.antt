-- The batches of a query fit a reply, where its documents are as small and as flat as stored ones; and chunks with numbers can be sorted.
use Rattle.std.proofs.Common.{◌≡◌, ◌≤◌, ◌+◌, ℕ, zero, suc, ℤ, pos, Bool, true, false, List, [], ◌∷◌, length, take, drop, Option, Some, None, refl, sym, ap, ap₂, subst, inl, inr, arith}
use Rattle.std.specs.Prelude.{if◌then◌else◌, ◌&&◌, codes, is_some, option_and_then}
use Rattle.std.specs.List.{filter}
use Rattle.mg_bson.specs.Tree.{Tree, document, array, int32, int64, string, Fields, field}
use Rattle.mg_bson.specs.Bytes.{fields_bytes, items_bytes, items_depth}
use Rattle.mg_bson.specs.Find.{as_int32, get}
use Rattle.mg_bson.specs.Literal.{◌⇒◌⨾◌, empty}
use Rattle.mg_server.specs.Filter.{matches, meets}
use Rattle.mg_server.specs.Files.{AreChunks, by_number, chunks_space, file_of, has_value, Bucket}
use Rattle.mg_link.specs.Namespace.{Space, full_name}
use Rattle.mg_server.specs.Query.{Key, can_sort, comes_first, have_order, order_by, result, sorted, sorted_in}
use Rattle.mg_server.specs.Rules.{batch_of_query, bytes_of, cursor_fields, documents_of_items, max_batch, max_name, query_cursor}
use Rattle.mg_server.specs.State.{State}
use Rattle.mg_server.specs.Step.{documents_of}
use Rattle.mg_server.proofs.Batched.{is_full}
use Rattle.mg_server.proofs.Chunking.{AreBelow, below_sorted, chunks_below}
use Rattle.mg_gridfs.specs.Downloaded.{chunks_query, record_query}
use Rattle.mg_players.proofs.GetListing.{those_same}
use Rattle.mg_jobs.proofs.Sizes.{IsSmall, events_long, field_long, framed_long, id_long, name_long, ok_long}
use Rattle.mg_jobs.proofs.Stored.{AreShort, IsStored, short_first}

-- ---- what is left of a result

pub short_behind : (n : ℕ) (ds : List Fields) → AreShort ds → AreShort (drop n ds)
short_behind zero ds a = a
short_behind (suc n) [] a = tt
short_behind (suc n) (d ∷ ds) a = short_behind n ds a.1

placed_by : (b : Bool) (d e : Fields) (es rest : List Fields) → IsStored d → AreShort (e ∷ es) → AreShort rest → AreShort (if b then e ∷ rest else d ∷ e ∷ es)
placed_by true d e es rest one a others = (a.0, others)
placed_by false d e es rest one a others = (one, a)

placed_short : (keys : List Key) (d : Fields) (es : List Fields) → IsStored d → AreShort es → AreShort (sorted_in keys d es)
placed_short keys d [] one a = (one, tt)
placed_short keys d (e ∷ es) one a = placed_by (comes_first (order_by keys e d)) d e es (sorted_in keys d es) one a (placed_short keys d es one a.1)

pub sorted_short : (keys : List Key) (ds : List Fields) → AreShort ds → AreShort (sorted keys ds)
sorted_short keys [] a = tt
sorted_short keys (d ∷ ds) a = placed_short keys d (sorted keys ds) a.0 (sorted_short keys ds a.1)

-- ---- a batch

taken_few : (n : ℕ) (ds : List Fields) → length (take n ds) ≤ n
taken_few zero ds = omega arith
taken_few (suc n) [] = omega arith
taken_few (suc n) (d ∷ ds) = let rest = taken_few n ds in omega (arith, rest)

first_few : (ds : List Fields) → AreShort ds → bytes_of (take 1 ds) ≤ max_batch
first_few [] a = omega arith
first_few (d ∷ ds) a = let few = a.0.0 in omega (arith, few)

-- as many documents as it may have, and no more bytes than a document or a batch has
pub record IsModestBatch (size : ℕ) (ds : List Fields) : Type 0 where
  pub many : length ds ≤ size
  pub few : bytes_of ds ≤ max_batch
  pub short : AreShort ds

pub batch_modest : (size : ℕ) (ds : List Fields) → AreShort ds → IsModestBatch size (take (batch_of_query size ds) ds)
batch_modest size ds a =
    let n : ℕ = batch_of_query size ds in
    let full = is_full size ds in
    let some = taken_few n ds in
    let within = full.within.0 in
    record {
      many = omega (arith, some, within);
      few = elim full.fits [ inl few ↦ few | inr one ↦ subst (λ (m : ℕ). bytes_of (take m ds) ≤ max_batch) (sym one) (first_few ds a) ];
      short = short_first n ds a;
    }

-- ---- its reply

given_flat : (ds : List Fields) → AreShort ds → items_depth (documents_of_items ds) ≤ 97
given_flat [] a = omega arith
given_flat (d ∷ ds) a = let rest = given_flat ds a.1 in let flat = a.0.1 in omega (arith, rest, flat)

pub query_small : (id : ℤ) (space : Space) (name : List ℕ) (ds : List Fields) → length name ≤ 10 → length space.db ≤ max_name → length space.coll ≤ max_name → IsModestBatch 101 ds → IsSmall (query_cursor id space name ds)
query_small id space name ds short db coll m =
    let docs : Tree = array (documents_of_items ds) in
    let batch : Fields = field name docs empty in
    let cursor : Tree = document (cursor_fields id space batch) in
    let rest : Fields = "ok" ⇒ int32 (pos 1) ⨾ empty in
    let many = m.many in
    let few = m.few in
    let items = events_long 0 ds (omega (arith, many)) in
    let a = framed_long (items_bytes 0 (documents_of_items ds)) in
    let b = field_long name docs empty in
    let c = field_long (codes "ns") (string (full_name space)) batch in
    let d = field_long (codes "id") (int64 id) ("ns" ⇒ string (full_name space) ⨾ batch) in
    let e = framed_long (fields_bytes (cursor_fields id space batch)) in
    let f = field_long (codes "cursor") cursor rest in
    let g = framed_long (fields_bytes (field (codes "cursor") cursor rest)) in
    let h = name_long space db coll in
    let i = id_long id in
    let j = ok_long in
    let flat = given_flat ds m.short in
    (omega (arith, short, many, few, items, a, b, c, d, e, f, g, h, i, j), omega (arith, flat))

-- ---- numbers

number_is : (o : Option Tree) (z : ℤ) → option_and_then as_int32 o ≡ Some z → o ≡ Some (int32 z)
number_is None z h = absurd cc
number_is (Some (int32 y)) z h = let same : y ≡ z = cc in ap (λ (x : ℤ). Some (int32 x)) same
number_is (Some t) z h = absurd cc

ordered : (d e : Fields) (m n : ℤ) → get (codes "n") d ≡ Some (int32 m) → get (codes "n") e ≡ Some (int32 n) → is_some (order_by by_number d e) ≡ true
ordered d e m n first second = rw (first, second) refl

all_ordered : (k : ℕ) (d : Fields) (m : ℤ) → get (codes "n") d ≡ Some (int32 m) → (es : List Fields) → AreBelow k es → have_order by_number d es ≡ true
all_ordered k d m first [] below = refl
all_ordered k d m first (e ∷ es) below =
    let n = below.0 in
    ap₂ (λ (a b : Bool). a && b) (ordered d e m (pos n.0) first (number_is (get (codes "n") e) (pos n.0) n.1)) (all_ordered k d m first es below.1)

numbers_sort : (k : ℕ) (ds : List Fields) → AreBelow k ds → can_sort by_number ds ≡ true
numbers_sort k [] below = refl
numbers_sort k (d ∷ ds) below = let n = below.0 in all_ordered k d (pos n.0) (number_is (get (codes "n") d) (pos n.0) n.1) (d ∷ ds) below

-- ---- the results of a get's queries

-- the records that have an id, the first one alone
pub record_found : (s : State) (space : Space) (id : Tree) → result s (record_query space id) ≡ Some (take 1 (filter (matches (has_value (codes "_id") id ∷ [])) (documents_of s space)))
unfolding result
record_found s space id = refl

-- the chunks of a file, in order, where they are such
pub chunks_found : (s : State) (at : Bucket) (id : Tree) (n : ℕ) (cs : List (List ℕ)) → AreChunks n cs (file_of s at id).chunks
    → result s (chunks_query (chunks_space at) id) ≡ Some (sorted by_number (filter (matches (has_value (codes "files_id") id ∷ [])) (documents_of s (chunks_space at))))
unfolding result file_of
chunks_found s at id n cs are =
    let c = has_value (codes "files_id") id in
    let ds : List Fields = documents_of s (chunks_space at) in
    let xs : List Fields = filter (matches (c ∷ [])) ds in
    let many : n + length cs ≤ n + length cs = omega arith in
    let below = below_sorted (n + length cs) (filter (meets c) ds) (chunks_below n (n + length cs) cs (sorted by_number (filter (meets c) ds)) are many) in
    let sorts : can_sort by_number xs ≡ true = numbers_sort (n + length cs) xs (subst (AreBelow (n + length cs)) (sym (those_same c ds)) below) in
    ap (λ (b : Bool). option_and_then (λ (l : List Fields). Some l) (if b then Some (sorted by_number xs) else None)) sorts
