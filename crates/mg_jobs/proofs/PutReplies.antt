-- What the rules of the store reply to the commands of a put whose collections have short names: they refuse none of them, but the creation of a collection that is there, and give the list of a bucket's indexes whole.
use Rattle.std.proofs.Common.{◌≡◌, ◌⊎◌, ◌≤◌, ◌+◌, ℕ, zero, suc, ℤ, pos, Bool, true, List, [], ◌∷◌, length, take, drop, map, Option, Some, None, Result, Ok, Err, refl, sym, ap, ap₂, ◌∙◌, subst, inl, inr, arith}
use Rattle.std.specs.Fmt.{digits}
use Rattle.std.specs.Prelude.{if◌then◌else◌, ◌&&◌, codes, is_some, nat_le, option_and_then, option_map, unwrap_or}
use Rattle.std.specs.List.{filter, list_all}
use Rattle.std.specs.Str.{bytes_eq}
use Rattle.std.proofs.lemmas.Bool.{cases_Bool, cases_lt, le-leb}
use Rattle.std.proofs.lemmas.Slice.Eq.{bytes_eq-Decides}
use Rattle.mg_bson.specs.Bytes.{bytes, fields_bytes, fields_depth, le32, levels, value_bytes}
use Rattle.mg_bson.specs.Find.{get}
use Rattle.mg_bson.specs.Literal.{◌⇒◌⨾◌, empty}
use Rattle.mg_bson.specs.Raw.{fields}
use Rattle.mg_bson.specs.Tree.{Fields, Tree, field, no_fields}
use Rattle.mg_server.specs.Commands.{Asked, Told, asked, asks_create, asks_query, deleted, done, opened, refuses, told, told_by}
use Rattle.mg_server.specs.Files.{has_value}
use Rattle.mg_server.specs.Filter.{Condition, matches}
use Rattle.mg_link.specs.Namespace.{Space}
use Rattle.mg_server.specs.Prompt.{IsRefused}
use Rattle.mg_server.specs.Query.{Query, id_alone, id_index, index_listed, limits, of_collection, result, selects, shows_id, through}
use Rattle.mg_link.specs.Reply.{verdict_of}
use Rattle.mg_server.specs.Rules.{Answer, Request, answer, answer_of, answer_with, bad_request, batch_of_query, bytes_of, collection_exists, create_collection, create_indexes, create_request, delete, delete_request, deleted_entries, deleted_event, deleted_reply, done_reply, events_may_be_given, find, find_request, fitting, id_while, indexes_request, list_indexes_request, map_ok, max_document, max_given_levels, may_stay, named_space, no_such_collection, or_code, query_reply, refused, request_of, where_ok}
use Rattle.mg_server.specs.State.{Collection, Entry, Index, State, collection_in, indexes_of}
use Rattle.mg_server.specs.Step.{documents_of}
use Rattle.mg_server.specs.Write.{chosen, with_indexes}
use Rattle.mg_server.proofs.Batched.{is_full}
use Rattle.mg_server.proofs.Requests.{asked_is, asks_of}
use Rattle.mg_server.proofs.Telling.{created_tells, deleted_tells, indexed_tells, refusal_tells, told_reads}
use Rattle.mg_options.specs.Fields.{fields_in}
use Rattle.mg_ops.specs.Bodies.{create_body, create_indexes_body, delete_body, find_body, list_indexes_body}
use Rattle.mg_ops.specs.Plain.{plain_delete, plain_index, plain_indexes}
use Rattle.mg_chunks.specs.Filters.{of_file}
use Rattle.mg_gridfs.specs.Commands.{any_options}
use Rattle.mg_gridfs.specs.Cursors.{indexes_query}
use Rattle.mg_gridfs.specs.Indexes.{keys_of}
use Rattle.mg_gridfs.specs.declared.indexes.Place.{Place}
use Rattle.mg_gridfs.specs.declared.indexes.Place.TheVariants as which
use Rattle.mg_jobs.specs.Completing.{HasShortNames}
use Rattle.mg_jobs.proofs.IndexesMade.{AreOfBucket, HaveOfBucket, HasCollection, chunks, chunks_first, files, files_first, indexes_there, none, one_more}
use Rattle.mg_jobs.proofs.Makers.{bucket_index}
use Rattle.mg_jobs.proofs.QueryTaken.{find_told, first_batch, takes_space}
use Rattle.mg_jobs.proofs.Replying.{fits, small_none}
use Rattle.mg_jobs.proofs.Sizes.{IsSmall, field_long, framed_long, part_of}
use Rattle.mg_jobs.proofs.Stored.{AreShort, HaveShort, IsStored, chosen_short, documents_short, matching_short, short_first}
use Rattle.mg_jobs.proofs.WatchTaken.{TakesSpace}

-- ---- what is read

-- one record with its id alone
abbrev pub any_query : Space → Query
any_query space = record { source = of_collection space; stages = selects [] ∷ limits 1 ∷ shows_id ∷ []; single = true; size = None }

any_read : (space : Space) → TakesSpace space → request_of (fields_in (find_body space empty (any_options None) None)) ≡ Ok (find (any_query space))
unfolding find_request named_space
any_read space t = rw (t.db, t.plain, t.coll) refl

creation_read : (space : Space) → TakesSpace space → request_of (fields_in (create_body space None None)) ≡ Ok (create_collection space)
unfolding create_request named_space
creation_read space t = rw (t.db, t.plain, t.coll) refl

listing_read : (space : Space) → TakesSpace space → request_of (fields_in (list_indexes_body space plain_indexes None)) ≡ Ok (find (indexes_query space))
unfolding list_indexes_request named_space
listing_read space t = rw (t.db, t.plain, t.coll) refl

index_read : (space : Space) (at : Place) → TakesSpace space → request_of (fields_in (create_indexes_body space (keys_of at) (plain_index None) None)) ≡ Ok (create_indexes space (bucket_index at ∷ []))
unfolding indexes_request named_space digits
index_read space which.Files t = rw (t.db, t.plain, t.coll) refl
index_read space which.Chunks t = rw (t.db, t.plain, t.coll) refl

removal_read : (space : Space) (id : Tree) → TakesSpace space → request_of (fields_in (delete_body space (of_file id) true (plain_delete None) None)) ≡ Ok (delete space (has_value (codes "files_id") id ∷ []) true)
unfolding delete_request named_space
removal_read space id t = rw (t.db, t.plain, t.coll) refl

-- ---- the sizes of indexes

id_stored : IsStored (index_listed id_index)
unfolding le32
id_stored = (omega arith, omega arith)

index_stored : (at : Place) → IsStored (index_listed (bucket_index at))
unfolding le32
index_stored which.Files = (omega arith, omega arith)
index_stored which.Chunks = (omega arith, omega arith)

id_long : length (bytes (index_listed id_index)) ≤ 1000
unfolding le32
id_long = omega arith

index_long : (at : Place) → length (bytes (index_listed (bucket_index at))) ≤ 1000
unfolding le32
index_long which.Files = omega arith
index_long which.Chunks = omega arith

stays : (at : Place) → may_stay (index_listed (bucket_index at)) ≡ true
stays at =
    let d : Fields = index_listed (bucket_index at) in
    let stored = index_stored at in
    let few = stored.0 in
    let flat = stored.1 in
    ap₂ (λ (a b : Bool). a && b) (le-leb (length (bytes d)) max_document few) (le-leb (levels d) max_given_levels (omega (arith, flat)))

abbrev all_stay : List Index → Bool
all_stay is = list_all (λ (i : Index). may_stay (index_listed i)) is

one_stays : (at : Place) → all_stay (bucket_index at ∷ []) ≡ true
one_stays at = ap (λ (b : Bool). b && true) (stays at)

two_stay : (first second : Place) → all_stay (bucket_index first ∷ bucket_index second ∷ []) ≡ true
two_stay first second = ap₂ (λ (a b : Bool). a && b) (stays first) (one_stays second)

-- they may all stay
buckets_stay : (is : List Index) → AreOfBucket is → all_stay is ≡ true
buckets_stay is (none e) = ap all_stay e
buckets_stay is (files e) = ap all_stay e ∙ one_stays which.Files
buckets_stay is (chunks e) = ap all_stay e ∙ one_stays which.Chunks
buckets_stay is (files_first e) = ap all_stay e ∙ two_stay which.Files which.Chunks
buckets_stay is (chunks_first e) = ap all_stay e ∙ two_stay which.Chunks which.Files

abbrev listed : List Index → List Fields
listed is = map index_listed (id_index ∷ is)

-- and they are listed in one batch
record IsShortList (ds : List Fields) : Type 0 where
  stored : AreShort ds
  few : length ds ≤ 3
  long : bytes_of ds ≤ 3000

buckets_short : (is : List Index) → AreOfBucket is → IsShortList (listed is)
buckets_short is (none e) = subst (λ (l : List Index). IsShortList (listed l)) (sym e) (let a = id_long in record { stored = (id_stored, tt); few = omega arith; long = omega (arith, a) })
buckets_short is (files e) =
    subst (λ (l : List Index). IsShortList (listed l)) (sym e)
    (let a = id_long in let b = index_long which.Files in record { stored = (id_stored, (index_stored which.Files, tt)); few = omega arith; long = omega (arith, a, b) })
buckets_short is (chunks e) =
    subst (λ (l : List Index). IsShortList (listed l)) (sym e)
    (let a = id_long in let b = index_long which.Chunks in record { stored = (id_stored, (index_stored which.Chunks, tt)); few = omega arith; long = omega (arith, a, b) })
buckets_short is (files_first e) =
    subst (λ (l : List Index). IsShortList (listed l)) (sym e)
    (let a = id_long in let b = index_long which.Files in let c = index_long which.Chunks in record { stored = (id_stored, (index_stored which.Files, (index_stored which.Chunks, tt))); few = omega arith; long = omega (arith, a, b, c) })
buckets_short is (chunks_first e) =
    subst (λ (l : List Index). IsShortList (listed l)) (sym e)
    (let a = id_long in let b = index_long which.Chunks in let c = index_long which.Files in record { stored = (id_stored, (index_stored which.Chunks, (index_stored which.Files, tt))); few = omega arith; long = omega (arith, a, b, c) })

front_long : (n : ℕ) (ds : List Fields) → bytes_of (take n ds) ≤ bytes_of ds
front_long zero ds = omega arith
front_long (suc n) [] = omega arith
front_long (suc n) (d ∷ ds) = let rest = front_long n ds in omega (arith, rest)

none_behind : (n : ℕ) (ds : List Fields) → length ds ≤ n → drop n ds ≡ []
none_behind zero [] less = refl
none_behind zero (d ∷ ds) less = absurd (omega (arith, less))
none_behind (suc n) [] less = refl
none_behind (suc n) (d ∷ ds) less = none_behind n ds (omega (arith, less))

one_batch : (ds : List Fields) → length ds ≤ 3 → bytes_of ds ≤ 3000 → drop (batch_of_query 101 ds) ds ≡ []
one_batch ds few long =
    let n : ℕ = batch_of_query 101 ds in
    let full = is_full 101 ds in
    elim (cases_lt n (length ds)) [
      | inl less ↦
          let more = full.full (omega (arith, less, few)) less in
          let front = front_long (suc n) ds in
          absurd (omega (arith, more, front, long))
      | inr not ↦ none_behind n ds (omega (arith, not))
    ]

-- ---- an id alone

part_long : (name : List ℕ) (fs : Fields) (t : Tree) → get name fs ≡ Some t → 2 + length name + length (value_bytes t) ≤ length (fields_bytes fs)
part_long name no_fields t is = absurd cc
part_long name (field k u fs) t is =
    let long = field_long k u fs in
    elim (cases_Bool (bytes_eq k name)) [
      | inl same ↦
          let there : Some u ≡ Some t = sym (ap (λ (b : Bool). if b then Some u else get name fs) same) ∙ is in
          let one : u ≡ t = cc in
          let value = ap (λ (x : Tree). length (value_bytes x)) one in
          let named = ap length ((bytes_eq-Decides k name).0 same) in
          omega (arith, long, value, named)
      | inr other ↦
          let rest = part_long name fs t (sym (ap (λ (b : Bool). if b then Some u else get name fs) other) ∙ is) in
          omega (arith, long, rest)
    ]

empty_stored : IsStored empty
unfolding le32
empty_stored = (omega arith, omega arith)

alone_by : (d : Fields) (o : Option Tree) → get (codes "_id") d ≡ o → IsStored d → IsStored (id_alone o)
alone_by d None is stored = empty_stored
alone_by d (Some id) is stored =
    let long = part_long (codes "_id") d id is in
    let flat = (part_of (codes "_id") d id is).flat in
    let whole = framed_long (fields_bytes d) in
    let framed = framed_long (fields_bytes ("_id" ⇒ id ⨾ empty)) in
    let one = field_long (codes "_id") id empty in
    let few = stored.0 in
    let low = stored.1 in
    (omega (arith, long, whole, framed, one, few), omega (arith, flat, low))

alone_short : (ds : List Fields) → AreShort ds → AreShort (map (λ (d : Fields). id_alone (get (codes "_id") d)) ds)
alone_short [] a = tt
alone_short (d ∷ ds) a = (alone_by d (get (codes "_id") d) refl a.0, alone_short ds a.1)

any_found : (s : State) (space : Space) → result s (any_query space) ≡ Some (map (λ (d : Fields). id_alone (get (codes "_id") d)) (take 1 (filter (matches []) (documents_of s space))))
unfolding result
any_found s space = refl

-- ---- the event of a delete

key_flat : (d : Fields) (o : Option Tree) → get (codes "_id") d ≡ o → fields_depth (id_alone o) ≤ fields_depth d
key_flat d None is = omega arith
key_flat d (Some id) is = let flat = (part_of (codes "_id") d id is).flat in omega (arith, flat)

event_flat : (n : ℕ) (space : Space) (d : Fields) → IsStored d → levels (deleted_event n space d) ≤ max_given_levels
event_flat n space d stored =
    let key = key_flat d (get (codes "_id") d) refl in
    let flat = stored.1 in
    omega (arith, key, flat)

events_given : (n : ℕ) (space : Space) (ds : List Fields) → AreShort ds → events_may_be_given (deleted_entries n space ds) ≡ true
events_given n space [] a = refl
events_given n space (d ∷ ds) a = ap₂ (λ (a b : Bool). a && b) (le-leb (levels (deleted_event (suc n) space d)) max_given_levels (event_flat (suc n) space d a.0)) (events_given (suc n) space ds a.1)

-- ---- replies

done_small : IsSmall done_reply
unfolding le32
done_small = (omega arith, omega arith)

deleted_small : (n : ℕ) → IsSmall (deleted_reply n)
deleted_small n = small_none (nat_le n 2147483647) n

module _ (s : State) (given : ℕ) (command reply : List ℕ) (read : fields reply ≡ (answer_of s (pos (suc given)) (fields command)).reply) where
  answers : (r : Request) (a : Answer) → request_of (fields command) ≡ Ok r → answer s (pos (suc given)) r ≡ Ok a → IsSmall a.reply → answer_of s (pos (suc given)) (fields command) ≡ a
  unfolding answer_of
  answers r a reads says small = ap (λ (x : Result Request ℤ). fitting (where_ok (answer s (pos (suc given))) x)) reads ∙ ap fitting says ∙ fits a small

  refuses_by : (r : Request) (code : ℤ) → request_of (fields command) ≡ Ok r → answer s (pos (suc given)) r ≡ Err code → answer_of s (pos (suc given)) (fields command) ≡ refused code
  unfolding answer_of
  refuses_by r code reads says = ap (λ (x : Result Request ℤ). fitting (where_ok (answer s (pos (suc given))) x)) reads ∙ ap fitting says

  tells_by : (r : Request) (a : Answer) (t : Told) → request_of (fields command) ≡ Ok r → answer_of s (pos (suc given)) (fields command) ≡ a → told_by (verdict_of a.reply) (asks_of r) a.reply ≡ t → told (asked command) reply ≡ t
  tells_by r a t reads is tells = ap (λ (x : Asked). told x reply) (asked_is command r reads) ∙ told_reads (asks_of r) reply a.reply (read ∙ ap (λ (x : Answer). x.reply) is) ∙ tells

  -- ---- a creation

  module _ (space : Space) (takes : TakesSpace space) where
    creation_by : (o : Option Collection) → collection_in s.collections space ≡ o → request_of (fields command) ≡ Ok (create_collection space) → (told (asked command) reply ≡ done) ⊎ (HasCollection s.collections space × (told (asked command) reply ≡ refuses collection_exists []))
    creation_by None is reads =
        let says : answer s (pos (suc given)) (create_collection space) ≡ Ok (answer_with [] done_reply) = ap (λ (o : Option Collection). if is_some o then Err collection_exists else Ok (answer_with [] done_reply)) is in
        inl (tells_by (create_collection space) (answer_with [] done_reply) done reads (answers (create_collection space) (answer_with [] done_reply) reads says done_small) (created_tells space))
    creation_by (Some c) is reads =
        let says : answer s (pos (suc given)) (create_collection space) ≡ Err collection_exists = ap (λ (o : Option Collection). if is_some o then Err collection_exists else Ok (answer_with [] done_reply)) is in
        inr (record { collection = c; there = is }, tells_by (create_collection space) (refused collection_exists) (refuses collection_exists []) reads (refuses_by (create_collection space) collection_exists reads says) (refusal_tells (asks_create space) collection_exists []))

    -- it is created, or it is there and that is said
    pub creation_told : fields command ≡ fields_in (create_body space None None) → (told (asked command) reply ≡ done) ⊎ (HasCollection s.collections space × (told (asked command) reply ≡ refuses collection_exists []))
    creation_told is = creation_by (collection_in s.collections space) refl (ap request_of is ∙ creation_read space takes)

    -- ---- an index

    pub index_told : (at : Place) → HaveOfBucket s.collections → fields command ≡ fields_in (create_indexes_body space (keys_of at) (plain_index None) None) → told (asked command) reply ≡ done
    index_told at have is =
        let indexes : List Index = bucket_index at ∷ [] in
        let reads : request_of (fields command) ≡ Ok (create_indexes space indexes) = ap request_of is ∙ index_read space at takes in
        let stay = buckets_stay (with_indexes (indexes_of s space) indexes) (one_more at (indexes_of s space) (indexes_there s space have)) in
        let says : answer s (pos (suc given)) (create_indexes space indexes) ≡ Ok (answer_with [] done_reply) = ap (λ (b : Bool). if b then Ok (answer_with [] done_reply) else Err bad_request) stay in
        tells_by (create_indexes space indexes) (answer_with [] done_reply) done reads (answers (create_indexes space indexes) (answer_with [] done_reply) reads says done_small) (indexed_tells space indexes)

    -- ---- a removal

    pub removal_told : (id : Tree) → HaveShort s.collections → fields command ≡ fields_in (delete_body space (of_file id) true (plain_delete None) None) → (n : ℤ) × (told (asked command) reply ≡ deleted n [])
    removal_told id short is =
        let conditions : List Condition = has_value (codes "files_id") id ∷ [] in
        let reads : request_of (fields command) ≡ Ok (delete space conditions true) = ap request_of is ∙ removal_read space id takes in
        let gone : List Fields = chosen conditions true (documents_of s space) in
        let entries : List Entry = deleted_entries (length s.changes) space gone in
        let may = events_given (length s.changes) space gone (chosen_short conditions true (documents_of s space) (documents_short s space short)) in
        let a : Answer = answer_with entries (deleted_reply (length gone)) in
        let says : answer s (pos (suc given)) (delete space conditions true) ≡ Ok a = ap (λ (b : Bool). if b then Ok a else Err bad_request) may in
        (pos (length gone), tells_by (delete space conditions true) a (deleted (pos (length gone)) []) reads (answers (delete space conditions true) a reads says (deleted_small (length gone))) (deleted_tells space conditions true (length gone)))

  -- ---- a find of any record

  pub any_told : (space : Space) → HasShortNames space → HaveShort s.collections → fields command ≡ fields_in (find_body space empty (any_options None) None) → (events : List Fields) × (told (asked command) reply ≡ opened (pos 0) space events None None)
  any_told space names short is =
      let found : List Fields = map (λ (d : Fields). id_alone (get (codes "_id") d)) (take 1 (filter (matches []) (documents_of s space))) in
      let stored = alone_short (take 1 (filter (matches []) (documents_of s space))) (short_first 1 (filter (matches []) (documents_of s space)) (matching_short [] (documents_of s space) (documents_short s space short))) in
      (first_batch s given (any_query space) found (any_found s space) refl names stored, find_told s given (any_query space) found (any_found s space) refl names stored command reply (ap request_of is ∙ any_read space (takes_space space names)) read)

  -- ---- a list of indexes

  listing_by : (space : Space) → TakesSpace space → fields command ≡ fields_in (list_indexes_body space plain_indexes None) → (IsRefused (told (asked command) reply) → ⊥) → (o : Option Collection) → collection_in s.collections space ≡ o → HasCollection s.collections space
  listing_by space takes is granted None gone =
      let q : Query = indexes_query space in
      let reads : request_of (fields command) ≡ Ok (find q) = ap request_of is ∙ listing_read space takes in
      let says : answer s (pos (suc given)) (find q) ≡ Err no_such_collection
      = ap (λ (o : Option Collection). where_ok (λ ds. map_ok (λ found. answer_with [] (query_reply (pos (suc given)) q found)) (or_code bad_request (through q.stages ds))) (or_code no_such_collection (option_map (λ (c : Collection). map index_listed (id_index ∷ c.indexes)) o))) gone in
      let tells = tells_by (find q) (refused no_such_collection) (refuses no_such_collection []) reads (refuses_by (find q) no_such_collection reads says) (refusal_tells (asks_query q) no_such_collection []) in
      absurd (granted (subst IsRefused (sym tells) tt))
  listing_by space takes is granted (Some c) found = record { collection = c; there = found }

  -- a list that is given is of a collection that is there
  pub listing_there : (space : Space) → HasShortNames space → fields command ≡ fields_in (list_indexes_body space plain_indexes None) → (IsRefused (told (asked command) reply) → ⊥) → HasCollection s.collections space
  listing_there space names is granted = listing_by space (takes_space space names) is granted (collection_in s.collections space) refl

  module _ (space : Space) (names : HasShortNames space) (there : HasCollection s.collections space) (have : HaveOfBucket s.collections) (is : fields command ≡ fields_in (list_indexes_body space plain_indexes None)) where
    abbrev its : List Index
    its = there.collection.indexes

    its_are : AreOfBucket its
    its_are = subst AreOfBucket (ap (λ (o : Option Collection). unwrap_or (option_map (λ (c : Collection). c.indexes) o) []) there.there) (indexes_there s space have)

    its_found : result s (indexes_query space) ≡ Some (listed its)
    unfolding result
    its_found = ap (λ (o : Option Collection). option_and_then (through []) (option_map (λ (c : Collection). map index_listed (id_index ∷ c.indexes)) o)) there.there

    -- it comes whole
    pub listing_told : (events : List Fields) × (told (asked command) reply ≡ opened (pos 0) space events None None)
    listing_told =
        let short = buckets_short its its_are in
        let reads = ap request_of is ∙ listing_read space (takes_space space names) in
        let tells = find_told s given (indexes_query space) (listed its) its_found refl names short.stored command reply reads read in
        let events : List Fields = first_batch s given (indexes_query space) (listed its) its_found refl names short.stored in
        let ends : id_while (pos (suc given)) (drop (batch_of_query 101 (listed its)) (listed its)) ≡ pos 0 = ap (id_while (pos (suc given))) (one_batch (listed its) short.few short.long) in
        (events, tells ∙ ap (λ (x : ℤ). opened x space events None None) ends)
