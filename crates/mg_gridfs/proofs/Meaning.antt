-- What the commands of an upload ask a server for, and what they make of its file.
use Rattle.std.proofs.Common.{◌≡◌, ◌⊎◌, ℕ, suc, ℤ, pos, Bool, true, false, List, [], ◌∷◌, ◌++◌, length, Option, Some, None, refl, sym, ap, ◌∙◌, subst, inl, inr}
use Rattle.std.specs.Fmt.{digits}
use Rattle.std.specs.Prelude.{◌||◌, codes, if◌then◌else◌, option_map, unwrap_or}
use Rattle.std.proofs.lemmas.Slice.Eq.{bytes_eq-Decides}
use Rattle.mg_bson.specs.Raw.{fields}
use Rattle.mg_bson.specs.Reading.{◌>>=◌}
use Rattle.mg_bson.specs.Tree.{Fields, Tree}
use Rattle.mg_server.specs.Commands.{Asked, asked, asked_by, asks_create, asks_delete, asks_indexes, asks_insert, asks_more, asks_other, asks_query, find_fields, find_of, find_query, has_only, space_at, told}
use Rattle.mg_link.specs.Exec.{IsSuccess}
use Rattle.mg_server.specs.Files.{AreChunks, Bucket, Spares, chunks_space, files_space, has_value, with_value}
use Rattle.mg_server.specs.Filing.{Clears, HasDeleted, HasInserted, Leaves, Makes, part, whole_with}
use Rattle.mg_server.specs.Filter.{key, meets}
use Rattle.mg_link.specs.Namespace.{Space}
use Rattle.mg_server.specs.Query.{Query, of_indexes}
use Rattle.mg_server.proofs.Chunking.{file_deleted, file_inserted, file_recorded}
use Rattle.mg_server.proofs.Files.{parts_stay, spared_stay}
use Rattle.mg_options.specs.Fields.{fields_in}
use Rattle.mg_ops.specs.Naming.{IsNamed}
use Rattle.mg_ops.specs.Pieces.{keys_onto}
use Rattle.mg_ops.specs.Writes.{Inserted, Wrote, count_of}
use Rattle.mg_ops.proofs.Asking.{asks_to_insert}
use Rattle.mg_ops.proofs.AskingMore.{asks_for_indexes, asks_to_create, asks_to_delete, asks_to_index}
use Rattle.mg_ops.proofs.Replying.{tells_of_delete, tells_of_insert}
use Rattle.mg_gridfs.specs.Buckets.{ClientBucket, IsAt}
use Rattle.mg_chunks.specs.Filters.{of_file}
use Rattle.mg_gridfs.specs.Commands.{any_lines, chunk_document, chunk_documents, chunks_lines, creation_lines, deletion_lines, index_lines, insert_options, listing_lines, record_lines}
use Rattle.mg_gridfs.specs.Indexes.{keys_of, space_in}
use Rattle.mg_gridfs.specs.Uploads.{Aim, Ending, record_of}
use Rattle.mg_gridfs.specs.declared.indexes.Place.{Place}
use Rattle.mg_gridfs.specs.declared.indexes.Place.TheVariants as place

-- ---- documents

-- a chunk is of its file
its_chunk : (id : List ℕ) (file : Tree) (n : ℕ) (bytes : List ℕ) → meets (has_value (codes "files_id") file) (chunk_document id file n bytes) ≡ true
its_chunk id file n bytes = ap (λ (t : Bool). t || false) ((bytes_eq-Decides (key file) (key file)).1 refl)

pub its_chunks : (ids : ℕ → List ℕ) (k : ℕ) (file : Tree) (n : ℕ) (cs : List (List ℕ)) → with_value (codes "files_id") file (chunk_documents ids k file n cs) ≡ chunk_documents ids k file n cs
its_chunks ids k file n [] = refl
its_chunks ids k file n (c ∷ cs) =
    ap (λ (t : Bool). if t then chunk_document (ids k) file n c ∷ with_value (codes "files_id") file (chunk_documents ids (suc k) file (suc n) cs) else with_value (codes "files_id") file (chunk_documents ids (suc k) file (suc n) cs)) (its_chunk (ids k) file n c)
    ∙ ap (λ (l : List Fields). chunk_document (ids k) file n c ∷ l) (its_chunks ids (suc k) file (suc n) cs)

-- and has its number and its bytes
pub are_chunks : (ids : ℕ → List ℕ) (k : ℕ) (file : Tree) (n : ℕ) (cs : List (List ℕ)) → AreChunks n cs (chunk_documents ids k file n cs)
are_chunks ids k file n [] = tt
are_chunks ids k file n (c ∷ cs) = (record { number_is = refl; data_is = refl }, are_chunks ids (suc k) file (suc n) cs)

its_record : (aim : Aim) (ending : Ending) → meets (has_value (codes "_id") aim.id) (record_of aim ending) ≡ true
its_record aim ending = ap (λ (t : Bool). t || false) ((bytes_eq-Decides (key aim.id) (key aim.id)).1 refl)

-- ---- writes

module _ (b : ClientBucket) (at : Bucket) (stands : IsAt b at) where
  asks_chunks : (command : List ℕ) (documents : List Fields) → IsNamed b.chunks → fields command ≡ fields_in (chunks_lines b documents) → asked command ≡ asks_insert (chunks_space at) documents true
  asks_chunks command documents named is =
      asks_to_insert command b.chunks documents (insert_options b.writes) None named is ∙ ap (λ (s : Space). asks_insert s documents true) stands.chunks

  -- Chunks that are inserted stand behind those before.
  pub chunks_make : (id : Tree) (command : List ℕ) (documents : List Fields) (cs cs' : List (List ℕ)) (chunks : List Fields) → IsNamed b.chunks → fields command ≡ fields_in (chunks_lines b documents) → AreChunks 0 cs chunks → AreChunks (length cs) cs' documents
      → with_value (codes "files_id") id documents ≡ documents → Makes command at id (part chunks) (part (chunks ++ documents))
  chunks_make id command documents cs cs' chunks named is are more its s step same may told_so was =
      file_inserted s step at id may documents true told_so.0 cs cs' chunks (ap asked same ∙ asks_chunks command documents named is) told_so.1 are more its was

  -- The record is inserted where none was.
  pub record_makes : (aim : Aim) (ending : Ending) (command : List ℕ) (chunks : List Fields) → aim.bucket ≡ b → IsNamed b.files → fields command ≡ fields_in (record_lines b (record_of aim ending)) → Makes command at aim.id (part chunks) (whole_with (record_of aim ending) chunks)
  record_makes aim ending command chunks same_bucket named is s step same may told_so was =
      let asks : asked step.command ≡ asks_insert (files_space at) (record_of aim ending ∷ []) true
      = ap asked same ∙ asks_to_insert command b.files (record_of aim ending ∷ []) (insert_options b.writes) None named is ∙ ap (λ (sp : Space). asks_insert sp (record_of aim ending ∷ []) true) stands.files in
      file_recorded s step at aim.id may (record_of aim ending) true told_so.0 chunks asks told_so.1 (its_record aim ending) was

  -- The removal leaves no chunk.
  pub deletion_clears : (id : Tree) (command : List ℕ) → IsNamed b.chunks → fields command ≡ fields_in (deletion_lines b id) → Clears command at id
  deletion_clears id command named is s step same may told_so =
      let asks : asked step.command ≡ asks_delete (chunks_space at) (has_value (codes "files_id") id ∷ []) true
      = ap asked same ∙ asks_to_delete command b.chunks (of_file id) (has_value (codes "files_id") id ∷ []) true b.writes None named refl is ∙ ap (λ (sp : Space). asks_delete sp (has_value (codes "files_id") id ∷ []) true) stands.chunks in
      file_deleted s step at id may told_so.0 asks told_so.1

  -- ---- their replies

  pub inserts_told : (command : List ℕ) (documents : List Fields) (reply : List ℕ) (count n : ℕ) → IsNamed b.chunks → fields command ≡ fields_in (chunks_lines b documents) → IsSuccess reply → Inserted count (fields reply) n → HasInserted (told (asked command) reply)
  inserts_told command documents reply count n named is success i =
      (pos n, ap (λ (a : Asked). told a reply) (asks_chunks command documents named is) ∙ tells_of_insert (chunks_space at) documents true reply count n success i)

  pub record_told : (aim : Aim) (ending : Ending) (command reply : List ℕ) (count n : ℕ) → IsNamed b.files → fields command ≡ fields_in (record_lines b (record_of aim ending)) → IsSuccess reply → Inserted count (fields reply) n → HasInserted (told (asked command) reply)
  record_told aim ending command reply count n named is success i =
      (pos n, ap (λ (a : Asked). told a reply) (asks_to_insert command b.files (record_of aim ending ∷ []) (insert_options b.writes) None named is) ∙ tells_of_insert b.files (record_of aim ending ∷ []) true reply count n success i)

  pub deletion_told : (id : Tree) (command reply : List ℕ) (n : ℕ) → IsNamed b.chunks → fields command ≡ fields_in (deletion_lines b id) → IsSuccess reply → Wrote (count_of (fields reply)) (fields reply) n → HasDeleted (told (asked command) reply)
  deletion_told id command reply n named is success w =
      (pos n, ap (λ (a : Asked). told a reply) (asks_to_delete command b.chunks (of_file id) (has_value (codes "files_id") id ∷ []) true b.writes None named refl is) ∙ tells_of_delete b.chunks (has_value (codes "files_id") id ∷ []) true reply n success w)

-- ---- the index check

-- a command that writes no document of a file leaves it
pub leaves_by : (command : List ℕ) (at : Bucket) (id : Tree) (a : Asked) → asked command ≡ a → Spares a (files_space at) (has_value (codes "_id") id) → Spares a (chunks_space at) (has_value (codes "files_id") id) → Leaves command at id
leaves_by command at id a asks records chunks s step same may =
    let is : asked step.command ≡ a = ap asked same ∙ asks in
    parts_stay s step at id
    (spared_stay s step (files_space at) (has_value (codes "_id") id) may (subst (λ (x : Asked). Spares x (files_space at) (has_value (codes "_id") id)) (sym is) records))
    (spared_stay s step (chunks_space at) (has_value (codes "files_id") id) may (subst (λ (x : Asked). Spares x (chunks_space at) (has_value (codes "files_id") id)) (sym is) chunks))

-- a find asks for a query, or for nothing that has a meaning
abbrev pub IsReading : Asked → Type 0
IsReading a = ((q : Query) × (a ≡ asks_query q)) ⊎ (a ≡ asks_other)

reads_query : (o : Option Query) → IsReading (unwrap_or (option_map asks_query o) asks_other)
reads_query None = inr refl
reads_query (Some q) = inl (q, refl)

pub find_reads : (fs : Fields) → IsReading (unwrap_or (find_of fs) asks_other)
unfolding find_of
find_reads fs =
    elim (has_only find_fields fs) as (λ t. IsReading (unwrap_or (if t then option_map asks_query (space_at (codes "find") fs >>= find_query fs) else None) asks_other)) [
      | true ↦ reads_query (space_at (codes "find") fs >>= find_query fs)
      | false ↦ inr refl
    ]

pub any_reads : (b : ClientBucket) (command : List ℕ) → fields command ≡ fields_in (any_lines b) → IsReading (asked command)
unfolding asked
any_reads b command is = subst (λ (fs : Fields). IsReading (unwrap_or (asked_by fs) asks_other)) (sym is) (find_reads (fields_in (any_lines b)))

pub read_leaves : (command : List ℕ) (at : Bucket) (id : Tree) → IsReading (asked command) → Leaves command at id
read_leaves command at id (inl q) = leaves_by command at id (asks_query q.0) q.1 tt tt
read_leaves command at id (inr other) = leaves_by command at id asks_other other tt tt

pub any_leaves : (b : ClientBucket) (at : Bucket) (id : Tree) (command : List ℕ) → fields command ≡ fields_in (any_lines b) → Leaves command at id
any_leaves b at id command is = read_leaves command at id (any_reads b command is)

pub named_in : (b : ClientBucket) (k : Place) → IsNamed b.files → IsNamed b.chunks → IsNamed (space_in b k)
named_in b place.Files files chunks = files
named_in b place.Chunks files chunks = chunks

-- the name of each index
abbrev pub index_named : Place → List ℕ
index_named place.Files = codes "filename_1_uploadDate_1"
index_named place.Chunks = codes "files_id_1_n_1"

pub has_name : (k : Place) → keys_onto [] (keys_of k) ≡ Some (index_named k)
unfolding digits
has_name place.Files = refl
has_name place.Chunks = refl

module _ (b : ClientBucket) (at : Bucket) (id : Tree) (files : IsNamed b.files) (chunks : IsNamed b.chunks) where
  pub creation_leaves : (k : Place) (command : List ℕ) → fields command ≡ fields_in (creation_lines b k) → Leaves command at id
  creation_leaves k command is = leaves_by command at id (asks_create (space_in b k)) (asks_to_create command (space_in b k) b.writes None (named_in b k files chunks) is) tt tt

  pub listing_leaves : (k : Place) (command : List ℕ) → fields command ≡ fields_in (listing_lines b k) → Leaves command at id
  listing_leaves k command is =
      leaves_by command at id (asks_query (record { source = of_indexes (space_in b k); stages = []; single = false; size = None })) (asks_for_indexes command (space_in b k) None (named_in b k files chunks) is) tt tt

  pub index_leaves : (k : Place) (command : List ℕ) → fields command ≡ fields_in (index_lines b k) → Leaves command at id
  index_leaves k command is =
      leaves_by command at id (asks_indexes (space_in b k) (record { name = index_named k; key = keys_of k } ∷ [])) (asks_to_index command (space_in b k) (keys_of k) (index_named k) b.writes None (named_in b k files chunks) (has_name k) is) tt tt

-- a getMore asks for a cursor's documents
pub more_leaves : (command : List ℕ) (at : Bucket) (id : Tree) (cursor : ℤ) (space : Space) → asked command ≡ asks_more cursor space → Leaves command at id
more_leaves command at id cursor space asks = leaves_by command at id (asks_more cursor space) asks tt tt
