-- Which command of a put is which: one that inserts chunks, the one that inserts the record, the one that removes the chunks, and those of the check.
use Rattle.std.proofs.Common.{◌≡◌, ◌++◌, ◌∷◌, [], ℕ, ℤ, true, List, Option, Some, None, option_map, length, refl, sym, ap, ◌∙◌, subst, inl, inr, arith, length-append}
use Rattle.std.specs.Prelude.{codes, option_and_then, unwrap_or}
use Rattle.mg_bson.specs.Raw.{fields}
use Rattle.mg_bson.specs.Tree.{Fields}
use Rattle.mg_link.specs.Numbers.{as_integer}
use Rattle.mg_server.specs.Commands.{Asked, asked, asked_by, asks_create, asks_delete, asks_drop, asks_indexes, asks_insert, asks_kill, asks_more, asks_other, asks_query, asks_update, asks_watch, more_of, space_at}
use Rattle.mg_server.specs.Files.{chunks_space, files_space, has_value}
use Rattle.mg_bson.specs.Find.{get}
use Rattle.mg_link.specs.Namespace.{Space}
use Rattle.mg_options.specs.Fields.{fields_in}
use Rattle.mg_ops.specs.Naming.{IsNamed}
use Rattle.mg_ops.proofs.Asking.{asks_to_insert}
use Rattle.mg_ops.proofs.AskingMore.{asks_for_indexes, asks_to_create, asks_to_delete, asks_to_index}
use Rattle.mg_chunks.specs.Filters.{of_file}
use Rattle.mg_gridfs.specs.Commands.{chunks_lines, insert_options, record_document}
use Rattle.mg_gridfs.specs.Causes.{a_creation, a_find, a_listing, an_index}
use Rattle.mg_gridfs.proofs.Meaning.{any_reads, has_name, index_named, named_in}
use Rattle.mg_gridfs.specs.Indexes.{keys_of, space_in}
use Rattle.mg_ops.specs.Cursors.{next_command}
use Rattle.mg_players.specs.Gets.{no_manner}
use Rattle.mg_players.specs.PutSends.{of_check, reads_on, IsCheckCommand, chunks_removal, record_insert}
use Rattle.mg_players.specs.Puts.{PutTask, put_bucket, total}

-- ---- chunks, the record and the removal

-- the command inserts documents into the chunks of the put's bucket
abbrev pub IntoChunks : PutTask → Fields → Type 0
IntoChunks t command = (documents : List Fields) × (command ≡ fields_in (chunks_lines (put_bucket t) documents))

module _ (t : PutTask) (files : IsNamed (files_space t.at)) (chunks : IsNamed (chunks_space t.at)) (command : List ℕ) where
  pub into_chunks : IntoChunks t (fields command) → (documents : List Fields) × (asked command ≡ asks_insert (chunks_space t.at) documents true)
  into_chunks h = (h.0, asks_to_insert command (chunks_space t.at) h.0 (insert_options None) None chunks h.1)

  pub of_record : (m : ℤ) → fields command ≡ record_insert t m → asked command ≡ asks_insert (files_space t.at) (record_document t.id (total t.pieces) t.chunk m t.name None ∷ []) true
  of_record m is = asks_to_insert command (files_space t.at) (record_document t.id (total t.pieces) t.chunk m t.name None ∷ []) (insert_options None) None files is

  pub of_removal : fields command ≡ chunks_removal t → asked command ≡ asks_delete (chunks_space t.at) (has_value (codes "files_id") t.id ∷ []) true
  of_removal is = asks_to_delete command (chunks_space t.at) (of_file t.id) (has_value (codes "files_id") t.id ∷ []) true None None chunks refl is

  same_coll : (s s' : Space) (ds ds' : List Fields) → asks_insert s ds true ≡ asks_insert s' ds' true → s ≡ s'
  same_coll s s' ds ds' h = cc

  -- an insert of chunks is not that of the record
  pub chunks_no_record : IntoChunks t (fields command) → (m : ℤ) → fields command ≡ record_insert t m → ⊥
  chunks_no_record h m is =
      let into = into_chunks h in
      let spaces = same_coll (chunks_space t.at) (files_space t.at) into.0 (record_document t.id (total t.pieces) t.chunk m t.name None ∷ []) (sym into.1 ∙ of_record m is) in
      let names : length (t.at.name ++ codes ".chunks") ≡ length (t.at.name ++ codes ".files") = ap (λ (s : Space). length s.coll) spaces in
      let seven = length-append t.at.name (codes ".chunks") in
      let six = length-append t.at.name (codes ".files") in
      let long : length (codes ".chunks") ≡ 7 = refl in
      let short : length (codes ".files") ≡ 6 = refl in
      absurd (omega (arith, names, seven, six, long, short))

  pub chunks_no_removal : IntoChunks t (fields command) → fields command ≡ chunks_removal t → ⊥
  chunks_no_removal h is =
      let into = into_chunks h in
      let both : asks_insert (chunks_space t.at) into.0 true ≡ asks_delete (chunks_space t.at) (has_value (codes "files_id") t.id ∷ []) true = sym into.1 ∙ of_removal is in
      absurd cc

  pub record_no_removal : (m : ℤ) → fields command ≡ record_insert t m → fields command ≡ chunks_removal t → ⊥
  record_no_removal m is removes =
      let both : asks_insert (files_space t.at) (record_document t.id (total t.pieces) t.chunk m t.name None ∷ []) true ≡ asks_delete (chunks_space t.at) (has_value (codes "files_id") t.id ∷ []) true = sym (of_record m is) ∙ of_removal removes in
      absurd cc

-- ---- the check writes no documents

abbrev IsWriting : Asked → Type 0
IsWriting (asks_insert space documents ordered) = Unit {0}
IsWriting (asks_delete space conditions many) = Unit {0}
IsWriting (asks_update space conditions m many) = ⊥
IsWriting (asks_drop space) = ⊥
IsWriting (asks_query query) = ⊥
IsWriting (asks_watch watch start) = ⊥
IsWriting (asks_more id space) = ⊥
IsWriting (asks_kill ids) = ⊥
IsWriting (asks_create space) = ⊥
IsWriting (asks_indexes space indexes) = ⊥
IsWriting asks_other = ⊥

more_by : (id : Option ℤ) (space : Option Space) → IsWriting (unwrap_or (option_and_then (λ x. option_map (asks_more x) space) id) asks_other) → ⊥
more_by None space w = w
more_by (Some x) None w = w
more_by (Some x) (Some at) w = w

more_writes : (fs : Fields) → IsWriting (unwrap_or (more_of fs) asks_other) → ⊥
unfolding more_of
more_writes fs w = more_by (option_and_then as_integer (get (codes "getMore") fs)) (space_at (codes "collection") fs) w

module _ (t : PutTask) (files : IsNamed (files_space t.at)) (chunks : IsNamed (chunks_space t.at)) (command : List ℕ) where
  pub check_writes_none : IsCheckCommand (put_bucket t) (fields command) → IsWriting (asked command) → ⊥
  unfolding asked
  check_writes_none (of_check lines (a_find same) is) w = elim (any_reads (put_bucket t) command (is ∙ ap fields_in same)) [
    | inl q ↦ subst IsWriting q.1 w
    | inr other ↦ subst IsWriting other w
  ]
  check_writes_none (of_check lines (a_creation k same) is) w = subst IsWriting (asks_to_create command (space_in (put_bucket t) k) None None (named_in (put_bucket t) k files chunks) (is ∙ ap fields_in same)) w
  check_writes_none (of_check lines (a_listing k same) is) w = subst IsWriting (asks_for_indexes command (space_in (put_bucket t) k) None (named_in (put_bucket t) k files chunks) (is ∙ ap fields_in same)) w
  check_writes_none (of_check lines (an_index k same) is) w = subst IsWriting (asks_to_index command (space_in (put_bucket t) k) (keys_of k) (index_named k) None None (named_in (put_bucket t) k files chunks) (has_name k) (is ∙ ap fields_in same)) w
  check_writes_none (reads_on id space is) w = more_writes (next_command id space no_manner) (subst (λ (fs : Fields). IsWriting (unwrap_or (asked_by fs) asks_other)) is w)

  pub check_no_record : IsCheckCommand (put_bucket t) (fields command) → (m : ℤ) → fields command ≡ record_insert t m → ⊥
  check_no_record h m is = check_writes_none h (subst IsWriting (sym (of_record t files chunks command m is)) tt)

  pub check_no_removal : IsCheckCommand (put_bucket t) (fields command) → fields command ≡ chunks_removal t → ⊥
  check_no_removal h is = check_writes_none h (subst IsWriting (sym (of_removal t files chunks command is)) tt)
