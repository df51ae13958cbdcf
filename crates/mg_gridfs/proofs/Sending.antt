-- Commands with copies of concerns print the same.
use Rattle.std.proofs.Common.{◌≡◌, ◌++◌, ℕ, true, negsuc, pos, List, Option, Some, None, refl, ap, ◌∙◌}
use Rattle.mg_bson.specs.Literal.{◌⇒◌⨾◌, empty}
use Rattle.mg_bson.specs.Tree.{Fields, Tree, array, document, int32}
use Rattle.mg_link.specs.Concerns.{Concerned, concerned}
use Rattle.mg_link.specs.Namespace.{Space}
use Rattle.mg_link.specs.declared.concern.ReadConcern.{ReadConcern}
use Rattle.mg_link.specs.declared.concern.WriteConcern.{WriteConcern}
use Rattle.mg_options.specs.Copies.{SameIn, level_of}
use Rattle.mg_options.specs.Fields.{Line, Shown, ◌⟼◌⨾◌, nested, nothing, shown}
use Rattle.mg_options.specs.Printing.{flag, inner, listed, members, millis, value}
use Rattle.mg_options.specs.Records.{create_index_lines}
use Rattle.mg_options.specs.Shown.{write_concern}
use Rattle.mg_options.specs.declared.collections.CreateIndexOptions.{CreateIndexOptions}
use Rattle.mg_options.specs.declared.collections.ListIndexesOptions.{ListIndexesOptions}
use Rattle.mg_options.specs.declared.find.FindOptions.{FindOptions}
use Rattle.mg_options.specs.declared.writes.DeleteOptions.{DeleteOptions}
use Rattle.mg_options.specs.declared.writes.InsertManyOptions.{InsertManyOptions}
use Rattle.mg_ops.specs.Bodies.{always, create_body, create_indexes_body, delete_body, deletion, find_body, index, insert_body, is_ordered, list_indexes_body, text}
use Rattle.mg_ops.specs.Pieces.{one_of}
use Rattle.mg_ops.specs.Plain.{plain_delete, plain_find, plain_index, plain_indexes, plain_insert}
use Rattle.mg_ops.specs.Sessions.{end_of}
use Rattle.mg_gridfs.specs.Buckets.{ClientBucket}
use Rattle.mg_chunks.specs.Filters.{of_file}
use Rattle.mg_gridfs.specs.Commands.{any_lines, any_options, creation_lines, deletion_lines, index_lines, insertion, listing_lines}
use Rattle.mg_gridfs.specs.Indexes.{keys_of, space_in}
use Rattle.mg_gridfs.specs.declared.indexes.Place.{Place}
use Rattle.mg_gridfs.proofs.Asking.{reads_same}

writes_same : (a b : Option WriteConcern) → SameIn concerned a b → write_concern b ≡ write_concern a
writes_same None None same = refl
writes_same (Some x) (Some y) same = ap (λ (k : Concerned). nested ("w" ⟼ members k.w ⨾ "j" ⟼ flag k.journal ⨾ "wtimeout" ⟼ millis k.w_timeout ⨾ nothing)) same
writes_same None (Some y) same = absurd same
writes_same (Some x) None same = absurd same

-- ---- writes, by how their concern is shown

abbrev behind : List ℕ → Shown → List Line
behind db writes = end_of (text db) None ("writeConcern" ⟼ writes ⨾ nothing)

abbrev creation_shown : Space → Shown → List Line
creation_shown s writes = "create" ⟼ text s.coll ⨾ behind s.db writes

abbrev index_shown : Space → Fields → Shown → List Line
index_shown s keys writes = "createIndexes" ⟼ text s.coll ⨾ "indexes" ⟼ one_of (index keys) ⨾ (create_index_lines (plain_index None) ++ behind s.db writes)

abbrev deletion_shown : Space → Fields → Shown → List Line
deletion_shown s filter writes = "delete" ⟼ text s.coll ⨾ "deletes" ⟼ one_of (deletion filter true (plain_delete None)) ⨾ "ordered" ⟼ always true ⨾ "let" ⟼ inner None ⨾ "comment" ⟼ value None ⨾ behind s.db writes

abbrev insertion_shown : Space → List Fields → Shown → List Line
insertion_shown s documents writes = "insert" ⟼ text s.coll ⨾ "documents" ⟼ shown (array (listed document documents)) ⨾ "ordered" ⟼ always (is_ordered None) ⨾ "bypassDocumentValidation" ⟼ flag None ⨾ "comment" ⟼ value None ⨾ behind s.db writes

-- ---- each command

-- what the find of the check asks for, but for its concern
abbrev pub any_first : Fields → FindOptions
any_first id = record plain_find { limit = Some (negsuc 0); projection = Some id }

abbrev pub id_alone : Fields
id_alone = "_id" ⇒ int32 (pos 1) ⨾ empty

module _ (b : ClientBucket) where
  pub any_as : (s : Space) (filter id : Fields) (o : FindOptions) (reads : Option ReadConcern) → s ≡ b.files → filter ≡ empty → id ≡ id_alone → o ≡ any_first id → SameIn level_of b.reads reads → find_body s filter (record o { read_concern = reads }) None ≡ any_lines b
  any_as s filter id o reads is none alone first same =
      ap (λ (x : Space). find_body x filter (record o { read_concern = reads }) None) is
      ∙ ap (λ (x : Fields). find_body b.files x (record o { read_concern = reads }) None) none
      ∙ ap (λ (x : FindOptions). find_body b.files empty (record x { read_concern = reads }) None) (first ∙ ap any_first alone)
      ∙ reads_same b.files empty (any_options b.reads) reads same

  pub creation_as : (at : Place) (s : Space) (writes : Option WriteConcern) → s ≡ space_in b at → SameIn concerned b.writes writes → create_body s writes None ≡ creation_lines b at
  creation_as at s writes is same = ap (λ (x : Space). create_body x writes None) is ∙ ap (creation_shown (space_in b at)) (writes_same b.writes writes same)

  pub listing_as : (at : Place) (s : Space) (o : ListIndexesOptions) → s ≡ space_in b at → o ≡ plain_indexes → list_indexes_body s o None ≡ listing_lines b at
  listing_as at s o is plain = ap (λ (x : Space). list_indexes_body x o None) is ∙ ap (λ (x : ListIndexesOptions). list_indexes_body (space_in b at) x None) plain

  pub index_as : (at : Place) (s : Space) (keys : Fields) (o : CreateIndexOptions) (writes : Option WriteConcern) → s ≡ space_in b at → keys ≡ keys_of at → o ≡ plain_index None → SameIn concerned b.writes writes → create_indexes_body s keys (record o { write_concern = writes }) None ≡ index_lines b at
  index_as at s keys o writes is these plain same =
      ap (λ (x : Space). create_indexes_body x keys (record o { write_concern = writes }) None) is
      ∙ ap (λ (x : Fields). create_indexes_body (space_in b at) x (record o { write_concern = writes }) None) these
      ∙ ap (λ (x : CreateIndexOptions). create_indexes_body (space_in b at) (keys_of at) (record x { write_concern = writes }) None) plain
      ∙ ap (index_shown (space_in b at) (keys_of at)) (writes_same b.writes writes same)

  pub deletion_as : (s : Space) (filter : Fields) (o : DeleteOptions) (writes : Option WriteConcern) (id : Tree) → s ≡ b.chunks → filter ≡ of_file id → o ≡ plain_delete None → SameIn concerned b.writes writes → delete_body s filter true (record o { write_concern = writes }) None ≡ deletion_lines b id
  deletion_as s filter o writes id is filter_is plain same =
      ap (λ (x : Space). delete_body x filter true (record o { write_concern = writes }) None) is
      ∙ ap (λ (x : Fields). delete_body b.chunks x true (record o { write_concern = writes }) None) filter_is
      ∙ ap (λ (x : DeleteOptions). delete_body b.chunks (of_file id) true (record x { write_concern = writes }) None) plain
      ∙ ap (deletion_shown b.chunks (of_file id)) (writes_same b.writes writes same)

  pub insertion_as : (s at : Space) (o : InsertManyOptions) (writes : Option WriteConcern) (documents : List Fields) → s ≡ at → o ≡ plain_insert → SameIn concerned b.writes writes → insert_body s documents (record o { write_concern = writes }) None ≡ insertion b at documents
  insertion_as s at o writes documents is plain same =
      ap (λ (x : Space). insert_body x documents (record o { write_concern = writes }) None) is
      ∙ ap (λ (x : InsertManyOptions). insert_body at documents (record x { write_concern = writes }) None) plain
      ∙ ap (insertion_shown at documents) (writes_same b.writes writes same)
