-- When a record of options has the same values as another, field by field.
use Rattle.std.specs.Prelude.{◌≡◌, Option, Some, None, string_bytes}
use Rattle.mg_bson.specs.Tree.{Fields}
use Rattle.mg_bson.specs.View.{tree}
use Rattle.mg_link.specs.Concerns.{concerned, level_word}
use Rattle.mg_link.specs.Words.{Word}
use Rattle.mg_link.specs.declared.concern.ReadConcern.{ReadConcern}
use Rattle.mg_options.specs.Collations.{collation_lines}
use Rattle.mg_options.specs.Tables.{full_document_before_word, full_document_word, hint_value, quorum_members}
use Rattle.mg_options.specs.declared.aggregate.AggregateOptions.{AggregateOptions}
use Rattle.mg_options.specs.declared.change_stream.ChangeStreamOptions.{ChangeStreamOptions}
use Rattle.mg_options.specs.declared.collections.CollectionOptions.{CollectionOptions}
use Rattle.mg_options.specs.declared.collections.CreateIndexOptions.{CreateIndexOptions}
use Rattle.mg_options.specs.declared.collections.DropCollectionOptions.{DropCollectionOptions}
use Rattle.mg_options.specs.declared.collections.ListIndexesOptions.{ListIndexesOptions}
use Rattle.mg_options.specs.declared.collections.ListCollectionsOptions.{ListCollectionsOptions}
use Rattle.mg_options.specs.declared.commands.RunCommandOptions.{RunCommandOptions}
use Rattle.mg_options.specs.declared.commands.RunCursorCommandOptions.{RunCursorCommandOptions}
use Rattle.mg_options.specs.declared.find.FindOptions.{FindOptions}
use Rattle.mg_options.specs.declared.find.FindOneOptions.{FindOneOptions}
use Rattle.mg_options.specs.declared.grid_fs.GridFsBucketOptions.{GridFsBucketOptions}
use Rattle.mg_options.specs.declared.grid_fs.GridFsUploadOptions.{GridFsUploadOptions}
use Rattle.mg_options.specs.declared.grid_fs.GridFsDownloadByNameOptions.{GridFsDownloadByNameOptions}
use Rattle.mg_options.specs.declared.grid_fs.GridFsFindOptions.{GridFsFindOptions}
use Rattle.mg_options.specs.declared.grid_fs.GridFsFindOneOptions.{GridFsFindOneOptions}
use Rattle.mg_options.specs.declared.writes.InsertOneOptions.{InsertOneOptions}
use Rattle.mg_options.specs.declared.writes.InsertManyOptions.{InsertManyOptions}
use Rattle.mg_options.specs.declared.writes.DeleteOptions.{DeleteOptions}

-- both are given, and go together so, or neither is
abbrev pub AreGiven : {A : Type 0} → (A → A → Type 0) → Option A → Option A → Type 0
AreGiven together None None = Unit {0}
AreGiven together (Some x) (Some y) = together x y
AreGiven together None (Some y) = ⊥
AreGiven together (Some x) None = ⊥

-- both are given and are the same to this view, or neither is given
abbrev pub SameIn : {A B : Type 0} → (A → B) → Option A → Option A → Type 0
SameIn view a b = AreGiven (λ x y. view y ≡ view x) a b

-- a document is its fields
abbrev pub itself : Fields → Fields
itself d = d

abbrev pub level_of : ReadConcern → Word
level_of c = level_word c.level

abbrev pub SameAggregateOptions : AggregateOptions → AggregateOptions → Type 0
SameAggregateOptions o p =
    (p.allow_disk_use ≡ o.allow_disk_use)
    × (p.batch_size ≡ o.batch_size)
    × (p.bypass_document_validation ≡ o.bypass_document_validation)
    × SameIn collation_lines o.collation p.collation
    × SameIn tree o.comment p.comment
    × SameIn hint_value o.hint p.hint
    × (p.max_time ≡ o.max_time)
    × SameIn itself o.let_vars p.let_vars
    × (p.max_await_time ≡ o.max_await_time)
    × SameIn level_of o.read_concern p.read_concern
    × (p.selection_criteria ≡ o.selection_criteria)
    × SameIn concerned o.write_concern p.write_concern

abbrev pub SameChangeStreamOptions : ChangeStreamOptions → ChangeStreamOptions → Type 0
SameChangeStreamOptions o p =
    SameIn full_document_word o.full_document p.full_document
    × SameIn full_document_before_word o.full_document_before_change p.full_document_before_change
    × (p.resume_after ≡ o.resume_after)
    × (p.start_at_operation_time ≡ o.start_at_operation_time)
    × (p.start_after ≡ o.start_after)
    × (p.all_changes_for_cluster ≡ o.all_changes_for_cluster)
    × (p.show_expanded_events ≡ o.show_expanded_events)
    × SameIn tree o.comment p.comment
    × (p.max_await_time ≡ o.max_await_time)
    × (p.batch_size ≡ o.batch_size)
    × SameIn collation_lines o.collation p.collation
    × SameIn level_of o.read_concern p.read_concern
    × (p.selection_criteria ≡ o.selection_criteria)

abbrev pub SameCollectionOptions : CollectionOptions → CollectionOptions → Type 0
SameCollectionOptions o p =
    (p.selection_criteria ≡ o.selection_criteria)
    × SameIn level_of o.read_concern p.read_concern
    × SameIn concerned o.write_concern p.write_concern

abbrev pub SameCreateIndexOptions : CreateIndexOptions → CreateIndexOptions → Type 0
SameCreateIndexOptions o p =
    SameIn quorum_members o.commit_quorum p.commit_quorum
    × (p.max_time ≡ o.max_time)
    × SameIn tree o.comment p.comment
    × SameIn concerned o.write_concern p.write_concern

abbrev pub SameDropCollectionOptions : DropCollectionOptions → DropCollectionOptions → Type 0
SameDropCollectionOptions o p =
    SameIn concerned o.write_concern p.write_concern

abbrev pub SameListIndexesOptions : ListIndexesOptions → ListIndexesOptions → Type 0
SameListIndexesOptions o p =
    (p.max_time ≡ o.max_time)
    × SameIn tree o.comment p.comment
    × (p.batch_size ≡ o.batch_size)

abbrev pub SameListCollectionsOptions : ListCollectionsOptions → ListCollectionsOptions → Type 0
SameListCollectionsOptions o p =
    SameIn itself o.filter p.filter
    × (p.batch_size ≡ o.batch_size)
    × SameIn tree o.comment p.comment

abbrev pub SameRunCommandOptions : RunCommandOptions → RunCommandOptions → Type 0
SameRunCommandOptions o p =
    (p.selection_criteria ≡ o.selection_criteria)

abbrev pub SameRunCursorCommandOptions : RunCursorCommandOptions → RunCursorCommandOptions → Type 0
SameRunCursorCommandOptions o p =
    (p.selection_criteria ≡ o.selection_criteria)
    × (p.cursor_type ≡ o.cursor_type)
    × (p.batch_size ≡ o.batch_size)
    × (p.max_time ≡ o.max_time)
    × SameIn tree o.comment p.comment

abbrev pub SameFindOptions : FindOptions → FindOptions → Type 0
SameFindOptions o p =
    (p.allow_disk_use ≡ o.allow_disk_use)
    × (p.allow_partial_results ≡ o.allow_partial_results)
    × (p.batch_size ≡ o.batch_size)
    × SameIn tree o.comment p.comment
    × SameIn hint_value o.hint p.hint
    × (p.limit ≡ o.limit)
    × SameIn itself o.max p.max
    × (p.max_scan ≡ o.max_scan)
    × (p.max_time ≡ o.max_time)
    × SameIn itself o.min p.min
    × (p.no_cursor_timeout ≡ o.no_cursor_timeout)
    × SameIn itself o.projection p.projection
    × (p.return_key ≡ o.return_key)
    × (p.show_record_id ≡ o.show_record_id)
    × (p.skip ≡ o.skip)
    × SameIn itself o.sort p.sort
    × SameIn collation_lines o.collation p.collation
    × SameIn itself o.let_vars p.let_vars
    × (p.cursor_type ≡ o.cursor_type)
    × (p.max_await_time ≡ o.max_await_time)
    × SameIn level_of o.read_concern p.read_concern
    × (p.selection_criteria ≡ o.selection_criteria)

abbrev pub SameFindOneOptions : FindOneOptions → FindOneOptions → Type 0
SameFindOneOptions o p =
    (p.allow_partial_results ≡ o.allow_partial_results)
    × SameIn collation_lines o.collation p.collation
    × SameIn tree o.comment p.comment
    × SameIn hint_value o.hint p.hint
    × SameIn itself o.max p.max
    × (p.max_scan ≡ o.max_scan)
    × (p.max_time ≡ o.max_time)
    × SameIn itself o.min p.min
    × SameIn itself o.projection p.projection
    × SameIn level_of o.read_concern p.read_concern
    × (p.return_key ≡ o.return_key)
    × (p.selection_criteria ≡ o.selection_criteria)
    × (p.show_record_id ≡ o.show_record_id)
    × (p.skip ≡ o.skip)
    × SameIn itself o.sort p.sort
    × SameIn itself o.let_vars p.let_vars

abbrev pub SameGridFsBucketOptions : GridFsBucketOptions → GridFsBucketOptions → Type 0
SameGridFsBucketOptions o p =
    SameIn string_bytes o.bucket_name p.bucket_name
    × (p.chunk_size_bytes ≡ o.chunk_size_bytes)
    × SameIn concerned o.write_concern p.write_concern
    × SameIn level_of o.read_concern p.read_concern
    × (p.selection_criteria ≡ o.selection_criteria)

abbrev pub SameGridFsUploadOptions : GridFsUploadOptions → GridFsUploadOptions → Type 0
SameGridFsUploadOptions o p =
    (p.chunk_size_bytes ≡ o.chunk_size_bytes)
    × SameIn itself o.metadata p.metadata

abbrev pub SameGridFsDownloadByNameOptions : GridFsDownloadByNameOptions → GridFsDownloadByNameOptions → Type 0
SameGridFsDownloadByNameOptions o p =
    (p.revision ≡ o.revision)

abbrev pub SameGridFsFindOptions : GridFsFindOptions → GridFsFindOptions → Type 0
SameGridFsFindOptions o p =
    (p.allow_disk_use ≡ o.allow_disk_use)
    × (p.batch_size ≡ o.batch_size)
    × (p.limit ≡ o.limit)
    × (p.max_time ≡ o.max_time)
    × (p.skip ≡ o.skip)
    × SameIn itself o.sort p.sort

abbrev pub SameGridFsFindOneOptions : GridFsFindOneOptions → GridFsFindOneOptions → Type 0
SameGridFsFindOneOptions o p =
    (p.max_time ≡ o.max_time)
    × (p.skip ≡ o.skip)
    × SameIn itself o.sort p.sort

abbrev pub SameInsertOneOptions : InsertOneOptions → InsertOneOptions → Type 0
SameInsertOneOptions o p =
    (p.bypass_document_validation ≡ o.bypass_document_validation)
    × SameIn concerned o.write_concern p.write_concern
    × SameIn tree o.comment p.comment

abbrev pub SameInsertManyOptions : InsertManyOptions → InsertManyOptions → Type 0
SameInsertManyOptions o p =
    (p.bypass_document_validation ≡ o.bypass_document_validation)
    × (p.ordered ≡ o.ordered)
    × SameIn tree o.comment p.comment
    × SameIn concerned o.write_concern p.write_concern

abbrev pub SameDeleteOptions : DeleteOptions → DeleteOptions → Type 0
SameDeleteOptions o p =
    SameIn collation_lines o.collation p.collation
    × SameIn hint_value o.hint p.hint
    × SameIn itself o.let_vars p.let_vars
    × SameIn tree o.comment p.comment
    × SameIn concerned o.write_concern p.write_concern
