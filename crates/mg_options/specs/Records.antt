-- What option records print, in the order of their commands (find, aggregate, insert, index and collection specifications).
use Rattle.std.specs.Prelude.{List}
use Rattle.mg_options.specs.Fields.{Line, ◌⟼◌⨾◌, nothing}
use Rattle.mg_options.specs.Printing.{count, cursor, flag, inner, limit, millis, size, value}
use Rattle.mg_options.specs.Shown.{collation, hint, quorum}
use Rattle.mg_options.specs.declared.aggregate.AggregateOptions.{AggregateOptions}
use Rattle.mg_options.specs.declared.find.FindOptions.{FindOptions}
use Rattle.mg_options.specs.declared.writes.InsertManyOptions.{InsertManyOptions}
use Rattle.mg_options.specs.declared.writes.DeleteOptions.{DeleteOptions}
use Rattle.mg_options.specs.declared.collections.CreateIndexOptions.{CreateIndexOptions}
use Rattle.mg_options.specs.declared.collections.ListIndexesOptions.{ListIndexesOptions}
use Rattle.mg_options.specs.declared.collections.ListCollectionsOptions.{ListCollectionsOptions}

abbrev pub aggregate_lines : AggregateOptions → List Line
aggregate_lines o =
    "allowDiskUse" ⟼ flag o.allow_disk_use
    ⨾ "cursor" ⟼ cursor o.batch_size
    ⨾ "bypassDocumentValidation" ⟼ flag o.bypass_document_validation
    ⨾ "collation" ⟼ collation o.collation
    ⨾ "comment" ⟼ value o.comment
    ⨾ "hint" ⟼ hint o.hint
    ⨾ "maxTimeMS" ⟼ millis o.max_time
    ⨾ "let" ⟼ inner o.let_vars
    ⨾ nothing

abbrev pub find_lines : FindOptions → List Line
find_lines o =
    "allowDiskUse" ⟼ flag o.allow_disk_use
    ⨾ "allowPartialResults" ⟼ flag o.allow_partial_results
    ⨾ "batchSize" ⟼ size o.batch_size
    ⨾ "comment" ⟼ value o.comment
    ⨾ "hint" ⟼ hint o.hint
    ⨾ "limit" ⟼ limit o.limit
    ⨾ "max" ⟼ inner o.max
    ⨾ "maxScan" ⟼ count o.max_scan
    ⨾ "maxTimeMS" ⟼ millis o.max_time
    ⨾ "min" ⟼ inner o.min
    ⨾ "noCursorTimeout" ⟼ flag o.no_cursor_timeout
    ⨾ "projection" ⟼ inner o.projection
    ⨾ "returnKey" ⟼ flag o.return_key
    ⨾ "showRecordId" ⟼ flag o.show_record_id
    ⨾ "skip" ⟼ count o.skip
    ⨾ "sort" ⟼ inner o.sort
    ⨾ "collation" ⟼ collation o.collation
    ⨾ "let" ⟼ inner o.let_vars
    ⨾ nothing

abbrev pub insert_many_lines : InsertManyOptions → List Line
insert_many_lines o =
    "bypassDocumentValidation" ⟼ flag o.bypass_document_validation
    ⨾ "ordered" ⟼ flag o.ordered
    ⨾ "comment" ⟼ value o.comment
    ⨾ nothing

abbrev pub delete_lines : DeleteOptions → List Line
delete_lines o =
    "collation" ⟼ collation o.collation
    ⨾ "hint" ⟼ hint o.hint
    ⨾ "let" ⟼ inner o.let_vars
    ⨾ "comment" ⟼ value o.comment
    ⨾ nothing

abbrev pub create_index_lines : CreateIndexOptions → List Line
create_index_lines o =
    "commitQuorum" ⟼ quorum o.commit_quorum
    ⨾ "maxTimeMS" ⟼ millis o.max_time
    ⨾ "comment" ⟼ value o.comment
    ⨾ nothing

abbrev pub list_indexes_lines : ListIndexesOptions → List Line
list_indexes_lines o =
    "maxTimeMS" ⟼ millis o.max_time
    ⨾ "comment" ⟼ value o.comment
    ⨾ nothing

abbrev pub list_collections_lines : ListCollectionsOptions → List Line
list_collections_lines o =
    "filter" ⟼ inner o.filter
    ⨾ "cursor" ⟼ cursor o.batch_size
    ⨾ "comment" ⟼ value o.comment
    ⨾ nothing
