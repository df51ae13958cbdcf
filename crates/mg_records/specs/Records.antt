-- What option records print, in the order of their commands (count, distinct and index specifications).
use Rattle.std.specs.Prelude.{List}
use Rattle.mg_options.specs.Fields.{Line, ◌⟼◌⨾◌, nothing}
use Rattle.mg_options.specs.Printing.{millis, value}
use Rattle.mg_options.specs.Shown.{collation, hint}
use Rattle.mg_records.specs.Families.{DistinctOptions, EstimatedDocumentCountOptions}
use Rattle.mg_records.specs.declared.drop_index.DropIndexOptions.{DropIndexOptions}

abbrev pub estimated_document_count_lines : EstimatedDocumentCountOptions → List Line
estimated_document_count_lines o =
    "maxTimeMS" ⟼ millis o.max_time
    ⨾ "comment" ⟼ value o.comment
    ⨾ nothing

abbrev pub distinct_lines : DistinctOptions → List Line
distinct_lines o =
    "maxTimeMS" ⟼ millis o.max_time
    ⨾ "collation" ⟼ collation o.collation
    ⨾ "comment" ⟼ value o.comment
    ⨾ "hint" ⟼ hint o.hint
    ⨾ nothing

abbrev pub drop_index_lines : DropIndexOptions → List Line
drop_index_lines o =
    "maxTimeMS" ⟼ millis o.max_time
    ⨾ "comment" ⟼ value o.comment
    ⨾ nothing
