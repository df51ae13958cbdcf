-- What the options of a change stream print (drivers' specification of change streams, "ChangeStreamOptions").
use Rattle.std.specs.Prelude.{List, None, option_map}
use Rattle.mg_bson.specs.Tree.{Fields}
use Rattle.mg_options.specs.Fields.{Line, given, ◌⟼◌⨾◌, nothing, fields_in}
use Rattle.mg_options.specs.Printing.{flag, time_value, value}
use Rattle.mg_options.specs.Shown.{full_document, full_document_before}
use Rattle.mg_options.specs.declared.change_stream.ChangeStreamOptions.{ChangeStreamOptions}

-- nothing is given
abbrev pub no_options : ChangeStreamOptions
no_options = record { full_document = None; full_document_before_change = None; resume_after = None; start_at_operation_time = None; start_after = None; all_changes_for_cluster = None; show_expanded_events = None; comment = None; max_await_time = None; batch_size = None; collation = None; read_concern = None; selection_criteria = None }

-- the options of the stage that opens a watch
abbrev pub change_stream_lines : ChangeStreamOptions → List Line
change_stream_lines o =
    "fullDocument" ⟼ full_document o.full_document
    ⨾ "fullDocumentBeforeChange" ⟼ full_document_before o.full_document_before_change
    ⨾ "resumeAfter" ⟼ given o.resume_after
    ⨾ "startAtOperationTime" ⟼ given (option_map time_value o.start_at_operation_time)
    ⨾ "startAfter" ⟼ given o.start_after
    ⨾ "allChangesForCluster" ⟼ flag o.all_changes_for_cluster
    ⨾ "showExpandedEvents" ⟼ flag o.show_expanded_events
    ⨾ "comment" ⟼ value o.comment
    ⨾ nothing

abbrev pub change_stream_fields : ChangeStreamOptions → Fields
change_stream_fields o = fields_in (change_stream_lines o)
