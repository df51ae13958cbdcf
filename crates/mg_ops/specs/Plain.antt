-- Options of which none is given but how far a write is to come: what a store takes.
use Rattle.std.specs.Prelude.{Option, None}
use Rattle.mg_link.specs.declared.concern.WriteConcern.{WriteConcern}
use Rattle.mg_options.specs.declared.collections.CreateIndexOptions.{CreateIndexOptions}
use Rattle.mg_options.specs.declared.collections.ListIndexesOptions.{ListIndexesOptions}
use Rattle.mg_options.specs.declared.find.FindOptions.{FindOptions}
use Rattle.mg_options.specs.declared.writes.DeleteOptions.{DeleteOptions}
use Rattle.mg_options.specs.declared.writes.InsertManyOptions.{InsertManyOptions}

-- those of a find
abbrev pub plain_find : FindOptions
plain_find = record { allow_disk_use = None; allow_partial_results = None; batch_size = None; comment = None; hint = None; limit = None; max = None; max_scan = None; max_time = None; min = None; no_cursor_timeout = None; projection = None; return_key = None; show_record_id = None; skip = None; sort = None; collation = None; let_vars = None; cursor_type = None; max_await_time = None; read_concern = None; selection_criteria = None }

-- those of an insert
abbrev pub plain_insert : InsertManyOptions
plain_insert = record { bypass_document_validation = None; ordered = None; comment = None; write_concern = None }

-- those of a delete
abbrev pub plain_delete : Option WriteConcern → DeleteOptions
plain_delete writes = record { collation = None; hint = None; let_vars = None; comment = None; write_concern = writes }

-- those of a createIndexes
abbrev pub plain_index : Option WriteConcern → CreateIndexOptions
plain_index writes = record { commit_quorum = None; max_time = None; comment = None; write_concern = writes }

-- those of a listIndexes
abbrev pub plain_indexes : ListIndexesOptions
plain_indexes = record { max_time = None; comment = None; batch_size = None }
