-- Which record another becomes. Fields of the same name are kept, and nothing else is given.
use Rattle.std.specs.Prelude.{Some, None, negsuc}
use Rattle.mg_options.specs.declared.aggregate.AggregateOptions.{AggregateOptions}
use Rattle.mg_options.specs.declared.change_stream.ChangeStreamOptions.{ChangeStreamOptions}
use Rattle.mg_options.specs.declared.find.FindOptions.{FindOptions}
use Rattle.mg_options.specs.declared.find.FindOneOptions.{FindOneOptions}
use Rattle.mg_options.specs.declared.grid_fs.GridFsFindOptions.{GridFsFindOptions}
use Rattle.mg_options.specs.declared.grid_fs.GridFsFindOneOptions.{GridFsFindOneOptions}
use Rattle.mg_options.specs.declared.writes.InsertOneOptions.{InsertOneOptions}
use Rattle.mg_options.specs.declared.writes.InsertManyOptions.{InsertManyOptions}

-- a find that ends behind its first document: its limit is 1, in a single batch
abbrev pub find_of_one : FindOneOptions → FindOptions
find_of_one o = record { allow_disk_use = None; allow_partial_results = o.allow_partial_results; batch_size = None; comment = o.comment; hint = o.hint; limit = Some (negsuc 0); max = o.max; max_scan = o.max_scan; max_time = o.max_time; min = o.min; no_cursor_timeout = None; projection = o.projection; return_key = o.return_key; show_record_id = o.show_record_id; skip = o.skip; sort = o.sort; collation = o.collation; let_vars = o.let_vars; cursor_type = None; max_await_time = None; read_concern = o.read_concern; selection_criteria = o.selection_criteria }

abbrev pub find_of_files : GridFsFindOptions → FindOptions
find_of_files o = record { allow_disk_use = o.allow_disk_use; allow_partial_results = None; batch_size = o.batch_size; comment = None; hint = None; limit = o.limit; max = None; max_scan = None; max_time = o.max_time; min = None; no_cursor_timeout = None; projection = None; return_key = None; show_record_id = None; skip = o.skip; sort = o.sort; collation = None; let_vars = None; cursor_type = None; max_await_time = None; read_concern = None; selection_criteria = None }

abbrev pub find_one_of_files : GridFsFindOneOptions → FindOneOptions
find_one_of_files o = record { allow_partial_results = None; collation = None; comment = None; hint = None; max = None; max_scan = None; max_time = o.max_time; min = None; projection = None; read_concern = None; return_key = None; selection_criteria = None; show_record_id = None; skip = o.skip; sort = o.sort; let_vars = None }

abbrev pub insert_of_one : InsertOneOptions → InsertManyOptions
insert_of_one o = record { bypass_document_validation = o.bypass_document_validation; ordered = None; comment = o.comment; write_concern = o.write_concern }

-- the aggregate that opens a watch
abbrev pub aggregate_of_watch : ChangeStreamOptions → AggregateOptions
aggregate_of_watch o = record { allow_disk_use = None; batch_size = o.batch_size; bypass_document_validation = None; collation = o.collation; comment = o.comment; hint = None; max_time = None; let_vars = None; max_await_time = o.max_await_time; read_concern = o.read_concern; selection_criteria = o.selection_criteria; write_concern = None }
