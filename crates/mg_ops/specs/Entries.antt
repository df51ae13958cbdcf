-- What the fields of commands come to.
use Rattle.std.specs.Prelude.{◌&&◌, string_bytes}
use Rattle.mg_bson.specs.Tree.{array, document, boolean}
use Rattle.mg_link.specs.Namespace.{target}
use Rattle.mg_options.specs.Fields.{Shown, shown}
use Rattle.mg_options.specs.Printing.{flag, listed}
use Rattle.mg_options.specs.Tables.{modifications_value}
use Rattle.mg_options.specs.Values.{value_shown}
use Rattle.mg_ops.specs.Bodies.{always, awaits_data, delete_limit, is_ordered, is_single, is_tailable, number, selects_by_name, text, watch_pipeline, whole, writes_out}
use Rattle.mg_ops.specs.Commands.{aggregate_on, database_of}
use Rattle.mg_ops.specs.Pieces.{cursor_of_size, index_name, only_true}
use Rattle.mg_ops.specs.Sessions.{autocommit, start_transaction, numbered}
use Rattle.mg_ops.specs.declared.entry.Entry.{Entry}
use Rattle.mg_ops.specs.declared.entry.Entry.TheVariants as entries

-- each kind of field
abbrev pub entry : Entry → Shown
entry (entries.Text s) = text (string_bytes s.now)
entry (entries.Number z) = number z
entry (entries.Document d) = whole d.now
entry (entries.Documents ds) = shown (array (listed document ds.now.items))
entry (entries.Modifications m) = shown (modifications_value m.now)
entry (entries.IndexName keys) = index_name keys.now
entry (entries.Single limit) = flag (only_true (is_single limit))
entry (entries.Tailable kind) = flag (only_true (is_tailable kind))
entry (entries.AwaitData kind) = flag (only_true (awaits_data kind))
entry (entries.AggregateOn on) = shown (aggregate_on (target on.now))
entry (entries.DatabaseOf on) = text (database_of (target on.now))
entry (entries.Watch o stages) = watch_pipeline o.now stages.now.items
entry (entries.Cursor size stages) = cursor_of_size (writes_out stages.now.items) size
entry (entries.NameOnly asked filter) = shown (boolean (asked && selects_by_name filter.now))
entry (entries.Limit many) = number (delete_limit many)
entry (entries.Multi many) = flag (only_true many)
entry (entries.Ordered asked) = always (is_ordered asked)
entry (entries.SessionId s) = whole s.now.id
entry (entries.TransactionNumber s) = numbered s.now
entry (entries.StartTransaction s) = start_transaction s.now
entry (entries.Autocommit s) = autocommit s.now
entry (entries.Option v) = value_shown v
