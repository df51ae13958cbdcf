-- Which names a server takes.
use Rattle.std.specs.Prelude.{◌≡◌, Bool, false, Option, Some, unwrap_or, option_map}
use Rattle.mg_link.specs.Namespace.{Space, as_collection, as_database}
use Rattle.mg_server.specs.Commands.{start_by}
use Rattle.mg_server.specs.State.{Start}
use Rattle.mg_options.specs.Printing.{time_value}
use Rattle.mg_options.specs.declared.change_stream.ChangeStreamOptions.{ChangeStreamOptions}

-- the parts of a namespace may name a database and a collection
pub record IsNamed (space : Space) : Type 0 where
  pub db : as_database space.db ≡ Some space.db
  pub coll : as_collection space.coll ≡ Some space.coll

abbrev pub watches_all : ChangeStreamOptions → Bool
watches_all o = unwrap_or o.all_changes_for_cluster false

-- where the watch begins; more than one start is none
abbrev pub start_in : ChangeStreamOptions → Option Start
start_in o = start_by o.resume_after o.start_after (option_map time_value o.start_at_operation_time)
