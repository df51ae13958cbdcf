-- What the aggregate of a change stream asks for, whatever its arguments are.
use Rattle.std.specs.Prelude.{List, Option, Some, None, option_map, option_and_then, codes}
use Rattle.mg_bson.specs.Tree.{Fields}
use Rattle.mg_link.specs.Namespace.{as_collection, as_database, Target, database, collection, cluster}
use Rattle.mg_server.specs.Commands.{Asked, asks_other, asks_watch, filter_stages, whole_target}
use Rattle.mg_server.specs.State.{Start, Watch}
use Rattle.mg_options.specs.declared.change_stream.ChangeStreamOptions.{ChangeStreamOptions}
use Rattle.mg_ops.specs.Naming.{start_in, watches_all}

-- what a server takes for the target of an aggregate: a name that may not be is none
abbrev pub aim : ChangeStreamOptions → Target → Option Target
aim o (collection space) = option_and_then (λ db. option_map (λ coll. collection (record { db = db; coll = coll })) (as_collection space.coll)) (as_database space.db)
aim o (database db) = option_and_then (whole_target (watches_all o)) (as_database db)
aim o cluster = whole_target (watches_all o) (codes "admin")

-- what is watched, and from where on
pub record Aim : Type 0 where
  pub watch : Watch
  pub start : Start

-- what an aggregate asks for, where a server may take it
abbrev pub aim_of : Target → List Fields → ChangeStreamOptions → Option Aim
aim_of target stages o = option_and_then (λ filter. option_and_then (λ start. option_map (λ t. record { watch = record { target = t; filter = filter }; start = start })
    (aim o target)) (start_in o)) (filter_stages stages)

-- nothing is asked for where no server may take it: such an aggregate is refused
abbrev pub asked_for : Option Aim → Asked
asked_for None = asks_other
asked_for (Some a) = asks_watch a.watch a.start
