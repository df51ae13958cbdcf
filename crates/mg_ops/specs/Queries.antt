-- What finds, aggregates and lists ask a server for, by their options (find, aggregate, enumerating collections and enumerating indexes specifications).
use Rattle.std.specs.Prelude.{◌≡◌, ◌++◌, ℕ, ℤ, nat_abs, false, List, [], Option, Some, None, option_map}
use Rattle.mg_bson.specs.Tree.{document, Fields}
use Rattle.mg_bson.specs.Reading.{◌>>=◌}
use Rattle.mg_link.specs.Namespace.{Space}
use Rattle.mg_server.specs.Commands.{Asked, asks_other, asks_query, limit_by, only, query_by, selecting, showing, sorting, stages_by}
use Rattle.mg_server.specs.Query.{Query, Stage, of_collection, of_database, of_indexes, skips}
use Rattle.mg_options.specs.declared.aggregate.AggregateOptions.{AggregateOptions}
use Rattle.mg_options.specs.declared.collections.ListCollectionsOptions.{ListCollectionsOptions}
use Rattle.mg_options.specs.declared.collections.ListIndexesOptions.{ListIndexesOptions}
use Rattle.mg_options.specs.declared.find.FindOptions.{FindOptions}
use Rattle.mg_ops.specs.Bodies.{find_size, is_single, is_tailable}

-- nothing is asked for where no server may take it: such a command is refused
abbrev pub asked_query : Option Query → Asked
asked_query None = asks_other
asked_query (Some q) = asks_query q

-- ---- finds

-- the same without the options that mean nothing to a server here, which refuses a find that has one
abbrev pub askable_find : FindOptions → FindOptions
askable_find o = record o { allow_partial_results = None; hint = None; max = None; max_scan = None; min = None; return_key = None; show_record_id = None; collation = None; let_vars = None }

-- it has none of those, and its cursor does not stay open at its end
pub record IsAskable (o : FindOptions) : Type 0 where
  pub known : o ≡ askable_find o
  pub closes : is_tailable o.cursor_type ≡ false

-- so many are passed over
abbrev pub skipped_by : Option ℕ → List Stage
skipped_by None = []
skipped_by (Some n) = only (skips n)

-- no more than this, whatever its sign; 0 is no limit
abbrev pub limited_by : Option ℤ → List Stage
limited_by None = []
limited_by (Some z) = limit_by (nat_abs z)

-- the documents that meet the filter, sorted, without those that are passed over, no more than the limit, and shown as the projection says
abbrev pub stages_asked : Fields → FindOptions → Option (List Stage)
stages_asked filter o = selecting (document filter) >>= λ select. stages_by sorting (option_map document o.sort) >>= λ sort.
    stages_by showing (option_map document o.projection) >>= λ show. Some (select ++ sort ++ skipped_by o.skip ++ limited_by o.limit ++ show)

-- they come in batches of the size that is sent, or in one where the limit is below 0
abbrev pub find_asked : Space → Fields → FindOptions → Option Query
find_asked space filter o = stages_asked filter o >>= λ stages. Some (query_by (of_collection space) (is_single o.limit) stages (find_size o))

-- ---- aggregates

-- the same without the options that mean nothing to a server here
abbrev pub askable_aggregate : AggregateOptions → AggregateOptions
askable_aggregate o = record o { collation = None; hint = None; let_vars = None }

-- what its stages make of the documents of its collection, in batches of its size
abbrev pub aggregate_asked : Space → List Stage → AggregateOptions → Query
aggregate_asked space stages o = query_by (of_collection space) false stages o.batch_size

-- ---- lists

-- the collections of a database that meet the filter, where there is one
abbrev pub collections_asked : List ℕ → ListCollectionsOptions → Option Query
collections_asked db o = stages_by selecting (option_map document o.filter) >>= λ stages. Some (query_by (of_database db) false stages o.batch_size)

-- the indexes of a collection
abbrev pub indexes_asked : Space → ListIndexesOptions → Query
indexes_asked space o = query_by (of_indexes space) false [] o.batch_size
