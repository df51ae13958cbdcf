-- What a query does with documents, where filters are held by the encodings of their values.
use Rattle.std.specs.declared.alloc.Global.{Global}
use Rattle.std.specs.Prelude.{◌≡◌, ℕ, Bool, true, false, List, [], ◌∷◌, ◌++◌, map, take, drop, Option, Some, None, option_map, option_and_then, Result, Ok, Err, codes, string_bytes, if◌then◌else◌, Vec}
use Rattle.std.specs.List.{filter}
use denote.Ref.{Bor}
use Rattle.mg_bson.specs.Tree.{Tree, Fields, Items}
use Rattle.mg_bson.specs.Find.{get, without}
use Rattle.mg_bson.specs.Raw.{fields}
use Rattle.mg_bson.specs.Reading.{◌>>=◌}
use Rattle.mg_link.specs.Numbers.{as_integer}
use Rattle.mg_server.specs.Commands.{documents_in, pipeline_of, rising_by}
use Rattle.mg_server.specs.Filter.{is_top_name}
use Rattle.mg_server.specs.Query as query
use Rattle.mg_server.specs.Query.{Key, can_sort, id_alone, sorted}
use Rattle.mg_server.specs.Rules.{batch_of_query, documents_of_items}
use Rattle.mg_query.specs.Asking.{Keyed, held, keyed, matches_keys}
use Rattle.mg_query.specs.declared.batch.Batch.{Batch}
use Rattle.mg_query.specs.declared.refusal.Refusal.TheVariants as refusals
use Rattle.mg_query.specs.declared.refusal.Stop.{Stop}
use Rattle.mg_query.specs.declared.refusal.Stop.TheVariants as stops
use Rattle.mg_query.specs.declared.stages.Key as code
use Rattle.mg_query.specs.declared.stages.Read.{Read}
use Rattle.mg_query.specs.declared.stages.Read.TheVariants as reads
use Rattle.mg_query.specs.declared.stages.Stage.{Stage}
use Rattle.mg_query.specs.declared.stages.Stage.TheVariants as stages

-- what is done with the documents
pub data Doing : Type 0 where
  selects : (filter : List Keyed) → Doing
  sorts : (keys : List Key) → Doing
  skips : (n : ℕ) → Doing
  limits : (n : ℕ) → Doing
  shows_id : Doing
  hides_id : Doing

abbrev pub doing : query.Stage → Doing
doing (query.selects conditions) = selects (map keyed conditions)
doing (query.sorts keys) = sorts keys
doing (query.skips n) = skips n
doing (query.limits n) = limits n
doing query.shows_id = shows_id
doing query.hides_id = hides_id

-- the key and the stage that the code holds
abbrev pub held_key : code.Key → Key
held_key k = record { name = string_bytes k.name; rising = k.rising }

abbrev pub held_stage : Stage → Doing
held_stage (stages.Select conditions) = selects (map held conditions.items)
held_stage (stages.Sort keys) = sorts (map held_key keys.items)
held_stage (stages.Skip n) = skips n
held_stage (stages.Limit n) = limits n
held_stage stages.ShowId = shows_id
held_stage stages.HideId = hides_id

-- what was read of one value
abbrev pub one_stage : Read → Option (List Doing)
one_stage reads.Bad = None
one_stage reads.Nothing = Some []
one_stage (reads.Stage stage) = Some (held_stage stage ∷ [])

abbrev pub held_stages : Option (Vec Stage Global) → Option (List Doing)
held_stages found = option_map (λ v. map held_stage v.items) found

-- one list of stages behind another, where both have a meaning
abbrev pub joined_stages : Option (List Doing) → Option (List Doing) → Option (List Doing)
joined_stages front more = option_and_then (λ xs. option_map (λ ys. xs ++ ys) more) front

-- a name to sort by, with its direction
abbrev pub one_key : List ℕ → Tree → Option Key
one_key k t = if is_top_name k then option_map (λ rising. record { name = k; rising = rising }) (option_and_then rising_by (as_integer t)) else None

-- what the stages of a pipeline do, where each has a meaning
abbrev pub pipeline_doing : Items → Option (List Doing)
pipeline_doing items = option_map (map doing) (documents_in items >>= pipeline_of)

abbrev pub done : Doing → List Fields → Option (List Fields)
done (selects conditions) ds = Some (filter (matches_keys conditions) ds)
done (sorts keys) ds = if can_sort keys ds then Some (sorted keys ds) else None
done (skips n) ds = Some (drop n ds)
done (limits n) ds = Some (take n ds)
done shows_id ds = Some (map (λ d. id_alone (get (codes "_id") d)) ds)
done hides_id ds = Some (map (without (codes "_id")) ds)

abbrev pub all_done : List Doing → List Fields → Option (List Fields)
all_done [] ds = Some ds
all_done (x ∷ xs) ds = option_and_then (all_done xs) (done x ds)

-- the documents, or a refusal where there are none
abbrev pub Results : Result (Vec (List ℕ) Global) Stop → Option (List Fields) → Type 0
Results (Ok ds) found = found ≡ Some (map fields ds.items)
Results (Err stops.Memory) found = Unit {0}
Results (Err (stops.Refused refusal)) found = (refusal ≡ refusals.BadRequest) × (found ≡ None)

abbrev pub is_none : {A : Type 0} → List A → Bool
is_none [] = true
is_none (x ∷ xs) = false

-- a batch of the documents that are left
pub record GivesDocuments (left : List Fields) (size : ℕ) (batch : Batch) : Type 0 where
  pub documents_are : batch.documents ≡ documents_of_items (take (batch_of_query size left) left)
  pub count_is : batch.count ≡ batch_of_query size left
  pub end_is : batch.is_last ≡ is_none (drop (batch_of_query size left) left)

-- ---- documents that are lent

-- the documents that are lent
abbrev pub lent : List (Bor (List ℕ)) → List Fields
lent ds = map (λ d. fields d.now) ds

-- those that meet the conditions, all or the first
abbrev pub chosen_by : List Keyed → Bool → List Fields → List Fields
chosen_by keys many ds = if many then filter (matches_keys keys) ds else take 1 (filter (matches_keys keys) ds)
