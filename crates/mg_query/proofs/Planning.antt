-- The parts of queries and lists, read off a command, are those of the rules' request.
use Rattle.std.proofs.Common.{◌≡◌, ℕ, Bool, true, false, List, [], Option, Some, None, option_map, option_and_then, codes, map, refl}
use Rattle.std.specs.Prelude.{if◌then◌else◌}
use Rattle.mg_bson.specs.Tree.{Fields, Items}
use Rattle.mg_bson.specs.Find.{get}
use Rattle.mg_bson.specs.Reading.{◌>>=◌}
use Rattle.mg_link.specs.Namespace.{Space}
use Rattle.mg_server.specs.Commands.{batch_size, documents_in, find_fields, find_stages, flag_or, has_only, optional_count, pipeline_fields, pipeline_of, query_by, collections_fields, indexes_fields, optional_size, selecting, stages_by}
use Rattle.mg_server.specs.Query.{Stage, of_collection, of_database, of_indexes}
use Rattle.mg_server.specs.Rules as rules
use Rattle.mg_server.specs.Rules.{array_at, find_request, named_space, pipeline_request, list_collections_request, list_indexes_request, named_database}
use Rattle.mg_query.specs.Querying.{Doing, doing, pipeline_doing}
use Rattle.mg_query.specs.Wanted.{Plan, Wanted, collections_list_of, find, found_of, indexes_list_of, piped_of, plan_of, wanted}

-- ---- finds

abbrev givings : Option Bool → Option (Option ℕ) → Option (Bool × Option ℕ)
givings sg sz = sg >>= λ single. sz >>= λ size. Some (single, size)

abbrev with_giving : List Doing → Bool × Option ℕ → Option Plan
with_giving stages giving = Some (record { stages = stages; single = giving.0; size = giving.1 })

abbrev with_plan : Space → Plan → Option Wanted
with_plan space plan = Some (find (of_collection space) plan.stages plan.single plan.size)

planned : (b : Bool) (a : Option Space) (st : Option (List Stage)) (sg : Option Bool) (sz : Option (Option ℕ))
    → ((if b then a else None) >>= λ space. (option_map (map doing) st >>= λ stages. givings sg sz >>= with_giving stages) >>= with_plan space)
    ≡ option_map wanted (if b then (a >>= (λ space. st >>= λ stages. sg >>= λ single. sz >>= λ size. Some (query_by (of_collection space) single stages size)) >>= λ q. Some (rules.find q)) else None)
planned false a st sg sz = refl
planned true None st sg sz = refl
planned true (Some space) None sg sz = refl
planned true (Some space) (Some stages) None sz = refl
planned true (Some space) (Some stages) (Some single) None = refl
planned true (Some space) (Some stages) (Some single) (Some size) = refl

-- the parts of a find are those of the rules' request
pub found_is : (fs : Fields) → found_of fs ≡ option_map wanted (find_request fs)
unfolding found_of plan_of find_request
found_is fs = planned (has_only find_fields fs) (named_space (codes "find") fs) (find_stages fs) (flag_or false (get (codes "singleBatch") fs)) (optional_count (get (codes "batchSize") fs))

-- ---- pipelines

piped_same : (b : Bool) (a : Option Space) (items : Option Items) (sz : Option (Option ℕ))
    → ((if b then a else None) >>= λ space. (items >>= pipeline_doing >>= λ stages. sz >>= λ size. Some (record { stages = stages; single = false; size = size })) >>= with_plan space)
    ≡ option_map wanted (if b then (a >>= (λ space. option_and_then documents_in items >>= pipeline_of >>= λ stages. sz >>= λ size. Some (query_by (of_collection space) false stages size)) >>= λ q. Some (rules.find q)) else None)
piped_same false a items sz = refl
piped_same true None items sz = refl
piped_same true (Some space) None sz = refl
piped_same true (Some space) (Some ts) sz = sized (documents_in ts >>= pipeline_of) sz
  where
    sized : (o : Option (List Stage)) (z : Option (Option ℕ)) → ((option_map (map doing) o >>= λ stages. z >>= λ size. Some (record { stages = stages; single = false; size = size })) >>= with_plan space)
        ≡ option_map wanted ((o >>= λ stages. z >>= λ size. Some (query_by (of_collection space) false stages size)) >>= λ q. Some (rules.find q))
    sized None z = refl
    sized (Some stages) None = refl
    sized (Some stages) (Some size) = refl

pub piped_is : (fs : Fields) → piped_of fs ≡ option_map wanted (pipeline_request fs)
unfolding pipeline_request
piped_is fs = piped_same (has_only pipeline_fields fs) (named_space (codes "aggregate") fs) (array_at (codes "pipeline") fs) (batch_size fs)

-- ---- lists

abbrev sized_plan : List Doing → Option ℕ → Option Plan
sized_plan stages size = Some (record { stages = stages; single = false; size = size })

abbrev with_database : List ℕ → Plan → Option Wanted
with_database db plan = Some (find (of_database db) plan.stages plan.single plan.size)

listed_same : (b : Bool) (d : Option (List ℕ)) (st : Option (List Stage)) (sz : Option (Option ℕ))
    → ((if b then d else None) >>= λ db. (option_map (map doing) st >>= λ stages. sz >>= sized_plan stages) >>= with_database db)
    ≡ option_map wanted (if b then (d >>= (λ db. st >>= λ stages. sz >>= λ size. Some (query_by (of_database db) false stages size)) >>= λ q. Some (rules.find q)) else None)
listed_same false d st sz = refl
listed_same true None st sz = refl
listed_same true (Some db) None sz = refl
listed_same true (Some db) (Some stages) None = refl
listed_same true (Some db) (Some stages) (Some size) = refl

pub listed_is : (fs : Fields) → collections_list_of fs ≡ option_map wanted (list_collections_request fs)
unfolding list_collections_request
listed_is fs = listed_same (has_only collections_fields fs) (named_database fs) (stages_by selecting (get (codes "filter") fs)) (optional_size fs)

indexes_same : (b : Bool) (a : Option Space) (sz : Option (Option ℕ))
    → (if b then (a >>= λ space. sz >>= λ size. Some (find (of_indexes space) [] false size)) else None)
    ≡ option_map wanted (if b then (a >>= (λ space. sz >>= λ size. Some (query_by (of_indexes space) false [] size)) >>= λ q. Some (rules.find q)) else None)
indexes_same false a sz = refl
indexes_same true None sz = refl
indexes_same true (Some space) None = refl
indexes_same true (Some space) (Some size) = refl

pub indexes_are_listed : (fs : Fields) → indexes_list_of fs ≡ option_map wanted (list_indexes_request fs)
unfolding indexes_list_of list_indexes_request
indexes_are_listed fs = indexes_same (has_only indexes_fields fs) (named_space (codes "listIndexes") fs) (optional_size fs)
