-- What the rules of the store reply to the aggregate that opens a watch.
use Rattle.std.proofs.Common.{◌≡◌, ℕ, Bool, true, false, List, ◌∷◌, Option, Some, None, Ok, refl, ap, ◌∙◌, ◌^◌}
use Rattle.std.specs.Prelude.{codes, is_some, ltb}
use Rattle.mg_bson.specs.Tree.{Tree, document, Fields}
use Rattle.mg_bson.specs.Find.{get}
use Rattle.mg_bson.specs.Literal.{◌⇒◌⨾◌, empty}
use Rattle.mg_link.specs.Namespace.{as_collection, Target, database, collection, cluster}
use Rattle.mg_server.specs.Commands.{batch_size, filter_stages, flag_or, has_only, pipeline_fields, stages_in, start_of as start_in}
use Rattle.mg_server.specs.Filter.{Condition}
use Rattle.mg_server.specs.Rules.{Request, aggregate_request, bad_request, or_code, or_request, pipeline_request, as_name, option_names, request_of, target_at, watch, watch_request, without_dot}
use Rattle.mg_bson.specs.declared.tree.Timestamp.{Timestamp}
use Rattle.mg_options.specs.Options.{change_stream_fields, no_options}
use Rattle.mg_options.specs.declared.change_stream.ChangeStreamOptions.{ChangeStreamOptions}
use Rattle.mg_ops.specs.Bodies.{watch_command}
use Rattle.mg_ops.specs.Commands.{watch_stage}
use Rattle.mg_players.specs.Follows.{all_changes_of, options_of, stages_of, start_of}
use Rattle.mg_script.specs.Plan.{Begin, at_time, nowhere, resume_after, start_after}

-- the store takes the names of a target
abbrev pub Takes : Target → Type 0
Takes (collection space) = (as_name space.db ≡ Some space.db) × (without_dot space.db ≡ Some space.db) × (as_name space.coll ≡ Some space.coll) × (as_collection space.coll ≡ Some space.coll)
Takes (database db) = (as_name db ≡ Some db) × (without_dot db ≡ Some db)
Takes cluster = Unit {0}

abbrev pub is_resumed : Begin → Bool
is_resumed nowhere = false
is_resumed (resume_after token) = true
is_resumed (start_after token) = false
is_resumed (at_time seconds increment) = false

abbrev is_all : Option Bool → Bool
is_all None = false
is_all (Some b) = b

-- the options of a watch that say where it begins, how large its batches are, and whether it is of all databases
abbrev pub plain : Option Tree → Option Tree → Option Timestamp → Option Bool → Option ℕ → ChangeStreamOptions
plain resume start time all batch = record no_options { resume_after = resume; start_after = start; start_at_operation_time = time; all_changes_for_cluster = all; batch_size = batch }

abbrev resume_in : Begin → Option Tree
resume_in nowhere = None
resume_in (resume_after token) = Some token
resume_in (start_after token) = None
resume_in (at_time seconds increment) = None

abbrev after_in : Begin → Option Tree
after_in nowhere = None
after_in (resume_after token) = None
after_in (start_after token) = Some token
after_in (at_time seconds increment) = None

abbrev time_in : Begin → Option Timestamp
time_in nowhere = None
time_in (resume_after token) = None
time_in (start_after token) = None
time_in (at_time seconds increment) = Some (record { time = seconds; increment = increment })

abbrev begun : Option Bool → Begin → Option ℕ → ChangeStreamOptions
begun all start batch = plain (resume_in start) (after_in start) (time_in start) all batch

pub begun_is : (on : Target) (start : Begin) (batch : Option ℕ) → options_of on start batch ≡ begun (all_changes_of on) start batch
begun_is on nowhere batch = refl
begun_is on (resume_after token) batch = refl
begun_is on (start_after token) batch = refl
begun_is on (at_time seconds increment) batch = refl

-- what the store reads in them
record AreRead (all : Option Bool) (start : Begin) (options : Fields) : Type 0 where
  only : has_only option_names options ≡ true
  whole : flag_or false (get (codes "allChangesForCluster") options) ≡ Some (is_all all)
  from : start_in options ≡ Some (start_of start)
  resumes : is_some (get (codes "resumeAfter") options) ≡ is_resumed start

are_read : (all : Option Bool) (start : Begin) (batch : Option ℕ) → AreRead all start (change_stream_fields (begun all start batch))
are_read None nowhere batch = record { only = refl; whole = refl; from = refl; resumes = refl }
are_read None (resume_after token) batch = record { only = refl; whole = refl; from = refl; resumes = refl }
are_read None (start_after token) batch = record { only = refl; whole = refl; from = refl; resumes = refl }
are_read None (at_time seconds increment) batch = record { only = refl; whole = refl; from = refl; resumes = refl }
are_read (Some all) nowhere batch = record { only = refl; whole = refl; from = refl; resumes = refl }
are_read (Some all) (resume_after token) batch = record { only = refl; whole = refl; from = refl; resumes = refl }
are_read (Some all) (start_after token) batch = record { only = refl; whole = refl; from = refl; resumes = refl }
are_read (Some all) (at_time seconds increment) batch = record { only = refl; whole = refl; from = refl; resumes = refl }

-- what it reads in the command
record IsRead (on : Target) (stages : List Fields) (batch : Option ℕ) (all : Option Bool) (stage : Fields) (fs : Fields) : Type 0 where
  only : has_only pipeline_fields fs ≡ true
  these : stages_in fs ≡ Some (stage ∷ stages)
  size : batch_size fs ≡ Some batch
  aims : target_at fs (is_all all) ≡ Some on

abbrev pub FitsSize : Option ℕ → Type 0
FitsSize None = Unit {0}
FitsSize (Some n) = ltb n (2 ^ 31) ≡ true

module _ (resume start : Option Tree) (time : Option Timestamp) where
  is_read : (on : Target) (filter : Option Fields) (batch : Option ℕ) → Takes on → FitsSize batch
      → IsRead on (stages_of filter) batch (all_changes_of on) (watch_stage (plain resume start time (all_changes_of on) batch)) (watch_command on (stages_of filter) (plain resume start time (all_changes_of on) batch))
  unfolding batch_size
  is_read (collection space) None None takes fits = record { only = refl; these = refl; size = refl; aims = rw (takes.0, takes.1, takes.2, takes.3) refl }
  is_read (collection space) None (Some n) takes fits = record { only = rw fits refl; these = refl; size = rw fits refl; aims = rw (fits, takes.0, takes.1, takes.2, takes.3) refl }
  is_read (collection space) (Some filter) None takes fits = record { only = refl; these = refl; size = refl; aims = rw (takes.0, takes.1, takes.2, takes.3) refl }
  is_read (collection space) (Some filter) (Some n) takes fits = record { only = rw fits refl; these = refl; size = rw fits refl; aims = rw (fits, takes.0, takes.1, takes.2, takes.3) refl }
  is_read (database db) None None takes fits = record { only = refl; these = refl; size = refl; aims = rw (takes.0, takes.1) refl }
  is_read (database db) None (Some n) takes fits = record { only = rw fits refl; these = refl; size = rw fits refl; aims = rw (fits, takes.0, takes.1) refl }
  is_read (database db) (Some filter) None takes fits = record { only = refl; these = refl; size = refl; aims = rw (takes.0, takes.1) refl }
  is_read (database db) (Some filter) (Some n) takes fits = record { only = rw fits refl; these = refl; size = rw fits refl; aims = rw (fits, takes.0, takes.1) refl }
  is_read cluster None None takes fits = record { only = refl; these = refl; size = refl; aims = refl }
  is_read cluster None (Some n) takes fits = record { only = rw fits refl; these = refl; size = rw fits refl; aims = rw fits refl }
  is_read cluster (Some filter) None takes fits = record { only = refl; these = refl; size = refl; aims = refl }
  is_read cluster (Some filter) (Some n) takes fits = record { only = rw fits refl; these = refl; size = rw fits refl; aims = rw fits refl }

-- an aggregate that begins so is read as the watch
watch_read : (on : Target) (start : Begin) (stages : List Fields) (batch : Option ℕ) (conditions : List Condition) (all : Option Bool) (o : Fields) (fs : Fields) → AreRead all start o → IsRead on stages batch all ("$changeStream" ⇒ document o ⨾ empty) fs → filter_stages stages ≡ Some conditions
    → watch_request fs ≡ Some (watch (record { target = on; filter = conditions }) (start_of start) (is_resumed start) batch)
unfolding watch_request
watch_read on start stages batch conditions all o fs options command by = rw (command.only, command.these, by, options.only, options.whole, command.aims, options.from, command.size, options.resumes) refl

reads_plain : (on : Target) (start : Begin) (filter : Option Fields) (batch : Option ℕ) (conditions : List Condition) → Takes on → FitsSize batch → filter_stages (stages_of filter) ≡ Some conditions
    → request_of (watch_command on (stages_of filter) (begun (all_changes_of on) start batch)) ≡ Ok (watch (record { target = on; filter = conditions }) (start_of start) (is_resumed start) batch)
reads_plain on start filter batch conditions takes fits by =
    let all = all_changes_of on in
    let fs : Fields = watch_command on (stages_of filter) (begun all start batch) in
    first_is on (stages_of filter) (begun all start batch)
    ∙ ap (λ (r : Option Request). or_code bad_request (or_request r (pipeline_request fs))) (watch_read on start (stages_of filter) batch conditions all (change_stream_fields (begun all start batch)) fs (are_read all start batch) (is_read (resume_in start) (after_in start) (time_in start) on filter batch takes fits) by)
  where
    first_is : (on : Target) (stages : List Fields) (o : ChangeStreamOptions) → request_of (watch_command on stages o) ≡ or_code bad_request (aggregate_request (watch_command on stages o))
    first_is (collection space) stages o = refl
    first_is (database db) stages o = refl
    first_is cluster stages o = refl

-- An aggregate with these arguments is read as the watch that it opens.
pub reads_watch : (on : Target) (start : Begin) (filter : Option Fields) (batch : Option ℕ) (conditions : List Condition) → Takes on → FitsSize batch → filter_stages (stages_of filter) ≡ Some conditions
    → request_of (watch_command on (stages_of filter) (options_of on start batch)) ≡ Ok (watch (record { target = on; filter = conditions }) (start_of start) (is_resumed start) batch)
reads_watch on start filter batch conditions takes fits by =
    ap (λ (o : ChangeStreamOptions). request_of (watch_command on (stages_of filter) o)) (begun_is on start batch) ∙ reads_plain on start filter batch conditions takes fits by
