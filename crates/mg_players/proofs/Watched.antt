-- What a follow's arguments ask for, and whether it watches something.
use Rattle.std.proofs.Common.{◌≡◌, ◌⊎◌, ℕ, Bool, false, List, [], ◌∷◌, Option, Some, None, option_map, refl, sym, ap, ◌∙◌, inl, inr}
use Rattle.std.specs.Prelude.{codes, option_and_then, string_bytes, unwrap_or, if◌then◌else◌}
use Rattle.std.proofs.lemmas.Bool.{cases_Bool}
use Rattle.mg_bson.specs.Tree.{Fields}
use Rattle.mg_link.specs.Namespace.{as_collection, as_database, has_dot, Target, database, collection, cluster, target}
use Rattle.mg_server.specs.Commands.{filter_stages, whole_target}
use Rattle.mg_server.specs.Filter.{Condition}
use Rattle.mg_server.specs.State.{Start, Watch}
use Rattle.mg_link.specs.declared.namespace.OperationTarget.{OperationTarget}
use Rattle.mg_link.specs.declared.namespace.OperationTarget.TheVariants as targets
use Rattle.mg_options.specs.declared.change_stream.ChangeStreamOptions.{ChangeStreamOptions}
use Rattle.mg_ops.specs.Aims.{aim}
use Rattle.mg_ops.specs.declared.change_stream.WatchArgs.{WatchArgs}
use Rattle.mg_change.specs.ClientStreams.{Asks}
use Rattle.mg_change.specs.Following.{AsksNothing}
use Rattle.mg_script.specs.Plan.{Begin, begin}
use Rattle.mg_players.specs.Follows.{IsArgsOf, all_changes, all_changes_of, begun_options, filter_in, IsTarget, IsUnwatched, IsWatch, IsWatched, WatchesNothing, aimed, stages_of, start_of}
use Rattle.mg_players.specs.Telling.{IsWatchArgs}
use Rattle.mg_players.specs.declared.follow.Watched.{Watched}

-- ---- names

database_same : (db d : List ℕ) → as_database db ≡ Some d → db ≡ d
database_same [] d h = absurd cc
database_same (b ∷ bs) d h =
    elim (cases_Bool (has_dot (b ∷ bs))) [
      | inl dotted ↦ let e : None ≡ Some d = sym (ap (λ (x : Bool). if x then None else Some (b ∷ bs)) dotted) ∙ h in absurd cc
      | inr undotted ↦ let e : Some (b ∷ bs) ≡ Some d = sym (ap (λ (x : Bool). if x then None else Some (b ∷ bs)) undotted) ∙ h in cc
    ]

collection_same : (coll c : List ℕ) → as_collection coll ≡ Some c → coll ≡ c
collection_same [] c h = absurd cc
collection_same (b ∷ bs) c h = cc

-- two names that are there
record Named (a b : Option (List ℕ)) (t : Target) : Type 0 where
  db : List ℕ
  coll : List ℕ
  db_is : a ≡ Some db
  coll_is : b ≡ Some coll
  is : t ≡ collection (record { db = db; coll = coll })

named_by : (a b : Option (List ℕ)) (t : Target) → option_and_then {U = Target} (λ db. option_map (λ coll. collection (record { db = db; coll = coll })) b) a ≡ Some t → Named a b t
named_by None b t h = absurd cc
named_by (Some db) None t h = absurd cc
named_by (Some db) (Some coll) t h = record { db = db; coll = coll; db_is = refl; coll_is = refl; is = cc }

database_by : (a : Option (List ℕ)) (t : Target) → option_and_then {U = Target} (λ db. Some (database db)) a ≡ Some t → (db : List ℕ) × (a ≡ Some db) × (t ≡ database db)
database_by None t h = absurd cc
database_by (Some db) t h = (db, refl, cc)

aimed_named : (on : Target) → IsTarget on → aimed on ≡ Some on
aimed_named (collection space) named = rw (named.db, named.coll) refl
aimed_named (database db) named = rw named refl
aimed_named cluster named = refl

named_aimed : (on t : Target) → aimed on ≡ Some t → IsTarget on × (t ≡ on)
named_aimed (collection space) t h =
    let n = named_by (as_database space.db) (as_collection space.coll) t h in
    let db = database_same space.db n.db n.db_is in
    let coll = collection_same space.coll n.coll n.coll_is in (
      record { db = n.db_is ∙ ap Some (sym db); coll = n.coll_is ∙ ap Some (sym coll) },
      n.is ∙ ap (λ d. collection (record { db = d; coll = n.coll })) (sym db) ∙ ap (λ c. collection (record { db = space.db; coll = c })) (sym coll),
    )
named_aimed (database db) t h =
    let n = database_by (as_database db) t h in
    let e = database_same db n.0 n.1 in
    (n.1 ∙ ap Some (sym e), n.2 ∙ ap database (sym e))
named_aimed cluster t h = (tt, cc)

-- ---- what the arguments ask for

pub args_ask : (v : Watched) (a : WatchArgs) → IsArgsOf v a → (w : Watch) (start : Start) → IsWatched v w start → Asks a w start
args_ask v a is w start watched =
    record {
      aimed = is.aims ∙ aimed_named (target v.target.now) watched.named ∙ ap Some (sym watched.on_is);
      by = ap filter_stages is.stages ∙ watched.by;
      from = is.starts ∙ ap Some (sym watched.from_is);
    }

pub args_ask_nothing : (v : Watched) (a : WatchArgs) → IsArgsOf v a → IsUnwatched v → AsksNothing a
args_ask_nothing v a is none w start asks =
    let n = named_aimed (target v.target.now) w.target (sym is.aims ∙ asks.aimed) in
    let from : Some start ≡ Some (start_of (begin v.start.now)) = sym asks.from ∙ is.starts in
    none w start (record { named = n.0; on_is = n.1; by = sym (ap filter_stages is.stages) ∙ asks.by; from_is = cc })

-- ---- something is watched, or nothing is

watched_by : (on : Target) (start : Begin) (filter : Option Fields) (o : Option Target) (f : Option (List Condition)) → aimed on ≡ o → filter_stages (stages_of filter) ≡ f → ((w : Watch) × (from : Start) × IsWatch on start filter w from) ⊎ WatchesNothing on start filter
watched_by on start filter (Some t) (Some c) is by =
    let n = named_aimed on t is in
    inl (record { target = t; filter = c }, start_of start, record { named = n.0; on_is = n.1; by = by; from_is = refl })
watched_by on start filter None f is by = inr (λ w from watch. let e : None ≡ Some on = sym is ∙ aimed_named on watch.named in absurd cc)
watched_by on start filter (Some t) None is by = inr (λ w from watch. let e : None ≡ Some w.filter = sym by ∙ watch.by in absurd cc)

pub watch_or_nothing : (on : Target) (start : Begin) (filter : Option Fields) → ((w : Watch) × (from : Start) × IsWatch on start filter w from) ⊎ WatchesNothing on start filter
watch_or_nothing on start filter = watched_by on start filter (aimed on) (filter_stages (stages_of filter)) refl refl

-- ---- how the arguments are made

aimed_so : (o : ChangeStreamOptions) (t : OperationTarget) → o.all_changes_for_cluster ≡ all_changes t → aim o (target t) ≡ aimed (target t)
aimed_so o (targets.Database db) e = ap (λ (b : Option Bool). option_and_then (whole_target (unwrap_or b false)) (as_database (string_bytes db))) e
aimed_so o (targets.Collection ns) e = refl
aimed_so o targets.Cluster e = ap (λ (b : Option Bool). whole_target (unwrap_or b false) (codes "admin")) e

pub aimed_as : (o : ChangeStreamOptions) (t : OperationTarget) (u : Target) → o.all_changes_for_cluster ≡ all_changes t → u ≡ target t → aim o u ≡ aimed (target t)
aimed_as o t u e is = ap (aim o) is ∙ aimed_so o t e

changes_as : (t : OperationTarget) → all_changes t ≡ all_changes_of (target t)
changes_as (targets.Database db) = refl
changes_as (targets.Collection ns) = refl
changes_as targets.Cluster = refl

-- the arguments are just those of what is watched
pub args_made : (v : Watched) (a : WatchArgs) (o : ChangeStreamOptions) → target a.target ≡ target v.target.now → a.pipeline.items ≡ stages_of (filter_in v) → o ≡ begun_options (begin v.start.now) → (b : Option Bool) → b ≡ all_changes v.target.now → a.options ≡ record o { all_changes_for_cluster = b; batch_size = v.batch_size } → IsWatchArgs v a
args_made v a o on stages begun b changes options =
    record {
      target_is = on;
      stages = stages;
      options_are = options ∙ ap (λ (x : ChangeStreamOptions). record x { all_changes_for_cluster = b; batch_size = v.batch_size }) begun ∙ ap (λ (c : Option Bool). record (begun_options (begin v.start.now)) { all_changes_for_cluster = c; batch_size = v.batch_size }) (changes ∙ changes_as v.target.now);
    }
