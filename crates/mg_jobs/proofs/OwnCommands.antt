-- The commands that a follow may send name no session, and those that open a watch open its own.
use Rattle.std.proofs.Common.{◌≡◌, ℕ, zero, suc, ℤ, List, Option, Some, None, refl, sym, ap, ◌∙◌, subst}
use Rattle.std.specs.Prelude.{codes, option_and_then, option_map, unwrap_or}
use Rattle.mg_bson.specs.Tree.{Tree, Fields, document}
use Rattle.mg_bson.specs.Find.{get}
use Rattle.mg_bson.specs.Raw.{fields}
use Rattle.mg_bson.specs.declared.tree.Timestamp.{Timestamp}
use Rattle.mg_link.specs.Numbers.{as_integer}
use Rattle.mg_server.specs.Commands.{Asked, asked, asked_by, asks_more, asks_other, asks_watch, filter_stages, more_of, space_at}
use Rattle.mg_server.specs.Filter.{Condition}
use Rattle.mg_link.specs.Namespace.{Space, Target, database, collection, cluster, target}
use Rattle.mg_link.specs.Session.{Session}
use Rattle.mg_server.specs.State.{Start, Watch}
use Rattle.mg_server.proofs.Watched.{AsksToWatch}
use Rattle.mg_options.specs.Fields.{fields_in}
use Rattle.mg_options.specs.declared.change_stream.ChangeStreamOptions.{ChangeStreamOptions}
use Rattle.mg_ops.specs.Aims.{Aim, aim, asked_for}
use Rattle.mg_ops.specs.Bodies.{watch_body}
use Rattle.mg_ops.specs.Cursors.{Manner, next_command, watch_manner}
use Rattle.mg_ops.specs.Naming.{start_in}
use Rattle.mg_ops.specs.Resuming.{options_for}
use Rattle.mg_ops.specs.Sessions.{in_session}
use Rattle.mg_ops.specs.declared.change_stream.ChangeStreamData.{ChangeStreamData}
use Rattle.mg_ops.specs.declared.change_stream.WatchArgs.{WatchArgs}
use Rattle.mg_ops.proofs.Asking.{asks_as_aimed, asks_to_kill_plainly}
use Rattle.mg_script.specs.Plan.{Begin, at_time, nowhere, resume_after, start_after}
use Rattle.mg_jobs.specs.Completing.{HasShortTarget}
use Rattle.mg_players.specs.Follows.{IsArgsFor, all_changes_of, options_of, stages_of}
use Rattle.mg_players.specs.Sends.{IsCommandOf, asks, kills, opens, resumes}
use Rattle.mg_jobs.proofs.OpeningRead.{FitsSize, plain}
use Rattle.mg_jobs.proofs.Resumed.{plain_for}
use Rattle.mg_jobs.proofs.WatchTaken.{sized}

-- ---- sessions

abbrev pub names_session : Fields → Option Tree
names_session fs = get (codes "lsid") fs

abbrev bodied : Target → Option Fields → ChangeStreamOptions → Option Session → Fields
bodied on filter o session = fields_in (watch_body on (stages_of filter) o session)

bare_watch : (on : Target) (filter : Option Fields) (resume start : Option Tree) (time : Option Timestamp) (batch : Option ℕ) → FitsSize batch → names_session (bodied on filter (plain resume start time (all_changes_of on) batch) None) ≡ None
bare_watch on None resume start time None few = refl
bare_watch on None resume start time (Some n) few = rw few refl
bare_watch on (Some f) resume start time None few = refl
bare_watch on (Some f) resume start time (Some n) few = rw few refl

named_watch : (on : Target) (filter : Option Fields) (resume start : Option Tree) (time : Option Timestamp) (batch : Option ℕ) → FitsSize batch → (s : Session) → names_session (bodied on filter (plain resume start time (all_changes_of on) batch) (Some s)) ≡ Some (document s.id)
named_watch on None resume start time None few s = refl
named_watch on None resume start time (Some n) few s = rw few refl
named_watch on (Some f) resume start time None few s = refl
named_watch on (Some f) resume start time (Some n) few s = rw few refl

bare_more : (id : ℤ) (space : Space) (size : Option ℕ) → names_session (next_command id space (sized size)) ≡ None
bare_more id space None = refl
bare_more id space (Some zero) = refl
bare_more id space (Some (suc n)) = refl

named_more : (id : ℤ) (space : Space) (size : Option ℕ) (s : Session) → names_session (in_session (Some s) (next_command id space (sized size))) ≡ Some (document s.id)
named_more id space None s = refl
named_more id space (Some zero) s = refl
named_more id space (Some (suc n)) s = refl

module _ (on : Target) (start : Begin) (filter : Option Fields) (batch : Option ℕ) where
  abbrev pub AreIts : WatchArgs → Type 0
  AreIts = IsArgsFor on start filter batch

  abbrev pub aggregate_in : WatchArgs → Option ChangeStreamData → ℤ → Option Session → Fields
  aggregate_in args known wire session = fields_in (watch_body (target args.target) args.pipeline.items (options_for args.options known wire) session)

  -- its aggregate is that of what it follows
  pub its_body : (args : WatchArgs) (known : Option ChangeStreamData) (wire : ℤ) (session : Option Session) → AreIts args → aggregate_in args known wire session ≡ bodied on filter (options_for (options_of on start batch) known wire) session
  its_body args known wire session its =
      ap (λ (t : Target). fields_in (watch_body t args.pipeline.items (options_for args.options known wire) session)) its.target_is
      ∙ ap (λ (ds : List Fields). fields_in (watch_body on ds (options_for args.options known wire) session)) its.stages
      ∙ ap (λ (o : ChangeStreamOptions). fields_in (watch_body on (stages_of filter) (options_for o known wire) session)) its.options_are

  pub its_manner : (args : WatchArgs) → AreIts args → watch_manner args.options ≡ sized batch
  its_manner args its = ap watch_manner its.options_are ∙ manner_by start
    where
      manner_by : (start : Begin) → watch_manner (options_of on start batch) ≡ sized batch
      manner_by nowhere = refl
      manner_by (resume_after token) = refl
      manner_by (start_after token) = refl
      manner_by (at_time seconds increment) = refl

  module _ (few : FitsSize batch) where
    bare_aggregate : (args : WatchArgs) (known : Option ChangeStreamData) (wire : ℤ) → AreIts args → names_session (aggregate_in args known wire None) ≡ None
    bare_aggregate args known wire its =
        let p = plain_for on start batch known wire in
        ap names_session (its_body args known wire None its ∙ ap (λ (o : ChangeStreamOptions). bodied on filter o None) p.is) ∙ bare_watch on filter p.resume p.start p.time batch few

    named_aggregate : (args : WatchArgs) (known : Option ChangeStreamData) (wire : ℤ) (s : Session) → AreIts args → names_session (aggregate_in args known wire (Some s)) ≡ Some (document s.id)
    named_aggregate args known wire s its =
        let p = plain_for on start batch known wire in
        ap names_session (its_body args known wire (Some s) its ∙ ap (λ (o : ChangeStreamOptions). bodied on filter o (Some s)) p.is) ∙ named_watch on filter p.resume p.start p.time batch few s

    -- what it may send names none
    pub names_none : (fs : Fields) → IsCommandOf AreIts fs → names_session fs ≡ None
    names_none fs (opens args wire its is) = ap names_session is ∙ bare_aggregate args None wire its
    names_none fs (resumes a wire its is) = ap names_session is ∙ bare_aggregate a.args a.resume wire its
    names_none fs (asks args its id space is) = ap names_session (is ∙ ap (next_command id space) (its_manner args its)) ∙ bare_more id space batch
    names_none fs (kills space ids is) = ap names_session is

    -- so an aggregate of it is sent in none
    pub alone_aggregate : (fs : Fields) (args : WatchArgs) (known : Option ChangeStreamData) (wire : ℤ) (session : Option Session) → IsCommandOf AreIts fs → AreIts args → fs ≡ aggregate_in args known wire session → session ≡ None
    alone_aggregate fs args known wire None may its is = refl
    alone_aggregate fs args known wire (Some s) may its is = let bad : None ≡ Some (document s.id) = sym (names_none fs may) ∙ ap names_session is ∙ named_aggregate args known wire s its in absurd cc

    -- nor is a getMore
    pub alone_more : (fs : Fields) (id : ℤ) (space : Space) (session : Option Session) → IsCommandOf AreIts fs → fs ≡ in_session session (next_command id space (sized batch)) → session ≡ None
    alone_more fs id space None may is = refl
    alone_more fs id space (Some s) may is = let bad : None ≡ Some (document s.id) = sym (names_none fs may) ∙ ap names_session is ∙ named_more id space batch s in absurd cc

-- ---- what it watches

-- it asks for a watch of this target
pub record Watches (on : Target) (a : Asked) : Type 0 where
  pub watch : Watch
  pub from : Start
  pub is : a ≡ asks_watch watch from
  pub aims : watch.target ≡ on

abbrev aims_so : Option (List Condition) → Option Start → Option Target → Option Aim
aims_so f s t = option_and_then (λ filter. option_and_then (λ start. option_map (λ t. record { watch = record { target = t; filter = filter }; start = start }) t) s) f

watches_by : (on : Target) (a : Asked) (f : Option (List Condition)) (s : Option Start) (t : Option Target) → ((x : Target) → t ≡ Some x → x ≡ on) → a ≡ asked_for (aims_so f s t) → AsksToWatch a → Watches on a
watches_by on a (Some filter) (Some start) (Some t) same is watches = record { watch = record { target = t; filter = filter }; from = start; is = is; aims = same t refl }
watches_by on a (Some filter) (Some start) None same is watches = absurd (subst AsksToWatch is watches)
watches_by on a (Some filter) None t same is watches = absurd (subst AsksToWatch is watches)
watches_by on a None s t same is watches = absurd (subst AsksToWatch is watches)

-- the options of its aggregate aim at its target
aims_at : (on : Target) (o : ChangeStreamOptions) (x : Target) → HasShortTarget on → o.all_changes_for_cluster ≡ all_changes_of on → aim o on ≡ Some x → x ≡ on
aims_at (collection space) o x short all is = let here : aim o (collection space) ≡ Some (collection space) = rw (short.named.db, short.named.coll) refl in let both : Some x ≡ Some (collection space) = sym is ∙ here in cc
aims_at (database db) o x short all is = let here : aim o (database db) ≡ Some (database db) = rw (short.0, all) refl in let both : Some x ≡ Some (database db) = sym is ∙ here in cc
aims_at cluster o x short all is = let here : aim o cluster ≡ Some cluster = rw (all) refl in let both : Some x ≡ Some cluster = sym is ∙ here in cc

by_more : (id : Option ℤ) (s : Option Space) → AsksToWatch (unwrap_or (option_and_then (λ id. option_map (asks_more id) s) id) asks_other) → ⊥
by_more None s watches = watches
by_more (Some id) None watches = watches
by_more (Some id) (Some s) watches = watches

more_watches : (fs : Fields) → AsksToWatch (unwrap_or (more_of fs) asks_other) → ⊥
unfolding more_of
more_watches fs watches = by_more (option_and_then as_integer (get (codes "getMore") fs)) (space_at (codes "collection") fs) watches

never_more : (command : List ℕ) (id : ℤ) (space : Space) (m : Manner) → fields command ≡ next_command id space m → AsksToWatch (asked command) → ⊥
unfolding asked
never_more command id space m is watches = more_watches (next_command id space m) (subst (λ (fs : Fields). AsksToWatch (unwrap_or (asked_by fs) asks_other)) is watches)

module _ (on : Target) (start : Begin) (filter : Option Fields) (batch : Option ℕ) (short : HasShortTarget on) where
  by_aggregate : (command : List ℕ) (args : WatchArgs) (known : Option ChangeStreamData) (wire : ℤ) → AreIts on start filter batch args → fields command ≡ aggregate_in on start filter batch args known wire None → AsksToWatch (asked command) → Watches on (asked command)
  by_aggregate command args known wire its is watches =
      let o = options_for (options_of on start batch) known wire in
      let p = plain_for on start batch known wire in
      watches_by on (asked command) (filter_stages (stages_of filter)) (start_in o) (aim o on) (λ x aims. aims_at on o x short (ap (λ (y : ChangeStreamOptions). y.all_changes_for_cluster) p.is) aims)
      (asks_as_aimed command on (stages_of filter) o None (is ∙ its_body on start filter batch args known wire None its)) watches

  -- What it may send asks for a watch of its own target, if for any.
  pub watches_its : (command : List ℕ) → IsCommandOf (AreIts on start filter batch) (fields command) → AsksToWatch (asked command) → Watches on (asked command)
  watches_its command (opens args wire its is) watches = by_aggregate command args None wire its is watches
  watches_its command (resumes a wire its is) watches = by_aggregate command a.args a.resume wire its is watches
  watches_its command (asks args its id space is) watches = absurd (never_more command id space (watch_manner args.options) is watches)
  watches_its command (kills space ids is) watches = absurd (subst AsksToWatch (asks_to_kill_plainly command space ids is) watches)
