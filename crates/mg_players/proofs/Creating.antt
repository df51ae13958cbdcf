-- The commands of inserts and follows create no collection.
use Rattle.std.proofs.Common.{◌≡◌, ℕ, ℤ, Bool, true, false, List, [], ◌∷◌, Option, Some, None, refl, ap, ◌∙◌}
use Rattle.std.specs.Prelude.{codes, if◌then◌else◌, option_and_then, option_map, unwrap_or}
use Rattle.mg_bson.specs.Tree.{Fields}
use Rattle.mg_bson.specs.Raw.{fields}
use Rattle.mg_bson.specs.Find.{as_array, get}
use Rattle.mg_bson.specs.Reading.{◌>>=◌}
use Rattle.mg_link.specs.Numbers.{as_integer}
use Rattle.mg_server.specs.Commands.{Asked, asked, asked_by, asks_create, asks_delete, asks_drop, asks_indexes, asks_insert, asks_kill, asks_more, asks_other, asks_query, asks_update, asks_watch, documents_in, flag_or, filter_stages, has_only, insert_of, integers_in, kill_of, more_of, or_asks, pipeline_fields, pipeline_query, piped, refuses, space_at, stages_in, start_of, target_of, watch_by, watch_from, watch_of, watch_stage_options}
use Rattle.mg_server.specs.Filter.{Condition}
use Rattle.mg_link.specs.Namespace.{Space, Target, target}
use Rattle.mg_server.specs.Prompt.{AnswersAtOnce}
use Rattle.mg_server.specs.Query.{Query}
use Rattle.mg_server.specs.State.{Start, State}
use Rattle.mg_options.specs.Fields.{fields_in}
use Rattle.mg_link.specs.Session.{Session}
use Rattle.mg_ops.specs.Bodies.{watch_body, insert_command}
use Rattle.mg_ops.specs.Sessions.{in_session}
use Rattle.mg_ops.specs.Commands.{kill_command}
use Rattle.mg_change.specs.ClientStreams.{resuming_in}
use Rattle.mg_ops.specs.Cursors.{Manner, next_command}
use Rattle.mg_ops.specs.Resuming.{options_for}
use Rattle.mg_ops.specs.declared.aggregate.ChangeStreamAggregate.{ChangeStreamAggregate}
use Rattle.mg_options.specs.declared.change_stream.ChangeStreamOptions.{ChangeStreamOptions}

abbrev pub creates : Asked → Bool
creates (asks_insert space documents ordered) = false
creates (asks_update space filter modification many) = false
creates (asks_delete space filter many) = false
creates (asks_query query) = false
creates (asks_watch watch start) = false
creates (asks_more id space) = false
creates (asks_kill ids) = false
creates (asks_create space) = true
creates (asks_indexes space indexes) = false
creates (asks_drop space) = false
creates asks_other = false

abbrev found_creates : Option Asked → Bool
found_creates found = creates (unwrap_or found asks_other)

-- the command creates no collection
abbrev pub CreatesNone : Fields → Type 0
CreatesNone fs = found_creates (asked_by fs) ≡ false

pub asked_creates : (bytes : List ℕ) (command : Fields) → fields bytes ≡ command → CreatesNone command → creates (asked bytes) ≡ false
unfolding asked
asked_creates bytes command is not = ap (λ (fs : Fields). found_creates (asked_by fs)) is ∙ not

-- what creates none is not refused by a server that answers at once
pub never_refused : (s s' : State) (command : Asked) (code : ℤ) (labels : List (List ℕ)) → creates command ≡ false → AnswersAtOnce s s' command (refuses code labels) → ⊥
never_refused s s' (asks_insert space documents ordered) code labels not h = h
never_refused s s' (asks_update space filter modification many) code labels not h = h
never_refused s s' (asks_delete space filter many) code labels not h = h
never_refused s s' (asks_query query) code labels not h = h
never_refused s s' (asks_watch watch start) code labels not h = h
never_refused s s' (asks_more id space) code labels not h = h
never_refused s s' (asks_kill ids) code labels not h = h
never_refused s s' (asks_create space) code labels not h = absurd cc
never_refused s s' (asks_indexes space indexes) code labels not h = h
never_refused s s' (asks_drop space) code labels not h = h
never_refused s s' asks_other code labels not h = h

-- ---- the four commands

by_insert : (s : Option Space) (d : Option (List Fields)) (f : Option Bool) → found_creates (option_and_then (λ space. option_and_then (λ ds. option_map (asks_insert space ds) f) d) s) ≡ false
by_insert None d f = refl
by_insert (Some s) None f = refl
by_insert (Some s) (Some d) None = refl
by_insert (Some s) (Some d) (Some f) = refl

insert_creates : (fs : Fields) → found_creates (insert_of fs) ≡ false
unfolding insert_of
insert_creates fs = by_insert (space_at (codes "insert") fs) (option_and_then documents_in (option_and_then as_array (get (codes "documents") fs))) (flag_or true (get (codes "ordered") fs))

by_watch : (c : Option (List Condition)) (s : Option Start) (t : Option Target) → found_creates (option_and_then (λ filter. option_and_then (λ start. option_map (λ target. asks_watch (record { target = target; filter = filter }) start) t) s) c) ≡ false
by_watch None s t = refl
by_watch (Some c) None t = refl
by_watch (Some c) (Some s) None = refl
by_watch (Some c) (Some s) (Some t) = refl

by_options : (fs : Fields) (stages : List Fields) (o : Option Fields) → found_creates (option_and_then (λ options. watch_by fs options stages) o) ≡ false
by_options fs stages None = refl
by_options fs stages (Some options) = by_watch (filter_stages stages) (start_of options) (target_of options fs)

by_stages : (fs : Fields) (o : Option (List Fields)) → found_creates (option_and_then (watch_from fs) o) ≡ false
by_stages fs None = refl
by_stages fs (Some []) = refl
by_stages fs (Some (stage ∷ stages)) = by_options fs stages (watch_stage_options stage)

watch_creates : (fs : Fields) → found_creates (watch_of fs) ≡ false
unfolding watch_of
watch_creates fs = by_stages fs (option_and_then documents_in (option_and_then as_array (get (codes "pipeline") fs)))

by_query : (b : Bool) (q : Option Query) → found_creates (if b then option_map asks_query q else None) ≡ false
by_query false q = refl
by_query true None = refl
by_query true (Some q) = refl

pipeline_creates : (fs : Fields) → found_creates (pipeline_query fs) ≡ false
unfolding pipeline_query
pipeline_creates fs = by_query (has_only pipeline_fields fs) (space_at (codes "aggregate") fs >>= piped fs (stages_in fs))

first_creates : (o p : Option Asked) → found_creates o ≡ false → found_creates p ≡ false → found_creates (or_asks o p) ≡ false
first_creates None p h g = g
first_creates (Some a) p h g = h

by_more : (id : Option ℤ) (s : Option Space) → found_creates (option_and_then (λ id. option_map (asks_more id) s) id) ≡ false
by_more None s = refl
by_more (Some id) None = refl
by_more (Some id) (Some s) = refl

more_creates : (fs : Fields) → found_creates (more_of fs) ≡ false
unfolding more_of
more_creates fs = by_more (option_and_then as_integer (get (codes "getMore") fs)) (space_at (codes "collection") fs)

by_kill : (ids : Option (List ℤ)) → found_creates (option_map asks_kill ids) ≡ false
by_kill None = refl
by_kill (Some ids) = refl

kill_creates : (fs : Fields) → found_creates (kill_of fs) ≡ false
unfolding kill_of
kill_creates fs = by_kill (option_and_then integers_in (option_and_then as_array (get (codes "cursors") fs)))

pub inserting_none : (space : Space) (documents : List Fields) → CreatesNone (insert_command space documents)
inserting_none space documents = insert_creates (insert_command space documents)

pub watching_none : (target : Target) (stages : List Fields) (o : ChangeStreamOptions) (session : Option Session) → CreatesNone (fields_in (watch_body target stages o session))
watching_none target stages o session =
    let fs = fields_in (watch_body target stages o session) in
    first_creates (watch_of fs) (pipeline_query fs) (watch_creates fs) (pipeline_creates fs)

pub asking_none : (id : ℤ) (space : Space) (manner : Manner) (session : Option Session) → CreatesNone (in_session session (next_command id space manner))
asking_none id space manner None = more_creates (next_command id space manner)
asking_none id space manner (Some s) = more_creates (in_session (Some s) (next_command id space manner))

pub killing_none : (space : Space) (ids : List ℤ) → CreatesNone (kill_command space ids)
killing_none space ids = kill_creates (kill_command space ids)

pub resuming_none : (a : ChangeStreamAggregate) (wire : ℤ) (session : Option Session) → CreatesNone (resuming_in a wire session)
resuming_none a wire session = watching_none (target a.args.target) a.args.pipeline.items (options_for a.args.options a.resume wire) session
