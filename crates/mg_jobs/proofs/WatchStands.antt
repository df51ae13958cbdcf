-- A cursor of a watch stands in the store until it is killed, where no entry ends a watch.
use Rattle.std.proofs.Common.{◌≡◌, ◌≢◌, ◌≤◌, ◌<◌, ◌++◌, ℕ, zero, suc, ℤ, pos, Bool, true, false, List, [], ◌∷◌, length, take, drop, Contains, Option, Some, None, Result, Ok, Err, refl, sym, ap, ap₂, ◌∙◌, subst, inl, inr, arith, length-append}
use Rattle.std.specs.Prelude.{if◌then◌else◌, ◌&&◌, ◌-◌, ◌⊎◌, codes, nat_le, slice_index_or, unwrap_or}
use Rattle.std.specs.List.{filter}
use Rattle.std.specs.Ordering.{int_eq}
use Rattle.std.specs.Str.{bytes_eq}
use Rattle.std.proofs.lemmas.Bool.{cases_Bool}
use Rattle.std.proofs.lemmas.Bool.Decides.{Decides-int_eq}
use Rattle.mg_bson.specs.Tree.{Tree, Fields, field, no_fields}
use Rattle.mg_bson.specs.Bytes.{bytes, levels}
use Rattle.mg_bson.specs.Raw.{fields}
use Rattle.mg_server.specs.Commands.{Asked, Told, asked, asks_create, asks_delete, asks_drop, asks_indexes, asks_insert, asks_kill, asks_more, asks_other, asks_query, asks_update, asks_watch, deleted, done, garbled, gave, inserted, killed, opened, refuses, told, updated}
use Rattle.mg_server.specs.History.{Step, step_after, told_at}
use Rattle.mg_link.specs.Namespace.{Space}
use Rattle.mg_server.specs.Prompt.{AnswersAtOnce, EndsByInvalidate, IsRefused}
use Rattle.mg_server.specs.Rules.{Answer, Request, aggregate_request, where_ok, answer, answer_more, answer_of, answer_with, bad_request, create_collection, create_indexes, create_request, delete, delete_request, drop_collection, drop_request, find, find_request, fitting, indexes_request, insert, insert_request, is_watch_of, kill, kill_request, list_collections_request, list_indexes_request, max_reply, more, more_reply, more_request, or_code, refusal, refused, request_of, size_of, token_of, unknown_command, update, update_request, watch, batch_events, batch_id, batch_place}
use Rattle.mg_server.specs.Standing.{Names, OpensId}
use Rattle.mg_server.specs.State.{Cursor, Entry, Start, State, Watch, between, give, is_invalidate, put_cursor, query, seen_between, sees, watching}
use Rattle.mg_server.specs.Step.{IsNamed, May, MayTell, effect, ends_cursor, grown, moved, watching_at}
use Rattle.mg_server.proofs.Cursoring.{other_int, same_int}
use Rattle.mg_server.proofs.Histories.{effect-changes, step_after-changes}
use Rattle.mg_server.proofs.Later.{grown-cursors, leaves_step}
use Rattle.mg_server.proofs.Owners.{same_some}
use Rattle.mg_server.proofs.Requests.{asked_is, asks_of, request_reads}
use Rattle.mg_server.proofs.Telling.{gave_tells, refusal_tells, told_reads}
use Rattle.mg_jobs.proofs.Added.{AreModestEntries}

-- the cursor is one of this watch, at a place that is there
pub record StandsFor (s : State) (x : ℤ) (w : Watch) : Type 0 where
  pub from : ℕ
  pub stood : s.cursors x ≡ Some (watching w from)
  pub within : from ≤ length s.changes

-- the rules read in the command that it kills the cursor
pub record KillsIt (fs : Fields) (x : ℤ) : Type 0 where
  pub ids : List ℤ
  pub reads : request_of fs ≡ Ok (kill ids)
  pub has : Contains ids x

-- ---- refusals

-- a code by which no cursor ends
abbrev EndsNone : Result Request ℤ → Type 0
EndsNone (Ok r) = Unit {0}
EndsNone (Err code) = ends_cursor code ≡ false

or_ends_none : (o : Option Request) → EndsNone (or_code bad_request o)
or_ends_none (Some r) = tt
or_ends_none None = refl

if_ends_none : (b : Bool) (x y : Result Request ℤ) → EndsNone x → EndsNone y → EndsNone (if b then x else y)
if_ends_none true x y first second = first
if_ends_none false x y first second = second

-- what cannot be read is refused with such a one
read_ends_none : (fs : Fields) → EndsNone (request_of fs)
read_ends_none no_fields = refl
read_ends_none (field k t fs) =
    let d = field k t fs in
    if_ends_none (bytes_eq k (codes "insert")) (or_code bad_request (insert_request d)) _ (or_ends_none (insert_request d))
    (if_ends_none (bytes_eq k (codes "aggregate")) (or_code bad_request (aggregate_request d)) _ (or_ends_none (aggregate_request d))
    (if_ends_none (bytes_eq k (codes "getMore")) (or_code bad_request (more_request d)) _ (or_ends_none (more_request d))
    (if_ends_none (bytes_eq k (codes "killCursors")) (or_code bad_request (kill_request d)) _ (or_ends_none (kill_request d))
    (if_ends_none (bytes_eq k (codes "find")) (or_code bad_request (find_request d)) _ (or_ends_none (find_request d))
    (if_ends_none (bytes_eq k (codes "create")) (or_code bad_request (create_request d)) _ (or_ends_none (create_request d))
    (if_ends_none (bytes_eq k (codes "createIndexes")) (or_code bad_request (indexes_request d)) _ (or_ends_none (indexes_request d))
    (if_ends_none (bytes_eq k (codes "update")) (or_code bad_request (update_request d)) _ (or_ends_none (update_request d))
    (if_ends_none (bytes_eq k (codes "delete")) (or_code bad_request (delete_request d)) _ (or_ends_none (delete_request d))
    (if_ends_none (bytes_eq k (codes "drop")) (or_code bad_request (drop_request d)) _ (or_ends_none (drop_request d))
    (if_ends_none (bytes_eq k (codes "listCollections")) (or_code bad_request (list_collections_request d)) _ (or_ends_none (list_collections_request d))
    (if_ends_none (bytes_eq k (codes "listIndexes")) (or_code bad_request (list_indexes_request d)) (Err unknown_command) (or_ends_none (list_indexes_request d)) refl)))))))))))

-- a refusal with such a code leaves the cursors
refused_leaves : (s : State) (a : Asked) (code : ℤ) (labels : List (List ℕ)) → ends_cursor code ≡ false → (effect s a (refuses code labels)).cursors ≡ s.cursors
unfolding effect
refused_leaves s (asks_more id space) code labels none = ap (λ (b : Bool). (if b then record s { cursors = put_cursor id None s.cursors } else s).cursors) none
refused_leaves s (asks_insert space documents ordered) code labels none = refl
refused_leaves s (asks_update space conditions m many) code labels none = refl
refused_leaves s (asks_delete space conditions many) code labels none = refl
refused_leaves s (asks_query q) code labels none = refl
refused_leaves s (asks_watch w start) code labels none = refl
refused_leaves s (asks_create space) code labels none = refl
refused_leaves s (asks_indexes space indexes) code labels none = refl
refused_leaves s (asks_drop space) code labels none = refl
refused_leaves s (asks_kill ids) code labels none = refl
refused_leaves s asks_other code labels none = refl

-- ---- no batch ends a watch

-- no entry is one by which a watch ends
abbrev EndNone : List Entry → Type 0
EndNone [] = Unit {0}
EndNone (e ∷ es) = (is_invalidate e.change ≡ false) × EndNone es

modest_end_none : (es : List Entry) → AreModestEntries es → EndNone es
modest_end_none [] a = tt
modest_end_none (e ∷ es) a = (a.0.1, modest_end_none es a.1)

behind_end_none : (n : ℕ) (es : List Entry) → EndNone es → EndNone (drop n es)
behind_end_none zero es a = a
behind_end_none (suc n) [] a = tt
behind_end_none (suc n) (e ∷ es) a = behind_end_none n es a.1

first_end_none : (n : ℕ) (es : List Entry) → EndNone es → EndNone (take n es)
first_end_none zero es a = tt
first_end_none (suc n) [] a = tt
first_end_none (suc n) (e ∷ es) a = (a.0, first_end_none n es a.1)

if_end_none : (b : Bool) (e : Entry) (es : List Entry) → is_invalidate e.change ≡ false → EndNone es → EndNone (if b then e ∷ es else es)
if_end_none true e es a rest = (a, rest)
if_end_none false e es a rest = rest

seen_end_none : (w : Watch) (es : List Entry) → EndNone es → EndNone (filter (sees w) es)
seen_end_none w [] a = tt
seen_end_none w (e ∷ es) a = if_end_none (sees w e) e (filter (sees w) es) a.0 (seen_end_none w es a.1)

between_end_none : (w : Watch) (es : List Entry) (from upto : ℕ) → EndNone es → EndNone (seen_between w es from upto)
between_end_none w es from upto a = seen_end_none w (between es from upto) (first_end_none (upto - from) (drop from es) (behind_end_none from es a))

none_at : (es : List Entry) (e : Entry) (k : ℕ) → EndNone es → k < length es → slice_index_or es k e ≡ e → is_invalidate e.change ≡ true → ⊥
none_at [] e k a less at is = absurd (omega (arith, less))
none_at (f ∷ es) e zero a less at is = let none : is_invalidate e.change ≡ false = subst (λ (x : Entry). is_invalidate x.change ≡ false) at a.0 in let bad : true ≡ false = sym is ∙ none in cc
none_at (f ∷ es) e (suc k) a less at is = none_at es e k a.1 (omega (arith, less)) at is

-- ---- a getMore of it

module _ (s : State) (x : ℤ) (w : Watch) (from : ℕ) (stood : s.cursors x ≡ Some (watching w from)) where
  abbrev IsBad : Answer → Type 0
  IsBad a = a ≡ refused bad_request

  fitting_or : (b : Bool) (a : Answer) → IsBad (if b then a else refused bad_request) ⊎ ((if b then a else refused bad_request) ≡ a)
  fitting_or true a = inr refl
  fitting_or false a = inl refl

  answer_or : (b : Bool) (a : Answer) → IsBad (fitting (if b then Ok a else Err bad_request)) ⊎ (fitting (if b then Ok a else Err bad_request) ≡ a)
  answer_or true a = fitting_or (nat_le (length (bytes a.reply)) max_reply && nat_le (levels a.reply) 100) a
  answer_or false a = inl refl

  -- the rules' answer to one
  pub more_answer : (id : ℤ) (fs : Fields) (space : Space) (size : Option ℕ) → request_of fs ≡ Ok (more x space size) → answer_of s id fs ≡ fitting (if is_watch_of space w then Ok (answer_with [] (more_reply s x space w from (size_of size))) else Err bad_request)
  unfolding answer_of
  more_answer id fs space size reads = ap (λ (r : Result Request ℤ). fitting (where_ok (answer s id) r)) reads ∙ ap (λ (o : Option Cursor). fitting (answer_more s x space (size_of size) o)) stood

  more_refused : (id : ℤ) (command reply : List ℕ) (space : Space) (size : Option ℕ) (code : ℤ) (labels : List (List ℕ)) → request_of (fields command) ≡ Ok (more x space size) → fields reply ≡ (answer_of s id (fields command)).reply → told (asked command) reply ≡ refuses code labels → ends_cursor code ≡ false
  more_refused id command reply space size code labels reads read says =
      let a = answer_with [] (more_reply s x space w from (size_of size)) in
      let by = more_answer id (fields command) space size reads in
      let place = batch_place w s.changes from (size_of size) in
      elim (answer_or (is_watch_of space w) a) [
        | inl bad ↦
            let tells = told_reads (asked command) reply (refusal bad_request []) (read ∙ ap (λ (o : Answer). o.reply) (by ∙ bad)) ∙ refusal_tells (asked command) bad_request [] in
            let both : refuses code labels ≡ refuses bad_request [] = sym says ∙ tells in
            let same : code ≡ bad_request = cc in
            subst (λ (c : ℤ). ends_cursor c ≡ false) (sym same) refl
        | inr good ↦
            let tells : told (asked command) reply ≡ gave (batch_id x w s.changes from place) space (batch_events w s.changes from place) (Some (token_of place)) =
            ap (λ (a : Asked). told a reply) (asked_is command (more x space size) reads)
            ∙ told_reads (asks_more x space) reply a.reply (read ∙ ap (λ (o : Answer). o.reply) (by ∙ good))
            ∙ gave_tells x space (batch_id x w s.changes from place) space (batch_events w s.changes from place) place (request_reads (fields command) (more x space size) reads).named.0 in
            let both : refuses code labels ≡ gave (batch_id x w s.changes from place) space (batch_events w s.changes from place) (Some (token_of place)) = sym says ∙ tells in
            absurd cc
      ]

-- ---- a step

token_there : (s : State) (w : Watch) (token : Option Tree) (upto : ℕ) → IsNamed s token upto → watching_at s w token ≡ watching w upto
token_there s w (Some t) upto named = ap (λ (o : Option ℕ). watching w (unwrap_or o 0)) named
token_there s w None upto named = absurd named

module _ (s : State) (step : Step) (x : ℤ) (w : Watch) (may : May s (asked step.command) (told_at step) step.made) (given : s.given x ≡ true) (held : x ≢ pos 0) (stands : StandsFor s x w) where
  abbrev now : State
  now = grown s step.made

  abbrev after : State
  after = step_after s step

  reaches : (upto : ℕ) → upto ≤ length s.changes → upto ≤ length after.changes
  reaches upto few = let long = length-append s.changes step.made.entries in let is = ap length (step_after-changes s step) in omega (arith, few, long, is)

  untouched : after.cursors x ≡ s.cursors x → StandsFor after x w
  untouched same = record { from = stands.from; stood = same ∙ stands.stood; within = reaches stands.from stands.within }

  unnamed : (Names (asked step.command) x → ⊥) → StandsFor after x w
  unnamed none = untouched (leaves_step s step x may given none)

  still : now.cursors x ≡ Some (watching w stands.from)
  still = ap (λ (f : ℤ → Option Cursor). f x) (grown-cursors s step.made) ∙ stands.stood

  refused_stays : (code : ℤ) (labels : List (List ℕ)) → told_at step ≡ refuses code labels → ends_cursor code ≡ false → StandsFor after x w
  refused_stays code labels says none =
      untouched (ap (λ (t : Told). (effect now (asked step.command) t).cursors x) says ∙ ap (λ (f : ℤ → Option Cursor). f x) (refused_leaves now (asked step.command) code labels none ∙ grown-cursors s step.made))

  -- ---- a batch of it

  put_here : (o : Option Cursor) (cursors : ℤ → Option Cursor) → put_cursor x o cursors x ≡ o
  put_here o cursors = ap (λ (b : Bool). if b then o else cursors x) ((Decides-int_eq x x).1 refl)

  moves : (left : ℤ) (events : List Fields) (token : Option Tree) (upto : ℕ) → left ≢ pos 0 → IsNamed now token upto → (if int_eq left (pos 0) then None else moved now events token (now.cursors x)) ≡ Some (watching w upto)
  moves left events token upto lives named =
      ap (λ (b : Bool). if b then None else moved now events token (now.cursors x)) (other_int left (pos 0) lives) ∙ ap (moved now events token) still ∙ ap Some (token_there now w token upto named)

  gave_stays : (space at : Space) (left : ℤ) (events : List Fields) (token : Option Tree) (upto : ℕ) → asked step.command ≡ asks_more x space → told_at step ≡ gave left at events token → left ≢ pos 0 → IsNamed now token upto → upto ≤ length now.changes → StandsFor after x w
  unfolding effect
  gave_stays space at left events token upto asks says lives named within = record {
    from = upto;
    stood = ap₂ (λ (a : Asked) (t : Told). (effect now a t).cursors x) asks says ∙ put_here (if int_eq left (pos 0) then None else moved now events token (now.cursors x)) now.cursors ∙ moves left events token upto lives named;
    within = subst (λ (es : List Entry). upto ≤ length es) (sym (effect-changes now (asked step.command) (told_at step))) within;
  }

  module _ (none : AreModestEntries after.changes) (at_once : (IsRefused (told_at step) → ⊥) → AnswersAtOnce s after (asked step.command) (told_at step)) where
    never_ends : (from : ℕ) (left : ℤ) (token : Option Tree) → EndsByInvalidate after w from left token → left ≢ pos 0
    never_ends from left token ends over = let e = ends over in none_at (seen_between w after.changes from e.0) e.2 e.3.0 (between_end_none w after.changes from e.0 (modest_end_none after.changes none)) e.3.1 e.3.2 e.4

    goes_on : (space at : Space) (left : ℤ) (events : List Fields) (token : Option Tree) → asked step.command ≡ asks_more x space → told_at step ≡ gave left at events token → MayTell s now (asks_more x space) (gave left at events token) step.made → StandsFor after x w
    goes_on space at left events token asks says (inl goes) =
        let same : watching goes.watch goes.at ≡ watching w stands.from = same_some (watching goes.watch goes.at) (watching w stands.from) (sym goes.stood ∙ stands.stood) in
        let prompt = subst (λ (a : Asked). AnswersAtOnce s after a (gave left at events token)) asks (subst (λ (t : Told). AnswersAtOnce s after (asked step.command) t) says (at_once (λ refused. subst IsRefused says refused))) in
        let lives = never_ends stands.from left token (prompt.0 w stands.from stands.stood).1 in
        gave_stays space at left events token goes.batch.upto asks says lives goes.batch.named goes.batch.within
    goes_on space at left events token asks says (inr goes) = let bad : Some (watching w stands.from) ≡ Some (query goes.space (events ++ goes.left)) = sym stands.stood ∙ goes.stood in absurd cc

    more_by : (id : ℤ) (space : Space) (size : Option ℕ) → request_of (fields step.command) ≡ Ok (more x space size) → fields step.reply ≡ (answer_of s id (fields step.command)).reply → (t : Told) → told_at step ≡ t → MayTell s now (asks_more x space) t step.made → StandsFor after x w
    more_by id space size reads read (refuses code labels) says tells = refused_stays code labels says (more_refused s x w stands.from stands.stood id step.command step.reply space size code labels reads read says)
    more_by id space size reads read (gave left at events token) says tells = goes_on space at left events token (asked_is step.command (more x space size) reads) says tells
    more_by id space size reads read (opened left at events token time) says tells = absurd tells
    more_by id space size reads read (inserted n failures) says tells = absurd tells
    more_by id space size reads read (updated n changed failures) says tells = absurd tells
    more_by id space size reads read (deleted n failures) says tells = absurd tells
    more_by id space size reads read done says tells = absurd tells
    more_by id space size reads read killed says tells = absurd tells
    more_by id space size reads read garbled says tells = absurd tells

    -- ---- any command

    abbrev Reads : Result Request ℤ → Type 0
    Reads r = request_of (fields step.command) ≡ r

    not_named : (r : Request) → Reads (Ok r) → (Names (asks_of r) x → ⊥) → StandsFor after x w
    not_named r reads none' = unnamed (λ names. none' (subst (λ (a : Asked). Names a x) (asked_is step.command r reads) names))

    more_or : (id : ℤ) (cursor : ℤ) (space : Space) (size : Option ℕ) → Reads (Ok (more cursor space size)) → fields step.reply ≡ (answer_of s id (fields step.command)).reply → StandsFor after x w
    more_or id cursor space size reads read =
        elim (cases_Bool (int_eq cursor x)) [
          | inl same ↦
              let is : cursor ≡ x = same_int cursor x same in
              let reads' : Reads (Ok (more x space size)) = subst (λ (c : ℤ). Reads (Ok (more c space size))) is reads in
              more_by id space size reads' read (told_at step) refl (subst (λ (a : Asked). MayTell s now a (told_at step) step.made) (asked_is step.command (more x space size) reads') may.tells)
          | inr other ↦ not_named (more cursor space size) reads (λ names. let bad : true ≡ false = sym ((Decides-int_eq cursor x).1 names) ∙ other in cc)
        ]

    read_stays : (id : ℤ) (r : Result Request ℤ) → Reads r → fields step.reply ≡ (answer_of s id (fields step.command)).reply → (KillsIt (fields step.command) x → ⊥) → StandsFor after x w
    unfolding answer_of
    read_stays id (Err code) reads read spared =
        refused_stays code []
        (told_reads (asked step.command) step.reply (refusal code []) (read ∙ ap (λ (r : Result Request ℤ). (fitting (where_ok (answer s id) r)).reply) reads) ∙ refusal_tells (asked step.command) code [])
        (subst EndsNone reads (read_ends_none (fields step.command)))
    read_stays id (Ok (insert space ds ordered)) reads read spared = not_named (insert space ds ordered) reads (λ names. names)
    read_stays id (Ok (find q)) reads read spared = not_named (find q) reads (λ names. names)
    read_stays id (Ok (watch v start resumes size)) reads read spared = not_named (watch v start resumes size) reads (λ names. names)
    read_stays id (Ok (more cursor space size)) reads read spared = more_or id cursor space size reads read
    read_stays id (Ok (kill ids)) reads read spared = not_named (kill ids) reads (λ names. spared (record { ids = ids; reads = reads; has = names }))
    read_stays id (Ok (create_collection space)) reads read spared = not_named (create_collection space) reads (λ names. names)
    read_stays id (Ok (create_indexes space indexes)) reads read spared = not_named (create_indexes space indexes) reads (λ names. names)
    read_stays id (Ok (update space conditions m many)) reads read spared = not_named (update space conditions m many) reads (λ names. names)
    read_stays id (Ok (delete space conditions many)) reads read spared = not_named (delete space conditions many) reads (λ names. names)
    read_stays id (Ok (drop_collection space)) reads read spared = not_named (drop_collection space) reads (λ names. names)

    -- It stands behind a step by the rules that does not kill it.
    pub stays_step : (id : ℤ) → fields step.reply ≡ (answer_of s id (fields step.command)).reply → (KillsIt (fields step.command) x → ⊥) → StandsFor after x w
    stays_step id read spared = read_stays id (request_of (fields step.command)) refl read spared

-- ---- the step that opens it

-- a cursor that is opened has an id
pub opens_some : (t : Told) (x : ℤ) → OpensId t x → x ≢ pos 0
opens_some (opened id space events token time) x is = is.1
opens_some (refuses code labels) x is = absurd is
opens_some (inserted n failures) x is = absurd is
opens_some (updated n changed failures) x is = absurd is
opens_some (deleted n failures) x is = absurd is
opens_some done x is = absurd is
opens_some (gave id space events token) x is = absurd is
opens_some killed x is = absurd is
opens_some garbled x is = absurd is

put_self : (x : ℤ) (o : Option Cursor) (cursors : ℤ → Option Cursor) → put_cursor x o cursors x ≡ o
put_self x o cursors = ap (λ (b : Bool). if b then o else cursors x) ((Decides-int_eq x x).1 refl)

-- It stands behind the step that opened it.
pub opened_stands : (s : State) (step : Step) (x : ℤ) (w : Watch) (start : Start) → May s (asked step.command) (told_at step) step.made → asked step.command ≡ asks_watch w start → OpensId (told_at step) x → StandsFor (step_after s step) x w
unfolding effect
opened_stands s step x w start may asks opens = by_told (told_at step) refl opens (subst (λ (a : Asked). MayTell s (grown s step.made) a (told_at step) step.made) asks may.tells)
  where
    by_told : (t : Told) → told_at step ≡ t → OpensId t x → MayTell s (grown s step.made) (asks_watch w start) t step.made → StandsFor (step_after s step) x w
    by_told (opened id at events token time) says is tells =
        let g = grown s step.made in
        let zero : int_eq id (pos 0) ≡ false = other_int id (pos 0) (λ z. is.1 (sym is.0 ∙ z)) in
        record {
          from = tells.batch.upto;
          stood = ap₂ (λ (a : Asked) (t : Told). (effect g a t).cursors x) asks says
              ∙ ap (λ (b : Bool). (if b then g else record g { cursors = put_cursor id (Some (watching_at g w token)) g.cursors; given = give id g.given }).cursors x) zero
              ∙ ap (λ (n : ℤ). put_cursor n (Some (watching_at g w token)) g.cursors x) is.0 ∙ put_self x (Some (watching_at g w token)) g.cursors ∙ ap Some (token_there g w token tells.batch.upto tells.batch.named);
          within = subst (λ (es : List Entry). tells.batch.upto ≤ length es) (sym (effect-changes g (asked step.command) (told_at step))) tells.batch.within;
        }
    by_told (refuses code labels) says is tells = absurd is
    by_told (inserted n failures) says is tells = absurd is
    by_told (updated n changed failures) says is tells = absurd is
    by_told (deleted n failures) says is tells = absurd is
    by_told done says is tells = absurd is
    by_told (gave id at events token) says is tells = absurd is
    by_told killed says is tells = absurd is
    by_told garbled says is tells = absurd is
