-- What an index check is caused by, step by step, and one that is given up.
use Rattle.std.proofs.Common.{◌≡◌, ◌≢◌, ◌⊎◌, ◌≤◌, ℕ, zero, suc, ℤ, Bool, true, false, List, [], length, Option, Some, None, refl, sym, ap, ◌∙◌, subst, inl, inr}
use Rattle.mg_bson.specs.Raw.{fields}
use Rattle.mg_server.specs.Calls.{Came, Flies, Grows, Past, RequestFails, past_of, was_broken}
use Rattle.mg_link.specs.Errors.{command_code}
use Rattle.mg_link.specs.Exec.{Runs, Sending, Stage, unsent}
use Rattle.mg_link.specs.Link.{Awaited, SendsNothing, LogTold}
use Rattle.mg_link.specs.Log.{Call}
use Rattle.mg_link.specs.Moment.{Ending, pending, finished, failed}
use Rattle.mg_link.specs.declared.action.Step.{Step}
use Rattle.mg_link.specs.declared.action.Step.TheVariants as came
use Rattle.mg_link.specs.declared.error.Error.{Error}
use Rattle.mg_server.proofs.Calls.{RequestRan, log_grows, request_ran, same_keeps, success_ran}
use Rattle.mg_server.proofs.Filed.{Grew}
use Rattle.mg_server.proofs.Pasts.{fails_anyhow, flies_grows}
use Rattle.mg_server.proofs.Spread.{places_to, spread_back, spread_to}
use Rattle.mg_options.specs.Fields.{Line, fields_in}
use Rattle.mg_ops.specs.Failing.{FailsBy}
use Rattle.mg_ops.specs.Writes.{WriteFails}
use Rattle.mg_cursor.specs.Causes.{IsUnderway, TellsNoCursor, UnderwayBy}
use Rattle.mg_cursor.specs.Client as client
use Rattle.mg_cursor.specs.Client.{ClientCursor}
use Rattle.mg_cursor.specs.Documents.{AdvancesOnce, DocumentCursor, TakesNext, gives, polls, try_ending}
use Rattle.mg_cursor.specs.Seeking.{EndsSeeking, SeekCame, SeeksDocument, advance_ending, session_after}
use Rattle.mg_cursor.specs.declared.polls.AdvancePoll.{AdvancePoll}
use Rattle.mg_cursor.specs.declared.polls.AdvancePoll.TheVariants as advance
use Rattle.mg_cursor.specs.declared.polls.NextPoll.{NextPoll}
use Rattle.mg_cursor.specs.declared.polls.NextPoll.TheVariants as next
use Rattle.mg_cursor.specs.declared.polls.TryPoll.{TryPoll}
use Rattle.mg_cursor.specs.declared.polls.TryPoll.TheVariants as try
use Rattle.mg_cursor.specs.declared.results.AdvanceResult.TheVariants as result
use Rattle.mg_cursor.proofs.Advancing.{takes_cursor}
use Rattle.mg_cursor.proofs.Keeping.{sound_in_any}
use Rattle.mg_cursor.proofs.SeekCaused.{seek_fails_grow, seeks_caused, tries_caused, underway_grow}
use Rattle.mg_gridfs.specs.Buckets.{ClientBucket}
use Rattle.mg_gridfs.specs.Causes as causes
use Rattle.mg_gridfs.specs.Causes.{CheckFails, CheckUnderway, IsOfCheck, ListsFailure}
use Rattle.mg_gridfs.specs.Checks as check
use Rattle.mg_gridfs.specs.Checks.{Builds, CheckTurned, ChecksOn, ClientCheck, Creates, EndsList, GoesBehind, HearsAdvance, HearsCreation, HearsFind, HearsIndex, HearsListing, IsSoundCheck, LandsCheck, LandsRequest, Looks, creates, finds, indexes, lists, namespace_exists, reads}
use Rattle.mg_gridfs.specs.Commands.{CannotSend, IsRequest, any_lines, creation_lines, index_lines, listing_lines}
use Rattle.mg_gridfs.specs.Uploads.{Aim}
use Rattle.mg_gridfs.specs.declared.indexes.Place.{Place}
use Rattle.mg_gridfs.specs.declared.indexes.Place.TheVariants as place
use Rattle.mg_gridfs.proofs.Caused.{CheckTold, ChecksCaused, LandingsCaused, LeftUnderway}
use Rattle.mg_gridfs.proofs.Downloading.{IsAnswer, next_rests}

-- ---- errors

-- want of memory, or a cause
check_kind : (past : Past) (b : ClientBucket) (Cause : Error → Type 0) (e : Error) → ((x : Error) → Cause x → CheckFails past b x) → FailsBy Cause e → CheckFails past b e
check_kind past b Cause e leads (inl memory) = causes.out_of_memory (ap (λ (x : Error). x.kind) memory)
check_kind past b Cause e leads (inr cause) = leads e cause

-- a success that lists failures is no refusal
no_code : (bytes : List ℕ) (e : Error) → WriteFails (fields bytes) e → command_code e.kind ≢ Some namespace_exists
no_code bytes e (inl breaks) is = let none : None ≡ Some namespace_exists = sym (ap (λ (x : Error). command_code x.kind) breaks.error) ∙ is in cc
no_code bytes e (inr first) is = let none : None ≡ Some namespace_exists = sym (ap (λ (x : Error). command_code x.kind) first.error) ∙ is in cc

-- what came, where it came
abbrev bytes_in : Step Sending (List ℕ) → List ℕ
bytes_in (came.Pending s) = []
bytes_in (came.Done bytes) = bytes
bytes_in (came.Failed e) = []

abbrev error_in : Error → Step Sending (List ℕ) → Error
error_in d (came.Pending s) = d
error_in d (came.Done bytes) = d
error_in d (came.Failed e) = e

module _ (new : Awaited) (past : Past) (aim : Aim) where
  abbrev IsTold : CheckTurned → Type 0
  IsTold t = CheckTold t new past aim

  as_turned : (t u : CheckTurned) → t ≡ u → IsTold u → IsTold t
  as_turned t u is h = subst IsTold (sym is) h

  -- what is built flies nowhere yet
  flies_new : (lines : List Line) (s : Sending) → s.stage ≡ unsent → Flies new past (fields_in lines) s.stage
  flies_new lines s is = subst (λ (stage : Stage). Flies new past (fields_in lines) stage) (sym is) tt

  builds_told : (again : Bool) (lines : List Line) (next_one : Sending → ClientCheck) (t : CheckTurned) → IsOfCheck aim.bucket lines → ((s : Sending) → Flies new past (fields_in lines) s.stage → CheckUnderway new past aim.bucket (next_one s)) → Builds again lines next_one t → IsTold t
  builds_told again lines next_one t own under (check.built s request is) = as_turned t (check.goes (next_one s)) is (under s (flies_new lines s request.new))
  builds_told again lines next_one t own under (check.not_built e fails is) = as_turned t (check.fails e) is (check_kind past aim.bucket (CannotSend lines) e (λ x cannot. causes.not_built lines own cannot) fails)

  creation_told : (at : Place) (t : CheckTurned) → Builds false (creation_lines aim.bucket at) (creates at) t → IsTold t
  creation_told at t b = builds_told false (creation_lines aim.bucket at) (creates at) t (causes.a_creation at refl) (λ s flies. flies) b

  listing_told : (at : Place) (t : CheckTurned) → Builds true (listing_lines aim.bucket at) (lists at) t → IsTold t
  listing_told at t b = builds_told true (listing_lines aim.bucket at) (lists at) t (causes.a_listing at refl) (λ s flies. flies) b

  indexing_told : (at : Place) (t : CheckTurned) → Builds false (index_lines aim.bucket at) (indexes at) t → IsTold t
  indexing_told at t b = builds_told false (index_lines aim.bucket at) (indexes at) t (causes.an_index at refl) (λ s flies. flies) b

  behind_told : (at : Place) (t : CheckTurned) → GoesBehind aim.bucket at t → IsTold t
  behind_told place.Files t h = creation_told place.Chunks t h
  behind_told place.Chunks t h = as_turned t check.passes h tt

  -- ---- requests

  module _ (old : Awaited) (log log' : LogTold) (wire : ℤ) (s : Sending) where
    find_told : (c : Step Sending (List ℕ)) (t : CheckTurned) → Runs old new log log' wire s c → HearsFind aim.bucket c t → Came new past (fields_in (any_lines aim.bucket)) true c → IsTold t
    find_told (came.Pending s') t runs h flies = as_turned t (check.pends (finds s')) h flies
    find_told (came.Done bytes) t runs (check.some said says more is) heard = as_turned t check.passes is tt
    find_told (came.Done bytes) t runs (check.none said says nothing builds) heard = creation_told place.Files t builds
    find_told (came.Done bytes) t runs (check.broke e fails is) heard =
        as_turned t (check.fails e) is (check_kind past aim.bucket _ e (λ x breaks. causes.by_find (was_broken bytes heard (success_ran old new log log' wire s bytes runs) breaks)) fails)
    find_told (came.Failed e) t runs h fails = as_turned t (check.fails e) h (causes.by_find (fails_anyhow past (fields_in (any_lines aim.bucket)) true TellsNoCursor e fails))

    created_told : (at : Place) (bytes : List ℕ) (t : CheckTurned) → Runs old new log log' wire s (came.Done bytes) → Creates aim.bucket at (came.Done bytes) t → Came new past (fields_in (creation_lines aim.bucket at)) false (came.Done bytes) → IsTold t
    created_told at bytes t runs (check.created reply is none builds) heard = listing_told at t builds
    created_told at bytes t runs (check.there e is code builds) heard = listing_told at t builds
    created_told at bytes t runs (check.unread reply e is fails answer) heard =
        as_turned t (check.fails e) answer (check_kind past aim.bucket _ e
        (λ x cause. let here = subst (λ (b : List ℕ). WriteFails (fields b) x) (sym (ap bytes_in is)) cause in
        causes.by_creation at (was_broken bytes heard (success_ran old new log log' wire s bytes runs) here) (no_code bytes x here)) fails)
    created_told at bytes t runs (check.other e is ne answer) heard = absurd cc

    not_created_told : (at : Place) (f : Error) (t : CheckTurned) → Creates aim.bucket at (came.Failed f) t → Came new past (fields_in (creation_lines aim.bucket at)) false (came.Failed f) → IsTold t
    not_created_told at f t (check.created reply is none builds) fails = listing_told at t builds
    not_created_told at f t (check.there e is code builds) fails = listing_told at t builds
    not_created_told at f t (check.unread reply e is unread answer) fails = absurd cc
    not_created_told at f t (check.other e is ne answer) fails =
        let same : f ≡ e = ap (error_in f) is in
        as_turned t (check.fails e) answer (causes.by_creation at (subst (λ (x : Error). RequestFails past (fields_in (creation_lines aim.bucket at)) false ListsFailure x) same (fails_anyhow past (fields_in (creation_lines aim.bucket at)) false ListsFailure f fails)) ne)

    creates_told : (at : Place) (c : Step Sending (List ℕ)) (t : CheckTurned) → Runs old new log log' wire s c → HearsCreation aim.bucket at c t → Came new past (fields_in (creation_lines aim.bucket at)) false c → IsTold t
    creates_told at (came.Pending s') t runs h flies = as_turned t (check.pends (creates at s')) h flies
    creates_told at (came.Done bytes) t runs h heard = created_told at bytes t runs h heard
    creates_told at (came.Failed e) t runs h fails = not_created_told at e t h fails

    lists_told : (at : Place) (c : Step Sending (List ℕ)) (t : CheckTurned) → Runs old new log log' wire s c → HearsListing at c t → Came new past (fields_in (listing_lines aim.bucket at)) true c → IsTold t
    lists_told at (came.Pending s') t runs h flies = as_turned t (check.pends (lists at s')) h flies
    lists_told at (came.Done bytes) t runs (check.opened out opens is) heard = as_turned t (check.goes _) is tt
    lists_told at (came.Done bytes) t runs (check.broke e fails is) heard =
        as_turned t (check.fails e) is (check_kind past aim.bucket _ e (λ x breaks. causes.by_listing at (was_broken bytes heard (success_ran old new log log' wire s bytes runs) breaks)) fails)
    lists_told at (came.Failed e) t runs h fails = as_turned t (check.fails e) h (causes.by_listing at (fails_anyhow past (fields_in (listing_lines aim.bucket at)) true TellsNoCursor e fails))

    indexes_told : (at : Place) (c : Step Sending (List ℕ)) (t : CheckTurned) → Runs old new log log' wire s c → HearsIndex aim.bucket at c t → Came new past (fields_in (index_lines aim.bucket at)) false c → IsTold t
    indexes_told at (came.Pending s') t runs h flies = as_turned t (check.pends (indexes at s')) h flies
    indexes_told at (came.Done bytes) t runs (check.done none goes) heard = behind_told at t goes
    indexes_told at (came.Done bytes) t runs (check.unread e fails is) heard =
        as_turned t (check.fails e) is (check_kind past aim.bucket _ e (λ x cause. causes.by_index at (was_broken bytes heard (success_ran old new log log' wire s bytes runs) cause)) fails)
    indexes_told at (came.Failed e) t runs h fails = as_turned t (check.fails e) h (causes.by_index at (fails_anyhow past (fields_in (index_lines aim.bucket at)) false ListsFailure e fails))

  -- ---- the list

  looks_told : (at : Place) (d : DocumentCursor) (document : List ℕ) (found : Bool) (count : ℕ) (t : CheckTurned) → IsUnderway new past d.cursor → Looks at d document found count t → IsTold t
  looks_told at d document found count t under (check.looked i few is answer) = as_turned t (check.goes _) answer under
  looks_told at d document found count t under (check.too_many many answer) = as_turned t (check.fails _) answer (causes.too_many refl)
  looks_told at d document found count t under (check.broke e fails answer) = as_turned t (check.fails e) answer (causes.no_index document fails)

  ends_told : (at : Place) (found : Bool) (t : CheckTurned) → EndsList aim.bucket at found t → IsTold t
  ends_told at true t h = behind_told at t h
  ends_told at false t h = indexing_told at t h

  advance_told : (at : Place) (d left : DocumentCursor) (found : Bool) (count : ℕ) (poll : AdvancePoll) (t : CheckTurned) → SeekCame new past None d left (advance_ending poll) → (advance_ending poll ≡ finished → IsUnderway new past left.cursor) → HearsAdvance aim.bucket at left found count poll t → IsTold t
  advance_told at d left found count advance.Pending t came_so under h = as_turned t (check.pends (reads at left found count)) h came_so
  advance_told at d left found count (advance.Ready true) t came_so under h = looks_told at left h.0 found count t (under refl) h.2
  advance_told at d left found count (advance.Ready false) t came_so under h = ends_told at found t h
  advance_told at d left found count (advance.Failed e) t came_so under h = as_turned t (check.fails e) h (causes.by_advance d came_so)

-- ---- where the list stands behind an advance

-- nothing was sent and the cursor is as it was, or nothing is on its way
abbrev StandsBy : Awaited → Awaited → LogTold → LogTold → ClientCursor → ClientCursor → Type 0
StandsBy old new log log' c c' = (SendsNothing old new log log' × (c' ≡ c)) ⊎ (c'.doing ≡ client.rests)

abbrev IsReady : TryPoll → Type 0
IsReady try.Pending = ⊥
IsReady (try.Ready a) = Unit {0}
IsReady (try.Failed e) = Unit {0}

answered : (d : DocumentCursor) (c : ClientCursor) (p : NextPoll) (d' : DocumentCursor) (r : TryPoll) → IsReady r → TakesNext d c p d' r → IsAnswer p
answered d c next.Pending d' r ready h = absurd (subst IsReady h.1 ready)
answered d c (next.Batch bytes) d' r ready h = tt
answered d c next.End d' r ready h = tt
answered d c (next.Failed e) d' r ready h = tt

advance_stands : (old new : Awaited) (log log' : LogTold) (wire : ℤ) (started : Bool) (d d' : DocumentCursor) (r : TryPoll) → IsReady r → AdvancesOnce old new log log' wire None started d d' r → StandsBy old new log log' d.cursor d'.cursor
advance_stands old new log log' wire started d d' r ready (gives x xs these quiet same is answer) = inl (quiet, ap (λ (e : DocumentCursor). e.cursor) is)
advance_stands old new log log' wire started d d' r ready (polls none_left c p asked takes) =
    inr (ap (λ (x : ClientCursor). x.doing) (takes_cursor d c p d' r takes) ∙ next_rests old new log log' wire started d.cursor c p (answered d c p d' r ready takes) asked)

ready_of : (p : TryPoll) (d d' : DocumentCursor) (r : AdvancePoll) → advance_ending r ≡ finished → EndsSeeking p d d' r → IsReady p × (d'.cursor ≡ d.cursor)
ready_of try.Pending d d' r over h = let e : pending ≡ finished = sym (ap advance_ending h.1) ∙ over in absurd cc
ready_of (try.Ready a) d d' r over h = (tt, ap (λ (x : DocumentCursor). x.cursor) h.1)
ready_of (try.Failed e) d d' r over h = (tt, ap (λ (x : DocumentCursor). x.cursor) h.0)

none_session : (started : Bool) → session_after started None ≡ None
none_session true = refl
none_session false = refl

seek_stands : (n : ℕ) (old new : Awaited) (log log' : LogTold) (wire : ℤ) (starts : ℕ) (d d' : DocumentCursor) (r : AdvancePoll) → advance_ending r ≡ finished → SeeksDocument n old new log log' wire None starts d d' r → StandsBy old new log log' d.cursor d'.cursor
unfolding SeeksDocument
seek_stands zero old new log log' wire starts d d' r over s =
    let ready = ready_of s.poll s.advanced d' r over s.ends in
    subst (λ (c : ClientCursor). StandsBy old new log log' d.cursor c) (sym ready.1) (advance_stands old new log log' wire s.started d s.advanced s.poll ready.0 s.tries)
seek_stands (suc n) old new log log' wire starts d d' r over s =
    let rest = seek_stands n s.0 new s.1 log' wire s.3 s.4 d' r over (subst (λ session. SeeksDocument n s.0 new s.1 log' wire session s.3 s.4 d' r) (none_session s.2) s.7) in
    let first = advance_stands old s.0 log s.1 wire s.2 d s.5.advanced (try.Ready result.Waiting) tt s.5.tries in
    let counted : s.4.cursor ≡ s.5.advanced.cursor = ap (λ (x : DocumentCursor). x.cursor) s.5.counts in
    elim rest [
      | inl quiet ↦ elim first [
        | inl before ↦ inl (record { rest = λ m. quiet.0.rest m ∙ before.0.rest m; log_same = quiet.0.log_same ∙ before.0.log_same }, quiet.1 ∙ counted ∙ before.1)
        | inr rested ↦ inr (ap (λ (x : ClientCursor). x.doing) (quiet.1 ∙ counted) ∙ rested)
      ]
      | inr rested ↦ inr rested
    ]

-- what is known of a cursor that is as it was, or at rest
stands_under : (old new : Awaited) (log log' : LogTold) (past past' : Past) (c c' : ClientCursor) → Grows past past' → IsUnderway old past c → StandsBy old new log log' c c' → IsUnderway new past' c'
stands_under old new log log' past past' c c' grows under (inr rested) = subst (UnderwayBy new past' c') (sym rested) tt
stands_under old new log log' past past' c c' grows under (inl quiet) = subst (IsUnderway new past') (sym quiet.1) (same c.doing (underway_grow past past' grows old c c.doing under))
  where
    same : (doing : client.Doing) → UnderwayBy old past' c doing → UnderwayBy new past' c doing
    same client.rests h = tt
    same (client.holds bytes) h = tt
    same (client.asks sending) h = record { session = h.session; command_is = h.command_is; flies = flies_grows past' past' (log_grows past'.places past'.since past'.calls past'.calls past'.wire (same_keeps past'.calls)) old new _ sending.stage (λ m held. quiet.0.rest m) h.flies }

-- ---- a step, and one that is given up

module _ (old new : Awaited) (log log' : LogTold) (wire : ℤ) (aim : Aim) (calls : List Call) (told : log ≡ Some calls) (places : List ℕ) (since : ℕ) (room : since ≤ length calls) where
  ran_by : (again : Bool) (lines : List Line) (s : Sending) (c : Step Sending (List ℕ)) → IsRequest again lines s → Runs old new log log' wire s c → Flies old (past_of places since calls wire) (fields_in lines) s.stage → RequestRan new places since calls log' wire (fields_in lines) again c
  ran_by again lines s c own runs flies = request_ran old new log log' wire s (fields_in lines) again c own.command_is own.retries_is runs calls told places since room flies

  under_at : (c d : ClientCheck) → c ≡ d → CheckUnderway old (past_of places since calls wire) aim.bucket c → CheckUnderway old (past_of places since calls wire) aim.bucket d
  under_at c d is h = subst (CheckUnderway old (past_of places since calls wire) aim.bucket) is h

  own_at : (c d : ClientCheck) → c ≡ d → IsSoundCheck aim.bucket c → IsSoundCheck aim.bucket d
  own_at c d is h = subst (IsSoundCheck aim.bucket) is h

  -- the cursor of a list, seen from the end of the log
  under_now : (c : ClientCursor) → IsUnderway old (past_of places since calls wire) c → IsUnderway old (past_of (places_to places since calls) (length calls) calls wire) c
  under_now c h = underway_grow (past_of places since calls wire) (past_of (places_to places since calls) (length calls) calls wire) (spread_to places since calls wire room) old c c.doing h

  came_back : (calls' : List Call) (d d' : DocumentCursor) (outcome : Ending) → SeekCame new (past_of (places_to places since calls) (length calls) calls' wire) None d d' outcome → SeekCame new (past_of places since calls' wire) None d d' outcome
  came_back calls' d d' pending h = underway_grow (past_of (places_to places since calls) (length calls) calls' wire) (past_of places since calls' wire) (spread_back places since calls calls' wire room) new d'.cursor d'.cursor.doing h
  came_back calls' d d' finished h = tt
  came_back calls' d d' (failed e) h = seek_fails_grow (past_of (places_to places since calls) (length calls) calls' wire) (past_of places since calls' wire) (spread_back places since calls calls' wire room) None d e h

  pub check_caused : (c : ClientCheck) (t : CheckTurned) → IsSoundCheck aim.bucket c → ChecksOn old new log log' wire aim.bucket c t → CheckUnderway old (past_of places since calls wire) aim.bucket c → Grew places since calls log' wire (λ past. CheckTold t new past aim)
  check_caused c t sound (check.by_find s is came_so runs hears) h =
      let ran = ran_by true (any_lines aim.bucket) s came_so (own_at c (finds s) is sound) runs (under_at c (finds s) is h) in
      (ran.calls', ran.told, ran.grows.keeps, find_told new (past_of places since ran.calls' wire) aim old log log' wire s came_so t runs hears ran.came)
  check_caused c t sound (check.by_creation at s is came_so runs hears) h =
      let ran = ran_by false (creation_lines aim.bucket at) s came_so (own_at c (creates at s) is sound) runs (under_at c (creates at s) is h) in
      (ran.calls', ran.told, ran.grows.keeps, creates_told new (past_of places since ran.calls' wire) aim old log log' wire s at came_so t runs hears ran.came)
  check_caused c t sound (check.by_listing at s is came_so runs hears) h =
      let ran = ran_by true (listing_lines aim.bucket at) s came_so (own_at c (lists at s) is sound) runs (under_at c (lists at s) is h) in
      (ran.calls', ran.told, ran.grows.keeps, lists_told new (past_of places since ran.calls' wire) aim old log log' wire s at came_so t runs hears ran.came)
  check_caused c t sound (check.by_advance at d found count is empties starts left poll seeks hears) h =
      let own = own_at c (reads at d found count) is sound in
      let under = under_at c (reads at d found count) is h in
      let x = seeks_caused empties old new log log' wire None starts d left poll (sound_in_any true d.cursor own.0) seeks calls told (places_to places since calls) (under_now d.cursor under) in
      let past = past_of places since x.0 wire in
      let grows = log_grows places since calls x.0 wire x.2 in (
        x.0,
        x.1,
        x.2,
        advance_told new past aim at d left found count poll t (came_back x.0 d left (advance_ending poll) x.3)
            (λ over. stands_under old new log log' (past_of places since calls wire) past d.cursor left.cursor grows under (seek_stands empties old new log log' wire starts d left poll over seeks)) hears,
      )
  check_caused c t sound (check.by_index at s is came_so runs hears) h =
      let ran = ran_by false (index_lines aim.bucket at) s came_so (own_at c (indexes at s) is sound) runs (under_at c (indexes at s) is h) in
      (ran.calls', ran.told, ran.grows.keeps, indexes_told new (past_of places since ran.calls' wire) aim old log log' wire s at came_so t runs hears ran.came)

  -- a request that waits still flies still
  still_flies : (again : Bool) (lines : List Line) (next_one : Sending → ClientCheck) (past : Past) (c : Step Sending (List ℕ)) (t : Option ClientCheck) → ((s : Sending) → Flies new past (fields_in lines) s.stage → CheckUnderway new past aim.bucket (next_one s)) → LandsRequest next_one c t → Came new past (fields_in lines) again c → LeftUnderway t new past aim
  still_flies again lines next_one past (came.Pending s) t under is flies = subst (λ (x : Option ClientCheck). LeftUnderway x new past aim) (sym is) (under s flies)
  still_flies again lines next_one past (came.Done bytes) t under is heard = subst (λ (x : Option ClientCheck). LeftUnderway x new past aim) (sym is) tt
  still_flies again lines next_one past (came.Failed e) t under is fails = subst (λ (x : Option ClientCheck). LeftUnderway x new past aim) (sym is) tt

  list_left : (at : Place) (d left : DocumentCursor) (found : Bool) (count : ℕ) (poll : TryPoll) (t : Option ClientCheck) (past : Past) → SeekCame new past None d left (try_ending poll) → check.LandsAdvance at left found count poll t → LeftUnderway t new past aim
  list_left at d left found count try.Pending t past came_so is = subst (λ (x : Option ClientCheck). LeftUnderway x new past aim) (sym is) came_so
  list_left at d left found count (try.Ready a) t past came_so is = subst (λ (x : Option ClientCheck). LeftUnderway x new past aim) (sym is) tt
  list_left at d left found count (try.Failed e) t past came_so is = subst (λ (x : Option ClientCheck). LeftUnderway x new past aim) (sym is) tt

  pub landing_caused : (c : ClientCheck) (t : Option ClientCheck) → IsSoundCheck aim.bucket c → LandsCheck old new log log' wire c t → CheckUnderway old (past_of places since calls wire) aim.bucket c → Grew places since calls log' wire (λ past. LeftUnderway t new past aim)
  landing_caused c t sound (check.by_find s is came_so runs lands) h =
      let ran = ran_by true (any_lines aim.bucket) s came_so (own_at c (finds s) is sound) runs (under_at c (finds s) is h) in
      (ran.calls', ran.told, ran.grows.keeps, still_flies true (any_lines aim.bucket) finds (past_of places since ran.calls' wire) came_so t (λ x flies. flies) lands ran.came)
  landing_caused c t sound (check.by_creation at s is came_so runs lands) h =
      let ran = ran_by false (creation_lines aim.bucket at) s came_so (own_at c (creates at s) is sound) runs (under_at c (creates at s) is h) in
      (ran.calls', ran.told, ran.grows.keeps, still_flies false (creation_lines aim.bucket at) (creates at) (past_of places since ran.calls' wire) came_so t (λ x flies. flies) lands ran.came)
  landing_caused c t sound (check.by_listing at s is came_so runs lands) h =
      let ran = ran_by true (listing_lines aim.bucket at) s came_so (own_at c (lists at s) is sound) runs (under_at c (lists at s) is h) in
      (ran.calls', ran.told, ran.grows.keeps, still_flies true (listing_lines aim.bucket at) (lists at) (past_of places since ran.calls' wire) came_so t (λ x flies. flies) lands ran.came)
  landing_caused c t sound (check.by_advance at d found count is started left poll tries lands) h =
      let own = own_at c (reads at d found count) is sound in
      let under = under_at c (reads at d found count) is h in
      let x = tries_caused old new log log' wire None started d left poll (sound_in_any true d.cursor own.0) tries calls told (places_to places since calls) (under_now d.cursor under) in
      (x.0, x.1, x.2, list_left at d left found count poll t (past_of places since x.0 wire) (came_back x.0 d left (try_ending poll) x.3) lands)
  landing_caused c t sound (check.by_index at s is came_so runs lands) h =
      let ran = ran_by false (index_lines aim.bucket at) s came_so (own_at c (indexes at s) is sound) runs (under_at c (indexes at s) is h) in
      (ran.calls', ran.told, ran.grows.keeps, still_flies false (index_lines aim.bucket at) (indexes at) (past_of places since ran.calls' wire) came_so t (λ x flies. flies) lands ran.came)

pub checks_caused : ChecksCaused
checks_caused old new log log' wire aim c t sound on calls told places since room h = check_caused old new log log' wire aim calls told places since room c t sound on h

pub landings_caused : LandingsCaused
landings_caused old new log log' wire aim c t sound lands calls told places since room h = landing_caused old new log log' wire aim calls told places since room c t sound lands h
