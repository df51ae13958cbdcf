-- The steps of a call, one behind another, and how a call leaves its stream.
use Rattle.std.proofs.Common.{◌≡◌, ◌+◌, ◌++◌, ℕ, zero, suc, ℤ, pos, Bool, true, false, List, [], Option, Some, None, refl, sym, ap, ◌∙◌, subst, inl, inr, arith, option_map}
use Rattle.mg_bson.specs.Tree.{Fields}
use Rattle.mg_link.specs.Causes.{one_if}
use Rattle.mg_link.specs.Exec.{Sending}
use Rattle.mg_server.specs.Follow.{Moved}
use Rattle.mg_link.specs.Link.{Awaited, LogTold}
use Rattle.mg_link.specs.Moment.{Ending, failed, finished, pending}
use Rattle.mg_link.specs.Session.{Session, after_command}
use Rattle.mg_server.specs.State.{Start, Watch}
use Rattle.mg_link.specs.declared.action.Step.{Step}
use Rattle.mg_link.specs.declared.action.Step.TheVariants as step
use Rattle.mg_link.specs.declared.error.Error.{Error}
use Rattle.mg_link.specs.declared.pinned.PinnedConnection.TheVariants as connection
use Rattle.mg_link.specs.Pinned.{is_invalid}
use Rattle.mg_server.proofs.Moves.{moved}
use Rattle.mg_cursor.specs.Client.{ClientCursor, IsOver, PlainIf, at_rest, rests}
use Rattle.mg_cursor.specs.Client as cursors
use Rattle.mg_cursor.specs.Closing.{ClosingCursor, IsNotAsking}
use Rattle.mg_cursor.specs.Polling.{Hears}
use Rattle.mg_cursor.specs.Seeking.{session_after, times}
use Rattle.mg_cursor.specs.declared.polls.NextPoll.{NextPoll}
use Rattle.mg_cursor.specs.declared.polls.NextPoll.TheVariants as next
use Rattle.mg_cursor.specs.declared.polls.TryPoll.{TryPoll}
use Rattle.mg_cursor.specs.declared.polls.TryPoll.TheVariants as try
use Rattle.mg_cursor.specs.declared.results.AdvanceResult.{AdvanceResult}
use Rattle.mg_cursor.specs.declared.results.AdvanceResult.TheVariants as result
use Rattle.mg_change.specs.ClientStreams.{Asks, ClientStream, Doing, FollowsBy, IsBetween, IsExhausted, IsIdle, IsSound, IsSpent, SoundBy, behind_event, follows, is_renewed, kills, lends_nothing, owes, owing_with, passed_over, renewed, resumes, token_behind}
use Rattle.mg_change.specs.Following.{Turned, Turns, current_told, event_told, follow_of, try_told}
use Rattle.mg_change.specs.Steps.{AsksMore, DoesLast, DoesStep, DoesSteps, FailsMore, HearsClosing, HearsResumption, IsLast, LooksAt, ReadsResumption, TakesMore, asks_more, broke, broken, closes, ends, final, finds, gave, goes_on, looks, no_memory, none, not_asked, not_resumed, renews, replaced_by, resumes_now, some, waits_more, waits_resumption}
use Rattle.mg_change.specs.StreamCalls.{CallCopies, CallLends, CopiesBehind, CopiesEvent, EndsSeeking, AnswersEvent, GoesBehind, LacksToken, LeavesCall, LeavesSeek, LeavesTry, LendsBehind, SeeksEvent, SeeksLast, SeeksOn, closed, event_ending, fails, finds as seek_finds, kept_behind, over, pends, session_behind, too_often, try_ending, uncounted, without_event}
use Rattle.mg_change.specs.declared.event_poll.EventPoll.{EventPoll}
use Rattle.mg_change.specs.declared.event_poll.EventPoll.TheVariants as poll
use Rattle.mg_change.specs.declared.event_poll.Stepped.{Stepped}
use Rattle.mg_change.specs.declared.event_poll.Stepped.TheVariants as stepped
use Rattle.mg_change.proofs.Keeping.{FoundOne, found_stands, heard_left, plain_after, saved_event, sound_any, sound_as, step_sound}
use Rattle.mg_change.proofs.Turning.{gives_turns, lacks_turns, quietly, stays_turns, step_turns, told_of, turned_on}

-- ---- sessions that are told

behind_none : (session : Option Session) → session_behind 0 session ≡ session
behind_none None = refl
behind_none (Some s) = refl

behind_one : (n : ℕ) (session : Option Session) → session_behind n (option_map after_command session) ≡ session_behind (suc n) session
behind_one n None = refl
behind_one n (Some s) = refl

-- the session that is asked for, once it was told so often
asked_often : {H : Type 0} (asked : H → Option Session) (told : H → H) → ((h : H) → asked (told h) ≡ option_map after_command (asked h)) → (n : ℕ) (h : H) → asked (times n told h) ≡ session_behind n (asked h)
asked_often asked told moves zero h = sym (behind_none (asked h))
asked_often asked told moves (suc n) h = asked_often asked told moves n (told h) ∙ ap (session_behind n) (moves h) ∙ behind_one n (asked h)

pub plain_behind : (plain : Bool) (n : ℕ) (session : Option Session) → PlainIf plain session → PlainIf plain (session_behind n session)
plain_behind true n session h = ap (session_behind n) h
plain_behind false n session h = tt

-- a handle that was told so often asks for none where it did not before
pub plain_told_often : {H : Type 0} (asked : H → Option Session) (told : H → H) → ((h : H) → asked (told h) ≡ option_map after_command (asked h)) → (plain : Bool) (n : ℕ) (h h' : H) → h' ≡ times n told h → PlainIf plain (asked h) → PlainIf plain (asked h')
plain_told_often asked told moves plain n h h' is plainly = subst (PlainIf plain) (sym (ap asked is ∙ asked_often asked told moves n h)) (plain_behind plain n (asked h) plainly)

-- ---- steps so far

-- A call came from one link, session and stream to others by steps behind which it goes on, and started so many commands: it does the steps that it does from there.
pub record Went (old mid : Awaited) (log between : LogTold) (wire : ℤ) (session now : Option Session) (starts : ℕ) (s t : ClientStream) : Type 0 where
  pub goes : (new : Awaited) (log' : LogTold) (n later : ℕ) (again : Bool) (s' : ClientStream) (r : Stepped) → DoesSteps n mid new between log' wire now later again t s' r → (steps : ℕ) × DoesSteps steps old new log log' wire session (starts + later) again s s' r

pub went_none : (old : Awaited) (log : LogTold) (wire : ℤ) (session : Option Session) (s : ClientStream) → Went old old log log wire session session 0 s s
went_none old log wire session s = record {
  goes = λ new log' n later again s' r h. (n, subst (λ (k : ℕ). DoesSteps n old new log log' wire session k again s s' r) (let e : later ≡ 0 + later = omega arith in e) h);
}

one_more : (n : ℕ) (old between new : Awaited) (log log_between log' : LogTold) (wire : ℤ) (session : Option Session) (started : Bool) (later : ℕ) (again : Bool) (s t s' : ClientStream) (r : Stepped) → DoesStep old between log log_between wire session started s t stepped.Goes → DoesSteps n between new log_between log' wire (session_after started session) later again t s' r
    → DoesSteps (suc n) old new log log' wire session (one_if started + later) again s s' r
unfolding DoesSteps
one_more n old between new log log_between log' wire session started later again s t s' r does h = (between, log_between, started, later, t, does, refl, h)

only_one : (old new : Awaited) (log log' : LogTold) (wire : ℤ) (session : Option Session) (starts : ℕ) (again : Bool) (s s' : ClientStream) (r : Stepped) → DoesLast old new log log' wire session starts again s s' r → DoesSteps zero old new log log' wire session starts again s s' r
unfolding DoesSteps
only_one old new log log' wire session starts again s s' r h = h

pub went_on : (old mid between : Awaited) (log log_mid log_between : LogTold) (wire : ℤ) (session now now' : Option Session) (starts : ℕ) (started : Bool) (s t u : ClientStream) → now' ≡ session_after started now → Went old mid log log_mid wire session now starts s t → DoesStep mid between log_mid log_between wire now started t u stepped.Goes
    → Went old between log log_between wire session now' (starts + one_if started) s u
went_on old mid between log log_mid log_between wire session now now' starts started s t u told so does =
    subst (λ (x : Option Session). Went old between log log_between wire session x (starts + one_if started) s u) (sym told)
    (record {
      goes = λ new log' n later again s' r h.
          let x = so.goes new log' (suc n) (one_if started + later) again s' r (one_more n mid between new log_mid log_between log' wire now started later again t u s' r does h) in
          (x.0, subst (λ (k : ℕ). DoesSteps x.0 old new log log' wire session k again s s' r) (let e : starts + (one_if started + later) ≡ starts + one_if started + later = omega arith in e) x.1);
    })

-- the last one
pub went_last : (old mid new : Awaited) (log log_mid log' : LogTold) (wire : ℤ) (session now : Option Session) (starts : ℕ) (started : Bool) (s t s' : ClientStream) (r : Stepped) → Went old mid log log_mid wire session now starts s t → DoesStep mid new log_mid log' wire now started t s' r → IsLast r
    → (steps : ℕ) × DoesSteps steps old new log log' wire session (starts + one_if started) (is_renewed t.doing) s s' r
went_last old mid new log log_mid log' wire session now starts started s t s' r so does last =
    so.goes new log' zero (one_if started) (is_renewed t.doing) s' r
    (only_one mid new log_mid log' wire now (one_if started) (is_renewed t.doing) t s' r (record { started = started; starts_are = refl; does = does; again_is = refl; last = last }))

-- ---- parts of a call that seeks

-- The same of parts that got an empty reply.
pub record SoughtOn (old mid : Awaited) (log between : LogTold) (wire : ℤ) (session now : Option Session) (starts : ℕ) (s t : ClientStream) : Type 0 where
  pub goes : (new : Awaited) (log' : LogTold) (n later : ℕ) (s' : ClientStream) (r : EventPoll) → SeeksEvent n mid new between log' wire now later t s' r → (empties : ℕ) × SeeksEvent empties old new log log' wire session (starts + later) s s' r

sought_none : (old : Awaited) (log : LogTold) (wire : ℤ) (session : Option Session) (s : ClientStream) → SoughtOn old old log log wire session session 0 s s
sought_none old log wire session s = record {
  goes = λ new log' n later s' r h. (n, subst (λ (k : ℕ). SeeksEvent n old new log log' wire session k s s' r) (let e : later ≡ 0 + later = omega arith in e) h);
}

part_more : (n : ℕ) (old between new : Awaited) (log log_between log' : LogTold) (wire : ℤ) (session : Option Session) (now later : ℕ) (s t s' : ClientStream) (r : EventPoll) → SeeksOn old between log log_between wire session now s t → SeeksEvent n between new log_between log' wire (session_behind now session) later t s' r
    → SeeksEvent (suc n) old new log log' wire session (now + later) s s' r
unfolding SeeksEvent
part_more n old between new log log_between log' wire session now later s t s' r on h = (between, log_between, now, later, t, on, refl, h)

part_last : (old new : Awaited) (log log' : LogTold) (wire : ℤ) (session : Option Session) (starts : ℕ) (s s' : ClientStream) (r : EventPoll) → SeeksLast old new log log' wire session starts s s' r → SeeksEvent zero old new log log' wire session starts s s' r
unfolding SeeksEvent
part_last old new log log' wire session starts s s' r h = h

sought_on : (old mid between : Awaited) (log log_mid log_between : LogTold) (wire : ℤ) (session now now' : Option Session) (starts more : ℕ) (s t u : ClientStream) → now' ≡ session_behind more now → SoughtOn old mid log log_mid wire session now starts s t → SeeksOn mid between log_mid log_between wire now more t u
    → SoughtOn old between log log_between wire session now' (starts + more) s u
sought_on old mid between log log_mid log_between wire session now now' starts more s t u told so on =
    subst (λ (x : Option Session). SoughtOn old between log log_between wire session x (starts + more) s u) (sym told)
    (record {
      goes = λ new log' n later s' r h.
          let x = so.goes new log' (suc n) (more + later) s' r (part_more n mid between new log_mid log_between log' wire now more later t u s' r on h) in
          (x.0, subst (λ (k : ℕ). SeeksEvent x.0 old new log log' wire session k s s' r) (let e : starts + (more + later) ≡ starts + more + later = omega arith in e) x.1);
    })

-- A call stands in a part, which began there.
pub record InPart (old mid : Awaited) (log between : LogTold) (wire : ℤ) (session now : Option Session) (starts : ℕ) (s t : ClientStream) : Type 0 where
  pub from : Awaited
  pub from_log : LogTold
  pub from_session : Option Session
  pub before : ℕ
  pub later : ℕ
  pub begun : ClientStream
  pub sought : SoughtOn old from log from_log wire session from_session before s begun
  pub went : Went from mid from_log between wire from_session now later begun t
  pub starts_are : starts ≡ before + later
  pub now_is : now ≡ session_behind later from_session

pub part_begins : (old : Awaited) (log : LogTold) (wire : ℤ) (session : Option Session) (s : ClientStream) → InPart old old log log wire session session 0 s s
part_begins old log wire session s = record {
  from = old;
  from_log = log;
  from_session = session;
  before = 0;
  later = 0;
  begun = s;
  sought = sought_none old log wire session s;
  went = went_none old log wire session s;
  starts_are = refl;
  now_is = sym (behind_none session);
}

one_behind : (started : Bool) (n : ℕ) (session : Option Session) → session_after started (session_behind n session) ≡ session_behind (n + one_if started) session
one_behind false n session = ap (λ (k : ℕ). session_behind k session) (let e : n ≡ n + 0 = omega arith in e)
one_behind true n None = refl
one_behind true n (Some s) = ap Some (after_times n s) ∙ ap (λ (k : ℕ). Some (times k after_command s)) (let e : suc n ≡ n + 1 = omega arith in e)
  where
    after_times : (k : ℕ) (x : Session) → after_command (times k after_command x) ≡ times (suc k) after_command x
    after_times zero x = refl
    after_times (suc k) x = after_times k (after_command x)

module _ (old mid new : Awaited) (log log_mid log' : LogTold) (wire : ℤ) (session now now' : Option Session) (starts : ℕ) (started : Bool) (s t : ClientStream) (told : now' ≡ session_after started now) (so : InPart old mid log log_mid wire session now starts s t) where
  more_starts : starts + one_if started ≡ so.before + (so.later + one_if started)
  more_starts = let e : starts ≡ so.before + so.later = so.starts_are in omega arith

  told_on : now' ≡ session_behind (so.later + one_if started) so.from_session
  told_on = told ∙ ap (session_after started) so.now_is ∙ one_behind started so.later so.from_session

  -- a step behind which it goes on
  pub part_goes : (u : ClientStream) → DoesStep mid new log_mid log' wire now started t u stepped.Goes → InPart old new log log' wire session now' (starts + one_if started) s u
  part_goes u does = record {
    from = so.from;
    from_log = so.from_log;
    from_session = so.from_session;
    before = so.before;
    later = so.later + one_if started;
    begun = so.begun;
    sought = so.sought;
    went = went_on so.from mid new so.from_log log_mid log' wire so.from_session now now' so.later started so.begun t u told so.went does;
    starts_are = more_starts;
    now_is = told_on;
  }

  -- an empty reply, behind which the next part begins
  pub part_ends : (left counting : ClientStream) (came : Stepped) → DoesStep mid new log_mid log' wire now started t left came → IsLast came → GoesBehind (is_renewed t.doing) came left counting → InPart old new log log' wire session now' (starts + one_if started) s counting
  part_ends left counting came does last goes =
      let x = went_last so.from mid new so.from_log log_mid log' wire so.from_session now so.later started so.begun t left came so.went does last in
      let on : SeeksOn so.from new so.from_log log' wire so.from_session (so.later + one_if started) so.begun counting = record { steps = x.0; again = is_renewed t.doing; came = came; left = left; does = x.1; goes = goes } in
      record {
        from = new;
        from_log = log';
        from_session = now';
        before = so.before + (so.later + one_if started);
        later = 0;
        begun = counting;
        sought = sought_on old so.from new log so.from_log log' wire session so.from_session now' so.before (so.later + one_if started) s so.begun counting told_on so.sought on;
        went = went_none new log' wire now' counting;
        starts_are = more_starts ∙ (let e : so.before + (so.later + one_if started) ≡ so.before + (so.later + one_if started) + 0 = omega arith in e);
        now_is = sym (behind_none now');
      }

  -- the last step of the call
  pub part_over : (left ended s' : ClientStream) (came : Stepped) (r : EventPoll) → DoesStep mid new log_mid log' wire now started t left came → IsLast came → EndsSeeking (is_renewed t.doing) came left ended r → s' ≡ kept_behind (event_ending r) ended
      → (empties : ℕ) × SeeksEvent empties old new log log' wire session (starts + one_if started) s s' r
  part_over left ended s' came r does last ends_so kept =
      let x = went_last so.from mid new so.from_log log_mid log' wire so.from_session now so.later started so.begun t left came so.went does last in
      let y = so.sought.goes new log' zero (so.later + one_if started) s' r
      (part_last so.from new so.from_log log' wire so.from_session (so.later + one_if started) so.begun s' r (record { steps = x.0; again = is_renewed t.doing; came = came; left = left; does = x.1; ended = ended; ends = ends_so; kept = kept })) in
      (y.0, subst (λ (k : ℕ). SeeksEvent y.0 old new log log' wire session k s s' r) (sym more_starts) y.1)

-- ---- what steps leave as it was

-- neither the counts nor the event that is lent
pub record Kept (s s' : ClientStream) : Type 0 where
  pub current : s'.current ≡ s.current
  pub counts : s'.counts ≡ s.counts

kept_as : (s s' t : ClientStream) → s' ≡ t → Kept s t → Kept s s'
kept_as s s' t is k = subst (Kept s) (sym is) k

kept_same : (s : ClientStream) → Kept s s
kept_same s = record { current = refl; counts = refl }

looked_kept : (again : Bool) (s : ClientStream) (c : ClientCursor) (said : List ℕ) (s' : ClientStream) (r : Stepped) → LooksAt again s c said s' r → Kept s s'
looked_kept again s c said s' r (some event events at is answer) = kept_as s s' _ is (record { current = refl; counts = refl })
looked_kept again s c said s' r (none at is answer) = kept_as s s' _ is (record { current = refl; counts = refl })
looked_kept again s c said s' r (broken e breaks is answer) = kept_as s s' _ is (record { current = refl; counts = refl })

failed_kept : (s : ClientStream) (c : ClientCursor) (e : Error) (s' : ClientStream) (r : Stepped) → FailsMore s c e s' r → Kept s s'
failed_kept s c e s' r (goes_on so is answer) = kept_as s s' _ is (record { current = refl; counts = refl })
failed_kept s c e s' r (no_memory room is answer) = kept_as s s' _ is (record { current = refl; counts = refl })
failed_kept s c e s' r (final not room is answer) = kept_as s s' _ is (record { current = refl; counts = refl })

taken_kept : (s : ClientStream) (c : ClientCursor) (p : NextPoll) (s' : ClientStream) (r : Stepped) → TakesMore s c p s' r → Kept s s'
taken_kept s c next.Pending s' r h = kept_as s s' _ h.0 (record { current = refl; counts = refl })
taken_kept s c (next.Batch bytes) s' r h = looked_kept false s c bytes s' r h
taken_kept s c next.End s' r h = absurd h
taken_kept s c (next.Failed e) s' r h = failed_kept s c e s' r h

read_kept : (s : ClientStream) (said : List ℕ) (s' : ClientStream) (r : Stepped) → ReadsResumption s said s' r → Kept s s'
read_kept s said s' r (gave out opens is answer) = kept_as s s' _ is (record { current = refl; counts = refl })
read_kept s said s' r (broke e fails_so is answer) = kept_as s s' _ is (record { current = refl; counts = refl })

heard_kept : (s : ClientStream) (came : Step Sending (List ℕ)) (s' : ClientStream) (r : Stepped) → HearsResumption s came s' r → Kept s s'
heard_kept s (step.Pending waiting) s' r h = kept_as s s' _ h.0 (record { current = refl; counts = refl })
heard_kept s (step.Done said) s' r h = read_kept s said s' r h
heard_kept s (step.Failed e) s' r h = kept_as s s' _ h.0 (record { current = refl; counts = refl })

closed_kept : (s : ClientStream) (came : Step ClosingCursor (Unit {0})) (s' : ClientStream) (r : Stepped) → HearsClosing s came s' r → Kept s s'
closed_kept s (step.Pending k) s' r h = kept_as s s' _ h.0 (record { current = refl; counts = refl })
closed_kept s (step.Done t) s' r h = kept_as s s' _ h.0 (record { current = refl; counts = refl })
closed_kept s (step.Failed e) s' r (inl h) = kept_as s s' _ h.1 (record { current = refl; counts = refl })
closed_kept s (step.Failed e) s' r (inr h) = kept_as s s' _ h.1 (record { current = refl; counts = refl })

pub step_kept : (old new : Awaited) (log log' : LogTold) (wire : ℤ) (session : Option Session) (started : Bool) (s s' : ClientStream) (r : Stepped) → DoesStep old new log log' wire session started s s' r → Kept s s'
step_kept old new log log' wire session started s s' r (finds on left quiet unstarted is answer) = kept_as s s' s is (kept_same s)
step_kept old new log log' wire session started s s' r (looks on none_left said at quiet unstarted h) = looked_kept false s (at_rest s.cursor) said s' r h
step_kept old new log log' wire session started s s' r (ends on none_left at overs quiet unstarted is answer) = kept_as s s' s is (kept_same s)
step_kept old new log log' wire session started s s' r (not_asked on none_left at may e by quiet unstarted is answer) = kept_as s s' s is (kept_same s)
step_kept old new log log' wire session started s s' r (asks_more on none_left at may sending new_one h) = taken_kept s h.left h.poll s' r h.takes
step_kept old new log log' wire session started s s' r (waits_more on none_left sending at h) = taken_kept s h.left h.poll s' r h.takes
step_kept old new log log' wire session started s s' r (not_resumed on e by quiet unstarted is answer) = kept_as s s' s is (kept_same s)
step_kept old new log log' wire session started s s' r (resumes_now on sending new_one h) = heard_kept s h.came s' r h.hears
step_kept old new log log' wire session started s s' r (waits_resumption sending on h) = heard_kept s h.came s' r h.hears
step_kept old new log log' wire session started s s' r (closes before on unstarted came polls h) = closed_kept s came s' r h
step_kept old new log log' wire session started s s' r (renews on said at quiet unstarted h) = looked_kept true s (at_rest s.cursor) said s' r h

-- ---- how a step leaves the stream where a call ends with it

abbrev pub ResultLeaves : AdvanceResult (Unit {0}) → ClientStream → Type 0
ResultLeaves (result.Advanced t) s = ⊥
ResultLeaves result.Exhausted s = IsExhausted s
ResultLeaves result.Waiting s = IsSpent s

-- nothing is on its way
pub record IsStill (s : ClientStream) : Type 0 where
  pub idle : IsIdle s.doing
  pub quiet : IsNotAsking s.cursor.doing

abbrev pub GivenLeaves : TryPoll → ClientStream → Type 0
GivenLeaves try.Pending s = Unit {0}
GivenLeaves (try.Ready a) s = ResultLeaves a s
GivenLeaves (try.Failed e) s = IsStill s

abbrev pub StepLeaves : Stepped → ClientStream → Type 0
StepLeaves stepped.Goes s = Unit {0}
StepLeaves stepped.Found s = FoundOne s
StepLeaves (stepped.Gives p) s = GivenLeaves p s

leaves_as : (s s' : ClientStream) (r r' : Stepped) → s' ≡ s → r' ≡ r → StepLeaves r s → StepLeaves r' s'
leaves_as s s' r r' is answer h = subst (λ (x : Stepped). StepLeaves x s') (sym answer) (subst (StepLeaves r) (sym is) h)

quiet_rests : (c : ClientCursor) → c.doing ≡ rests → IsNotAsking c.doing
quiet_rests c is = subst IsNotAsking (sym is) tt

still_following : (s : ClientStream) → s.doing ≡ follows → IsNotAsking s.cursor.doing → IsStill s
still_following s on quiet = record { idle = subst IsIdle (sym on) tt; quiet = quiet }

looked_leaves : (again : Bool) (s : ClientStream) (c : ClientCursor) (said : List ℕ) (s' : ClientStream) (r : Stepped) → c.doing ≡ rests → LooksAt again s c said s' r → StepLeaves r s'
looked_leaves again s c said s' r quiet (some event events at is answer) = leaves_as _ s' stepped.Found r is answer (record { at_event = record { follows_on = refl; quiet = quiet }; some_left = λ empty. cc })
looked_leaves again s c said s' r quiet (none at is answer) = leaves_as _ s' (stepped.Gives (try.Ready result.Waiting)) r is answer (record { follows_on = refl; rests_so = quiet; none_left = refl })
looked_leaves true s c said s' r quiet (broken e breaks is answer) = leaves_as _ s' (stepped.Gives (try.Failed e)) r is answer (record { idle = tt; quiet = quiet_rests c quiet })
looked_leaves false s c said s' r quiet (broken e breaks is answer) = leaves_as _ s' stepped.Goes r is answer tt

failed_leaves : (s : ClientStream) (c : ClientCursor) (e : Error) (s' : ClientStream) (r : Stepped) → s.doing ≡ follows → c.doing ≡ rests → FailsMore s c e s' r → StepLeaves r s'
failed_leaves s c e s' r on quiet (goes_on so is answer) = leaves_as _ s' stepped.Goes r is answer tt
failed_leaves s c e s' r on quiet (no_memory room is answer) = leaves_as _ s' (stepped.Gives (try.Failed e)) r is answer (record { idle = tt; quiet = quiet_rests c quiet })
failed_leaves s c e s' r on quiet (final not room is answer) = leaves_as _ s' (stepped.Gives (try.Failed e)) r is answer (still_following (record s { cursor = c }) on (quiet_rests c quiet))

more_leaves : (old new : Awaited) (log log' : LogTold) (wire : ℤ) (started : Bool) (s : ClientStream) (sending : Sending) (s' : ClientStream) (r : Stepped) → IsSound false s → s.doing ≡ follows → AsksMore old new log log' wire started s sending s' r → StepLeaves r s'
more_leaves old new log log' wire started s sending s' r sound on h = by_poll h.poll h.left h.runs.hears h.takes
  where
    by_poll : (p : NextPoll) (c : ClientCursor) → Hears s.cursor h.runs.came c p → TakesMore s c p s' r → StepLeaves r s'
    by_poll next.Pending c heard takes = leaves_as s' s' (stepped.Gives try.Pending) r refl takes.1 tt
    by_poll (next.Batch bytes) c heard takes = looked_leaves false s c bytes s' r (heard_left s sound.named sound.unbound h.runs.came c (next.Batch bytes) (λ e. cc) heard).quiet takes
    by_poll next.End c heard takes = absurd takes
    by_poll (next.Failed e) c heard takes = failed_leaves s c e s' r on (heard_left s sound.named sound.unbound h.runs.came c (next.Failed e) (λ f. cc) heard).quiet takes

read_leaves : (s : ClientStream) (said : List ℕ) (s' : ClientStream) (r : Stepped) → IsNotAsking s.cursor.doing → ReadsResumption s said s' r → StepLeaves r s'
read_leaves s said s' r quiet (gave out opens is answer) = leaves_as s' s' stepped.Goes r refl answer tt
read_leaves s said s' r quiet (broke e by is answer) = leaves_as _ s' (stepped.Gives (try.Failed e)) r is answer (record { idle = tt; quiet = quiet })

heard_leaves : (s : ClientStream) (came : Step Sending (List ℕ)) (s' : ClientStream) (r : Stepped) → IsNotAsking s.cursor.doing → HearsResumption s came s' r → StepLeaves r s'
heard_leaves s (step.Pending waiting) s' r quiet h = leaves_as s' s' (stepped.Gives try.Pending) r refl h.1 tt
heard_leaves s (step.Done said) s' r quiet h = read_leaves s said s' r quiet h
heard_leaves s (step.Failed e) s' r quiet h = leaves_as _ s' (stepped.Gives (try.Failed e)) r h.0 h.1 (record { idle = tt; quiet = quiet })

closed_leaves : (s : ClientStream) (came : Step ClosingCursor (Unit {0})) (s' : ClientStream) (r : Stepped) → IsNotAsking s.cursor.doing → HearsClosing s came s' r → StepLeaves r s'
closed_leaves s (step.Pending k) s' r quiet h = leaves_as s' s' (stepped.Gives try.Pending) r refl h.1 tt
closed_leaves s (step.Done t) s' r quiet h = leaves_as s' s' stepped.Goes r refl h.1 tt
closed_leaves s (step.Failed e) s' r quiet (inl h) = leaves_as _ s' (stepped.Gives (try.Failed e)) r h.1 h.2 (record { idle = tt; quiet = quiet })
closed_leaves s (step.Failed e) s' r quiet (inr h) = leaves_as s' s' stepped.Goes r refl h.2 tt

-- a stream is bound to no connection, so nothing is asked for any more only where the server holds no cursor
over_ended : (c : ClientCursor) → c.pinned ≡ connection.Unpinned → IsOver c → c.id ≡ pos 0
over_ended c unbound (inl ended) = ended
over_ended c unbound (inr lost) = let bad : false ≡ true = sym (ap is_invalid unbound) ∙ lost in absurd cc

pub step_leaves : (old new : Awaited) (log log' : LogTold) (wire : ℤ) (session : Option Session) (started : Bool) (s s' : ClientStream) (r : Stepped) → IsSound false s → DoesStep old new log log' wire session started s s' r → StepLeaves r s'
step_leaves old new log log' wire session started s s' r sound (finds on left quiet unstarted is answer) =
    leaves_as s' s' stepped.Found r refl answer (found_stands old new log log' wire session started s s' sound (finds on left quiet unstarted is refl))
step_leaves old new log log' wire session started s s' r sound (looks on none_left said at quiet unstarted h) = looked_leaves false s (at_rest s.cursor) said s' r refl h
step_leaves old new log log' wire session started s s' r sound (ends on none_left at overs quiet unstarted is answer) =
    leaves_as s s' (stepped.Gives (try.Ready result.Exhausted)) r is answer (record { spent = record { follows_on = on; rests_so = at; none_left = none_left }; over = over_ended s.cursor sound.unbound overs })
step_leaves old new log log' wire session started s s' r sound (not_asked on none_left at may e by quiet unstarted is answer) = leaves_as s s' (stepped.Gives (try.Failed e)) r is answer (still_following s on (quiet_rests s.cursor at))
step_leaves old new log log' wire session started s s' r sound (asks_more on none_left at may sending new_one h) = more_leaves old new log log' wire started s sending s' r sound on h
step_leaves old new log log' wire session started s s' r sound (waits_more on none_left sending at h) = more_leaves old new log log' wire started s sending s' r sound on h
step_leaves old new log log' wire session started s s' r sound (not_resumed on e by quiet unstarted is answer) =
    leaves_as s s' (stepped.Gives (try.Failed e)) r is answer (record { idle = subst IsIdle (sym on) tt; quiet = (subst (SoundBy false s) on sound.by).quiet })
step_leaves old new log log' wire session started s s' r sound (resumes_now on sending new_one h) = heard_leaves s h.came s' r (subst (SoundBy false s) on sound.by).quiet h.hears
step_leaves old new log log' wire session started s s' r sound (waits_resumption sending on h) = heard_leaves s h.came s' r (subst (SoundBy false s) on sound.by).0.quiet h.hears
step_leaves old new log log' wire session started s s' r sound (closes before on unstarted came polls h) = closed_leaves s came s' r (subst (SoundBy false s) on sound.by).0.quiet h
step_leaves old new log log' wire session started s s' r sound (renews on said at quiet unstarted h) = looked_leaves true s (at_rest s.cursor) said s' r refl h

-- ---- so many steps

-- ---- a step behind which the call goes on

-- it follows no more
abbrev Away : Doing → Type 0
Away follows = ⊥
Away owes = Unit {0}
Away (resumes sending) = Unit {0}
Away (kills old) = Unit {0}
Away renewed = Unit {0}

away : (t u : ClientStream) → t ≡ u → Away u.doing → t.doing ≡ follows → ⊥
away t u at_so gone is = subst Away is (subst (λ (x : ClientStream). Away x.doing) (sym at_so) gone)

last_not : {B : Type 0} (r : Stepped) → stepped.Goes ≡ r → IsLast r → B
last_not r is last = absurd (subst IsLast (sym is) last)

looked_away : (again : Bool) (s : ClientStream) (c : ClientCursor) (reply : List ℕ) (t : ClientStream) → LooksAt again s c reply t stepped.Goes → t.doing ≡ follows → ⊥
looked_away again s c reply t (some event events there at_so answer) is = last_not stepped.Found answer tt
looked_away again s c reply t (none there at_so answer) is = last_not (stepped.Gives (try.Ready result.Waiting)) answer tt
looked_away again s c reply t (broken e breaks at_so answer) is = away t (owing_with c s) at_so tt is

failed_away : (s : ClientStream) (c : ClientCursor) (e : Error) (t : ClientStream) → FailsMore s c e t stepped.Goes → t.doing ≡ follows → ⊥
failed_away s c e t (goes_on so at_so answer) is = away t (owing_with c s) at_so tt is
failed_away s c e t (no_memory room at_so answer) is = last_not (stepped.Gives (try.Failed e)) answer tt
failed_away s c e t (final so room at_so answer) is = last_not (stepped.Gives (try.Failed e)) answer tt

taken_away : (s : ClientStream) (c : ClientCursor) (p : NextPoll) (t : ClientStream) → TakesMore s c p t stepped.Goes → t.doing ≡ follows → ⊥
taken_away s c next.Pending t h is = last_not (stepped.Gives try.Pending) h.1 tt
taken_away s c (next.Batch reply) t h is = looked_away false s c reply t h is
taken_away s c next.End t h is = h
taken_away s c (next.Failed e) t h is = failed_away s c e t h is

resumed_away : (s : ClientStream) (came : Step Sending (List ℕ)) (t : ClientStream) → HearsResumption s came t stepped.Goes → t.doing ≡ follows → ⊥
resumed_away s (step.Pending sending) t h is = last_not (stepped.Gives try.Pending) h.1 tt
resumed_away s (step.Done reply) t (gave out opens at_so answer) is = away t (replaced_by out.0 s) at_so tt is
resumed_away s (step.Done reply) t (broke e why at_so answer) is = last_not (stepped.Gives (try.Failed e)) answer tt
resumed_away s (step.Failed e) t h is = last_not (stepped.Gives (try.Failed e)) h.1 tt

closed_away : (s : ClientStream) (came : Step ClosingCursor (Unit {0})) (t : ClientStream) → HearsClosing s came t stepped.Goes → t.doing ≡ follows → ⊥
closed_away s (step.Pending old) t h is = last_not (stepped.Gives try.Pending) h.1 tt
closed_away s (step.Done x) t h is = away t (record s { doing = renewed }) h.0 tt is
closed_away s (step.Failed e) t (inl h) is = last_not (stepped.Gives (try.Failed e)) h.2 tt
closed_away s (step.Failed e) t (inr h) is = away t (record s { doing = renewed }) h.1 tt is

pub goes_away : (old new : Awaited) (log log' : LogTold) (wire : ℤ) (session : Option Session) (started : Bool) (s t : ClientStream) → DoesStep old new log log' wire session started s t stepped.Goes → t.doing ≡ follows → ⊥
goes_away old new log log' wire session started s t (finds on there nothing not_so at_so answer) is = last_not stepped.Found answer tt
goes_away old new log log' wire session started s t (looks on empty reply held nothing not_so looked_so) is = looked_away false s (at_rest s.cursor) reply t looked_so is
goes_away old new log log' wire session started s t (ends on empty quiet over_so nothing not_so at_so answer) is = last_not (stepped.Gives (try.Ready result.Exhausted)) answer tt
goes_away old new log log' wire session started s t (not_asked on empty quiet may e why nothing not_so at_so answer) is = last_not (stepped.Gives (try.Failed e)) answer tt
goes_away old new log log' wire session started s t (asks_more on empty quiet may sending new_one h) is = taken_away s h.left h.poll t h.takes is
goes_away old new log log' wire session started s t (waits_more on empty sending asks_so h) is = taken_away s h.left h.poll t h.takes is
goes_away old new log log' wire session started s t (not_resumed on e why nothing not_so at_so answer) is = last_not (stepped.Gives (try.Failed e)) answer tt
goes_away old new log log' wire session started s t (resumes_now on sending new_one h) is = resumed_away s h.came t h.hears is
goes_away old new log log' wire session started s t (waits_resumption sending on h) is = resumed_away s h.came t h.hears is
goes_away old new log log' wire session started s t (closes before on not_so came polls heard) is = closed_away s came t heard is
goes_away old new log log' wire session started s t (renews on reply held nothing not_so looked_so) is = looked_away true s (at_rest s.cursor) reply t looked_so is

-- what is true of all steps of a call: they keep the stream sound, move it on, and leave it so
pub record HasGone (plain : Bool) (old new : Awaited) (log log' : LogTold) (s s' : ClientStream) (r : Stepped) : Type 0 where
  pub sound : IsSound plain s'
  pub turned : Turned old new log log' s s'
  pub kept : Kept s s'
  pub leaves : StepLeaves r s'

one_went : (plain : Bool) (old new : Awaited) (log log' : LogTold) (wire : ℤ) (session : Option Session) (started : Bool) (s s' : ClientStream) (r : Stepped) → IsSound plain s → PlainIf plain session → DoesStep old new log log' wire session started s s' r → HasGone plain old new log log' s s' r
one_went plain old new log log' wire session started s s' r sound plainly does = record {
  sound = step_sound plain old new log log' wire session started s s' r sound plainly does;
  turned = step_turns old new log log' wire session started s s' r (sound_any plain s sound) does;
  kept = step_kept old new log log' wire session started s s' r does;
  leaves = step_leaves old new log log' wire session started s s' r (sound_any plain s sound) does;
}

pub steps_went : (n : ℕ) (plain : Bool) (old new : Awaited) (log log' : LogTold) (wire : ℤ) (session : Option Session) (starts : ℕ) (again : Bool) (s s' : ClientStream) (r : Stepped) → IsSound plain s → PlainIf plain session → DoesSteps n old new log log' wire session starts again s s' r → HasGone plain old new log log' s s' r
unfolding DoesSteps
steps_went zero plain old new log log' wire session starts again s s' r sound plainly h = one_went plain old new log log' wire session h.started s s' r sound plainly h.does
steps_went (suc n) plain old new log log' wire session starts again s s' r sound plainly h =
    let between = h.0 in
    let log_between = h.1 in
    let started = h.2 in
    let t = h.4 in
    let first = one_went plain old between log log_between wire session started s t stepped.Goes sound plainly h.5 in
    let rest = steps_went n plain between new log_between log' wire (session_after started session) h.3 again t s' r first.sound (plain_after plain started session plainly) h.7 in
    record {
      sound = rest.sound;
      turned = turned_on old between new log log_between log' s t s' first.turned rest.turned;
      kept = record { current = rest.kept.current ∙ first.kept.current; counts = rest.kept.counts ∙ first.kept.counts };
      leaves = rest.leaves;
    }

-- ---- a call that lends or copies the next event

-- the counts and the event that is lent are no part of what is on its way
let_go_sound : (plain : Bool) (s : ClientStream) → IsSound plain s → IsSound plain (lends_nothing s)
let_go_sound plain s h = sound_as plain s (lends_nothing s) refl refl refl refl h

pub uncounted_sound : (plain : Bool) (s : ClientStream) → IsSound plain s → IsSound plain (uncounted s)
uncounted_sound plain s h = sound_as plain s (uncounted s) refl refl refl refl h

between_still : (s : ClientStream) → IsStill s → IsBetween (uncounted s)
between_still s h = record { idle = h.idle; quiet = h.quiet; counts_are = refl }

still_spent : (s : ClientStream) → IsSpent s → IsStill s
still_spent s h = record { idle = subst IsIdle (sym h.follows_on) tt; quiet = quiet_rests s.cursor h.rests_so }

spent_uncounted : (s : ClientStream) → IsSpent s → IsSpent (uncounted s)
spent_uncounted s h = record { follows_on = h.follows_on; rests_so = h.rests_so; none_left = h.none_left }

-- an event is given, or passed over
pub record Gave (plain : Bool) (s s' : ClientStream) (told : List Fields) : Type 0 where
  pub sound : IsSound plain s'
  pub turns : Turns s s' told
  pub still : IsStill s'

given_so : (plain : Bool) (s s' : ClientStream) (event : List ℕ) → IsSound plain s → FoundOne s → AnswersEvent s s' event → Gave plain s s' (told_of event)
given_so plain s s' event sound found h =
    subst (λ (x : ClientStream). Gave plain s x (told_of event)) (sym h.given)
    (record {
      sound = record {
        saved = saved_event s.aggregate.args.options s.aggregate.resume (token_behind h.events s.cursor.token h.id) sound.saved;
        named = sound.named;
        unbound = sound.unbound;
        asks_its_own = sound.asks_its_own;
        by = subst (SoundBy plain (behind_event event h.events h.id s)) (sym found.at_event.follows_on) (subst (λ (d : cursors.Doing). FollowsBy d h.events) (sym found.at_event.quiet) tt);
      };
      turns = gives_turns s (behind_event event h.events h.id s) event sound.saved found.at_event (record { events = h.events; next_is = h.next_is; id = h.id; has = h.has; given = refl });
      still = still_following (behind_event event h.events h.id s) found.at_event.follows_on (quiet_rests s.cursor found.at_event.quiet);
    })

lacks_so : (plain : Bool) (s s' : ClientStream) (e : Error) → IsSound plain s → FoundOne s → LacksToken s s' e → Gave plain s s' []
lacks_so plain s s' e sound found h =
    subst (λ (x : ClientStream). Gave plain s x []) (sym h.passed)
    (record {
      sound = record {
        saved = sound.saved;
        named = sound.named;
        unbound = sound.unbound;
        asks_its_own = sound.asks_its_own;
        by = subst (SoundBy plain (passed_over h.events s)) (sym found.at_event.follows_on) (subst (λ (d : cursors.Doing). FollowsBy d h.events) (sym found.at_event.quiet) tt);
      };
      turns = lacks_turns s (passed_over h.events s) e found.at_event (record { event = h.event; events = h.events; next_is = h.next_is; lacks = h.lacks; passed = refl; error = h.error });
      still = still_following (passed_over h.events s) found.at_event.follows_on (quiet_rests s.cursor found.at_event.quiet);
    })

-- nothing was given
stays_so : (plain : Bool) (s s' : ClientStream) → IsSound plain s → FoundOne s → s' ≡ s → Gave plain s s' []
stays_so plain s s' sound found is = record {
  sound = subst (IsSound plain) (sym is) sound;
  turns = stays_turns s s' is;
  still = subst IsStill (sym is) (still_following s found.at_event.follows_on (quiet_rests s.cursor found.at_event.quiet));
}

-- what a call came to behind its last step: the stream, how it stands, and what was told
module _ (plain : Bool) (old new : Awaited) (log log' : LogTold) (s left : ClientStream) (h : HasGone plain old new log log' (lends_nothing s) left stepped.Found) where
  -- it moved on, and then gave this
  gave_moved : (s' : ClientStream) (told : List Fields) → Turns left s' told → (w : Watch) (start : Start) → Asks s.aggregate.args w start → (opened : Option ℕ) (answered : List Fields) → Moved log log' (follow_of old w start s opened answered) (follow_of new w start s' opened (answered ++ told))
  gave_moved s' told turns w start asks_so opened answered =
      moved log log' log' (follow_of old w start s opened answered) (follow_of new w start left opened answered) (follow_of new w start s' opened (answered ++ told))
      (h.turned.moved w start asks_so opened answered) (turns.moved log' new w start opened answered)

abbrev MovesTo : Awaited → Awaited → LogTold → LogTold → ClientStream → ClientStream → List Fields → Type 0
MovesTo old new log log' s s' told = (w : Watch) (start : Start) → Asks s.aggregate.args w start → (opened : Option ℕ) (answered : List Fields) → Moved log log' (follow_of old w start s opened answered) (follow_of new w start s' opened (answered ++ told))

-- without an event
quiet_moved : (plain : Bool) (old new : Awaited) (log log' : LogTold) (s left : ClientStream) (r : Stepped) → HasGone plain old new log log' (lends_nothing s) left r → MovesTo old new log log' s left []
quiet_moved plain old new log log' s left r h = λ w start asks_so opened answered. quietly log log' (follow_of old w start s opened answered) (λ l. follow_of new w start left opened l) answered (h.turned.moved w start asks_so opened answered)

-- what is known of a call that lends, of its end
pub record Lent (plain : Bool) (old new : Awaited) (log log' : LogTold) (s s' : ClientStream) (r : TryPoll) : Type 0 where
  pub sound : IsSound plain s'
  pub moves : (w : Watch) (start : Start) → Asks s.aggregate.args w start → (opened : Option ℕ) (answered : List Fields) → Moved log log' (follow_of old w start s opened answered) (follow_of new w start s' opened (answered ++ try_told r s'.current))
  pub leaves : LeavesTry r s'

-- the counts are no part of it
lent_uncounted : (plain : Bool) (old new : Awaited) (log log' : LogTold) (s t s' : ClientStream) (r : TryPoll) → s' ≡ uncounted t → IsSound plain t → MovesTo old new log log' s t (try_told r t.current) → LeavesTry r (uncounted t) → Lent plain old new log log' s s' r
lent_uncounted plain old new log log' s t s' r is sound moves leaves =
    subst (λ (x : ClientStream). Lent plain old new log log' s x r) (sym is) (record { sound = uncounted_sound plain t sound; moves = moves; leaves = leaves })

none_current : (s left : ClientStream) → Kept (lends_nothing s) left → left.current ≡ None
none_current s left k = k.current

lent_by : (plain : Bool) (old new : Awaited) (log log' : LogTold) (s left lent s' : ClientStream) (came : Stepped) (r : TryPoll) → HasGone plain old new log log' (lends_nothing s) left came → LendsBehind came left lent r → s' ≡ kept_behind (try_ending r) lent → Lent plain old new log log' s s' r
lent_by plain old new log log' s left lent s' stepped.Goes r h behind kept = absurd behind
lent_by plain old new log log' s left lent s' stepped.Found try.Pending h behind kept = absurd behind
lent_by plain old new log log' s left lent s' stepped.Found (try.Ready (result.Advanced t)) h behind kept =
    let event = behind.0 in
    let g = given_so plain left lent event h.sound h.leaves behind.1 in
    let current_is : lent.current ≡ Some event = ap (λ (x : ClientStream). x.current) behind.1.given in
    lent_uncounted plain old new log log' s lent s' (try.Ready (result.Advanced t)) kept g.sound
    (λ w start asks_so opened answered.
    subst (λ (o : Option (List ℕ)). Moved log log' (follow_of old w start s opened answered) (follow_of new w start lent opened (answered ++ current_told o))) (sym current_is)
    (gave_moved plain old new log log' s left h lent (told_of event) g.turns w start asks_so opened answered))
    (between_still lent g.still, λ no. let bad : None ≡ Some event = sym no ∙ current_is in cc)
lent_by plain old new log log' s left lent s' stepped.Found (try.Ready result.Exhausted) h behind kept = absurd behind
lent_by plain old new log log' s left lent s' stepped.Found (try.Ready result.Waiting) h behind kept = absurd behind
lent_by plain old new log log' s left lent s' stepped.Found (try.Failed e) h behind kept =
    let g = lacks_so plain left lent e h.sound h.leaves behind in
    lent_uncounted plain old new log log' s lent s' (try.Failed e) kept g.sound (gave_moved plain old new log log' s left h lent [] g.turns)
    (between_still lent g.still, ap (λ (x : ClientStream). x.current) behind.passed ∙ none_current s left h.kept)
lent_by plain old new log log' s left lent s' (stepped.Gives p) r h behind kept = by_poll p r h behind.0 behind.1 kept
  where
    by_poll : (q r : TryPoll) → HasGone plain old new log log' (lends_nothing s) left (stepped.Gives q) → lent ≡ left → r ≡ q → s' ≡ kept_behind (try_ending r) lent → Lent plain old new log log' s s' r
    by_poll try.Pending r h is answer kept =
        subst (Lent plain old new log log' s s') (sym answer)
        (subst (λ (x : ClientStream). Lent plain old new log log' s x try.Pending) (sym (subst (λ (x : TryPoll). s' ≡ kept_behind (try_ending x) lent) answer kept ∙ is))
        (record { sound = h.sound; moves = quiet_moved plain old new log log' s left (stepped.Gives try.Pending) h; leaves = none_current s left h.kept }))
    by_poll (try.Ready (result.Advanced t)) r h is answer kept = absurd h.leaves
    by_poll (try.Ready result.Exhausted) r h is answer kept =
        subst (Lent plain old new log log' s s') (sym answer)
        (lent_uncounted plain old new log log' s left s' (try.Ready result.Exhausted) (subst (λ (x : TryPoll). s' ≡ kept_behind (try_ending x) lent) answer kept ∙ ap uncounted is) h.sound (quiet_moved plain old new log log' s left (stepped.Gives (try.Ready result.Exhausted)) h)
        (between_still left (still_spent left h.leaves.spent), record { spent = spent_uncounted left h.leaves.spent; over = h.leaves.over }, none_current s left h.kept))
    by_poll (try.Ready result.Waiting) r h is answer kept =
        subst (Lent plain old new log log' s s') (sym answer)
        (lent_uncounted plain old new log log' s left s' (try.Ready result.Waiting) (subst (λ (x : TryPoll). s' ≡ kept_behind (try_ending x) lent) answer kept ∙ ap uncounted is) h.sound (quiet_moved plain old new log log' s left (stepped.Gives (try.Ready result.Waiting)) h)
        (between_still left (still_spent left h.leaves), spent_uncounted left h.leaves, none_current s left h.kept))
    by_poll (try.Failed e) r h is answer kept =
        subst (Lent plain old new log log' s s') (sym answer)
        (lent_uncounted plain old new log log' s left s' (try.Failed e) (subst (λ (x : TryPoll). s' ≡ kept_behind (try_ending x) lent) answer kept ∙ ap uncounted is) h.sound (quiet_moved plain old new log log' s left (stepped.Gives (try.Failed e)) h)
        (between_still left h.leaves, none_current s left h.kept))

pub lends_so : (n : ℕ) (plain : Bool) (old new : Awaited) (log log' : LogTold) (wire : ℤ) (session : Option Session) (starts : ℕ) (s s' : ClientStream) (r : TryPoll) → IsSound plain s → PlainIf plain session → CallLends n old new log log' wire session starts s s' r → Lent plain old new log log' s s' r
lends_so n plain old new log log' wire session starts s s' r sound plainly h =
    lent_by plain old new log log' s h.left h.lent s' h.came r (steps_went n plain old new log log' wire session starts h.again (lends_nothing s) h.left h.came (let_go_sound plain s sound) plainly h.does) h.lends h.kept

-- the same of a call that copies
pub record Copied (plain : Bool) (old new : Awaited) (log log' : LogTold) (s s' : ClientStream) (r : EventPoll) : Type 0 where
  pub sound : IsSound plain s'
  pub moves : (w : Watch) (start : Start) → Asks s.aggregate.args w start → (opened : Option ℕ) (answered : List Fields) → Moved log log' (follow_of old w start s opened answered) (follow_of new w start s' opened (answered ++ event_told r))
  pub leaves : LeavesCall r s'

copied_uncounted : (plain : Bool) (old new : Awaited) (log log' : LogTold) (s t s' : ClientStream) (r : EventPoll) → s' ≡ uncounted t → IsSound plain t → MovesTo old new log log' s t (event_told r) → LeavesCall r (uncounted t) → Copied plain old new log log' s s' r
copied_uncounted plain old new log log' s t s' r is sound moves leaves =
    subst (λ (x : ClientStream). Copied plain old new log log' s x r) (sym is) (record { sound = uncounted_sound plain t sound; moves = moves; leaves = leaves })

-- behind an event that is next
pub copied_found : (plain : Bool) (old new : Awaited) (log log' : LogTold) (s left copied s' : ClientStream) (r : EventPoll) → HasGone plain old new log log' (lends_nothing s) left stepped.Found → CopiesEvent left copied r → s' ≡ kept_behind (event_ending r) copied → Copied plain old new log log' s s' r
copied_found plain old new log log' s left copied s' poll.Pending h behind kept = absurd behind
copied_found plain old new log log' s left copied s' (poll.Ready None) h behind kept = absurd behind
copied_found plain old new log log' s left copied s' (poll.Ready (Some event)) h behind kept =
    let g = given_so plain left copied event h.sound h.leaves behind in
    copied_uncounted plain old new log log' s copied s' (poll.Ready (Some event)) kept g.sound (gave_moved plain old new log log' s left h copied (told_of event) g.turns)
    (between_still copied g.still, ap (λ (x : ClientStream). x.current) behind.given)
copied_found plain old new log log' s left copied s' (poll.Failed e) h (inl behind) kept =
    let g = lacks_so plain left copied e h.sound h.leaves behind in
    copied_uncounted plain old new log log' s copied s' (poll.Failed e) kept g.sound (gave_moved plain old new log log' s left h copied [] g.turns)
    (between_still copied g.still, ap (λ (x : ClientStream). x.current) behind.passed ∙ none_current s left h.kept)
copied_found plain old new log log' s left copied s' (poll.Failed e) h (inr behind) kept =
    let g = stays_so plain left copied h.sound h.leaves behind.same in
    copied_uncounted plain old new log log' s copied s' (poll.Failed e) kept g.sound (gave_moved plain old new log log' s left h copied [] g.turns)
    (between_still copied g.still, ap (λ (x : ClientStream). x.current) behind.same ∙ none_current s left h.kept)

copied_by : (plain : Bool) (old new : Awaited) (log log' : LogTold) (s left copied s' : ClientStream) (came : Stepped) (r : EventPoll) → HasGone plain old new log log' (lends_nothing s) left came → CopiesBehind came left copied r → s' ≡ kept_behind (event_ending r) copied → Copied plain old new log log' s s' r
copied_by plain old new log log' s left copied s' stepped.Goes r h behind kept = absurd behind
copied_by plain old new log log' s left copied s' stepped.Found r h behind kept = copied_found plain old new log log' s left copied s' r h behind kept
copied_by plain old new log log' s left copied s' (stepped.Gives p) r h behind kept = by_poll p h behind.0 behind.1
  where
    ended : (x : EventPoll) → r ≡ x → copied ≡ left → s' ≡ kept_behind (event_ending x) left
    ended x answer is = subst (λ (y : EventPoll). s' ≡ kept_behind (event_ending y) copied) answer kept ∙ ap (kept_behind (event_ending x)) is

    by_poll : (q : TryPoll) → HasGone plain old new log log' (lends_nothing s) left (stepped.Gives q) → copied ≡ left → r ≡ without_event q → Copied plain old new log log' s s' r
    by_poll try.Pending h is answer =
        subst (Copied plain old new log log' s s') (sym answer)
        (subst (λ (x : ClientStream). Copied plain old new log log' s x poll.Pending) (sym (ended poll.Pending answer is))
        (record { sound = h.sound; moves = quiet_moved plain old new log log' s left (stepped.Gives try.Pending) h; leaves = none_current s left h.kept }))
    by_poll (try.Ready (result.Advanced t)) h is answer = absurd h.leaves
    by_poll (try.Ready result.Exhausted) h is answer =
        subst (Copied plain old new log log' s s') (sym answer)
        (copied_uncounted plain old new log log' s left s' (poll.Ready None) (ended (poll.Ready None) answer is) h.sound (quiet_moved plain old new log log' s left (stepped.Gives (try.Ready result.Exhausted)) h)
        (between_still left (still_spent left h.leaves.spent), spent_uncounted left h.leaves.spent, none_current s left h.kept))
    by_poll (try.Ready result.Waiting) h is answer =
        subst (Copied plain old new log log' s s') (sym answer)
        (copied_uncounted plain old new log log' s left s' (poll.Ready None) (ended (poll.Ready None) answer is) h.sound (quiet_moved plain old new log log' s left (stepped.Gives (try.Ready result.Waiting)) h)
        (between_still left (still_spent left h.leaves), spent_uncounted left h.leaves, none_current s left h.kept))
    by_poll (try.Failed e) h is answer =
        subst (Copied plain old new log log' s s') (sym answer)
        (copied_uncounted plain old new log log' s left s' (poll.Failed e) (ended (poll.Failed e) answer is) h.sound (quiet_moved plain old new log log' s left (stepped.Gives (try.Failed e)) h)
        (between_still left h.leaves, none_current s left h.kept))

pub copies_so : (n : ℕ) (plain : Bool) (old new : Awaited) (log log' : LogTold) (wire : ℤ) (session : Option Session) (starts : ℕ) (s s' : ClientStream) (r : EventPoll) → IsSound plain s → PlainIf plain session → CallCopies n old new log log' wire session starts s s' r → Copied plain old new log log' s s' r
copies_so n plain old new log log' wire session starts s s' r sound plainly h =
    copied_by plain old new log log' s h.left h.copied s' h.came r (steps_went n plain old new log log' wire session starts h.again (lends_nothing s) h.left h.came (let_go_sound plain s sound) plainly h.does) h.copies h.kept

-- what is watched stays
kept_args : (x : Ending) (s : ClientStream) → (kept_behind x s).aggregate.args ≡ s.aggregate.args
kept_args pending s = refl
kept_args finished s = refl
kept_args (failed e) s = refl

copied_args : (came : Stepped) (left copied : ClientStream) (r : EventPoll) → CopiesBehind came left copied r → copied.aggregate.args ≡ left.aggregate.args
copied_args stepped.Goes left copied r h = absurd h
copied_args stepped.Found left copied poll.Pending h = absurd h
copied_args stepped.Found left copied (poll.Ready None) h = absurd h
copied_args stepped.Found left copied (poll.Ready (Some event)) h = ap (λ (x : ClientStream). x.aggregate.args) h.given
copied_args stepped.Found left copied (poll.Failed e) (inl h) = ap (λ (x : ClientStream). x.aggregate.args) h.passed
copied_args stepped.Found left copied (poll.Failed e) (inr h) = ap (λ (x : ClientStream). x.aggregate.args) h.same
copied_args (stepped.Gives p) left copied r h = ap (λ (x : ClientStream). x.aggregate.args) h.0

pub copies_args : (n : ℕ) (plain : Bool) (old new : Awaited) (log log' : LogTold) (wire : ℤ) (session : Option Session) (starts : ℕ) (s s' : ClientStream) (r : EventPoll) → IsSound plain s → PlainIf plain session → CallCopies n old new log log' wire session starts s s' r → s'.aggregate.args ≡ s.aggregate.args
copies_args n plain old new log log' wire session starts s s' r sound plainly h =
    let went = steps_went n plain old new log log' wire session starts h.again (lends_nothing s) h.left h.came (let_go_sound plain s sound) plainly h.does in
    ap (λ (x : ClientStream). x.aggregate.args) h.kept ∙ kept_args (event_ending r) h.copied ∙ copied_args h.came h.left h.copied r h.copies ∙ went.turned.args

-- ---- a call that seeks an event

pub record Sought (plain : Bool) (old new : Awaited) (log log' : LogTold) (s s' : ClientStream) (r : EventPoll) : Type 0 where
  pub sound : IsSound plain s'
  pub moves : (w : Watch) (start : Start) → Asks s.aggregate.args w start → (opened : Option ℕ) (answered : List Fields) → Moved log log' (follow_of old w start s opened answered) (follow_of new w start s' opened (answered ++ event_told r))
  pub leaves : LeavesSeek r s'

sought_uncounted : (plain : Bool) (old new : Awaited) (log log' : LogTold) (s t s' : ClientStream) (r : EventPoll) → s' ≡ uncounted t → IsSound plain t → MovesTo old new log log' s t (event_told r) → LeavesSeek r (uncounted t) → Sought plain old new log log' s s' r
sought_uncounted plain old new log log' s t s' r is sound moves leaves =
    subst (λ (x : ClientStream). Sought plain old new log log' s x r) (sym is) (record { sound = uncounted_sound plain t sound; moves = moves; leaves = leaves })

sought_copied : (plain : Bool) (old new : Awaited) (log log' : LogTold) (s left copied s' : ClientStream) (r : EventPoll) → CopiesEvent left copied r → Copied plain old new log log' s s' r → Sought plain old new log log' s s' r
sought_copied plain old new log log' s left copied s' poll.Pending behind c = absurd behind
sought_copied plain old new log log' s left copied s' (poll.Ready None) behind c = absurd behind
sought_copied plain old new log log' s left copied s' (poll.Ready (Some event)) behind c = record { sound = c.sound; moves = c.moves; leaves = c.leaves }
sought_copied plain old new log log' s left copied s' (poll.Failed e) behind c = record { sound = c.sound; moves = c.moves; leaves = c.leaves }

sought_by : (plain : Bool) (old new : Awaited) (log log' : LogTold) (s left ended s' : ClientStream) (again : Bool) (came : Stepped) (r : EventPoll) → HasGone plain old new log log' (lends_nothing s) left came → EndsSeeking again came left ended r → s' ≡ kept_behind (event_ending r) ended → Sought plain old new log log' s s' r
sought_by plain old new log log' s left ended s' again came r h (seek_finds is behind) kept =
    sought_copied plain old new log log' s left ended s' r behind (copied_found plain old new log log' s left ended s' r (subst (λ (x : Stepped). HasGone plain old new log log' (lends_nothing s) left x) is h) behind kept)
sought_by plain old new log log' s left ended s' again came r h (pends is same answer) kept =
    subst (Sought plain old new log log' s s') (sym answer)
    (subst (λ (x : ClientStream). Sought plain old new log log' s x poll.Pending) (sym (subst (λ (y : EventPoll). s' ≡ kept_behind (event_ending y) ended) answer kept ∙ same))
    (record { sound = h.sound; moves = quiet_moved plain old new log log' s left came h; leaves = none_current s left h.kept }))
sought_by plain old new log log' s left ended s' again came r h (over is same answer) kept =
    let exhausted = subst (λ (x : Stepped). StepLeaves x left) is h.leaves in
    subst (Sought plain old new log log' s s') (sym answer)
    (sought_uncounted plain old new log log' s left s' (poll.Ready None) (subst (λ (y : EventPoll). s' ≡ kept_behind (event_ending y) ended) answer kept ∙ ap uncounted same) h.sound (quiet_moved plain old new log log' s left came h)
    (between_still left (still_spent left exhausted.spent), record { spent = spent_uncounted left exhausted.spent; over = exhausted.over }, none_current s left h.kept))
sought_by plain old new log log' s left ended s' again came r h (closed is ended_so same answer) kept =
    let spent = subst (λ (x : Stepped). StepLeaves x left) is h.leaves in
    subst (Sought plain old new log log' s s') (sym answer)
    (sought_uncounted plain old new log log' s left s' (poll.Ready None) (subst (λ (y : EventPoll). s' ≡ kept_behind (event_ending y) ended) answer kept ∙ ap uncounted same) h.sound (quiet_moved plain old new log log' s left came h)
    (between_still left (still_spent left spent), record { spent = spent_uncounted left spent; over = ended_so }, none_current s left h.kept))
sought_by plain old new log log' s left ended s' again came r h (too_often is held many same answer) kept =
    let spent = subst (λ (x : Stepped). StepLeaves x left) is h.leaves in
    subst (Sought plain old new log log' s s') (sym answer)
    (sought_uncounted plain old new log log' s left s' _ (subst (λ (y : EventPoll). s' ≡ kept_behind (event_ending y) ended) answer kept ∙ ap uncounted same) h.sound (quiet_moved plain old new log log' s left came h)
    (between_still left (still_spent left spent), none_current s left h.kept))
sought_by plain old new log log' s left ended s' again came r h (fails e is same answer) kept =
    let still = subst (λ (x : Stepped). StepLeaves x left) is h.leaves in
    subst (Sought plain old new log log' s s') (sym answer)
    (sought_uncounted plain old new log log' s left s' (poll.Failed e) (subst (λ (y : EventPoll). s' ≡ kept_behind (event_ending y) ended) answer kept ∙ ap uncounted same) h.sound (quiet_moved plain old new log log' s left came h)
    (between_still left still, none_current s left h.kept))

-- a part with an empty reply: the stream is sound behind it, and moved on
counting_gone : (plain : Bool) (old mid : Awaited) (log log_mid : LogTold) (s left counting : ClientStream) (again : Bool) (came : Stepped) → HasGone plain old mid log log_mid s left came → GoesBehind again came left counting → IsSound plain counting × Turned old mid log log_mid s counting × (counting.current ≡ s.current)
counting_gone plain old mid log log_mid s left counting again came h goes = (
  sound_as plain left counting (ap (λ (x : ClientStream). x.aggregate) goes.counts) (ap (λ (x : ClientStream). x.cursor) goes.counts) (ap (λ (x : ClientStream). x.behind) goes.counts) (ap (λ (x : ClientStream). x.doing) goes.counts) h.sound,
  subst (λ (x : ClientStream). Turned old mid log log_mid s x) (sym goes.counts) (record { args = h.turned.args; moved = h.turned.moved }),
  ap (λ (x : ClientStream). x.current) goes.counts ∙ h.kept.current,
)

let_go_same : (s : ClientStream) → s.current ≡ None → lends_nothing s ≡ s
let_go_same s is = ap (λ (o : Option (List ℕ)). record s { current = o }) (sym is)

pub seeks_so : (n : ℕ) (plain : Bool) (old new : Awaited) (log log' : LogTold) (wire : ℤ) (session : Option Session) (starts : ℕ) (s s' : ClientStream) (r : EventPoll) → IsSound plain s → s.current ≡ None → PlainIf plain session → SeeksEvent n old new log log' wire session starts s s' r → Sought plain old new log log' s s' r
unfolding SeeksEvent
seeks_so zero plain old new log log' wire session starts s s' r sound lent plainly h =
    let gone = steps_went h.steps plain old new log log' wire session starts h.again s h.left h.came sound plainly h.does in
    sought_by plain old new log log' s h.left h.ended s' h.again h.came r (subst (λ (x : ClientStream). HasGone plain old new log log' x h.left h.came) (sym (let_go_same s lent)) gone) h.ends h.kept
seeks_so (suc n) plain old new log log' wire session starts s s' r sound lent plainly h =
    let mid = h.0 in
    let log_mid = h.1 in
    let on = h.5 in
    let t = h.4 in
    let gone = steps_went on.steps plain old mid log log_mid wire session h.2 on.again s on.left on.came sound plainly on.does in
    let c = counting_gone plain old mid log log_mid s on.left t on.again on.came gone on.goes in
    let rest = seeks_so n plain mid new log_mid log' wire (session_behind h.2 session) h.3 t s' r c.0 (c.2 ∙ lent) (plain_behind plain h.2 session plainly) h.7 in
    record {
      sound = rest.sound;
      moves = λ w start asks_so opened answered.
          moved log log_mid log' (follow_of old w start s opened answered) (follow_of mid w start t opened answered) (follow_of new w start s' opened (answered ++ event_told r))
          (c.1.moved w start asks_so opened answered) (rest.moves w start (subst (λ (a : _). Asks a w start) (sym c.1.args) asks_so) opened answered);
      leaves = rest.leaves;
    }
