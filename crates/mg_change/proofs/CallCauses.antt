-- What the polls of a call are caused by: its steps, joined.
use Rattle.std.proofs.Common.{◌≡◌, ◌≤◌, ℕ, zero, suc, ℤ, Bool, true, false, List, length, Option, Some, None, refl, sym, ap, ◌∙◌, subst, inl, inr, arith}
use Rattle.mg_server.specs.Calls.{Past, past_of}
use Rattle.mg_link.specs.Link.{Awaited, LogTold}
use Rattle.mg_link.specs.Log.{Call}
use Rattle.mg_link.specs.Session.{Session}
use Rattle.mg_link.specs.declared.error.Error.{Error}
use Rattle.mg_server.proofs.Calls.{keeps_on}
use Rattle.mg_cursor.specs.Client.{asks, holds, rests}
use Rattle.mg_cursor.specs.Client as cursors
use Rattle.mg_cursor.specs.Seeking.{session_after}
use Rattle.mg_cursor.specs.declared.polls.TryPoll.{TryPoll}
use Rattle.mg_cursor.specs.declared.polls.TryPoll.TheVariants as try
use Rattle.mg_cursor.specs.declared.results.AdvanceResult.TheVariants as result
use Rattle.mg_change.specs.Causes.{ByCursor, ByDoing, CallCame, CallCaused, CallEmpty, CallFailed, CallFails, CallGave, CallNone, IsOwing, IsSettled, Next, SoFar, StaysSo, TryCame, TryCaused, as_it_was, batch_broken, came, came_empty, cannot_ask, cannot_resume, in_hand, is_lone, left, may_lose, no_id, no_memory, none_left, not_resumed, refused_more}
use Rattle.mg_change.specs.ClientStreams.{ClientStream, Doing, IsSound, behind_event, follows, is_renewed, kills, lends_nothing, owes, remembered_by, renewed, resumes, token_behind}
use Rattle.mg_change.specs.Steps.{DoesSteps}
use Rattle.mg_change.specs.StreamCalls.{CallCopies, CallLends, CannotCopy, CopiesBehind, CopiesEvent, AnswersEvent, LacksToken, LendsBehind, LendsEvent, event_ending, kept_behind, try_ending, uncounted, without_event}
use Rattle.mg_change.specs.declared.event_poll.EventPoll.{EventPoll}
use Rattle.mg_change.specs.declared.event_poll.EventPoll.TheVariants as poll
use Rattle.mg_change.specs.declared.event_poll.Stepped.{Stepped}
use Rattle.mg_change.specs.declared.event_poll.Stepped.TheVariants as stepped
use Rattle.mg_change.proofs.Calls.{goes_away}
use Rattle.mg_change.proofs.Causes.{FoundSo, GivenCame, StepCalled, StepCame, step_caused}
use Rattle.mg_change.proofs.Keeping.{sound_any, sound_as, step_sound}

-- ---- the steps of a call

as_again : (new : Awaited) (places : List ℕ) (since : ℕ) (calls : List Call) (log' : LogTold) (wire : ℤ) (now : Option Session) (at : ClientStream) (a b : Bool) (s' : ClientStream) (r : Stepped) → a ≡ b → StepCalled new places since calls log' wire now at a s' r → StepCalled new places since calls log' wire now at b s' r
as_again new places since calls log' wire now at a b s' r is h = subst (λ (x : Bool). StepCalled new places since calls log' wire now at x s' r) is h

pub none_after : (started : Bool) → session_after started None ≡ None
none_after true = refl
none_after false = refl

pub steps_caused : (n : ℕ) (old new : Awaited) (log log' : LogTold) (wire : ℤ) (session now : Option Session) (starts : ℕ) (again : Bool) (at s s' : ClientStream) (r : Stepped) → IsSound false s → (s.doing ≡ follows → now ≡ session) → (now ≡ None → session ≡ None) → DoesSteps n old new log log' wire session starts again s s' r
    → (places : List ℕ) (since : ℕ) (calls : List Call) → log ≡ Some calls → since ≤ length calls → SoFar old (past_of places since calls wire) (is_lone now) at s → StepCalled new places since calls log' wire now at again s' r
unfolding DoesSteps
steps_caused zero old new log log' wire session now starts again at s s' r sound first plainly h places since calls told room so =
    as_again new places since calls log' wire now at (is_renewed s.doing) again s' r (sym h.again_is) (step_caused old new log log' wire session now h.started at s s' r sound first plainly places since calls told room so h.does)
steps_caused (suc n) old new log log' wire session now starts again at s s' r sound first plainly h places since calls told room so =
    let between = h.0 in
    let log_between = h.1 in
    let started = h.2 in
    let t = h.4 in
    let one = step_caused old between log log_between wire session now started at s t stepped.Goes sound first plainly places since calls told room so h.5 in
    let sound_t = step_sound false old between log log_between wire session started s t stepped.Goes sound tt h.5 in
    let rest = steps_caused n between new log_between log' wire (session_after started session) now h.3 again at t s' r sound_t (λ on. absurd (goes_away old between log log_between wire session started s t h.5 on)) (λ none. ap (session_after started) (plainly none) ∙ none_after started) h.7 places since one.calls' one.told one.room one.came in
    record { calls' = rest.calls'; told = rest.told; room = rest.room; keeps = keeps_on calls one.calls' rest.calls' one.keeps rest.keeps; came = rest.came }

-- ---- no counts are left

module _ (past : Past) (session : Option Session) (at s : ClientStream) where
  settled_uncounted : IsSettled s → IsSettled (uncounted s)
  settled_uncounted h = record { follows_on = h.follows_on; looked = h.looked }

  owing_uncounted : IsOwing s → IsOwing (uncounted s)
  owing_uncounted h = record { owes_one = h.owes_one; none_left = h.none_left }

  none_uncounted : (again : Bool) → CallNone past (is_lone session) at s again → CallNone past (is_lone session) at (uncounted s) again
  none_uncounted again (came_empty before bytes replied docs is) = came_empty before bytes replied docs is
  none_uncounted again (none_left so settled before over same cursor) = none_left so settled before over same cursor

  pub empty_uncounted : (again : Bool) → CallEmpty past (is_lone session) at s again → CallEmpty past (is_lone session) at (uncounted s) again
  empty_uncounted again h = record { why = none_uncounted again h.why; empty = h.empty; settled = settled_uncounted h.settled }

  stays_uncounted : StaysSo past (is_lone session) at s → StaysSo past (is_lone session) at (uncounted s)
  stays_uncounted (as_it_was settled cursor behind doing) = as_it_was settled cursor behind doing
  stays_uncounted (in_hand again bytes replied docs some settled) = in_hand again bytes replied docs some (settled_uncounted settled)

  fails_uncounted : (e : Error) → CallFails past session at s e → CallFails past session at (uncounted s) e
  fails_uncounted e (may_lose room owing may) = may_lose room (owing_uncounted owing) may
  fails_uncounted e (no_memory room stays) = no_memory room (stays_uncounted stays)
  fails_uncounted e (not_resumed owing why fails) = not_resumed (owing_uncounted owing) why fails
  fails_uncounted e (batch_broken bytes owing replied breaks) = batch_broken bytes (owing_uncounted owing) replied breaks
  fails_uncounted e (cannot_resume owing why now cannot) = cannot_resume (owing_uncounted owing) why now cannot
  fails_uncounted e (refused_more may fails final cursor empty settled) = refused_more may fails final cursor empty (settled_uncounted settled)
  fails_uncounted e (cannot_ask may cannot cursor empty settled) = cannot_ask may cannot cursor empty (settled_uncounted settled)
  fails_uncounted e (no_id event next none is settled) = no_id event next none is (settled_uncounted settled)

  pub failed_uncounted : (e : Error) → CallFailed past session at s e → CallFailed past session at (uncounted s) e
  failed_uncounted e h = record { why = fails_uncounted e h.why; token = h.token }

-- ---- behind an event that is next

module _ (past : Past) (session : Option Session) (at found : ClientStream) (so : FoundSo past (is_lone session) at found) where
  gave_so : (event : List ℕ) (given s' : ClientStream) → AnswersEvent found given event → s' ≡ uncounted given → CallGave past (is_lone session) at s' event
  gave_so event given s' h is =
      let u : ClientStream = uncounted (behind_event event h.events h.id found) in
      subst (λ (x : ClientStream). CallGave past (is_lone session) at x event) (sym (is ∙ ap uncounted h.given))
      (record {
        next = subst (λ (es : List (List ℕ)). Next past (is_lone session) at es found.cursor) h.next_is so.next;
        id = h.id;
        has = h.has;
        remembers = ap (remembered_by (token_behind h.events found.cursor.token h.id) true) so.same;
        settled = record { follows_on = so.settled.follows_on; looked = so.settled.looked };
      })

  lacks_so : (e : Error) (passed s' : ClientStream) → LacksToken found passed e → s' ≡ uncounted passed → CallFailed past session at s' e
  lacks_so e passed s' h is =
      subst (λ (x : ClientStream). CallFailed past session at x e) (sym (is ∙ ap uncounted h.passed))
      (record {
        why = no_id h.event (subst (λ (es : List (List ℕ)). Next past (is_lone session) at es found.cursor) h.next_is so.next) h.lacks h.error (record { follows_on = so.settled.follows_on; looked = so.settled.looked });
        token = so.same;
      })

  stays_so : Next past (is_lone session) at found.behind found.cursor → StaysSo past (is_lone session) at found
  stays_so (left settled events cursor) = as_it_was settled cursor events (so.settled.follows_on ∙ sym settled.follows_on)
  stays_so (came before again bytes replied docs) = in_hand again bytes replied docs so.some so.settled

  cannot_so : (e : Error) (same s' : ClientStream) → CannotCopy found same e → s' ≡ uncounted same → CallFailed past session at s' e
  cannot_so e same s' h is =
      subst (λ (x : ClientStream). CallFailed past session at x e) (sym (is ∙ ap uncounted h.same))
      (failed_uncounted past session at found e (record { why = no_memory (ap (λ (x : Error). x.kind) h.error) (stays_so so.next); token = so.same }))

  pub copied_so : (copied s' : ClientStream) (r : EventPoll) (awaited : Awaited) → CopiesEvent found copied r → s' ≡ kept_behind (event_ending r) copied → CallCame awaited past session at s' r
  copied_so copied s' poll.Pending awaited h is = absurd h
  copied_so copied s' (poll.Ready None) awaited h is = absurd h
  copied_so copied s' (poll.Ready (Some event)) awaited h is = gave_so event copied s' h is
  copied_so copied s' (poll.Failed e) awaited (inl h) is = lacks_so e copied s' h is
  copied_so copied s' (poll.Failed e) awaited (inr h) is = cannot_so e copied s' h is

  lent_so : (lent s' : ClientStream) (r : TryPoll) (awaited : Awaited) → LendsEvent found lent r → s' ≡ kept_behind (try_ending r) lent → TryCame awaited past session at s' r
  lent_so lent s' try.Pending awaited h is = absurd h
  lent_so lent s' (try.Ready (result.Advanced t)) awaited h is = record {
    event = h.0;
    current_is = ap (λ (x : ClientStream). x.current) (is ∙ ap uncounted h.1.given);
    gave = gave_so h.0 lent s' h.1 is;
  }
  lent_so lent s' (try.Ready result.Exhausted) awaited h is = absurd h
  lent_so lent s' (try.Ready result.Waiting) awaited h is = absurd h
  lent_so lent s' (try.Failed e) awaited h is = lacks_so e lent s' h is

-- ---- behind the last step

module _ (awaited : Awaited) (past : Past) (session : Option Session) (at stopped : ClientStream) (again : Bool) where
  so_far_as : (s' : ClientStream) → s' ≡ stopped → SoFar awaited past (is_lone session) at stopped → SoFar awaited past (is_lone session) at s'
  so_far_as s' is h = subst (SoFar awaited past (is_lone session) at) (sym is) h

  given_lends : (p : TryPoll) → GivenCame awaited past session at again stopped p → (s' : ClientStream) → s' ≡ kept_behind (try_ending p) stopped → TryCame awaited past session at s' p
  given_lends try.Pending h s' is = so_far_as s' is h
  given_lends (try.Ready (result.Advanced t)) h s' is = absurd h
  given_lends (try.Ready result.Exhausted) h s' is = (subst (λ (x : ClientStream). CallEmpty past (is_lone session) at x false) (sym is) (empty_uncounted past session at stopped false h.0), h.1)
  given_lends (try.Ready result.Waiting) h s' is = (again, subst (λ (x : ClientStream). CallEmpty past (is_lone session) at x again) (sym is) (empty_uncounted past session at stopped again h))
  given_lends (try.Failed e) h s' is = subst (λ (x : ClientStream). CallFailed past session at x e) (sym is) (failed_uncounted past session at stopped e h)

  given_copies : (p : TryPoll) → GivenCame awaited past session at again stopped p → (s' : ClientStream) → s' ≡ kept_behind (event_ending (without_event p)) stopped → CallCame awaited past session at s' (without_event p)
  given_copies try.Pending h s' is = so_far_as s' is h
  given_copies (try.Ready (result.Advanced t)) h s' is = absurd h
  given_copies (try.Ready result.Exhausted) h s' is = (false, subst (λ (x : ClientStream). CallEmpty past (is_lone session) at x false) (sym is) (empty_uncounted past session at stopped false h.0))
  given_copies (try.Ready result.Waiting) h s' is = (again, subst (λ (x : ClientStream). CallEmpty past (is_lone session) at x again) (sym is) (empty_uncounted past session at stopped again h))
  given_copies (try.Failed e) h s' is = subst (λ (x : ClientStream). CallFailed past session at x e) (sym is) (failed_uncounted past session at stopped e h)

  lends_by : (stopped_so : Stepped) → StepCame awaited past session at again stopped stopped_so → (lent s' : ClientStream) (r : TryPoll) → LendsBehind stopped_so stopped lent r → s' ≡ kept_behind (try_ending r) lent → TryCame awaited past session at s' r
  lends_by stepped.Goes h lent s' r behind kept = absurd behind
  lends_by stepped.Found h lent s' r behind kept = lent_so past session at stopped h lent s' r awaited behind kept
  lends_by (stepped.Gives p) h lent s' r behind kept =
      subst (TryCame awaited past session at s') (sym behind.1)
      (given_lends p h s' (subst (λ (x : TryPoll). s' ≡ kept_behind (try_ending x) lent) behind.1 kept ∙ ap (kept_behind (try_ending p)) behind.0))

  copies_by : (stopped_so : Stepped) → StepCame awaited past session at again stopped stopped_so → (copied s' : ClientStream) (r : EventPoll) → CopiesBehind stopped_so stopped copied r → s' ≡ kept_behind (event_ending r) copied → CallCame awaited past session at s' r
  copies_by stepped.Goes h copied s' r behind kept = absurd behind
  copies_by stepped.Found h copied s' r behind kept = copied_so past session at stopped h copied s' r awaited behind kept
  copies_by (stepped.Gives p) h copied s' r behind kept =
      subst (CallCame awaited past session at s') (sym behind.1)
      (given_copies p h s' (subst (λ (x : EventPoll). s' ≡ kept_behind (event_ending x) copied) behind.1 kept ∙ ap (kept_behind (event_ending (without_event p))) behind.0))

-- ---- a call

-- the event that is lent is no part of how far it has come
go_by_cursor : (awaited : Awaited) (past : Past) (at s : ClientStream) (d : cursors.Doing) → ByCursor awaited past at s d → ByCursor awaited past at (lends_nothing s) d
go_by_cursor awaited past at s rests h = record { follows_on = h.follows_on; cursor = h.cursor; events = h.events }
go_by_cursor awaited past at s (holds bytes) h = record { follows_on = h.follows_on; cursor = h.cursor; events = h.events }
go_by_cursor awaited past at s (asks sending) h = h

go_by : (awaited : Awaited) (past : Past) (lone : Bool) (at s : ClientStream) (d : Doing) → ByDoing awaited past lone at s d → ByDoing awaited past lone at (lends_nothing s) d
go_by awaited past lone at s follows h = go_by_cursor awaited past at s s.cursor.doing h
go_by awaited past lone at s owes h = h
go_by awaited past lone at s (resumes sending) h = h
go_by awaited past lone at s (kills before) h = record { bytes = h.bytes; resumed = h.resumed; underway = h.underway }
go_by awaited past lone at s renewed h = record { old = h.old; bytes = h.bytes; resumed = h.resumed; killed = h.killed }

pub lets_go : (awaited : Awaited) (past : Past) (lone : Bool) (at s : ClientStream) → SoFar awaited past lone at s → SoFar awaited past lone at (lends_nothing s)
lets_go awaited past lone at s so = record { same = so.same; by = go_by awaited past lone at s s.doing so.by }

pub lends_caused : (n : ℕ) (plain : Bool) (old new : Awaited) (log log' : LogTold) (wire : ℤ) (session : Option Session) (starts : ℕ) (s s' : ClientStream) (r : TryPoll) → IsSound plain s → CallLends n old new log log' wire session starts s s' r → TryCaused old new log log' wire session s s' r
lends_caused n plain old new log log' wire session starts s s' r sound does = λ calls told places at so.
    let h = steps_caused n old new log log' wire session session starts does.again at (lends_nothing s) does.left does.came (sound_as false s (lends_nothing s) refl refl refl refl (sound_any plain s sound)) (λ on. refl) (λ none. none) does.does places (length calls) calls told (omega arith) (lets_go old (past_of places (length calls) calls wire) (is_lone session) at s so) in
    (h.calls', h.told, h.keeps, lends_by new (past_of places (length calls) h.calls' wire) session at does.left does.again does.came h.came does.lent s' r does.lends does.kept)

pub copies_caused : (n : ℕ) (plain : Bool) (old new : Awaited) (log log' : LogTold) (wire : ℤ) (session : Option Session) (starts : ℕ) (s s' : ClientStream) (r : EventPoll) → IsSound plain s → CallCopies n old new log log' wire session starts s s' r → CallCaused old new log log' wire session s s' r
copies_caused n plain old new log log' wire session starts s s' r sound does = λ calls told places at so.
    let h = steps_caused n old new log log' wire session session starts does.again at (lends_nothing s) does.left does.came (sound_as false s (lends_nothing s) refl refl refl refl (sound_any plain s sound)) (λ on. refl) (λ none. none) does.does places (length calls) calls told (omega arith) (lets_go old (past_of places (length calls) calls wire) (is_lone session) at s so) in
    (h.calls', h.told, h.keeps, copies_by new (past_of places (length calls) h.calls' wire) session at does.left does.again does.came h.came does.copied s' r does.copies does.kept)
