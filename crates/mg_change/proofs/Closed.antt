-- Where a stream is behind the polls of its closing.
use Rattle.std.proofs.Common.{◌≡◌, ◌≢◌, ◌⊎◌, ℕ, ℤ, pos, Bool, true, false, List, [], ◌∷◌, ◌++◌, Option, Some, None, refl, sym, ap, ◌∙◌, subst, inl, inr, map}
use Rattle.std.specs.Prelude.{unwrap_or, if◌then◌else◌}
use Rattle.std.specs.Ordering.{int_eq}
use Rattle.mg_bson.specs.Raw.{fields}
use Rattle.mg_bson.specs.Tree.{Fields, Tree}
use Rattle.mg_server.specs.Commands.{asks_kill, asked, documents_in}
use Rattle.mg_link.specs.Exec.{Attempt, Runs, Sending, Stage, Tries, first, second, unsent}
use Rattle.mg_server.specs.Follow.{Follow, IsOpen, Moved, ResumesAt, owing, owner_of, resting, resuming}
use Rattle.mg_link.specs.Link.{Awaited, SendsNothing, LogTold}
use Rattle.mg_server.specs.Owner.{IsOf, NamesOwn}
use Rattle.mg_server.specs.State.{Start, Watch}
use Rattle.mg_link.specs.declared.action.Step.{Step}
use Rattle.mg_link.specs.declared.action.Step.TheVariants as step
use Rattle.mg_link.specs.declared.error.Error.{Error}
use Rattle.mg_server.proofs.Asking.{asks_at}
use Rattle.mg_server.proofs.Killing.{close_begun, close_gone_on}
use Rattle.mg_server.specs.Moves.{owed, given_with, at_stage, resumed_with}
use Rattle.mg_server.proofs.Moves.{moved, stayed}
use Rattle.mg_server.proofs.Moving.{IdsFrom, known, moved_here, same_opened}
use Rattle.mg_server.proofs.Resumes.{kill_own}
use Rattle.mg_ops.proofs.Asking.{asks_for_more, asks_to_kill_plainly}
use Rattle.mg_ops.proofs.Reading.{batch_as}
use Rattle.mg_cursor.specs.Client.{ClientCursor, IsAsking, asks, at_rest, behind_failure, behind_reply, holds, kill, rests}
use Rattle.mg_cursor.specs.Client as cursors
use Rattle.mg_cursor.specs.Closing.{ClosesBy, ClosingCursor, ClosingPolls, IsClosing, IsKilling, IsLanded, IsNotAsking, KillHears, KillsCursor, LandedBy, begins as kill_begins, goes_on as kill_goes_on, kills as kills_it, lands as kill_lands, not_built as kill_not_built, nothing_left as kill_not_needed}
use Rattle.mg_cursor.specs.Polling.{Hears, ReadsReply, broke, gave}
use Rattle.mg_cursor.specs.declared.polls.NextPoll.{NextPoll}
use Rattle.mg_cursor.specs.declared.polls.NextPoll.TheVariants as next
use Rattle.mg_change.specs.ClientStreams.{Asks, ClientStream, Doing, IsAggregate, IsSound, SoundBy, follows, kills, owes, renewed, resumes, stream_token}
use Rattle.mg_change.specs.ClosingStreams.{BehindAggregate, BehindMore, BehindReplaced, BehindOpening, ClosesStream, ClosingStream, HearsKill, IsLanding, IsSoundClosing, KillsLeft, Landing, LandsFor, LandsForBy, LandsSoundly, PassesOver, ResumesWatch, RunsKill, begins, closed_stream, ends, goes_on, ids_left, kill_left, kills_all, landing_of, lands, lands_aggregate, lands_closing, lands_more, lands_replaced, lands_opening, not_built, nothing_left, opened_none, opened_one}
use Rattle.mg_change.specs.Following.{OnPending, closing_by, event_fields, follow_by, follow_closed, follow_closing, follow_of, held_by, idle_by, in_hand, left_as, older_by, unread, with_landing, with_more, with_older}
use Rattle.mg_change.proofs.Garbled.{runs_once, still_waits}
use Rattle.mg_change.proofs.Heeding.{MoreCame, ResumeCame, at_waiting, more_polled, more_taken, resume_polled, resume_taken, waits_still}
use Rattle.mg_change.proofs.Turning.{ClosesTo, asks_again, at_same, left_id, older_same, up_to}

-- ---- what is let down

-- an open stream of which these two cursors are left
abbrev pub down : Follow → ℤ → ℤ → Follow
down f cursor opened = record f { doing = owing; cursor = cursor; old = opened; ahead = []; upto = None }

-- it lets go of all others
pub lets_down : (log : LogTold) (f : Follow) (cursor opened : ℤ) → IsOpen f.doing → IdsFrom f (down f cursor opened) → Moved log log f (down f cursor opened)
lets_down log f cursor opened is_open ids calls told = (
  calls,
  told,
  moved_here calls f (down f cursor opened) refl ids (λ k.
      let kn = known calls f is_open k in
      record {
        opened = same_opened calls f (down f cursor opened) refl refl refl kn.opened;
        facts = λ history legal stands position placed.
            let facts = kn.facts history legal stands position placed in
            record { from = facts.from; begins = facts.begins; place = facts.place; reached = facts.reached; hand = tt };
      }),
)

-- it keeps its cursors
keeps_down : (log : LogTold) (f : Follow) → IsOpen f.doing → Moved log log f (down f f.cursor f.old)
keeps_down log f is_open = lets_down log f f.cursor f.old is_open (λ x of ne. of)

none_left : (x : ℤ) → IsOf (pos 0 ∷ pos 0 ∷ []) x → x ≢ pos 0 → ⊥
none_left x (inl e) ne = ne (sym e)
none_left x (inr (inl e)) ne = ne (sym e)
none_left x (inr (inr none)) ne = none

-- it is closed
dropped : (log : LogTold) (f : Follow) → IsOpen f.doing → Moved log log f (down f (pos 0) (pos 0))
dropped log f is_open = lets_down log f (pos 0) (pos 0) is_open (λ x of ne. absurd (none_left x of ne))

-- all but an older one, where there is none
only_first : (f : Follow) (cursor opened : ℤ) → f.cursor ≡ cursor → opened ≡ pos 0 → IdsFrom f (down f cursor opened)
only_first f cursor opened is alone x (inl e) ne = inl (is ∙ e)
only_first f cursor opened is alone x (inr (inl e)) ne = absurd (ne (sym e ∙ alone))
only_first f cursor opened is alone x (inr (inr none)) ne = absurd none

-- the two the other way round
turned_round : (f : Follow) (cursor opened : ℤ) → f.cursor ≡ opened → f.old ≡ cursor → IdsFrom f (down f cursor opened)
turned_round f cursor opened new old x (inl e) ne = inr (inl (old ∙ e))
turned_round f cursor opened new old x (inr (inl e)) ne = inl (new ∙ e)
turned_round f cursor opened new old x (inr (inr none)) ne = absurd none

-- its cursor may have ended
perhaps_ended : (f : Follow) (cursor : ℤ) → (cursor ≡ f.cursor) ⊎ (cursor ≡ pos 0) → IdsFrom f (down f cursor f.old)
perhaps_ended f cursor (inl same) x (inl e) ne = inl (sym same ∙ e)
perhaps_ended f cursor (inr none) x (inl e) ne = absurd (ne (sym e ∙ none))
perhaps_ended f cursor which x (inr rest) ne = inr rest

-- ---- a killCursors

-- the ids that are left are the stream's own
left_by : (a b : Bool) (c o x : ℤ) → int_eq c (pos 0) ≡ a → int_eq o (pos 0) ≡ b → IsOf ((if a then [] else c ∷ []) ++ (if b then [] else o ∷ [])) x → IsOf (c ∷ o ∷ []) x × (x ≢ pos 0)
left_by true true c o x p q of = absurd of
left_by true false c o x p q (inl e) = (inr (inl e), λ z. let bad : true ≡ false = ap (λ n. int_eq n (pos 0)) (sym (e ∙ z)) ∙ q in cc)
left_by true false c o x p q (inr none) = absurd none
left_by false true c o x p q (inl e) = (inl e, λ z. let bad : true ≡ false = ap (λ n. int_eq n (pos 0)) (sym (e ∙ z)) ∙ p in cc)
left_by false true c o x p q (inr none) = absurd none
left_by false false c o x p q (inl e) = (inl e, λ z. let bad : true ≡ false = ap (λ n. int_eq n (pos 0)) (sym (e ∙ z)) ∙ p in cc)
left_by false false c o x p q (inr (inl e)) = (inr (inl e), λ z. let bad : true ≡ false = ap (λ n. int_eq n (pos 0)) (sym (e ∙ z)) ∙ q in cc)
left_by false false c o x p q (inr (inr none)) = absurd none

-- a command of the stream's own cursors
own_tried : (old new : Awaited) (log log' : LogTold) (g : Follow) (command : List ℕ) (stage : Stage) (attempt : Attempt) → NamesOwn (owner_of (owed g)) (asked command) → Tries old new log log' command stage attempt → Moved log log' (owed g) (owed g)
own_tried old new log log' g command unsent attempt own t = close_begun old new log log' (owed g) command attempt tt own t
own_tried old new log log' g command (first ticket) attempt own t = close_gone_on old new log log' g ticket attempt t
own_tried old new log log' g command (second ticket) attempt own t = close_gone_on old new log log' g ticket attempt t

-- ---- from the stream to its closing

hand_down : (log : LogTold) (events : List Fields) (upto : Option Tree) (w : Watch) (start : Start) (opened : Option ℕ) (cursor : ℤ) (token : Option Tree) (answered : List Fields) → Moved log log (in_hand events upto (idle_by w start opened cursor token answered)) (idle_by w start opened cursor token answered)
hand_down log [] upto w start opened cursor token answered = keeps_down log (in_hand [] upto (idle_by w start opened cursor token answered)) tt
hand_down log (e ∷ es) upto w start opened cursor token answered = keeps_down log (in_hand (e ∷ es) upto (idle_by w start opened cursor token answered)) tt

module _ (log : LogTold) (awaited : Awaited) (w : Watch) (start : Start) (opened : Option ℕ) (cursor : ℤ) (token : Option Tree) (answered : List Fields) where
  abbrev from_idle : Follow
  from_idle = idle_by w start opened cursor token answered

  more_down : (d : cursors.Doing) (events : List Fields) (upto : Option Tree) → Moved log log (with_more awaited d events upto from_idle) (with_landing awaited d from_idle)
  more_down rests events upto = hand_down log events upto w start opened cursor token answered
  more_down (holds reply) events upto = keeps_down log (held_by (event_fields reply) upto from_idle) tt
  more_down (asks sending) events upto = stayed log log (with_more awaited (asks sending) events upto from_idle) refl

  -- the batch that was not looked at is let go
  unread_down : (d : cursors.Doing) (upto : Option Tree) → IsNotAsking d → Moved log log (unread d upto from_idle) (with_landing awaited d from_idle)
  unread_down rests upto quiet = stayed log log from_idle refl
  unread_down (holds reply) upto quiet = keeps_down log (held_by (event_fields reply) upto from_idle) tt
  unread_down (asks sending) upto quiet = absurd quiet

  idle_down : (d : cursors.Doing) → IsNotAsking d → Moved log log from_idle (with_landing awaited d from_idle)
  idle_down rests quiet = stayed log log from_idle refl
  idle_down (holds reply) quiet = stayed log log from_idle refl
  idle_down (asks sending) quiet = absurd quiet

  -- so it is while the cursor before is closed
  older_stage : (d : cursors.Doing) (upto : Option Tree) (id : ℤ) (stage : Stage) → IsNotAsking d → Moved log log (at_stage (record (unread d upto from_idle) { old = id }) (λ place. unread d upto from_idle) awaited stage) (at_stage (record from_idle { old = id }) (λ place. from_idle) awaited stage)
  older_stage rests upto id stage quiet = stayed log log (at_stage (record from_idle { old = id }) (λ place. from_idle) awaited stage) refl
  older_stage (holds reply) upto id unsent quiet = keeps_down log (record (held_by (event_fields reply) upto from_idle) { old = id }) tt
  older_stage (holds reply) upto id (first ticket) quiet = keeps_down log (held_by (event_fields reply) upto from_idle) tt
  older_stage (holds reply) upto id (second ticket) quiet = keeps_down log (held_by (event_fields reply) upto from_idle) tt
  older_stage (asks sending) upto id stage quiet = absurd quiet

  older_down : (d : cursors.Doing) (upto : Option Tree) (c : ClientCursor) (killing : Option Sending) → IsNotAsking d → Moved log log (older_by awaited c killing (unread d upto from_idle)) (older_by awaited c killing from_idle)
  older_down d upto c None quiet = older_stage d upto c.id unsent quiet
  older_down d upto c (Some sending) quiet = older_stage d upto c.id sending.stage quiet

close_by : (log : LogTold) (awaited : Awaited) (w : Watch) (start : Start) (s : ClientStream) (d : Doing) → SoundBy false s d → (events answered : List Fields) (opened : Option ℕ) (token : Option Tree)
    → Moved log log (follow_by awaited d s.cursor events (idle_by w start opened s.cursor.id token answered)) (closing_by awaited (landing_of d) s.cursor (idle_by w start opened s.cursor.id token answered))
close_by log awaited w start s follows sound events answered opened token = more_down log awaited w start opened s.cursor.id token answered s.cursor.doing events s.cursor.token
close_by log awaited w start s owes sound events answered opened token = idle_down log awaited w start opened s.cursor.id token answered s.cursor.doing sound.quiet
close_by log awaited w start s (resumes sending) sound events answered opened token =
    stayed log log (follow_by awaited (resumes sending) s.cursor events (idle_by w start opened s.cursor.id token answered)) refl
close_by log awaited w start s (kills before) sound events answered opened token =
    older_down log awaited w start opened s.cursor.id token answered s.cursor.doing s.cursor.token before.cursor before.killing sound.0.quiet
close_by log awaited w start s renewed sound events answered opened token = unread_down log awaited w start opened s.cursor.id token answered s.cursor.doing s.cursor.token sound.0.quiet

-- The stream is to be closed: nothing is sent. Its token may have been handed out.
pub close_moved : (log : LogTold) (awaited : Awaited) (w : Watch) (start : Start) (lent : Bool) (s : ClientStream) (opened : Option ℕ) (answered : List Fields) → IsSound false s
    → Moved log log (follow_of awaited w start s opened answered) (follow_closing awaited w start (stream_token s) (closed_stream lent s) opened answered)
close_moved log awaited w start lent s opened answered sound = close_by log awaited w start s s.doing sound.by (map fields s.behind) answered opened (stream_token s)

-- ---- what a new closing keeps

sound_by : (lent : Bool) (s : ClientStream) (d : Doing) → IsSound false s → SoundBy false s d → LandsSoundly (closed_stream lent s) (landing_of d)
sound_by lent s follows sound by = record { asks_its_own = sound.asks_its_own; named = sound.named; alone = refl }
sound_by lent s owes sound by = record { asks_its_own = sound.asks_its_own; named = sound.named; alone = refl }
sound_by lent s (resumes sending) sound by = by.0.quiet
sound_by lent s (kills before) sound by = (by.0.quiet, by.2, by.3, refl)
sound_by lent s renewed sound by = record { asks_its_own = sound.asks_its_own; named = sound.named; alone = refl }

-- the closing of a sound stream is sound
pub closed_sound : (lent : Bool) (s : ClientStream) → IsSound false s → IsSoundClosing (closed_stream lent s)
closed_sound lent s sound = sound_by lent s s.doing sound sound.by

for_by : (w : Watch) (start : Start) (s : ClientStream) (d : Doing) → IsSound false s → SoundBy false s d → Asks s.aggregate.args w start → LandsForBy w start (stream_token s) (landing_of d)
for_by w start s follows sound by asks_so = tt
for_by w start s owes sound by asks_so = tt
for_by w start s (resumes sending) sound by asks_so =
    let own : IsAggregate false s.aggregate sending = by.1 in
    record { aggregate = s.aggregate; asks = asks_so; saved = sound.saved; token_is = refl; wire = own.wire; session = own.session; command_is = own.command_is }
for_by w start s (kills before) sound by asks_so = tt
for_by w start s renewed sound by asks_so = tt

-- what is on its way is of this stream
pub closed_for : (w : Watch) (start : Start) (lent : Bool) (s : ClientStream) → IsSound false s → Asks s.aggregate.args w start → LandsFor w start (stream_token s) (closed_stream lent s)
closed_for w start lent s sound asks_so = for_by w start s s.doing sound sound.by asks_so

-- ---- a closing

module _ (w : Watch) (start : Start) (token : Option Tree) (opened : Option ℕ) (answered : List Fields) where
  -- a stream of which these cursors are left
  abbrev pub at_ids : ℤ → ℤ → Follow
  at_ids cursor older = left_as w start opened token answered cursor older

  -- where it is behind a poll of its closing
  abbrev pub closed_to : Awaited → Step ClosingStream (Unit {0}) → Follow
  closed_to awaited r = follow_closed awaited w start token opened answered r

  all_dropped : (log log' : LogTold) (g : Follow) (cursor older : ℤ) → Moved log log' g (at_ids cursor older) → Moved log log' g (at_ids (pos 0) (pos 0))
  all_dropped log log' g cursor older m = moved log log' log' g (at_ids cursor older) (at_ids (pos 0) (pos 0)) m (dropped log' (at_ids cursor older) tt)

  module _ (old new : Awaited) (log log' : LogTold) (wire : ℤ) (k : ClosingStream) (r : Step ClosingStream (Unit {0})) where
    -- its killCursors was polled
    last_ran : (sending : Sending) (came : Step Sending (List ℕ)) → fields sending.command ≡ kill_left k → sending.retries ≡ false → Runs old new log log' wire sending came → Moved log log' (at_ids k.cursor.id k.opened) (at_ids k.cursor.id k.opened)
    last_ran sending came command_is single runs =
        let once = runs_once old new log log' wire sending came single runs in
        own_tried old new log log' (at_ids k.cursor.id k.opened) sending.command sending.stage once.attempt
        (kill_own (at_ids k.cursor.id k.opened) sending.command (ids_left k) (asks_to_kill_plainly sending.command k.cursor.space (ids_left k) command_is)
        (λ x of. left_by (int_eq k.cursor.id (pos 0)) (int_eq k.opened (pos 0)) k.cursor.id k.opened x refl refl of))
        once.tries

    last_heard : (came : Step Sending (List ℕ)) → HearsKill k came r → Moved log log' (at_ids k.cursor.id k.opened) (at_ids k.cursor.id k.opened) → Moved log log' (at_ids k.cursor.id k.opened) (closed_to new r)
    last_heard (step.Pending waiting) h m = subst (λ (x : Step ClosingStream (Unit {0})). Moved log log' (at_ids k.cursor.id k.opened) (closed_to new x)) (sym h) m
    last_heard (step.Done bytes) h m =
        subst (λ (x : Step ClosingStream (Unit {0})). Moved log log' (at_ids k.cursor.id k.opened) (closed_to new x)) (sym h) (all_dropped log log' (at_ids k.cursor.id k.opened) k.cursor.id k.opened m)
    last_heard (step.Failed e) h m =
        subst (λ (x : Step ClosingStream (Unit {0})). Moved log log' (at_ids k.cursor.id k.opened) (closed_to new x)) (sym h) (all_dropped log log' (at_ids k.cursor.id k.opened) k.cursor.id k.opened m)

    kill_moved : (sending : Sending) → fields sending.command ≡ kill_left k → sending.retries ≡ false → RunsKill old new log log' wire k sending r → Moved log log' (at_ids k.cursor.id k.opened) (closed_to new r)
    kill_moved sending command_is single h = last_heard h.came h.hears (last_ran sending h.came command_is single h.runs)

    -- nothing was sent
    quiet_moved : (x : Step ClosingStream (Unit {0})) → SendsNothing old new log log' → r ≡ x → closed_to new x ≡ at_ids (pos 0) (pos 0) → Moved log log' (at_ids k.cursor.id k.opened) (closed_to new r)
    quiet_moved x nothing answer is =
        subst (λ (y : Step ClosingStream (Unit {0})). Moved log log' (at_ids k.cursor.id k.opened) (closed_to new y)) (sym answer)
        (up_to log log' (at_ids k.cursor.id k.opened) (at_ids (pos 0) (pos 0)) (closed_to new x) (sym is)
        (all_dropped log log' (at_ids k.cursor.id k.opened) k.cursor.id k.opened (stayed log log' (at_ids k.cursor.id k.opened) nothing.log_same)))

    -- what is left is killed
    pub left_moved : KillsLeft old new log log' wire k r → Moved log log' (at_ids k.cursor.id k.opened) (closed_to new r)
    left_moved (nothing_left none nothing answer) = quiet_moved (step.Done tt) nothing answer refl
    left_moved (not_built some e fails nothing answer) = quiet_moved (step.Failed e) nothing answer refl
    left_moved (kills_all some sending new_one h) = kill_moved sending new_one.command_is new_one.single h

    passed_moved : (e : Error) → PassesOver old new log log' wire k e r → Moved log log' (at_ids k.cursor.id k.opened) (closed_to new r)
    passed_moved e (inl memory) = quiet_moved (step.Failed e) memory.1 memory.2 refl
    passed_moved e (inr other) = left_moved other.1

  -- behind what was on its way
  then_left : (old mid new : Awaited) (log between log' : LogTold) (wire : ℤ) (k : ClosingStream) (r : Step ClosingStream (Unit {0})) (g : Follow) → Moved log between g (at_ids k.cursor.id k.opened) → KillsLeft mid new between log' wire k r → Moved log log' g (closed_to new r)
  then_left old mid new log between log' wire k r g m h = moved log between log' g (at_ids k.cursor.id k.opened) (closed_to new r) m (left_moved mid new between log' wire k r h)

  then_passed : (old mid new : Awaited) (log between log' : LogTold) (wire : ℤ) (k : ClosingStream) (r : Step ClosingStream (Unit {0})) (g : Follow) (e : Error) → Moved log between g (at_ids k.cursor.id k.opened) → PassesOver mid new between log' wire k e r → Moved log log' g (closed_to new r)
  then_passed old mid new log between log' wire k r g e m h = moved log between log' g (at_ids k.cursor.id k.opened) (closed_to new r) m (passed_moved mid new between log' wire k r e h)

  -- it pends still, and nothing was sent behind that
  then_waits : (mid new : Awaited) (log between log' : LogTold) (f g h : Follow) → SendsNothing mid new between log' → f ≡ h → Moved log between g f → Moved log log' g h
  then_waits mid new log between log' f g h nothing is m = moved log between log' g f h m (up_to between log' f f h is (stayed between log' f nothing.log_same))

  -- ---- the getMore of its cursor

  more_landed : (old mid new : Awaited) (log between log' : LogTold) (wire : ℤ) (k : ClosingStream) (r : Step ClosingStream (Unit {0})) (sending : Sending) → k.doing ≡ lands → IsLanding k → IsAsking false k.cursor sending → (came : Step Sending (List ℕ)) (left : ClientCursor) (poll : NextPoll) → Runs old mid log between wire sending came → Hears k.cursor came left poll
      → BehindMore mid new between log' wire (record k { cursor = left }) poll r → Moved log log' (at_stage (record (at_ids k.cursor.id k.opened) { doing = resting }) (asks_at (at_ids k.cursor.id k.opened)) old sending.stage) (closed_to new r)
  more_landed old mid new log between log' wire k r sending at landing is came left poll runs hears behind = by_came came hears polled
    where
      polled : MoreCame (at_ids k.cursor.id k.opened) mid log between (at_stage (record (at_ids k.cursor.id k.opened) { doing = resting }) (asks_at (at_ids k.cursor.id k.opened)) old sending.stage) came
      polled =
          more_polled (at_ids k.cursor.id k.opened) old mid log between wire sending k.cursor.space came is.may.held
          (asks_for_more sending.command k.cursor.id k.cursor.space k.cursor.manner.size k.cursor.manner.wait k.cursor.manner.comment is.session landing.named is.waits_on.command_is) is.waits_on.single runs

      as_polled : (p : NextPoll) → poll ≡ p → BehindMore mid new between log' wire (record k { cursor = left }) p r
      as_polled p answer = subst (λ (x : NextPoll). BehindMore mid new between log' wire (record k { cursor = left }) x r) answer behind

      by_read : (bytes : List ℕ) → ReadsReply k.cursor bytes left poll → MoreCame (at_ids k.cursor.id k.opened) mid log between (at_stage (record (at_ids k.cursor.id k.opened) { doing = resting }) (asks_at (at_ids k.cursor.id k.opened)) old sending.stage) (step.Done bytes)
          → Moved log log' (at_stage (record (at_ids k.cursor.id k.opened) { doing = resting }) (asks_at (at_ids k.cursor.id k.opened)) old sending.stage) (closed_to new r)
      by_read bytes (gave said says left_is answer) m =
          let f = at_ids k.cursor.id k.opened in
          let g = at_stage (record f { doing = resting }) (asks_at f) old sending.stage in
          let h = given_with f (batch_as said (unwrap_or (documents_in said.batch) [])) in
          then_left old mid new log between log' wire (record k { cursor = behind_reply said k.cursor }) r g
          (moved log between between g h (at_ids said.id k.opened) (more_taken f log between g bytes said m.1 says m.0) (lets_down between h said.id k.opened tt (only_first h said.id k.opened refl landing.alone)))
          (subst (λ (c : ClientCursor). KillsLeft mid new between log' wire (record k { cursor = c }) r) left_is (as_polled (next.Batch bytes) answer))
      by_read bytes (broke e by left_is answer) m =
          let f = at_ids k.cursor.id k.opened in
          then_passed old mid new log between log' wire (record k { cursor = at_rest k.cursor }) r (at_stage (record f { doing = resting }) (asks_at f) old sending.stage) e m.0.lost
          (subst (λ (c : ClientCursor). PassesOver mid new between log' wire (record k { cursor = c }) e r) left_is (as_polled (next.Failed e) answer))

      by_came : (x : Step Sending (List ℕ)) → Hears k.cursor x left poll → MoreCame (at_ids k.cursor.id k.opened) mid log between (at_stage (record (at_ids k.cursor.id k.opened) { doing = resting }) (asks_at (at_ids k.cursor.id k.opened)) old sending.stage) x
          → Moved log log' (at_stage (record (at_ids k.cursor.id k.opened) { doing = resting }) (asks_at (at_ids k.cursor.id k.opened)) old sending.stage) (closed_to new r)
      by_came (step.Pending waiting) heard m =
          let f = at_ids k.cursor.id k.opened in
          let g = at_stage (record f { doing = resting }) (asks_at f) old sending.stage in
          let c : ClientCursor = record k.cursor { doing = asks waiting } in
          let pends = as_polled next.Pending heard.1 in
          subst (λ (x : Step ClosingStream (Unit {0})). Moved log log' g (closed_to new x)) (sym pends.1)
          (subst (λ (x : ClientCursor). Moved log log' g (closed_to new (step.Pending (record k { cursor = x })))) (sym heard.0)
          (then_waits mid new log between log' (at_stage (record f { doing = resting }) (asks_at f) mid waiting.stage) g (closing_by new k.doing c f) pends.0
          (at_same mid new pends.0.rest (record f { doing = resting }) (asks_at f) waiting.stage ∙ sym (ap (λ (d : Landing). closing_by new d c f) at)) m))
      by_came (step.Done bytes) heard m = by_read bytes heard m
      by_came (step.Failed e) heard m =
          let f = at_ids k.cursor.id k.opened in
          let g = at_stage (record f { doing = resting }) (asks_at f) old sending.stage in
          let c = behind_failure e k.cursor in
          then_passed old mid new log between log' wire (record k { cursor = c }) r g e
          (moved log between between g f (at_ids c.id k.opened) m.lost (lets_down between f c.id k.opened tt (perhaps_ended f c.id (left_id e.kind k.cursor))))
          (subst (λ (x : ClientCursor). PassesOver mid new between log' wire (record k { cursor = x }) e r) heard.0 (as_polled (next.Failed e) heard.1))

  -- ---- the aggregate of a resumption

  aggregate_landed : (old mid new : Awaited) (log between log' : LogTold) (wire : ℤ) (k : ClosingStream) (r : Step ClosingStream (Unit {0})) (sending : Sending) → ResumesWatch w start token sending → (came : Step Sending (List ℕ)) → Runs old mid log between wire sending came → BehindAggregate mid new between log' wire k came r
      → Moved log log' (at_stage (at_ids k.cursor.id k.opened) (λ place. record (at_ids k.cursor.id k.opened) { doing = resuming place }) old sending.stage) (closed_to new r)
  aggregate_landed old mid new log between log' wire k r sending is came runs behind = by_came came behind polled
    where
      polled : ResumeCame (at_ids k.cursor.id k.opened) mid log between (at_stage (at_ids k.cursor.id k.opened) (λ place. record (at_ids k.cursor.id k.opened) { doing = resuming place }) old sending.stage) came
      polled =
          let again = asks_again is.aggregate sending w start is.saved is.asks (record { wire = is.wire; session = is.session; command_is = is.command_is }) in
          resume_polled (at_ids k.cursor.id k.opened) again.begin old mid log between wire sending (subst (λ (t : Option Tree). ResumesAt start t again.begin) is.token_is again.resumes_at) again.asks_so came runs

      by_opening : (bytes : List ℕ) → BehindOpening mid new between log' wire k bytes r → ResumeCame (at_ids k.cursor.id k.opened) mid log between (at_stage (at_ids k.cursor.id k.opened) (λ place. record (at_ids k.cursor.id k.opened) { doing = resuming place }) old sending.stage) (step.Done bytes)
          → Moved log log' (at_stage (at_ids k.cursor.id k.opened) (λ place. record (at_ids k.cursor.id k.opened) { doing = resuming place }) old sending.stage) (closed_to new r)
      by_opening bytes (opened_one said says killing) m =
          let f = at_ids k.cursor.id k.opened in
          let g = at_stage f (λ place. record f { doing = resuming place }) old sending.stage in
          let h = resumed_with f (batch_as said (unwrap_or (documents_in said.batch) [])) in
          then_left old mid new log between log' wire (record k { opened = said.id; doing = lands }) r g
          (moved log between between g h (at_ids k.cursor.id said.id) (resume_taken f log between g bytes said m.1 says m.0) (lets_down between h k.cursor.id said.id tt (turned_round h k.cursor.id said.id refl refl))) killing
      by_opening bytes (opened_none e by passes) m =
          let f = at_ids k.cursor.id k.opened in
          then_passed old mid new log between log' wire (record k { doing = lands }) r (at_stage f (λ place. record f { doing = resuming place }) old sending.stage) e m.0.lost passes

      by_came : (x : Step Sending (List ℕ)) → BehindAggregate mid new between log' wire k x r → ResumeCame (at_ids k.cursor.id k.opened) mid log between (at_stage (at_ids k.cursor.id k.opened) (λ place. record (at_ids k.cursor.id k.opened) { doing = resuming place }) old sending.stage) x
          → Moved log log' (at_stage (at_ids k.cursor.id k.opened) (λ place. record (at_ids k.cursor.id k.opened) { doing = resuming place }) old sending.stage) (closed_to new r)
      by_came (step.Pending waiting) h m =
          let f = at_ids k.cursor.id k.opened in
          let g = at_stage f (λ place. record f { doing = resuming place }) old sending.stage in
          subst (λ (x : Step ClosingStream (Unit {0})). Moved log log' g (closed_to new x)) (sym h.1)
          (then_waits mid new log between log' (at_stage f (λ place. record f { doing = resuming place }) mid waiting.stage) g (at_stage f (λ place. record f { doing = resuming place }) new waiting.stage) h.0
          (at_same mid new h.0.rest f (λ place. record f { doing = resuming place }) waiting.stage) m)
      by_came (step.Done bytes) h m = by_opening bytes h m
      by_came (step.Failed e) h m =
          let f = at_ids k.cursor.id k.opened in
          then_passed old mid new log between log' wire (record k { doing = lands }) r (at_stage f (λ place. record f { doing = resuming place }) old sending.stage) e m h

  -- ---- the closing of the cursor before

  older_tried : (old new : Awaited) (log log' : LogTold) (cursor older id : ℤ) (command : List ℕ) (stage : Stage) (attempt : Attempt) → older ≡ pos 0 → id ≢ pos 0 → asked command ≡ asks_kill (id ∷ []) → Tries old new log log' command stage attempt
      → Moved log log' (at_stage (at_ids cursor id) (λ place. at_ids cursor older) old stage) (at_ids cursor older)
  older_tried old new log log' cursor older id command unsent attempt alone there asks_so t =
      moved log log' log' (at_ids cursor id) (at_ids cursor id) (at_ids cursor older)
      (own_tried old new log log' (at_ids cursor id) command unsent attempt
      (kill_own (at_ids cursor id) command (id ∷ []) asks_so (λ x of. elim of [ inl e ↦ (inr (inl e), λ z. there (e ∙ z)) | inr none ↦ absurd none ])) t)
      (lets_down log' (at_ids cursor id) cursor older tt (only_first (at_ids cursor id) cursor older refl alone))
  older_tried old new log log' cursor older id command (first ticket) attempt alone there asks_so t = close_gone_on old new log log' (at_ids cursor older) ticket attempt t
  older_tried old new log log' cursor older id command (second ticket) attempt alone there asks_so t = close_gone_on old new log log' (at_ids cursor older) ticket attempt t

  module _ (old new : Awaited) (log log' : LogTold) (wire : ℤ) (cursor older : ℤ) (alone : older ≡ pos 0) where
    older_heard : (c : ClientCursor) (sending : Sending) (came : Step Sending (List ℕ)) (r : Step ClosingCursor (Unit {0})) → Runs old new log log' wire sending came → KillHears c came r → Moved log log' (at_stage (at_ids cursor c.id) (λ place. at_ids cursor older) old sending.stage) (at_ids cursor older)
        → ClosesTo new log log' (at_stage (at_ids cursor c.id) (λ place. at_ids cursor older) old sending.stage) (at_ids cursor older) r
    older_heard c sending (step.Pending waiting) r runs h m =
        let g = at_stage (at_ids cursor c.id) (λ place. at_ids cursor older) old sending.stage in
        subst (ClosesTo new log log' g (at_ids cursor older)) (sym h)
        (up_to log log' g (at_ids cursor older) (at_stage (at_ids cursor c.id) (λ place. at_ids cursor older) new waiting.stage)
        (at_waiting (at_ids cursor c.id) (λ place. at_ids cursor older) new waiting (waits_still old new log log' wire sending waiting runs)) m)
    older_heard c sending (step.Done bytes) r runs h m = subst (ClosesTo new log log' (at_stage (at_ids cursor c.id) (λ place. at_ids cursor older) old sending.stage) (at_ids cursor older)) (sym h) m
    older_heard c sending (step.Failed e) r runs h m = subst (ClosesTo new log log' (at_stage (at_ids cursor c.id) (λ place. at_ids cursor older) old sending.stage) (at_ids cursor older)) (sym h) m

    older_run : (c : ClientCursor) (sending : Sending) (came : Step Sending (List ℕ)) (r : Step ClosingCursor (Unit {0})) → fields sending.command ≡ kill c → sending.retries ≡ false → c.id ≢ pos 0 → Runs old new log log' wire sending came → KillHears c came r
        → ClosesTo new log log' (at_stage (at_ids cursor c.id) (λ place. at_ids cursor older) old sending.stage) (at_ids cursor older) r
    older_run c sending came r command_is single there runs h =
        let once = runs_once old new log log' wire sending came single runs in
        older_heard c sending came r runs h
        (older_tried old new log log' cursor older c.id sending.command sending.stage once.attempt alone there (asks_to_kill_plainly sending.command c.space (c.id ∷ []) command_is) once.tries)

    older_quiet : (c : ClientCursor) (r x : Step ClosingCursor (Unit {0})) → SendsNothing old new log log' → r ≡ x → (Moved log log' (at_ids cursor c.id) (at_ids cursor older) → ClosesTo new log log' (at_ids cursor c.id) (at_ids cursor older) x) → ClosesTo new log log' (at_ids cursor c.id) (at_ids cursor older) r
    older_quiet c r x nothing answer as_closed =
        subst (ClosesTo new log log' (at_ids cursor c.id) (at_ids cursor older)) (sym answer)
        (as_closed
        (moved log log' log' (at_ids cursor c.id) (at_ids cursor c.id) (at_ids cursor older) (stayed log log' (at_ids cursor c.id) nothing.log_same)
        (lets_down log' (at_ids cursor c.id) cursor older tt (only_first (at_ids cursor c.id) cursor older refl alone))))

    older_kills : (c : ClientCursor) (r : Step ClosingCursor (Unit {0})) → KillsCursor old new log log' wire c r → ClosesTo new log log' (at_ids cursor c.id) (at_ids cursor older) r
    older_kills c r (kill_not_needed over nothing answer) = older_quiet c r (step.Done tt) nothing answer (λ m. m)
    older_kills c r (kill_not_built may e fails nothing answer) = older_quiet c r (step.Failed e) nothing answer (λ m. m)
    older_kills c r (kills_it may sending new_one h) =
        subst (λ (g : Follow). ClosesTo new log log' g (at_ids cursor older) r) (ap (λ (stage : Stage). at_stage (at_ids cursor c.id) (λ place. at_ids cursor older) old stage) new_one.new)
        (older_run c sending h.came r new_one.command_is new_one.single may.held h.runs h.hears)

    older_polled : (before : ClosingCursor) (r : Step ClosingCursor (Unit {0})) → IsClosing before → IsLanded before → ClosingPolls old new log log' wire before r → ClosesTo new log log' (with_older old before (at_ids cursor older)) (at_ids cursor older) r
    older_polled before r closing landed (kill_lands idle_so sending at h) =
        absurd (subst IsNotAsking at (subst (λ (o : Option Sending). LandedBy o before.cursor.doing) idle_so landed))
    older_polled before r closing landed (kill_begins idle_so quiet h) =
        subst (λ (o : Option Sending). ClosesTo new log log' (older_by old before.cursor o (at_ids cursor older)) (at_ids cursor older) r) (sym idle_so) (older_kills (at_rest before.cursor) r h)
    older_polled before r closing landed (kill_goes_on sending at h) =
        let on : IsKilling before.cursor sending = subst (ClosesBy before.cursor) at closing in
        subst (λ (o : Option Sending). ClosesTo new log log' (older_by old before.cursor o (at_ids cursor older)) (at_ids cursor older) r) (sym at)
        (older_run before.cursor sending h.came r on.waits_on.command_is on.waits_on.single on.may.held h.runs h.hears)

  closing_landed : (old mid new : Awaited) (log between log' : LogTold) (wire : ℤ) (k : ClosingStream) (r : Step ClosingStream (Unit {0})) (g : Follow) (came : Step ClosingCursor (Unit {0})) → ClosesTo mid log between g (at_ids k.cursor.id k.opened) came → BehindReplaced mid new between log' wire k came r → Moved log log' g (closed_to new r)
  closing_landed old mid new log between log' wire k r g (step.Pending before) m h =
      subst (λ (x : Step ClosingStream (Unit {0})). Moved log log' g (closed_to new x)) (sym h.1)
      (then_waits mid new log between log' (with_older mid before (at_ids k.cursor.id k.opened)) g (with_older new before (at_ids k.cursor.id k.opened)) h.0 (older_same mid new h.0.rest before.cursor before.killing (at_ids k.cursor.id k.opened)) m)
  closing_landed old mid new log between log' wire k r g (step.Done t) m h = then_left old mid new log between log' wire (record k { doing = lands }) r g m h
  closing_landed old mid new log between log' wire k r g (step.Failed e) m h = then_passed old mid new log between log' wire (record k { doing = lands }) r g e m h

  -- ---- a poll

  landing_quiet : (awaited : Awaited) (d : cursors.Doing) (f : Follow) → IsNotAsking d → with_landing awaited d f ≡ f
  landing_quiet awaited rests f quiet = refl
  landing_quiet awaited (holds reply) f quiet = refl
  landing_quiet awaited (asks sending) f quiet = absurd quiet

  module _ (old new : Awaited) (log log' : LogTold) (wire : ℤ) (k : ClosingStream) (r : Step ClosingStream (Unit {0})) (sound : IsSoundClosing k) (is_for : LandsFor w start token k) where
    -- what is on its way as it begins
    as_landing : (d : Landing) → k.doing ≡ d → (g : Follow) → closing_by old d k.cursor (at_ids k.cursor.id k.opened) ≡ g → Moved log log' g (closed_to new r) → Moved log log' (follow_closing old w start token k opened answered) (closed_to new r)
    as_landing d at g is m = subst (λ (f : Follow). Moved log log' f (closed_to new r)) (sym (ap (λ (x : Landing). closing_by old x k.cursor (at_ids k.cursor.id k.opened)) at ∙ is)) m

    pub closes_moved : ClosesStream old new log log' wire k r → Moved log log' (follow_closing old w start token k opened answered) (follow_closed new w start token opened answered r)
    closes_moved (begins at quiet h) =
        as_landing lands at (at_ids k.cursor.id k.opened) (landing_quiet old k.cursor.doing (at_ids k.cursor.id k.opened) quiet) (left_moved old new log log' wire (record k { cursor = at_rest k.cursor }) r h)
    closes_moved (lands_more at sending asks_so b came left poll runs hears behind) =
        let f = at_ids k.cursor.id k.opened in
        let landing : IsLanding k = subst (LandsSoundly k) at sound in
        as_landing lands at (at_stage (record f { doing = resting }) (asks_at f) old sending.stage) (ap (λ (d : cursors.Doing). with_landing old d f) asks_so)
        (more_landed old b.awaited new log b.log log' wire k r sending at landing (subst (cursors.SoundBy false k.cursor) asks_so landing.asks_its_own) came left poll runs hears behind)
    closes_moved (lands_opening sending at b came runs behind) =
        let f = at_ids k.cursor.id k.opened in
        as_landing (lands_aggregate sending) at (at_stage f (λ place. record f { doing = resuming place }) old sending.stage) refl
        (aggregate_landed old b.awaited new log b.log log' wire k r sending (subst (LandsForBy w start token) at is_for) came runs behind)
    closes_moved (lands_closing before at b came polls behind) =
        let f = at_ids k.cursor.id k.opened in
        let parts = subst (LandsSoundly k) at sound in
        as_landing (lands_replaced before) at (with_older old before f) refl
        (closing_landed old b.awaited new log b.log log' wire k r (with_older old before f) came (older_polled old b.awaited log b.log wire k.cursor.id k.opened parts.3 before came parts.1 parts.2 polls) behind)
    closes_moved (goes_on sending at h) =
        let parts = subst (LandsSoundly k) at sound in
        as_landing (ends sending) at (at_ids k.cursor.id k.opened) refl (kill_moved old new log log' wire k r sending parts.1.command_is parts.1.single h)

-- ---- whose it is

module _ (w : Watch) (start : Start) (token : Option Tree) where
  for_as : (r x : Step ClosingStream (Unit {0})) → r ≡ x → OnPending x (LandsFor w start token) → OnPending r (LandsFor w start token)
  for_as r x is h = subst (λ (y : Step ClosingStream (Unit {0})). OnPending y (LandsFor w start token)) (sym is) h

  heard_for : (k : ClosingStream) (came : Step Sending (List ℕ)) (r : Step ClosingStream (Unit {0})) → HearsKill k came r → OnPending r (LandsFor w start token)
  heard_for k (step.Pending waiting) r h = for_as r (step.Pending (record k { doing = ends waiting })) h tt
  heard_for k (step.Done bytes) r h = for_as r (step.Done tt) h tt
  heard_for k (step.Failed e) r h = for_as r (step.Failed e) h tt

  left_for : (old new : Awaited) (log log' : LogTold) (wire : ℤ) (k : ClosingStream) (r : Step ClosingStream (Unit {0})) → KillsLeft old new log log' wire k r → OnPending r (LandsFor w start token)
  left_for old new log log' wire k r (nothing_left none nothing answer) = for_as r (step.Done tt) answer tt
  left_for old new log log' wire k r (not_built some e fails nothing answer) = for_as r (step.Failed e) answer tt
  left_for old new log log' wire k r (kills_all some sending new_one h) = heard_for k h.came r h.hears

  passed_for : (old new : Awaited) (log log' : LogTold) (wire : ℤ) (k : ClosingStream) (e : Error) (r : Step ClosingStream (Unit {0})) → PassesOver old new log log' wire k e r → OnPending r (LandsFor w start token)
  passed_for old new log log' wire k e r (inl memory) = for_as r (step.Failed e) memory.2 tt
  passed_for old new log log' wire k e r (inr other) = left_for old new log log' wire k r other.1

  more_for : (old new : Awaited) (log log' : LogTold) (wire : ℤ) (k : ClosingStream) (poll : NextPoll) (r : Step ClosingStream (Unit {0})) → k.doing ≡ lands → BehindMore old new log log' wire k poll r → OnPending r (LandsFor w start token)
  more_for old new log log' wire k next.Pending r at h = for_as r (step.Pending k) h.1 (subst (LandsForBy w start token) (sym at) tt)
  more_for old new log log' wire k (next.Batch bytes) r at h = left_for old new log log' wire k r h
  more_for old new log log' wire k next.End r at h = absurd h
  more_for old new log log' wire k (next.Failed e) r at h = passed_for old new log log' wire k e r h

  opening_for : (old new : Awaited) (log log' : LogTold) (wire : ℤ) (k : ClosingStream) (bytes : List ℕ) (r : Step ClosingStream (Unit {0})) → BehindOpening old new log log' wire k bytes r → OnPending r (LandsFor w start token)
  opening_for old new log log' wire k bytes r (opened_one said says killing) = left_for old new log log' wire (record k { opened = said.id; doing = lands }) r killing
  opening_for old new log log' wire k bytes r (opened_none e by passes) = passed_for old new log log' wire (record k { doing = lands }) e r passes

  -- the aggregate that waits still is the same one
  still_for : (sending waiting : Sending) → waiting.command ≡ sending.command → ResumesWatch w start token sending → ResumesWatch w start token waiting
  still_for sending waiting same h = record { aggregate = h.aggregate; asks = h.asks; saved = h.saved; token_is = h.token_is; wire = h.wire; session = h.session; command_is = ap fields same ∙ h.command_is }

  aggregate_for : (old mid new : Awaited) (log between log' : LogTold) (wire : ℤ) (k : ClosingStream) (sending : Sending) (came : Step Sending (List ℕ)) (r : Step ClosingStream (Unit {0})) → ResumesWatch w start token sending → Runs old mid log between wire sending came → BehindAggregate mid new between log' wire k came r → OnPending r (LandsFor w start token)
  aggregate_for old mid new log between log' wire k sending (step.Pending waiting) r is runs h =
      for_as r (step.Pending (record k { doing = lands_aggregate waiting })) h.1 (still_for sending waiting (still_waits old mid log between wire sending waiting runs).same_command is)
  aggregate_for old mid new log between log' wire k sending (step.Done bytes) r is runs h = opening_for mid new between log' wire k bytes r h
  aggregate_for old mid new log between log' wire k sending (step.Failed e) r is runs h = passed_for mid new between log' wire (record k { doing = lands }) e r h

  older_for : (old new : Awaited) (log log' : LogTold) (wire : ℤ) (k : ClosingStream) (came : Step ClosingCursor (Unit {0})) (r : Step ClosingStream (Unit {0})) → BehindReplaced old new log log' wire k came r → OnPending r (LandsFor w start token)
  older_for old new log log' wire k (step.Pending before) r h = for_as r (step.Pending (record k { doing = lands_replaced before })) h.1 tt
  older_for old new log log' wire k (step.Done t) r h = left_for old new log log' wire (record k { doing = lands }) r h
  older_for old new log log' wire k (step.Failed e) r h = passed_for old new log log' wire (record k { doing = lands }) e r h

  -- what is on its way is of the same stream still
  pub closes_for : (old new : Awaited) (log log' : LogTold) (wire : ℤ) (k : ClosingStream) (r : Step ClosingStream (Unit {0})) → LandsFor w start token k → ClosesStream old new log log' wire k r → OnPending r (LandsFor w start token)
  closes_for old new log log' wire k r is (begins at quiet h) = left_for old new log log' wire (record k { cursor = at_rest k.cursor }) r h
  closes_for old new log log' wire k r is (lands_more at sending asks_so b came left poll runs hears behind) = more_for b.awaited new b.log log' wire (record k { cursor = left }) poll r at behind
  closes_for old new log log' wire k r is (lands_opening sending at b came runs behind) = aggregate_for old b.awaited new log b.log log' wire k sending came r (subst (LandsForBy w start token) at is) runs behind
  closes_for old new log log' wire k r is (lands_closing before at b came polls behind) = older_for b.awaited new b.log log' wire k came r behind
  closes_for old new log log' wire k r is (goes_on sending at h) = heard_for k h.came r h.hears
