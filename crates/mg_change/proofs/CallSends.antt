-- What a poll of a call sends, exactly.
use Rattle.std.proofs.Common.{◌≡◌, ◌≢◌, ◌≤◌, ◌-◌, ◌++◌, ℕ, zero, suc, ℤ, pos, Bool, true, false, List, [], length, Option, Some, None, refl, sym, ap, ◌∙◌, subst, inl, inr, arith, append-nil, append_assoc}
use Rattle.mg_bson.specs.Tree.{Fields}
use Rattle.mg_bson.specs.Raw.{fields}
use Rattle.mg_server.specs.Calls.{Keeps, past_of}
use Rattle.mg_link.specs.Exec.{Runs, Sending, Stage}
use Rattle.mg_link.specs.Link.{Awaited, LogTold, SendsNothing}
use Rattle.mg_link.specs.Log.{Call}
use Rattle.mg_link.specs.Session.{Session}
use Rattle.mg_link.specs.declared.action.Step.{Step}
use Rattle.mg_link.specs.declared.action.Step.TheVariants as step
use Rattle.mg_link.specs.declared.error.Error.{Error}
use Rattle.mg_exec.proofs.Execs.{runs_of}
use Rattle.mg_server.proofs.Calls.{keeps_longer}
use Rattle.mg_server.proofs.Owners.{same_some}
use Rattle.mg_cursor.specs.Client.{ClientCursor, IsAsking, MayAsk, asks, at_rest, get_more, holds, kill, rests}
use Rattle.mg_cursor.specs.Client as cursors
use Rattle.mg_cursor.specs.Closing.{ClosesBy, ClosingCursor, ClosingPolls, IsClosing, IsKilling, IsLanded, IsNotAsking, KillHears, KillsCursor, LandedBy, closed, killed_by}
use Rattle.mg_cursor.specs.Closing as closings
use Rattle.mg_cursor.specs.Polling.{Hears, ReadsReply}
use Rattle.mg_cursor.specs.Polling as polling
use Rattle.mg_cursor.specs.declared.polls.NextPoll.{NextPoll}
use Rattle.mg_cursor.specs.declared.polls.NextPoll.TheVariants as next
use Rattle.mg_cursor.specs.declared.polls.TryPoll.TheVariants as try
use Rattle.mg_cursor.specs.declared.results.AdvanceResult.TheVariants as result
use Rattle.mg_ops.specs.declared.aggregate.ChangeStreamAggregate.{ChangeStreamAggregate}
use Rattle.mg_change.specs.Causes.{ByCursor, ByDoing, IsReplaced, IsStart, MayAskMore, Resumed, Resumes, SoFar}
use Rattle.mg_change.specs.ClientStreams.{ClientStream, Doing, IsSound, SoundBy, follows, is_read_again, is_renewed, kills, lends_nothing, owes, renewed, resumes, resuming_in, with_cursor}
use Rattle.mg_change.specs.Steps.{AsksMore, DoesStep, DoesSteps, FailsMore, HearsClosing, HearsResumption, LooksAt, ReadsResumption, RunsResumption, TakesMore, replaced_by}
use Rattle.mg_change.specs.Steps as steps
use Rattle.mg_change.specs.StreamCalls.{CallCopies, CopiesBehind, event_ending, kept_behind}
use Rattle.mg_change.specs.declared.event_poll.EventPoll.{EventPoll}
use Rattle.mg_change.specs.declared.event_poll.EventPoll.TheVariants as poll
use Rattle.mg_change.specs.declared.event_poll.Stepped.{Stepped}
use Rattle.mg_change.specs.declared.event_poll.Stepped.TheVariants as stepped
use Rattle.mg_change.proofs.CallCauses.{lets_go, none_after}
use Rattle.mg_change.proofs.Causes.{StepCame, step_caused}
use Rattle.mg_change.proofs.Growing.{resumed_grows, resumes_grows}
use Rattle.mg_change.proofs.Keeping.{sound_any, sound_as, step_sound}
use Rattle.mg_change.specs.Calling.{AsksFar, CallSends, IsRequestAt, KillingFar, KillsFar, MoresAt, RequestFar, SentBy}
use Rattle.mg_change.specs.Calling.{places_from, sent_at, sent_since}
use Rattle.mg_change.proofs.Calling.{RequestCame, aggregates_later, aggregates_sends, mores_later, mores_sends, request_sent, resumed_later, sends_later, sent_any, why_later}
use Rattle.mg_change.proofs.Grown.{grows_ended}
use Rattle.mg_change.proofs.Grown.{since_none, since_on}

-- ---- behind a step

abbrev BehindStep : Awaited → List Call → ℤ → ClientStream → List ℕ → ClientStream → Stepped → Type 0
BehindStep awaited calls wire at own s stepped.Goes = SentBy awaited calls wire at own s.cursor s.doing
BehindStep awaited calls wire at own s stepped.Found = CallSends calls wire at own
BehindStep awaited calls wire at own s (stepped.Gives try.Pending) = SentBy awaited calls wire at own s.cursor s.doing
BehindStep awaited calls wire at own s (stepped.Gives (try.Ready x)) = CallSends calls wire at own
BehindStep awaited calls wire at own s (stepped.Gives (try.Failed e)) = CallSends calls wire at own

-- a reply that came does not pend
not_pending : (c : ClientCursor) (bytes : List ℕ) (c' : ClientCursor) → ReadsReply c bytes c' next.Pending → ⊥
not_pending c bytes c' (polling.gave said says is answer) = cc
not_pending c bytes c' (polling.broke e by is answer) = cc

-- a step of a call that had sent at these places, and from this one on, and so much of it
module _ (old new : Awaited) (log log' : LogTold) (wire : ℤ) (started : Bool) (at s s' : ClientStream) (r : Stepped) (sound : IsSound true s) (places : List ℕ) (since : ℕ) (calls calls' : List Call) (told : log ≡ Some calls) (told' : log' ≡ Some calls') (keeps : Keeps calls calls') (room : since ≤ length calls) (so_far : SoFar old (past_of places since calls wire) true at s) (goes : r ≡ stepped.Goes → SoFar new (past_of places since calls' wire) true at s') (sent : SentBy old calls wire at (sent_since places since (length calls)) s.cursor s.doing) where
  abbrev own : List ℕ
  own = sent_since places since (length calls)

  -- with what the step sent
  abbrev own' : List ℕ
  own' = sent_since own (length calls) (length calls')

  abbrev added : List ℕ
  added = places_from (length calls) (length calls' - length calls)

  abbrev aggregate_of : Fields
  aggregate_of = resuming_in at.aggregate wire None

  abbrev Behind : ClientStream → Stepped → Type 0
  Behind = BehindStep new calls' wire at own'

  step_as : (t : ClientStream) (x : Stepped) → s' ≡ t → r ≡ x → Behind t x → Behind s' r
  step_as t x is answer h = subst (λ (y : Stepped). Behind s' y) (sym answer) (subst (λ (y : ClientStream). Behind y x) (sym is) h)

  -- ---- nothing is sent

  same_own : log' ≡ log → own' ≡ own
  same_own is = let same : calls' ≡ calls = same_some calls' calls (sym told' ∙ is ∙ told) in ap (λ (l : List Call). sent_since own (length calls) (length l)) same ∙ since_none own (length calls)

  quiet : SendsNothing old new log log' → CallSends calls' wire at own'
  quiet none = subst (CallSends calls' wire at) (sym (same_own none.log_same)) (sends_later calls calls' wire keeps at own (sent_any old calls wire at own s.cursor s.doing sent))

  -- ---- a batch is looked at

  looked : (again : Bool) (c : ClientCursor) (bytes : List ℕ) → CallSends calls' wire at own' → (again ≡ false → MoresAt calls' at own') → LooksAt again s c bytes s' r → Behind s' r
  looked again c bytes sends mores (steps.some event events there is answer) = step_as _ stepped.Found is answer sends
  looked again c bytes sends mores (steps.none there is answer) = step_as _ (stepped.Gives (try.Ready result.Waiting)) is answer sends
  looked true c bytes sends mores (steps.broken e breaks is answer) = step_as _ (stepped.Gives (try.Failed e)) is answer sends
  looked false c bytes sends mores (steps.broken e breaks is answer) = step_as _ stepped.Goes is answer (mores refl)

  -- ---- its getMore

  more_failed : (c : ClientCursor) (e : Error) → MoresAt calls' at own' → FailsMore s c e s' r → Behind s' r
  more_failed c e mores (steps.goes_on so is answer) = step_as _ stepped.Goes is answer mores
  more_failed c e mores (steps.no_memory full is answer) = step_as _ (stepped.Gives (try.Failed e)) is answer (mores_sends new calls' wire at own' mores)
  more_failed c e mores (steps.final not full is answer) = step_as _ (stepped.Gives (try.Failed e)) is answer (mores_sends new calls' wire at own' mores)

  more_polled : s.doing ≡ follows → MayAskMore at → (sending : Sending) → fields sending.command ≡ get_more at.cursor None → sending.retries ≡ false → RequestFar old calls (get_more at.cursor None) false sending.stage own → AsksMore old new log log' wire started s sending s' r → Behind s' r
  more_polled on may sending is single far h = by_came h.runs.came (request_sent old new log log' wire sending (get_more at.cursor None) false h.runs.came is single (runs_of old new log log' wire sending h.runs.came started h.runs.runs) calls calls' told told' own far) h.left h.poll h.runs.hears h.takes
    where
      came_to : IsRequestAt calls' (get_more at.cursor None) false own' → MoresAt calls' at own'
      came_to request = inr (may, request)

      by_came : (x : Step Sending (List ℕ)) → RequestCame new calls' (get_more at.cursor None) false own' x → (c : ClientCursor) (p : NextPoll) → Hears s.cursor x c p → TakesMore s c p s' r → Behind s' r
      by_came (step.Pending later) came c p heard takes =
          let t : (s' ≡ with_cursor c s) × (r ≡ stepped.Gives try.Pending) = subst (λ (x : NextPoll). TakesMore s c x s' r) heard.1 takes in
          step_as (with_cursor c s) (stepped.Gives try.Pending) t.0 t.1
          (subst (λ (d : Doing). SentBy new calls' wire at own' c d) (sym on) (subst (λ (x : ClientCursor). AsksFar new calls' at own' x.doing) (sym heard.0) (may, came)))
      by_came (step.Done bytes) came c next.Pending heard takes = absurd (not_pending s.cursor bytes c heard)
      by_came (step.Done bytes) came c (next.Batch said) heard takes = looked false c said (mores_sends new calls' wire at own' (came_to came)) (λ not. came_to came) takes
      by_came (step.Done bytes) came c next.End heard takes = absurd takes
      by_came (step.Done bytes) came c (next.Failed e) heard takes = more_failed c e (came_to came) takes
      by_came (step.Failed e) came c p heard takes = more_failed c e (came_to came) (subst (λ (x : NextPoll). TakesMore s c x s' r) heard.1 takes)

  -- ---- the aggregate that resumes the stream

  module _ (more again : List ℕ) (whole : own ≡ more ++ again) (asks_so : MoresAt calls at more) (left : ClientCursor) (why : Resumes (sent_at more calls wire) at left) where
    abbrev again' : List ℕ
    again' = sent_since again (length calls) (length calls')

    whole' : own' ≡ more ++ again'
    whole' = ap (λ (l : List ℕ). l ++ added) whole ∙ append_assoc more again added

    mores' : MoresAt calls' at more
    mores' = mores_later calls calls' wire keeps at more asks_so

    why' : Resumes (sent_at more calls' wire) at left
    why' = why_later calls calls' wire keeps at more left why

    resumption_polled : (sending : Sending) → fields sending.command ≡ aggregate_of → sending.retries ≡ true → RequestFar old calls aggregate_of true sending.stage again → RunsResumption old new log log' wire started s sending s' r → Behind s' r
    resumption_polled sending is repeats far h = by_came h.came (request_sent old new log log' wire sending aggregate_of true h.came is repeats (runs_of old new log log' wire sending h.came started h.runs) calls calls' told told' again far) h.hears
      where
        sends : IsRequestAt calls' aggregate_of true again' → CallSends calls' wire at own'
        sends request = aggregates_sends new calls' wire at own' more again' whole' mores' (inr (left, why', request))

        -- the cursor before is killed next
        replaces : IsRequestAt calls' aggregate_of true again' → (t : ClientStream) → s' ≡ t → t.doing ≡ kills (closed s.cursor) → r ≡ stepped.Goes → SentBy new calls' wire at own' t.cursor (kills (closed s.cursor))
        replaces request t is on answer =
            let so : SoFar new (past_of places since calls' wire) true at t = subst (λ (x : ClientStream). SoFar new (past_of places since calls' wire) true at x) is (goes answer) in
            let by : IsReplaced new (past_of places since calls' wire) true at t (closed s.cursor) = subst (λ (d : Doing). ByDoing new (past_of places since calls' wire) true at t d) on so.by in
            let all : sent_since places since (length calls') ≡ more ++ again' = sym (since_on places since (length calls) (length calls') room (keeps_longer calls calls' keeps)) ∙ whole' in
            record {
              more = more;
              again = again';
              killing = [];
              whole = whole' ∙ ap (λ (l : List ℕ). more ++ l) (sym (append-nil again'));
              asks = mores';
              resumes = inr (left, why', request);
              new = t.cursor;
              bytes = by.bytes;
              resumed = subst (λ (l : List ℕ). Resumed (sent_at l calls' wire) true at (at_rest s.cursor) by.bytes t.cursor) all
                  (resumed_grows (past_of places since calls' wire) (sent_at (sent_since places since (length calls')) calls' wire) (grows_ended places since calls' wire) true at (at_rest s.cursor) by.bytes t.cursor by.resumed);
              far = refl;
            }

        by_read : (bytes : List ℕ) → IsRequestAt calls' aggregate_of true again' → ReadsResumption s bytes s' r → Behind s' r
        by_read bytes request (steps.gave out opens at_so answer) = step_as (replaced_by out.0 s) stepped.Goes at_so answer (replaces request (replaced_by out.0 s) at_so refl answer)
        by_read bytes request (steps.broke e by at_so answer) = step_as _ (stepped.Gives (try.Failed e)) at_so answer (sends request)

        by_came : (x : Step Sending (List ℕ)) → RequestCame new calls' aggregate_of true again' x → HearsResumption s x s' r → Behind s' r
        by_came (step.Pending later) came heard =
            step_as (record s { doing = resumes later }) (stepped.Gives try.Pending) heard.0 heard.1
            (record { more = more; again = again'; whole = whole'; asks = mores'; left = left; why = why'; far = came })
        by_came (step.Done bytes) came heard = by_read bytes came heard
        by_came (step.Failed e) came heard = step_as _ (stepped.Gives (try.Failed e)) heard.0 heard.1 (sends came)

  -- ---- the killing of the cursor before

  module _ (before : ClosingCursor) (k : KillsFar old calls wire at before own) where
    abbrev killing' : List ℕ
    killing' = sent_since k.killing (length calls) (length calls')

    killed_whole : own' ≡ k.more ++ (k.again ++ killing')
    killed_whole = ap (λ (l : List ℕ). l ++ added) k.whole ∙ append_assoc k.more (k.again ++ k.killing) added ∙ ap (λ (l : List ℕ). k.more ++ l) (append_assoc k.again k.killing added)

    resumed' : Resumed (sent_at (k.more ++ k.again) calls' wire) true at (at_rest before.cursor) k.bytes k.new
    resumed' = resumed_later calls calls' wire keeps at (k.more ++ k.again) (at_rest before.cursor) k.bytes k.new k.resumed

    -- what its poll comes to
    abbrev KillingCame : Step ClosingCursor (Unit {0}) → Type 0
    KillingCame (step.Pending later) = KillsFar new calls' wire at later own'
    KillingCame (step.Done t) = CallSends calls' wire at own'
    KillingCame (step.Failed e) = CallSends calls' wire at own'

    killing_as : (x y : Step ClosingCursor (Unit {0})) → y ≡ x → KillingCame x → KillingCame y
    killing_as x y is h = subst KillingCame (sym is) h

    killing_sends : IsRequestAt calls' (kill before.cursor) false killing' → before.cursor.id ≢ pos 0 → CallSends calls' wire at own'
    killing_sends request held = record {
      more = k.more;
      again = k.again;
      killing = killing';
      whole = killed_whole;
      asks = mores_later calls calls' wire keeps at k.more k.asks;
      resumes = aggregates_later calls calls' wire keeps at k.more k.again k.resumes;
      kills = inr (record { old = at_rest before.cursor; there = held; new = k.new; bytes = k.bytes; resumed = resumed'; request = request });
    }

    -- of this cursor, which is the one before at rest or as it is
    killing_waits : (c : ClientCursor) (later : Sending) → at_rest c ≡ at_rest before.cursor → c.id ≢ pos 0 → RequestFar new calls' (kill c) false later.stage killing' → KillsFar new calls' wire at (killed_by c later) own'
    killing_waits c later same held far = record {
      more = k.more;
      again = k.again;
      killing = killing';
      whole = killed_whole;
      asks = mores_later calls calls' wire keeps at k.more k.asks;
      resumes = aggregates_later calls calls' wire keeps at k.more k.again k.resumes;
      new = k.new;
      bytes = k.bytes;
      resumed = subst (λ (x : ClientCursor). Resumed (sent_at (k.more ++ k.again) calls' wire) true at x k.bytes k.new) (sym same) resumed';
      far = (held, far);
    }

    kill_polled : (c : ClientCursor) → at_rest c ≡ at_rest before.cursor → kill c ≡ kill before.cursor → c.id ≢ pos 0 → before.cursor.id ≢ pos 0 → (sending : Sending) → fields sending.command ≡ kill c → sending.retries ≡ false → RequestFar old calls (kill c) false sending.stage k.killing
        → (x : Step Sending (List ℕ)) → Runs old new log log' wire sending x → (came : Step ClosingCursor (Unit {0})) → KillHears c x came → KillingCame came
    kill_polled c same kills_so held held_so sending is single far x runs came heard = by_came x (request_sent old new log log' wire sending (kill c) false x is single runs calls calls' told told' k.killing far) heard
      where
        ended : IsRequestAt calls' (kill c) false killing' → CallSends calls' wire at own'
        ended request = killing_sends (subst (λ (command : Fields). IsRequestAt calls' command false killing') kills_so request) held_so

        by_came : (y : Step Sending (List ℕ)) → RequestCame new calls' (kill c) false killing' y → KillHears c y came → KillingCame came
        by_came (step.Pending later) so hears = killing_as (step.Pending (killed_by c later)) came hears (killing_waits c later same held so)
        by_came (step.Done bytes) so hears = killing_as (step.Done tt) came hears (ended so)
        by_came (step.Failed e) so hears = killing_as (step.Failed e) came hears (ended so)

    kills_now : k.killing ≡ [] → (came : Step ClosingCursor (Unit {0})) → KillsCursor old new log log' wire (at_rest before.cursor) came → KillingCame came
    kills_now none came (closings.nothing_left over nothing is) = killing_as (step.Done tt) came is (quiet nothing)
    kills_now none came (closings.not_built may e by nothing is) = killing_as (step.Failed e) came is (quiet nothing)
    kills_now none came (closings.kills may sending new_one ran) =
        kill_polled (at_rest before.cursor) refl refl may.held may.held sending new_one.command_is new_one.single
        (subst (λ (stage : Stage). RequestFar old calls (kill before.cursor) false stage k.killing) (sym new_one.new) none) ran.came ran.runs came ran.hears

    closing_polled : IsClosing before → IsLanded before → (came : Step ClosingCursor (Unit {0})) → ClosingPolls old new log log' wire before came → KillingCame came
    closing_polled closing landed came (closings.lands idle sending asks_so h) =
        absurd (subst IsNotAsking asks_so (subst (λ (o : Option Sending). LandedBy o before.cursor.doing) idle landed))
    closing_polled closing landed came (closings.begins idle still h) = kills_now (subst (λ (o : Option Sending). KillingFar old calls before.cursor o k.killing) idle k.far) came h
    closing_polled closing landed came (closings.goes_on sending at_so h) =
        let on : IsKilling before.cursor sending = subst (ClosesBy before.cursor) at_so closing in
        let far : KillingFar old calls before.cursor (Some sending) k.killing = subst (λ (o : Option Sending). KillingFar old calls before.cursor o k.killing) at_so k.far in
        kill_polled before.cursor refl refl far.0 far.0 sending on.waits_on.command_is on.waits_on.single far.1 h.came h.runs came h.hears

    closing_heard : (came : Step ClosingCursor (Unit {0})) → KillingCame came → HearsClosing s came s' r → Behind s' r
    closing_heard (step.Pending later) so heard = step_as (record s { doing = kills later }) (stepped.Gives try.Pending) heard.0 heard.1 so
    closing_heard (step.Done t) so heard = step_as (record s { doing = renewed }) stepped.Goes heard.0 heard.1 so
    closing_heard (step.Failed e) so (inl heard) = step_as (record s { doing = owes }) (stepped.Gives (try.Failed e)) heard.1 heard.2 so
    closing_heard (step.Failed e) so (inr heard) = step_as (record s { doing = renewed }) stepped.Goes heard.1 heard.2 so

  -- ---- a step

  sent_as : (d : Doing) → s.doing ≡ d → SentBy old calls wire at own s.cursor d
  sent_as d is = subst (SentBy old calls wire at own s.cursor) is sent

  sent_asking : s.doing ≡ follows → (d : cursors.Doing) → s.cursor.doing ≡ d → AsksFar old calls at own d
  sent_asking on d is = subst (AsksFar old calls at own) is (sent_as follows on)

  so_by : (d : Doing) → s.doing ≡ d → ByDoing old (past_of places since calls wire) true at s d
  so_by d is = subst (ByDoing old (past_of places since calls wire) true at s) is so_far.by

  so_cursor : s.doing ≡ follows → (d : cursors.Doing) → s.cursor.doing ≡ d → ByCursor old (past_of places since calls wire) at s d
  so_cursor on d is = subst (ByCursor old (past_of places since calls wire) at s) is (so_by follows on)

  start_may : IsStart at s → s.cursor.doing ≡ rests → s.behind ≡ [] → MayAsk s.cursor → MayAskMore at
  start_may start still empty may = record {
    settled = record { follows_on = start.follows_on; looked = ap (λ (c : ClientCursor). c.doing) (sym start.cursor) ∙ still };
    none_left = sym start.events ∙ empty;
    may = subst MayAsk start.cursor may;
  }

  -- so it resumes, by what it had sent
  owed_so : Resumes (past_of places since calls wire) at (at_rest s.cursor) → Resumes (sent_at own calls wire) at (at_rest s.cursor)
  owed_so why = resumes_grows (past_of places since calls wire) (sent_at own calls wire) (grows_ended places since calls wire) at (at_rest s.cursor) why

  step_sends : DoesStep old new log log' wire None started s s' r → Behind s' r
  step_sends (steps.finds on some nothing unstarted is answer) = step_as s stepped.Found is answer (quiet nothing)
  step_sends (steps.looks on empty bytes held nothing unstarted looks_so) =
      looked false (at_rest s.cursor) bytes (quiet nothing) (λ not. inl (same_own nothing.log_same ∙ sent_asking on (holds bytes) held)) looks_so
  step_sends (steps.ends on empty still over nothing unstarted is answer) = step_as s (stepped.Gives (try.Ready result.Exhausted)) is answer (quiet nothing)
  step_sends (steps.not_asked on empty still may e by nothing unstarted is answer) = step_as s (stepped.Gives (try.Failed e)) is answer (quiet nothing)
  step_sends (steps.asks_more on empty still may sending new_one h) =
      let start = so_cursor on rests still in
      more_polled on (start_may start still empty may) sending (new_one.command_is ∙ ap (λ (c : ClientCursor). get_more c None) start.cursor) new_one.single
      (subst (λ (stage : Stage). RequestFar old calls (get_more at.cursor None) false stage own) (sym new_one.new) (sent_asking on rests still)) h
  step_sends (steps.waits_more on empty sending asks_so h) =
      let far = sent_asking on (asks sending) asks_so in
      let so = so_cursor on (asks sending) asks_so in
      let its : IsAsking true s.cursor sending = subst (λ (d : cursors.Doing). cursors.SoundBy true s.cursor d) asks_so sound.asks_its_own in
      let is : fields sending.command ≡ get_more s.cursor None = subst (λ (x : Option Session). fields sending.command ≡ get_more s.cursor x) its.plainly its.waits_on.command_is in
      more_polled on far.0 sending (is ∙ ap (λ (c : ClientCursor). get_more c None) so.1) its.waits_on.single far.1 h
  step_sends (steps.not_resumed on e by nothing unstarted is answer) = step_as s (stepped.Gives (try.Failed e)) is answer (quiet nothing)
  step_sends (steps.resumes_now on sending new_one h) =
      resumption_polled own [] (sym (append-nil own)) (sent_as owes on) (at_rest s.cursor) (owed_so (so_by owes on)) sending
      (new_one.command_is ∙ ap (λ (a : ChangeStreamAggregate). resuming_in a wire None) so_far.same) new_one.retries_is
      (subst (λ (stage : Stage). RequestFar old calls aggregate_of true stage []) (sym new_one.new) refl) h
  step_sends (steps.waits_resumption sending on h) =
      let far = sent_as (resumes sending) on in
      let flies = (so_by (resumes sending) on).1 in
      let is : fields sending.command ≡ aggregate_of = subst (λ (x : Option Session). fields sending.command ≡ resuming_in at.aggregate wire x) flies.plainly flies.command_is in
      let repeats : sending.retries ≡ true = subst (λ (x : Option Session). sending.retries ≡ is_read_again x) flies.plainly flies.retries_is in
      resumption_polled far.more far.again far.whole far.asks far.left far.why sending is repeats far.far h
  step_sends (steps.closes before on unstarted came polls heard) =
      let by = subst (SoundBy true s) on sound.by in
      let k = sent_as (kills before) on in
      closing_heard before k came (closing_polled before k by.2 by.3 came polls) heard
  step_sends (steps.renews on bytes held nothing unstarted looks_so) = looked true (at_rest s.cursor) bytes (quiet nothing) (λ bad. absurd cc) looks_so

-- ---- the steps of a poll

record StepsSend (new : Awaited) (places : List ℕ) (since : ℕ) (log' : LogTold) (wire : ℤ) (at s' : ClientStream) (r : Stepped) : Type 0 where
  calls' : List Call
  told : log' ≡ Some calls'
  behind : BehindStep new calls' wire at (sent_since places since (length calls')) s' r

steps_send : (n : ℕ) (old new : Awaited) (log log' : LogTold) (wire : ℤ) (starts : ℕ) (again : Bool) (at s s' : ClientStream) (r : Stepped) → IsSound true s → DoesSteps n old new log log' wire None starts again s s' r
    → (places : List ℕ) (since : ℕ) (calls : List Call) → log ≡ Some calls → since ≤ length calls → SoFar old (past_of places since calls wire) true at s → SentBy old calls wire at (sent_since places since (length calls)) s.cursor s.doing → StepsSend new places since log' wire at s' r
unfolding DoesSteps
steps_send zero old new log log' wire starts again at s s' r sound h places since calls told room so_far sent =
    let one = step_caused old new log log' wire None None h.started at s s' r (sound_any true s sound) (λ on. refl) (λ none. none) places since calls told room so_far h.does in
    let goes : r ≡ stepped.Goes → SoFar new (past_of places since one.calls' wire) true at s' = λ is. subst (λ (x : Stepped). StepCame new (past_of places since one.calls' wire) None at (is_renewed s.doing) s' x) is one.came in
    record {
      calls' = one.calls';
      told = one.told;
      behind = subst (λ (l : List ℕ). BehindStep new one.calls' wire at l s' r) (since_on places since (length calls) (length one.calls') room (keeps_longer calls one.calls' one.keeps))
          (step_sends old new log log' wire h.started at s s' r sound places since calls one.calls' told one.told one.keeps room so_far goes sent h.does);
    }
steps_send (suc n) old new log log' wire starts again at s s' r sound h places since calls told room so_far sent =
    let mid = h.0 in
    let between = h.1 in
    let started = h.2 in
    let t = h.4 in
    let one = step_caused old mid log between wire None None started at s t stepped.Goes (sound_any true s sound) (λ on. refl) (λ none. none) places since calls told room so_far h.5 in
    let all : sent_since (sent_since places since (length calls)) (length calls) (length one.calls') ≡ sent_since places since (length one.calls') = since_on places since (length calls) (length one.calls') room (keeps_longer calls one.calls' one.keeps) in
    let here : SentBy mid one.calls' wire at (sent_since places since (length one.calls')) t.cursor t.doing
    = subst (λ (l : List ℕ). SentBy mid one.calls' wire at l t.cursor t.doing) all (step_sends old mid log between wire started at s t stepped.Goes sound places since calls one.calls' told one.told one.keeps room so_far (λ is. one.came) sent h.5) in
    steps_send n mid new between log' wire h.3 again at t s' r (step_sound true old mid log between wire None started s t stepped.Goes sound refl h.5)
    (subst (λ (x : Option Session). DoesSteps n mid new between log' wire x h.3 again t s' r) (none_after started) h.7) places since one.calls' one.told one.room one.came here

-- ---- a poll

-- what a call sent behind a poll: so far, or in all
abbrev pub BehindPoll : Awaited → List Call → ℤ → ClientStream → List ℕ → ClientStream → EventPoll → Type 0
BehindPoll awaited calls wire at own s poll.Pending = SentBy awaited calls wire at own s.cursor s.doing
BehindPoll awaited calls wire at own s (poll.Ready event) = CallSends calls wire at own
BehindPoll awaited calls wire at own s (poll.Failed e) = CallSends calls wire at own

given_sends : (awaited : Awaited) (calls : List Call) (wire : ℤ) (at : ClientStream) (own : List ℕ) (left : ClientStream) (came : Stepped) → (came ≡ stepped.Goes → ⊥) → BehindStep awaited calls wire at own left came → CallSends calls wire at own
given_sends awaited calls wire at own left stepped.Goes over h = absurd (over refl)
given_sends awaited calls wire at own left stepped.Found over h = h
given_sends awaited calls wire at own left (stepped.Gives try.Pending) over h = sent_any awaited calls wire at own left.cursor left.doing h
given_sends awaited calls wire at own left (stepped.Gives (try.Ready x)) over h = h
given_sends awaited calls wire at own left (stepped.Gives (try.Failed e)) over h = h

module _ (awaited : Awaited) (calls : List Call) (wire : ℤ) (at : ClientStream) (own : List ℕ) (left copied s' : ClientStream) where
  poll_pends : (came : Stepped) → CopiesBehind came left copied poll.Pending → s' ≡ copied → BehindStep awaited calls wire at own left came → SentBy awaited calls wire at own s'.cursor s'.doing
  poll_pends stepped.Goes behind kept h = absurd behind
  poll_pends stepped.Found behind kept h = absurd behind
  poll_pends (stepped.Gives try.Pending) behind kept h = subst (λ (x : ClientStream). SentBy awaited calls wire at own x.cursor x.doing) (sym (kept ∙ behind.0)) h
  poll_pends (stepped.Gives (try.Ready x)) behind kept h = let bad : poll.Pending ≡ poll.Ready None = behind.1 in absurd cc
  poll_pends (stepped.Gives (try.Failed e)) behind kept h = let bad : poll.Pending ≡ poll.Failed e = behind.1 in absurd cc

  not_goes : (came : Stepped) (r : EventPoll) → CopiesBehind came left copied r → came ≡ stepped.Goes → ⊥
  not_goes came r behind is = subst (λ (x : Stepped). CopiesBehind x left copied r) is behind

  poll_sent : (came : Stepped) (r : EventPoll) → CopiesBehind came left copied r → s' ≡ kept_behind (event_ending r) copied → BehindStep awaited calls wire at own left came → BehindPoll awaited calls wire at own s' r
  poll_sent came poll.Pending behind kept h = poll_pends came behind kept h
  poll_sent came (poll.Ready event) behind kept h = given_sends awaited calls wire at own left came (not_goes came (poll.Ready event) behind) h
  poll_sent came (poll.Failed e) behind kept h = given_sends awaited calls wire at own left came (not_goes came (poll.Failed e) behind) h

-- A poll of a call that had sent at these places sent more of it, and nothing else.
pub poll_sends : (n : ℕ) (old new : Awaited) (log log' : LogTold) (wire : ℤ) (starts : ℕ) (at s s' : ClientStream) (r : EventPoll) → IsSound true s → CallCopies n old new log log' wire None starts s s' r → (own : List ℕ) (calls calls' : List Call) → log ≡ Some calls → log' ≡ Some calls'
    → SoFar old (sent_at own calls wire) true at s → SentBy old calls wire at own s.cursor s.doing → BehindPoll new calls' wire at (sent_since own (length calls) (length calls')) s' r
poll_sends n old new log log' wire starts at s s' r sound does own calls calls' told told' so_far sent =
    let h = steps_send n old new log log' wire starts does.again at (lends_nothing s) does.left does.came (sound_as true s (lends_nothing s) refl refl refl refl sound) does.does own (length calls) calls told (omega arith)
    (lets_go old (sent_at own calls wire) true at s so_far) (subst (λ (l : List ℕ). SentBy old calls wire at l s.cursor s.doing) (sym (since_none own (length calls))) sent) in
    let same : h.calls' ≡ calls' = same_some h.calls' calls' (sym h.told ∙ told') in
    poll_sent new calls' wire at (sent_since own (length calls) (length calls')) does.left does.copied s' does.came r does.copies does.kept
    (subst (λ (l : List Call). BehindStep new l wire at (sent_since own (length calls) (length l)) does.left does.came) same h.behind)
