-- What the steps of a change stream are caused by.
use Rattle.std.proofs.Common.{◌≡◌, ◌≢◌, ◌⊎◌, ◌≤◌, ℕ, ℤ, pos, Bool, true, false, List, [], length, Option, Some, None, refl, sym, ap, ◌∙◌, subst, inl, inr}
use Rattle.mg_bson.specs.Raw.{fields}
use Rattle.mg_server.specs.Calls.{Came, Flies, Grows, HeardLast, Keeps, NoneBroken, Past, RequestFails, out_of_memory, past_of, was_broken}
use Rattle.mg_link.specs.Errors.{plain}
use Rattle.mg_link.specs.Exec.{IsSuccess, Runs, Sending, Stage}
use Rattle.mg_link.specs.Link.{Awaited, SendsNothing, LogTold}
use Rattle.mg_link.specs.Log.{Call, reply}
use Rattle.mg_link.specs.Resumable.{is_resumable}
use Rattle.mg_link.specs.Session.{Session}
use Rattle.mg_link.specs.declared.action.Step.{Step}
use Rattle.mg_link.specs.declared.action.Step.TheVariants as step
use Rattle.mg_link.specs.declared.error.Error.{Error}
use Rattle.mg_link.specs.declared.error.ErrorKind.TheVariants as kind
use Rattle.mg_link.specs.Pinned.{is_invalid}
use Rattle.mg_link.specs.declared.pinned.PinnedConnection.TheVariants as connection
use Rattle.mg_server.proofs.Calls.{request_ran, same_keeps, success_ran}
use Rattle.mg_exec.proofs.Execs.{runs_of}
use Rattle.mg_server.proofs.Owners.{same_some}
use Rattle.mg_server.proofs.Pasts.{fails_anyhow, heard_by}
use Rattle.mg_ops.specs.Failing.{FailsBy}
use Rattle.mg_ops.specs.declared.aggregate.ChangeStreamAggregate.{ChangeStreamAggregate}
use Rattle.mg_cursor.specs.Batches.{BreaksBatch, bad_item, no_batch}
use Rattle.mg_cursor.specs.Causes.{HeardMore, MoreFails, TellsNoCursor}
use Rattle.mg_cursor.specs.Client.{ClientCursor, IsOver, MayAsk, PlainIf, asks, at_rest, behind_failure, behind_reply, get_more, holds, kill, reply_in, rests}
use Rattle.mg_cursor.specs.Client as cursors
use Rattle.mg_cursor.specs.Closing.{ClosesBy, ClosingCursor, ClosingPolls, ClosingUnderwayBy, IsClosing, IsClosingUnderway, IsLanded, IsNotAsking, KillHears, KillRuns, KillsCursor, LandedBy, begins as kill_begins, goes_on as kill_goes_on, kills as kill_sends, lands as kill_lands, not_built, nothing_left}
use Rattle.mg_cursor.specs.Polling.{CannotAsk, Hears, ReadsReply, broke as unread, gave as read}
use Rattle.mg_cursor.specs.declared.polls.NextPoll.{NextPoll}
use Rattle.mg_cursor.specs.declared.polls.TryPoll.{TryPoll}
use Rattle.mg_cursor.specs.declared.polls.TryPoll.TheVariants as try
use Rattle.mg_cursor.specs.declared.results.AdvanceResult.{AdvanceResult}
use Rattle.mg_cursor.specs.declared.results.AdvanceResult.TheVariants as result
use Rattle.mg_cursor.proofs.Hearing.{behind_broken, behind_rested}
use Rattle.mg_change.specs.Causes.{ByCursor, ByDoing, CallEmpty, CallFailed, CallFails, HoldsFirst, IsRenewed, IsReplaced, IsSettled, IsStart, Killed, MayAskMore, MoreFailed, Next, Replied, Resumed, Resumes, SoFar, as_it_was, asking, batch_broken, broken as more_broken, came, came_empty, cannot_ask, cannot_resume, closing, first_broken, is_lone, left, may_lose, more, more_failed, no_memory as lacks_memory, none_held, none_left, not_resumed as fails_to_resume, once_more, opening, owed, refused_more, resuming, tried, untold, was_killed}
use Rattle.mg_change.specs.ClientStreams.{ClientStream, Doing, FollowsBy, IsSound, SoundBy, follows, is_read_again, is_renewed, kills, owes, owing_with, remembered_empty, renewed, resumes, resuming_in, with_cursor}
use Rattle.mg_change.specs.Steps.{AsksMore, CannotResume, DoesStep, FailsMore, HearsClosing, HearsResumption, LooksAt, OpensCursor, ReadsResumption, RunsResumption, TakesMore, asks_more, broke, broken, closes, emptied, ends, final, finds, gave, goes_on, looks, no_memory, none as nothing_there, not_asked, not_resumed, renews, replaced_by, resumes_now, some as next_there, waits_more, waits_resumption}
use Rattle.mg_change.specs.declared.event_poll.Stepped.{Stepped}
use Rattle.mg_change.specs.declared.event_poll.Stepped.TheVariants as stepped
use Rattle.mg_change.proofs.Garbled.{still_waits}
use Rattle.mg_change.proofs.Growing.{resumed_grows, resumes_grows}

-- ---- what a step comes to

-- an event is next
pub record FoundSo (past : Past) (lone : Bool) (at s : ClientStream) : Type 0 where
  pub same : s.aggregate ≡ at.aggregate
  pub next : Next past lone at s.behind s.cursor
  pub settled : IsSettled s
  pub some : s.behind ≢ []

abbrev pub AnswerCame : Past → Bool → ClientStream → Bool → ClientStream → AdvanceResult (Unit {0}) → Type 0
AnswerCame past lone at again s (result.Advanced t) = ⊥
AnswerCame past lone at again s result.Exhausted = CallEmpty past lone at s false × (at.cursor.id ≡ pos 0) × (again ≡ false)
AnswerCame past lone at again s result.Waiting = CallEmpty past lone at s again

abbrev pub GivenCame : Awaited → Past → Option Session → ClientStream → Bool → ClientStream → TryPoll → Type 0
GivenCame awaited past session at again s try.Pending = SoFar awaited past (is_lone session) at s
GivenCame awaited past session at again s (try.Ready a) = AnswerCame past (is_lone session) at again s a
GivenCame awaited past session at again s (try.Failed e) = CallFailed past session at s e

abbrev pub StepCame : Awaited → Past → Option Session → ClientStream → Bool → ClientStream → Stepped → Type 0
StepCame awaited past session at again s stepped.Goes = SoFar awaited past (is_lone session) at s
StepCame awaited past session at again s stepped.Found = FoundSo past (is_lone session) at s
StepCame awaited past session at again s (stepped.Gives p) = GivenCame awaited past session at again s p

-- a step of a call that had sent at these places, and from this one on
pub record StepCalled (new : Awaited) (places : List ℕ) (since : ℕ) (calls : List Call) (log' : LogTold) (wire : ℤ) (session : Option Session) (at : ClientStream) (again : Bool) (s' : ClientStream) (r : Stepped) : Type 0 where
  pub calls' : List Call
  pub told : log' ≡ Some calls'
  pub room : since ≤ length calls'
  pub keeps : Keeps calls calls'
  pub came : StepCame new (past_of places since calls' wire) session at again s' r

came_as : (awaited : Awaited) (past : Past) (session : Option Session) (at : ClientStream) (again : Bool) (s s' : ClientStream) (r r' : Stepped) → s' ≡ s → r' ≡ r → StepCame awaited past session at again s r → StepCame awaited past session at again s' r'
came_as awaited past session at again s s' r r' is answer h = subst (λ (x : Stepped). StepCame awaited past session at again s' x) (sym answer) (subst (λ (x : ClientStream). StepCame awaited past session at again x r) (sym is) h)

-- ---- errors

kind_of_plain : (e : Error) → e ≡ plain kind.OutOfMemory → e.kind ≡ kind.OutOfMemory
kind_of_plain e is = ap (λ (x : Error). x.kind) is

-- a batch that breaks its grammar is one behind which a stream resumes
batch_resumes : (bytes : List ℕ) (e : Error) → BreaksBatch bytes e → is_resumable e.kind e.labels e.wire_version ≡ true
batch_resumes bytes e (no_batch none_in how) = ap (λ (x : Error). is_resumable x.kind x.labels x.wire_version) how.error
batch_resumes bytes e (bad_item batch at none error) = ap (λ (x : Error). is_resumable x.kind x.labels x.wire_version) error

-- ---- a batch that is looked at

-- where a batch comes nothing that was received is left
failed_none : (past : Past) (at : ClientStream) (e : Error) (c : ClientCursor) → MoreFailed past at e c → at.behind ≡ []
failed_none past at e c (untold may fails is) = may.none_left
failed_none past at e c (more_broken may bytes said h says is breaks) = may.none_left

resumes_none : (past : Past) (at : ClientStream) (c : ClientCursor) → Resumes past at c → at.behind ≡ []
resumes_none past at c (owed is cursor) = is.none_left
resumes_none past at c (more_failed e why is) = failed_none past at e c why
resumes_none past at c (first_broken bytes e held breaks is) = held.none_left

replied_none : (past : Past) (lone : Bool) (at : ClientStream) (again : Bool) (bytes : List ℕ) (c : ClientCursor) → Replied past lone at again bytes c → at.behind ≡ []
replied_none past lone at again bytes c (opening not held is) = held.none_left
replied_none past lone at again bytes c (more not may said h says is) = may.none_left
replied_none past lone at again bytes c (once_more so old new r gone is) = resumes_none past at old r.why

module _ (awaited : Awaited) (past : Past) (session : Option Session) (at s : ClientStream) (same : s.aggregate ≡ at.aggregate) (c : ClientCursor) (quiet : c.doing ≡ rests) (bytes : List ℕ) where
  rested : at_rest c ≡ c
  rested = ap (λ (d : cursors.Doing). record c { doing = d }) (sym quiet)

  looked_came : (again : Bool) → Replied past (is_lone session) at again bytes c → ((e : Error) → BreaksBatch bytes e → again ≡ false → Resumes past at c) → (s' : ClientStream) (r : Stepped) → LooksAt again s c bytes s' r → StepCame awaited past session at again s' r
  looked_came again replied why s' r (next_there event events there is answer) =
      came_as awaited past session at again _ s' stepped.Found r is answer
      (record { same = same; next = came (replied_none past (is_lone session) at again bytes c replied) again bytes replied there; settled = record { follows_on = refl; looked = quiet }; some = λ none. absurd cc })
  looked_came again replied why s' r (nothing_there there is answer) =
      came_as awaited past session at again (emptied c s) s' (stepped.Gives (try.Ready result.Waiting)) r is answer
      (record {
        why = came_empty (replied_none past (is_lone session) at again bytes c replied) bytes replied there (ap (remembered_empty c.token) same);
        empty = refl;
        settled = record { follows_on = refl; looked = quiet };
      })
  looked_came true replied why s' r (broken e breaks is answer) =
      came_as awaited past session at true (owing_with c s) s' (stepped.Gives (try.Failed e)) r is answer
      (record { why = batch_broken bytes (record { owes_one = refl; none_left = refl }) replied breaks; token = same })
  looked_came false replied why s' r (broken e breaks is answer) =
      came_as awaited past session at false (owing_with c s) s' stepped.Goes r is answer
      (record { same = same; by = subst (Resumes past at) (sym rested) (why e breaks refl) })

-- ---- a getMore

module _ (awaited : Awaited) (past : Past) (session : Option Session) (at s : ClientStream) (same : s.aggregate ≡ at.aggregate) (may : MayAskMore at) (none_here : s.behind ≡ []) (on : s.doing ≡ follows) where
  -- it failed, or was not read
  fails_came : (c : ClientCursor) (e : Error) → c.doing ≡ rests → c ≡ behind_failure e at.cursor → MoreFails past at.cursor e ⊎ (e ≡ plain kind.OutOfMemory) → (e.kind ≡ kind.OutOfMemory → c ≡ at.cursor) → (s' : ClientStream) (r : Stepped) → FailsMore s c e s' r → StepCame awaited past session at false s' r
  fails_came c e quiet is why full s' r (goes_on so at_so answer) =
      came_as awaited past session at false (owing_with c s) s' stepped.Goes r at_so answer
      (record { same = same; by = subst (Resumes past at) (ap (λ (d : cursors.Doing). record c { doing = d }) quiet) (more_failed e (untold may why is) so) })
  fails_came c e quiet is why full s' r (no_memory room at_so answer) =
      came_as awaited past session at false (owing_with c s) s' (stepped.Gives (try.Failed e)) r at_so answer
      (record { why = may_lose room (record { owes_one = refl; none_left = refl }) (asking may (full room)); token = same })
  fails_came c e quiet is why full s' r (final not room at_so answer) =
      came_as awaited past session at false (with_cursor c s) s' (stepped.Gives (try.Failed e)) r at_so answer
      (record { why = by_cause why; token = same })
    where
      by_cause : MoreFails past at.cursor e ⊎ (e ≡ plain kind.OutOfMemory) → CallFails past session at (with_cursor c s) e
      by_cause (inl fails) = refused_more may fails (record { stays = not; room = room }) is none_here (record { follows_on = on; looked = quiet })
      by_cause (inr full_so) = absurd (room (kind_of_plain e full_so))

-- the getMore was polled, and the call had sent it in this session
module _ (old new : Awaited) (log log' : LogTold) (wire : ℤ) (now : Option Session) (at s : ClientStream) (same : s.aggregate ≡ at.aggregate) (may : MayAskMore at) (rested_at : at_rest s.cursor ≡ at.cursor) (none_here : s.behind ≡ []) (on : s.doing ≡ follows) (session : Option Session) (sending : Sending) (command_is : fields sending.command ≡ get_more s.cursor session) (single : sending.retries ≡ false) (places : List ℕ) (since : ℕ) where
  own_command : fields sending.command ≡ get_more at.cursor session
  own_command = command_is ∙ ap (λ (c : ClientCursor). get_more c session) rested_at

  module _ (past : Past) where
    read_so : (bytes : List ℕ) (c : ClientCursor) (p : NextPoll) (s' : ClientStream) (r : Stepped) → HeardLast past (get_more at.cursor session) false (reply bytes) → IsSuccess bytes → ReadsReply s.cursor bytes c p → TakesMore s c p s' r → StepCame new past now at false s' r
    read_so bytes c p s' r heard success (read said says is answer) takes =
        let looked : LooksAt false s c bytes s' r = subst (λ (x : NextPoll). TakesMore s c x s' r) answer takes in
        let its : HeardMore past at.cursor bytes = record { session = session; heard = heard_by past (get_more at.cursor session) false (reply bytes) heard; success = success } in
        let behind : c ≡ behind_reply said at.cursor = is ∙ ap (behind_reply said) rested_at in
        looked_came new past now at s same c (ap (λ (x : ClientCursor). x.doing) is) bytes false (more refl may said its says behind)
        (λ e breaks not. more_failed e (more_broken may bytes said its says behind breaks) (batch_resumes bytes e breaks)) s' r looked
    read_so bytes c p s' r heard success (unread e (inl full) is answer) takes =
        fails_came new past now at s same may none_here on c e (ap (λ (x : ClientCursor). x.doing) is) (is ∙ rested_at ∙ sym (ap (λ (x : Error). behind_failure x at.cursor) full ∙ at_rest_is)) (inr full) (λ room. is ∙ rested_at) s' r (subst (λ (x : NextPoll). TakesMore s c x s' r) answer takes)
      where
        at_rest_is : at_rest at.cursor ≡ at.cursor
        at_rest_is = ap (λ (d : cursors.Doing). record at.cursor { doing = d }) (sym may.settled.looked)
    read_so bytes c p s' r heard success (unread e (inr breaks) is answer) takes =
        let fails : MoreFails past at.cursor e = record { session = session; fails = was_broken bytes heard success breaks } in
        fails_came new past now at s same may none_here on c e (ap (λ (x : ClientCursor). x.doing) is) (is ∙ sym (behind_broken (fields bytes) e s.cursor breaks) ∙ sym (behind_rested e.kind s.cursor) ∙ ap (behind_failure e) rested_at) (inl fails) (λ room. is ∙ rested_at) s' r
        (subst (λ (x : NextPoll). TakesMore s c x s' r) answer takes)

    failed_so : (e : Error) (c : ClientCursor) (s' : ClientStream) (r : Stepped) → RequestFails past (get_more at.cursor session) false NoneBroken e → c ≡ behind_failure e s.cursor → FailsMore s c e s' r → StepCame new past now at false s' r
    failed_so e c s' r fails is h =
        let behind : c ≡ behind_failure e at.cursor = is ∙ sym (behind_rested e.kind s.cursor) ∙ ap (behind_failure e) rested_at in
        fails_came new past now at s same may none_here on c e (ap (λ (x : ClientCursor). x.doing) is) behind (inl (record { session = session; fails = fails_anyhow past (get_more at.cursor session) false TellsNoCursor e fails }))
        (λ room. behind ∙ ap (λ (k : _). at_rest (cursors.behind_kind k at.cursor)) room ∙ ap (λ (d : cursors.Doing). record at.cursor { doing = d }) (sym may.settled.looked)) s' r h

    pending_so : (waiting : Sending) (c : ClientCursor) (s' : ClientStream) (r : Stepped) → fields waiting.command ≡ get_more s.cursor session → Flies new past (get_more at.cursor session) waiting.stage → c ≡ record s.cursor { doing = asks waiting } → s' ≡ with_cursor c s → r ≡ stepped.Gives try.Pending → StepCame new past now at false s' r
    pending_so waiting c s' r waits flies is at_so answer =
        came_as new past now at false (with_cursor (record s.cursor { doing = asks waiting }) s) s' (stepped.Gives try.Pending) r (at_so ∙ ap (λ (x : ClientCursor). with_cursor x s) is) answer
        (record {
          same = same;
          by = subst (λ (d : Doing). ByDoing new past (is_lone now) at (with_cursor (record s.cursor { doing = asks waiting }) s) d) (sym on)
              (may, rested_at, none_here, record { session = session; command_is = waits; flies = subst (λ (x : ClientCursor). Flies new past (get_more x session) waiting.stage) (sym rested_at) flies });
        })

  pub more_caused : (started : Bool) (s' : ClientStream) (r : Stepped) → AsksMore old new log log' wire started s sending s' r → (calls : List Call) → log ≡ Some calls → since ≤ length calls → Flies old (past_of places since calls wire) (get_more at.cursor session) sending.stage → StepCalled new places since calls log' wire now at false s' r
  more_caused started s' r h calls told room flies =
      let runs = runs_of old new log log' wire sending h.runs.came started h.runs.runs in
      let ran = request_ran old new log log' wire sending (get_more at.cursor session) false h.runs.came own_command single runs calls told places since room flies in
      record { calls' = ran.calls'; told = ran.told; room = ran.room; keeps = ran.grows.keeps; came = by_came (past_of places since ran.calls' wire) h.runs.came runs ran.came h.left h.poll h.runs.hears h.takes }
    where
      by_came : (past : Past) (x : Step Sending (List ℕ)) → Runs old new log log' wire sending x → Came new past (get_more at.cursor session) false x → (c : ClientCursor) (p : NextPoll) → Hears s.cursor x c p → TakesMore s c p s' r → StepCame new past now at false s' r
      by_came past (step.Pending waiting) runs came_so c p heard takes =
          let t = subst (λ (x : NextPoll). TakesMore s c x s' r) heard.1 takes in
          pending_so past waiting c s' r (ap fields (still_waits old new log log' wire sending waiting runs).same_command ∙ command_is) came_so heard.0 t.0 t.1
      by_came past (step.Done bytes) runs came_so c p heard takes = read_so past bytes c p s' r came_so (success_ran old new log log' wire sending bytes runs) heard takes
      by_came past (step.Failed e) runs came_so c p heard takes = failed_so past e c s' r came_so heard.0 (subst (λ (x : NextPoll). TakesMore s c x s' r) heard.1 takes)

-- ---- the aggregate of a resumption

underway_quiet : (awaited : Awaited) (past : Past) (c : ClientCursor) (d : cursors.Doing) → IsNotAsking d → ClosingUnderwayBy awaited past c None d
underway_quiet awaited past c rests quiet = tt
underway_quiet awaited past c (holds bytes) quiet = tt
underway_quiet awaited past c (asks sending) quiet = absurd quiet

module _ (new : Awaited) (now : Option Session) (at s : ClientStream) (same : s.aggregate ≡ at.aggregate) (none_here : s.behind ≡ []) (quiet : IsNotAsking s.cursor.doing) (session : Option Session) (plainly : PlainIf (is_lone now) session) where
  module _ (past : Past) (why : Resumes past at (at_rest s.cursor)) where
    -- it failed, or was not read
    resumption_failed : (e : Error) → RequestFails past (resuming_in at.aggregate past.wire session) (is_read_again session) TellsNoCursor e → (s' : ClientStream) (r : Stepped) → s' ≡ record s { doing = owes } → r ≡ stepped.Gives (try.Failed e) → StepCame new past now at false s' r
    resumption_failed e fails s' r at_so answer =
        came_as new past now at false (record s { doing = owes }) s' (stepped.Gives (try.Failed e)) r at_so answer
        (record { why = fails_to_resume (record { owes_one = refl; none_left = none_here }) why (record { session = session; plainly = plainly; fails = fails }); token = same })

    resumption_read : (bytes : List ℕ) → HeardLast past (resuming_in at.aggregate past.wire session) (is_read_again session) (reply bytes) → IsSuccess bytes → (s' : ClientStream) (r : Stepped) → ReadsResumption s bytes s' r → StepCame new past now at false s' r
    resumption_read bytes heard success s' r (gave out opens at_so answer) =
        came_as new past now at false (replaced_by out.0 s) s' stepped.Goes r at_so answer
        (record {
          same = same;
          by = record {
            bytes = bytes;
            resumed = record {
              why = why;
              heard = record { session = session; plainly = plainly; heard = heard; success = success };
              out = out;
              opens = subst (λ (a : ChangeStreamAggregate). OpensCursor a bytes out) same opens;
              cursor_is = refl;
            };
            underway = underway_quiet new past s.cursor s.cursor.doing quiet;
          };
        })
    resumption_read bytes heard success s' r (broke e (inl full) at_so answer) = resumption_failed e (out_of_memory (kind_of_plain e full)) s' r at_so answer
    resumption_read bytes heard success s' r (broke e (inr breaks) at_so answer) = resumption_failed e (was_broken bytes heard success breaks) s' r at_so answer

    resumption_waits : (waiting : Sending) (s' : ClientStream) (r : Stepped) → fields waiting.command ≡ resuming_in at.aggregate past.wire session → waiting.retries ≡ is_read_again session → Flies new past (resuming_in at.aggregate past.wire session) waiting.stage
        → s' ≡ record s { doing = resumes waiting } → r ≡ stepped.Gives try.Pending → StepCame new past now at false s' r
    resumption_waits waiting s' r command_is retries_is flies at_so answer =
        came_as new past now at false (record s { doing = resumes waiting }) s' (stepped.Gives try.Pending) r at_so answer
        (record { same = same; by = (why, record { session = session; plainly = plainly; command_is = command_is; retries_is = retries_is; flies = flies }) })

  -- it was polled, and the call had sent it in this session
  pub resumption_caused : (old : Awaited) (log log' : LogTold) (wire : ℤ) (started : Bool) (sending : Sending) (s' : ClientStream) (r : Stepped) → RunsResumption old new log log' wire started s sending s' r → (places : List ℕ) (since : ℕ) (calls : List Call) → log ≡ Some calls → since ≤ length calls
      → Resumes (past_of places since calls wire) at (at_rest s.cursor) → fields sending.command ≡ resuming_in at.aggregate wire session → sending.retries ≡ is_read_again session → Flies old (past_of places since calls wire) (resuming_in at.aggregate wire session) sending.stage
      → StepCalled new places since calls log' wire now at false s' r
  resumption_caused old log log' wire started sending s' r h places since calls told room why command_is retries_is flies =
      let runs = runs_of old new log log' wire sending h.came started h.runs in
      let ran = request_ran old new log log' wire sending (resuming_in at.aggregate wire session) (is_read_again session) h.came command_is retries_is runs calls told places since room flies in
      record {
        calls' = ran.calls';
        told = ran.told;
        room = ran.room;
        keeps = ran.grows.keeps;
        came = by_came (past_of places since ran.calls' wire) refl (resumes_grows (past_of places since calls wire) (past_of places since ran.calls' wire) ran.grows at (at_rest s.cursor) why) h.came runs ran.came h.hears;
      }
    where
      by_came : (past : Past) → past.wire ≡ wire → Resumes past at (at_rest s.cursor) → (x : Step Sending (List ℕ)) → Runs old new log log' wire sending x → Came new past (resuming_in at.aggregate wire session) (is_read_again session) x → HearsResumption s x s' r → StepCame new past now at false s' r
      by_came past on why_so (step.Pending waiting) runs came_so heard =
          let still = still_waits old new log log' wire sending waiting runs in
          resumption_waits past why_so waiting s' r (ap fields still.same_command ∙ command_is ∙ ap (λ (w : ℤ). resuming_in at.aggregate w session) (sym on)) (still.same_retries ∙ retries_is)
          (subst (λ (w : ℤ). Flies new past (resuming_in at.aggregate w session) waiting.stage) (sym on) came_so) heard.0 heard.1
      by_came past on why_so (step.Done bytes) runs came_so heard =
          resumption_read past why_so bytes (subst (λ (w : ℤ). HeardLast past (resuming_in at.aggregate w session) (is_read_again session) (reply bytes)) (sym on) came_so) (success_ran old new log log' wire sending bytes runs) s' r heard
      by_came past on why_so (step.Failed e) runs came_so heard =
          resumption_failed past why_so e
          (fails_anyhow past (resuming_in at.aggregate past.wire session) (is_read_again session) TellsNoCursor e (subst (λ (w : ℤ). RequestFails past (resuming_in at.aggregate w session) (is_read_again session) NoneBroken e) (sym on) came_so))
          s' r heard.0 heard.1

-- ---- the closing of the cursor before

-- what its killing came to: it waits for that of the same cursor, or was killed so; it fails only where the server held it
abbrev KillCame : Awaited → Past → ClientCursor → Step ClosingCursor (Unit {0}) → Type 0
KillCame awaited past c (step.Pending k) = IsClosingUnderway awaited past k × (at_rest k.cursor ≡ at_rest c)
KillCame awaited past c (step.Done t) = Killed past (at_rest c)
KillCame awaited past c (step.Failed e) = MayAsk (at_rest c) × (e.kind ≢ kind.OutOfMemory → Killed past (at_rest c))

-- a poll of it, of a call that had sent at these places, and from this one on
record ClosingRan (new : Awaited) (places : List ℕ) (since : ℕ) (calls : List Call) (log' : LogTold) (wire : ℤ) (c : ClientCursor) (r : Step ClosingCursor (Unit {0})) : Type 0 where
  calls' : List Call
  told : log' ≡ Some calls'
  room : since ≤ length calls'
  grows : Grows (past_of places since calls wire) (past_of places since calls' wire)
  came : KillCame new (past_of places since calls' wire) c r

module _ (old new : Awaited) (log log' : LogTold) (wire : ℤ) (c : ClientCursor) (places : List ℕ) (since : ℕ) (calls : List Call) (told : log ≡ Some calls) (room : since ≤ length calls) where
  quiet_ran : (r x : Step ClosingCursor (Unit {0})) → SendsNothing old new log log' → r ≡ x → KillCame new (past_of places since calls wire) c x → ClosingRan new places since calls log' wire c r
  quiet_ran r x none is came_so = record {
    calls' = calls;
    told = none.log_same ∙ told;
    room = room;
    grows = record { own = λ place call there own. own; keeps = same_keeps calls; wire = refl };
    came = subst (KillCame new (past_of places since calls wire) c) (sym is) came_so;
  }

  -- the killCursors came to this
  kill_came : (past : Past) → MayAsk (at_rest c) → (sending : Sending) (x : Step Sending (List ℕ)) (r : Step ClosingCursor (Unit {0})) → Runs old new log log' wire sending x → Came new past (kill c) false x → KillHears (at_rest c) x r → KillCame new past c r
  kill_came past may sending (step.Pending waiting) r runs came_so h = subst (KillCame new past c) (sym h) (came_so, refl)
  kill_came past may sending (step.Done bytes) r runs came_so h =
      subst (KillCame new past c) (sym h) (was_killed may bytes (heard_by past (kill c) false (reply bytes) came_so) (success_ran old new log log' wire sending bytes runs))
  kill_came past may sending (step.Failed e) r runs came_so h = subst (KillCame new past c) (sym h) (may, λ room. tried may e room (inl came_so))

  killing_ran : (sending : Sending) (r : Step ClosingCursor (Unit {0})) → MayAsk (at_rest c) → KillRuns old new log log' wire (at_rest c) sending r → fields sending.command ≡ kill c → sending.retries ≡ false → Flies old (past_of places since calls wire) (kill c) sending.stage → ClosingRan new places since calls log' wire c r
  killing_ran sending r may runs command_is single flies =
      let ran = request_ran old new log log' wire sending (kill c) false runs.came command_is single runs.runs calls told places since room flies in
      record {
        calls' = ran.calls';
        told = ran.told;
        room = ran.room;
        grows = ran.grows;
        came = kill_came (past_of places since ran.calls' wire) may sending runs.came r runs.runs ran.came runs.hears;
      }

  begun_ran : (r : Step ClosingCursor (Unit {0})) → KillsCursor old new log log' wire (at_rest c) r → ClosingRan new places since calls log' wire c r
  begun_ran r (nothing_left over none is) = quiet_ran r (step.Done tt) none is (none_held over)
  begun_ran r (not_built may e (inl memory) none is) = quiet_ran r (step.Failed e) none is (may, λ room. absurd (room (kind_of_plain e memory)))
  begun_ran r (not_built may e (inr cannot) none is) = quiet_ran r (step.Failed e) none is (may, λ room. tried may e room (inr cannot))
  begun_ran r (kill_sends may sending new_one runs) =
      killing_ran sending r may runs new_one.command_is new_one.single (subst (λ (stage : Stage). Flies old (past_of places since calls wire) (kill c) stage) (sym new_one.new) tt)

closing_ran : (old new : Awaited) (log log' : LogTold) (wire : ℤ) (before : ClosingCursor) (places : List ℕ) (since : ℕ) (calls : List Call) (r : Step ClosingCursor (Unit {0})) → log ≡ Some calls → since ≤ length calls → IsClosing before → IsLanded before
    → IsClosingUnderway old (past_of places since calls wire) before → ClosingPolls old new log log' wire before r → ClosingRan new places since calls log' wire before.cursor r
closing_ran old new log log' wire before places since calls r told room closing_so landed underway (kill_lands none sending asks_so h) =
    absurd (subst (λ (d : cursors.Doing). LandedBy None d) asks_so (subst (λ (o : Option Sending). LandedBy o before.cursor.doing) none landed))
closing_ran old new log log' wire before places since calls r told room closing_so landed underway (kill_begins none quiet h) = begun_ran old new log log' wire before.cursor places since calls told room r h
closing_ran old new log log' wire before places since calls r told room closing_so landed underway (kill_goes_on sending is runs) =
    let killing = subst (ClosesBy before.cursor) is closing_so in
    let still : before.cursor ≡ at_rest before.cursor = sym (ap (λ (d : cursors.Doing). record before.cursor { doing = d }) (sym killing.at_end)) in
    killing_ran old new log log' wire before.cursor places since calls told room sending r (subst MayAsk still killing.may) (subst (λ (x : ClientCursor). KillRuns old new log log' wire x sending r) still runs)
    killing.waits_on.command_is killing.waits_on.single
    (subst (λ (o : Option Sending). ClosingUnderwayBy old (past_of places since calls wire) before.cursor o before.cursor.doing) is underway)

module _ (new : Awaited) (past : Past) (now : Option Session) (at s : ClientStream) (same : s.aggregate ≡ at.aggregate) (none_here : s.behind ≡ []) (c : ClientCursor) (bytes : List ℕ) (resumed : Resumed past (is_lone now) at (at_rest c) bytes s.cursor) where
  closing_came : (x : Step ClosingCursor (Unit {0})) → KillCame new past c x → (s' : ClientStream) (r : Stepped) → HearsClosing s x s' r → StepCame new past now at false s' r
  closing_came (step.Pending before) h s' r heard =
      came_as new past now at false (record s { doing = kills before }) s' (stepped.Gives try.Pending) r heard.0 heard.1
      (record { same = same; by = record { bytes = bytes; resumed = subst (λ (x : ClientCursor). Resumed past (is_lone now) at x bytes s.cursor) (sym h.1) resumed; underway = h.0 } })
  closing_came (step.Done t) h s' r heard =
      came_as new past now at false (record s { doing = renewed }) s' stepped.Goes r heard.0 heard.1
      (record { same = same; by = record { old = at_rest c; bytes = bytes; resumed = resumed; killed = h } })
  closing_came (step.Failed e) h s' r (inl heard) =
      came_as new past now at false (record s { doing = owes }) s' (stepped.Gives (try.Failed e)) r heard.1 heard.2
      (record { why = may_lose heard.0 (record { owes_one = refl; none_left = none_here }) (closing (at_rest c) bytes resumed h.0); token = same })
  closing_came (step.Failed e) h s' r (inr heard) =
      came_as new past now at false (record s { doing = renewed }) s' stepped.Goes r heard.1 heard.2
      (record { same = same; by = record { old = at_rest c; bytes = bytes; resumed = resumed; killed = h.1 heard.0 } })

-- it was polled
pub closing_caused : (old new : Awaited) (log log' : LogTold) (wire : ℤ) (now : Option Session) (at s : ClientStream) (before : ClosingCursor) → s.aggregate ≡ at.aggregate → s.behind ≡ [] → IsClosing before → IsLanded before → (came_so : Step ClosingCursor (Unit {0})) → ClosingPolls old new log log' wire before came_so → (s' : ClientStream) (r : Stepped) → HearsClosing s came_so s' r
    → (places : List ℕ) (since : ℕ) (calls : List Call) → log ≡ Some calls → since ≤ length calls → IsReplaced old (past_of places since calls wire) (is_lone now) at s before → StepCalled new places since calls log' wire now at false s' r
closing_caused old new log log' wire now at s before same none_here closing_so landed came_so polls s' r heard places since calls told room replaced =
    let ran = closing_ran old new log log' wire before places since calls came_so told room closing_so landed replaced.underway polls in
    let past' : Past = past_of places since ran.calls' wire in
    record {
      calls' = ran.calls';
      told = ran.told;
      room = ran.room;
      keeps = ran.grows.keeps;
      came = closing_came new past' now at s same none_here before.cursor replaced.bytes
          (resumed_grows (past_of places since calls wire) past' ran.grows (is_lone now) at (at_rest before.cursor) replaced.bytes s.cursor replaced.resumed) came_so ran.came s' r heard;
    }

-- ---- a step

over_none : (c : ClientCursor) → c.pinned ≡ connection.Unpinned → IsOver c → c.id ≡ pos 0
over_none c unbound (inl none) = none
over_none c unbound (inr bad) = let invalid : false ≡ true = sym (ap is_invalid unbound) ∙ bad in absurd cc

holds_same : (d : cursors.Doing) (a b : List ℕ) → d ≡ holds a → d ≡ holds b → a ≡ b
holds_same d a b one other = same_some a b (ap reply_in (sym one ∙ other))

-- of a call that names none its aggregate names none
plain_if : (now session : Option Session) → (now ≡ None → session ≡ None) → PlainIf (is_lone now) session
plain_if None session none_then = none_then refl
plain_if (Some named) session none_then = tt

-- how far the call had come, by what is on its way
so_far_by : (awaited : Awaited) (past : Past) (lone : Bool) (at s : ClientStream) (d : Doing) → s.doing ≡ d → SoFar awaited past lone at s → ByDoing awaited past lone at s d
so_far_by awaited past lone at s d is so = subst (ByDoing awaited past lone at s) is so.by

by_cursor : (awaited : Awaited) (past : Past) (at s : ClientStream) (d : cursors.Doing) → s.cursor.doing ≡ d → ByCursor awaited past at s s.cursor.doing → ByCursor awaited past at s d
by_cursor awaited past at s d is h = subst (ByCursor awaited past at s) is h

module _ (new : Awaited) (log log' : LogTold) (wire : ℤ) (now : Option Session) (at s : ClientStream) (places : List ℕ) (since : ℕ) (calls : List Call) (told : log ≡ Some calls) (room : since ≤ length calls) where
  abbrev so : Past
  so = past_of places since calls wire

  quiet_called : (old : Awaited) (again : Bool) (s' : ClientStream) (r : Stepped) → SendsNothing old new log log' → StepCame new so now at again s' r → StepCalled new places since calls log' wire now at again s' r
  quiet_called old again s' r none h = record { calls' = calls; told = none.log_same ∙ told; room = room; keeps = same_keeps calls; came = h }

  -- nothing was sent yet
  start_settled : IsStart at s → s.cursor.doing ≡ rests → IsSettled at
  start_settled h quiet = record { follows_on = h.follows_on; looked = ap (λ (c : ClientCursor). c.doing) (sym h.cursor) ∙ quiet }

  start_found : s.aggregate ≡ at.aggregate → s.doing ≡ follows → IsStart at s → s.cursor.doing ≡ rests → s.behind ≢ [] → FoundSo so (is_lone now) at s
  start_found same on h quiet some = record { same = same; next = left (start_settled h quiet) h.events h.cursor; settled = record { follows_on = on; looked = quiet }; some = some }

  start_may : IsStart at s → s.cursor.doing ≡ rests → s.behind ≡ [] → MayAsk s.cursor → MayAskMore at
  start_may h quiet empty may = record { settled = start_settled h quiet; none_left = sym h.events ∙ empty; may = subst MayAsk h.cursor may }

  start_holds : IsStart at s → (bytes : List ℕ) → s.cursor.doing ≡ holds bytes → s.behind ≡ [] → HoldsFirst at bytes
  start_holds h bytes held empty = record { follows_on = h.follows_on; in_hand = ap (λ (c : ClientCursor). c.doing) (sym h.cursor) ∙ held; none_left = sym h.events ∙ empty }

  start_ends : s.aggregate ≡ at.aggregate → s.doing ≡ follows → IsStart at s → s.cursor.doing ≡ rests → s.behind ≡ [] → s.cursor.id ≡ pos 0 → AnswerCame so (is_lone now) at false s result.Exhausted
  start_ends same on h quiet empty over =
      let none : at.cursor.id ≡ pos 0 = ap (λ (c : ClientCursor). c.id) (sym h.cursor) ∙ over in
      (record { why = none_left refl (start_settled h quiet) (sym h.events ∙ empty) none same h.cursor; empty = empty; settled = record { follows_on = on; looked = quiet } }, none, refl)

  start_fails : s.aggregate ≡ at.aggregate → s.doing ≡ follows → IsStart at s → s.cursor.doing ≡ rests → s.behind ≡ [] → MayAsk s.cursor → (e : Error) → FailsBy (CannotAsk s.cursor now) e → CallFailed so now at s e
  start_fails same on h quiet empty may e (inl full) = record { why = lacks_memory (kind_of_plain e full) (as_it_was (start_settled h quiet) h.cursor h.events (on ∙ sym h.follows_on)); token = same }
  start_fails same on h quiet empty may e (inr cannot) =
      record { why = cannot_ask (start_may h quiet empty may) (subst (λ (c : ClientCursor). CannotAsk c now e) h.cursor cannot) h.cursor empty (record { follows_on = on; looked = quiet }); token = same }

  owing_fails : s.aggregate ≡ at.aggregate → s.doing ≡ owes → s.behind ≡ [] → Resumes so at (at_rest s.cursor) → (session : Option Session) (plainly : now ≡ None → session ≡ None) (e : Error) → FailsBy (CannotResume s.aggregate wire session) e → CallFailed so now at s e
  owing_fails same on empty why session plainly e (inl full) = record { why = may_lose (kind_of_plain e full) (record { owes_one = on; none_left = empty }) (resuming why); token = same }
  owing_fails same on empty why session plainly e (inr cannot) =
      record { why = cannot_resume (record { owes_one = on; none_left = empty }) why session (plainly, subst (λ (a : ChangeStreamAggregate). CannotResume a wire session e) same cannot); token = same }

  renewed_reply : IsRenewed so (is_lone now) at s → (bytes : List ℕ) → s.cursor.doing ≡ holds bytes → Replied so (is_lone now) at true bytes (at_rest s.cursor)
  renewed_reply h bytes held =
      let whole : h.bytes ≡ bytes = sym h.resumed.opens.opens.opens.whole ∙ holds_same s.cursor.doing h.resumed.out.0.initial_reply bytes (ap (λ (c : ClientCursor). c.doing) h.resumed.cursor_is) held in
      once_more refl h.old s.cursor (subst (λ (x : List ℕ). Resumed so (is_lone now) at h.old x s.cursor) whole h.resumed) h.killed refl

-- A step of a call that had sent at these places; its session is this one, but where a step before it told it of a command.
module _ (old new : Awaited) (log log' : LogTold) (wire : ℤ) (session now : Option Session) (started : Bool) (at s s' : ClientStream) (r : Stepped) (sound : IsSound false s) (first : s.doing ≡ follows → now ≡ session) (plainly : now ≡ None → session ≡ None) (places : List ℕ) (since : ℕ) (calls : List Call) (told : log ≡ Some calls) (room : since ≤ length calls) (so_far : SoFar old (past_of places since calls wire) (is_lone now) at s) where
  abbrev past : Past
  past = past_of places since calls wire

  abbrev Called : Bool → Type 0
  Called again = StepCalled new places since calls log' wire now at again s' r

  as_doing : (d : Doing) → s.doing ≡ d → Called (is_renewed d) → Called (is_renewed s.doing)
  as_doing d is h = subst (λ (x : Doing). Called (is_renewed x)) (sym is) h

  sound_by : (d : Doing) → s.doing ≡ d → SoundBy false s d
  sound_by d is = subst (SoundBy false s) is sound.by

  quiet : (again : Bool) → SendsNothing old new log log' → StepCame new past now at again s' r → Called again
  quiet again none h = quiet_called new log log' wire now at s places since calls told room old again s' r none h

  cursor_by : s.doing ≡ follows → (d : cursors.Doing) → s.cursor.doing ≡ d → ByCursor old past at s d
  cursor_by on d is = by_cursor old past at s d is (so_far_by old past (is_lone now) at s follows on so_far)

  found : s.doing ≡ follows → (s.behind ≡ [] → ⊥) → (d : cursors.Doing) → s.cursor.doing ≡ d → FoundSo past (is_lone now) at s
  found on some rests is = start_found new log log' wire now at s places since calls told room so_far.same on (cursor_by on rests is) is some
  found on some (holds bytes) is = absurd (some (subst (λ (x : cursors.Doing). FollowsBy x s.behind) is (sound_by follows on)))
  found on some (asks sending) is = absurd (some (cursor_by on (asks sending) is).2)

  pub step_caused : DoesStep old new log log' wire session started s s' r → Called (is_renewed s.doing)
  step_caused (finds on some none not_so at_so answer) =
      as_doing follows on (quiet false none (came_as new past now at false s s' stepped.Found r at_so answer (found on some s.cursor.doing refl)))
  step_caused (looks on empty bytes held none not_so looked) =
      let start = cursor_by on (holds bytes) held in
      let first_held = start_holds new log log' wire now at s places since calls told room start bytes held empty in
      let is : at_rest s.cursor ≡ at_rest at.cursor = ap at_rest start.cursor in
      as_doing follows on (quiet false none
      (looked_came new past now at s so_far.same (at_rest s.cursor) refl bytes false (opening refl first_held is) (λ e breaks not. first_broken bytes e first_held breaks is) s' r looked))
  step_caused (ends on empty rests_so over none not_so at_so answer) =
      as_doing follows on (quiet false none (came_as new past now at false s s' (stepped.Gives (try.Ready result.Exhausted)) r at_so answer
      (start_ends new log log' wire now at s places since calls told room so_far.same on (cursor_by on rests rests_so) rests_so empty (over_none s.cursor sound.unbound over))))
  step_caused (not_asked on empty rests_so may e fails none not_so at_so answer) =
      as_doing follows on (quiet false none (came_as new past now at false s s' (stepped.Gives (try.Failed e)) r at_so answer
      (start_fails new log log' wire now at s places since calls told room so_far.same on (cursor_by on rests rests_so) rests_so empty may e (subst (λ (x : Option Session). FailsBy (CannotAsk s.cursor x) e) (sym (first on)) fails))))
  step_caused (asks_more on empty rests_so may sending new_one h) =
      let start = cursor_by on rests rests_so in
      let may_more = start_may new log log' wire now at s places since calls told room start rests_so empty may in
      let rested : at_rest s.cursor ≡ at.cursor = ap (λ (d : cursors.Doing). record s.cursor { doing = d }) (sym rests_so) ∙ start.cursor in
      as_doing follows on
      (more_caused old new log log' wire now at s so_far.same may_more rested empty on session sending new_one.command_is new_one.single places since started s' r h calls told room
      (subst (λ (stage : Stage). Flies old past (get_more at.cursor session) stage) (sym new_one.new) tt))
  step_caused (waits_more on empty sending asks_so h) =
      let more_so = cursor_by on (asks sending) asks_so in
      let flies = more_so.3 in
      let asking_so = subst (λ (d : cursors.Doing). cursors.SoundBy false s.cursor d) asks_so sound.asks_its_own in
      as_doing follows on
      (more_caused old new log log' wire now at s so_far.same more_so.0 more_so.1 empty on flies.session sending flies.command_is asking_so.waits_on.single places since started s' r h calls told room
      (subst (λ (c : ClientCursor). Flies old past (get_more c flies.session) sending.stage) more_so.1 flies.flies))
  step_caused (not_resumed on e fails none not_so at_so answer) =
      as_doing owes on (quiet false none (came_as new past now at false s s' (stepped.Gives (try.Failed e)) r at_so answer
      (owing_fails new log log' wire now at s places since calls told room so_far.same on (sound_by owes on).none_left (so_far_by old past (is_lone now) at s owes on so_far) session plainly e fails)))
  step_caused (resumes_now on sending new_one h) =
      let aside = sound_by owes on in
      as_doing owes on
      (resumption_caused new now at s so_far.same aside.none_left aside.quiet session (plain_if now session plainly) old log log' wire started sending s' r h places since calls told room (so_far_by old past (is_lone now) at s owes on so_far)
      (new_one.command_is ∙ ap (λ (a : ChangeStreamAggregate). resuming_in a wire session) so_far.same) new_one.retries_is
      (subst (λ (stage : Stage). Flies old past (resuming_in at.aggregate wire session) stage) (sym new_one.new) tt))
  step_caused (waits_resumption sending on h) =
      let aside = (sound_by (resumes sending) on).0 in
      let came_so = so_far_by old past (is_lone now) at s (resumes sending) on so_far in
      as_doing (resumes sending) on
      (resumption_caused new now at s so_far.same aside.none_left aside.quiet came_so.1.session came_so.1.plainly old log log' wire started sending s' r h places since calls told room came_so.0 came_so.1.command_is came_so.1.retries_is came_so.1.flies)
  step_caused (closes before on not_so came_so polls heard) =
      let parts = sound_by (kills before) on in
      as_doing (kills before) on
      (closing_caused old new log log' wire now at s before so_far.same parts.0.none_left parts.2 parts.3 came_so polls s' r heard places since calls told room (so_far_by old past (is_lone now) at s (kills before) on so_far))
  step_caused (renews on bytes held none not_so looked) =
      as_doing renewed on (quiet true none
      (looked_came new past now at s so_far.same (at_rest s.cursor) refl bytes true (renewed_reply new log log' wire now at s places since calls told room (so_far_by old past (is_lone now) at s renewed on so_far) bytes held) (λ e breaks not. absurd cc) s' r looked))
