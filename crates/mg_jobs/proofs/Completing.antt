-- How jobs end over a link that loses nothing, where their server holds nothing back.
use Rattle.std.proofs.Common.{◌≡◌, ◌≢◌, ◌⊎◌, ◌≤◌, ◌<◌, ◌+◌, ◌++◌, ℕ, suc, ℤ, pos, Bool, true, false, List, [], ◌∷◌, length, take, Contains, Option, Some, None, refl, sym, ap, ◌∙◌, subst, inl, inr, arith}
use Rattle.std.specs.Prelude.{IfOk, Result, Ok, Err, slice_get, unwrap_or, if◌then◌else◌}
use Rattle.std.specs.List.{concat}
use Rattle.std.specs.Ordering.{int_eq}
use Rattle.std.proofs.lemmas.Bool.{cases_Bool}
use Rattle.std.proofs.lemmas.Bool.Decides.{Decides-int_eq}
use Rattle.mg_bson.specs.Tree.{Tree, Fields, no_fields}
use Rattle.mg_bson.specs.Raw.{fields}
use Rattle.mg_bson.specs.Reading.{doc}
use Rattle.mg_bson.specs.Writable.{max_len}
use Rattle.mg_server.specs.Calls.{HeardAt, HeardBy, NoneBroken, Past, RequestFails, out_of_memory, was_broken, was_lost, was_refused}
use Rattle.mg_link.specs.Exec.{FailsAs, FailsByReply, IsSuccess}
use Rattle.mg_server.specs.History.{Step, state_of}
use Rattle.mg_link.specs.Link.{Awaited, LogTold}
use Rattle.mg_link.specs.Log.{Sight, fault, reply, Call}
use Rattle.mg_link.specs.Namespace.{Space, Target, target}
use Rattle.mg_link.specs.Reply.{verdict_of}
use Rattle.mg_link.specs.Resumable.{is_resumable}
use Rattle.mg_link.specs.Session.{Session}
use Rattle.mg_link.specs.Errors.{plain}
use Rattle.mg_server.specs.Standing.{SeenFits}
use Rattle.mg_server.specs.Commands.{Batch, batch_of}
use Rattle.mg_server.specs.State.{State, events_between, watching}
use Rattle.mg_server.specs.Step.{documents_of}
use Rattle.mg_link.specs.declared.error.Error.{Error}
use Rattle.mg_link.specs.declared.error.ErrorKind.{ErrorKind}
use Rattle.mg_link.specs.declared.error.ErrorKind.TheVariants as kind
use Rattle.mg_link.specs.declared.reply.Verdict.{Verdict}
use Rattle.mg_link.specs.declared.reply.Verdict.TheVariants as verdict
use Rattle.mg_server.proofs.Owners.{same_some}
use Rattle.mg_server.proofs.Pasts.{heard_by}
use Rattle.mg_link.proofs.Places.{get_within}
use Rattle.mg_options.specs.declared.change_stream.ChangeStreamOptions.{ChangeStreamOptions}
use Rattle.mg_ops.specs.Bodies.{insert_command}
use Rattle.mg_ops.specs.Commands.{kill_command}
use Rattle.mg_ops.specs.Cursors.{Manner, next_command}
use Rattle.mg_ops.specs.Sessions.{in_session}
use Rattle.mg_ops.specs.Failing.{CannotBeInserted, CannotBeSent, HasBadSize}
use Rattle.mg_ops.specs.Limits.{PassesLimit, SizePasses, SomePassLimit, max_stored}
use Rattle.mg_ops.specs.Naming.{IsNamed}
use Rattle.mg_ops.specs.Writes.{ListsAs}
use Rattle.mg_ops.specs.declared.change_stream.WatchArgs.{WatchArgs}
use Rattle.mg_ops.proofs.Asking.{asks_for_more, asks_to_insert_plainly}
use Rattle.mg_cursor.specs.Batches as batches
use Rattle.mg_cursor.specs.Causes.{HeardMore, MoreFails, TellsNoCursor}
use Rattle.mg_cursor.specs.Client.{ClientCursor, at_rest, get_more}
use Rattle.mg_change.specs.Causes.{CallFails, CallNone, Called, HeardAggregate, HoldsFirst, IsSettled, MoreFailed, Replied, Resumes}
use Rattle.mg_change.specs.Causes as causes
use Rattle.mg_change.specs.ClientOpenings.{first_aggregate}
use Rattle.mg_change.specs.ClientStreams.{ClientStream, is_read_again, resuming_in}
use Rattle.mg_change.specs.ClientStreams as streams
use Rattle.mg_change.specs.ClosingCauses.{LastFails, last_ids, last_kill}
use Rattle.mg_change.specs.ClosingStreams.{unless_none}
use Rattle.mg_change.specs.OpeningCauses.{OpeningFails}
use Rattle.mg_change.specs.OpeningCauses as openings
use Rattle.mg_players.specs.Causes.{AllCaused, AllSentIn, Answered, CloseCaused, Closed, Course, FollowCaused, GetCaused, InsertEnds, OpenCaused, OpenFailed, OutcomeCaused, PutEnds, SentIn, course, sent_at}
use Rattle.mg_jobs.specs.Completing.{AllWell, AnswerWell, AnswersAreWell, AnswersWell, AreFresh, CallsWell, EndsWell, Excuses, FindsNothing, FitsLimits, FollowWell, GetWell, IsExcused, IsExcusedGet, IsExcusedInsert, IsMemory, IsShort, IsTooLarge, JobWell, NoneLeft, Nothings, OutcomeEnds, OutcomeFits, OutcomeGot, OutcomeWell, SendFresh, finds_none, is_over, own_excuses, takes_again, takes_first}
use Rattle.mg_turns.specs.Counts.{Faultless, LosesNothing}
use Rattle.mg_players.specs.Drawing.{as_sent, supply_of}
use Rattle.mg_players.specs.Follows.{IsArgsFor, poll_of}
use Rattle.mg_players.specs.Gets.{GetTask, IsGetCommand, get_of}
use Rattle.mg_players.specs.Headline.{AllFiled, GetGave, OutcomeFiled}
use Rattle.mg_jobs.specs.Own.{IsHeard, IsHeardBefore, IsOwnCommand, IsOwnCursor, asks, kills, opens, resumes}
use Rattle.mg_ops.specs.InsertCauses.{InsertFails, IsPiece, ListsFor, cannot_encode, cannot_insert, command_fails, no_memory}
use Rattle.mg_script.specs.Plan.{Begin, Task, follow, get, insert, put}
use Rattle.mg_players.specs.Progress.{AllPlayed, FollowPlayed, GetPlayed, InsertPlayed, IsPlayed, OpenPlayed, PutPlayed, pends_last, turns_done}
use Rattle.mg_jobs.specs.PutLimits.{HasFewIndexes, IsExcusedPut, IsValidPut}
use Rattle.mg_players.specs.Puts.{PutTask, Supply, put_of}
use Rattle.mg_players.specs.Sends.{AllSendOnly, MaySend, SendsOnly}
use Rattle.mg_script.specs.declared.outcome.Answer.{Answer}
use Rattle.mg_script.specs.declared.outcome.Answer.TheVariants as answers
use Rattle.mg_script.specs.declared.outcome.Ended.{Ended}
use Rattle.mg_script.specs.declared.outcome.Ended.TheVariants as ended
use Rattle.mg_script.specs.declared.outcome.Outcome.{Outcome}
use Rattle.mg_script.specs.declared.outcome.Played.{Played}
use Rattle.mg_turns.specs.declared.turned.Turned.{Turned}
use Rattle.mg_players.proofs.Drawing.{played_as_sent}
use Rattle.mg_players.proofs.Batches.{breaks_not, events_are, tells_not}
use Rattle.mg_jobs.proofs.GetWell.{get_well}
use Rattle.mg_jobs.proofs.InsertWell.{never_lists}
use Rattle.mg_jobs.proofs.Own.{HasOwn, StandsOwn, called_own, opened_own}
use Rattle.mg_jobs.proofs.OwnFurther.{stands_further}
use Rattle.mg_jobs.proofs.PutHeard.{OwnStep}
use Rattle.mg_jobs.proofs.PutWell.{put_well}
use Rattle.mg_jobs.proofs.SaidTwice.{follow_both, get_both, insert_both, put_both}
use Rattle.mg_players.proofs.Creating.{CreatesNone, asked_creates, asking_none, inserting_none, killing_none, resuming_none}
use Rattle.mg_players.proofs.Prompting.{Brings, IsPrompted, IsWatchOnly, more_gives, prompt_success, prompted}
use Rattle.mg_jobs.proofs.Identified.{IsHonest, StandsWell, empty_well, failed_so, failed_well, gave_well, heard_more, honest_over, next_well, opened_well, replied_well, resumed_brings, settled_first, watch_at}
use Rattle.mg_server.proofs.Watched.{IsWatched}

-- ---- what a call heard

-- nothing that it sent was lost or refused, and each success has a batch where one was asked for
record IsServed (watched : ℤ → Type 0) (past : Past) : Type 0 where
  lost : (command : Fields) → HeardBy past command fault → ⊥
  refused : (command : Fields) (bytes : List ℕ) (wire : ℤ) (e : Error) → CreatesNone command → HeardBy past command (reply bytes) → FailsByReply (doc bytes) wire e → ⊥
  honest : IsHonest watched past

fails_as : (o : Option Fields) (wire : ℤ) (e : Error) → verdict_of (unwrap_or o no_fields) ≡ verdict.Success → FailsByReply o wire e → ⊥
unfolding verdict_of
fails_as (Some said) wire e success fails = subst (λ (v : Verdict). FailsAs v said wire e) success fails
fails_as None wire e success fails = absurd cc

fails_not : (bytes : List ℕ) (wire : ℤ) (e : Error) → IsSuccess bytes → FailsByReply (doc bytes) wire e → ⊥
unfolding fields
fails_not bytes wire e success fails = fails_as (doc bytes) wire e success fails

-- the step of a command whose reply was heard
record Taken (own : List ℕ) (history : List Step) (command : Fields) (bytes : List ℕ) (call : Call) : Type 0 where
  position : ℕ
  position_is : call.position ≡ Some position
  step : Step
  is_own : Contains own position
  there : slice_get history position ≡ Some step
  at_once : IsPrompted step
  before_is : state_of (take position history) ≡ at_once.before
  command_is : fields step.command ≡ command
  reply_is : bytes ≡ step.reply

module _ (c : Course) (i k : ℕ) (begun calls : List Call) (wire : ℤ) (places : List ℕ) (whole : length begun ≡ c.begun) (faultless : Faultless begun calls) (well : AnswersWell c i calls) (sent : AllSentIn c i k places) where
  own_place : (place : ℕ) (command : Fields) (seen : Sight) → HeardAt (sent_at places calls wire) place command seen → SentIn c i k place
  own_place place command seen h =
      elim h.own [
        | inl is ↦ sent place is
        | inr late ↦ let within = get_within calls place h.call h.there in absurd (omega arith)
      ]

  never_lost : (command : Fields) → HeardBy (sent_at places calls wire) command fault → ⊥
  never_lost command h =
      let own = own_place h.place command fault h.heard in
      let behind = own.from in
      let within = get_within begun h.place h.heard.call (faultless h.place h.heard.call h.heard.there h.heard.has_seen) in
      omega arith

  abbrev hears : (command : Fields) (bytes : List ℕ) → HeardBy (sent_at places calls wire) command (reply bytes) → IsHeard c i calls bytes
  hears command bytes h = record { done = k; place = h.place; sent = own_place h.place command (reply bytes) h.heard; call = h.heard.call; there = h.heard.there; has_seen = h.heard.has_seen }

  hears_now : (command : Fields) (bytes : List ℕ) → HeardBy (sent_at places calls wire) command (reply bytes) → IsHeardBefore c i calls (suc k) bytes
  hears_now command bytes h = let now : k < suc k = omega arith in (hears command bytes h, now)

  taken : (command : Fields) (bytes : List ℕ) (h : HeardBy (sent_at places calls wire) command (reply bytes)) → Taken well.own well.history command bytes h.heard.call
  taken command bytes h =
      let own = own_place h.place command (reply bytes) h.heard in
      let p = well.stands.placed h.place h.heard.call bytes h.heard.there h.heard.has_seen in
      let s = well.stands.same h.place h.heard.call p.0 h.heard.there p.1 in
      let is_own = well.positions k h.place h.heard.call p.0 own h.heard.there p.1 in
      record {
        position = p.0;
        position_is = p.1;
        step = s.0;
        is_own = is_own;
        there = s.1;
        at_once = prompted well.history well.own p.0 s.0 well.legal well.prompt is_own s.1;
        before_is = refl;
        command_is = ap fields s.2 ∙ h.heard.command_is;
        reply_is = subst (λ (x : Sight). SeenFits x s.0.reply) h.heard.has_seen s.3;
      }

  -- a getMore that brought no event
  none_there : (id : ℤ) (at : Space) (m : Manner) (session : Option Session) (bytes : List ℕ) (batch : Batch) → IsNamed at → (id ≢ pos 0 → IsWatched well.history id) → HeardBy (sent_at places calls wire) (in_session session (next_command id at m)) (reply bytes) → IsSuccess bytes → batch_of (fields bytes) ≡ Some batch → batch.events ≡ [] → NoneLeft c i calls well.history k
  none_there id at m session bytes batch named watches h success there empty =
      let t = taken (in_session session (next_command id at m)) bytes h in
      let asks = asks_for_more t.step.command id at m.size m.wait m.comment session named t.command_is in
      let only : IsWatchOnly t.at_once.before id = λ c stood. watch_at well.history t.position id well.legal watches c (ap (λ (s : State). s.cursors id) t.before_is ∙ stood) in
      let gives = more_gives t.step t.at_once (subst IsSuccess t.reply_is success) id at batch only asks (subst (λ (b : List ℕ). batch_of (fields b) ≡ Some batch) t.reply_is there) in
      record {
        place = h.place;
        sent = own_place h.place (in_session session (next_command id at m)) (reply bytes) h.heard;
        call = h.heard.call;
        there = h.heard.there;
        position = t.position;
        position_is = t.position_is;
        step = t.step;
        stands = t.there;
        id = id;
        space = at;
        asks = asks;
        watch = gives.0;
        from = gives.1;
        stood = subst (λ (s : State). s.cursors id ≡ Some (watching gives.0 gives.1)) (sym t.before_is) gives.2;
        none = subst (λ (s : State). events_between gives.0 s.changes gives.1 (length s.changes) ≡ []) (sym t.before_is) (gives.3 empty);
      }

  serves : IsServed (IsWatched well.history) (sent_at places calls wire)
  serves = record {
    lost = never_lost;
    refused = λ command bytes wire e other h fails. let t = taken command bytes h in fails_not bytes wire e (subst IsSuccess (sym t.reply_is) (prompt_success t.step t.at_once (asked_creates t.step.command command t.command_is other))) fails;
    honest = honest_over well.history calls well.legal well.stands places wire;
  }

-- a request of it fails for want of memory alone, where no success of its server's is broken
request_well : (watched : ℤ → Type 0) (past : Past) (command : Fields) (retries : Bool) (Broken : List ℕ → Error → Type 0) (e : Error) → IsServed watched past → CreatesNone command
    → ((bytes : List ℕ) → HeardBy past command (reply bytes) → IsSuccess bytes → Broken bytes e → ⊥) → RequestFails past command retries Broken e → e.kind ≡ kind.OutOfMemory
request_well watched past command retries Broken e served other whole (out_of_memory room) = room
request_well watched past command retries Broken e served other whole (was_lost is heard) = absurd (served.lost command (heard_by past command retries fault heard))
request_well watched past command retries Broken e served other whole (was_refused bytes heard fails) = absurd (served.refused command bytes past.wire e other (heard_by past command retries (reply bytes) heard) fails)
request_well watched past command retries Broken e served other whole (was_broken bytes heard success broken) = absurd (whole bytes (heard_by past command retries (reply bytes) heard) success broken)

cannot_build : (size : Option ℕ) (command : Fields) (e : Error) → (SizePasses size → ⊥) → HasBadSize size e ⊎ CannotBeSent command e → CannotBeSent command e
cannot_build size command e fits (inl bad) = absurd (fits bad.1)
cannot_build size command e fits (inr by) = by

-- ---- a call

-- a call that failed so is excused, and a resumption is owed behind it only where it was short before, or is now
abbrev FailsSo : (WatchArgs → Type 0) → (List ℕ → Type 0) → Type 0 → ClientStream → Error → Type 0
FailsSo are_its heard short after e = IsExcused are_its heard short e × (after.doing ≡ streams.owes → short ⊎ (e.kind ≡ kind.OutOfMemory))

fails_short : (are_its : WatchArgs → Type 0) (heard : List ℕ → Type 0) (short : Type 0) (after : ClientStream) (e : Error) → e.kind ≡ kind.OutOfMemory → FailsSo are_its heard short after e
fails_short are_its heard short after e room = (inl room, λ owes. inr room)

-- where a call left nothing owed
settled_quits : {B : Type 0} (s : ClientStream) → IsSettled s → s.doing ≡ streams.owes → B
settled_quits s settled owing = let bad : streams.follows ≡ streams.owes = sym settled.follows_on ∙ owing in absurd cc

-- a call ended well
record EndedWell (watched : ℤ → Type 0) (are_its : WatchArgs → Type 0) (heard : List ℕ → Type 0) (short nothing : Type 0) (after : ClientStream) (answer : Answer) : Type 0 where
  stands : StandsWell watched are_its after
  owes : after.doing ≡ streams.owes → short ⊎ IsShort answer
  looked : (bytes : List ℕ) → HoldsFirst after bytes → ⊥
  is_well : AnswerWell (IsExcused are_its heard short) nothing answer

module _ (watched : ℤ → Type 0) (are_its : WatchArgs → Type 0) (fits : (args : WatchArgs) → are_its args → SizePasses args.options.batch_size → ⊥) (heard : List ℕ → Type 0) (short : Type 0) (past : Past) (served : IsServed watched past)
    (hears_own : (command : Fields) (bytes : List ℕ) → HeardBy past command (reply bytes) → heard bytes) (at : ClientStream) (well : StandsWell watched are_its at) (own : StandsOwn heard at) (owed : at.doing ≡ streams.owes → short) where
  resumption_brings : (session : Option Session) (bytes : List ℕ) → HeardBy past (resuming_in at.aggregate past.wire session) (reply bytes) → IsSuccess bytes → Brings bytes
  resumption_brings session bytes h success = (resumed_brings watched are_its past served.honest at well session bytes h success).0

  more_brings : (bytes : List ℕ) → HeardMore past at.cursor bytes → Brings bytes
  more_brings bytes h = (heard_more watched are_its past served.honest at well bytes h).0

  -- a getMore fails for want of memory alone, by which nothing resumes
  more_room : (e : Error) → MoreFails past at.cursor e → e.kind ≡ kind.OutOfMemory
  more_room e f =
      request_well watched past (get_more at.cursor f.session) false TellsNoCursor e served (asking_none at.cursor.id at.cursor.space at.cursor.manner f.session)
      (λ bytes h success breaks. let b = more_brings bytes (record { session = f.session; heard = h; success = success }) in tells_not bytes b.batch e b.there breaks) f.fails

  untold_room : (e : Error) → MoreFails past at.cursor e ⊎ (e ≡ plain kind.OutOfMemory) → e.kind ≡ kind.OutOfMemory
  untold_room e (inl fails) = more_room e fails
  untold_room e (inr full) = ap (λ (x : Error). x.kind) full

  more_fails : (e : Error) (c : ClientCursor) → MoreFailed past at e c → is_resumable e.kind e.labels e.wire_version ≡ true → ⊥
  more_fails e c (causes.untold may why is) resumable =
      let bad : is_resumable kind.OutOfMemory e.labels e.wire_version ≡ true = subst (λ (k : ErrorKind). is_resumable k e.labels e.wire_version ≡ true) (untold_room e why) resumable in cc
  more_fails e c (causes.broken may bytes said h says is breaks) resumable = let b = more_brings bytes h in breaks_not bytes b.batch e b.there breaks

  -- so a stream resumes only where that was owed
  was_short : (c : ClientCursor) → Resumes past at c → short
  was_short c (causes.owed owes is) = owed owes.owes_one
  was_short c (causes.more_failed e why resumable) = absurd (more_fails e c why resumable)
  was_short c (causes.first_broken bytes e first breaks is) = let b = well.first bytes first in absurd (breaks_not bytes b.batch e b.there breaks)

  -- a failure is excused
  fails_well : (after : ClientStream) (e : Error) → CallFails past None at after e → FailsSo are_its heard short after e
  fails_well after e (causes.may_lose room owes may) = fails_short are_its heard short after e room
  fails_well after e (causes.no_memory room stays) = fails_short are_its heard short after e room
  fails_well after e (causes.not_resumed owes why fails) =
      fails_short are_its heard short after e
      (request_well watched past (resuming_in at.aggregate past.wire fails.session) (is_read_again fails.session) TellsNoCursor e served (resuming_none at.aggregate past.wire fails.session)
      (λ bytes h success breaks. let b = resumption_brings fails.session bytes h success in tells_not bytes b.batch e b.there breaks) fails.fails)
  fails_well after e (causes.batch_broken bytes owes r breaks) = let b = (replied_well watched are_its past served.honest at well true bytes after.cursor r).0 in absurd (breaks_not bytes b.batch e b.there breaks)
  fails_well after e (causes.cannot_resume owes why now by) =
      let is = was_short (at_rest after.cursor) why in
      let plainly = subst (λ (x : Option Session). HasBadSize at.aggregate.args.options.batch_size e ⊎ CannotBeSent (resuming_in at.aggregate past.wire x) e) (by.0 refl) by.1 in (
        inr (resuming_in at.aggregate past.wire None, resumes is at.aggregate past.wire well.args own.known refl, cannot_build at.aggregate.args.options.batch_size (resuming_in at.aggregate past.wire None) e (fits at.aggregate.args well.args) plainly),
        (λ owing. inl is),
      )
  fails_well after e (causes.refused_more may fails final is empty settled) = absurd (final.room (more_room e fails))
  fails_well after e (causes.cannot_ask may by is empty settled) = (
    inr (
      get_more at.cursor None,
      asks at.aggregate.args well.args at.cursor.id at.cursor.space own.cursor.own (ap (next_command at.cursor.id at.cursor.space) well.cursor.manner_is),
      cannot_build at.cursor.manner.size (get_more at.cursor None) e (λ passes. fits at.aggregate.args well.args (subst (λ (manner : Manner). SizePasses manner.size) well.cursor.manner_is passes)) by,
    ),
    (λ owing. settled_quits after settled owing),
  )
  fails_well after e (causes.no_id event next lacks is settled) = let id = (next_well watched are_its past served.honest at well (event ∷ after.behind) after.cursor next).0.0 in let has = id.1 in absurd cc

  stands_own : (answer : Answer) (after : ClientStream) → Called past None at after (poll_of answer) → StandsOwn heard after
  stands_own answer after called = called_own heard past hears_own at more_room own answer after called

  -- why it finds nothing, by what it comes of
  module _ (nothing : Type 0) (first : (bytes : List ℕ) → HoldsFirst at bytes → nothing) (again : (bytes : List ℕ) → short → HeardAggregate past true at bytes → nothing) (over : at.cursor.id ≡ pos 0 → nothing)
      (none : (bytes : List ℕ) (batch : Batch) → HeardMore past at.cursor bytes → batch_of (fields bytes) ≡ Some batch → batch.events ≡ [] → nothing) where
    empty_by : (resumed : Bool) (bytes : List ℕ) (c : ClientCursor) → Replied past true at resumed bytes c → batches.documents_of bytes ≡ Some [] → nothing
    empty_by resumed bytes c (causes.opening not held is) holds = first bytes held
    empty_by resumed bytes c (causes.more not may said h says is) holds = let b = more_brings bytes h in none bytes b.batch h b.there (sym (events_are bytes b.batch [] b.there holds))
    empty_by resumed bytes c (causes.once_more so old new r killed is) holds = again bytes (was_short old r.why) r.heard

    none_by : (after : ClientStream) (resumed : Bool) → CallNone past true at after resumed → nothing
    none_by after resumed (causes.came_empty empty bytes r holds is) = empty_by resumed bytes after.cursor r holds
    none_by after resumed (causes.none_left not settled empty gone is same) = over gone

    called_well : (answer : Answer) (after : ClientStream) → Called past None at after (poll_of answer) → EndedWell watched are_its heard short nothing after answer
    called_well (answers.Event event) after called = record {
      stands = gave_well watched are_its past served.honest at well after event called;
      owes = λ owing. settled_quits after called.settled owing;
      looked = settled_first after called.settled;
      is_well = tt;
    }
    called_well answers.Nothing after called = record {
      stands = empty_well watched are_its past served.honest at well after called.0 called.1;
      owes = λ owing. settled_quits after called.1.settled owing;
      looked = settled_first after called.1.settled;
      is_well = none_by after called.0 called.1.why;
    }
    called_well (answers.Failed e) after called =
        let fails = fails_well after e called.why in
        record {
          stands = failed_well watched are_its past served.honest at well after e called;
          owes = fails.1;
          looked = (failed_so watched are_its past served.honest at well after e called.why).0;
          is_well = fails.0;
        }

-- ---- the opening

module _ (watched : ℤ → Type 0) (are_its : WatchArgs → Type 0) (fits : (args : WatchArgs) → are_its args → SizePasses args.options.batch_size → ⊥) (heard : List ℕ → Type 0) (past : Past) (served : IsServed watched past) (args : WatchArgs) (its : are_its args) where
  opening_brings : (session : Option Session) (bytes : List ℕ) → HeardBy past (resuming_in (first_aggregate args) past.wire session) (reply bytes) → IsSuccess bytes → Brings bytes
  opening_brings session bytes h success = (served.honest.watch (target args.target) args.pipeline.items args.options session bytes h success).0

  opening_well : (e : Error) → OpeningFails past None args e → IsExcused are_its heard ⊥ e
  opening_well e (openings.out_of_memory full) = inl (ap (λ (x : Error). x.kind) full)
  opening_well e (openings.request sent fails) =
      inl (request_well watched past (resuming_in (first_aggregate args) past.wire sent) (is_read_again sent) TellsNoCursor e served (resuming_none (first_aggregate args) past.wire sent)
      (λ bytes h success breaks. let b = opening_brings sent bytes h success in tells_not bytes b.batch e b.there breaks) fails)
  opening_well e (openings.not_built by) =
      inr (resuming_in (first_aggregate args) past.wire None, opens args past.wire its refl, cannot_build args.options.batch_size (resuming_in (first_aggregate args) past.wire None) e (fits args its) by)

-- ---- the closing

no_id_left : (id : ℤ) → id ≡ pos 0 → unless_none id ≡ []
no_id_left id none = ap (λ (b : Bool). if b then [] else id ∷ []) ((Decides-int_eq id (pos 0)).1 none)

none_left : (id : ℤ) → id ≡ pos 0 → unless_none id ++ unless_none (pos 0) ≡ []
none_left id none = ap (λ (ids : List ℤ). ids ++ unless_none (pos 0)) (no_id_left id none) ∙ no_id_left (pos 0) refl

one_left : (id : ℤ) → id ≢ pos 0 → unless_none id ++ unless_none (pos 0) ≡ id ∷ []
one_left id held =
    elim (cases_Bool (int_eq id (pos 0))) [
      | inl none ↦ absurd (held ((Decides-int_eq id (pos 0)).0 none))
      | inr other ↦ ap (λ (b : Bool). (if b then [] else id ∷ []) ++ unless_none (pos 0)) other ∙ ap (λ (ids : List ℤ). id ∷ ids) (no_id_left (pos 0) refl)
    ]

kill_by : (watched : ℤ → Type 0) (are_its : WatchArgs → Type 0) (heard : List ℕ → Type 0) (past : Past) (last : ClientStream) (e : Error) → IsServed watched past → HasOwn heard last.cursor → last_ids last ≢ [] → (e.kind ≡ kind.OutOfMemory) ⊎ (RequestFails past (last_kill last) false NoneBroken e ⊎ CannotBeSent (last_kill last) e) → IsExcused are_its heard ⊥ e
kill_by watched are_its heard past last e served own some (inl room) = inl room
kill_by watched are_its heard past last e served own some (inr (inl fails)) =
    inl (request_well watched past (last_kill last) false NoneBroken e served (killing_none last.cursor.space (last_ids last)) (λ bytes h success none. absurd none) fails)
kill_by watched are_its heard past last e served own some (inr (inr by)) =
    let held : last.cursor.id ≢ pos 0 = λ none. some (none_left last.cursor.id none) in
    inr (last_kill last, kills last.cursor.id last.cursor.space own (ap (kill_command last.cursor.space) (one_left last.cursor.id held)), by)

kill_well : (watched : ℤ → Type 0) (are_its : WatchArgs → Type 0) (heard : List ℕ → Type 0) (past : Past) (last : ClientStream) (e : Error) → IsServed watched past → HasOwn heard last.cursor → LastFails past last e → IsExcused are_its heard ⊥ e
kill_well watched are_its heard past last e served own f = kill_by watched are_its heard past last e served own f.some_left f.why

-- ---- all calls

-- what was heard before a call was heard before the next one
heard_still : (c : Course) (i : ℕ) (calls : List Call) (n : ℕ) (bytes : List ℕ) → IsHeardBefore c i calls n bytes → IsHeardBefore c i calls (suc n) bytes
heard_still c i calls n bytes h = let less = h.1 in (h.0, omega arith)

-- so it was heard at some time
own_ever : (c : Course) (i : ℕ) (calls : List Call) (n : ℕ) (at : ClientStream) → StandsOwn (IsHeardBefore c i calls n) at → StandsOwn (IsHeard c i calls) at
own_ever c i calls n at own = stands_further (IsHeardBefore c i calls n) (IsHeard c i calls) (λ bytes h. h.0) at own

module _ (c : Course) (i : ℕ) (begun calls : List Call) (wire : ℤ) (whole : length begun ≡ c.begun) (faultless : Faultless begun calls) (well : AnswersWell c i calls) (are_its : WatchArgs → Type 0) (fits : (args : WatchArgs) → are_its args → SizePasses args.options.batch_size → ⊥) where
  one_well : (short : Type 0) (at after : ClientStream) (n : ℕ) (places : List ℕ) (answer : Answer) → AllSentIn c i n places → Called (sent_at places calls wire) None at after (poll_of answer) → StandsWell (IsWatched well.history) are_its at → StandsOwn (IsHeardBefore c i calls n) at → (at.doing ≡ streams.owes → short)
      → ((bytes : List ℕ) → HoldsFirst at bytes → n ≡ 1) → StandsOwn (IsHeardBefore c i calls (suc n)) after × EndedWell (IsWatched well.history) are_its (IsHeard c i calls) short (FindsNothing c i calls well.history n short) after answer
  one_well short at after n places answer sent called stands own owed first = (
    stands_own (IsWatched well.history) are_its fits (IsHeardBefore c i calls (suc n)) short (sent_at places calls wire) (serves c i n begun calls wire places whole faultless well sent) (hears_now c i n begun calls wire places whole faultless well sent) at stands
        (stands_further (IsHeardBefore c i calls n) (IsHeardBefore c i calls (suc n)) (heard_still c i calls n) at own) owed answer after called,
    called_well (IsWatched well.history) are_its fits (IsHeard c i calls) short (sent_at places calls wire) (serves c i n begun calls wire places whole faultless well sent) (hears c i n begun calls wire places whole faultless well sent) at stands (own_ever c i calls n at own) owed (FindsNothing c i calls well.history n short)
        (λ bytes held. takes_first (first bytes held))
        (λ bytes is h. takes_again is h.heard.place (own_place c i n begun calls wire places whole faultless well sent h.heard.place (resuming_in at.aggregate wire h.session) (reply bytes) h.heard.heard) h.heard.heard.call h.heard.heard.there at.aggregate wire
        (subst (λ (x : Option Session). fields h.heard.heard.call.command ≡ resuming_in at.aggregate wire x) h.plainly h.heard.heard.command_is))
        (λ gone. is_over at.cursor.space (subst (λ (id : ℤ). IsOwnCursor (IsHeardBefore c i calls n) id at.cursor.space) gone own.cursor.own))
        (λ bytes batch h there empty. finds_none (none_there c i n begun calls wire places whole faultless well sent at.cursor.id at.cursor.space at.cursor.manner h.session bytes batch stands.cursor.named stands.cursor.watches h.heard h.success there empty)) answer after called,
  )

  calls_well : (short : Type 0) (n : ℕ) (at : ClientStream) (owns : List (List ℕ)) (said : List Answer) (last : ClientStream) → ((k : ℕ) (own : List ℕ) → slice_get owns k ≡ Some own → AllSentIn c i (n + k) own) → Answered calls wire at owns said last → StandsWell (IsWatched well.history) are_its at → StandsOwn (IsHeardBefore c i calls n) at → (at.doing ≡ streams.owes → short)
      → ((bytes : List ℕ) → HoldsFirst at bytes → n ≡ 1) → StandsOwn (IsHeard c i calls) last × AnswersAreWell (IsExcused are_its (IsHeard c i calls)) (FindsNothing c i calls well.history) n short said
  calls_well short n at [] [] last sent is stands own owed first = (subst (StandsOwn (IsHeard c i calls)) (sym is) (own_ever c i calls n at own), tt)
  calls_well short n at (places ∷ owns) (answer ∷ said) last sent answered stands own owed first =
      let now : n + 0 ≡ n = omega arith in
      let one = one_well short at answered.0 n places answer (subst (λ (m : ℕ). AllSentIn c i m places) now (sent 0 places refl)) answered.1 stands own owed first in
      let more = calls_well (short ⊎ IsShort answer) (suc n) answered.0 owns said last (λ k own there. let next : n + suc k ≡ suc n + k = omega arith in subst (λ (m : ℕ). AllSentIn c i m own) next (sent (suc k) own there)) answered.2 one.1.stands one.0 one.1.owes (λ bytes held. absurd (one.1.looked bytes held)) in
      (more.0, (one.1.is_well, more.1))
  calls_well short n at [] (answer ∷ said) last sent answered stands own owed first = absurd answered
  calls_well short n at (places ∷ owns) [] last sent answered stands own owed first = absurd answered

never_unfinished : (count answered k : ℕ) (pended : Bool) → OpenPlayed {A = Unit {0}} ended.Unfinished count answered k pended → suc count ≤ k → ⊥
never_unfinished count answered k pended (inl more) turns = omega arith
never_unfinished count answered k pended (inr all) turns = omega arith

module _ (awaited : Awaited) (c : Course) (i : ℕ) (begun calls : List Call) (wire : ℤ) (whole : length begun ≡ c.begun) (faultless : Faultless begun calls) (well : AnswersWell c i calls) where
  served_so : {A : Type 0} (k : ℕ) (last : ClientStream) (places : List ℕ) (closed : Ended A) (close : Closed c i k calls wire last places closed) → IsServed (IsWatched well.history) (sent_at places calls wire)
  served_so k last places closed close = serves c i k begun calls wire places whole faultless well close.sent

  closed_well : {A : Type 0} (are_its : WatchArgs → Type 0) (closed : Ended A) (count answered k : ℕ) (pended : Bool) (last : ClientStream) (places : List ℕ) → StandsOwn (IsHeard c i calls) last → OpenPlayed closed count answered k pended → suc count ≤ k → CloseCaused awaited c i count answered calls wire last places closed
      → (answered ≡ count) × EndsWell (IsExcused are_its (IsHeard c i calls) ⊥) closed
  closed_well are_its ended.Unfinished count answered k pended last places own played turns close = absurd (never_unfinished count answered k pended played turns)
  closed_well are_its (ended.Gave x) count answered k pended last places own played turns close = (played.0, tt)
  closed_well are_its (ended.Failed e) count answered k pended last places own played turns close =
      (played.0, kill_well (IsWatched well.history) are_its (IsHeard c i calls) (sent_at places calls wire) last e (served_so answered last places (ended.Failed e) close) own.cursor.own close.by)

-- ---- a follow

size_fits : (on : Target) (start : Begin) (filter : Option Fields) (batch : Option ℕ) → (SizePasses batch → ⊥) → (args : WatchArgs) → IsArgsFor on start filter batch args → SizePasses args.options.batch_size → ⊥
size_fits on start filter batch small args are passes = small (subst SizePasses (ap (λ (o : ChangeStreamOptions). o.batch_size) are.options_are) passes)

module _ (awaited : Awaited) (c : Course) (i : ℕ) (begun calls : List Call) (wire : ℤ) (whole : length begun ≡ c.begun) (faultless : Faultless begun calls) (well : AnswersWell c i calls) (on : Target) (start : Begin) (filter : Option Fields) (batch : Option ℕ) (small : SizePasses batch → ⊥) where
  abbrev its_excuses : Excuses
  its_excuses = IsExcused (IsArgsFor on start filter batch) (IsHeard c i calls)

  open_well : {A : Type 0} (count k : ℕ) (pended : Bool) (said : List Answer) (token : Option Tree) (alive : Bool) (closed : Ended A) → OpenCaused awaited c i count calls wire on start filter batch said token alive closed → OpenPlayed closed count (length said) k pended → suc count ≤ k → CallsWell its_excuses (FindsNothing c i calls well.history) count said closed
  open_well count k pended said token alive closed o played turns =
      let fits = size_fits on start filter batch small in
      let a = o.answers in
      let stands = opened_well (IsWatched well.history) (IsArgsFor on start filter batch) (sent_at a.places calls wire) (honest_over well.history calls well.legal well.stands a.places wire) o.args o.args_are a.first a.opened in
      let own = opened_own (IsHeardBefore c i calls 1) (sent_at a.places calls wire) (hears_now c i 0 begun calls wire a.places whole faultless well a.sent) o.args a.first a.opened in
      let all = calls_well c i begun calls wire whole faultless well (IsArgsFor on start filter batch) fits ⊥ 1 a.first a.owns said o.last (λ k own there. let next : suc k ≡ 1 + k = omega arith in subst (λ (m : ℕ). AllSentIn c i m own) next (a.sent_each k own there)) a.answered stands own (λ owing. let bad : streams.follows ≡ streams.owes = sym (ap (λ (s : ClientStream). s.doing) a.opened.stream_is) ∙ owing in cc) (λ bytes held. refl) in
      let end = closed_well awaited c i begun calls wire whole faultless well (IsArgsFor on start filter batch) closed count (length said) k pended o.last o.now all.0 played turns o.close in
      record { all = end.0; answered = all.1; closes = end.1 }

  unopened_well : (e : Error) → OpenFailed c i calls wire on start filter batch e → its_excuses ⊥ e
  unopened_well e f =
      opening_well (IsWatched well.history) (IsArgsFor on start filter batch) (size_fits on start filter batch small) (IsHeard c i calls) (sent_at f.places calls wire) (serves c i 0 begun calls wire f.places whole faultless well f.sent) f.args f.args_are e f.fails

  follow_well : {A : Type 0} (opened : Ended A) (count k : ℕ) (pended : Bool) (said : List Answer) (token : Option Tree) (alive : Bool) (closed : Ended A) → FollowCaused awaited c i count calls wire on start filter batch opened said token alive closed → FollowPlayed opened closed count (length said) alive k pended → suc count ≤ k
      → FollowWell its_excuses (FindsNothing c i calls well.history) count opened said closed
  follow_well ended.Unfinished count k pended said token alive closed caused played turns = let none_done = played.0 in omega arith
  follow_well (ended.Gave x) count k pended said token alive closed caused played turns = open_well count k pended said token alive closed caused played turns
  follow_well (ended.Failed e) count k pended said token alive closed caused played turns =
      elim caused [
        | inl none ↦ inl none.0
        | inr f ↦ unopened_well e f
      ]

-- ---- an insert

-- a piece of documents has some, and no more than one command takes
too_large : (at : Space) (sent piece : List Fields) (e : Error) → IsPiece sent piece → CannotBeInserted piece e ⊎ CannotBeSent (insert_command at piece) e → IsTooLarge piece e ⊎ CannotBeSent (insert_command at piece) e
too_large at sent piece e part (inl (inl none)) = let some : 1 ≤ 0 = subst (λ (ds : List Fields). 1 ≤ length ds) none.1 part.some in absurd (omega arith)
too_large at sent piece e part (inl (inr bad)) =
    elim bad.1 [
      | inl many ↦ let few = part.few in absurd (omega arith)
      | inr some ↦ inl (bad.0, some)
    ]
too_large at sent piece e part (inr by) = inr by

module _ (awaited : Awaited) (c : Course) (i : ℕ) (begun calls : List Call) (wire : ℤ) (whole : length begun ≡ c.begun) (faultless : Faultless begun calls) (well : AnswersWell c i calls) (ns : Space) (docs : List Fields) (named : IsNamed ns) (fresh : SendFresh well.own well.history) where
  module _ (places : List ℕ) (sent : AllSentIn c i 0 places) where
    -- its server lists no failure
    never_listed : (piece : List Fields) (bytes : List ℕ) (k : ErrorKind) → HeardBy (sent_at places calls wire) (insert_command ns piece) (reply bytes) → ListsAs (length piece) (fields bytes) k → ⊥
    never_listed piece bytes k heard lists =
        let t = taken c i 0 begun calls wire places whole faultless well sent (insert_command ns piece) bytes heard in
        let asks = asks_to_insert_plainly t.step.command ns piece named t.command_is in
        let fresh_there = subst (λ (s : State). AreFresh (documents_of s ns) piece) t.before_is (fresh t.position t.step ns piece t.is_own t.there asks) in
        never_lists t.step t.at_once ns piece asks fresh_there (length piece) k (subst (λ (b : List ℕ). ListsAs (length piece) (fields b) k) t.reply_is lists)

    served : IsServed (IsWatched well.history) (sent_at places calls wire)
    served = serves c i 0 begun calls wire places whole faultless well sent

    insert_fails : (e : Error) → InsertFails (sent_at places calls wire) ns docs e → IsExcusedInsert ns docs e
    insert_fails e (no_memory room) = inl room
    insert_fails e (command_fails piece part fails) =
        inl (request_well (IsWatched well.history) (sent_at places calls wire) (insert_command ns piece) false (ListsFor piece) e served (inserting_none ns piece) (λ bytes heard success lists. never_listed piece bytes e.kind heard lists.1) fails)
    insert_fails e (cannot_encode d part by) = inr (inr (d, part, by))
    insert_fails e (cannot_insert piece part by) = inr (inl (piece, part, too_large ns docs piece e part by))

  insert_well : (end : Ended ℕ) (k : ℕ) (last : Bool) → InsertEnds awaited c i calls wire ns docs end → InsertPlayed end k last → 1 ≤ k → EndsWell (IsExcusedInsert ns docs) end
  insert_well ended.Unfinished k last ends played turns = omega arith
  insert_well (ended.Gave n) k last ends played turns = tt
  insert_well (ended.Failed e) k last ends played turns = insert_fails ends.places ends.sent e ends.by

-- ---- a put

-- the step of a command whose reply was heard
abbrev own_step : (own : List ℕ) (history : List Step) (command : Fields) (bytes : List ℕ) (call : Call) → Taken own history command bytes call → OwnStep own history command bytes
own_step own history command bytes call t = record { position = t.position; step = t.step; is_own = t.is_own; there = t.there; at_once = t.at_once; before_is = t.before_is; command_is = t.command_is; reply_is = t.reply_is }

put_ends : (awaited : Awaited) (c : Course) (i : ℕ) (begun calls : List Call) (wire : ℤ) (supply : Supply) → length begun ≡ c.begun → Faultless begun calls → (well : AnswersWell c i calls) (t : PutTask) → IsValidPut t → SendFresh well.own well.history → HasFewIndexes well.own well.history t → (end : Ended ℕ) (k : ℕ) (last : Bool) → PutEnds awaited c i calls wire supply t end → PutPlayed end (length t.pieces) k last
    → length t.pieces + 2 ≤ k → EndsWell (IsExcusedPut (IsHeard c i calls) t) end
put_ends awaited c i begun calls wire supply whole faultless well t valid fresh few end k last ends played turns =
    let n : ℕ = suc (length ends.owns) in
    put_well well.own well.history well.legal (sent_at ends.places calls wire) (IsHeard c i calls) t (never_lost c i n begun calls wire ends.places whole faultless well ends.sent)
    (λ command bytes h known. own_step well.own well.history command bytes h.heard.call (taken c i n begun calls wire ends.places whole faultless well ends.sent command bytes h)) (hears c i n begun calls wire ends.places whole faultless well ends.sent)
    valid fresh
    (λ place place' command command' bytes bytes' h h' k k' less.
    let before = taken c i n begun calls wire ends.places whole faultless well ends.sent command bytes (record { place = place; heard = h }) in
    let behind = taken c i n begun calls wire ends.places whole faultless well ends.sent command' bytes' (record { place = place'; heard = h' }) in
    well.stands.rising place place' h.call h'.call before.position behind.position less h.there h'.there before.position_is behind.position_is) few (sent_at (concat ends.owns ++ ends.places) calls wire) end k last ends.by played turns

-- ---- a job

jobs_end_well : (awaited : Awaited) (c : Course) (i : ℕ) (begun calls : List Call) (wire : ℤ) (supply : Supply) (t : Task) (r : Outcome) → length begun ≡ c.begun → Faultless begun calls → OutcomeCaused awaited c i calls wire supply t r
    → IsPlayed t (turns_done i c.order c.notes) (pends_last i c.order c.notes) r → OutcomeGot c i calls t r → OutcomeWell c i calls t r
jobs_end_well awaited c i begun calls wire supply (follow on count start filter batch) r whole faultless caused played got =
    let k : ℕ = turns_done i c.order c.notes in
    let last : Bool = pends_last i c.order c.notes in
    follow_both (λ opened said token alive closed. FollowCaused awaited c i count calls wire on start filter batch opened said.items token alive closed) (λ opened said token alive closed. FollowPlayed opened closed count (length said.items) alive k last)
    (λ opened said token alive closed. (by : AnswersWell c i calls) → (SizePasses batch → ⊥) → suc count ≤ k → FollowWell (IsExcused (IsArgsFor on start filter batch) (IsHeard c i calls)) (FindsNothing c i calls by.history) count opened said.items closed)
    (λ opened said token alive closed why plays well small turns. follow_well awaited c i begun calls wire whole faultless well on start filter batch small opened count k last said.items token alive closed why plays turns)
    r caused played
jobs_end_well awaited c i begun calls wire supply (insert ns docs) r whole faultless caused played got =
    let k : ℕ = turns_done i c.order c.notes in
    let last : Bool = pends_last i c.order c.notes in
    insert_both (λ end. InsertEnds awaited c i calls wire ns docs end) (λ end. InsertPlayed end k last) (λ end. (answers : AnswersWell c i calls) → IsNamed ns → SendFresh answers.own answers.history → 1 ≤ k → EndsWell (IsExcusedInsert ns docs) end)
    (λ end why plays well named fresh turns. insert_well awaited c i begun calls wire whole faultless well ns docs named fresh end k last why plays turns)
    r caused played
jobs_end_well awaited c i begun calls wire supply (put db bucket name id chunk pieces) r whole faultless caused played got =
    let k : ℕ = turns_done i c.order c.notes in
    let last : Bool = pends_last i c.order c.notes in
    let t : PutTask = put_of db bucket name id chunk pieces in
    put_both (λ end. PutEnds awaited c i calls wire supply t end) (λ end. PutPlayed end (length pieces) k last) (λ end. (answers : AnswersWell c i calls) → IsValidPut t → SendFresh answers.own answers.history → HasFewIndexes answers.own answers.history t → length pieces + 2 ≤ k → EndsWell (IsExcusedPut (IsHeard c i calls) t) end)
    (λ end why plays well valid fresh few turns. put_ends awaited c i begun calls wire supply whole faultless well t valid fresh few end k last why plays turns)
    r caused played
jobs_end_well awaited c i begun calls wire supply (get db bucket id read) r whole faultless caused played got =
    let k : ℕ = turns_done i c.order c.notes in
    let last : Bool = pends_last i c.order c.notes in
    let g : GetTask = get_of db bucket id read in
    get_both (λ bytes end. GetCaused awaited c i calls wire g bytes.items end × GetPlayed end (length bytes.items) k last read) (λ bytes end. SendsOnly (IsGetCommand g) c i calls × GetGave c i calls g bytes.items end) (λ bytes end. (answers : AnswersWell c i calls) → GetWell (IsExcusedGet (IsHeard c i calls) g) c i calls answers.history g end)
    (λ bytes end why gave well named some its stands turns. get_well c i begun calls wire whole faultless well g named some its stands gave.0 awaited end bytes.items k last why.0 why.1 gave.1 turns)
    r
    (get_both (λ bytes end. GetCaused awaited c i calls wire g bytes.items end) (λ bytes end. GetPlayed end (length bytes.items) k last read) (λ bytes end. GetCaused awaited c i calls wire g bytes.items end × GetPlayed end (length bytes.items) k last read) (λ bytes end why plays. (why, plays)) r caused played)
    got

-- ---- a job that fits the limits

-- by other excuses, each of which is one of these
module _ (excuses others : Excuses) (each : (short : Type 0) (e : Error) → excuses short e → others short e) where
  ends_so : {A : Type 0} (end : Ended A) → EndsWell (excuses ⊥) end → EndsWell (others ⊥) end
  ends_so ended.Unfinished well = well
  ends_so (ended.Gave x) well = tt
  ends_so (ended.Failed e) well = each ⊥ e well

  answer_so : (short nothing : Type 0) (answer : Answer) → AnswerWell (excuses short) nothing answer → AnswerWell (others short) nothing answer
  answer_so short nothing (answers.Event event) well = tt
  answer_so short nothing answers.Nothing well = well
  answer_so short nothing (answers.Failed e) well = each short e well

  answers_so : (nothings : Nothings) (n : ℕ) (short : Type 0) (said : List Answer) → AnswersAreWell excuses nothings n short said → AnswersAreWell others nothings n short said
  answers_so nothings n short [] well = tt
  answers_so nothings n short (answer ∷ more) well = (answer_so short (nothings n short) answer well.0, answers_so nothings (suc n) (short ⊎ IsShort answer) more well.1)

  follow_so : {A B : Type 0} (nothings : Nothings) (count : ℕ) (opened : Ended A) (said : List Answer) (closed : Ended B) → FollowWell excuses nothings count opened said closed → FollowWell others nothings count opened said closed
  follow_so nothings count ended.Unfinished said closed well = well
  follow_so nothings count (ended.Gave x) said closed well = record { all = well.all; answered = answers_so nothings 1 ⊥ said well.answered; closes = ends_so closed well.closes }
  follow_so nothings count (ended.Failed e) said closed well = each ⊥ e well

  outcome_so : (c : Course) (i : ℕ) (calls : List Call) (t : Task) (r : Outcome) → OutcomeEnds excuses c i calls t r → OutcomeEnds others c i calls t r
  outcome_so c i calls (follow on count start filter batch) r well =
      let k : ℕ = turns_done i c.order c.notes in
      follow_both (λ opened said token alive closed. (by : AnswersWell c i calls) → (SizePasses batch → ⊥) → suc count ≤ k → FollowWell excuses (FindsNothing c i calls by.history) count opened said.items closed)
      (λ opened said token alive closed. (by : AnswersWell c i calls) → (SizePasses batch → ⊥) → suc count ≤ k → FollowWell excuses (FindsNothing c i calls by.history) count opened said.items closed)
      (λ opened said token alive closed. (by : AnswersWell c i calls) → (SizePasses batch → ⊥) → suc count ≤ k → FollowWell others (FindsNothing c i calls by.history) count opened said.items closed)
      (λ opened said token alive closed ends again by small turns. follow_so (FindsNothing c i calls by.history) count opened said.items closed (ends by small turns)) r well well
  outcome_so c i calls (insert ns docs) r well =
      let k : ℕ = turns_done i c.order c.notes in
      insert_both (λ end. (by : AnswersWell c i calls) → IsNamed ns → SendFresh by.own by.history → 1 ≤ k → EndsWell (excuses ⊥) end) (λ end. (by : AnswersWell c i calls) → IsNamed ns → SendFresh by.own by.history → 1 ≤ k → EndsWell (excuses ⊥) end)
      (λ end. (by : AnswersWell c i calls) → IsNamed ns → SendFresh by.own by.history → 1 ≤ k → EndsWell (others ⊥) end) (λ end ends again by named fresh turns. ends_so end (ends by named fresh turns)) r well well
  outcome_so c i calls (put db bucket name id chunk pieces) r well =
      let k : ℕ = turns_done i c.order c.notes in
      let t : PutTask = put_of db bucket name id chunk pieces in
      put_both (λ end. (by : AnswersWell c i calls) → IsValidPut t → SendFresh by.own by.history → HasFewIndexes by.own by.history t → length pieces + 2 ≤ k → EndsWell (excuses ⊥) end) (λ end. (by : AnswersWell c i calls) → IsValidPut t → SendFresh by.own by.history → HasFewIndexes by.own by.history t → length pieces + 2 ≤ k → EndsWell (excuses ⊥) end)
      (λ end. (by : AnswersWell c i calls) → IsValidPut t → SendFresh by.own by.history → HasFewIndexes by.own by.history t → length pieces + 2 ≤ k → EndsWell (others ⊥) end) (λ end ends again by valid fresh few turns. ends_so end (ends by valid fresh few turns)) r well well
  outcome_so c i calls (get db bucket id read) r well =
      let g : GetTask = get_of db bucket id read in
      get_both (λ bytes end. (by : AnswersWell c i calls) → GetWell (excuses ⊥) c i calls by.history g end) (λ bytes end. (by : AnswersWell c i calls) → GetWell (excuses ⊥) c i calls by.history g end) (λ bytes end. (by : AnswersWell c i calls) → GetWell (others ⊥) c i calls by.history g end)
      (λ bytes end ends again by named some its stands turns. ends_so end (ends by named some its stands turns)) r well well

-- a command that is sent where it is short
any_short : (are_its : WatchArgs → Type 0) (heard : List ℕ → Type 0) (short : Type 0) (command : Fields) → IsOwnCommand are_its heard short command → IsOwnCommand are_its heard (Unit {0}) command
any_short are_its heard short command (opens args wire its is) = opens args wire its is
any_short are_its heard short command (resumes so a wire its known is) = resumes tt a wire its known is
any_short are_its heard short command (asks args its id at own is) = asks args its id at own is
any_short are_its heard short command (kills id at own is) = kills id at own is

-- what is too large to be sent is too large to be stored
stored_passes : (d : Fields) → PassesLimit max_len d → PassesLimit max_stored d
stored_passes d (inl long) = inl (omega arith)
stored_passes d (inr other) = inr other

insert_memory : (ns : Space) (docs : List Fields) → ((piece : List Fields) → IsPiece docs piece → (SomePassLimit piece → ⊥) × (PassesLimit max_len (insert_command ns piece) → ⊥)) → (e : Error) → IsExcusedInsert ns docs e → e.kind ≡ kind.OutOfMemory
insert_memory ns docs fit e (inl room) = room
insert_memory ns docs fit e (inr (inl by)) =
    let limits = fit by.0 by.1 in
    elim by.2 [
      | inl large ↦ absurd (limits.0 large.1)
      | inr long ↦ absurd (limits.1 long.1)
    ]
insert_memory ns docs fit e (inr (inr by)) = absurd ((fit (by.0 ∷ []) by.1).0 (inl (stored_passes by.0 by.2.1)))

fits_memory : (c : Course) (i : ℕ) (calls : List Call) (t : Task) → FitsLimits c i calls t → (short : Type 0) (e : Error) → own_excuses c i calls t short e → e.kind ≡ kind.OutOfMemory
fits_memory c i calls (follow on count start filter batch) fit short e excused =
    elim excused [
      | inl room ↦ room
      | inr by ↦ absurd (fit by.0 (any_short (IsArgsFor on start filter batch) (IsHeard c i calls) short by.0 by.1) by.2.1)
    ]
fits_memory c i calls (insert ns docs) fit short e excused = insert_memory ns docs fit e excused
fits_memory c i calls (put db bucket name id chunk pieces) fit short e excused =
    elim excused [
      | inl room ↦ room
      | inr cannot ↦ absurd (fit e cannot)
    ]
fits_memory c i calls (get db bucket id read) fit short e excused =
    elim excused [
      | inl room ↦ room
      | inr by ↦ absurd (fit by.0 by.1 by.2.1)
    ]

jobs_fit : (c : Course) (i : ℕ) (calls : List Call) (t : Task) (r : Outcome) → OutcomeWell c i calls t r → OutcomeFits c i calls t r
jobs_fit c i calls t r well fit = outcome_so (own_excuses c i calls t) IsMemory (fits_memory c i calls t fit) c i calls t r well

pub jobs_end : (awaited : Awaited) (c : Course) (i : ℕ) (begun calls : List Call) (wire : ℤ) (supply : Supply) (t : Task) (r : Outcome) → length begun ≡ c.begun → Faultless begun calls → OutcomeCaused awaited c i calls wire supply t r → IsPlayed t (turns_done i c.order c.notes) (pends_last i c.order c.notes) r → OutcomeGot c i calls t r
    → JobWell c i calls t r
jobs_end awaited c i begun calls wire supply t r whole faultless caused played got = let well = jobs_end_well awaited c i begun calls wire supply t r whole faultless caused played got in (well, jobs_fit c i calls t r well)

-- ---- a run

-- what a get sent and gave
has_got : (supply : Supply) (tasks : List Task) (c : Course) (i : ℕ) (calls : List Call) (t : Task) (r : Outcome) → SendsOnly (MaySend (supply_of supply tasks c.order i) (as_sent supply.ids tasks c.order i t)) c i calls → OutcomeFiled c i calls t r → OutcomeGot c i calls (as_sent supply.ids tasks c.order i t) r
has_got supply tasks c i calls (follow on count start filter batch) r sends filed = tt
has_got supply tasks c i calls (insert ns docs) r sends filed = tt
has_got supply tasks c i calls (put db bucket name id chunk pieces) r sends filed = tt
has_got supply tasks c i calls (get db bucket id read) r sends filed =
    let g : GetTask = get_of db bucket id read in
    get_both (λ bytes end. GetGave c i calls g bytes.items end) (λ bytes end. GetGave c i calls g bytes.items end) (λ bytes end. SendsOnly (IsGetCommand g) c i calls × GetGave c i calls g bytes.items end) (λ bytes end gave again. (sends, gave)) r filed filed

module _ (supply : Supply) (awaited : Awaited) (log log' : LogTold) (wire : ℤ) (tasks : List Task) (order : List ℕ) where
  all_well : (notes : List Turned) (outcomes : List Outcome) → LosesNothing log log' → AllCaused supply awaited log log' wire tasks order notes outcomes → AllPlayed tasks order notes outcomes → AllFiled log log' tasks order notes outcomes → AllSendOnly supply log log' tasks order notes
      → AllWell supply.ids log log' tasks order notes outcomes
  all_well notes outcomes lossless caused played filed sends calls told =
      let by = caused calls told in
      let kept = lossless calls told in
      let gave = filed calls told in
      let sent = sends calls told in
      let here = by.1 in
      let there = kept.1 in
      let same : kept.0 ≡ by.0 = cc in
      let gave_is : gave.0 ≡ by.0 = same_some gave.0 by.0 (sym gave.1 ∙ here) in
      let sent_is : sent.0 ≡ by.0 = same_some sent.0 by.0 (sym sent.1 ∙ here) in
      let c : Course = course calls order notes in (
        by.0,
        by.1,
        (λ i t r ht hr. jobs_end awaited c i calls by.0 wire (supply_of supply tasks order i) (as_sent supply.ids tasks order i t) r refl (subst (λ (cs : List Call). Faultless calls cs) same kept.2) (by.2 i t r ht hr) (played_as_sent supply.ids tasks order i t (turns_done i order notes) (pends_last i order notes) r (played i t r ht hr))
            (has_got supply tasks c i by.0 t r (subst (λ (cs : List Call). SendsOnly (MaySend (supply_of supply tasks order i) (as_sent supply.ids tasks order i t)) c i cs) sent_is (sent.2 i t ht)) (subst (λ (cs : List Call). OutcomeFiled c i cs t r) gave_is (gave.2 i t r ht hr)))),
      )

  -- the same of a run, unless memory ran out
  pub well_so : (result : Result Played Error) → LosesNothing log log' → IfOk result (λ p. AllCaused supply awaited log log' wire tasks order p.turns.items p.outcomes.items) → IfOk result (λ p. AllPlayed tasks order p.turns.items p.outcomes.items) → IfOk result (λ p. AllFiled log log' tasks order p.turns.items p.outcomes.items)
      → IfOk result (λ p. AllSendOnly supply log log' tasks order p.turns.items) → IfOk result (λ p. AllWell supply.ids log log' tasks order p.turns.items p.outcomes.items)
  well_so (Ok p) lossless caused played filed sends = all_well p.turns.items p.outcomes.items lossless caused played filed sends
  well_so (Err e) lossless caused played filed sends = tt
