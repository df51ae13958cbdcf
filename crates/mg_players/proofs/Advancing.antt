-- How far jobs come, turn by turn.
use Rattle.std.proofs.Common.{◌≡◌, ◌+◌, ◌-◌, ◌*◌, ◌<◌, ◌≤◌, ◌⊎◌, ℕ, zero, suc, Bool, true, false, cond, List, [], ◌∷◌, ◌++◌, Option, Some, None, Result, Ok, Err, refl, sym, ap, ◌∙◌, subst, inl, inr, length, take, arith, add-mul}
use Rattle.std.specs.Prelude.{slice_get, slice_set, nat_eq, nat_lt, IfOk, IsSome, is_some, Vec}
use Rattle.std.proofs.lemmas.Bool.{cases_eq, eq-eqb, ne_eqb, lt-ltb}
use Rattle.std.proofs.lemmas.List.{length-map}
use Rattle.std.proofs.lemmas.Nat.{mul-le}
use Rattle.mg_link.specs.Acts.{PendsAfter}
use Rattle.mg_link.specs.Causes.{RoseJust, one_if}
use Rattle.mg_link.specs.declared.error.Error.{Error}
use Rattle.mg_link.specs.Moment.{PendsJust}
use Rattle.mg_bson.specs.Tree.{Fields}
use Rattle.mg_change.specs.ClientStreams.{IsBetween, stream_ticket}
use Rattle.mg_change.specs.ClosingStreams.{ClosingStream, stream_closing_ticket}
use Rattle.mg_change.specs.OpeningView.{ticket_in}
use Rattle.mg_change.specs.StreamCalls.{event_ending}
use Rattle.mg_change.specs.StreamView.{stream_of}
use Rattle.mg_change.specs.declared.event_poll.EventPoll.{EventPoll}
use Rattle.mg_change.specs.declared.event_poll.EventPoll.TheVariants as polls
use Rattle.mg_change.specs.declared.opening.Opening.{Opening}
use Rattle.mg_change.specs.declared.stream.ChangeStream.{ChangeStream}
use Rattle.mg_turns.specs.Counts.{RoseIf}
use Rattle.mg_players.specs.Follows.{HasEnded, HasGiven, IsFailed, IsUnfinished}
use Rattle.mg_players.specs.Gets.{KeepsRead, OpensAs, done_behind, get_end, gets_ended, gets_ticket, room_of}
use Rattle.mg_players.specs.Headline.{DoTasks, OutcomeOf, OutcomesOf, task_of}
use Rattle.mg_script.specs.Plan.{Task, task, tasks, pieces}
use Rattle.mg_players.specs.Playing.{IsSameFollow, end_of, follow_ended, inserts_ended}
use Rattle.mg_players.specs.Progress.{AllAt, AllPlayed, Came, CloseGoes, FollowAt, FitsReads, FollowGoes, FollowPlayed, GetEndedAt, GetGoes, GetPlayed, GetStageAt, GoesBy, InsertAt, InsertGoes, InsertPlayed, InsertReady, IsAt, IsFinished, IsPlayed, JobGoes, NotOpen, OpenPlayed, RestGoes, TurnsBy, calls_of, came, one_unless, pended_since, pends_last, turns_done, PutAt, PutPlayed}
use Rattle.mg_gridfs.specs.Uploads as uploads
use Rattle.mg_gridfs.specs.UploadView.{upload_of}
use Rattle.mg_players.specs.Puts.{IsPutDoing, put_end, puts_ended}
use Rattle.mg_players.specs.declared.put.PutStage.{PutStage}
use Rattle.mg_players.specs.declared.put.PutStage.TheVariants as puts
use Rattle.mg_players.specs.Runs.{has_ended, idle}
use Rattle.mg_script.specs.declared.outcome.Ended.{Ended}
use Rattle.mg_script.specs.declared.outcome.Ended.TheVariants as ended
use Rattle.mg_script.specs.declared.outcome.Outcome.{Outcome}
use Rattle.mg_script.specs.declared.outcome.Played.{Played}
use Rattle.mg_turns.specs.declared.turned.Turned.{Turned}
use Rattle.mg_players.specs.declared.follow.FollowPlayer.{FollowPlayer}
use Rattle.std.specs.declared.alloc.Global.{Global}
use Rattle.mg_gridfs.specs.declared.download.GridFsDownloadStream.{GridFsDownloadStream}
use Rattle.mg_gridfs.specs.declared.open_download.OpenDownloadStream.{OpenDownloadStream}
use Rattle.mg_players.specs.declared.get.GetStage.{GetStage}
use Rattle.mg_players.specs.declared.get.GetStage.TheVariants as gets
use Rattle.mg_players.specs.declared.insert.InsertStage.{InsertStage}
use Rattle.mg_players.specs.declared.insert.InsertStage.TheVariants as inserts
use Rattle.mg_players.specs.declared.follow.Stage.{Stage}
use Rattle.mg_players.specs.declared.follow.Stage.TheVariants as stage
use Rattle.mg_players.specs.declared.player.Player.{Player}
use Rattle.mg_players.specs.declared.player.Player.TheVariants as player
use Rattle.mg_script.specs.declared.script.Job.{Job}
use Rattle.mg_server.proofs.Owners.{same_some}
use Rattle.mg_change.proofs.Resting.{between_holds_none}
use Rattle.mg_link.proofs.Places.{get_set_other, get_set_same}
use Rattle.mg_players.proofs.Knowing.{get_length, length_take, map_joined, one_more, take_next}

-- ---- a follow

pended_on : (pended : Bool) (old mid new : ℕ) → mid ≡ old → RoseIf pended mid new → RoseIf pended old new
pended_on pended old mid new same h = subst (λ m. RoseIf pended m new) same h

pub never_open : (before now : ℕ) (s : Stage) (c c' : Came) → ((calls k : ℕ) (last : Bool) → FollowAt calls s c k last → NotOpen calls c k) → now ≡ before → IsFailed c'.opened → c'.closed ≡ c.closed → c'.answered ≡ c.answered → c'.alive ≡ c.alive → FollowGoes before now s c stage.Ended c'
never_open before now s c c' not_open same failed closed answered alive = (
  false,
  same,
  λ calls k last at. (
    inl (record {
      opened = failed;
      closed = subst (λ e. IsUnfinished e) (sym closed) (not_open calls k last at).closed;
      no_answer = answered ∙ (not_open calls k last at).no_answer;
      no_more = alive ∙ (not_open calls k last at).no_more;
      some = omega arith;
    }),
    refl,
  ),
)

pub open_waits : (before now : ℕ) (o o' : Opening Fields) (c : Came) → PendsAfter 1 (ticket_in o') before now → FollowGoes before now (stage.Opens o) c (stage.Opens o') c
open_waits before now o o' c waits = (
  true,
  waits.1,
  λ calls k last at. (
    record {
      none = omega (arith, at.0.none);
      opened = at.0.opened;
      closed = at.0.closed;
      no_answer = at.0.no_answer;
      all_left = at.0.all_left;
      no_more = at.0.no_more;
    },
    waits.0,
  ),
)

-- an opening that has sent nothing yet
pub begins_open : (before now : ℕ) (o : Opening Fields) (c c' : Came) (s : Stage) → ticket_in o ≡ None → FollowGoes before now (stage.Opens o) c s c' → FollowGoes before now stage.Unopened c s c'
begins_open before now o c c' s none g = (g.0, g.1, λ calls k last at. g.2 calls k last (at.0, ap (λ t. is_some t) none ∙ sym at.1))

pub open_goes : (old mid new : ℕ) (o : Opening Fields) (c c' c'' : Came) (s : Stage) → mid ≡ old → HasGiven c'.opened → c'.closed ≡ c.closed → c'.answered ≡ c.answered → c'.left ≡ c.left → RestGoes mid new c' s c'' → FollowGoes old new (stage.Opens o) c s c''
open_goes old mid new o c c' c'' s same given closed answered left g = (
  g.0,
  pended_on g.0 old mid new same g.1,
  λ calls k last at. g.2 calls k last (record {
    opened = given;
    closed = subst (λ e. IsUnfinished e) (sym closed) at.0.closed;
    answered = omega (arith, answered, at.0.no_answer, at.0.none);
    rest = omega (arith, answered, left, at.0.no_answer, at.0.all_left);
  }),
)

pub stays_open : (before : ℕ) (stream : ChangeStream Fields) (c : Came) → IsBetween (stream_of stream) → 0 < c.left → RestGoes before before c (stage.Open stream) c
stays_open before stream c rests more = (
  false,
  refl,
  λ calls k last at. (
    record { opened = at.opened; closed = at.closed; answered = omega (arith, at.answered); rest = at.rest; more = more },
    ap (λ t. is_some t) (between_holds_none (stream_of stream) rests),
  ),
)

pub goes_to_close : (before now : ℕ) (c c' : Came) (s : Stage) → c.left ≡ 0 → CloseGoes before now c s c' → RestGoes before now c s c'
goes_to_close before now c c' s none g = (
  g.0,
  g.1,
  λ calls k last at. g.2 calls k last (record {
    opened = at.opened;
    closed = at.closed;
    answered = omega (arith, at.rest, none);
    all = omega (arith, at.rest, at.answered, none);
  }),
)

pends_not : (poll : EventPoll) (ticket : Option ℕ) (before now : ℕ) → HasEnded poll → PendsJust (event_ending poll) ticket before now → now ≡ before
pends_not polls.Pending ticket before now over h = absurd over
pends_not (polls.Ready event) ticket before now over h = h
pends_not (polls.Failed e) ticket before now over h = h

-- a call that waits holds a ticket
pub waits_held : (before now : ℕ) (ticket : Option ℕ) (poll : EventPoll) → poll ≡ polls.Pending → PendsJust (event_ending poll) ticket before now → IsSome ticket
waits_held before now ticket poll is pended = (subst (λ (q : EventPoll). PendsJust (event_ending q) ticket before now) is pended).0

pub ask_waits : (before now : ℕ) (stream stream' : ChangeStream Fields) (c : Came) (poll : EventPoll) → poll ≡ polls.Pending → PendsJust (event_ending poll) (stream_ticket (stream_of stream')) before now → FollowGoes before now (stage.Open stream) c (stage.Open stream') c
ask_waits before now stream stream' c poll is pended =
    let waits = subst (λ (q : EventPoll). PendsJust (event_ending q) (stream_ticket (stream_of stream')) before now) is pended in (
      true,
      waits.1,
      λ calls k last at. (
        record { opened = at.0.opened; closed = at.0.closed; answered = omega (arith, at.0.answered); rest = at.0.rest; more = at.0.more },
        waits.0,
      ),
    )

pub ask_goes : (old mid new : ℕ) (stream : ChangeStream Fields) (c c' c'' : Came) (s : Stage) (poll : EventPoll) (ticket : Option ℕ) → HasEnded poll → PendsJust (event_ending poll) ticket old mid → c'.opened ≡ c.opened → c'.closed ≡ c.closed → c'.answered ≡ c.answered + 1 → c'.left ≡ c.left - 1 → RestGoes mid new c' s c'' → FollowGoes old new (stage.Open stream) c s c''
ask_goes old mid new stream c c' c'' s poll ticket over pended opened closed answered left g = (
  g.0,
  pended_on g.0 old mid new (pends_not poll ticket old mid over pended) g.1,
  λ calls k last at. g.2 calls k last (record {
    opened = subst (λ e. HasGiven e) (sym opened) at.0.opened;
    closed = subst (λ e. IsUnfinished e) (sym closed) at.0.closed;
    answered = omega (arith, answered, at.0.answered);
    rest = omega (arith, answered, left, at.0.rest, at.0.more);
  }),
)

pub close_waits : (before now : ℕ) (closing : ClosingStream) (c : Came) → PendsAfter 1 (stream_closing_ticket closing) before now → CloseGoes before now c (stage.Closes closing) c
close_waits before now closing c waits = (
  true,
  waits.1,
  λ calls k last at. (
    record { opened = at.opened; closed = at.closed; answered = at.answered; all = omega (arith, at.all) },
    refl,
    waits.0,
  ),
)

pub close_done : (before now : ℕ) (c c' : Came) → now ≡ before → IsFinished c'.closed → c'.opened ≡ c.opened → c'.answered ≡ c.answered → CloseGoes before now c stage.Ended c'
close_done before now c c' same finished opened answered = (
  false,
  same,
  λ calls k last at. (
    inr (record {
      opened = subst (λ e. HasGiven e) (sym opened) at.opened;
      closed = finished;
      answered = answered ∙ at.answered;
      all = omega (arith, at.all);
    }),
    refl,
  ),
)

pub closing_goes : (before now : ℕ) (closing : ClosingStream) (c c' : Came) (s : Stage) → CloseGoes before now c s c' → FollowGoes before now (stage.Closes closing) c s c'
closing_goes before now closing c c' s g = (g.0, g.1, λ calls k last at. g.2 calls k last at.0)

ended_on : (calls k : ℕ) (last : Bool) (c : Came) → FollowAt calls stage.Ended c k last → FollowAt calls stage.Ended c (k + 1) false
ended_on calls k last c at =
    elim at.0 [
      | inl never ↦ (inl (record { opened = never.opened; closed = never.closed; no_answer = never.no_answer; no_more = never.no_more; some = omega arith }), refl)
      | inr closed ↦ (inr (record { opened = closed.opened; closed = closed.closed; answered = closed.answered; all = omega (arith, closed.all) }), refl)
    ]

pub stays_ended : (before : ℕ) (c : Came) → FollowGoes before before stage.Ended c stage.Ended c
stays_ended before c = (false, refl, λ calls k last at. ended_on calls k last c at)

pub same_came : (f f' : FollowPlayer) → IsSameFollow f f' → (calls k : ℕ) (last : Bool) → FollowAt calls f.stage (came f) k last → FollowAt calls f'.stage (came f') k last
same_came f f' same calls k last at =
    let is : came f' ≡ came f = cc (same.opened_same, same.closed_same, ap (λ xs. length xs) same.answers_same, same.left_same, same.alive_same) in
    subst (λ s. FollowAt calls s (came f') k last) (sym same.stage_same) (subst (λ c. FollowAt calls f.stage c k last) (sym is) at)

-- ---- an insert

pub insert_waits : (before now : ℕ) (p p' : InsertStage) → RoseJust 1 before now → ((k : ℕ) → InsertReady p k → InsertAt p' k true) → InsertGoes before now p p'
insert_waits before now p p' rose so = (true, rose, λ calls k last at. subst (λ n. InsertAt p' n true) (omega arith) (so k at))

pub insert_done : (before now : ℕ) (p : InsertStage) (e : Ended ℕ) → now ≡ before → IsFinished e → InsertGoes before now p (inserts.Ended e)
insert_done before now p e same finished = (false, same, λ calls k last at. (omega arith, finished, refl))

pub insert_over : (before : ℕ) (e : Ended ℕ) → InsertGoes before before (inserts.Ended e) (inserts.Ended e)
insert_over before e = (false, refl, λ calls k last at. (omega arith, at, refl))

insert_stays : (k : ℕ) (last : Bool) (p : InsertStage) → inserts_ended p ≡ true → InsertAt p k last → InsertAt p (k + 1) false
insert_stays k last inserts.Unsent over at = absurd cc
insert_stays k last (inserts.Goes inserting) over at = absurd cc
insert_stays k last (inserts.Ended e) over at = (omega arith, at.1, refl)

-- ---- a get

get_ended_on : (done k : ℕ) (e : Ended (Unit {0})) → GetEndedAt e done k → GetEndedAt e done (k + 1)
get_ended_on done k ended.Unfinished at = absurd at
get_ended_on done k (ended.Gave x) at = (at.0, omega (arith, at.1))
get_ended_on done k (ended.Failed e) at = omega (arith, at)

get_stays : (bytes done read k : ℕ) (last : Bool) (s : GetStage) → gets_ended s ≡ true → GetStageAt s bytes done k last read → GetStageAt s bytes done (k + 1) false read
get_stays bytes done read k last gets.Unsent over at = absurd cc
get_stays bytes done read k last (gets.Opens opening) over at = absurd cc
get_stays bytes done read k last (gets.Reads download room) over at = absurd cc
get_stays bytes done read k last (gets.Ended e) over at = (get_ended_on done k e at.0, at.1, refl, at.3)

pub get_over : (before bytes done read : ℕ) (e : Ended (Unit {0})) → GetGoes before before (gets.Ended e) bytes done (gets.Ended e) bytes done read
get_over before bytes done read e = (false, refl, λ calls k last at. get_stays bytes done read k last (gets.Ended e) refl at)

-- without bytes it fits whatever it had room for
pub fits_none : (bytes done read : ℕ) → bytes ≡ 0 → FitsReads bytes done read
fits_none bytes done read none = subst (λ (n : ℕ). n ≤ (done - 1) * room_of read) (sym none) (omega arith)

-- so it does with as many more bytes as one more read has room for
within_more : (bytes more done room : ℕ) → more ≤ room → 1 ≤ done → bytes ≤ (done - 1) * room → bytes + more ≤ (done + 1 - 1) * room
within_more bytes more done room few some fits =
    let next : done + 1 - 1 ≡ done - 1 + 1 = omega (arith, some) in
    let parts : (done + 1 - 1) * room ≡ (done - 1) * room + 1 * room = ap (λ (n : ℕ). n * room) next ∙ add-mul (done - 1) 1 room in
    let one : 1 * room ≡ room = omega arith in
    omega (arith, few, fits, parts, one)

fits_more : (bytes more done read : ℕ) → more ≤ room_of read → 1 ≤ done → FitsReads bytes done read → FitsReads (bytes + more) (done + 1) read
fits_more bytes more done read few some fits = within_more bytes more done (room_of read) few some fits

-- and behind more calls
within_later : (bytes done k room : ℕ) → done ≤ k → bytes ≤ (done - 1) * room → bytes ≤ (k - 1) * room
within_later bytes done k room less fits = let more = mul-le (done - 1) room (k - 1) room (omega (arith, less)) (omega arith) in omega (arith, fits, more)

fits_later : (bytes done k read : ℕ) → done ≤ k → FitsReads bytes done read → FitsReads bytes k read
fits_later bytes done k read less fits = within_later bytes done k (room_of read) less fits

-- and where nothing was given and no call went on
fits_still : (before after done done' read : ℕ) → after ≡ before → done' ≡ done → FitsReads before done read → FitsReads after done' read
fits_still before after done done' read same on fits = subst (λ (n : ℕ). FitsReads n done' read) (sym same) (subst (λ (n : ℕ). FitsReads before n read) (sym on) fits)

-- behind its opening
pub get_opened_at : (download : GridFsDownloadStream) (s : GetStage) (bytes done done' k read : ℕ) → OpensAs download s → gets_ticket s ≡ None → done ≡ 0 → done' ≡ done_behind s done → k ≡ 0 → bytes ≡ 0 → GetStageAt s bytes done' (k + 1) false read
get_opened_at download gets.Unsent bytes done done' k read opens none first on at empty = absurd opens
get_opened_at download (gets.Opens opening) bytes done done' k read opens none first on at empty = absurd opens
get_opened_at download (gets.Reads d room) bytes done done' k read opens none first on at empty =
    (omega (arith, first, on, at), omega (arith, first, on), omega (arith, first, on), ap (λ o. is_some o) none, fits_none bytes done' read empty)
get_opened_at download (gets.Ended ended.Unfinished) bytes done done' k read opens none first on at empty = absurd opens
get_opened_at download (gets.Ended (ended.Gave x)) bytes done done' k read opens none first on at empty = absurd opens
get_opened_at download (gets.Ended (ended.Failed e)) bytes done done' k read opens none first on at empty = (omega (arith, first, on), omega (arith, first, on), refl, fits_none bytes done' read empty)

-- behind a read of so many bytes, which stand behind those before
pub get_kept_at : (download : GridFsDownloadStream) (room : Vec ℕ Global) (count : ℕ) (before after : List ℕ) (s : GetStage) (done done' k read : ℕ) → KeepsRead download room count before after s → (0 < count → length (before ++ take count room.items) ≡ length before + count) → gets_ticket s ≡ None → done' ≡ done_behind s done → k ≡ done → 1 ≤ done → done ≤ length before + 1
    → count ≤ room_of read → FitsReads (length before) done read → GetStageAt s (length after) done' (k + 1) false read
get_kept_at download room count before after gets.Unsent done done' k read keeps longer none on at some few small fits = absurd keeps
get_kept_at download room count before after (gets.Opens opening) done done' k read keeps longer none on at some few small fits = absurd keeps
get_kept_at download room count before after (gets.Reads d r) done done' k read keeps longer none on at some few small fits =
    let more = keeps.0 in
    let long : length after ≡ length before + count = ap (λ (l : List ℕ). length l) keeps.3 ∙ longer more in
    let fits_on : FitsReads (length after) done' read = subst (λ (n : ℕ). FitsReads n done' read) (sym long) (subst (λ (n : ℕ). FitsReads (length before + count) n read) (sym on) (fits_more (length before) count done read small some fits)) in
    (omega (arith, on, at), omega (arith, on), omega (arith, on, few, long, more), ap (λ o. is_some o) none, fits_on)
get_kept_at download room count before after (gets.Ended ended.Unfinished) done done' k read keeps longer none on at some few small fits = absurd keeps.1
get_kept_at download room count before after (gets.Ended (ended.Gave x)) done done' k read keeps longer none on at some few small fits =
    let same : length after ≡ length before = ap (λ (l : List ℕ). length l) keeps.0 in
    ((omega (arith, on, some), omega (arith, on, at)), omega (arith, on, few, same), refl, fits_still (length before) (length after) done done' read same on fits)
get_kept_at download room count before after (gets.Ended (ended.Failed e)) done done' k read keeps longer none on at some few small fits =
    let same : length after ≡ length before = ap (λ (l : List ℕ). length l) keeps.0 in
    (omega (arith, on, at), omega (arith, on, few, same), refl, fits_still (length before) (length after) done done' read same on fits)

-- it fails where it stood
pub get_fails_at : (bytes done k read : ℕ) (e : Error) → k ≡ done → done ≤ bytes + 1 → FitsReads bytes done read → GetStageAt (gets.Ended (ended.Failed e)) bytes done (k + 1) false read
get_fails_at bytes done k read e at few fits = (omega (arith, at), few, refl, fits)

-- it goes on from one stage to another by a poll that pended, or to its end by one that did not
pub get_waits : (before now : ℕ) (s s' : GetStage) (bytes done read : ℕ) → RoseJust 1 before now → ((k : ℕ) (last : Bool) → GetStageAt s bytes done k last read → GetStageAt s' bytes done k true read) → GetGoes before now s bytes done s' bytes done read
get_waits before now s s' bytes done read rose so = (true, rose, λ calls k last at. subst (λ n. GetStageAt s' bytes done n true read) (omega arith) (so k last at))

pub get_rests : (before now : ℕ) (s s' : GetStage) (bytes done bytes' done' read : ℕ) → now ≡ before → ((k : ℕ) (last : Bool) → GetStageAt s bytes done k last read → GetStageAt s' bytes' done' (k + 1) false read) → GetGoes before now s bytes done s' bytes' done' read
get_rests before now s s' bytes done bytes' done' read same so = (false, same, λ calls k last at. so k last at)

-- A new opening goes on from where nothing was asked for.
pub get_begins : (before now : ℕ) (opening : OpenDownloadStream) (s : GetStage) (bytes done bytes' done' read : ℕ) → gets_ticket (gets.Opens opening) ≡ None → GetGoes before now (gets.Opens opening) bytes done s bytes' done' read → GetGoes before now gets.Unsent bytes done s bytes' done' read
get_begins before now opening s bytes done bytes' done' read none goes = (goes.0, goes.1, λ calls k last at. goes.2 calls k last (at.0, at.1, at.2, ap (λ o. is_some o) none ∙ sym at.3))

-- It fails there.
pub get_fails_first : (before bytes done read : ℕ) (e : Error) → GetGoes before before gets.Unsent bytes done (gets.Ended (ended.Failed e)) bytes done read
get_fails_first before bytes done read e = (false, refl, λ calls k last at. get_fails_at bytes done k read e (at.0 ∙ sym at.1) (let first = at.1 in omega (arith, first)) (fits_none bytes done read at.2))

-- ---- a job

follow_stays : (calls k : ℕ) (last : Bool) (s : Stage) (c : Came) → follow_ended s ≡ true → FollowAt calls s c k last → FollowAt calls s c (k + 1) false
follow_stays calls k last stage.Unopened c over at = absurd cc
follow_stays calls k last (stage.Opens opening) c over at = absurd cc
follow_stays calls k last (stage.Open stream) c over at = absurd cc
follow_stays calls k last (stage.Closes closing) c over at = absurd cc
follow_stays calls k last stage.Ended c over at = ended_on calls k last c at

put_stays : (calls k : ℕ) (last : Bool) (s : PutStage) (done count : ℕ) → puts_ended s ≡ true → PutAt calls s done count k last → PutAt calls s done count (k + 1) false
put_stays calls k last puts.Undrawn done count over at = absurd cc
put_stays calls k last (puts.Begins begun) done count over at = absurd cc
put_stays calls k last (puts.Goes going) done count over at = absurd cc
put_stays calls k last (puts.Ended ended.Unfinished) done count over at = absurd at.0
put_stays calls k last (puts.Ended (ended.Gave n)) done count over at = (omega (arith, at.0), refl)
put_stays calls k last (puts.Ended (ended.Failed e)) done count over at = (elim at.0 [ inl first ↦ inl (first.0, (let some = first.1 in omega (arith, some))) | inr more ↦ inr (omega (arith, more)) ], refl)

-- the turn of a job that has ended counts as one that did not pend
pub over_turns : (p : Player) → has_ended p ≡ true → TurnsBy idle p p
over_turns (player.Insert job) over calls k last at = insert_stays k last job.stage over at
over_turns (player.Follow job) over calls k last at = follow_stays calls k last job.stage (came job) over at
over_turns (player.Put job) over calls k last at = put_stays calls k last job.stage job.done (length job.what.pieces.now) over at
over_turns (player.Get job) over calls k last at = get_stays (length job.bytes.items) job.done job.what.read k last job.stage over at

counted_so : (pended : Bool) (now : ℕ) → RoseIf pended 0 now → (nat_lt 0 now ≡ pended) × (now ≡ one_if pended)
counted_so true now h = let some = h.0 in let one = h.1 in (lt-ltb 0 now (omega (arith, some)), omega (arith, some, one))
counted_so false now h = (ap (nat_lt 0) h, h)

-- over a link that counts from 0 the note is whether the turn pended, which it did once
module _ (before now : ℕ) (note : Turned) (p p' : Player) (none : before ≡ 0) (is : note.pended ≡ nat_lt 0 now) (g : JobGoes before now p p') where
  its_pends : (nat_lt 0 now ≡ g.0) × (now ≡ one_if g.0)
  its_pends = counted_so g.0 now (subst (λ m. RoseIf g.0 m now) none g.1)

  pub noted_so : GoesBy note p p'
  noted_so calls k last at = subst (λ b. IsAt calls p' (k + one_unless b) b) (sym (is ∙ its_pends.0)) (g.2 calls k last at)

  pub noted_once : now ≡ one_if note.pended
  noted_once = its_pends.1 ∙ ap one_if (sym (is ∙ its_pends.0))

-- ---- all jobs

turns_more : (i n : ℕ) (note : Turned) (order : List ℕ) (notes : List Turned) → length order ≡ length notes → turns_done i (order ++ n ∷ []) (notes ++ note ∷ []) ≡ turns_done i order notes + cond (nat_eq i n) (one_unless note.pended) 0
turns_more i n note [] [] same = omega arith
turns_more i n note [] (x ∷ xs) same = absurd cc
turns_more i n note (m ∷ order) [] same = absurd cc
turns_more i n note (m ∷ order) (x ∷ xs) same = let more = turns_more i n note order xs (omega (arith, same)) in omega (arith, more)

last_more : (last : Bool) (i n : ℕ) (note : Turned) (order : List ℕ) (notes : List Turned) → length order ≡ length notes → pended_since last i (order ++ n ∷ []) (notes ++ note ∷ []) ≡ cond (nat_eq i n) note.pended (pended_since last i order notes)
last_more last i n note [] [] same = refl
last_more last i n note [] (x ∷ xs) same = absurd cc
last_more last i n note (m ∷ order) [] same = absurd cc
last_more last i n note (m ∷ order) (x ∷ xs) same = last_more (cond (nat_eq i m) x.pended last) i n note order xs (omega (arith, same))

module _ (order : List ℕ) (notes : List Turned) (k : ℕ) (note : Turned) (same : length order ≡ length notes) where
  at_here : (i calls : ℕ) (p' : Player) → i ≡ k → IsAt calls p' (turns_done i order notes + one_unless note.pended) note.pended → IsAt calls p' (turns_done i (order ++ k ∷ []) (notes ++ note ∷ [])) (pends_last i (order ++ k ∷ []) (notes ++ note ∷ []))
  at_here i calls p' e at =
      let count : turns_done i (order ++ k ∷ []) (notes ++ note ∷ []) ≡ turns_done i order notes + one_unless note.pended = turns_more i k note order notes same ∙ ap (λ b. turns_done i order notes + cond b (one_unless note.pended) 0) (eq-eqb i k e) in
      let newest : pends_last i (order ++ k ∷ []) (notes ++ note ∷ []) ≡ note.pended = last_more false i k note order notes same ∙ ap (λ b. cond b note.pended (pends_last i order notes)) (eq-eqb i k e) in
      subst (λ n. IsAt calls p' n (pends_last i (order ++ k ∷ []) (notes ++ note ∷ []))) (sym count) (subst (λ b. IsAt calls p' (turns_done i order notes + one_unless note.pended) b) (sym newest) at)

  at_other : (i calls : ℕ) (p : Player) → (i ≡ k → ⊥) → IsAt calls p (turns_done i order notes) (pends_last i order notes) → IsAt calls p (turns_done i (order ++ k ∷ []) (notes ++ note ∷ [])) (pends_last i (order ++ k ∷ []) (notes ++ note ∷ []))
  at_other i calls p ne at =
      let more = turns_more i k note order notes same ∙ ap (λ b. turns_done i order notes + cond b (one_unless note.pended) 0) (ne_eqb i k ne) in
      let count : turns_done i (order ++ k ∷ []) (notes ++ note ∷ []) ≡ turns_done i order notes = omega (arith, more) in
      let newest : pends_last i (order ++ k ∷ []) (notes ++ note ∷ []) ≡ pends_last i order notes = last_more false i k note order notes same ∙ ap (λ b. cond b note.pended (pends_last i order notes)) (ne_eqb i k ne) in
      subst (λ n. IsAt calls p n (pends_last i (order ++ k ∷ []) (notes ++ note ∷ []))) (sym count) (subst (λ b. IsAt calls p (turns_done i order notes) b) (sym newest) at)

  -- one job took a turn with a note
  pub at_after : (ts : List Task) (players : List Player) (p p' : Player) → slice_get players k ≡ Some p → TurnsBy note p p' → AllAt ts order notes players → AllAt ts (order ++ k ∷ []) (notes ++ note ∷ []) (slice_set players k p')
  at_after ts players p p' there turn all i t a ht ha =
      elim (cases_eq i k) [
        | inl e ↦
            let here : slice_get players i ≡ Some p = ap (slice_get players) e ∙ there in
            let is : p' ≡ a = same_some p' a (sym (get_set_same players k p p' there) ∙ ap (λ n. slice_get (slice_set players k p') n) (sym e) ∙ ha) in
            subst (λ (x : Player). IsAt (calls_of t) x (turns_done i (order ++ k ∷ []) (notes ++ note ∷ [])) (pends_last i (order ++ k ∷ []) (notes ++ note ∷ []))) is (at_here i (calls_of t) p' e (turn (calls_of t) _ _ (all i t p ht here)))
        | inr ne ↦ at_other i (calls_of t) a ne (all i t a ht (get_set_other players k i a p' ne ha))
      ]

pairs_more : {A B : Type 0} (R : A → B → Type 0) (xs : List A) (ys : List B) (x : A) (y : B) → length ys ≡ length xs → ((i : ℕ) (a : A) (b : B) → slice_get xs i ≡ Some a → slice_get ys i ≡ Some b → R a b) → R x y → (i : ℕ) (a : A) (b : B) → slice_get (xs ++ x ∷ []) i ≡ Some a → slice_get (ys ++ y ∷ []) i ≡ Some b → R a b
pairs_more R [] [] x y same all is zero a b ha hb = subst (λ z. R a z) (same_some y b hb) (subst (λ z. R z y) (same_some x a ha) is)
pairs_more R [] [] x y same all is (suc i) a b ha hb = absurd cc
pairs_more R [] (w ∷ ws) x y same all is i a b ha hb = absurd cc
pairs_more R (v ∷ vs) [] x y same all is i a b ha hb = absurd cc
pairs_more R (v ∷ vs) (w ∷ ws) x y same all is zero a b ha hb = all zero a b ha hb
pairs_more R (v ∷ vs) (w ∷ ws) x y same all is (suc i) a b ha hb = pairs_more R vs ws x y (omega (arith, same)) (λ j c d hc hd. all (suc j) c d hc hd) is i a b ha hb

-- one new job more
pub at_first_more : (jobs : List Job) (k : ℕ) (players : List Player) (job : Job) (p : Player) → slice_get jobs k ≡ Some job → length players ≡ k → AllAt (tasks (take k jobs)) [] [] players → IsAt (calls_of (task job)) p 0 false → AllAt (tasks (take (k + 1) jobs)) [] [] (players ++ p ∷ [])
at_first_more jobs k players job p there count all is =
    subst (λ ts. AllAt ts [] [] (players ++ p ∷ [])) (sym (ap (λ n. tasks (take n jobs)) (sym (one_more k)) ∙ ap tasks (take_next jobs k job there) ∙ map_joined task (take k jobs) (job ∷ [])))
    (pairs_more (λ t q. IsAt (calls_of t) q 0 false) (tasks (take k jobs)) players (task job) p (count ∙ sym (length-map (take k jobs) task ∙ length_take jobs k job there)) all is)

-- one number of the order more was gone through
pub at_next : (ts : List Task) (order : List ℕ) (k n : ℕ) (notes : List Turned) (players : List Player) → slice_get order k ≡ Some n → AllAt ts (take k order ++ n ∷ []) notes players → AllAt ts (take (k + 1) order) notes players
at_next ts order k n notes players there all = subst (λ ns. AllAt ts ns notes players) (sym (take_next order k n there) ∙ ap (λ m. take m order) (one_more k)) all

-- ---- at the end

insert_played : (k : ℕ) (last : Bool) (p : InsertStage) → InsertAt p k last → InsertPlayed (end_of p) k last
insert_played k last inserts.Unsent at = at.0
insert_played k last (inserts.Goes inserting) at = at.0
insert_played k last (inserts.Ended ended.Unfinished) at = absurd at.1
insert_played k last (inserts.Ended (ended.Gave n)) at = (at.0, at.2)
insert_played k last (inserts.Ended (ended.Failed e)) at = (at.0, at.2)

given_so : (opened closed : Ended (Unit {0})) (calls answered : ℕ) (alive : Bool) (k : ℕ) (last : Bool) → HasGiven opened → OpenPlayed closed calls answered k last → FollowPlayed opened closed calls answered alive k last
given_so ended.Unfinished closed calls answered alive k last given h = absurd given
given_so (ended.Gave x) closed calls answered alive k last given h = h
given_so (ended.Failed e) closed calls answered alive k last given h = absurd given

not_open_so : (opened closed : Ended (Unit {0})) (calls answered : ℕ) (alive : Bool) (k : ℕ) (last : Bool) → IsUnfinished opened → (k ≡ 0) × (answered ≡ 0) × (alive ≡ false) × IsUnfinished closed → FollowPlayed opened closed calls answered alive k last
not_open_so ended.Unfinished closed calls answered alive k last un h = h
not_open_so (ended.Gave x) closed calls answered alive k last un h = absurd un
not_open_so (ended.Failed e) closed calls answered alive k last un h = absurd un

failed_so : (opened closed : Ended (Unit {0})) (calls answered : ℕ) (alive : Bool) (k : ℕ) (last : Bool) → IsFailed opened → (1 ≤ k) × (answered ≡ 0) × (alive ≡ false) × IsUnfinished closed × (last ≡ false) → FollowPlayed opened closed calls answered alive k last
failed_so ended.Unfinished closed calls answered alive k last failed h = absurd failed
failed_so (ended.Gave x) closed calls answered alive k last failed h = absurd failed
failed_so (ended.Failed e) closed calls answered alive k last failed h = h

open_so : (closed : Ended (Unit {0})) (calls answered k : ℕ) (last : Bool) → IsUnfinished closed → ((answered + 1 ≡ k) × (answered < calls)) ⊎ ((answered ≡ calls) × (k ≡ calls) × (last ≡ true)) → OpenPlayed closed calls answered k last
open_so ended.Unfinished calls answered k last un h = h
open_so (ended.Gave x) calls answered k last un h = absurd un
open_so (ended.Failed e) calls answered k last un h = absurd un

closed_so : (closed : Ended (Unit {0})) (calls answered k : ℕ) (last : Bool) → IsFinished closed → (answered ≡ calls) × (calls + 1 ≤ k) × (last ≡ false) → OpenPlayed closed calls answered k last
closed_so ended.Unfinished calls answered k last finished h = absurd finished
closed_so (ended.Gave x) calls answered k last finished h = h
closed_so (ended.Failed e) calls answered k last finished h = h

follow_played : (calls k : ℕ) (last : Bool) (s : Stage) (c : Came) → FollowAt calls s c k last → FollowPlayed c.opened c.closed calls c.answered c.alive k last
follow_played calls k last stage.Unopened c at = not_open_so c.opened c.closed calls c.answered c.alive k last at.0.opened (at.0.none, at.0.no_answer, at.0.no_more, at.0.closed)
follow_played calls k last (stage.Opens opening) c at = not_open_so c.opened c.closed calls c.answered c.alive k last at.0.opened (at.0.none, at.0.no_answer, at.0.no_more, at.0.closed)
follow_played calls k last (stage.Open stream) c at = given_so c.opened c.closed calls c.answered c.alive k last at.0.opened (open_so c.closed calls c.answered k last at.0.closed (inl (at.0.answered, omega (arith, at.0.rest, at.0.more))))
follow_played calls k last (stage.Closes closing) c at = given_so c.opened c.closed calls c.answered c.alive k last at.0.opened (open_so c.closed calls c.answered k last at.0.closed (inr (at.0.answered, at.0.all, at.1)))
follow_played calls k last stage.Ended c at =
    elim at.0 [
      | inl never ↦ failed_so c.opened c.closed calls c.answered c.alive k last never.opened (never.some, never.no_answer, never.no_more, never.closed, at.1)
      | inr closed ↦ given_so c.opened c.closed calls c.answered c.alive k last closed.opened (closed_so c.closed calls c.answered k last closed.closed (closed.answered, closed.all, at.1))
    ]

get_played : (bytes done k read : ℕ) (last : Bool) (s : GetStage) → GetStageAt s bytes done k last read → GetPlayed (get_end s) bytes k last read
get_played bytes done k read last gets.Unsent at = let none = at.0 in (omega (arith, none), λ zero. at.2, fits_none bytes k read at.2)
get_played bytes done k read last (gets.Opens opening) at = let none = at.0 in (omega (arith, none), λ zero. at.2, fits_none bytes k read at.2)
get_played bytes done k read last (gets.Reads download room) at =
    let same = at.0 in
    let some = at.1 in
    let few = at.2 in
    (omega (arith, same, few), λ none. absurd (omega (arith, same, some, none)), subst (λ (n : ℕ). FitsReads bytes n read) (sym same) at.4)
get_played bytes done k read last (gets.Ended ended.Unfinished) at = absurd at.0
get_played bytes done k read last (gets.Ended (ended.Gave x)) at = let some = at.0.0 in let more = at.0.1 in (omega (arith, some, more), at.2, fits_later bytes done k read (omega (arith, more)) at.3)
get_played bytes done k read last (gets.Ended (ended.Failed e)) at = let more = at.0 in (omega (arith, more), at.2, fits_later bytes done k read (omega (arith, more)) at.3)

pub put_going : (doing : uploads.Doing) (done count : ℕ) → IsPutDoing doing done count → done ≤ count
put_going uploads.idle done count is = is
put_going (uploads.busy (uploads.write piece) phase) done count is = omega (arith, is)
put_going (uploads.busy uploads.close phase) done count is = omega (arith, is)
put_going (uploads.busy uploads.abort phase) done count is = absurd is
put_going uploads.closed done count is = absurd is

put_played : (calls k : ℕ) (last : Bool) (s : PutStage) (done count : ℕ) → PutAt calls s done count k last → PutPlayed (put_end s) calls k last
put_played calls k last puts.Undrawn done count at = omega (arith, at.2)
put_played calls k last (puts.Begins begun) done count at = absurd at
put_played calls k last (puts.Goes going) done count at = let few = put_going (upload_of going.upload).doing done count at.2 in omega (arith, few, at.0, at.1)
put_played calls k last (puts.Ended ended.Unfinished) done count at = absurd at.0
put_played calls k last (puts.Ended (ended.Gave n)) done count at = at
put_played calls k last (puts.Ended (ended.Failed e)) done count at = (elim at.0 [ inl first ↦ first.1 | inr more ↦ omega (arith, more) ], at.1)

played_at : (p : Player) (r : Outcome) (k : ℕ) (last : Bool) → OutcomeOf p r → IsAt (calls_of (task_of p)) p k last → IsPlayed (task_of p) k last r
played_at (player.Insert job) r k last of at = subst (λ (x : Outcome). IsPlayed (task_of (player.Insert job)) k last x) (sym of) (insert_played k last job.stage at)
played_at (player.Follow job) r k last of at = subst (λ (x : Outcome). IsPlayed (task_of (player.Follow job)) k last x) (sym of) (follow_played job.watched.calls k last job.stage (came job) at)
played_at (player.Put job) r k last of at = subst (λ (x : Outcome). IsPlayed (task_of (player.Put job)) k last x) (sym of) (put_played (length (pieces job.what.pieces.now)) k last job.stage job.done (length job.what.pieces.now) at)
played_at (player.Get job) r k last of at = subst (λ (x : Outcome). IsPlayed (task_of (player.Get job)) k last x) (sym of) (get_played (length job.bytes.items) job.done k job.what.read last job.stage at)

-- where each job is by its turns says what became of it
pub all_played : (ts : List Task) (order : List ℕ) (players : List Player) (notes : List Turned) (outcomes : List Outcome) → length outcomes ≡ length players → DoTasks ts players → AllAt ts order notes players → OutcomesOf players outcomes → AllPlayed ts order notes outcomes
all_played ts order players notes outcomes count does all of i t r ht hr =
    let p = get_length players outcomes count i r hr in
    let is : t ≡ task_of p.0 = does i t p.0 ht p.1 in
    let k : ℕ = turns_done i order notes in
    let last : Bool = pends_last i order notes in
    subst (λ (u : Task). IsPlayed u k last r) (sym is) (played_at p.0 r k last (of i p.0 r p.1 hr) (subst (λ (u : Task). IsAt (calls_of u) p.0 k last) is (all i t p.0 ht p.1)))

-- the same of a run, unless memory ran out
pub rows_so : (ts : List Task) (order : List ℕ) (players : List Player) (notes : List Turned) (result : Result Played Error) → IfOk result (λ p. length p.outcomes.items ≡ length players) → IfOk result (λ p. OutcomesOf players p.outcomes.items) → IfOk result (λ p. p.turns.items ≡ notes) → DoTasks ts players → AllAt ts order notes players → IfOk result (λ p. AllPlayed ts order p.turns.items p.outcomes.items)
rows_so ts order players notes (Ok p) count of turns does all = subst (λ ns. AllPlayed ts order ns p.outcomes.items) (sym turns) (all_played ts order players notes p.outcomes.items count does all of)
rows_so ts order players notes (Err e) count of turns does all = tt
