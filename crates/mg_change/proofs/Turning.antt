-- Where a stream is behind a step of it, over an honest link.
use Rattle.std.proofs.Common.{◌≡◌, ◌≢◌, ◌⊎◌, ◌++◌, ℕ, ℤ, pos, Bool, true, false, List, [], ◌∷◌, map, Option, Some, None, refl, sym, ap, ◌∙◌, subst, inl, inr, option_map, append-nil}
use Rattle.std.specs.Prelude.{unwrap_or}
use Rattle.mg_bson.specs.Raw.{fields}
use Rattle.mg_bson.specs.Tree.{Tree, Fields}
use Rattle.mg_server.specs.Commands.{asks_more as more_asked, asks_watch, asked, documents_in}
use Rattle.mg_link.specs.Exec.{IsSuccess, Runs, Sending, Stage, first, second, unsent}
use Rattle.mg_server.specs.Follow.{Follow, Moved, ResumesAt, asking, empty_token, holding, last_token, owing, resting, resuming}
use Rattle.mg_link.specs.Link.{Awaited, SendsNothing, LogTold}
use Rattle.mg_link.specs.Log.{reply}
use Rattle.mg_link.specs.Namespace.{space, target}
use Rattle.mg_link.specs.Resumable.{is_resumable}
use Rattle.mg_link.specs.Session.{Session}
use Rattle.mg_server.specs.State.{Start, Watch}
use Rattle.mg_server.specs.Step.{ends_cursor}
use Rattle.mg_link.specs.declared.action.Step.{Step}
use Rattle.mg_link.specs.declared.action.Step.TheVariants as step
use Rattle.mg_link.specs.declared.error.Error.{Error}
use Rattle.mg_link.specs.declared.error.ErrorKind.{ErrorKind}
use Rattle.mg_link.specs.declared.error.ErrorKind.TheVariants as kind
use Rattle.mg_server.proofs.Answering.{answering, event_answered, event_taken, last_answered, last_taken, nothing_answered}
use Rattle.mg_server.specs.Moves.{MoreAnswered, at_stage}
use Rattle.mg_server.proofs.Asking.{asks_at}
use Rattle.mg_exec.proofs.Execs.{runs_of}
use Rattle.mg_server.proofs.Moves.{moved, stayed}
use Rattle.mg_server.proofs.Resumes.{kill_passed, let_go as lets_go}
use Rattle.mg_server.proofs.Spoiled.{cursor_dropped}
use Rattle.mg_options.specs.declared.change_stream.ChangeStreamOptions.{ChangeStreamOptions}
use Rattle.mg_ops.specs.Aims.{asked_for}
use Rattle.mg_ops.specs.Cursors.{BreaksIn, Cursor}
use Rattle.mg_ops.specs.Naming.{IsNamed}
use Rattle.mg_ops.specs.Resuming.{options_for}
use Rattle.mg_ops.specs.declared.aggregate.ChangeStreamAggregate.{ChangeStreamAggregate}
use Rattle.mg_ops.specs.declared.change_stream.ChangeStreamData.{ChangeStreamData}
use Rattle.mg_ops.proofs.Asking.{asks_as_aimed, asks_for_more, asks_to_kill_plainly}
use Rattle.mg_cursor.specs.Client.{ClientCursor, IsAsking, asks, at_rest, behind_kind, behind_reply, get_more, holds, kill, rests, unless_ended}
use Rattle.mg_cursor.specs.Client as cursors
use Rattle.mg_cursor.specs.Closing.{ClosesBy, ClosingCursor, ClosingPolls, IsClosing, IsKilling, IsLanded, IsNotAsking, KillHears, KillsCursor, LandedBy, begins, goes_on as kill_goes_on, kills as kills_it, lands, not_built, nothing_left}
use Rattle.mg_cursor.specs.Polling.{Hears, ReadsReply, broke as unread, gave as read}
use Rattle.mg_cursor.specs.declared.polls.NextPoll.{NextPoll}
use Rattle.mg_cursor.specs.declared.polls.NextPoll.TheVariants as next
use Rattle.mg_change.specs.ClientStreams.{Asks, ClientStream, Doing, IsAggregate, IsHolding, IsSaved, IsSound, SoundBy, behind_event, follows, id_in, kills, owes, owing_with, remembered, remembered_empty, renewed, resumes, resuming_in, stream_token, token_behind, token_known}
use Rattle.mg_change.specs.Following.{Turned, Turns, event_fields, follow_by, follow_of, held_by, idle_by, in_hand, older_by, unread as unread_batch, with_more, with_older}
use Rattle.mg_change.specs.StreamCalls.{AnswersEvent, LacksToken}
use Rattle.mg_change.specs.Steps.{AsksMore, DoesStep, FailsMore, HearsClosing, HearsResumption, LooksAt, ReadsResumption, RunsResumption, TakesMore, asks_more, broke, broken, closes, ends, final, finds, gave, goes_on, looks, no_memory, none, not_asked, not_resumed, renews, resumes_now, some, waits_more, waits_resumption}
use Rattle.mg_change.specs.declared.event_poll.Stepped.{Stepped}
use Rattle.mg_change.proofs.Forgetting.{gives_up, rest_forgets, resting_only}
use Rattle.mg_change.proofs.Heeding.{MoreCame, MoreFailed, ResumeCame, Resumed, at_waiting, kill_polled, killed_at, more_polled, more_taken, resume_polled, resume_taken, waits_still}
use Rattle.mg_change.proofs.Aimed.{aimed_at}
use Rattle.mg_change.proofs.Reading.{events_held, events_read}
use Rattle.mg_change.proofs.Resumption.{aimed_still, begins_again}

-- ---- moves that answer nothing

-- a stream of which nothing but its cursor, its token and what it answered is known
abbrev pub idle : Watch → Start → ClientStream → Option ℕ → List Fields → Follow
idle w start s opened answered = idle_by w start opened s.cursor.id (stream_token s) answered

pub quietly : (log log' : LogTold) (f : Follow) (g : List Fields → Follow) (answered : List Fields) → Moved log log' f (g answered) → Moved log log' f (g (answered ++ []))
quietly log log' f g answered m = subst (λ (l : List Fields). Moved log log' f (g l)) (sym (append-nil answered)) m

-- nothing moved
pub same : (log : LogTold) (f g : Follow) → f ≡ g → Moved log log f g
same log f g e = subst (λ (h : Follow). Moved log log f h) e (stayed log log f refl)

from_here : (log log' : LogTold) (f g h : Follow) → f ≡ g → Moved log log' g h → Moved log log' f h
from_here log log' f g h e m = subst (λ (x : Follow). Moved log log' x h) (sym e) m

pub up_to : (log log' : LogTold) (f g h : Follow) → g ≡ h → Moved log log' f g → Moved log log' f h
up_to log log' f g h e m = subst (λ (x : Follow). Moved log log' f x) e m

-- ---- what is on its way, by how the link stands

module _ (old new : Awaited) (rest : (n : ℕ) → new n ≡ old n) where
  pub at_same : (idle_so : Follow) (waiting_at : Option ℕ → Follow) (stage : Stage) → at_stage idle_so waiting_at old stage ≡ at_stage idle_so waiting_at new stage
  at_same idle_so waiting_at unsent = refl
  at_same idle_so waiting_at (first ticket) = ap waiting_at (sym (rest ticket))
  at_same idle_so waiting_at (second ticket) = ap waiting_at (sym (rest ticket))

  more_same : (d : cursors.Doing) (events : List Fields) (upto : Option Tree) (f : Follow) → with_more old d events upto f ≡ with_more new d events upto f
  more_same rests events upto f = refl
  more_same (holds said) events upto f = refl
  more_same (asks sending) events upto f = at_same (record f { doing = resting }) (λ place. record f { doing = asking place }) sending.stage

  pub older_same : (c : ClientCursor) (o : Option Sending) (f : Follow) → older_by old c o f ≡ older_by new c o f
  older_same c None f = refl
  older_same c (Some sending) f = at_same (record f { old = c.id }) (λ place. f) sending.stage

  -- a stream of which nothing moved
  pub by_same : (d : Doing) (c : ClientCursor) (events : List Fields) (f : Follow) → follow_by old d c events f ≡ follow_by new d c events f
  by_same follows c events f = more_same c.doing events c.token f
  by_same owes c events f = refl
  by_same (resumes sending) c events f = at_same f (λ place. record f { doing = resuming place }) sending.stage
  by_same (kills before) c events f = older_same before.cursor before.killing (unread_batch c.doing c.token f)
  by_same renewed c events f = refl

-- nothing is sent, and the stream stays as it is
pub quiet_turns : (old new : Awaited) (log log' : LogTold) (s s' : ClientStream) → SendsNothing old new log log' → s' ≡ s → Turned old new log log' s s'
quiet_turns old new log log' s s' quiet is =
    subst (λ (x : ClientStream). Turned old new log log' s x) (sym is)
    (record {
      args = refl;
      moved = λ w start asks opened answered.
          let f = follow_of old w start s opened answered in
          up_to log log' f f (follow_of new w start s opened answered)
          (by_same old new quiet.rest s.doing s.cursor (map fields s.behind) (idle w start s opened answered))
          (stayed log log' f quiet.log_same);
    })

-- ---- tokens

-- a new token is the one of the stream
pub token_remembered : (o : ChangeStreamOptions) (r : Option ChangeStreamData) (token : Tree) (returned : Bool) → IsSaved o r → token_known (option_map (remembered token returned) r) ≡ Some token
token_remembered o (Some known) token returned saved = refl
token_remembered o None token returned saved = absurd saved

-- behind an empty batch
pub token_empty : (o : ChangeStreamOptions) (upto : Option Tree) (a : ChangeStreamAggregate) → IsSaved o a.resume → token_known (remembered_empty upto a).resume ≡ empty_token upto (token_known a.resume)
token_empty o None a saved = refl
token_empty o (Some token) a saved = token_remembered o a.resume token false saved

pub args_empty : (upto : Option Tree) (a : ChangeStreamAggregate) → (remembered_empty upto a).args ≡ a.args
args_empty None a = refl
args_empty (Some token) a = refl

last_behind : (upto : Option Tree) (id : Tree) → last_token upto id ≡ Some (token_behind [] upto id)
last_behind (Some token) id = refl
last_behind None id = refl

-- ---- a batch

-- Nothing was answered from a batch that came empty.
emptied_moved : (log : LogTold) (w : Watch) (start : Start) (opened : Option ℕ) (id : ℤ) (before token upto : Option Tree) (answered : List Fields) → token ≡ empty_token upto before
    → Moved log log (held_by [] upto (idle_by w start opened id before answered)) (record (idle_by w start opened id token answered) { doing = resting })
emptied_moved log w start opened id before token upto answered is =
    let f = held_by [] upto (idle_by w start opened id before answered) in
    let g = answering f resting [] (empty_token upto before) answered in
    let m = moved log log log f g (resting_only g) (nothing_answered log log f refl refl refl) (rest_forgets log g refl) in
    subst (λ (t : Option Tree). Moved log log f (record (idle_by w start opened id t answered) { doing = resting })) (sym is) m

-- what is watched stays
pub looked_args : (again : Bool) (s : ClientStream) (c : ClientCursor) (said : List ℕ) (s' : ClientStream) (r : Stepped) → LooksAt again s c said s' r → s'.aggregate.args ≡ s.aggregate.args
looked_args again s c said s' r (some event events at is answer) = ap (λ (x : ClientStream). x.aggregate.args) is
looked_args again s c said s' r (none at is answer) = ap (λ (x : ClientStream). x.aggregate.args) is ∙ args_empty c.token s.aggregate
looked_args again s c said s' r (broken e breaks is answer) = ap (λ (x : ClientStream). x.aggregate.args) is

-- where a stream is whose batch is looked at
abbrev Looked : LogTold → ClientStream → ClientCursor → List ℕ → ClientStream → Type 0
Looked log s c said s' = (awaited : Awaited) (w : Watch) (start : Start) (opened : Option ℕ) (answered : List Fields)
    → Moved log log (held_by (event_fields said) c.token (idle_by w start opened c.id (stream_token s) answered)) (follow_of awaited w start s' opened answered)

pub looked : (log : LogTold) (again : Bool) (s : ClientStream) (c : ClientCursor) (said : List ℕ) (s' : ClientStream) (r : Stepped) → c.doing ≡ rests → IsSaved s.aggregate.args.options s.aggregate.resume → LooksAt again s c said s' r → (s'.aggregate.args ≡ s.aggregate.args) × Looked log s c said s'
looked log again s c said s' r quiet saved (some event events at is answer) = (
  ap (λ (x : ClientStream). x.aggregate.args) is,
  λ awaited w start opened answered.
      let f = idle_by w start opened c.id (stream_token s) answered in
      subst (λ (x : ClientStream). Moved log log (held_by (event_fields said) c.token f) (follow_of awaited w start x opened answered)) (sym is)
      (same log (held_by (event_fields said) c.token f) (with_more awaited c.doing (map fields (event ∷ events)) c.token f)
      (ap (λ (es : List Fields). held_by es c.token f) (events_held said (event ∷ events) at)
      ∙ ap (λ (d : cursors.Doing). with_more awaited d (map fields (event ∷ events)) c.token f) (sym quiet))),
)
looked log again s c said s' r quiet saved (none at is answer) =
    let a = remembered_empty c.token s.aggregate in (
      ap (λ (x : ClientStream). x.aggregate.args) is ∙ args_empty c.token s.aggregate,
      λ awaited w start opened answered.
          let f = idle_by w start opened c.id (stream_token s) answered in
          let g = idle_by w start opened c.id (token_known a.resume) answered in
          subst (λ (x : ClientStream). Moved log log (held_by (event_fields said) c.token f) (follow_of awaited w start x opened answered)) (sym is)
          (subst (λ (d : cursors.Doing). Moved log log (held_by (event_fields said) c.token f) (with_more awaited d [] c.token g)) (sym quiet)
          (subst (λ (es : List Fields). Moved log log (held_by es c.token f) (record g { doing = resting })) (sym (events_held said [] at))
          (emptied_moved log w start opened c.id (stream_token s) (token_known a.resume) c.token answered (token_empty s.aggregate.args.options c.token s.aggregate saved)))),
    )
looked log again s c said s' r quiet saved (broken e breaks is answer) = (
  ap (λ (x : ClientStream). x.aggregate.args) is,
  λ awaited w start opened answered.
      let f = held_by (event_fields said) c.token (idle_by w start opened c.id (stream_token s) answered) in
      subst (λ (x : ClientStream). Moved log log f (follow_of awaited w start x opened answered)) (sym is) (gives_up log f tt),
)

-- ---- a stream by what it does

module _ (old : Awaited) (s : ClientStream) (w : Watch) (start : Start) (opened : Option ℕ) (answered : List Fields) where
  abbrev at : Follow
  at = follow_of old w start s opened answered

  as_doing : (d : Doing) → s.doing ≡ d → at ≡ follow_by old d s.cursor (map fields s.behind) (idle w start s opened answered)
  as_doing d is = ap (λ (x : Doing). follow_by old x s.cursor (map fields s.behind) (idle w start s opened answered)) is

  as_following : (d : cursors.Doing) → s.doing ≡ follows → s.cursor.doing ≡ d → at ≡ with_more old d (map fields s.behind) s.cursor.token (idle w start s opened answered)
  as_following d on is = as_doing follows on ∙ ap (λ (x : cursors.Doing). with_more old x (map fields s.behind) s.cursor.token (idle w start s opened answered)) is

  as_unread : (said : List ℕ) → s.doing ≡ renewed → s.cursor.doing ≡ holds said → at ≡ held_by (event_fields said) s.cursor.token (idle w start s opened answered)
  as_unread said on is = as_doing renewed on ∙ ap (λ (x : cursors.Doing). unread_batch x s.cursor.token (idle w start s opened answered)) is

-- its batch is looked at, and nothing is sent
looks_turn : (again : Bool) (old new : Awaited) (log log' : LogTold) (s : ClientStream) (said : List ℕ) (s' : ClientStream) (r : Stepped) → SendsNothing old new log log' → IsSaved s.aggregate.args.options s.aggregate.resume
    → ((w : Watch) (start : Start) (opened : Option ℕ) (answered : List Fields) → follow_of old w start s opened answered ≡ held_by (event_fields said) s.cursor.token (idle w start s opened answered)) → LooksAt again s (at_rest s.cursor) said s' r → Turned old new log log' s s'
looks_turn again old new log log' s said s' r quiet saved stands h =
    let m = looked log again s (at_rest s.cursor) said s' r refl saved h in
    record {
      args = m.0;
      moved = λ w start asks_so opened answered.
          let f = follow_of old w start s opened answered in
          let g = follow_of new w start s' opened answered in
          subst (λ (l : LogTold). Moved log l f g) (sym quiet.log_same) (from_here log log f (held_by (event_fields said) s.cursor.token (idle w start s opened answered)) g (stands w start opened answered) (m.1 new w start opened answered));
    }

-- ---- a getMore

-- the id of the cursor behind a failure
pub left_id : (k : ErrorKind) (c : ClientCursor) → ((at_rest (behind_kind k c)).id ≡ c.id) ⊎ ((at_rest (behind_kind k c)).id ≡ pos 0)
left_id kind.Io c = inl refl
left_id (kind.Command refusal) c = by_code (ends_cursor refusal.code)
  where
    by_code : (ended : Bool) → ((unless_ended ended c).id ≡ c.id) ⊎ ((unless_ended ended c).id ≡ pos 0)
    by_code true = inr refl
    by_code false = inl refl
left_id _ c = inl refl

left_moved : (log : LogTold) (f : Follow) (id : ℤ) → f.doing ≡ owing → f.old ≡ pos 0 → (id ≡ f.cursor) ⊎ (id ≡ pos 0) → Moved log log f (record f { cursor = id })
left_moved log f id is alone (inl e) = same log f (record f { cursor = id }) (ap (λ (x : ℤ). record f { cursor = x }) (sym e))
left_moved log f id is alone (inr e) =
    up_to log log f (record f { doing = owing; cursor = pos 0; old = pos 0 }) (record f { cursor = id })
    (ap (λ (d : _). record f { doing = d; cursor = pos 0; old = pos 0 }) (sym is) ∙ ap (λ (x : ℤ). record f { cursor = pos 0; old = x }) (sym alone) ∙ ap (λ (x : ℤ). record f { cursor = x }) (sym e)) (cursor_dropped log log f is refl)

-- an error by which a stream resumes is no want of memory, and the other way round
not_final : (said : Fields) (e : Error) → BreaksIn said e → is_resumable e.kind e.labels e.wire_version ≡ false → ⊥
not_final said e breaks not = let bad : true ≡ false = sym (ap (λ (x : Error). is_resumable x.kind x.labels x.wire_version) breaks.error) ∙ not in cc

-- what is watched stays
pub fails_args : (s : ClientStream) (c : ClientCursor) (e : Error) (s' : ClientStream) (r : Stepped) → FailsMore s c e s' r → s'.aggregate.args ≡ s.aggregate.args
fails_args s c e s' r (goes_on so is answer) = ap (λ (x : ClientStream). x.aggregate.args) is
fails_args s c e s' r (no_memory room is answer) = ap (λ (x : ClientStream). x.aggregate.args) is
fails_args s c e s' r (final not room is answer) = ap (λ (x : ClientStream). x.aggregate.args) is

module _ (new : Awaited) (log log' : LogTold) (s : ClientStream) (none_left : s.behind ≡ []) (on : s.doing ≡ follows) (w : Watch) (start : Start) (opened : Option ℕ) (answered : List Fields) (g : Follow) where
  abbrev here : Follow
  here = idle w start s opened answered

  -- the stream is to resume, with the cursor that it has then
  owes_so : (c : ClientCursor) (s' : ClientStream) → s' ≡ owing_with c s → (c.id ≡ s.cursor.id) ⊎ (c.id ≡ pos 0) → Moved log log' g here → Moved log log' g (follow_of new w start s' opened answered)
  owes_so c s' is which m =
      subst (λ (x : ClientStream). Moved log log' g (follow_of new w start x opened answered)) (sym is)
      (moved log log' log' g here (record here { cursor = c.id }) m (left_moved log' here c.id refl refl which))

  -- a getMore that failed
  fails_so : (c : ClientCursor) (e : Error) (s' : ClientStream) (r : Stepped) → c.doing ≡ rests → (c.id ≡ s.cursor.id) ⊎ (c.id ≡ pos 0) → MoreFailed here log log' g e → FailsMore s c e s' r → Moved log log' g (follow_of new w start s' opened answered)
  fails_so c e s' r quiet which m (goes_on so is answer) = owes_so c s' is which m.lost
  fails_so c e s' r quiet which m (no_memory room is answer) = owes_so c s' is which m.lost
  fails_so c e s' r quiet which m (final not room is answer) =
      let rest = m.rests not room c.id which in
      subst (λ (x : ClientStream). Moved log log' g (follow_of new w start x opened answered)) (sym is)
      (up_to log log' g (record (idle_by w start opened c.id (stream_token s) answered) { doing = resting }) (follow_by new s.doing c (map fields s.behind) (idle_by w start opened c.id (stream_token s) answered))
      (sym (ap (λ (d : Doing). follow_by new d c (map fields s.behind) (idle_by w start opened c.id (stream_token s) answered)) on
      ∙ ap (λ (d : cursors.Doing). with_more new d (map fields s.behind) c.token (idle_by w start opened c.id (stream_token s) answered)) quiet
      ∙ ap (λ (es : List (List ℕ)). in_hand (map fields es) c.token (idle_by w start opened c.id (stream_token s) answered)) none_left))
      rest)

  -- its reply came
  reads_so : (bytes : List ℕ) (c : ClientCursor) (p : NextPoll) (s' : ClientStream) (r : Stepped) → IsSaved s.aggregate.args.options s.aggregate.resume → MoreAnswered here log log' g (reply bytes) → IsSuccess bytes → ReadsReply s.cursor bytes c p → TakesMore s c p s' r → (s'.aggregate.args ≡ s.aggregate.args) × Moved log log' g (follow_of new w start s' opened answered)
  reads_so bytes c p s' r saved m success (read said says is answer) takes =
      let looks_so : LooksAt false s c bytes s' r = subst (λ (x : NextPoll). TakesMore s c x s' r) answer takes in
      let at_so : LooksAt false s (behind_reply said s.cursor) bytes s' r = subst (λ (x : ClientCursor). LooksAt false s x bytes s' r) is looks_so in
      let l = looked log' false s (behind_reply said s.cursor) bytes s' r refl saved at_so in
      let f = held_by (event_fields bytes) said.token (idle_by w start opened said.id (stream_token s) answered) in (
        l.0,
        moved log log' log' g f (follow_of new w start s' opened answered)
            (subst (λ (es : List Fields). Moved log log' g (held_by es said.token (idle_by w start opened said.id (stream_token s) answered))) (sym (events_read bytes said says))
            (more_taken here log log' g bytes said success says m))
            (l.1 new w start opened answered),
      )
  reads_so bytes c p s' r saved m success (unread e fails is answer) takes =
      let f : FailsMore s c e s' r = subst (λ (x : NextPoll). TakesMore s c x s' r) answer takes in
      let at_so : FailsMore s (at_rest s.cursor) e s' r = subst (λ (x : ClientCursor). FailsMore s x e s' r) is f in
      (fails_args s (at_rest s.cursor) e s' r at_so, fails_so (at_rest s.cursor) e s' r refl (inl refl) (record { lost = m.lost; rests = λ not room cursor which. absurd (elim fails [ inl full ↦ room (ap (λ (x : Error). x.kind) full) | inr breaks ↦ not_final (fields bytes) e breaks not ]) }) at_so)

-- a getMore of the stream, by its command
pub record IsAsked (c : ClientCursor) (sending : Sending) : Type 0 where
  pub session : Option Session
  pub command_is : fields sending.command ≡ get_more c session
  pub single : sending.retries ≡ false
  pub held : c.id ≢ pos 0

-- what a poll of the getMore comes to
more_so : (old new : Awaited) (log log' : LogTold) (wire : ℤ) (started : Bool) (s : ClientStream) (sending : Sending) (s' : ClientStream) (r : Stepped) → s.behind ≡ [] → s.doing ≡ follows → IsNamed s.cursor.space → IsSaved s.aggregate.args.options s.aggregate.resume → IsAsked s.cursor sending
    → ((w : Watch) (start : Start) (opened : Option ℕ) (answered : List Fields) → follow_of old w start s opened answered ≡ at_stage (record (idle w start s opened answered) { doing = resting }) (asks_at (idle w start s opened answered)) old sending.stage)
    → AsksMore old new log log' wire started s sending s' r → Turned old new log log' s s'
more_so old new log log' wire started s sending s' r none_left on named saved is stands h =
    record { args = args_by h.runs.came h.left h.poll h.runs.hears h.takes; moved = λ w start asks_so opened answered. by_came w start opened answered h.runs.came h.left h.poll runs h.runs.hears h.takes (polled w start opened answered) }
  where
    runs : Runs old new log log' wire sending h.runs.came
    runs = runs_of old new log log' wire sending h.runs.came started h.runs.runs

    asks_so : asked sending.command ≡ more_asked s.cursor.id s.cursor.space
    asks_so = asks_for_more sending.command s.cursor.id s.cursor.space s.cursor.manner.size s.cursor.manner.wait s.cursor.manner.comment is.session named is.command_is

    polled : (w : Watch) (start : Start) (opened : Option ℕ) (answered : List Fields) → MoreCame (idle w start s opened answered) new log log' (follow_of old w start s opened answered) h.runs.came
    polled w start opened answered =
        let f = idle w start s opened answered in
        subst (λ (g : Follow). MoreCame f new log log' g h.runs.came) (sym (stands w start opened answered))
        (more_polled f old new log log' wire sending s.cursor.space h.runs.came is.held asks_so is.single runs)

    args_by : (came : Step Sending (List ℕ)) (c : ClientCursor) (p : NextPoll) → Hears s.cursor came c p → TakesMore s c p s' r → s'.aggregate.args ≡ s.aggregate.args
    args_by came c next.Pending heard takes = ap (λ (x : ClientStream). x.aggregate.args) takes.0
    args_by came c (next.Batch bytes) heard takes = looked_args false s c bytes s' r takes
    args_by came c next.End heard takes = absurd takes
    args_by came c (next.Failed e) heard takes = fails_args s c e s' r takes

    by_came : (w : Watch) (start : Start) (opened : Option ℕ) (answered : List Fields) (came : Step Sending (List ℕ)) (c : ClientCursor) (p : NextPoll) → Runs old new log log' wire sending came → Hears s.cursor came c p → TakesMore s c p s' r → MoreCame (idle w start s opened answered) new log log' (follow_of old w start s opened answered) came
        → Moved log log' (follow_of old w start s opened answered) (follow_of new w start s' opened answered)
    by_came w start opened answered (step.Pending waiting) c p ran heard takes m =
        let pends : (s' ≡ record s { cursor = c }) × (r ≡ _) = subst (λ (x : NextPoll). TakesMore s c x s' r) heard.1 takes in
        let g = follow_of old w start s opened answered in
        subst (λ (x : ClientStream). Moved log log' g (follow_of new w start x opened answered)) (sym pends.0)
        (subst (λ (x : ClientCursor). Moved log log' g (follow_of new w start (record s { cursor = x }) opened answered)) (sym heard.0)
        (subst (λ (d : Doing). Moved log log' g (follow_by new d (record s.cursor { doing = asks waiting }) (map fields s.behind) (idle w start s opened answered))) (sym on) m))
    by_came w start opened answered (step.Done bytes) c p ran heard takes m =
        (reads_so new log log' s none_left on w start opened answered (follow_of old w start s opened answered) bytes c p s' r saved m.0 m.1 heard takes).1
    by_came w start opened answered (step.Failed e) c p ran heard takes m =
        let f : FailsMore s c e s' r = subst (λ (x : NextPoll). TakesMore s c x s' r) heard.1 takes in
        let quiet : c.doing ≡ rests = ap (λ (x : ClientCursor). x.doing) heard.0 in
        let which : (c.id ≡ s.cursor.id) ⊎ (c.id ≡ pos 0) = subst (λ (x : ClientCursor). (x.id ≡ s.cursor.id) ⊎ (x.id ≡ pos 0)) (sym heard.0) (left_id e.kind s.cursor) in
        fails_so new log log' s none_left on w start opened answered (follow_of old w start s opened answered) c e s' r quiet which m f

-- ---- a resumption

-- the aggregate of the stream, by its command
pub record IsResumption (a : ChangeStreamAggregate) (sending : Sending) : Type 0 where
  pub wire : ℤ
  pub session : Option Session
  pub command_is : fields sending.command ≡ resuming_in a wire session

-- it asks for the watch of the stream, behind its token
pub record AsksAgain (w : Watch) (start : Start) (token : Option Tree) (sending : Sending) : Type 0 where
  pub begin : Start
  pub resumes_at : ResumesAt start token begin
  pub asks_so : asked sending.command ≡ asks_watch w begin

pub asks_again : (a : ChangeStreamAggregate) (sending : Sending) (w : Watch) (start : Start) → IsSaved a.args.options a.resume → Asks a.args w start → IsResumption a sending → AsksAgain w start (token_known a.resume) sending
asks_again a sending w start saved asks_so is =
    let o = options_for a.args.options a.resume is.wire in
    let b = begins_again a.args.options a.resume is.wire start saved asks_so.from in
    let aimed = aimed_still (target a.args.target) a.args.options a.resume is.wire ∙ asks_so.aimed in
    record {
      begin = b.begin;
      resumes_at = b.resumes;
      asks_so = asks_as_aimed sending.command (target a.args.target) a.args.pipeline.items o is.session is.command_is ∙ ap asked_for (aimed_at a.args w o b.begin aimed asks_so.by b.starts);
    }

-- its reply came
resumed_so : (new : Awaited) (log log' : LogTold) (s : ClientStream) (said : List ℕ) (s' : ClientStream) (r : Stepped) (g : Follow) (w : Watch) (start : Start) (opened : Option ℕ) (answered : List Fields) → ReadsResumption s said s' r → Resumed (idle w start s opened answered) log log' g said → IsSuccess said
    → Moved log log' g (follow_of new w start s' opened answered)
resumed_so new log log' s said s' r g w start opened answered (gave out opens is answer) m success =
    let o = opens.opens.opens in
    let c : Cursor = record { id = out.0.info.id; space = space out.0.info.ns; token = out.0.post_batch_resume_token; batch = o.batch } in
    let f = idle w start s opened answered in
    let events : unwrap_or (documents_in o.batch) [] ≡ event_fields out.0.initial_reply = sym (ap event_fields o.whole ∙ events_read said c o.says) in
    subst (λ (x : ClientStream). Moved log log' g (follow_of new w start x opened answered)) (sym is)
    (subst (λ (es : List Fields). Moved log log' g (record f { doing = holding; cursor = out.0.info.id; old = s.cursor.id; ahead = es; upto = out.0.post_batch_resume_token })) events
    (resume_taken f log log' g said c success o.says m))
resumed_so new log log' s said s' r g w start opened answered (broke e fails is answer) m success =
    subst (λ (x : ClientStream). Moved log log' g (follow_of new w start x opened answered)) (sym is) m.lost

pub resumed_args : (s : ClientStream) (said : List ℕ) (s' : ClientStream) (r : Stepped) → ReadsResumption s said s' r → s'.aggregate.args ≡ s.aggregate.args
resumed_args s said s' r (gave out opens is answer) = ap (λ (x : ClientStream). x.aggregate.args) is
resumed_args s said s' r (broke e fails is answer) = ap (λ (x : ClientStream). x.aggregate.args) is

resumption_so : (old new : Awaited) (log log' : LogTold) (wire : ℤ) (started : Bool) (s : ClientStream) (sending : Sending) (s' : ClientStream) (r : Stepped) → IsSaved s.aggregate.args.options s.aggregate.resume → IsResumption s.aggregate sending
    → ((w : Watch) (start : Start) (opened : Option ℕ) (answered : List Fields) → follow_of old w start s opened answered ≡ at_stage (idle w start s opened answered) (λ place. record (idle w start s opened answered) { doing = resuming place }) old sending.stage)
    → RunsResumption old new log log' wire started s sending s' r → Turned old new log log' s s'
resumption_so old new log log' wire started s sending s' r saved is stands h =
    record { args = args_by h.came h.hears; moved = λ w start asks_so opened answered. by_came w start opened answered h.came h.hears (polled w start asks_so opened answered) }
  where
    args_by : (came : Step Sending (List ℕ)) → HearsResumption s came s' r → s'.aggregate.args ≡ s.aggregate.args
    args_by (step.Pending waiting) heard = ap (λ (x : ClientStream). x.aggregate.args) heard.0
    args_by (step.Done said) heard = resumed_args s said s' r heard
    args_by (step.Failed e) heard = ap (λ (x : ClientStream). x.aggregate.args) heard.0

    polled : (w : Watch) (start : Start) → Asks s.aggregate.args w start → (opened : Option ℕ) (answered : List Fields) → ResumeCame (idle w start s opened answered) new log log' (follow_of old w start s opened answered) h.came
    polled w start asks_so opened answered =
        let f = idle w start s opened answered in
        let b = asks_again s.aggregate sending w start saved asks_so is in
        subst (λ (g : Follow). ResumeCame f new log log' g h.came) (sym (stands w start opened answered))
        (resume_polled f b.begin old new log log' wire sending b.resumes_at b.asks_so h.came (runs_of old new log log' wire sending h.came started h.runs))

    by_came : (w : Watch) (start : Start) (opened : Option ℕ) (answered : List Fields) (came : Step Sending (List ℕ)) → HearsResumption s came s' r → ResumeCame (idle w start s opened answered) new log log' (follow_of old w start s opened answered) came → Moved log log' (follow_of old w start s opened answered) (follow_of new w start s' opened answered)
    by_came w start opened answered (step.Pending waiting) heard m = subst (λ (x : ClientStream). Moved log log' (follow_of old w start s opened answered) (follow_of new w start x opened answered)) (sym heard.0) m
    by_came w start opened answered (step.Done said) heard m = resumed_so new log log' s said s' r (follow_of old w start s opened answered) w start opened answered heard m.0 m.1
    by_came w start opened answered (step.Failed e) heard m = subst (λ (x : ClientStream). Moved log log' (follow_of old w start s opened answered) (follow_of new w start x opened answered)) (sym heard.0) m

-- ---- the closing of the cursor before

-- where a stream is behind a poll of it
abbrev pub ClosesTo : Awaited → LogTold → LogTold → Follow → Follow → Step ClosingCursor (Unit {0}) → Type 0
ClosesTo new log log' g f (step.Pending before) = Moved log log' g (with_older new before f)
ClosesTo new log log' g f (step.Done t) = Moved log log' g f
ClosesTo new log log' g f (step.Failed e) = Moved log log' g f

as_closes : (new : Awaited) (log log' : LogTold) (g f : Follow) (r r' : Step ClosingCursor (Unit {0})) → r' ≡ r → ClosesTo new log log' g f r → ClosesTo new log log' g f r'
as_closes new log log' g f r r' is m = subst (ClosesTo new log log' g f) (sym is) m

module _ (f : Follow) (is : f.doing ≡ holding) (alone : f.old ≡ pos 0) (old new : Awaited) (log log' : LogTold) (wire : ℤ) (c : ClientCursor) where
  -- the old cursor was let go
  let_go_so : log' ≡ log → Moved log log' (record f { old = c.id }) f
  let_go_so same_log =
      up_to log log' (record f { old = c.id }) (lets_go (record f { old = c.id })) f
      (ap (λ (d : ℤ). record f { doing = holding; old = d }) (sym alone) ∙ ap (λ (d : _). record f { doing = d }) (sym is))
      (kill_passed log log' (record f { old = c.id }) is same_log)

  -- its killCursors was polled
  kill_so : (sending : Sending) (came : Step Sending (List ℕ)) (r : Step ClosingCursor (Unit {0})) → fields sending.command ≡ kill c → sending.retries ≡ false → c.id ≢ pos 0 → Runs old new log log' wire sending came → KillHears c came r → ClosesTo new log log' (killed_at f c.id old sending.stage) f r
  kill_so sending came r command_is single held runs h = by_came came runs h
    where
      polled : (x : Step Sending (List ℕ)) → Runs old new log log' wire sending x → Moved log log' (killed_at f c.id old sending.stage) f
      polled x ran = kill_polled f c.id is alone held old new log log' wire sending x (asks_to_kill_plainly sending.command c.space (c.id ∷ []) command_is) single ran

      by_came : (x : Step Sending (List ℕ)) → Runs old new log log' wire sending x → KillHears c x r → ClosesTo new log log' (killed_at f c.id old sending.stage) f r
      by_came (step.Pending waiting) ran heard =
          as_closes new log log' (killed_at f c.id old sending.stage) f (step.Pending (record { cursor = c; killing = Some waiting })) r heard
          (up_to log log' (killed_at f c.id old sending.stage) f (at_stage (record f { old = c.id }) (λ place. f) new waiting.stage)
          (at_waiting (record f { old = c.id }) (λ place. f) new waiting (waits_still old new log log' wire sending waiting ran)) (polled (step.Pending waiting) ran))
      by_came (step.Done bytes) ran heard = as_closes new log log' (killed_at f c.id old sending.stage) f (step.Done tt) r heard (polled (step.Done bytes) ran)
      by_came (step.Failed e) ran heard = as_closes new log log' (killed_at f c.id old sending.stage) f (step.Failed e) r heard (polled (step.Failed e) ran)

  kills_so : (r : Step ClosingCursor (Unit {0})) → KillsCursor old new log log' wire c r → ClosesTo new log log' (record f { old = c.id }) f r
  kills_so r (nothing_left over quiet answer) = as_closes new log log' (record f { old = c.id }) f (step.Done tt) r answer (let_go_so quiet.log_same)
  kills_so r (not_built may e fails quiet answer) = as_closes new log log' (record f { old = c.id }) f (step.Failed e) r answer (let_go_so quiet.log_same)
  kills_so r (kills_it may sending new_one ran) =
      subst (λ (g : Follow). ClosesTo new log log' g f r) (ap (λ (stage : Stage). killed_at f c.id old stage) new_one.new)
      (kill_so sending ran.came r new_one.command_is new_one.single may.held ran.runs ran.hears)

-- a poll of the closing of a cursor whose getMore is not on its way
pub closes_so : (f : Follow) → f.doing ≡ holding → f.old ≡ pos 0 → (old new : Awaited) (log log' : LogTold) (wire : ℤ) (before : ClosingCursor) (r : Step ClosingCursor (Unit {0})) → IsClosing before → IsLanded before → ClosingPolls old new log log' wire before r
    → ClosesTo new log log' (with_older old before f) f r
closes_so f is alone old new log log' wire before r closing landed (lands idle_so sending at h) =
    let quiet : IsNotAsking before.cursor.doing = subst (λ (o : Option Sending). LandedBy o before.cursor.doing) idle_so landed in
    absurd (subst IsNotAsking at quiet)
closes_so f is alone old new log log' wire before r closing landed (begins idle_so quiet h) =
    subst (λ (o : Option Sending). ClosesTo new log log' (older_by old before.cursor o f) f r) (sym idle_so) (kills_so f is alone old new log log' wire (at_rest before.cursor) r h)
closes_so f is alone old new log log' wire before r closing landed (kill_goes_on sending at h) =
    let on : IsKilling before.cursor sending = subst (ClosesBy before.cursor) at closing in
    subst (λ (o : Option Sending). ClosesTo new log log' (older_by old before.cursor o f) f r) (sym at)
    (kill_so f is alone old new log log' wire before.cursor sending h.came r on.waits_on.command_is on.waits_on.single on.may.held h.runs h.hears)

-- what the stream does behind it
closing_so : (new : Awaited) (log log' : LogTold) (s : ClientStream) (said : List ℕ) (s' : ClientStream) (r : Stepped) (came : Step ClosingCursor (Unit {0})) (g : Follow) (w : Watch) (start : Start) (opened : Option ℕ) (answered : List Fields) → s.cursor.doing ≡ holds said
    → HearsClosing s came s' r → ClosesTo new log log' g (held_by (event_fields said) s.cursor.token (idle w start s opened answered)) came → Moved log log' g (follow_of new w start s' opened answered)
closing_so new log log' s said s' r came g w start opened answered at heard m = by_came came heard m
  where
    stands : (d : cursors.Doing) → d ≡ holds said → unread_batch d s.cursor.token (idle w start s opened answered) ≡ held_by (event_fields said) s.cursor.token (idle w start s opened answered)
    stands d is = ap (λ (x : cursors.Doing). unread_batch x s.cursor.token (idle w start s opened answered)) is

    by_came : (x : Step ClosingCursor (Unit {0})) → HearsClosing s x s' r → ClosesTo new log log' g (held_by (event_fields said) s.cursor.token (idle w start s opened answered)) x → Moved log log' g (follow_of new w start s' opened answered)
    by_came (step.Pending before) h c =
        subst (λ (x : ClientStream). Moved log log' g (follow_of new w start x opened answered)) (sym h.0)
        (subst (λ (f : Follow). Moved log log' g (with_older new before f)) (sym (stands s.cursor.doing at)) c)
    by_came (step.Done t) h c =
        subst (λ (x : ClientStream). Moved log log' g (follow_of new w start x opened answered)) (sym h.0)
        (subst (λ (f : Follow). Moved log log' g f) (sym (stands s.cursor.doing at)) c)
    by_came (step.Failed e) (inl h) c =
        subst (λ (x : ClientStream). Moved log log' g (follow_of new w start x opened answered)) (sym h.1)
        (moved log log' log' g (held_by (event_fields said) s.cursor.token (idle w start s opened answered)) (idle w start s opened answered) c (gives_up log' (held_by (event_fields said) s.cursor.token (idle w start s opened answered)) tt))
    by_came (step.Failed e) (inr h) c =
        subst (λ (x : ClientStream). Moved log log' g (follow_of new w start x opened answered)) (sym h.1)
        (subst (λ (f : Follow). Moved log log' g f) (sym (stands s.cursor.doing at)) c)

pub closing_args : (s s' : ClientStream) (r : Stepped) (came : Step ClosingCursor (Unit {0})) → HearsClosing s came s' r → s'.aggregate.args ≡ s.aggregate.args
closing_args s s' r (step.Pending before) h = ap (λ (x : ClientStream). x.aggregate.args) h.0
closing_args s s' r (step.Done t) h = ap (λ (x : ClientStream). x.aggregate.args) h.0
closing_args s s' r (step.Failed e) (inl h) = ap (λ (x : ClientStream). x.aggregate.args) h.1
closing_args s s' r (step.Failed e) (inr h) = ap (λ (x : ClientStream). x.aggregate.args) h.1

-- a reply is in hand
pub held_reply : (d : cursors.Doing) → IsHolding d → (said : List ℕ) × (d ≡ holds said)
held_reply rests h = absurd h
held_reply (holds said) h = (said, refl)
held_reply (asks sending) h = absurd h

-- ---- a step

pub step_turns : (old new : Awaited) (log log' : LogTold) (wire : ℤ) (session : Option Session) (started : Bool) (s s' : ClientStream) (r : Stepped) → IsSound false s → DoesStep old new log log' wire session started s s' r → Turned old new log log' s s'
step_turns old new log log' wire session started s s' r sound (finds on left quiet unstarted is answer) = quiet_turns old new log log' s s' quiet is
step_turns old new log log' wire session started s s' r sound (looks on none_left said at quiet unstarted h) =
    looks_turn false old new log log' s said s' r quiet sound.saved (λ w start opened answered. as_following old s w start opened answered (holds said) on at) h
step_turns old new log log' wire session started s s' r sound (ends on none_left at over quiet unstarted is answer) = quiet_turns old new log log' s s' quiet is
step_turns old new log log' wire session started s s' r sound (not_asked on none_left at may e fails quiet unstarted is answer) = quiet_turns old new log log' s s' quiet is
step_turns old new log log' wire session started s s' r sound (asks_more on none_left at may sending new_one h) =
    more_so old new log log' wire started s sending s' r none_left on sound.named sound.saved (record { session = session; command_is = new_one.command_is; single = new_one.single; held = may.held })
    (λ w start opened answered.
    let f = idle w start s opened answered in
    as_following old s w start opened answered rests on at ∙ ap (λ (es : List (List ℕ)). in_hand (map fields es) s.cursor.token f) none_left
    ∙ ap (λ (stage : Stage). at_stage (record f { doing = resting }) (asks_at f) old stage) (sym new_one.new)) h
step_turns old new log log' wire session started s s' r sound (waits_more on none_left sending at h) =
    let asking_so : IsAsking false s.cursor sending = subst (cursors.SoundBy false s.cursor) at sound.asks_its_own in
    more_so old new log log' wire started s sending s' r none_left on sound.named sound.saved
    (record { session = asking_so.session; command_is = asking_so.waits_on.command_is; single = asking_so.waits_on.single; held = asking_so.may.held })
    (λ w start opened answered. as_following old s w start opened answered (asks sending) on at) h
step_turns old new log log' wire session started s s' r sound (not_resumed on e fails quiet unstarted is answer) = quiet_turns old new log log' s s' quiet is
step_turns old new log log' wire session started s s' r sound (resumes_now on sending new_one h) =
    resumption_so old new log log' wire started s sending s' r sound.saved (record { wire = wire; session = session; command_is = new_one.command_is })
    (λ w start opened answered.
    let f = idle w start s opened answered in
    as_doing old s w start opened answered owes on ∙ ap (λ (stage : Stage). at_stage f (λ place. record f { doing = resuming place }) old stage) (sym new_one.new)) h
step_turns old new log log' wire session started s s' r sound (waits_resumption sending on h) =
    let own : IsAggregate false s.aggregate sending = (subst (SoundBy false s) on sound.by).1 in
    resumption_so old new log log' wire started s sending s' r sound.saved (record { wire = own.wire; session = own.session; command_is = own.command_is })
    (λ w start opened answered. as_doing old s w start opened answered (resumes sending) on) h
step_turns old new log log' wire session started s s' r sound (closes before on unstarted came polls h) =
    let by = subst (SoundBy false s) on sound.by in
    let reply_so = held_reply s.cursor.doing by.1 in
    record {
      args = closing_args s s' r came h;
      moved = λ w start asks_so opened answered.
          let f = held_by (event_fields reply_so.0) s.cursor.token (idle w start s opened answered) in
          closing_so new log log' s reply_so.0 s' r came (follow_of old w start s opened answered) w start opened answered reply_so.1 h
          (subst (λ (g : Follow). ClosesTo new log log' g f came)
          (sym (as_doing old s w start opened answered (kills before) on ∙ ap (λ (d : cursors.Doing). with_older old before (unread_batch d s.cursor.token (idle w start s opened answered))) reply_so.1))
          (closes_so f refl refl old new log log' wire before came by.2 by.3 polls));
    }
step_turns old new log log' wire session started s s' r sound (renews on said at quiet unstarted h) =
    looks_turn true old new log log' s said s' r quiet sound.saved (λ w start opened answered. as_unread old s w start opened answered said on at) h

-- ---- what a call gives of the batch in hand

abbrev pub told_of : List ℕ → List Fields
told_of event = fields event ∷ []

-- an event is answered, and these are behind it
event_moved : (log : LogTold) (w : Watch) (start : Start) (opened : Option ℕ) (id : ℤ) (before : Option Tree) (event : List ℕ) (events : List (List ℕ)) (upto : Option Tree) (own : Tree) (answered : List Fields) → id_in event ≡ Some own
    → Moved log log (held_by (fields event ∷ map fields events) upto (idle_by w start opened id before answered)) (in_hand (map fields events) upto (idle_by w start opened id (Some (token_behind events upto own)) (answered ++ fields event ∷ [])))
event_moved log w start opened id before event [] upto own answered has =
    let f = held_by (fields event ∷ []) upto (idle_by w start opened id before answered) in
    let g = answering f resting [] (last_token upto own) (answered ++ fields event ∷ []) in
    let m = moved log log log f g (resting_only g) (last_answered log log f (fields event) own refl refl refl) (rest_forgets log g refl) in
    up_to log log f (resting_only g) (record (idle_by w start opened id (Some (token_behind [] upto own)) (answered ++ fields event ∷ [])) { doing = resting })
    (ap (λ (t : Option Tree). record (idle_by w start opened id t (answered ++ fields event ∷ [])) { doing = resting }) (last_behind upto own)) m
event_moved log w start opened id before event (next_one ∷ events) upto own answered has =
    let f = held_by (fields event ∷ map fields (next_one ∷ events)) upto (idle_by w start opened id before answered) in
    event_answered log log f (fields event) (map fields (next_one ∷ events)) own refl refl has refl

-- an event without a token was passed over
pub taken_by : (log : LogTold) (f : Follow) (event : List ℕ) (events : List (List ℕ)) (upto : Option Tree) → id_in event ≡ None → Moved log log (held_by (fields event ∷ map fields events) upto f) (in_hand (map fields events) upto (record f { doing = owing; ahead = []; upto = None }))
taken_by log f event [] upto lacks =
    let h = held_by (fields event ∷ []) upto f in
    let g = answering h resting [] f.token f.answered in
    moved log log log h g (resting_only g) (last_taken log log h (fields event) refl refl lacks refl) (rest_forgets log g refl)
taken_by log f event (d ∷ ds) upto lacks = event_taken log log (held_by (fields event ∷ fields d ∷ map fields ds) upto f) (fields event) (fields d ∷ map fields ds) refl refl lacks refl

-- the stream stands at an event
pub record StandsAtEvent (s : ClientStream) : Type 0 where
  pub follows_on : s.doing ≡ follows
  pub quiet : s.cursor.doing ≡ rests

module _ (awaited : Awaited) (s : ClientStream) (at_event : StandsAtEvent s) (event : List ℕ) (events : List (List ℕ)) (these : s.behind ≡ event ∷ events) (w : Watch) (start : Start) (opened : Option ℕ) (answered : List Fields) where
  stands_held : follow_of awaited w start s opened answered ≡ held_by (fields event ∷ map fields events) s.cursor.token (idle w start s opened answered)
  stands_held =
      as_following awaited s w start opened answered rests at_event.follows_on at_event.quiet ∙ ap (λ (es : List (List ℕ)). in_hand (map fields es) s.cursor.token (idle w start s opened answered)) these

pub gives_turns : (s s' : ClientStream) (event : List ℕ) → IsSaved s.aggregate.args.options s.aggregate.resume → StandsAtEvent s → AnswersEvent s s' event → Turns s s' (told_of event)
gives_turns s s' event saved at_event h =
    record {
      args = ap (λ (x : ClientStream). x.aggregate.args) h.given;
      moved = λ log awaited w start opened answered.
          let f = follow_of awaited w start s opened answered in
          let t : ClientStream = behind_event event h.events h.id s in
          let own : Tree = token_behind h.events s.cursor.token h.id in
          subst (λ (x : ClientStream). Moved log log f (follow_of awaited w start x opened (answered ++ told_of event))) (sym h.given)
          (from_here log log f (held_by (fields event ∷ map fields h.events) s.cursor.token (idle w start s opened answered)) (follow_of awaited w start t opened (answered ++ told_of event))
          (stands_held awaited s at_event event h.events h.next_is w start opened answered)
          (up_to log log (held_by (fields event ∷ map fields h.events) s.cursor.token (idle w start s opened answered)) (in_hand (map fields h.events) s.cursor.token (idle_by w start opened s.cursor.id (Some own) (answered ++ told_of event))) (follow_of awaited w start t opened (answered ++ told_of event))
          (ap (λ (o : Option Tree). in_hand (map fields h.events) s.cursor.token (idle_by w start opened s.cursor.id o (answered ++ told_of event))) (sym (token_remembered s.aggregate.args.options s.aggregate.resume own true saved))
          ∙ sym (as_following awaited t w start opened (answered ++ told_of event) rests at_event.follows_on at_event.quiet))
          (event_moved log w start opened s.cursor.id (stream_token s) event h.events s.cursor.token h.id answered h.has)));
    }

pub lacks_turns : (s s' : ClientStream) (e : Error) → StandsAtEvent s → LacksToken s s' e → Turns s s' []
lacks_turns s s' e at_event h =
    record {
      args = ap (λ (x : ClientStream). x.aggregate.args) h.passed;
      moved = λ log awaited w start opened answered.
          let f = follow_of awaited w start s opened answered in
          let t : ClientStream = record s { behind = h.events } in
          quietly log log f (λ l. follow_of awaited w start s' opened l) answered
          (subst (λ (x : ClientStream). Moved log log f (follow_of awaited w start x opened answered)) (sym h.passed)
          (from_here log log f (held_by (fields h.event ∷ map fields h.events) s.cursor.token (idle w start s opened answered)) (follow_of awaited w start t opened answered)
          (stands_held awaited s at_event h.event h.events h.next_is w start opened answered)
          (up_to log log (held_by (fields h.event ∷ map fields h.events) s.cursor.token (idle w start s opened answered)) (in_hand (map fields h.events) s.cursor.token (idle w start s opened answered)) (follow_of awaited w start t opened answered)
          (sym (as_following awaited t w start opened answered rests at_event.follows_on at_event.quiet))
          (taken_by log (idle w start s opened answered) h.event h.events s.cursor.token h.lacks))));
    }

-- nothing was given
pub stays_turns : (s s' : ClientStream) → s' ≡ s → Turns s s' []
stays_turns s s' is =
    subst (λ (x : ClientStream). Turns s x []) (sym is)
    (record { args = refl; moved = λ log awaited w start opened answered. quietly log log (follow_of awaited w start s opened answered) (λ l. follow_of awaited w start s opened l) answered (stayed log log (follow_of awaited w start s opened answered) refl) })

-- ---- one behind another

asks_still : (s s' : ClientStream) (w : Watch) (start : Start) → s'.aggregate.args ≡ s.aggregate.args → Asks s.aggregate.args w start → Asks s'.aggregate.args w start
asks_still s s' w start is asks_so = subst (λ (a : _). Asks a w start) (sym is) asks_so

pub turned_on : (old mid new : Awaited) (log between log' : LogTold) (s t s' : ClientStream) → Turned old mid log between s t → Turned mid new between log' t s' → Turned old new log log' s s'
turned_on old mid new log between log' s t s' a b =
    record {
      args = b.args ∙ a.args;
      moved = λ w start asks_so opened answered.
          moved log between log' (follow_of old w start s opened answered) (follow_of mid w start t opened answered) (follow_of new w start s' opened answered) (a.moved w start asks_so opened answered) (b.moved w start (asks_still s t w start a.args asks_so) opened answered);
    }
