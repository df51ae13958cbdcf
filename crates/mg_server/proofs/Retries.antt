-- A request that is sent once more moves a stream as its last attempt does.
use Rattle.std.proofs.Common.{◌≡◌, ℕ, ℤ, Bool, true, false, List, [], ◌∷◌, ◌++◌, length, Option, Some, None, option_map, refl, sym, ap, ◌∙◌, subst, inl, inr}
use Rattle.std.specs.Prelude.{slice_get}
use Rattle.mg_server.specs.Commands.{Batch, asks_watch, asked}
use Rattle.mg_server.specs.State.{Start}
use Rattle.mg_link.specs.declared.action.Step.{Step}
use Rattle.mg_link.specs.declared.action.Step.TheVariants as step
use Rattle.mg_link.specs.declared.error.Error.{Error}
use Rattle.mg_link.specs.Exec.{Stage, unsent, first, second, Sending, Attempt, not_sent, waits, answered, Begins, GoesOn, Tries, is_repeated, AttemptFails, AttemptGives, holding, Runs}
use Rattle.mg_link.specs.Log.{Sight, waiting, reply, Call, see}
use Rattle.mg_link.specs.Link.{Awaited, LogTold, Adds, Sees}
use Rattle.mg_server.specs.Follow.{unopened, starting, owing, resuming, Follow, owner_of, ResumesAt, Reads, Moved}
use Rattle.mg_link.proofs.Places.{get_seam}
use Rattle.mg_server.proofs.Owners.{same_some}
use Rattle.mg_server.proofs.Openings.{names_none, IsNext, opened_with, start_sent, start_unsent, start_failed, start_heard}
use Rattle.mg_server.proofs.Moves.{stayed, moved, gave_up_added, gave_up_seen}
use Rattle.mg_server.specs.Moves.{at_stage, resumed_with}
use Rattle.mg_server.proofs.Resumes.{resume_sent, resume_heard}

-- ---- sent and answered at once

pub see_last : (calls : List Call) (call : Call) (seen : Sight) → see (length calls) seen (calls ++ call ∷ []) ≡ calls ++ record call { seen = seen } ∷ []
see_last [] call seen = refl
see_last (c ∷ calls) call seen = ap (λ (l : List Call). c ∷ l) (see_last calls call seen)

-- the place of the next call, where the log is told
abbrev pub next_place : LogTold → Option ℕ
next_place log = option_map length log

pub next_is : (log : LogTold) → IsNext log (next_place log)
next_is log calls told = ap (option_map length) told

-- A call that was sent and answered in one went out first, and was answered then.
pub at_once : (log log' : LogTold) (command : List ℕ) (seen : Sight) (place : Option ℕ) (f f' f'' : Follow) → Adds log log' command seen → IsNext log place
    → ((mid : LogTold) → Adds log mid command waiting → Moved log mid f f') → ((mid : LogTold) → Sees mid log' place seen → Moved mid log' f' f'') → Moved log log' f f''
at_once log log' command seen place f f' f'' adds next sent ended calls told =
    let add = adds calls told in
    let w : Call = record { command = command; position = add.0; seen = waiting } in
    let mid : LogTold = Some (calls ++ w ∷ []) in
    let added : Adds log mid command waiting =
    λ other is. (add.0, ap (λ (l : List Call). Some (l ++ w ∷ [])) (same_some calls other (sym told ∙ is))) in
    let seen_there : Sees mid log' place seen =
    λ other is.
    let same : calls ++ w ∷ [] ≡ other = same_some (calls ++ w ∷ []) other is in (
      length calls,
      w,
      next calls told,
      subst (λ (l : List Call). slice_get l (length calls) ≡ Some w) same (get_seam calls [] w),
      refl,
      add.1 ∙ ap Some (sym (see_last calls w seen)) ∙ ap (λ (l : List Call). Some (see (length calls) seen l)) same,
    ) in
    moved log mid log' f f' f'' (sent mid added) (ended mid seen_there) calls told

-- ---- requests

-- the place of the call that a request waits for
abbrev pub place_of : Awaited → Stage → Option ℕ
place_of awaited unsent = None
place_of awaited (first ticket) = awaited ticket
place_of awaited (second ticket) = awaited ticket

-- How a request moves a stream: idle before it is sent and where it fails, waiting while it is out, and done with the batch that is read.
pub record Request (command : List ℕ) (idle : Follow) (waiting_at : Option ℕ → Follow) (done : Option ℕ → Batch → Follow) : Type 0 where
  pub sent : (log log' : LogTold) (place : Option ℕ) → Adds log log' command waiting → IsNext log place → Moved log log' idle (waiting_at place)
  pub unsent : (log log' : LogTold) (seen : Sight) → Adds log log' command seen → Moved log log' idle idle
  pub failed : (log log' : LogTold) (place : Option ℕ) (seen : Sight) → Sees log log' place seen → Moved log log' (waiting_at place) idle
  pub heard : (log log' : LogTold) (place : Option ℕ) (bytes : List ℕ) (batch : Batch) → Reads bytes batch → Sees log log' place (reply bytes) → Moved log log' (waiting_at place) (done place batch)

module _ (command : List ℕ) (idle : Follow) (waiting_at : Option ℕ → Follow) (done : Option ℕ → Batch → Follow) (r : Request command idle waiting_at done) where
  -- where a stream is behind an answer: idle where it failed, and done where a batch is read of it
  abbrev pub Answered : LogTold → LogTold → Follow → Sight → Type 0
  Answered log log' f seen = Moved log log' f idle × ((bytes : List ℕ) → seen ≡ reply bytes → (place : Option ℕ) × ((batch : Batch) → Reads bytes batch → Moved log log' f (done place batch)))

  abbrev pub Attempted : Awaited → LogTold → LogTold → Follow → Attempt → Type 0
  Attempted new log log' f not_sent = Moved log log' f idle
  Attempted new log log' f (waits ticket) = Moved log log' f (waiting_at (new ticket))
  Attempted new log log' f (answered seen) = Answered log log' f seen

  heard_at_once : (log log' : LogTold) (bytes : List ℕ) (batch : Batch) → Reads bytes batch → Adds log log' command (reply bytes) → Moved log log' idle (done (next_place log) batch)
  heard_at_once log log' bytes batch reads adds =
      at_once log log' command (reply bytes) (next_place log) idle (waiting_at (next_place log)) (done (next_place log) batch) adds (next_is log)
      (λ mid a. r.sent log mid (next_place log) a (next_is log))
      (λ mid s. r.heard mid log' (next_place log) bytes batch reads s)

  pub begun : (old new : Awaited) (log log' : LogTold) (attempt : Attempt) → Begins old new log log' command attempt → Attempted new log log' idle attempt
  begun old new log log' not_sent b = stayed log log' idle b.log_same
  begun old new log log' (waits ticket) b = r.sent log log' (new ticket) b.adds (λ calls told. b.place calls told)
  begun old new log log' (answered seen) b =
      (r.unsent log log' seen b.adds, λ bytes is. (next_place log, λ batch reads. heard_at_once log log' bytes batch reads (subst (λ (s : Sight). Adds log log' command s) is b.adds)))

  pub gone_on : (old new : Awaited) (log log' : LogTold) (ticket : ℕ) (attempt : Attempt) → GoesOn old new log log' ticket attempt → Attempted new log log' (waiting_at (old ticket)) attempt
  gone_on old new log log' ticket not_sent g = absurd g
  gone_on old new log log' ticket (waits given) g =
      subst (λ (place : Option ℕ). Moved log log' (waiting_at (old ticket)) (waiting_at place)) (sym (g.rest given ∙ ap old g.same)) (stayed log log' (waiting_at (old ticket)) g.log_same)
  gone_on old new log log' ticket (answered seen) g =
      (r.failed log log' (old ticket) seen g.sees, λ bytes is. (old ticket, λ batch reads. r.heard log log' (old ticket) bytes batch reads (subst (λ (s : Sight). Sees log log' (old ticket) s) is g.sees)))

  pub tried : (old new : Awaited) (log log' : LogTold) (stage : Stage) (attempt : Attempt) → Tries old new log log' command stage attempt → Attempted new log log' (at_stage idle waiting_at old stage) attempt
  tried old new log log' unsent attempt t = begun old new log log' attempt t
  tried old new log log' (first ticket) attempt t = gone_on old new log log' ticket attempt t
  tried old new log log' (second ticket) attempt t = gone_on old new log log' ticket attempt t

  -- ---- what a poll comes to

  -- where a stream is behind a poll of its request
  abbrev pub Ran : Awaited → LogTold → LogTold → Follow → Step Sending (List ℕ) → Type 0
  Ran new log log' f (step.Pending s) = Moved log log' f (waiting_at (place_of new s.stage))
  Ran new log log' f (step.Done bytes) = Answered log log' f (reply bytes)
  Ran new log log' f (step.Failed e) = Moved log log' f idle

  failed_by : (new : Awaited) (log log' : LogTold) (f : Follow) (wire : ℤ) (e : Error) (attempt : Attempt) → AttemptFails attempt wire e → Attempted new log log' f attempt → Moved log log' f idle
  failed_by new log log' f wire e not_sent fails a = a
  failed_by new log log' f wire e (waits ticket) fails a = absurd fails
  failed_by new log log' f wire e (answered seen) fails a = a.0

  ran_by : (new : Awaited) (log log' : LogTold) (f : Follow) (wire : ℤ) (hold : ℕ → Sending) → ((ticket : ℕ) → place_of new (hold ticket).stage ≡ new ticket) → (attempt : Attempt) (result : Step Sending (List ℕ)) → AttemptGives attempt wire hold result → Attempted new log log' f attempt → Ran new log log' f result
  ran_by new log log' f wire hold held attempt (step.Pending s) g a =
      let here = subst (Attempted new log log' f) g.1 a in
      subst (λ (place : Option ℕ). Moved log log' f (waiting_at place)) (sym (ap (λ (x : Sending). place_of new x.stage) g.2 ∙ held g.0)) here
  ran_by new log log' f wire hold held attempt (step.Done bytes) g a = subst (Attempted new log log' f) g.0 a
  ran_by new log log' f wire hold held attempt (step.Failed e) g a = failed_by new log log' f wire e attempt g a

  not_repeated : (retries : Bool) (stage : Stage) (ticket : ℕ) → is_repeated retries stage (waits ticket) ≡ true → ⊥
  not_repeated true unsent ticket h = cc
  not_repeated false unsent ticket h = cc
  not_repeated true (first old) ticket h = cc
  not_repeated false (first old) ticket h = cc
  not_repeated retries (second old) ticket h = cc

  held_stage : (new : Awaited) (stage : Stage) (ticket : ℕ) → place_of new (holding stage ticket) ≡ new ticket
  held_stage new unsent ticket = refl
  held_stage new (first old) ticket = refl
  held_stage new (second old) ticket = refl

  -- an attempt behind which the command is sent once more left the stream idle
  idle_again : (new : Awaited) (log log' : LogTold) (f : Follow) (retries : Bool) (stage : Stage) (attempt : Attempt) → is_repeated retries stage attempt ≡ true → Attempted new log log' f attempt → Moved log log' f idle
  idle_again new log log' f retries stage not_sent again a = a
  idle_again new log log' f retries stage (waits ticket) again a = absurd (not_repeated retries stage ticket again)
  idle_again new log log' f retries stage (answered seen) again a = a.0

  join_idle : (log mid log' : LogTold) (f : Follow) (new : Awaited) (result : Step Sending (List ℕ)) → Moved log mid f idle → Ran new mid log' idle result → Ran new log log' f result
  join_idle log mid log' f new (step.Pending s) m ran = moved log mid log' f idle (waiting_at (place_of new s.stage)) m ran
  join_idle log mid log' f new (step.Done bytes) m ran =
      (moved log mid log' f idle idle m ran.0, λ b is. let r = ran.1 b is in (r.0, λ batch reads. moved log mid log' f idle (done r.0 batch) m (r.1 batch reads)))
  join_idle log mid log' f new (step.Failed e) m ran = moved log mid log' f idle idle m ran

  -- A poll of the request moves the stream from the stage before to that behind it, to the batch that is read of its reply, or to idle.
  pub ran : (old new : Awaited) (log log' : LogTold) (wire : ℤ) (s : Sending) (result : Step Sending (List ℕ)) → s.command ≡ command → Runs old new log log' wire s result → Ran new log log' (at_stage idle waiting_at old s.stage) result
  ran old new log log' wire s result is (inl once) =
      ran_by new log log' (at_stage idle waiting_at old s.stage) wire (λ ticket. record s { stage = holding s.stage ticket }) (held_stage new s.stage) once.attempt result once.gives
      (tried old new log log' s.stage once.attempt (subst (λ (c : List ℕ). Tries old new log log' c s.stage once.attempt) is once.tries))
  ran old new log log' wire s result is (inr twice) =
      let first_try = tried old twice.between log twice.log_between s.stage twice.attempt (subst (λ (c : List ℕ). Tries old twice.between log twice.log_between c s.stage twice.attempt) is twice.tries) in
      let idle_then = idle_again twice.between log twice.log_between (at_stage idle waiting_at old s.stage) s.retries s.stage twice.attempt twice.repeated first_try in
      let next = begun twice.between new twice.log_between log' twice.again (subst (λ (c : List ℕ). Begins twice.between new twice.log_between log' c twice.again) is twice.begins) in
      join_idle log twice.log_between log' (at_stage idle waiting_at old s.stage) new result idle_then
      (ran_by new twice.log_between log' idle wire (λ ticket. record s { stage = second ticket }) (λ ticket. refl) twice.again result twice.gives next)

-- ---- the two requests of a stream

-- the aggregate that opens it
pub opening_request : (command : List ℕ) (f : Follow) → asked command ≡ asks_watch f.watch f.start → Request command (record f { doing = unopened }) (λ place. record f { doing = starting place }) (λ place batch. opened_with f place batch)
opening_request command f asks =
    record {
      sent = λ log log' place adds next. start_sent log log' (record f { doing = unopened }) place command waiting refl asks adds next;
      unsent = λ log log' seen adds. start_unsent log log' (record f { doing = unopened }) command seen refl asks adds;
      failed = λ log log' place seen sees. start_failed log log' (record f { doing = starting place }) place seen refl sees;
      heard = λ log log' place bytes batch reads sees. start_heard log log' (record f { doing = starting place }) place bytes batch refl reads sees;
    }

-- the aggregate of a resumption
pub resume_request : (command : List ℕ) (f : Follow) (begin : Start) → ResumesAt f.start f.token begin → asked command ≡ asks_watch f.watch begin → Request command (record f { doing = owing }) (λ place. record f { doing = resuming place }) (λ place batch. resumed_with f batch)
resume_request command f begin resumes asks =
    record {
      sent = λ log log' place adds next. resume_sent log log' (record f { doing = owing }) place command begin waiting refl resumes asks adds next;
      unsent = λ log log' seen adds. gave_up_added log log' (record f { doing = owing }) command seen tt (names_none (owner_of f) command f.watch begin asks) adds;
      failed = λ log log' place seen sees. gave_up_seen log log' (record f { doing = resuming place }) place seen tt sees;
      heard = λ log log' place bytes batch reads sees. resume_heard log log' (record f { doing = resuming place }) place bytes batch refl reads sees;
    }
