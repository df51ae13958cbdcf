-- Where a stream is behind a poll of its request.
use Rattle.std.proofs.Common.{◌≡◌, ◌≢◌, ◌⊎◌, ℕ, ℤ, pos, Bool, true, false, List, [], ◌∷◌, Option, Some, None, Ok, refl, sym, ap, ◌∙◌, subst, inl, inr, option_map}
use Rattle.std.specs.Prelude.{unwrap_or}
use Rattle.mg_bson.specs.Reading.{doc}
use Rattle.mg_bson.specs.Raw.{fields}
use Rattle.mg_bson.specs.Tree.{Fields, no_fields}
use Rattle.mg_link.specs.Namespace.{Space}
use Rattle.mg_server.specs.State.{Start}
use Rattle.mg_server.specs.Commands.{Batch, asks_kill, asks_more, asks_watch, asked, batch_of, documents_in}
use Rattle.mg_link.specs.Exec.{Stage, unsent, first, second, Sending, Attempt, not_sent, waits, answered, Begins, FailsAs, AttemptFails, FailsByReply, AttemptGives, IsSuccess, Runs, Tries, holding as held_at, is_repeated, ticket_at}
use Rattle.mg_server.specs.Follow.{Follow, holding, resting, resuming, IsOpen, Moved, Reads, ResumesAt}
use Rattle.mg_link.specs.Link.{Awaited, LogTold, Sees}
use Rattle.mg_link.specs.Log.{waiting, reply, fault, memory}
use Rattle.mg_link.specs.Reply.{verdict_of}
use Rattle.mg_link.specs.Resumable.{is_resumable}
use Rattle.mg_link.specs.declared.action.Step.{Step}
use Rattle.mg_link.specs.declared.action.Step.TheVariants as step
use Rattle.mg_link.specs.declared.error.Error.{Error}
use Rattle.mg_link.specs.declared.error.ErrorKind.TheVariants as kind
use Rattle.mg_link.specs.declared.reply.Verdict.{Verdict}
use Rattle.mg_link.specs.declared.reply.Verdict.TheVariants as verdict
use Rattle.mg_server.proofs.Asking.{MoreAttempted, asks_at, more_ran}
use Rattle.mg_server.proofs.Calls.{success_ran}
use Rattle.mg_server.proofs.Heard.{more_spoiled, no_batch_refused, watch_spoiled}
use Rattle.mg_server.specs.Moves.{owed, given_with, rested, MoreAnswered, at_stage, resumed_with}
use Rattle.mg_server.proofs.Moves.{moved, gave_up}
use Rattle.mg_server.proofs.Killing.{kill_begun, kill_gone_on}
use Rattle.mg_server.proofs.Resumes.{let_go}
use Rattle.mg_server.proofs.Retries.{Attempted, Request, at_once, next_is, next_place, place_of, ran, resume_request, tried}
use Rattle.mg_server.proofs.Spoiled.{resume_garbled}
use Rattle.mg_link.proofs.Waits.{never_again}
use Rattle.mg_ops.specs.Cursors.{Cursor, cursor_of}
use Rattle.mg_ops.proofs.Reading.{batch_as, batch_read}

-- ---- where a stream is behind its request, as it likes

-- Behind a getMore that failed so: it owes, or it rests where the server refused for good.
pub record MoreFailed (f : Follow) (log log' : LogTold) (g : Follow) (e : Error) : Type 0 where
  pub lost : Moved log log' g (owed f)
  pub rests : is_resumable e.kind e.labels e.wire_version ≡ false → (e.kind ≡ kind.OutOfMemory → ⊥) → (cursor : ℤ) → (cursor ≡ f.cursor) ⊎ (cursor ≡ pos 0) → Moved log log' g (rested f cursor)

-- Behind a reply to the aggregate of its resumption: it owes; or a batch was read; or the reply is none that a server may give.
pub record Resumed (f : Follow) (log log' : LogTold) (g : Follow) (bytes : List ℕ) : Type 0 where
  pub lost : Moved log log' g f
  pub heard : (batch : Batch) → Reads bytes batch → Moved log log' g (resumed_with f batch)
  pub spoiled : batch_of (fields bytes) ≡ None → (batch : Batch) → Moved log log' g (resumed_with f batch)

-- ---- the batch that is read, or none that a server may give

module _ (f : Follow) (log log' : LogTold) (g : Follow) (bytes : List ℕ) (c : Cursor) (success : IsSuccess bytes) (says : cursor_of (fields bytes) ≡ Ok c) where
  batch_is : (o : Option (List Fields)) → documents_in c.batch ≡ o → batch_of (fields bytes) ≡ option_map (batch_as c) o
  batch_is o e = batch_read (fields bytes) c says ∙ ap (option_map (batch_as c)) e

  more_by : (o : Option (List Fields)) → documents_in c.batch ≡ o → MoreAnswered f log log' g (reply bytes) → Moved log log' g (given_with f (batch_as c (unwrap_or o [])))
  more_by (Some es) e m = m.heard bytes refl (batch_as c es) (record { success = success; batch_is = batch_is (Some es) e })
  more_by None e m = m.spoiled bytes refl (batch_as c []) (λ space. more_spoiled f.cursor space bytes success (batch_is None e))

  -- The cursor of a reply to a getMore was read.
  pub more_taken : MoreAnswered f log log' g (reply bytes) → Moved log log' g (given_with f (batch_as c (unwrap_or (documents_in c.batch) [])))
  more_taken m = more_by (documents_in c.batch) refl m

  resumed_by : (o : Option (List Fields)) → documents_in c.batch ≡ o → Resumed f log log' g bytes → Moved log log' g (resumed_with f (batch_as c (unwrap_or o [])))
  resumed_by (Some es) e r = r.heard (batch_as c es) (record { success = success; batch_is = batch_is (Some es) e })
  resumed_by None e r = r.spoiled (batch_is None e) (batch_as c [])

  -- The cursor of a reply to the aggregate of a resumption was read.
  pub resume_taken : Resumed f log log' g bytes → Moved log log' g (resumed_with f (batch_as c (unwrap_or (documents_in c.batch) [])))
  resume_taken r = resumed_by (documents_in c.batch) refl r

-- ---- a getMore that failed

-- an error by a reply is resumable, or want of memory, or the reply is a refusal
refused_as : (v : Verdict) (said : Fields) (wire : ℤ) (e : Error) → FailsAs v said wire e → is_resumable e.kind e.labels e.wire_version ≡ false → (e.kind ≡ kind.OutOfMemory → ⊥) → v ≡ verdict.Refusal
refused_as verdict.Success said wire e fails final room = absurd fails
refused_as verdict.Refusal said wire e fails final room = refl
refused_as verdict.NoOk said wire e fails final room =
    let bad : true ≡ false = sym (ap (λ (x : Error). is_resumable x.kind x.labels x.wire_version) fails) ∙ final in absurd cc

refused_by : (o : Option Fields) (bytes : List ℕ) (wire : ℤ) (e : Error) → doc bytes ≡ o → FailsByReply o wire e → is_resumable e.kind e.labels e.wire_version ≡ false → (e.kind ≡ kind.OutOfMemory → ⊥) → verdict_of (fields bytes) ≡ verdict.Refusal
unfolding fields
refused_by None bytes wire e is fails final room =
    let bad : true ≡ false = sym (ap (λ (x : Error). is_resumable x.kind x.labels x.wire_version) fails) ∙ final in absurd cc
refused_by (Some said) bytes wire e is fails final room = ap (λ (o : Option Fields). verdict_of (unwrap_or o no_fields)) is ∙ refused_as (verdict_of said) said wire e fails final room

module _ (f : Follow) (new : Awaited) (log log' : LogTold) (g : Follow) (is_open : IsOpen g.doing) (owes : owed g ≡ owed f) (wire : ℤ) (e : Error) where
  quit : Moved log log' g g → Moved log log' g (owed f)
  quit m = subst (λ (h : Follow). Moved log log' g h) owes (moved log log' log' g g (owed g) m (gave_up log' log' g is_open refl))

  -- where the stream is behind an attempt that failed
  pub more_failed : (attempt : Attempt) → AttemptFails attempt wire e → MoreAttempted f new log log' g attempt → MoreFailed f log log' g e
  more_failed not_sent fails m =
      record { lost = quit m; rests = λ final room. absurd (room (ap (λ (x : Error). x.kind) fails)) }
  more_failed (waits ticket) fails m = absurd fails
  more_failed (answered waiting) fails m = absurd fails
  more_failed (answered (reply bytes)) fails m =
      record {
        lost = m.lost;
        rests = λ final room cursor which. m.rests bytes refl cursor which (λ space. no_batch_refused f.cursor space bytes (refused_by (doc bytes) bytes wire e refl fails final room));
      }
  more_failed (answered fault) fails m =
      record { lost = m.lost; rests = λ final room. let bad : true ≡ false = sym (ap (λ (x : Error). is_resumable x.kind x.labels x.wire_version) fails) ∙ final in absurd cc }
  more_failed (answered memory) fails m =
      record { lost = m.lost; rests = λ final room. absurd (room (ap (λ (x : Error). x.kind) fails)) }

-- ---- the stage of a request that waits

-- it is not unsent
pub record Waits (s : Sending) : Type 0 where
  pub ticket : ℕ
  pub held : ticket_at s.stage ≡ Some ticket

held_by : (s : Sending) (stage : Stage) (ticket : ℕ) → Waits (record s { stage = held_at stage ticket })
held_by s unsent ticket = record { ticket = ticket; held = refl }
held_by s (first old) ticket = record { ticket = ticket; held = refl }
held_by s (second old) ticket = record { ticket = ticket; held = refl }

pub waits_still : (old new : Awaited) (log log' : LogTold) (wire : ℤ) (s s' : Sending) → Runs old new log log' wire s (step.Pending s') → Waits s'
waits_still old new log log' wire s s' (inl once) = subst Waits (sym once.gives.2) (held_by s s.stage once.gives.0)
waits_still old new log log' wire s s' (inr twice) = subst Waits (sym twice.gives.2) (record { ticket = twice.gives.0; held = refl })

stage_waits : (idle : Follow) (waiting_at : Option ℕ → Follow) (awaited : Awaited) (stage : Stage) (ticket : ℕ) → ticket_at stage ≡ Some ticket → waiting_at (place_of awaited stage) ≡ at_stage idle waiting_at awaited stage
stage_waits idle waiting_at awaited unsent ticket h = absurd cc
stage_waits idle waiting_at awaited (first held) ticket h = refl
stage_waits idle waiting_at awaited (second held) ticket h = refl

-- a stream at the stage of a request that waits
pub at_waiting : (idle : Follow) (waiting_at : Option ℕ → Follow) (awaited : Awaited) (s : Sending) → Waits s → waiting_at (place_of awaited s.stage) ≡ at_stage idle waiting_at awaited s.stage
at_waiting idle waiting_at awaited s w = stage_waits idle waiting_at awaited s.stage w.ticket w.held

-- ---- a getMore

more_held : (f : Follow) (new : Awaited) (log log' : LogTold) (g : Follow) (s : Sending) (stage : Stage) (ticket : ℕ) → Moved log log' g (asks_at f (new ticket)) → Moved log log' g (at_stage (record f { doing = resting }) (asks_at f) new (held_at stage ticket))
more_held f new log log' g s unsent ticket m = m
more_held f new log log' g s (first old) ticket m = m
more_held f new log log' g s (second old) ticket m = m

open_at_rest : (f : Follow) (awaited : Awaited) (stage : Stage) → IsOpen (at_stage (record f { doing = resting }) (asks_at f) awaited stage).doing
open_at_rest f awaited unsent = tt
open_at_rest f awaited (first ticket) = tt
open_at_rest f awaited (second ticket) = tt

owed_at_rest : (f : Follow) (awaited : Awaited) (stage : Stage) → owed (at_stage (record f { doing = resting }) (asks_at f) awaited stage) ≡ owed f
owed_at_rest f awaited unsent = refl
owed_at_rest f awaited (first ticket) = refl
owed_at_rest f awaited (second ticket) = refl

-- what a poll of a getMore comes to
abbrev pub MoreCame : Follow → Awaited → LogTold → LogTold → Follow → Step Sending (List ℕ) → Type 0
MoreCame f new log log' g (step.Pending s) = Moved log log' g (at_stage (record f { doing = resting }) (asks_at f) new s.stage)
MoreCame f new log log' g (step.Done bytes) = MoreAnswered f log log' g (reply bytes) × IsSuccess bytes
MoreCame f new log log' g (step.Failed e) = MoreFailed f log log' g e

more_gives : (f : Follow) (old new : Awaited) (log log' : LogTold) (wire : ℤ) (s : Sending) (attempt : Attempt) (result : Step Sending (List ℕ)) → AttemptGives attempt wire (λ ticket. record s { stage = held_at s.stage ticket }) result
    → MoreAttempted f new log log' (at_stage (record f { doing = resting }) (asks_at f) old s.stage) attempt → MoreCame f new log log' (at_stage (record f { doing = resting }) (asks_at f) old s.stage) result
more_gives f old new log log' wire s attempt (step.Pending s') gives m =
    let g = at_stage (record f { doing = resting }) (asks_at f) old s.stage in
    let here = subst (MoreAttempted f new log log' g) gives.1 m in
    subst (λ (x : Sending). Moved log log' g (at_stage (record f { doing = resting }) (asks_at f) new x.stage)) (sym gives.2) (more_held f new log log' g s s.stage gives.0 here)
more_gives f old new log log' wire s attempt (step.Done bytes) gives m =
    (subst (MoreAttempted f new log log' (at_stage (record f { doing = resting }) (asks_at f) old s.stage)) gives.0 m, gives.1)
more_gives f old new log log' wire s attempt (step.Failed e) gives m =
    more_failed f new log log' (at_stage (record f { doing = resting }) (asks_at f) old s.stage) (open_at_rest f old s.stage) (owed_at_rest f old s.stage) wire e attempt gives m

-- A getMore of the stream's cursor was polled.
pub more_polled : (f : Follow) (old new : Awaited) (log log' : LogTold) (wire : ℤ) (s : Sending) (space : Space) (result : Step Sending (List ℕ)) → f.cursor ≢ pos 0 → asked s.command ≡ asks_more f.cursor space → s.retries ≡ false → Runs old new log log' wire s result
    → MoreCame f new log log' (at_stage (record f { doing = resting }) (asks_at f) old s.stage) result
more_polled f old new log log' wire s space result held asks single runs =
    let r = more_ran f s.command space held asks old new log log' wire s result refl single runs in
    more_gives f old new log log' wire s r.attempt result r.gives r.moves

-- ---- the aggregate of a resumption

module _ (command : List ℕ) (idle : Follow) (waiting_at : Option ℕ → Follow) (done : Option ℕ → Batch → Follow) (r : Request command idle waiting_at done) (bytes : List ℕ) (bad : Follow) (spoil : (log log' : LogTold) (place : Option ℕ) → Sees log log' place (reply bytes) → Moved log log' (waiting_at place) bad) where
  spoiled_begun : (old new : Awaited) (log log' : LogTold) (attempt : Attempt) → attempt ≡ answered (reply bytes) → Begins old new log log' command attempt → Moved log log' idle bad
  spoiled_begun old new log log' attempt is b =
      let s = subst (Begins old new log log' command) is b in
      at_once log log' command (reply bytes) (next_place log) idle (waiting_at (next_place log)) bad s.adds (next_is log)
      (λ mid a. r.sent log mid (next_place log) a (next_is log))
      (λ mid s. spoil mid log' (next_place log) s)

  spoiled_tried : (old new : Awaited) (log log' : LogTold) (stage : Stage) (attempt : Attempt) → attempt ≡ answered (reply bytes) → Tries old new log log' command stage attempt → Moved log log' (at_stage idle waiting_at old stage) bad
  spoiled_tried old new log log' unsent attempt is t = spoiled_begun old new log log' attempt is t
  spoiled_tried old new log log' (first ticket) attempt is t = spoil log log' (old ticket) (subst (Tries old new log log' command (first ticket)) is t).sees
  spoiled_tried old new log log' (second ticket) attempt is t = spoil log log' (old ticket) (subst (Tries old new log log' command (second ticket)) is t).sees

  once_more : (retries : Bool) (stage : Stage) (attempt : Attempt) (new : Awaited) (log log' : LogTold) (g : Follow) → is_repeated retries stage attempt ≡ true → Attempted command idle waiting_at done r new log log' g attempt → Moved log log' g idle
  once_more retries stage not_sent new log log' g again a = a
  once_more retries stage (answered seen) new log log' g again a = a.0
  once_more true unsent (waits ticket) new log log' g again a = absurd cc
  once_more false unsent (waits ticket) new log log' g again a = absurd cc
  once_more true (first old) (waits ticket) new log log' g again a = absurd cc
  once_more false (first old) (waits ticket) new log log' g again a = absurd cc
  once_more retries (second old) (waits ticket) new log log' g again a = absurd cc

  -- the reply to a request is none that a server may give
  spoiled_ran : (old new : Awaited) (log log' : LogTold) (wire : ℤ) (s : Sending) → s.command ≡ command → Runs old new log log' wire s (step.Done bytes) → Moved log log' (at_stage idle waiting_at old s.stage) bad
  spoiled_ran old new log log' wire s is (inl once) =
      spoiled_tried old new log log' s.stage once.attempt once.gives.0 (subst (λ (c : List ℕ). Tries old new log log' c s.stage once.attempt) is once.tries)
  spoiled_ran old new log log' wire s is (inr twice) =
      let g = at_stage idle waiting_at old s.stage in
      let a = tried command idle waiting_at done r old twice.between log twice.log_between s.stage twice.attempt (subst (λ (c : List ℕ). Tries old twice.between log twice.log_between c s.stage twice.attempt) is twice.tries) in
      moved log twice.log_between log' g idle bad
      (once_more s.retries s.stage twice.attempt twice.between log twice.log_between g twice.repeated a)
      (spoiled_begun twice.between new twice.log_between log' twice.again twice.gives.0 (subst (λ (c : List ℕ). Begins twice.between new twice.log_between log' c twice.again) is twice.begins))

abbrev pub resumes_at : Follow → Option ℕ → Follow
resumes_at f place = record f { doing = resuming place }

-- what a poll of the aggregate comes to
abbrev pub ResumeCame : Follow → Awaited → LogTold → LogTold → Follow → Step Sending (List ℕ) → Type 0
ResumeCame f new log log' g (step.Pending s) = Moved log log' g (at_stage (owed f) (resumes_at f) new s.stage)
ResumeCame f new log log' g (step.Done bytes) = Resumed (owed f) log log' g bytes × IsSuccess bytes
ResumeCame f new log log' g (step.Failed e) = Moved log log' g (owed f)

module _ (f : Follow) (begin : Start) (old new : Awaited) (log log' : LogTold) (wire : ℤ) (s : Sending) (resumes : ResumesAt f.start f.token begin) (asks : asked s.command ≡ asks_watch f.watch begin) where
  request : Request s.command (owed f) (resumes_at f) (λ place batch. resumed_with f batch)
  request = resume_request s.command f begin resumes asks

  -- the stream before the poll
  abbrev pub resumed_from : Follow
  resumed_from = at_stage (owed f) (resumes_at f) old s.stage

  resume_came : (bytes : List ℕ) → Runs old new log log' wire s (step.Done bytes) → Resumed (owed f) log log' resumed_from bytes
  resume_came bytes runs =
      let a = ran s.command (owed f) (resumes_at f) (λ place batch. resumed_with f batch) request old new log log' wire s (step.Done bytes) refl runs in
      record {
        lost = a.0;
        heard = λ batch reads. (a.1 bytes refl).1 batch reads;
        spoiled = λ none batch. spoiled_ran s.command (owed f) (resumes_at f) (λ place batch. resumed_with f batch) request bytes (resumed_with f batch)
            (λ before after place sees. resume_garbled before after (resumes_at f place) place bytes batch refl (λ start. watch_spoiled f.watch start bytes (success_ran old new log log' wire s bytes runs) none) sees)
            old new log log' wire s refl runs;
      }

  -- The aggregate of a resumption was polled.
  pub resume_polled : (result : Step Sending (List ℕ)) → Runs old new log log' wire s result → ResumeCame f new log log' resumed_from result
  resume_polled (step.Pending s') runs =
      subst (λ (h : Follow). Moved log log' resumed_from h) (at_waiting (owed f) (resumes_at f) new s' (waits_still old new log log' wire s s' runs))
      (ran s.command (owed f) (resumes_at f) (λ place batch. resumed_with f batch) request old new log log' wire s (step.Pending s') refl runs)
  resume_polled (step.Done bytes) runs = (resume_came bytes runs, success_ran old new log log' wire s bytes runs)
  resume_polled (step.Failed e) runs = ran s.command (owed f) (resumes_at f) (λ place batch. resumed_with f batch) request old new log log' wire s (step.Failed e) refl runs

-- ---- the killing of an old cursor

-- the stream before and behind its one attempt
abbrev pub killed_at : Follow → ℤ → Awaited → Stage → Follow
killed_at f old awaited stage = at_stage (record f { old = old }) (λ place. f) awaited stage

module _ (f : Follow) (id : ℤ) (is : f.doing ≡ holding) (none : f.old ≡ pos 0) (there : id ≢ pos 0) (old new : Awaited) (log log' : LogTold) where
  go_to : Moved log log' (record f { old = id }) (let_go (record f { old = id })) → Moved log log' (record f { old = id }) f
  go_to m = subst (λ (h : Follow). Moved log log' (record f { old = id }) h) (ap (λ (d : ℤ). record f { doing = holding; old = d }) (sym none) ∙ ap (λ d. record f { doing = d }) (sym is)) m

  kill_tried : (command : List ℕ) (stage : Stage) (attempt : Attempt) → asked command ≡ asks_kill (id ∷ []) → Tries old new log log' command stage attempt → Moved log log' (killed_at f id old stage) f
  kill_tried command unsent attempt asks t = go_to (kill_begun old new log log' (record f { old = id }) command attempt is there asks t)
  kill_tried command (first ticket) attempt asks t = stay_as (kill_gone_on old new log log' f ticket attempt t)
    where
      stay_as : Moved log log' (let_go f) (let_go f) → Moved log log' f f
      stay_as m = subst (λ (h : Follow). Moved log log' h h) (ap (λ (d : ℤ). record f { doing = holding; old = d }) (sym none) ∙ ap (λ d. record f { doing = d }) (sym is)) m
  kill_tried command (second ticket) attempt asks t = stay_as (kill_gone_on old new log log' f ticket attempt t)
    where
      stay_as : Moved log log' (let_go f) (let_go f) → Moved log log' f f
      stay_as m = subst (λ (h : Follow). Moved log log' h h) (ap (λ (d : ℤ). record f { doing = holding; old = d }) (sym none) ∙ ap (λ d. record f { doing = d }) (sym is)) m

  -- A killing of the old cursor was polled: it was let go.
  pub kill_polled : (wire : ℤ) (s : Sending) (result : Step Sending (List ℕ)) → asked s.command ≡ asks_kill (id ∷ []) → s.retries ≡ false → Runs old new log log' wire s result → Moved log log' (killed_at f id old s.stage) f
  kill_polled wire s result asks single (inl once) = kill_tried s.command s.stage once.attempt asks once.tries
  kill_polled wire s result asks single (inr twice) = absurd (never_again s.retries s.stage twice.attempt single twice.repeated)
