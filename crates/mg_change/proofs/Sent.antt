-- What the steps of a stream send.
use Rattle.std.proofs.Common.{◌≡◌, ℕ, zero, suc, ℤ, pos, Bool, true, false, List, [], ◌∷◌, ◌++◌, Option, Some, None, length, refl, sym, ap, ◌∙◌, subst, inl, inr, append-nil, arith}
use Rattle.std.proofs.lemmas.List.{map-append, append_assoc}
use Rattle.std.specs.Prelude.{◌≢◌, ◌<◌, ◌≤◌}
use Rattle.mg_bson.specs.Tree.{Fields}
use Rattle.mg_bson.specs.Raw.{fields}
use Rattle.mg_server.specs.Calls.{Grows, Keeps, Past, past_of}
use Rattle.mg_link.specs.Exec.{Stage, unsent, first, second, Sending, Attempt, not_sent, waits, answered, Begins, GoesOn, Runs, Tries, holding, is_repeated}
use Rattle.mg_link.specs.Link.{Awaited, SendsNothing, LogTold, Adds, Sees}
use Rattle.mg_link.specs.Log.{Sight, waiting, Call, see}
use Rattle.mg_link.specs.Moment.{Ending, failed, finished, pending}
use Rattle.mg_server.specs.Owner.{nobody}
use Rattle.mg_link.specs.Session.{Session}
use Rattle.mg_server.proofs.Apart.{nobody_named, onward_foreign, onward_on, onward_refl, onward_seen}
use Rattle.mg_server.proofs.Calls.{keeps_on}
use Rattle.mg_exec.proofs.Execs.{runs_of}
use Rattle.mg_server.proofs.Owners.{same_some}
use Rattle.mg_link.proofs.Waits.{never_again}
use Rattle.mg_link.specs.declared.action.Step.{Step}
use Rattle.mg_link.specs.declared.action.Step.TheVariants as step
use Rattle.mg_link.specs.declared.error.Error.{Error}
use Rattle.mg_ops.specs.declared.aggregate.ChangeStreamAggregate.{ChangeStreamAggregate}
use Rattle.mg_ops.specs.declared.change_stream.WatchArgs.{WatchArgs}
use Rattle.mg_ops.specs.Logs.{commands_sent}
use Rattle.mg_ops.proofs.Logs.{commands_seen}
use Rattle.mg_cursor.specs.Client.{ClientCursor, IsAsking, asks, at_rest, holds, kill, rests}
use Rattle.mg_cursor.specs.Client as cursors
use Rattle.mg_cursor.specs.Closing.{ClosesBy, ClosingCursor, ClosingPolls, IsClosing, IsKilling, IsLanded, IsNotAsking, KillHears, KillsCursor, LandedBy, begins as kill_begins, goes_on as kill_goes_on, killed_by, kills as kills_it, lands, not_built, nothing_left}
use Rattle.mg_cursor.specs.Polling.{Hears, ReadsReply, broke as unread, gave as read}
use Rattle.mg_cursor.specs.Seeking.{session_after}
use Rattle.mg_cursor.specs.declared.polls.NextPoll.{NextPoll}
use Rattle.mg_cursor.specs.declared.polls.NextPoll.TheVariants as next
use Rattle.mg_cursor.specs.declared.polls.TryPoll.{TryPoll}
use Rattle.mg_cursor.specs.declared.polls.TryPoll.TheVariants as try
use Rattle.mg_cursor.specs.declared.results.AdvanceResult.TheVariants as result
use Rattle.mg_change.specs.Causes.{ByDoing, IsReplaced, SoFar, is_lone}
use Rattle.mg_change.specs.ClientStreams.{ClientStream, Doing, IsAggregate, IsSound, SoundBy, follows, kills, lends_nothing, owes, renewed, resumes}
use Rattle.mg_change.specs.SeekCauses.{CallPart, begins, part_past}
use Rattle.mg_change.specs.Sent.{AreSought, AsksMoreOf, CallSent, Falling, IsSentAt, IsSought, KeepsBy, KillsOne, KillsReplaced, PartReplaced, PollKills, PollSent, ResumesBy, SeekKills, SeekSent, Sent, TrySent, asking_places, asks_more as asks_for, ending_places, killing_places, kills_one, more_places, places, places_behind, places_by, resumes_it, resuming_places}
use Rattle.mg_change.specs.Steps.{AsksMore, DoesStep, DoesSteps, FailsMore, HearsClosing, HearsResumption, LooksAt, ReadsResumption, RunsResumption, TakesMore, asks_more, broke, broken, closes, ends, final, finds, gave, goes_on, looks, no_memory, none as none_there, not_asked, not_resumed, renews, resumes_now, some, waits_more, waits_resumption}
use Rattle.mg_change.specs.StreamCalls.{CallCopies, CallLends, CopiesBehind, LendsBehind, SeeksEvent, SeeksOn, event_ending, kept_behind, session_behind, try_ending, without_event}
use Rattle.mg_change.specs.declared.event_poll.EventPoll.{EventPoll}
use Rattle.mg_change.specs.declared.event_poll.EventPoll.TheVariants as poll
use Rattle.mg_change.specs.declared.event_poll.Stepped.{Stepped}
use Rattle.mg_change.specs.declared.event_poll.Stepped.TheVariants as stepped
use Rattle.mg_change.proofs.CallCauses.{lets_go, none_after, steps_caused}
use Rattle.mg_change.proofs.Calls.{goes_away, steps_went}
use Rattle.mg_change.proofs.Causes.{step_caused}
use Rattle.mg_change.proofs.Growing.{resumed_grows}
use Rattle.mg_change.proofs.Keeping.{sound_any, sound_as, step_sound}
use Rattle.mg_change.proofs.SeekCauses.{PartsCame, RowSought, lone_behind, part_goes, part_sound, parts_caused, row_keeps}

-- ---- logs

sent_none : (log log' : LogTold) → log' ≡ log → Sent log log' []
sent_none log log' same calls told = (calls, same ∙ told, sym (append-nil (commands_sent calls)), onward_refl calls nobody)

pub sent_on : (log mid log' : LogTold) (cs ds : List Fields) → Sent log mid cs → Sent mid log' ds → Sent log log' (cs ++ ds)
sent_on log mid log' cs ds p q calls told =
    let x = p calls told in
    let y = q x.0 x.1 in
    (y.0, y.1, y.2 ∙ ap (λ (l : List Fields). l ++ ds) x.2 ∙ append_assoc (commands_sent calls) cs ds, onward_on calls x.0 y.0 nobody x.3 y.3)

sent_adds : (log log' : LogTold) (command : List ℕ) (seen : Sight) → Adds log log' command seen → Sent log log' (fields command ∷ [])
sent_adds log log' command seen adds calls told =
    let add = adds calls told in
    let call : Call = record { command = command; position = add.0; seen = seen } in
    (calls ++ call ∷ [], add.1, map-append (λ (c : Call). fields c.command) calls (call ∷ []), onward_foreign calls call nobody (nobody_named calls call))

sent_sees : (log log' : LogTold) (place : Option ℕ) (seen : Sight) → Sees log log' place seen → Sent log log' []
sent_sees log log' place seen sees calls told =
    let s = sees calls told in
    (see s.0 seen calls, s.5, commands_seen s.0 seen calls ∙ sym (append-nil (commands_sent calls)), onward_seen s.0 seen calls s.1 nobody s.3 s.4)

-- ---- places

falling_below : (at : ℕ → Fields → Type 0) (n : ℕ) (cs : List Fields) (m k : ℕ) → Falling at n cs m → k ≤ m → Falling at n cs k
falling_below at n [] m k f less = let all : m ≤ n = f in omega arith
falling_below at n (c ∷ cs) m k f less = (f.0, f.1, f.2, falling_below at f.0 cs m k f.3 less)

falling_from : (at : ℕ → Fields → Type 0) (n k : ℕ) (cs : List Fields) (m : ℕ) → n ≤ k → Falling at n cs m → Falling at k cs m
falling_from at n k [] m less f = let all : m ≤ n = f in omega arith
falling_from at n k (c ∷ cs) m less f = (f.0, (let here : f.0 < n = f.1 in omega arith), f.2, f.3)

pub falling_on : (at : ℕ → Fields → Type 0) (n : ℕ) (cs : List Fields) (k : ℕ) (ds : List Fields) (m : ℕ) → Falling at n cs k → Falling at k ds m → Falling at n (cs ++ ds) m
falling_on at n [] k ds m f g = falling_from at k n ds m f g
falling_on at n (c ∷ cs) k ds m f g = (f.0, f.1, f.2, falling_on at f.0 cs k ds m f.3 g)

pub falls : (at : ℕ → Fields → Type 0) (n : ℕ) (cs : List Fields) (m : ℕ) → Falling at n cs m → m ≤ n
falls at n [] m f = f
falls at n (c ∷ cs) m f = let rest : m ≤ f.0 = falls at f.0 cs m f.3 in let here : f.0 < n = f.1 in omega arith

-- ---- what was tried

-- commands were sent at places below `n`, and none below `m`
pub record Tried (at : ℕ → Fields → Type 0) (log log' : LogTold) (n m : ℕ) : Type 0 where
  pub commands : List Fields
  pub adds : Sent log log' commands
  pub falling : Falling at n commands m

pub tried_none : (at : ℕ → Fields → Type 0) (log : LogTold) (n : ℕ) → Tried at log log n n
tried_none at log n = record { commands = []; adds = sent_none log log refl; falling = omega arith }

pub tried_on : (at : ℕ → Fields → Type 0) (log mid log' : LogTold) (n k m : ℕ) → Tried at log mid n k → Tried at mid log' k m → Tried at log log' n m
tried_on at log mid log' n k m a b = record { commands = a.commands ++ b.commands; adds = sent_on log mid log' a.commands b.commands a.adds b.adds; falling = falling_on at n a.commands k b.commands m a.falling b.falling }

pub tried_below : (at : ℕ → Fields → Type 0) (log log' : LogTold) (n m k : ℕ) → k ≤ m → Tried at log log' n m → Tried at log log' n k
tried_below at log log' n m k less a = record { commands = a.commands; adds = a.adds; falling = falling_below at n a.commands m k a.falling less }

module _ (at : ℕ → Fields → Type 0) (command : List ℕ) (old new : Awaited) (log log' : LogTold) where
  one : (place : ℕ) → at place (fields command) → Sent log log' (fields command ∷ []) → Tried at log log' (suc place) place
  one place is adds = record { commands = fields command ∷ []; adds = adds; falling = (place, omega arith, is, omega arith) }

  none : (n m : ℕ) → m ≤ n → Sent log log' [] → Tried at log log' n m
  none n m less adds = record { commands = []; adds = adds; falling = less }

  begun : (place : ℕ) (attempt : Attempt) → at place (fields command) → Begins old new log log' command attempt → Tried at log log' (suc place) place
  begun place not_sent is b = none (suc place) place (omega arith) (sent_none log log' b.log_same)
  begun place (waits ticket) is b = one place is (sent_adds log log' command waiting b.adds)
  begun place (answered seen) is b = one place is (sent_adds log log' command seen b.adds)

  gone_on : (n ticket : ℕ) (attempt : Attempt) → GoesOn old new log log' ticket attempt → Tried at log log' n n
  gone_on n ticket not_sent g = absurd g
  gone_on n ticket (waits given) g = none n n (omega arith) (sent_none log log' g.log_same)
  gone_on n ticket (answered seen) g = none n n (omega arith) (sent_sees log log' (old ticket) seen g.sees)

-- ---- a request that is sent once

module _ (at : ℕ → Fields → Type 0) (old new : Awaited) (log log' : LogTold) (wire : ℤ) (s : Sending) (single : s.retries ≡ false) where
  more_tries : (stage : Stage) (attempt : Attempt) → at 3 (fields s.command) → Tries old new log log' s.command stage attempt → Tried at log log' (asking_places stage) 3
  more_tries unsent attempt is t = begun at s.command old new log log' 3 attempt is t
  more_tries (first ticket) attempt is t = gone_on at s.command old new log log' 3 ticket attempt t
  more_tries (second ticket) attempt is t = gone_on at s.command old new log log' 3 ticket attempt t

  pub more_sent : (result : Step Sending (List ℕ)) → at 3 (fields s.command) → Runs old new log log' wire s result → Tried at log log' (asking_places s.stage) 3
  more_sent result is (inl once) = more_tries s.stage once.attempt is once.tries
  more_sent result is (inr twice) = absurd (never_again s.retries s.stage twice.attempt single twice.repeated)

  kill_tries : (stage : Stage) (attempt : Attempt) → at 0 (fields s.command) → Tries old new log log' s.command stage attempt → Tried at log log' (ending_places stage) 0
  kill_tries unsent attempt is t = begun at s.command old new log log' 0 attempt is t
  kill_tries (first ticket) attempt is t = gone_on at s.command old new log log' 0 ticket attempt t
  kill_tries (second ticket) attempt is t = gone_on at s.command old new log log' 0 ticket attempt t

  pub kill_sent : (result : Step Sending (List ℕ)) → at 0 (fields s.command) → Runs old new log log' wire s result → Tried at log log' (ending_places s.stage) 0
  kill_sent result is (inl once) = kill_tries s.stage once.attempt is once.tries
  kill_sent result is (inr twice) = absurd (never_again s.retries s.stage twice.attempt single twice.repeated)

  held_more : (stage : Stage) (ticket : ℕ) → 3 ≡ asking_places (holding stage ticket)
  held_more unsent ticket = refl
  held_more (first old) ticket = refl
  held_more (second old) ticket = refl

  held_kill : (stage : Stage) (ticket : ℕ) → 0 ≡ ending_places (holding stage ticket)
  held_kill unsent ticket = refl
  held_kill (first old) ticket = refl
  held_kill (second old) ticket = refl

  pub more_held : (exec : Sending) → Runs old new log log' wire s (step.Pending exec) → 3 ≡ asking_places exec.stage
  more_held exec (inl once) = held_more s.stage once.gives.0 ∙ ap (λ (e : Sending). asking_places e.stage) (sym once.gives.2)
  more_held exec (inr twice) = absurd (never_again s.retries s.stage twice.attempt single twice.repeated)

  pub kill_held : (exec : Sending) → Runs old new log log' wire s (step.Pending exec) → 0 ≡ ending_places exec.stage
  kill_held exec (inl once) = held_kill s.stage once.gives.0 ∙ ap (λ (e : Sending). ending_places e.stage) (sym once.gives.2)
  kill_held exec (inr twice) = absurd (never_again s.retries s.stage twice.attempt single twice.repeated)

-- ---- a request that may be sent once more

module _ (at : ℕ → Fields → Type 0) (old new : Awaited) (log log' : LogTold) (wire : ℤ) (s : Sending) (is : at 2 (fields s.command)) (again : at 1 (fields s.command)) where
  -- its first attempt was not the second
  first_tries : (mid : Awaited) (between : LogTold) (retries : Bool) (stage : Stage) (attempt : Attempt) → is_repeated retries stage attempt ≡ true → Tries old mid log between s.command stage attempt → Tried at log between (resuming_places stage) 2
  first_tries mid between retries unsent attempt h t = begun at s.command old mid log between 2 attempt is t
  first_tries mid between retries (first ticket) attempt h t = gone_on at s.command old mid log between 2 ticket attempt t
  first_tries mid between retries (second ticket) attempt h t = let bad : false ≡ true = h in absurd cc

  only_tries : (stage : Stage) (ticket : ℕ) (attempt : Attempt) → Tries old new log log' s.command stage attempt → Tried at log log' (resuming_places stage) (resuming_places (holding stage ticket))
  only_tries unsent ticket attempt t = begun at s.command old new log log' 2 attempt is t
  only_tries (first old') ticket attempt t = gone_on at s.command old new log log' 2 old' attempt t
  only_tries (second old') ticket attempt t = gone_on at s.command old new log log' 1 old' attempt t

  held_resume : (stage : Stage) → 1 ≤ resuming_places (holding stage 0)
  held_resume unsent = omega arith
  held_resume (first ticket) = omega arith
  held_resume (second ticket) = omega arith

  pub resume_sent : (result : Step Sending (List ℕ)) → Runs old new log log' wire s result → Tried at log log' (resuming_places s.stage) 1
  resume_sent result (inl once) = tried_below at log log' (resuming_places s.stage) (resuming_places (holding s.stage 0)) 1 (held_resume s.stage) (only_tries s.stage 0 once.attempt once.tries)
  resume_sent result (inr twice) =
      tried_on at log twice.log_between log' (resuming_places s.stage) 2 1 (first_tries twice.between twice.log_between s.retries s.stage twice.attempt twice.repeated twice.tries)
      (begun at s.command twice.between new twice.log_between log' 1 twice.again again twice.begins)

  pub resume_waits : (exec : Sending) → Runs old new log log' wire s (step.Pending exec) → Tried at log log' (resuming_places s.stage) (resuming_places exec.stage)
  resume_waits exec (inl once) =
      subst (λ (e : Sending). Tried at log log' (resuming_places s.stage) (resuming_places e.stage)) (sym once.gives.2) (only_tries s.stage once.gives.0 once.attempt once.tries)
  resume_waits exec (inr twice) =
      subst (λ (e : Sending). Tried at log log' (resuming_places s.stage) (resuming_places e.stage)) (sym twice.gives.2) (resume_sent (step.Pending exec) (inr twice))

-- ---- the same places of another stream

-- neither what it gives nor how it stands says what its commands are
pub same_at : (such now : Fields → Type 0) → ((command : Fields) → now command → such command) → (s t : ClientStream) → t.aggregate ≡ s.aggregate → t.cursor ≡ s.cursor → (place : ℕ) (command : Fields) → IsSentAt now t place command → IsSentAt such s place command
same_at such now so s t a c zero command h = so command h
same_at such now so s t a c (suc zero) command h = subst (λ (x : ChangeStreamAggregate). ResumesBy x command) a h
same_at such now so s t a c (suc (suc zero)) command h = subst (λ (x : ChangeStreamAggregate). ResumesBy x command) a h
same_at such now so s t a c (suc (suc (suc zero))) command h = subst (λ (x : ClientCursor). AsksMoreOf x command) c h
same_at such now so s t a c (suc (suc (suc (suc place)))) command h = h

-- behind its getMore the cursor says nothing of them
later_at : (such now : Fields → Type 0) → ((command : Fields) → now command → such command) → (s t : ClientStream) → t.aggregate ≡ s.aggregate → (place : ℕ) → place < 3 → (command : Fields) → IsSentAt now t place command → IsSentAt such s place command
later_at such now so s t a zero less command h = so command h
later_at such now so s t a (suc zero) less command h = subst (λ (x : ChangeStreamAggregate). ResumesBy x command) a h
later_at such now so s t a (suc (suc zero)) less command h = subst (λ (x : ChangeStreamAggregate). ResumesBy x command) a h
later_at such now so s t a (suc (suc (suc place))) less command h = absurd (omega arith)

pub falling_as : (at now : ℕ → Fields → Type 0) → ((place : ℕ) (command : Fields) → now place command → at place command) → (n : ℕ) (cs : List Fields) (m : ℕ) → Falling now n cs m → Falling at n cs m
falling_as at now same n [] m f = f
falling_as at now same n (c ∷ cs) m f = (f.0, f.1, same f.0 c f.2, falling_as at now same f.0 cs m f.3)

falling_later : (such now : Fields → Type 0) → ((command : Fields) → now command → such command) → (s t : ClientStream) → t.aggregate ≡ s.aggregate → (n : ℕ) → n ≤ 3 → (cs : List Fields) (m : ℕ) → Falling (IsSentAt now t) n cs m → Falling (IsSentAt such s) n cs m
falling_later such now so s t a n few [] m f = f
falling_later such now so s t a n few (c ∷ cs) m f =
    let here : f.0 < n = f.1 in
    (f.0, f.1, later_at such now so s t a f.0 (omega arith) c f.2, falling_later such now so s t a f.0 (omega arith) cs m f.3)

-- ---- a step

-- how many places are left behind it
abbrev pub step_places : Stepped → ClientStream → ℕ
step_places stepped.Goes s = places s
step_places stepped.Found s = 0
step_places (stepped.Gives p) s = places_behind (try_ending p) s

-- where the call goes on, now or later, the same stream tells what is sent, and no getMore is to be sent where it goes on now
abbrev pub StepKeeps : Stepped → ClientStream → ClientStream → Type 0
StepKeeps stepped.Goes s s' = (s'.aggregate ≡ s.aggregate) × (places s' ≤ 3)
StepKeeps stepped.Found s s' = Unit {0}
StepKeeps (stepped.Gives p) s s' = KeepsBy (try_ending p) s s'

-- what a step sent
pub record StepSent (such : Fields → Type 0) (log log' : LogTold) (s s' : ClientStream) (r : Stepped) : Type 0 where
  pub tried : Tried (IsSentAt such s) log log' (places s) (step_places r s')
  pub keeps : StepKeeps r s s'

sent_as : (such : Fields → Type 0) (log log' : LogTold) (s s' t : ClientStream) (r r' : Stepped) → s' ≡ t → r' ≡ r → StepSent such log log' s t r → StepSent such log log' s s' r'
sent_as such log log' s s' t r r' is answer h = subst (λ (x : Stepped). StepSent such log log' s s' x) (sym answer) (subst (λ (x : ClientStream). StepSent such log log' s x r) (sym is) h)

-- the call has ended with it
sent_end : (such : Fields → Type 0) (log log' : LogTold) (s s' : ClientStream) (r : Stepped) (m : ℕ) → step_places r s' ≡ 0 → StepKeeps r s s' → Tried (IsSentAt such s) log log' (places s) m → StepSent such log log' s s' r
sent_end such log log' s s' r m none_left keeps a = record {
  tried = subst (λ (n : ℕ). Tried (IsSentAt such s) log log' (places s) n) (sym none_left) (tried_below (IsSentAt such s) log log' (places s) m 0 (omega arith) a);
  keeps = keeps;
}

nothing : (such : Fields → Type 0) (log log' : LogTold) (s : ClientStream) (n : ℕ) → log' ≡ log → n ≤ places s → Tried (IsSentAt such s) log log' (places s) n
nothing such log log' s n same less = record { commands = []; adds = sent_none log log' same; falling = less }

-- nothing is sent, and the stream stays as it is
sent_quiet : (such : Fields → Type 0) (old new : Awaited) (log log' : LogTold) (s s' : ClientStream) (e : Error) (r : Stepped) → SendsNothing old new log log' → s' ≡ s → r ≡ stepped.Gives (try.Failed e) → StepSent such log log' s s' r
sent_quiet such old new log log' s s' e r quiet is answer = sent_as such log log' s s' s (stepped.Gives (try.Failed e)) r is answer (sent_end such log log' s s (stepped.Gives (try.Failed e)) (places s) refl tt (nothing such log log' s (places s) quiet.log_same (omega arith)))

-- a batch was looked at
sent_looked : (such : Fields → Type 0) (again : Bool) (log log' : LogTold) (s : ClientStream) (c : ClientCursor) (said : List ℕ) (s' : ClientStream) (r : Stepped) (m : ℕ) → (again ≡ false → 3 ≤ m) → Tried (IsSentAt such s) log log' (places s) m → LooksAt again s c said s' r → StepSent such log log' s s' r
sent_looked such again log log' s c said s' r m many a (some event events at is answer) = sent_as such log log' s s' _ stepped.Found r is answer (sent_end such log log' s _ stepped.Found m refl tt a)
sent_looked such again log log' s c said s' r m many a (none_there at is answer) = sent_as such log log' s s' _ (stepped.Gives (try.Ready result.Waiting)) r is answer (sent_end such log log' s _ (stepped.Gives (try.Ready result.Waiting)) m refl tt a)
sent_looked such true log log' s c said s' r m many a (broken e breaks is answer) = sent_as such log log' s s' _ (stepped.Gives (try.Failed e)) r is answer (sent_end such log log' s _ (stepped.Gives (try.Failed e)) m refl tt a)
sent_looked such false log log' s c said s' r m many a (broken e breaks is answer) =
    sent_as such log log' s s' _ stepped.Goes r is answer (record { tried = tried_below (IsSentAt such s) log log' (places s) m 3 (many refl) a; keeps = (refl, omega arith) })

sent_failed : (such : Fields → Type 0) (log log' : LogTold) (s : ClientStream) (c : ClientCursor) (e : Error) (s' : ClientStream) (r : Stepped) → Tried (IsSentAt such s) log log' (places s) 3 → FailsMore s c e s' r → StepSent such log log' s s' r
sent_failed such log log' s c e s' r a (goes_on so is answer) = sent_as such log log' s s' _ stepped.Goes r is answer (record { tried = a; keeps = (refl, omega arith) })
sent_failed such log log' s c e s' r a (no_memory room is answer) = sent_as such log log' s s' _ (stepped.Gives (try.Failed e)) r is answer (sent_end such log log' s _ (stepped.Gives (try.Failed e)) 3 refl tt a)
sent_failed such log log' s c e s' r a (final not room is answer) = sent_as such log log' s s' _ (stepped.Gives (try.Failed e)) r is answer (sent_end such log log' s _ (stepped.Gives (try.Failed e)) 3 refl tt a)

-- a reply that came does not pend
not_pending : (c : ClientCursor) (bytes : List ℕ) (c' : ClientCursor) → ReadsReply c bytes c' next.Pending → ⊥
not_pending c bytes c' (read said says is answer) = cc
not_pending c bytes c' (unread e by is answer) = cc

-- the getMore was polled
sent_more : (such : Fields → Type 0) (old new : Awaited) (log log' : LogTold) (wire : ℤ) (started : Bool) (s : ClientStream) (sending : Sending) (s' : ClientStream) (r : Stepped) → IsSound false s → s.doing ≡ follows → AsksMoreOf s.cursor (fields sending.command) → sending.retries ≡ false → places s ≡ asking_places sending.stage
    → AsksMore old new log log' wire started s sending s' r → StepSent such log log' s s' r
sent_more such old new log log' wire started s sending s' r sound on is single many h = by_came h.runs.came (runs_of old new log log' wire sending h.runs.came started h.runs.runs) h.left h.poll h.runs.hears h.takes
  where
    all : (came : Step Sending (List ℕ)) → Runs old new log log' wire sending came → Tried (IsSentAt such s) log log' (places s) 3
    all came runs = subst (λ (n : ℕ). Tried (IsSentAt such s) log log' n 3) (sym many) (more_sent (IsSentAt such s) old new log log' wire sending single came is runs)

    by_came : (came : Step Sending (List ℕ)) → Runs old new log log' wire sending came → (c : ClientCursor) (p : NextPoll) → Hears s.cursor came c p → TakesMore s c p s' r → StepSent such log log' s s' r
    by_came (step.Pending later) runs c p heard takes =
        let t : (s' ≡ record s { cursor = c }) × (r ≡ stepped.Gives try.Pending) = subst (λ (x : NextPoll). TakesMore s c x s' r) heard.1 takes in
        let held : 3 ≡ asking_places later.stage = more_held (IsSentAt such s) old new log log' wire sending single later runs in
        let left : places (record s { cursor = c }) ≡ 3 = ap (λ (d : Doing). places_by d c) on ∙ ap (λ (x : ClientCursor). more_places x.doing) heard.0 ∙ sym held in
        sent_as such log log' s s' (record s { cursor = c }) (stepped.Gives try.Pending) r t.0 t.1
        (record { tried = subst (λ (n : ℕ). Tried (IsSentAt such s) log log' (places s) n) (sym left) (all (step.Pending later) runs); keeps = refl })
    by_came (step.Done bytes) runs c next.Pending heard takes = absurd (not_pending s.cursor bytes c heard)
    by_came (step.Done bytes) runs c (next.Batch said) heard takes = sent_looked such false log log' s c said s' r 3 (λ e. omega arith) (all (step.Done bytes) runs) takes
    by_came (step.Done bytes) runs c next.End heard takes = absurd takes
    by_came (step.Done bytes) runs c (next.Failed e) heard takes = sent_failed such log log' s c e s' r (all (step.Done bytes) runs) takes
    by_came (step.Failed e) runs c p heard takes = sent_failed such log log' s c e s' r (all (step.Failed e) runs) (subst (λ (x : NextPoll). TakesMore s c x s' r) heard.1 takes)

-- the aggregate was polled
sent_resumption : (such : Fields → Type 0) (old new : Awaited) (log log' : LogTold) (wire : ℤ) (started : Bool) (s : ClientStream) (sending : Sending) (s' : ClientStream) (r : Stepped) → ResumesBy s.aggregate (fields sending.command) → places s ≡ resuming_places sending.stage → RunsResumption old new log log' wire started s sending s' r → StepSent such log log' s s' r
sent_resumption such old new log log' wire started s sending s' r is many h = by_came h.came (runs_of old new log log' wire sending h.came started h.runs) h.hears
  where
    all : (came : Step Sending (List ℕ)) → Runs old new log log' wire sending came → Tried (IsSentAt such s) log log' (places s) 1
    all came runs = subst (λ (n : ℕ). Tried (IsSentAt such s) log log' n 1) (sym many) (resume_sent (IsSentAt such s) old new log log' wire sending is is came runs)

    by_read : (bytes : List ℕ) → Runs old new log log' wire sending (step.Done bytes) → ReadsResumption s bytes s' r → StepSent such log log' s s' r
    by_read bytes runs (gave out opens at answer) = sent_as such log log' s s' _ stepped.Goes r at answer (record { tried = all (step.Done bytes) runs; keeps = (refl, omega arith) })
    by_read bytes runs (broke e by at answer) = sent_as such log log' s s' _ (stepped.Gives (try.Failed e)) r at answer (sent_end such log log' s _ (stepped.Gives (try.Failed e)) 1 refl tt (all (step.Done bytes) runs))

    by_came : (came : Step Sending (List ℕ)) → Runs old new log log' wire sending came → HearsResumption s came s' r → StepSent such log log' s s' r
    by_came (step.Pending later) runs heard =
        sent_as such log log' s s' (record s { doing = resumes later }) (stepped.Gives try.Pending) r heard.0 heard.1
        (record { tried = subst (λ (n : ℕ). Tried (IsSentAt such s) log log' n (resuming_places later.stage)) (sym many) (resume_waits (IsSentAt such s) old new log log' wire sending is is later runs); keeps = refl })
    by_came (step.Done bytes) runs heard = by_read bytes runs heard
    by_came (step.Failed e) runs heard = sent_as such log log' s s' _ (stepped.Gives (try.Failed e)) r heard.0 heard.1 (sent_end such log log' s _ (stepped.Gives (try.Failed e)) 1 refl tt (all (step.Failed e) runs))

-- the closing of the cursor before: what it sent, and what is left where it pends
abbrev ClosingSent : (Fields → Type 0) → LogTold → LogTold → ClientStream → ℕ → Step ClosingCursor (Unit {0}) → Type 0
ClosingSent such log log' s n (step.Pending k) = Tried (IsSentAt such s) log log' n (killing_places k.killing)
ClosingSent such log log' s n (step.Done t) = Tried (IsSentAt such s) log log' n 0
ClosingSent such log log' s n (step.Failed e) = Tried (IsSentAt such s) log log' n 0

as_closing : (such : Fields → Type 0) (log log' : LogTold) (s : ClientStream) (n : ℕ) (r r' : Step ClosingCursor (Unit {0})) → r' ≡ r → ClosingSent such log log' s n r → ClosingSent such log log' s n r'
as_closing such log log' s n r r' is h = subst (ClosingSent such log log' s n) (sym is) h

sent_kill : (such : Fields → Type 0) (old new : Awaited) (log log' : LogTold) (wire : ℤ) (s : ClientStream) (c : ClientCursor) (sending : Sending) (came : Step Sending (List ℕ)) (r : Step ClosingCursor (Unit {0})) → fields sending.command ≡ kill c → sending.retries ≡ false → such (kill c) → Runs old new log log' wire sending came → KillHears c came r → ClosingSent such log log' s (ending_places sending.stage) r
sent_kill such old new log log' wire s c sending came r command_is single is runs h = by_came came runs h
  where
    one_kill : such (fields sending.command)
    one_kill = subst such (sym command_is) is

    by_came : (x : Step Sending (List ℕ)) → Runs old new log log' wire sending x → KillHears c x r → ClosingSent such log log' s (ending_places sending.stage) r
    by_came (step.Pending later) ran heard =
        as_closing such log log' s (ending_places sending.stage) (step.Pending (killed_by c later)) r heard
        (subst (λ (n : ℕ). Tried (IsSentAt such s) log log' (ending_places sending.stage) n) (kill_held (IsSentAt such s) old new log log' wire sending single later ran) (kill_sent (IsSentAt such s) old new log log' wire sending single (step.Pending later) one_kill ran))
    by_came (step.Done bytes) ran heard = as_closing such log log' s (ending_places sending.stage) (step.Done tt) r heard (kill_sent (IsSentAt such s) old new log log' wire sending single (step.Done bytes) one_kill ran)
    by_came (step.Failed e) ran heard = as_closing such log log' s (ending_places sending.stage) (step.Failed e) r heard (kill_sent (IsSentAt such s) old new log log' wire sending single (step.Failed e) one_kill ran)

none_killed : (such : Fields → Type 0) (log log' : LogTold) (s : ClientStream) → log' ≡ log → Tried (IsSentAt such s) log log' 1 0
none_killed such log log' s same = record { commands = []; adds = sent_none log log' same; falling = omega arith }

sent_closing : (such : Fields → Type 0) (old new : Awaited) (log log' : LogTold) (wire : ℤ) (s : ClientStream) (before : ClosingCursor) (r : Step ClosingCursor (Unit {0})) → IsClosing before → IsLanded before → (before.cursor.id ≢ pos 0 → such (kill before.cursor)) → ClosingPolls old new log log' wire before r → ClosingSent such log log' s (killing_places before.killing) r
sent_closing such old new log log' wire s before r closing landed killing (lands idle sending at h) =
    absurd (subst IsNotAsking at (subst (λ (o : Option Sending). LandedBy o before.cursor.doing) idle landed))
sent_closing such old new log log' wire s before r closing landed killing (kill_begins idle quiet h) = subst (λ (o : Option Sending). ClosingSent such log log' s (killing_places o) r) (sym idle) (by_kills h)
  where
    by_kills : KillsCursor old new log log' wire (at_rest before.cursor) r → ClosingSent such log log' s 1 r
    by_kills (nothing_left overs sends is) = as_closing such log log' s 1 (step.Done tt) r is (none_killed such log log' s sends.log_same)
    by_kills (not_built may e by sends is) = as_closing such log log' s 1 (step.Failed e) r is (none_killed such log log' s sends.log_same)
    by_kills (kills_it may sending new_one ran) =
        subst (λ (stage : Stage). ClosingSent such log log' s (ending_places stage) r) new_one.new
        (sent_kill such old new log log' wire s (at_rest before.cursor) sending ran.came r new_one.command_is new_one.single (killing may.held) ran.runs ran.hears)
sent_closing such old new log log' wire s before r closing landed killing (kill_goes_on sending at h) =
    let on : IsKilling before.cursor sending = subst (ClosesBy before.cursor) at closing in
    subst (λ (o : Option Sending). ClosingSent such log log' s (killing_places o) r) (sym at)
    (sent_kill such old new log log' wire s before.cursor sending h.came r on.waits_on.command_is on.waits_on.single (killing on.may.held) h.runs h.hears)

sent_closed : (such : Fields → Type 0) (log log' : LogTold) (s s' : ClientStream) (r : Stepped) (came : Step ClosingCursor (Unit {0})) → ClosingSent such log log' s (places s) came → HearsClosing s came s' r → StepSent such log log' s s' r
sent_closed such log log' s s' r (step.Pending k) a h = sent_as such log log' s s' (record s { doing = kills k }) (stepped.Gives try.Pending) r h.0 h.1 (record { tried = a; keeps = refl })
sent_closed such log log' s s' r (step.Done t) a h = sent_as such log log' s s' (record s { doing = renewed }) stepped.Goes r h.0 h.1 (record { tried = a; keeps = (refl, omega arith) })
sent_closed such log log' s s' r (step.Failed e) a (inl h) = sent_as such log log' s s' (record s { doing = owes }) (stepped.Gives (try.Failed e)) r h.1 h.2 (sent_end such log log' s (record s { doing = owes }) (stepped.Gives (try.Failed e)) 0 refl tt a)
sent_closed such log log' s s' r (step.Failed e) a (inr h) = sent_as such log log' s s' (record s { doing = renewed }) stepped.Goes r h.1 h.2 (record { tried = a; keeps = (refl, omega arith) })

places_at : (s : ClientStream) (d : Doing) → s.doing ≡ d → places s ≡ places_by d s.cursor
places_at s d is = ap (λ (x : Doing). places_by x s.cursor) is

places_more : (s : ClientStream) (d : cursors.Doing) → s.doing ≡ follows → s.cursor.doing ≡ d → places s ≡ more_places d
places_more s d on is = places_at s follows on ∙ ap more_places is

pub step_sent : (such : Fields → Type 0) (old new : Awaited) (log log' : LogTold) (wire : ℤ) (session : Option Session) (started : Bool) (s s' : ClientStream) (r : Stepped) → IsSound false s → ((before : ClosingCursor) → s.doing ≡ kills before → before.cursor.id ≢ pos 0 → such (kill before.cursor)) → DoesStep old new log log' wire session started s s' r → StepSent such log log' s s' r
step_sent such old new log log' wire session started s s' r sound killing (finds on left quiet unstarted is answer) =
    sent_as such log log' s s' s stepped.Found r is answer (sent_end such log log' s s stepped.Found (places s) refl tt (nothing such log log' s (places s) quiet.log_same (omega arith)))
step_sent such old new log log' wire session started s s' r sound killing (looks on none_left said at quiet unstarted h) =
    let many : 3 ≤ places s = let e : places s ≡ 3 = places_more s (holds said) on at in omega arith in
    sent_looked such false log log' s (at_rest s.cursor) said s' r (places s) (λ e. many) (nothing such log log' s (places s) quiet.log_same (omega arith)) h
step_sent such old new log log' wire session started s s' r sound killing (ends on none_left at overs quiet unstarted is answer) =
    sent_as such log log' s s' s (stepped.Gives (try.Ready result.Exhausted)) r is answer (sent_end such log log' s s (stepped.Gives (try.Ready result.Exhausted)) (places s) refl tt (nothing such log log' s (places s) quiet.log_same (omega arith)))
step_sent such old new log log' wire session started s s' r sound killing (not_asked on none_left at may e by quiet unstarted is answer) = sent_quiet such old new log log' s s' e r quiet is answer
step_sent such old new log log' wire session started s s' r sound killing (asks_more on none_left at may sending new_one h) =
    sent_more such old new log log' wire started s sending s' r sound on (record { session = session; asks_so = new_one.command_is }) new_one.single (places_more s rests on at ∙ ap asking_places (sym new_one.new)) h
step_sent such old new log log' wire session started s s' r sound killing (waits_more on none_left sending at h) =
    let asking : IsAsking false s.cursor sending = subst (cursors.SoundBy false s.cursor) at sound.asks_its_own in
    sent_more such old new log log' wire started s sending s' r sound on (record { session = asking.session; asks_so = asking.waits_on.command_is }) asking.waits_on.single (places_more s (asks sending) on at) h
step_sent such old new log log' wire session started s s' r sound killing (not_resumed on e by quiet unstarted is answer) = sent_quiet such old new log log' s s' e r quiet is answer
step_sent such old new log log' wire session started s s' r sound killing (resumes_now on sending new_one h) =
    sent_resumption such old new log log' wire started s sending s' r (record { wire = wire; session = session; resumes_so = new_one.command_is }) (places_at s owes on ∙ ap resuming_places (sym new_one.new)) h
step_sent such old new log log' wire session started s s' r sound killing (waits_resumption sending on h) =
    let own : IsAggregate false s.aggregate sending = (subst (SoundBy false s) on sound.by).1 in
    sent_resumption such old new log log' wire started s sending s' r (record { wire = own.wire; session = own.session; resumes_so = own.command_is }) (places_at s (resumes sending) on) h
step_sent such old new log log' wire session started s s' r sound killing (closes before on unstarted came polls h) =
    let by = subst (SoundBy false s) on sound.by in
    sent_closed such log log' s s' r came (subst (λ (n : ℕ). ClosingSent such log log' s n came) (sym (places_at s (kills before) on)) (sent_closing such old new log log' wire s before came by.2 by.3 (killing before on) polls)) h
step_sent such old new log log' wire session started s s' r sound killing (renews on said at quiet unstarted h) =
    sent_looked such true log log' s (at_rest s.cursor) said s' r (places s) (λ e. absurd cc) (nothing such log log' s (places s) quiet.log_same (omega arith)) h

-- ---- what is killed

-- any one cursor
pub kills_any : (c : ClientCursor) → c.id ≢ pos 0 → KillsOne (kill c)
kills_any c held = record { at = c.space; id = c.id; there = held; kills_so = refl }

-- one cursor, and it is the one that the resumption of the call replaced, wherever that began and had sent before
pub record StepKills (old : Awaited) (log log' : LogTold) (wire : ℤ) (lone : Bool) (s : ClientStream) (command : Fields) : Type 0 where
  pub one : KillsOne command
  pub replaced : (own : List ℕ) (since : ℕ) (calls : List Call) (at : ClientStream) → log ≡ Some calls → since ≤ length calls → SoFar old (past_of own since calls wire) lone at s
      → (calls' : List Call) × (log' ≡ Some calls') × Keeps calls calls' × KillsReplaced (past_of own since calls' wire) lone at command

-- It stays so.
pub replaced_grows : (past past' : Past) → Grows past past' → (lone : Bool) (at : ClientStream) (command : Fields) → KillsReplaced past lone at command → KillsReplaced past' lone at command
replaced_grows past past' grows lone at command h = record { old = h.old; there = h.there; kills_so = h.kills_so; new = h.new; bytes = h.bytes; resumed = resumed_grows past past' grows lone at h.old h.bytes h.new h.resumed }

-- it is told by a later log
pub replaced_later : (own : List ℕ) (since : ℕ) (calls calls' : List Call) (wire : ℤ) (lone : Bool) (at : ClientStream) (command : Fields) → Keeps calls calls' → KillsReplaced (past_of own since calls wire) lone at command → KillsReplaced (past_of own since calls' wire) lone at command
replaced_later own since calls calls' wire lone at command keeps =
    replaced_grows (past_of own since calls wire) (past_of own since calls' wire) (record { own = λ place call there mine. mine; keeps = keeps; wire = refl }) lone at command

-- it is the cursor that is being closed
steps_kill : (n : ℕ) (old new : Awaited) (log log' : LogTold) (wire : ℤ) (session now : Option Session) (starts : ℕ) (again : Bool) (s s' : ClientStream) (r : Stepped) → IsSound false s → (s.doing ≡ follows → now ≡ session) → (now ≡ None → session ≡ None) → DoesSteps n old new log log' wire session starts again s s' r
    → (before : ClosingCursor) → s.doing ≡ kills before → before.cursor.id ≢ pos 0 → StepKills old log log' wire (is_lone now) s (kill before.cursor)
steps_kill n old new log log' wire session now starts again s s' r sound same_now plainly does before on held = record {
  one = kills_any before.cursor held;
  replaced = λ own since calls at told room so.
      let h = steps_caused n old new log log' wire session now starts again at s s' r sound same_now plainly does own since calls told room so in
      let by : IsReplaced old (past_of own since calls wire) (is_lone now) at s before = subst (ByDoing old (past_of own since calls wire) (is_lone now) at s) on so.by in
      let here : KillsReplaced (past_of own since calls wire) (is_lone now) at (kill before.cursor) = record { old = at_rest before.cursor; there = held; kills_so = refl; new = s.cursor; bytes = by.bytes; resumed = by.resumed } in
      (h.calls', h.told, h.keeps, replaced_later own since calls h.calls' wire (is_lone now) at (kill before.cursor) h.keeps here);
}

-- behind a first step it is so from before it on
kills_behind : (old mid : Awaited) (log between log' : LogTold) (wire : ℤ) (session now : Option Session) (started : Bool) (s t : ClientStream) → IsSound false s → (s.doing ≡ follows → now ≡ session) → (now ≡ None → session ≡ None) → DoesStep old mid log between wire session started s t stepped.Goes
    → (command : Fields) → StepKills mid between log' wire (is_lone now) t command → StepKills old log log' wire (is_lone now) s command
kills_behind old mid log between log' wire session now started s t sound same_now plainly does command k = record {
  one = k.one;
  replaced = λ own since calls at told room so.
      let h = step_caused old mid log between wire session now started at s t stepped.Goes sound same_now plainly own since calls told room so does in
      let rest = k.replaced own since h.calls' at h.told h.room h.came in
      (rest.0, rest.1, keeps_on calls h.calls' rest.0 h.keeps rest.2, rest.3);
}

-- ---- so many steps

sent_on_step : (such now : Fields → Type 0) → ((command : Fields) → now command → such command) → (log mid log' : LogTold) (s t s' : ClientStream) (r : Stepped) → StepSent such log mid s t stepped.Goes → StepSent now mid log' t s' r → StepSent such log log' s s' r
sent_on_step such now so log mid log' s t s' r a b = record {
  tried = tried_on (IsSentAt such s) log mid log' (places s) (places t) (step_places r s') a.tried
      (record { commands = b.tried.commands; adds = b.tried.adds; falling = falling_later such now so s t a.keeps.0 (places t) a.keeps.1 b.tried.commands (step_places r s') b.tried.falling });
  keeps = keeps_by r b.keeps;
}
  where
    falls_so : step_places r s' ≤ places t
    falls_so = falls (IsSentAt now t) (places t) b.tried.commands (step_places r s') b.tried.falling

    by_poll : (p : TryPoll) → KeepsBy (try_ending p) t s' → KeepsBy (try_ending p) s s'
    by_poll try.Pending k = k ∙ a.keeps.0
    by_poll (try.Ready x) k = tt
    by_poll (try.Failed e) k = tt

    keeps_by : (x : Stepped) → StepKeeps x t s' → StepKeeps x s s'
    keeps_by stepped.Goes k = (k.0 ∙ a.keeps.0, k.1)
    keeps_by stepped.Found k = tt
    keeps_by (stepped.Gives p) k = by_poll p k

pub steps_sent : (n : ℕ) (old new : Awaited) (log log' : LogTold) (wire : ℤ) (session now : Option Session) (starts : ℕ) (again : Bool) (s s' : ClientStream) (r : Stepped) → IsSound false s → (s.doing ≡ follows → now ≡ session) → (now ≡ None → session ≡ None) → DoesSteps n old new log log' wire session starts again s s' r
    → StepSent (StepKills old log log' wire (is_lone now) s) log log' s s' r
unfolding DoesSteps
steps_sent zero old new log log' wire session now starts again s s' r sound same_now plainly h =
    step_sent (StepKills old log log' wire (is_lone now) s) old new log log' wire session h.started s s' r sound (steps_kill zero old new log log' wire session now starts again s s' r sound same_now plainly h) h.does
steps_sent (suc n) old new log log' wire session now starts again s s' r sound same_now plainly h =
    let mid = h.0 in
    let between = h.1 in
    let started = h.2 in
    let t = h.4 in
    let here = StepKills old log log' wire (is_lone now) s in
    sent_on_step here (StepKills mid between log' wire (is_lone now) t) (kills_behind old mid log between log' wire session now started s t sound same_now plainly h.5) log between log' s t s' r
    (step_sent here old mid log between wire session started s t stepped.Goes sound (steps_kill (suc n) old new log log' wire session now starts again s s' r sound same_now plainly h) h.5)
    (steps_sent n mid new between log' wire (session_after started session) now h.3 again t s' r (step_sound false old mid log between wire session started s t stepped.Goes sound tt h.5)
    (λ on. absurd (goes_away old mid log between wire session started s t h.5 on)) (λ none. ap (session_after started) (plainly none) ∙ none_after started) h.7)

-- ---- calls

module _ (old : Awaited) (log log' : LogTold) (wire : ℤ) (session : Option Session) where
  -- what is sent by a call is that of the stream without what it lends
  kills_lent : (s : ClientStream) (command : Fields) → PollKills old log log' wire (is_lone session) (lends_nothing s) command → PollKills old log log' wire (is_lone session) s command
  kills_lent s command k = record { one = k.one; replaced = λ calls calls' told told' own at so. k.replaced calls calls' told told' own at (lets_go old (past_of own (length calls) calls wire) (is_lone session) at s so) }

  poll_sent : (s s' : ClientStream) (ending : Ending) → PollSent old log log' wire session (lends_nothing s) s' ending → PollSent old log log' wire session s s' ending
  poll_sent s s' ending h =
      let here = PollKills old log log' wire (is_lone session) s in
      let there = PollKills old log log' wire (is_lone session) (lends_nothing s) in
      record {
        commands = h.commands;
        adds = h.adds;
        falling = falling_as (IsSentAt here s) (IsSentAt there (lends_nothing s)) (same_at here there (kills_lent s) s (lends_nothing s) refl refl) (places s) h.commands (places_behind ending s') h.falling;
        keeps = keeps_by ending h.keeps;
      }
    where
      keeps_by : (x : Ending) → KeepsBy x (lends_nothing s) s' → KeepsBy x s s'
      keeps_by pending k = k
      keeps_by finished k = tt
      keeps_by (failed e) k = tt

  -- the steps of a poll kill what the poll kills
  kills_polled : (s : ClientStream) (command : Fields) → StepKills old log log' wire (is_lone session) s command → PollKills old log log' wire (is_lone session) s command
  kills_polled s command k = record {
    one = k.one;
    replaced = λ calls calls' told told' own at so.
        let h = k.replaced own (length calls) calls at told (omega arith) so in
        subst (λ (x : List Call). KillsReplaced (past_of own (length calls) x wire) (is_lone session) at command) (same_some h.0 calls' (sym h.1 ∙ told')) h.3;
  }

  abbrev Polled : ClientStream → ClientStream → Stepped → Type 0
  Polled s s' r = StepSent (PollKills old log log' wire (is_lone session) s) log log' s s' r

  polled_sent : (n : ℕ) (new : Awaited) (starts : ℕ) (again : Bool) (s s' : ClientStream) (r : Stepped) → IsSound false s → DoesSteps n old new log log' wire session starts again s s' r → Polled s s' r
  polled_sent n new starts again s s' r sound does =
      let h = steps_sent n old new log log' wire session session starts again s s' r sound (λ on. refl) (λ none. none) does in
      let here = PollKills old log log' wire (is_lone session) s in
      let there = StepKills old log log' wire (is_lone session) s in
      record {
        tried = record {
          commands = h.tried.commands;
          adds = h.tried.adds;
          falling = falling_as (IsSentAt here s) (IsSentAt there s) (same_at here there (kills_polled s) s s refl refl) (places s) h.tried.commands (step_places r s') h.tried.falling;
        };
        keeps = h.keeps;
      }

  -- a call has ended, whatever it gave
  over_sent : (s left s' : ClientStream) (r : Stepped) (ending : Ending) → places_behind ending s' ≡ 0 → KeepsBy ending s s' → Polled s left r → PollSent old log log' wire session s s' ending
  over_sent s left s' r ending none_left keeps h =
      let at = IsSentAt (PollKills old log log' wire (is_lone session) s) s in
      record {
        commands = h.tried.commands;
        adds = h.tried.adds;
        falling = subst (λ (n : ℕ). Falling at (places s) h.tried.commands n) (sym none_left) (falling_below at (places s) h.tried.commands (step_places r left) 0 h.tried.falling (omega arith));
        keeps = keeps;
      }

  pending_sent : (s left s' : ClientStream) → s' ≡ left → Polled s left (stepped.Gives try.Pending) → PollSent old log log' wire session s s' pending
  pending_sent s left s' is h = subst (λ (x : ClientStream). PollSent old log log' wire session s x pending) (sym is) (record { commands = h.tried.commands; adds = h.tried.adds; falling = h.tried.falling; keeps = h.keeps })

  lent_sent : (s left lent s' : ClientStream) (came : Stepped) (r : TryPoll) → Polled s left came → LendsBehind came left lent r → s' ≡ kept_behind (try_ending r) lent → PollSent old log log' wire session s s' (try_ending r)
  lent_sent s left lent s' stepped.Goes r h behind kept = absurd behind
  lent_sent s left lent s' stepped.Found try.Pending h behind kept = absurd behind
  lent_sent s left lent s' stepped.Found (try.Ready x) h behind kept = over_sent s left s' stepped.Found finished refl tt h
  lent_sent s left lent s' stepped.Found (try.Failed e) h behind kept = over_sent s left s' stepped.Found (failed e) refl tt h
  lent_sent s left lent s' (stepped.Gives p) try.Pending h behind kept = pending_sent s left s' (kept ∙ behind.0) (subst (λ (x : TryPoll). Polled s left (stepped.Gives x)) (sym behind.1) h)
  lent_sent s left lent s' (stepped.Gives p) (try.Ready x) h behind kept = over_sent s left s' (stepped.Gives p) finished refl tt h
  lent_sent s left lent s' (stepped.Gives p) (try.Failed e) h behind kept = over_sent s left s' (stepped.Gives p) (failed e) refl tt h

  pends_by : (p : TryPoll) → poll.Pending ≡ without_event p → p ≡ try.Pending
  pends_by try.Pending h = refl
  pends_by (try.Ready x) h = absurd cc
  pends_by (try.Failed e) h = absurd cc

  copied_sent : (s left copied s' : ClientStream) (came : Stepped) (r : EventPoll) → Polled s left came → CopiesBehind came left copied r → s' ≡ kept_behind (event_ending r) copied → PollSent old log log' wire session s s' (event_ending r)
  copied_sent s left copied s' stepped.Goes r h behind kept = absurd behind
  copied_sent s left copied s' stepped.Found poll.Pending h behind kept = absurd behind
  copied_sent s left copied s' stepped.Found (poll.Ready x) h behind kept = over_sent s left s' stepped.Found finished refl tt h
  copied_sent s left copied s' stepped.Found (poll.Failed e) h behind kept = over_sent s left s' stepped.Found (failed e) refl tt h
  copied_sent s left copied s' (stepped.Gives p) poll.Pending h behind kept = pending_sent s left s' (kept ∙ behind.0) (subst (λ (x : TryPoll). Polled s left (stepped.Gives x)) (pends_by p behind.1) h)
  copied_sent s left copied s' (stepped.Gives p) (poll.Ready x) h behind kept = over_sent s left s' (stepped.Gives p) finished refl tt h
  copied_sent s left copied s' (stepped.Gives p) (poll.Failed e) h behind kept = over_sent s left s' (stepped.Gives p) (failed e) refl tt h

lent_sound : (plain : Bool) (s : ClientStream) → IsSound plain s → IsSound false (lends_nothing s)
lent_sound plain s sound = sound_as false s (lends_nothing s) refl refl refl refl (sound_any plain s sound)

pub lends_sent : (n : ℕ) (plain : Bool) (old new : Awaited) (log log' : LogTold) (wire : ℤ) (session : Option Session) (starts : ℕ) (s s' : ClientStream) (r : TryPoll) → IsSound plain s → CallLends n old new log log' wire session starts s s' r → TrySent old log log' wire session s s' r
lends_sent n plain old new log log' wire session starts s s' r sound h =
    poll_sent old log log' wire session s s' (try_ending r)
    (lent_sent old log log' wire session (lends_nothing s) h.left h.lent s' h.came r (polled_sent old log log' wire session n new starts h.again (lends_nothing s) h.left h.came (lent_sound plain s sound) h.does) h.lends h.kept)

pub copies_sent : (n : ℕ) (plain : Bool) (old new : Awaited) (log log' : LogTold) (wire : ℤ) (session : Option Session) (starts : ℕ) (s s' : ClientStream) (r : EventPoll) → IsSound plain s → CallCopies n old new log log' wire session starts s s' r → CallSent old log log' wire session s s' r
copies_sent n plain old new log log' wire session starts s s' r sound h =
    poll_sent old log log' wire session s s' (event_ending r)
    (copied_sent old log log' wire session (lends_nothing s) h.left h.copied s' h.came r (polled_sent old log log' wire session n new starts h.again (lends_nothing s) h.left h.came (lent_sound plain s sound) h.does) h.copies h.kept)

-- ---- a call that seeks an event

sought_at : (such now : Fields → Type 0) → ((command : Fields) → now command → such command) → (s : ClientStream) (place : ℕ) (command : Fields) → IsSentAt now s place command → IsSought such s.aggregate.args command
sought_at such now so s zero command h = kills_one (so command h)
sought_at such now so s (suc zero) command h = resumes_it s.aggregate refl h
sought_at such now so s (suc (suc zero)) command h = resumes_it s.aggregate refl h
sought_at such now so s (suc (suc (suc zero))) command h = asks_for s.cursor h
sought_at such now so s (suc (suc (suc (suc place)))) command h = absurd h

all_sought : (such now : Fields → Type 0) → ((command : Fields) → now command → such command) → (s : ClientStream) (n : ℕ) (cs : List Fields) (m : ℕ) → Falling (IsSentAt now s) n cs m → AreSought such s.aggregate.args cs
all_sought such now so s n [] m f = tt
all_sought such now so s n (x ∷ cs) m f = (sought_at such now so s f.0 x f.2, all_sought such now so s f.0 cs m f.3)

both_sought : (such : Fields → Type 0) (args : WatchArgs) (cs ds : List Fields) → AreSought such args cs → AreSought such args ds → AreSought such args (cs ++ ds)
both_sought such args [] ds p q = q
both_sought such args (x ∷ cs) ds p q = (p.0, both_sought such args cs ds p.1 q)

sought_such : (such now : Fields → Type 0) → ((command : Fields) → now command → such command) → (args : WatchArgs) (command : Fields) → IsSought now args command → IsSought such args command
sought_such such now so args command (asks_for c h) = asks_for c h
sought_such such now so args command (resumes_it a same h) = resumes_it a same h
sought_such such now so args command (kills_one h) = kills_one (so command h)

such_sought : (such now : Fields → Type 0) → ((command : Fields) → now command → such command) → (args : WatchArgs) (cs : List Fields) → AreSought now args cs → AreSought such args cs
such_sought such now so args [] h = tt
such_sought such now so args (x ∷ cs) h = (sought_such such now so args x h.0, such_sought such now so args cs h.1)

-- such commands were sent, and no others
record SentSought (such : Fields → Type 0) (log log' : LogTold) (args : WatchArgs) : Type 0 where
  commands : List Fields
  adds : Sent log log' commands
  sought : AreSought such args commands

sought_steps : (such now : Fields → Type 0) → ((command : Fields) → now command → such command) → (log log' : LogTold) (s s' : ClientStream) (r : Stepped) → StepSent now log log' s s' r → SentSought such log log' s.aggregate.args
sought_steps such now so log log' s s' r h = record { commands = h.tried.commands; adds = h.tried.adds; sought = all_sought such now so s (places s) h.tried.commands (step_places r s') h.tried.falling }

sought_on : (such now : Fields → Type 0) → ((command : Fields) → now command → such command) → (log mid log' : LogTold) (args args' : WatchArgs) → args' ≡ args → SentSought such log mid args → SentSought now mid log' args' → SentSought such log log' args
sought_on such now so log mid log' args args' same a b = record {
  commands = a.commands ++ b.commands;
  adds = sent_on log mid log' a.commands b.commands a.adds b.adds;
  sought = both_sought such args a.commands b.commands a.sought (such_sought such now so args b.commands (subst (λ (x : WatchArgs). AreSought now x b.commands) same b.sought));
}

-- One cursor is killed, and it is the one that a resumption in a part of the call replaced, wherever the call began.
record PartKills (old : Awaited) (log log' : LogTold) (wire : ℤ) (lone : Bool) (s : ClientStream) (command : Fields) : Type 0 where
  one : KillsOne command
  replaced : (start : CallPart) (calls : List Call) → log ≡ Some calls → RowSought old calls wire lone start s → (calls' : List Call) × (log' ≡ Some calls') × PartReplaced calls' wire lone start command

-- in the last part
kills_last : (old : Awaited) (log log' : LogTold) (wire : ℤ) (session : Option Session) (lone : Bool) (s : ClientStream) → is_lone session ≡ lone → (command : Fields) → StepKills old log log' wire (is_lone session) s command → PartKills old log log' wire lone s command
kills_last old log log' wire session lone s same command k = record {
  one = k.one;
  replaced = λ start calls told so.
      let p = so.part in
      let h = k.replaced p.places p.since calls p.at told so.room (subst (λ (b : Bool). SoFar old (part_past p calls wire) b p.at s) (sym same) so.so_far) in
      (h.0, h.1, record { part = p; row = row_keeps calls h.0 wire lone start p h.2 so.row; kills_so = subst (λ (b : Bool). KillsReplaced (part_past p h.0 wire) b p.at command) same h.3 });
}

module _ (n : ℕ) (old mid new : Awaited) (log between log' : LogTold) (wire : ℤ) (named session : Option Session) (now later : ℕ) (s t s' : ClientStream) (r : EventPoll) (sound : IsSound false s) (none_then : named ≡ None → session ≡ None) (same : is_lone session ≡ is_lone named) (on : SeeksOn old mid log between wire session now s t) (rest : SeeksEvent n mid new between log' wire (session_behind now session) later t s' r) where
  rest_caused : (start : CallPart) (calls : List Call) → between ≡ Some calls → RowSought mid calls wire (is_lone named) start t → PartsCame new calls log' wire named start s' r
  rest_caused = parts_caused n mid new between log' wire named (session_behind now session) later t s' r (part_sound old mid log between wire session now s t sound on) (λ none. ap (session_behind now) (none_then none)) (lone_behind now session ∙ same) rest

  -- in a part with an empty reply
  kills_before : (command : Fields) → StepKills old log between wire (is_lone session) s command → PartKills old log log' wire (is_lone named) s command
  kills_before command k = record {
    one = k.one;
    replaced = λ start calls told so.
        let p = so.part in
        let h = ((kills_last old log between wire session (is_lone named) s same command k).replaced start calls told so) in
        let goes = part_goes old mid log between wire session now (is_lone named) s t sound same on start calls told so in
        let x = rest_caused start goes.calls' goes.told goes.so in
        let here : PartReplaced goes.calls' wire (is_lone named) start command = subst (λ (l : List Call). PartReplaced l wire (is_lone named) start command) (same_some h.0 goes.calls' (sym h.1 ∙ goes.told)) h.2 in
        let q = here.part in
        (x.calls', x.told, record { part = q; row = row_keeps goes.calls' x.calls' wire (is_lone named) start q x.keeps here.row; kills_so = replaced_later q.places q.since goes.calls' x.calls' wire (is_lone named) q.at command x.keeps here.kills_so });
  }

  -- and behind it
  kills_after : (command : Fields) → PartKills mid between log' wire (is_lone named) t command → PartKills old log log' wire (is_lone named) s command
  kills_after command k = record {
    one = k.one;
    replaced = λ start calls told so.
        let goes = part_goes old mid log between wire session now (is_lone named) s t sound same on start calls told so in
        k.replaced start goes.calls' goes.told goes.so;
  }

parts_sent : (n : ℕ) (old new : Awaited) (log log' : LogTold) (wire : ℤ) (named session : Option Session) (starts : ℕ) (s s' : ClientStream) (r : EventPoll) → IsSound false s → (named ≡ None → session ≡ None) → is_lone session ≡ is_lone named → SeeksEvent n old new log log' wire session starts s s' r
    → SentSought (PartKills old log log' wire (is_lone named) s) log log' s.aggregate.args
unfolding SeeksEvent
parts_sent zero old new log log' wire named session starts s s' r sound none_then same h =
    sought_steps (PartKills old log log' wire (is_lone named) s) (StepKills old log log' wire (is_lone session) s) (kills_last old log log' wire session (is_lone named) s same) log log' s h.left h.came
    (steps_sent h.steps old new log log' wire session session starts h.again s h.left h.came sound (λ on. refl) (λ none. none) h.does)
parts_sent (suc n) old new log log' wire named session starts s s' r sound none_then same h =
    let mid = h.0 in
    let between = h.1 in
    let t = h.4 in
    let on = h.5 in
    let here = PartKills old log log' wire (is_lone named) s in
    let gone = steps_went on.steps false old mid log between wire session h.2 on.again s on.left on.came sound tt on.does in
    sought_on here (PartKills mid between log' wire (is_lone named) t) (kills_after n old mid new log between log' wire named session h.2 h.3 s t s' r sound none_then same on h.7) log between log' s.aggregate.args t.aggregate.args (ap (λ (x : ClientStream). x.aggregate.args) on.goes.counts ∙ gone.turned.args)
    (sought_steps here (StepKills old log between wire (is_lone session) s) (kills_before n old mid new log between log' wire named session h.2 h.3 s t s' r sound none_then same on h.7) log between s on.left on.came
    (steps_sent on.steps old mid log between wire session session h.2 on.again s on.left on.came sound (λ on_so. refl) (λ none. none) on.does))
    (parts_sent n mid new between log' wire named (session_behind h.2 session) h.3 t s' r (part_sound old mid log between wire session h.2 s t sound on) (λ none. ap (session_behind h.2) (none_then none)) (lone_behind h.2 session ∙ same) h.7)

-- its first part is the one that the poll led on
kills_sought : (old : Awaited) (log log' : LogTold) (wire : ℤ) (lone : Bool) (s : ClientStream) (command : Fields) → PartKills old log log' wire lone (lends_nothing s) command → SeekKills old log log' wire lone s command
kills_sought old log log' wire lone s command k = record {
  one = k.one;
  replaced = λ calls calls' told told' own at so.
      let start : CallPart = record { at = at; counts = s.counts; places = own; since = length calls } in
      let h = k.replaced start calls told (record { part = start; room = omega arith; counts = refl; row = begins; so_far = lets_go old (part_past start calls wire) lone at s so }) in
      subst (λ (l : List Call). PartReplaced l wire lone start command) (same_some h.0 calls' (sym h.1 ∙ told')) h.2;
}

pub seeks_sent : (n : ℕ) (plain : Bool) (old new : Awaited) (log log' : LogTold) (wire : ℤ) (session : Option Session) (starts : ℕ) (s s' : ClientStream) (r : EventPoll) → IsSound plain (lends_nothing s) → SeeksEvent n old new log log' wire session starts (lends_nothing s) s' r → SeekSent old log log' wire session s
seeks_sent n plain old new log log' wire session starts s s' r sound does =
    let h = parts_sent n old new log log' wire session session starts (lends_nothing s) s' r (sound_any plain (lends_nothing s) sound) (λ none. none) refl does in
    record {
      commands = h.commands;
      adds = h.adds;
      sought = such_sought (SeekKills old log log' wire (is_lone session) s) (PartKills old log log' wire (is_lone session) (lends_nothing s)) (kills_sought old log log' wire (is_lone session) s) s.aggregate.args h.commands h.sought;
    }
