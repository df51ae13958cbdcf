-- What the polls of a stream send that names no session, where each command of its own is of one kind.
use Rattle.std.proofs.Common.{◌≡◌, ◌<◌, ◌≤◌, ◌++◌, ◌∷◌, [], List, ℕ, zero, suc, ℤ, Bool, true, false, Option, Some, None, refl, sym, ap, ◌∙◌, subst, arith}
use Rattle.mg_bson.specs.Raw.{fields}
use Rattle.mg_bson.specs.Tree.{Fields}
use Rattle.mg_link.specs.Exec.{RunsStarting, Sending, Stage, first, second, unsent}
use Rattle.mg_link.specs.Link.{Awaited, LogTold}
use Rattle.mg_link.specs.Namespace.{Space}
use Rattle.mg_link.specs.Session.{Session}
use Rattle.mg_link.specs.declared.action.Step.{Step}
use Rattle.mg_exec.proofs.Execs.{runs_of}
use Rattle.mg_ops.specs.Commands.{kill_command}
use Rattle.mg_ops.specs.Cursors.{watch_manner}
use Rattle.mg_ops.specs.declared.aggregate.ChangeStreamAggregate.{ChangeStreamAggregate}
use Rattle.mg_ops.specs.declared.change_stream.WatchArgs.{WatchArgs}
use Rattle.mg_cursor.specs.Client.{ClientCursor, IsAsking, get_more}
use Rattle.mg_cursor.specs.Client as cursors
use Rattle.mg_cursor.specs.Seeking.{session_after}
use Rattle.mg_change.specs.ClientStreams.{ClientStream, Doing, IsAggregate, IsSound, SoundBy, follows, lends_nothing, resuming_in}
use Rattle.mg_change.specs.Sent.{Falling, IsSentAt, KillsOne, Sent, asking_places, ending_places, killing_places, places, places_by, resuming_places}
use Rattle.mg_change.specs.Steps.{DoesStep, DoesSteps}
use Rattle.mg_change.specs.Steps as steps
use Rattle.mg_change.specs.StreamCalls.{CallCopies}
use Rattle.mg_change.specs.declared.event_poll.EventPoll.{EventPoll}
use Rattle.mg_change.specs.declared.event_poll.Stepped.{Stepped}
use Rattle.mg_change.specs.declared.event_poll.Stepped.TheVariants as stepped
use Rattle.mg_change.proofs.Calls.{goes_away}
use Rattle.mg_change.proofs.Keeping.{sound_any, sound_as, step_sound}
use Rattle.mg_change.proofs.Sent.{Tried, kills_any, more_sent, resume_sent, sent_on, step_sent, tried_none}

-- ---- commands of one kind

abbrev pub AreAll : (Fields → Type 0) → List Fields → Type 0
AreAll may [] = Unit {0}
AreAll may (command ∷ commands) = may command × AreAll may commands

pub all_falling : (may : Fields → Type 0) (at : ℕ → Fields → Type 0) (n : ℕ) (commands : List Fields) (m : ℕ) → ((place : ℕ) (command : Fields) → place < n → at place command → may command) → Falling at n commands m → AreAll may commands
all_falling may at n [] m so f = tt
all_falling may at n (command ∷ commands) m so f =
    let less : f.0 < n = f.1 in
    (so f.0 command less f.2, all_falling may at f.0 commands m (λ place x below is. so place x (omega (arith, below, less)) is) f.3)

-- such commands, and no others, were added
pub record AddsSuch (may : Fields → Type 0) (log log' : LogTold) : Type 0 where
  pub commands : List Fields
  pub adds : Sent log log' commands
  pub such : AreAll may commands

pub such_tried : (may : Fields → Type 0) (log log' : LogTold) (n m : ℕ) → Tried (λ (place : ℕ). may) log log' n m → AddsSuch may log log'
such_tried may log log' n m t = record { commands = t.commands; adds = t.adds; such = all_falling may (λ (place : ℕ). may) n t.commands m (λ place command less so. so) t.falling }

pub such_none : (may : Fields → Type 0) (log log' : LogTold) → log' ≡ log → AddsSuch may log log'
such_none may log log' same = subst (λ (l : LogTold). AddsSuch may log l) (sym same) (such_tried may log log 0 0 (tried_none (λ (place : ℕ). may) log 0))

all_joined : (may : Fields → Type 0) (cs ds : List Fields) → AreAll may cs → AreAll may ds → AreAll may (cs ++ ds)
all_joined may [] ds a b = b
all_joined may (c ∷ cs) ds a b = (a.0, all_joined may cs ds a.1 b)

such_on : (may : Fields → Type 0) (log mid log' : LogTold) → AddsSuch may log mid → AddsSuch may mid log' → AddsSuch may log log'
such_on may log mid log' a b = record {
  commands = a.commands ++ b.commands;
  adds = sent_on log mid log' a.commands b.commands a.adds b.adds;
  such = all_joined may a.commands b.commands a.such b.such;
}

-- one request, which is sent once, or once more
more_such : (may : Fields → Type 0) (old new : Awaited) (log log' : LogTold) (wire : ℤ) (s : Sending) (came : Step Sending (List ℕ)) (started : Bool) → s.retries ≡ false → may (fields s.command) → RunsStarting old new log log' wire s came started → AddsSuch may log log'
more_such may old new log log' wire s came started single is runs =
    such_tried may log log' (asking_places s.stage) 3 (more_sent (λ (place : ℕ). may) old new log log' wire s single came is (runs_of old new log log' wire s came started runs))

pub again_such : (may : Fields → Type 0) (old new : Awaited) (log log' : LogTold) (wire : ℤ) (s : Sending) (came : Step Sending (List ℕ)) (started : Bool) → may (fields s.command) → RunsStarting old new log log' wire s came started → AddsSuch may log log'
again_such may old new log log' wire s came started is runs =
    such_tried may log log' (resuming_places s.stage) 1 (resume_sent (λ (place : ℕ). may) old new log log' wire s is is came (runs_of old new log log' wire s came started runs))

-- ---- a call of a stream

-- a session that was not there is told nothing
none_after : (started : Bool) → session_after started None ≡ None
none_after true = refl
none_after false = refl

few_ending : (stage : Stage) → ending_places stage ≤ 1
few_ending unsent = omega arith
few_ending (first ticket) = omega arith
few_ending (second ticket) = omega arith

few_killing : (o : Option Sending) → killing_places o ≤ 1
few_killing None = omega arith
few_killing (Some sending) = few_ending sending.stage

module _ (may : Fields → Type 0) (args : WatchArgs) (of_more : (c : ClientCursor) → c.manner ≡ watch_manner args.options → may (get_more c None)) (of_resumption : (a : ChangeStreamAggregate) (wire : ℤ) → a.args ≡ args → may (resuming_in a wire None)) (of_killing : (at : Space) (ids : List ℤ) → may (kill_command at ids)) where
  asked_by : (c : ClientCursor) (command : Fields) → c.manner ≡ watch_manner args.options → command ≡ get_more c None → may command
  asked_by c command manner is = subst may (sym is) (of_more c manner)

  resumed_by : (a : ChangeStreamAggregate) (wire : ℤ) (command : Fields) → a.args ≡ args → command ≡ resuming_in a wire None → may command
  resumed_by a wire command same is = subst may (sym is) (of_resumption a wire same)

  -- the lowest place is that of a killing
  killed_at : (s : ClientStream) (place : ℕ) (command : Fields) → place < 1 → IsSentAt KillsOne s place command → may command
  killed_at s zero command less is = subst may (sym is.kills_so) (of_killing is.at (is.id ∷ []))
  killed_at s (suc place) command less is = absurd (omega (arith, less))

  killed_all : (s : ClientStream) (n : ℕ) (commands : List Fields) (m : ℕ) → n ≤ 1 → Falling (IsSentAt KillsOne s) n commands m → AreAll may commands
  killed_all s n commands m few falling = all_falling may (IsSentAt KillsOne s) n commands m (λ place command less is. killed_at s place command (omega (arith, less, few)) is) falling

  module _ (old new : Awaited) (log log' : LogTold) (wire : ℤ) (started : Bool) (s s' : ClientStream) (r : Stepped) (sound : IsSound true s) (args_are : s.aggregate.args ≡ args) (manner : s.doing ≡ follows → s.cursor.manner ≡ watch_manner args.options) where
    step_such : DoesStep old new log log' wire None started s s' r → AddsSuch may log log'
    step_such (steps.finds on there nothing unstarted is answer) = such_none may log log' nothing.log_same
    step_such (steps.looks on none_left said at nothing unstarted h) = such_none may log log' nothing.log_same
    step_such (steps.ends on none_left at overs nothing unstarted is answer) = such_none may log log' nothing.log_same
    step_such (steps.not_asked on none_left at may_ask e by nothing unstarted is answer) = such_none may log log' nothing.log_same
    step_such (steps.asks_more on none_left at may_ask sending new_one h) =
        more_such may old new log log' wire sending h.runs.came started new_one.single (asked_by s.cursor (fields sending.command) (manner on) new_one.command_is) h.runs.runs
    step_such (steps.waits_more on none_left sending at h) =
        let own : IsAsking true s.cursor sending = subst (λ (d : cursors.Doing). cursors.SoundBy true s.cursor d) at sound.asks_its_own in
        let is : fields sending.command ≡ get_more s.cursor None = subst (λ (x : Option Session). fields sending.command ≡ get_more s.cursor x) own.plainly own.waits_on.command_is in
        more_such may old new log log' wire sending h.runs.came started own.waits_on.single (asked_by s.cursor (fields sending.command) (manner on) is) h.runs.runs
    step_such (steps.not_resumed on e by nothing unstarted is answer) = such_none may log log' nothing.log_same
    step_such (steps.resumes_now on sending new_one h) =
        again_such may old new log log' wire sending h.came started (resumed_by s.aggregate wire (fields sending.command) args_are new_one.command_is) h.runs
    step_such (steps.waits_resumption sending on h) =
        let own : IsAggregate true s.aggregate sending = (subst (λ (d : Doing). SoundBy true s d) on sound.by).1 in
        let is : fields sending.command ≡ resuming_in s.aggregate own.wire None = subst (λ (x : Option Session). fields sending.command ≡ resuming_in s.aggregate own.wire x) own.plainly own.command_is in
        again_such may old new log log' wire sending h.came started (resumed_by s.aggregate own.wire (fields sending.command) args_are is) h.runs
    step_such (steps.closes before on unstarted came polls heard) =
        let sent = step_sent KillsOne old new log log' wire None started s s' r (sound_any true s sound) (λ closing at held. kills_any closing.cursor held) (steps.closes before on unstarted came polls heard) in
        let few = few_killing before.killing in
        let at : places s ≡ killing_places before.killing = ap (λ (d : Doing). places_by d s.cursor) on in
        record { commands = sent.tried.commands; adds = sent.tried.adds; such = killed_all s (places s) sent.tried.commands _ (omega (arith, few, at)) sent.tried.falling }
    step_such (steps.renews on said at nothing unstarted h) = such_none may log log' nothing.log_same

  steps_such : (n : ℕ) (old new : Awaited) (log log' : LogTold) (wire : ℤ) (starts : ℕ) (again : Bool) (s s' : ClientStream) (r : Stepped) → IsSound true s → s.aggregate.args ≡ args → (s.doing ≡ follows → s.cursor.manner ≡ watch_manner args.options) → DoesSteps n old new log log' wire None starts again s s' r → AddsSuch may log log'
  unfolding DoesSteps
  steps_such zero old new log log' wire starts again s s' r sound same manner h = step_such old new log log' wire h.started s s' r sound same manner h.does
  steps_such (suc n) old new log log' wire starts again s s' r sound same manner h =
      let t = h.4 in
      let sent = step_sent KillsOne old h.0 log h.1 wire None h.2 s t stepped.Goes (sound_any true s sound) (λ closing at held. kills_any closing.cursor held) h.5 in
      such_on may log h.1 log' (step_such old h.0 log h.1 wire h.2 s t stepped.Goes sound same manner h.5)
      (steps_such n h.0 new h.1 log' wire h.3 again t s' r (step_sound true old h.0 log h.1 wire None h.2 s t stepped.Goes sound refl h.5) (ap (λ (a : ChangeStreamAggregate). a.args) sent.keeps.0 ∙ same)
      (λ on. absurd (goes_away old h.0 log h.1 wire None h.2 s t h.5 on))
      (subst (λ (x : Option Session). DoesSteps n h.0 new h.1 log' wire x h.3 again t s' r) (none_after h.2) h.7))

  pub call_such : (n : ℕ) (old new : Awaited) (log log' : LogTold) (wire : ℤ) (starts : ℕ) (s s' : ClientStream) (r : EventPoll) → IsSound true s → s.aggregate.args ≡ args → (s.doing ≡ follows → s.cursor.manner ≡ watch_manner args.options) → CallCopies n old new log log' wire None starts s s' r → AddsSuch may log log'
  call_such n old new log log' wire starts s s' r sound same manner does =
      steps_such n old new log log' wire starts does.again (lends_nothing s) does.left does.came (sound_as true s (lends_nothing s) refl refl refl refl sound) same manner does.does
