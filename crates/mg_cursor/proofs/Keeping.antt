-- What is on its way stays the getMore of its cursor.
use Rattle.std.proofs.Common.{◌≡◌, ◌≢◌, ℕ, ℤ, Bool, true, false, List, Option, option_map, refl, sym, ap, ◌∙◌, subst}
use Rattle.mg_bson.specs.Raw.{fields}
use Rattle.mg_link.specs.Exec.{Runs, Sending, Stage, unsent, first, second, IsFirstTry}
use Rattle.mg_link.specs.Link.{Awaited, LogTold}
use Rattle.mg_link.specs.Session.{Session, after_command}
use Rattle.mg_link.specs.declared.action.Step.{Step}
use Rattle.mg_link.specs.declared.action.Step.TheVariants as step
use Rattle.mg_exec.proofs.Execs.{runs_of}
use Rattle.mg_link.proofs.Waits.{waits_still}
use Rattle.mg_cursor.specs.Client.{ClientCursor, Doing, IsAsking, IsNew, IsSound, MayAsk, PlainIf, SoundBy, WaitsFor, asks, get_more, holds, kill, pinned_to, rests}
use Rattle.mg_cursor.specs.Closing.{IsKilling, IsToKill, LandsIn, heard, quiet}
use Rattle.mg_cursor.specs.Polling.{Hears, PollsNext, ReadsReply, begins, broke, gave, goes_on, hands_out, is_over, not_built}
use Rattle.mg_cursor.specs.declared.polls.NextPoll.{NextPoll}

-- ---- connections

pinned_by : (plain : Bool) (c : ClientCursor) (id : ℕ) (doing : Doing) → SoundBy plain c doing → SoundBy plain (pinned_to id c) doing
pinned_by plain c id rests h = tt
pinned_by plain c id (holds reply) h = tt
pinned_by plain c id (asks sending) h = record { session = h.session; plainly = h.plainly; waits_on = h.waits_on; may = record { held = h.may.held; reached = refl } }

pub sound_pinned : (plain : Bool) (c : ClientCursor) (id : ℕ) → IsSound plain c → IsSound plain (pinned_to id c)
sound_pinned plain c id h = pinned_by plain c id c.doing h

-- ---- sessions

-- what holds of a cursor without a session holds of one that may have one
any_session : (plain : Bool) (c : ClientCursor) (doing : Doing) → SoundBy plain c doing → SoundBy false c doing
any_session plain c rests h = tt
any_session plain c (holds reply) h = tt
any_session plain c (asks sending) h = record { session = h.session; plainly = tt; waits_on = h.waits_on; may = h.may }

pub sound_in_any : (plain : Bool) (c : ClientCursor) → IsSound plain c → IsSound false c
sound_in_any plain c h = any_session plain c c.doing h

-- ---- polls

-- a getMore of the cursor that is to be polled
pub record IsPolled (c : ClientCursor) (session : Option Session) (sending : Sending) : Type 0 where
  pub command_is : fields sending.command ≡ get_more c session
  pub single : sending.retries ≡ false
  pub at : IsFirstTry sending.stage
  pub may : MayAsk c

first_try : (stage : Stage) (ticket : ℕ) → stage ≡ first ticket → IsFirstTry stage
first_try stage ticket is = subst IsFirstTry (sym is) tt

sound_read : (plain : Bool) (c c' : ClientCursor) (reply : List ℕ) (r : NextPoll) → ReadsReply c reply c' r → IsSound plain c'
sound_read plain c c' reply r (gave said read is answer) = subst (IsSound plain) (sym is) tt
sound_read plain c c' reply r (broke e fails is answer) = subst (IsSound plain) (sym is) tt

pub sound_heard : (plain : Bool) (old new : Awaited) (log log' : LogTold) (wire : ℤ) (session : Option Session) (c c' : ClientCursor) (sending : Sending) (came : Step Sending (List ℕ)) (r : NextPoll) → PlainIf plain session → IsPolled c session sending → Runs old new log log' wire sending came → Hears c came c' r → IsSound plain c'
sound_heard plain old new log log' wire session c c' sending (step.Pending next) r plainly is runs h =
    let w = waits_still old new log log' wire sending next is.single is.at runs in
    let waits_on : WaitsFor (get_more c session) next = record { command_is = ap fields w.same_command ∙ is.command_is; single = w.same_retries ∙ is.single; first_try = first_try next.stage w.ticket w.waits_by } in
    subst (IsSound plain) (sym h.0) (record { session = session; plainly = plainly; waits_on = waits_on; may = record { held = is.may.held; reached = is.may.reached } })
sound_heard plain old new log log' wire session c c' sending (step.Done reply) r plainly is runs h = sound_read plain c c' reply r h
sound_heard plain old new log log' wire session c c' sending (step.Failed e) r plainly is runs h = subst (IsSound plain) (sym h.0) tt

-- a getMore on its way, as it is polled
pub polled_on : (plain : Bool) (c : ClientCursor) (sending : Sending) (h : IsAsking plain c sending) → IsPolled c h.session sending
polled_on plain c sending h = record {
  command_is = h.waits_on.command_is;
  single = h.waits_on.single;
  at = h.waits_on.first_try;
  may = h.may;
}

pub sound_next : (plain : Bool) (old new : Awaited) (log log' : LogTold) (wire : ℤ) (session : Option Session) (started : Bool) (c c' : ClientCursor) (r : NextPoll) → IsSound plain c → PlainIf plain session → PollsNext old new log log' wire session started c c' r → IsSound plain c'
sound_next plain old new log log' wire session started c c' r h plainly (hands_out reply at none same is answer) = subst (IsSound plain) (sym is) tt
sound_next plain old new log log' wire session started c c' r h plainly (is_over at over none same is answer) = subst (IsSound plain) (sym is) h
sound_next plain old new log log' wire session started c c' r h plainly (not_built at may e fails none same is answer) = subst (IsSound plain) (sym is) h
sound_next plain old new log log' wire session started c c' r h plainly (begins at may sending new_one asked) =
    let is : IsPolled c session sending = record { command_is = new_one.command_is; single = new_one.single; at = subst IsFirstTry (sym new_one.new) tt; may = may } in
    sound_heard plain old new log log' wire session c c' sending asked.came r plainly is (runs_of old new log log' wire sending asked.came started asked.runs) asked.hears
sound_next plain old new log log' wire session started c c' r h plainly (goes_on sending at asked) =
    let on : IsAsking plain c sending = subst (SoundBy plain c) at h in
    sound_heard plain old new log log' wire on.session c c' sending asked.came r on.plainly (polled_on plain c sending on) (runs_of old new log log' wire sending asked.came started asked.runs) asked.hears

-- ---- closings

-- what is left where the getMore on its way landed
pub sound_lands : (old new : Awaited) (log log' : LogTold) (wire : ℤ) (c c' : ClientCursor) (r : NextPoll) → IsSound false c → LandsIn old new log log' wire c c' r → IsSound false c'
sound_lands old new log log' wire c c' r h (quiet not same_awaited same_log is answer) = subst (IsSound false) (sym is) tt
sound_lands old new log log' wire c c' r h (heard sending at came runs hears) =
    let on : IsAsking false c sending = subst (SoundBy false c) at h in
    sound_heard false old new log log' wire on.session c c' sending came r tt (polled_on false c sending on) runs hears

-- a command that is not at its second attempt
pub at_first : (stage : Stage) → ((ticket : ℕ) → stage ≢ second ticket) → IsFirstTry stage
at_first unsent not = tt
at_first (first ticket) not = tt
at_first (second ticket) not = absurd (not ticket refl)

-- nor is one at its first attempt there
not_second : (stage : Stage) → IsFirstTry stage → (ticket : ℕ) → stage ≢ second ticket
not_second unsent h ticket e = let bad : unsent ≡ second ticket = e in cc
not_second (first n) h ticket e = let bad : first n ≡ second ticket = e in cc
not_second (second n) h ticket e = absurd h

-- a killCursors that was built, or waits, is to be sent
pub to_kill_new : (c : ClientCursor) (sending : Sending) → c.doing ≡ rests → MayAsk c → IsNew (kill c) sending → IsToKill c sending
to_kill_new c sending is may h = record {
  command_is = h.command_is;
  single = h.single;
  first_try = λ ticket e. let bad : unsent ≡ second ticket = sym h.new ∙ e in cc;
  may = may;
  at_end = is;
}

pub to_kill : (c : ClientCursor) (sending : Sending) → IsKilling c sending → IsToKill c sending
to_kill c sending h = record {
  command_is = h.waits_on.command_is;
  single = h.waits_on.single;
  first_try = not_second sending.stage h.waits_on.first_try;
  may = h.may;
  at_end = h.at_end;
}

-- one that pends waits
pub kills_still : (old new : Awaited) (log log' : LogTold) (wire : ℤ) (c : ClientCursor) (sending next : Sending) → IsToKill c sending → Runs old new log log' wire sending (step.Pending next) → IsKilling c next
kills_still old new log log' wire c sending next is runs =
    let w = waits_still old new log log' wire sending next is.single (at_first sending.stage is.first_try) runs in
    record {
      waits_on = record { command_is = ap fields w.same_command ∙ is.command_is; single = w.same_retries ∙ is.single; first_try = first_try next.stage w.ticket w.waits_by };
      may = is.may;
      at_end = is.at_end;
    }

-- ---- sessions that were told

pub plain_told : (plain : Bool) (session : Option Session) → PlainIf plain session → PlainIf plain (option_map after_command session)
plain_told true session none = ap (option_map after_command) none
plain_told false session none = tt
