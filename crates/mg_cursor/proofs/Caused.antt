-- What a poll for the next batch of a cursor is caused by.
use Rattle.std.proofs.Common.{◌≡◌, ◌≤◌, ℕ, ℤ, Bool, false, List, length, Option, Some, sym, ap, ◌∙◌, subst, inl, inr, arith}
use Rattle.mg_bson.specs.Raw.{fields}
use Rattle.mg_server.specs.Calls.{Came, Flies, HeardLast, Keeps, Past, past_of, was_broken}
use Rattle.mg_link.specs.Exec.{IsSuccess, Runs, Sending, Stage, IsFirstTry}
use Rattle.mg_link.specs.Link.{Awaited, SendsNothing, LogTold}
use Rattle.mg_link.specs.Log.{Call, reply}
use Rattle.mg_link.specs.Session.{Session}
use Rattle.mg_link.specs.declared.action.Step.{Step}
use Rattle.mg_link.specs.declared.action.Step.TheVariants as step
use Rattle.mg_server.proofs.Calls.{RequestRan, request_ran, same_keeps, success_ran}
use Rattle.mg_exec.proofs.Execs.{runs_of}
use Rattle.mg_server.proofs.Pasts.{fails_anyhow}
use Rattle.mg_link.proofs.Waits.{waits_still}
use Rattle.mg_cursor.specs.Causes.{FliesMore, IsUnderway, NextCame, NextCaused, TellsNoCursor, UnderwayBy}
use Rattle.mg_cursor.specs.Client.{ClientCursor, IsAsking, IsSound, SoundBy, asks, get_more}
use Rattle.mg_cursor.specs.Polling.{Hears, PollsNext, ReadsReply, begins, broke, gave, goes_on, hands_out, is_over, not_built}
use Rattle.mg_cursor.specs.declared.polls.NextPoll.{NextPoll}
use Rattle.mg_cursor.proofs.Keeping.{IsPolled, polled_on}

module _ (new : Awaited) (past : Past) (now session : Option Session) (c : ClientCursor) where
  -- a reply to the getMore came
  read_came : (c' : ClientCursor) (bytes : List ℕ) (r : NextPoll) → HeardLast past (get_more c session) false (reply bytes) → IsSuccess bytes → ReadsReply c bytes c' r → NextCame new past now c c' r
  read_came c' bytes r heard success (gave said read is answer) =
      subst (NextCame new past now c c') (sym answer) (inr (record { session = session; heard = record { place = heard.place; heard = heard.heard }; success = success }))
  read_came c' bytes r heard success (broke e (inl no_memory) is answer) = subst (NextCame new past now c c') (sym answer) (inl (inl no_memory))
  read_came c' bytes r heard success (broke e (inr breaks) is answer) = subst (NextCame new past now c c') (sym answer) (inr (record { session = session; fails = was_broken bytes heard success breaks }))

  -- the getMore came to this
  heard_came : (old : Awaited) (log log' : LogTold) (wire : ℤ) (c' : ClientCursor) (sending : Sending) (came : Step Sending (List ℕ)) (r : NextPoll) → IsPolled c session sending → Runs old new log log' wire sending came → Came new past (get_more c session) false came → Hears c came c' r → NextCame new past now c c' r
  heard_came old log log' wire c' sending (step.Pending next) r is runs flies h =
      let w = waits_still old new log log' wire sending next is.single is.at runs in
      let on : IsUnderway new past (record c { doing = asks next }) = record { session = session; command_is = ap fields w.same_command ∙ is.command_is; flies = flies } in
      subst (NextCame new past now c c') (sym h.1) (subst (IsUnderway new past) (sym h.0) on)
  heard_came old log log' wire c' sending (step.Done bytes) r is runs heard h = read_came c' bytes r heard (success_ran old new log log' wire sending bytes runs) h
  heard_came old log log' wire c' sending (step.Failed e) r is runs fails h =
      subst (NextCame new past now c c') (sym h.1) (inr (record { session = session; fails = fails_anyhow past (get_more c session) false TellsNoCursor e fails }))

-- nothing was sent, and this is the cause
quiet_came : (old new : Awaited) (log log' : LogTold) (wire : ℤ) (now : Option Session) (c c' : ClientCursor) (r : NextPoll) → SendsNothing old new log log' → ((past : Past) → NextCame new past now c c' r) → NextCaused old new log log' wire now c c' r
quiet_came old new log log' wire now c c' r none came calls told places underway = (calls, none.log_same ∙ told, same_keeps calls, came (past_of places (length calls) calls wire))

-- a getMore was polled, which the call had sent in this session where it sent it before
polled_came : (old new : Awaited) (log log' : LogTold) (wire : ℤ) (now session : Option Session) (c c' : ClientCursor) (sending : Sending) (came : Step Sending (List ℕ)) (r : NextPoll) → IsPolled c session sending → Runs old new log log' wire sending came → Hears c came c' r → (calls : List Call) (told : log ≡ Some calls) (places : List ℕ)
    → RequestRan new places (length calls) calls log' wire (get_more c session) false came → (calls' : List Call) × (log' ≡ Some calls') × Keeps calls calls' × NextCame new (past_of places (length calls) calls' wire) now c c' r
polled_came old new log log' wire now session c c' sending came r is runs h calls told places ran =
    (ran.calls', ran.told, ran.grows.keeps, heard_came new (past_of places (length calls) ran.calls' wire) now session c old log log' wire c' sending came r is runs ran.came h)

pub next_caused : (old new : Awaited) (log log' : LogTold) (wire : ℤ) (now : Option Session) (started : Bool) (c c' : ClientCursor) (r : NextPoll) → IsSound false c → PollsNext old new log log' wire now started c c' r → NextCaused old new log log' wire now c c' r
next_caused old new log log' wire now started c c' r sound (hands_out bytes at none same is answer) =
    quiet_came old new log log' wire now c c' r none (λ past. subst (NextCame new past now c c') (sym answer) (inl at))
next_caused old new log log' wire now started c c' r sound (is_over at over none same is answer) =
    quiet_came old new log log' wire now c c' r none (λ past. subst (NextCame new past now c c') (sym answer) (at, over))
next_caused old new log log' wire now started c c' r sound (not_built at may e fails none same is answer) =
    quiet_came old new log log' wire now c c' r none (λ past. subst (NextCame new past now c c') (sym answer) (inl fails))
next_caused old new log log' wire now started c c' r sound (begins at may sending new_one asked) = λ calls told places underway.
    let is : IsPolled c now sending = record { command_is = new_one.command_is; single = new_one.single; at = subst IsFirstTry (sym new_one.new) tt; may = may } in
    let runs = runs_of old new log log' wire sending asked.came started asked.runs in
    let room : length calls ≤ length calls = omega arith in
    let flies = subst (λ (stage : Stage). Flies old (past_of places (length calls) calls wire) (get_more c now) stage) (sym new_one.new) tt in
    polled_came old new log log' wire now now c c' sending asked.came r is runs asked.hears calls told places
    (request_ran old new log log' wire sending (get_more c now) false asked.came is.command_is is.single runs calls told places (length calls) room flies)
next_caused old new log log' wire now started c c' r sound (goes_on sending at asked) = λ calls told places underway.
    let on : IsAsking false c sending = subst (SoundBy false c) at sound in
    let far : FliesMore old (past_of places (length calls) calls wire) c sending = subst (UnderwayBy old (past_of places (length calls) calls wire) c) at underway in
    let is : IsPolled c far.session sending = record { command_is = far.command_is; single = on.waits_on.single; at = (polled_on false c sending on).at; may = on.may } in
    let runs = runs_of old new log log' wire sending asked.came started asked.runs in
    let room : length calls ≤ length calls = omega arith in
    polled_came old new log log' wire now far.session c c' sending asked.came r is runs asked.hears calls told places
    (request_ran old new log log' wire sending (get_more c far.session) false asked.came is.command_is is.single runs calls told places (length calls) room far.flies)
