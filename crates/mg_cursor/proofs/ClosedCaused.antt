-- What the polls of a closing are caused by.
use Rattle.std.proofs.Common.{◌≡◌, ◌≢◌, ◌≤◌, ℕ, ℤ, false, List, length, Option, Some, None, refl, sym, ap, ◌∙◌, subst, inl, inr, arith}
use Rattle.mg_bson.specs.Raw.{fields}
use Rattle.mg_server.specs.Calls.{Came, Flies, Grows, HeardLast, Keeps, Past, past_of, was_broken}
use Rattle.mg_link.specs.Exec.{IsSuccess, Runs, Sending, Stage}
use Rattle.mg_link.specs.Link.{Awaited, SendsNothing, LogTold}
use Rattle.mg_link.specs.Log.{Call, reply}
use Rattle.mg_link.specs.Session.{Session}
use Rattle.mg_link.specs.declared.action.Step.{Step}
use Rattle.mg_link.specs.declared.action.Step.TheVariants as step
use Rattle.mg_link.specs.declared.error.Error.{Error}
use Rattle.mg_link.specs.declared.error.ErrorKind.TheVariants as kind
use Rattle.mg_server.proofs.Calls.{keeps_on, request_ran, same_keeps, success_ran}
use Rattle.mg_server.proofs.Pasts.{fails_anyhow, flies_grows, heard_by, heard_reply, request_fails_grows}
use Rattle.mg_link.proofs.Waits.{waits_still}
use Rattle.mg_cursor.specs.Causes.{FliesMore, HeardMore, MoreFails, TellsNoCursor}
use Rattle.mg_cursor.specs.Client.{ClientCursor, Doing, IsAsking, IsSound, MayAsk, SoundBy, asks, at_rest, get_more, kill}
use Rattle.mg_cursor.specs.Closing.{BehindFailure, BehindMore, ClosesBy, ClosingCame, ClosingCaused, ClosingCursor, ClosingPolls, ClosingUnderwayBy, IsClosing, IsClosingUnderway, IsKilling, IsLanded, KillHears, KillsCursor, LandedBy, LeftBy, begins, closed, given, goes_on, killed, kills, lands, not_built, not_given, not_killed, not_needed, nothing_left, out_of_memory, same}
use Rattle.mg_cursor.specs.Polling.{Hears, ReadsReply, broke, gave}
use Rattle.mg_cursor.specs.declared.polls.NextPoll.{NextPoll}
use Rattle.mg_cursor.proofs.Hearing.{behind_broken}
use Rattle.mg_cursor.proofs.Keeping.{IsPolled, polled_on}

-- ---- a later time

module _ (past past' : Past) (grows : Grows past past') (k : ClosingCursor) where
  pub left_grows : (c : ClientCursor) → LeftBy past k c → LeftBy past' k c
  left_grows c (same landed is) = same landed is
  left_grows c (given bytes said h says is) =
      given bytes said (record { session = h.session; heard = heard_reply past past' grows (get_more k.cursor h.session) bytes h.heard; success = h.success }) says is
  left_grows c (not_given e h room is) = not_given e (record { session = h.session; fails = request_fails_grows past past' grows (get_more k.cursor h.session) false TellsNoCursor e h.fails }) room is

-- the tickets are the same where nothing was sent
flies_on : (old new : Awaited) (log log' : LogTold) (past : Past) (c : ClientCursor) (session : Option Session) (stage : Stage) → SendsNothing old new log log' → Flies old past (get_more c session) stage → Flies new past (get_more c session) stage
flies_on old new log log' past c session stage none f = flies_grows past past (record { own = λ place call there own. own; keeps = same_keeps past.calls; wire = refl }) old new (get_more c session) stage (λ n held. none.rest n) f

-- ---- the killing

-- a poll of the closing, of a call that had sent at these places, and from this one on
abbrev Killed : Awaited → LogTold → ℤ → ClosingCursor → List Call → List ℕ → ℕ → Step ClosingCursor (Unit {0}) → Type 0
Killed new log' wire k calls places since r = (calls' : List Call) × (log' ≡ Some calls') × Keeps calls calls' × ClosingCame new (past_of places since calls' wire) k r

module _ (new : Awaited) (past : Past) (k : ClosingCursor) (c : ClientCursor) (left : LeftBy past k c) (may : MayAsk c) where
  -- the killCursors came to this
  pub kill_came : (old : Awaited) (log log' : LogTold) (wire : ℤ) (sending : Sending) (came : Step Sending (List ℕ)) (r : Step ClosingCursor (Unit {0})) → Runs old new log log' wire sending came → Came new past (kill c) false came → KillHears c came r → ClosingCame new past k r
  kill_came old log log' wire sending (step.Pending waiting) r runs came h = subst (ClosingCame new past k) (sym h) (came, inr left)
  kill_came old log log' wire sending (step.Done bytes) r runs came h =
      subst (ClosingCame new past k) (sym h) (killed c left may bytes (heard_by past (kill c) false (reply bytes) came) (success_ran old new log log' wire sending bytes runs))
  kill_came old log log' wire sending (step.Failed e) r runs came h = subst (ClosingCame new past k) (sym h) (not_killed c left may (inl came))

pub kills_caused : (old new : Awaited) (log log' : LogTold) (wire : ℤ) (k : ClosingCursor) (c : ClientCursor) (r : Step ClosingCursor (Unit {0})) (calls : List Call) (places : List ℕ) (since : ℕ) → log ≡ Some calls → since ≤ length calls → LeftBy (past_of places since calls wire) k c → KillsCursor old new log log' wire c r → Killed new log' wire k calls places since r
kills_caused old new log log' wire k c r calls places since told room left (nothing_left over none is) =
    (calls, none.log_same ∙ told, same_keeps calls, subst (ClosingCame new (past_of places since calls wire) k) (sym is) (not_needed c left over))
kills_caused old new log log' wire k c r calls places since told room left (not_built may e (inl memory) none is) =
    (calls, none.log_same ∙ told, same_keeps calls, subst (ClosingCame new (past_of places since calls wire) k) (sym is) (out_of_memory (ap (λ (x : Error). x.kind) memory)))
kills_caused old new log log' wire k c r calls places since told room left (not_built may e (inr cannot) none is) =
    (calls, none.log_same ∙ told, same_keeps calls, subst (ClosingCame new (past_of places since calls wire) k) (sym is) (not_killed c left may (inr cannot)))
kills_caused old new log log' wire k c r calls places since told room left (kills may sending new_one runs) =
    let flies = subst (λ (stage : Stage). Flies old (past_of places since calls wire) (kill c) stage) (sym new_one.new) tt in
    let ran = request_ran old new log log' wire sending (kill c) false runs.came new_one.command_is new_one.single runs.runs calls told places since room flies in
    let past' : Past = past_of places since ran.calls' wire in
    (ran.calls', ran.told, ran.grows.keeps, kill_came new past' k c (left_grows (past_of places since calls wire) past' ran.grows k c left) may old log log' wire sending runs.came r runs.runs ran.came runs.hears)

-- ---- the getMore that ends first

module _ (mid new : Awaited) (log_mid log' : LogTold) (wire : ℤ) (k : ClosingCursor) (calls : List Call) (places : List ℕ) (since : ℕ) (told : log_mid ≡ Some calls) (room : since ≤ length calls) where
  -- the call behind the getMore
  abbrev behind_more : Past
  behind_more = past_of places since calls wire

  -- it failed, and left this
  failed_landed : (left : ClientCursor) (e : Error) (r : Step ClosingCursor (Unit {0})) → (e.kind ≢ kind.OutOfMemory → LeftBy behind_more k left) → BehindFailure mid new log_mid log' wire left e r → Killed new log' wire k calls places since r
  failed_landed left e r leaves (inl memory) =
      (calls, memory.1.log_same ∙ told, same_keeps calls, subst (ClosingCame new behind_more k) (sym memory.2) (out_of_memory memory.0))
  failed_landed left e r leaves (inr other) = kills_caused mid new log_mid log' wire k left r calls places since told room (leaves other.0) other.1

  -- a reply came
  read_landed : (session : Option Session) (bytes : List ℕ) (left : ClientCursor) (p : NextPoll) (r : Step ClosingCursor (Unit {0})) → HeardLast behind_more (get_more k.cursor session) false (reply bytes) → IsSuccess bytes → ReadsReply k.cursor bytes left p → BehindMore mid new log_mid log' wire left p r → Killed new log' wire k calls places since r
  read_landed session bytes left p r h success (gave said says is answer) behind =
      let more : HeardMore behind_more k.cursor bytes = record { session = session; heard = heard_by behind_more (get_more k.cursor session) false (reply bytes) h; success = success } in
      kills_caused mid new log_mid log' wire k left r calls places since told room (given bytes said more says is) (subst (λ (x : NextPoll). BehindMore mid new log_mid log' wire left x r) answer behind)
  read_landed session bytes left p r h success (broke e (inl memory) is answer) behind =
      failed_landed left e r (λ other. absurd (other (ap (λ (x : Error). x.kind) memory))) (subst (λ (x : NextPoll). BehindMore mid new log_mid log' wire left x r) answer behind)
  read_landed session bytes left p r h success (broke e (inr breaks) is answer) behind =
      let fails : MoreFails behind_more k.cursor e = record { session = session; fails = was_broken bytes h success breaks } in
      failed_landed left e r (λ other. not_given e fails other (is ∙ sym (behind_broken (fields bytes) e k.cursor breaks))) (subst (λ (x : NextPoll). BehindMore mid new log_mid log' wire left x r) answer behind)

  -- the getMore came to this
  more_landed : (old : Awaited) (log : LogTold) (session : Option Session) (sending : Sending) (came : Step Sending (List ℕ)) (left : ClientCursor) (p : NextPoll) (r : Step ClosingCursor (Unit {0})) → IsPolled k.cursor session sending → Runs old mid log log_mid wire sending came → Came mid behind_more (get_more k.cursor session) false came → Hears k.cursor came left p
      → BehindMore mid new log_mid log' wire left p r → Killed new log' wire k calls places since r
  more_landed old log session sending (step.Pending waiting) left p r is runs came h behind =
      let waits = waits_still old mid log log_mid wire sending waiting is.single is.at runs in
      let at = subst (λ (x : NextPoll). BehindMore mid new log_mid log' wire left x r) h.1 behind in
      let on : ClientCursor = record k.cursor { doing = asks waiting } in
      let flies : FliesMore new behind_more on waiting = record { session = session; command_is = ap fields waits.same_command ∙ is.command_is; flies = flies_on mid new log_mid log' behind_more k.cursor session waiting.stage at.0 came } in
      (calls, at.0.log_same ∙ told, same_keeps calls, subst (ClosingCame new behind_more k) (sym at.1) (subst (λ (x : ClientCursor). ClosingCame new behind_more k (step.Pending (closed x))) (sym h.0) (flies, inl refl)))
  more_landed old log session sending (step.Done bytes) left p r is runs came h behind = read_landed session bytes left p r came (success_ran old mid log log_mid wire sending bytes runs) h behind
  more_landed old log session sending (step.Failed e) left p r is runs came h behind =
      let fails : MoreFails behind_more k.cursor e = record { session = session; fails = fails_anyhow behind_more (get_more k.cursor session) false TellsNoCursor e came } in
      failed_landed left e r (λ other. not_given e fails other h.0) (subst (λ (x : NextPoll). BehindMore mid new log_mid log' wire left x r) h.1 behind)

-- ---- a poll

-- the parts of a closing, by what is on its way
underway_as : (awaited : Awaited) (past : Past) (k : ClosingCursor) (o : Option Sending) → k.killing ≡ o → IsClosingUnderway awaited past k → ClosingUnderwayBy awaited past k.cursor o k.cursor.doing
underway_as awaited past k o is h = subst (λ (x : Option Sending). ClosingUnderwayBy awaited past k.cursor x k.cursor.doing) is h

closing_as : (k : ClosingCursor) (o : Option Sending) → k.killing ≡ o → IsClosing k → ClosesBy k.cursor o
closing_as k o is h = subst (ClosesBy k.cursor) is h

landed_as : (k : ClosingCursor) (o : Option Sending) → k.killing ≡ o → LandedBy o k.cursor.doing → IsLanded k
landed_as k o is h = subst (λ (x : Option Sending). LandedBy x k.cursor.doing) (sym is) h

pub closing_caused : (old new : Awaited) (log log' : LogTold) (wire : ℤ) (k : ClosingCursor) (r : Step ClosingCursor (Unit {0})) → IsClosing k → ClosingPolls old new log log' wire k r → ClosingCaused old new log log' wire k r
closing_caused old new log log' wire k r closing (lands none sending at h) = λ calls told places underway.
    let past : Past = past_of places (length calls) calls wire in
    let sound : IsSound false k.cursor = closing_as k None none closing in
    let on : IsAsking false k.cursor sending = subst (SoundBy false k.cursor) at sound in
    let far : FliesMore old past k.cursor sending = subst (λ (d : Doing). ClosingUnderwayBy old past k.cursor None d) at (underway_as old past k None none underway) in
    let is : IsPolled k.cursor far.session sending = record { command_is = far.command_is; single = on.waits_on.single; at = (polled_on false k.cursor sending on).at; may = on.may } in
    let start : length calls ≤ length calls = omega arith in
    let ran = request_ran old h.between log h.log_between wire sending (get_more k.cursor far.session) false h.came is.command_is is.single h.runs calls told places (length calls) start far.flies in
    let x = more_landed h.between new h.log_between log' wire k ran.calls' places (length calls) ran.told ran.room old log far.session sending h.came h.left h.poll r is h.runs ran.came h.hears h.behind in
    (x.0, x.1, keeps_on calls ran.calls' x.0 ran.grows.keeps x.2, x.3)
closing_caused old new log log' wire k r closing (begins none not kills_it) = λ calls told places underway.
    let start : length calls ≤ length calls = omega arith in
    kills_caused old new log log' wire k (at_rest k.cursor) r calls places (length calls) told start (same (landed_as k None none not) refl) kills_it
closing_caused old new log log' wire k r closing (goes_on sending at runs) = λ calls told places underway.
    let past : Past = past_of places (length calls) calls wire in
    let on : IsKilling k.cursor sending = closing_as k (Some sending) at closing in
    let flies : Flies old past (kill k.cursor) sending.stage = underway_as old past k (Some sending) at underway in
    let start : length calls ≤ length calls = omega arith in
    let ran = request_ran old new log log' wire sending (kill k.cursor) false runs.came on.waits_on.command_is on.waits_on.single runs.runs calls told places (length calls) start flies in
    let past' : Past = past_of places (length calls) ran.calls' wire in
    let left : LeftBy past' k (at_rest k.cursor) = same (landed_as k (Some sending) at tt) refl in
    let may : MayAsk (at_rest k.cursor) = record { held = on.may.held; reached = on.may.reached } in
    (ran.calls', ran.told, ran.grows.keeps, on_its_way old new log log' wire k sending runs.came r past' left may runs.runs ran.came runs.hears)
  where
    -- a killCursors that pends is that of the same cursor
    on_its_way : (old new : Awaited) (log log' : LogTold) (wire : ℤ) (k : ClosingCursor) (sending : Sending) (came : Step Sending (List ℕ)) (r : Step ClosingCursor (Unit {0})) (past : Past) → LeftBy past k (at_rest k.cursor) → MayAsk (at_rest k.cursor) → Runs old new log log' wire sending came → Came new past (kill k.cursor) false came → KillHears k.cursor came r → ClosingCame new past k r
    on_its_way old new log log' wire k sending (step.Pending waiting) r past left may runs came h = subst (ClosingCame new past k) (sym h) (came, inl refl)
    on_its_way old new log log' wire k sending (step.Done bytes) r past left may runs came h = kill_came new past k (at_rest k.cursor) left may old log log' wire sending (step.Done bytes) r runs came h
    on_its_way old new log log' wire k sending (step.Failed e) r past left may runs came h = kill_came new past k (at_rest k.cursor) left may old log log' wire sending (step.Failed e) r runs came h
