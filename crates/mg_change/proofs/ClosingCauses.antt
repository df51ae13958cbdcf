-- What the answers of a closing are caused by.
use Rattle.std.proofs.Common.{◌≡◌, ◌≢◌, ◌⊎◌, ◌≤◌, ◌++◌, ℕ, ℤ, pos, false, List, [], length, Option, Some, None, refl, sym, ap, ◌∙◌, subst, inl, inr, arith}
use Rattle.mg_bson.specs.Raw.{fields}
use Rattle.mg_bson.specs.Tree.{Fields}
use Rattle.mg_server.specs.Calls.{Came, Flies, Grows, HeardLast, Keeps, NoneBroken, Past, RequestFails, past_of, was_broken}
use Rattle.mg_link.specs.Exec.{IsSuccess, Runs, Sending, Stage}
use Rattle.mg_link.specs.Link.{Awaited, SendsNothing, LogTold}
use Rattle.mg_link.specs.Log.{Call, reply}
use Rattle.mg_link.specs.Namespace.{Space}
use Rattle.mg_link.specs.Session.{Session}
use Rattle.mg_link.specs.declared.action.Step.{Step}
use Rattle.mg_link.specs.declared.action.Step.TheVariants as step
use Rattle.mg_link.specs.declared.error.Error.{Error}
use Rattle.mg_link.specs.declared.error.ErrorKind.TheVariants as kind
use Rattle.mg_server.proofs.Calls.{keeps_longer, keeps_on, request_ran, same_keeps, success_ran}
use Rattle.mg_server.proofs.Pasts.{fails_anyhow, flies_grows, heard_by, heard_reply, last_reply, request_fails_grows}
use Rattle.mg_ops.specs.Commands.{kill_command}
use Rattle.mg_ops.specs.Failing.{CannotBeSent}
use Rattle.mg_cursor.specs.Causes.{FliesMore, HeardMore, MoreFails, TellsNoCursor}
use Rattle.mg_cursor.specs.Client.{ClientCursor, IsAsking, asks, at_rest, get_more, holds, kill, rests}
use Rattle.mg_cursor.specs.Client as cursors
use Rattle.mg_cursor.specs.Closing.{ClosingCame, ClosingCursor, ClosingUnderwayBy, IsNotAsking}
use Rattle.mg_cursor.specs.Polling.{Hears, ReadsReply, broke, gave}
use Rattle.mg_cursor.specs.declared.polls.NextPoll.{NextPoll}
use Rattle.mg_cursor.proofs.ClosedCaused.{closing_caused as cursor_caused}
use Rattle.mg_cursor.proofs.Hearing.{behind_broken}
use Rattle.mg_change.specs.ClientStreams.{ClientStream}
use Rattle.mg_change.specs.ClosingCauses as causes
use Rattle.mg_change.specs.ClosingCauses.{AggregateLeft, ClosingCaused, IsUnderway, LastBy, LastDone, LastFails, LastSoFar, LeftBy, MoreLeft, UnderwayBy, UnderwayByCursor, last_ids, last_kill, none_held, was_killed}
use Rattle.mg_change.specs.ClosingStreams.{BehindAggregate, BehindMore, BehindReplaced, BehindOpening, ClosesStream, ClosingStream, HearsKill, IsLanding, IsSoundClosing, KillsLeft, Landing, LandsSoundly, PassesOver, RunsKill, begins, ends, goes_on, ids_left, kill_left, kills_all, landing_ticket, lands, lands_aggregate, lands_closing, lands_more, lands_replaced, lands_opening, not_built, nothing_left, opened_none, opened_one, stream_closing_ticket, unless_none}
use Rattle.mg_change.proofs.Garbled.{still_waits}
use Rattle.mg_change.proofs.Growing.{closing_done_grows, closing_fails_grows, heard_more_grows, more_fails_grows}

-- ---- a later time

module _ (past past' : Past) (grows : Grows past past') (k : ClosingStream) where
  more_left_grows : (c : ClientCursor) → MoreLeft past k.cursor c → MoreLeft past' k.cursor c
  more_left_grows c (causes.not_given e h room is) = causes.not_given e (more_fails_grows past past' grows k.cursor e h) room is
  more_left_grows c (causes.given bytes said h says is) = causes.given bytes said (heard_more_grows past past' grows k.cursor bytes h) says is

  aggregate_grows : (sending : Sending) (left : ClosingStream) → AggregateLeft past sending k left → AggregateLeft past' sending k left
  aggregate_grows sending left (causes.opened_none e h room is) = causes.opened_none e (request_fails_grows past past' grows (fields sending.command) sending.retries TellsNoCursor e h) room is
  aggregate_grows sending left (causes.opened_one bytes said h success says is) = causes.opened_one bytes said (last_reply past past' grows (fields sending.command) sending.retries bytes h) success says is

  left_grows : (left : ClosingStream) → LeftBy past k left → LeftBy past' k left
  left_grows left (causes.same at quiet is) = causes.same at quiet is
  left_grows left (causes.more at c why is) = causes.more at c (more_left_grows c why) is
  left_grows left (causes.aggregate sending at why) = causes.aggregate sending at (aggregate_grows sending left why)
  left_grows left (causes.replaced before at (inl h) is) = causes.replaced before at (inl (closing_done_grows past past' grows before h)) is
  left_grows left (causes.replaced before at (inr h) is) = causes.replaced before at (inr (h.0, closing_fails_grows past past' grows before h.0 h.1, h.2)) is
  left_grows left (causes.killing sending at is) = causes.killing sending at is

-- nothing was sent: what is on its way has come as far
module _ (old new : Awaited) (log log' : LogTold) (past : Past) (nothing : SendsNothing old new log log') where
  flies_on : (command : Fields) (stage : Stage) → Flies old past command stage → Flies new past command stage
  flies_on command stage f = flies_grows past past (record { own = λ place call there own. own; keeps = same_keeps past.calls; wire = refl }) old new command stage (λ n held. nothing.rest n) f

  closing_on : (c : ClientCursor) (killing : Option Sending) (d : cursors.Doing) → ClosingUnderwayBy old past c killing d → ClosingUnderwayBy new past c killing d
  closing_on c (Some sending) d h = flies_on (kill c) sending.stage h
  closing_on c None rests h = tt
  closing_on c None (holds bytes) h = tt
  closing_on c None (asks sending) h = record { session = h.session; command_is = h.command_is; flies = flies_on (get_more c h.session) sending.stage h.flies }

-- ---- the killing

-- a poll of the closing, of a call that had sent at these places, and from this one on
abbrev Ended : Awaited → LogTold → ℤ → ClosingStream → List Call → List ℕ → ℕ → Step ClosingStream (Unit {0}) → Type 0
Ended new log' wire k calls places since r = (calls' : List Call) × (log' ≡ Some calls') × Keeps calls calls' × causes.ClosingCame new (past_of places since calls' wire) k r

module _ (new : Awaited) (past : Past) (k left : ClosingStream) (token_is : left.token ≡ k.token) (why : LeftBy past k left) (some : ids_left left ≢ []) where
  -- the killCursors came to this
  kill_came : (old : Awaited) (log log' : LogTold) (wire : ℤ) (sending : Sending) (came : Step Sending (List ℕ)) (r : Step ClosingStream (Unit {0})) → Runs old new log log' wire sending came → Came new past (kill_left left) false came → HearsKill left came r → causes.ClosingCame new past k r
  kill_came old log log' wire sending (step.Pending waiting) r runs came h = subst (causes.ClosingCame new past k) (sym h) (record { underway = came; token_is = token_is; cursor_by = inr (left, why, refl, refl) })
  kill_came old log log' wire sending (step.Done bytes) r runs came h =
      subst (causes.ClosingCame new past k) (sym h) (causes.killed left why some bytes (heard_by past (kill_left left) false (reply bytes) came) (success_ran old new log log' wire sending bytes runs))
  kill_came old log log' wire sending (step.Failed e) r runs came h = subst (causes.ClosingCame new past k) (sym h) (causes.not_killed left why some (inl came))

module _ (mid new : Awaited) (between log' : LogTold) (wire : ℤ) (k : ClosingStream) (r : Step ClosingStream (Unit {0})) (calls : List Call) (places : List ℕ) (since : ℕ) (told : between ≡ Some calls) (room : since ≤ length calls) where
  -- nothing is sent any more
  quiet_ended : (x : Step ClosingStream (Unit {0})) → SendsNothing mid new between log' → r ≡ x → causes.ClosingCame new (past_of places since calls wire) k x → Ended new log' wire k calls places since r
  quiet_ended x nothing answer came = (calls, nothing.log_same ∙ told, same_keeps calls, subst (causes.ClosingCame new (past_of places since calls wire) k) (sym answer) came)

  kills_caused : (left : ClosingStream) → left.token ≡ k.token → LeftBy (past_of places since calls wire) k left → KillsLeft mid new between log' wire left r → Ended new log' wire k calls places since r
  kills_caused left token_is why (nothing_left none nothing answer) = quiet_ended (step.Done tt) nothing answer (causes.nothing_left left why none)
  kills_caused left token_is why (not_built some e (inl memory) nothing answer) = quiet_ended (step.Failed e) nothing answer (causes.out_of_memory (ap (λ (x : Error). x.kind) memory))
  kills_caused left token_is why (not_built some e (inr cannot) nothing answer) = quiet_ended (step.Failed e) nothing answer (causes.not_killed left why some (inr cannot))
  kills_caused left token_is why (kills_all some sending new_one h) =
      let past : Past = past_of places since calls wire in
      let flies = subst (λ (stage : Stage). Flies mid past (kill_left left) stage) (sym new_one.new) tt in
      let ran = request_ran mid new between log' wire sending (kill_left left) false h.came new_one.command_is new_one.single h.runs calls told places since room flies in
      let past' : Past = past_of places since ran.calls' wire in
      (ran.calls', ran.told, ran.grows.keeps, kill_came new past' k left token_is (left_grows past past' ran.grows k left why) some mid between log' wire sending h.came r h.runs ran.came h.hears)

  passes_caused : (left : ClosingStream) (e : Error) → left.token ≡ k.token → (e.kind ≢ kind.OutOfMemory → LeftBy (past_of places since calls wire) k left) → PassesOver mid new between log' wire left e r → Ended new log' wire k calls places since r
  passes_caused left e token_is why (inl memory) = quiet_ended (step.Failed e) memory.1 memory.2 (causes.out_of_memory memory.0)
  passes_caused left e token_is why (inr other) = kills_caused left token_is (why other.0) other.1

  -- ---- the getMore of its cursor

  more_read : k.doing ≡ lands → (session : Option Session) (bytes : List ℕ) (left : ClientCursor) (poll : NextPoll) → HeardLast (past_of places since calls wire) (get_more k.cursor session) false (reply bytes) → IsSuccess bytes → ReadsReply k.cursor bytes left poll → BehindMore mid new between log' wire (record k { cursor = left }) poll r
      → Ended new log' wire k calls places since r
  more_read at session bytes left poll heard success (gave said says is answer) behind =
      let past : Past = past_of places since calls wire in
      let its : HeardMore past k.cursor bytes = record { session = session; heard = heard_by past (get_more k.cursor session) false (reply bytes) heard; success = success } in
      kills_caused (record k { cursor = left }) refl (causes.more at left (causes.given bytes said its says is) refl) (subst (λ (x : NextPoll). BehindMore mid new between log' wire (record k { cursor = left }) x r) answer behind)
  more_read at session bytes left poll heard success (broke e (inl memory) is answer) behind =
      passes_caused (record k { cursor = left }) e refl (λ room. absurd (room (ap (λ (x : Error). x.kind) memory))) (subst (λ (x : NextPoll). BehindMore mid new between log' wire (record k { cursor = left }) x r) answer behind)
  more_read at session bytes left poll heard success (broke e (inr breaks) is answer) behind =
      let past : Past = past_of places since calls wire in
      let fails : MoreFails past k.cursor e = record { session = session; fails = was_broken bytes heard success breaks } in
      passes_caused (record k { cursor = left }) e refl (λ room. causes.more at left (causes.not_given e fails room (is ∙ sym (behind_broken (fields bytes) e k.cursor breaks))) refl)
      (subst (λ (x : NextPoll). BehindMore mid new between log' wire (record k { cursor = left }) x r) answer behind)

  more_landed : k.doing ≡ lands → (old : Awaited) (log : LogTold) (session : Option Session) (sending : Sending) → fields sending.command ≡ get_more k.cursor session → (came : Step Sending (List ℕ)) (left : ClientCursor) (poll : NextPoll) → Runs old mid log between wire sending came → Came mid (past_of places since calls wire) (get_more k.cursor session) false came
      → Hears k.cursor came left poll → BehindMore mid new between log' wire (record k { cursor = left }) poll r → Ended new log' wire k calls places since r
  more_landed at old log session sending command_is (step.Pending waiting) left poll runs came h behind =
      let past : Past = past_of places since calls wire in
      let c : ClientCursor = record k.cursor { doing = asks waiting } in
      let pends = subst (λ (x : NextPoll). BehindMore mid new between log' wire (record k { cursor = left }) x r) h.1 behind in
      let still = still_waits old mid log between wire sending waiting runs in
      let flies : FliesMore new past c waiting = record { session = session; command_is = ap fields still.same_command ∙ command_is; flies = flies_on mid new between log' past pends.0 (get_more k.cursor session) waiting.stage came } in
      let underway : IsUnderway new past (record k { cursor = c }) = subst (UnderwayBy new past (record k { cursor = c })) (sym at) flies in
      quiet_ended (step.Pending (record k { cursor = left })) pends.0 pends.1
      (subst (λ (x : ClientCursor). causes.ClosingCame new past k (step.Pending (record k { cursor = x }))) (sym h.0) (record { underway = underway; token_is = refl; cursor_by = inl refl }))
  more_landed at old log session sending command_is (step.Done bytes) left poll runs came h behind = more_read at session bytes left poll came (success_ran old mid log between wire sending bytes runs) h behind
  more_landed at old log session sending command_is (step.Failed e) left poll runs came h behind =
      let past : Past = past_of places since calls wire in
      let fails : MoreFails past k.cursor e = record { session = session; fails = fails_anyhow past (get_more k.cursor session) false TellsNoCursor e came } in
      passes_caused (record k { cursor = left }) e refl (λ room. causes.more at left (causes.not_given e fails room h.0) refl) (subst (λ (x : NextPoll). BehindMore mid new between log' wire (record k { cursor = left }) x r) h.1 behind)

  -- ---- the aggregate of a resumption

  opening_read : (sending : Sending) → k.doing ≡ lands_aggregate sending → (bytes : List ℕ) → HeardLast (past_of places since calls wire) (fields sending.command) sending.retries (reply bytes) → IsSuccess bytes → BehindOpening mid new between log' wire k bytes r → Ended new log' wire k calls places since r
  opening_read sending at bytes heard success (opened_one said says killing) =
      kills_caused (record k { opened = said.id; doing = lands }) refl (causes.aggregate sending at (causes.opened_one bytes said heard success says refl)) killing
  opening_read sending at bytes heard success (opened_none e (inl memory) passes) = passes_caused (record k { doing = lands }) e refl (λ room. absurd (room (ap (λ (x : Error). x.kind) memory))) passes
  opening_read sending at bytes heard success (opened_none e (inr breaks) passes) =
      passes_caused (record k { doing = lands }) e refl (λ room. causes.aggregate sending at (causes.opened_none e (was_broken bytes heard success breaks) room refl)) passes

  aggregate_landed : (old : Awaited) (log : LogTold) (sending : Sending) → k.doing ≡ lands_aggregate sending → (came : Step Sending (List ℕ)) → Runs old mid log between wire sending came → Came mid (past_of places since calls wire) (fields sending.command) sending.retries came → BehindAggregate mid new between log' wire k came r → Ended new log' wire k calls places since r
  aggregate_landed old log sending at (step.Pending waiting) runs came h =
      let past : Past = past_of places since calls wire in
      let same = ap fields (still_waits old mid log between wire sending waiting runs).same_command in
      quiet_ended (step.Pending (record k { doing = lands_aggregate waiting })) h.0 h.1
      (record { underway = flies_on mid new between log' past h.0 (fields waiting.command) waiting.stage (subst (λ (c : Fields). Flies mid past c waiting.stage) (sym same) came); token_is = refl; cursor_by = inl refl })
  aggregate_landed old log sending at (step.Done bytes) runs came h = opening_read sending at bytes came (success_ran old mid log between wire sending bytes runs) h
  aggregate_landed old log sending at (step.Failed e) runs came h =
      passes_caused (record k { doing = lands }) e refl
      (λ room. causes.aggregate sending at (causes.opened_none e (fails_anyhow (past_of places since calls wire) (fields sending.command) sending.retries TellsNoCursor e came) room refl)) h

  -- ---- the closing of the cursor before

  older_landed : (before : ClosingCursor) → k.doing ≡ lands_replaced before → (came : Step ClosingCursor (Unit {0})) → ClosingCame mid (past_of places since calls wire) before came → BehindReplaced mid new between log' wire k came r → Ended new log' wire k calls places since r
  older_landed before at (step.Pending waiting) came h =
      quiet_ended (step.Pending (record k { doing = lands_replaced waiting })) h.0 h.1
      (record { underway = closing_on mid new between log' (past_of places since calls wire) h.0 waiting.cursor waiting.killing waiting.cursor.doing came.0; token_is = refl; cursor_by = inl refl })
  older_landed before at (step.Done t) came h = kills_caused (record k { doing = lands }) refl (causes.replaced before at (inl came) refl) h
  older_landed before at (step.Failed e) came h = passes_caused (record k { doing = lands }) e refl (λ room. causes.replaced before at (inr (e, came, room)) refl) h

-- ---- a poll

underway_as : (awaited : Awaited) (past : Past) (k : ClosingStream) (d : Landing) → k.doing ≡ d → IsUnderway awaited past k → UnderwayBy awaited past k d
underway_as awaited past k d is h = subst (UnderwayBy awaited past k) is h

-- a killCursors that was on its way
going_came : (old new : Awaited) (log log' : LogTold) (wire : ℤ) (past : Past) (k : ClosingStream) (sending : Sending) → k.doing ≡ ends sending → ids_left k ≢ [] → (came : Step Sending (List ℕ)) (r : Step ClosingStream (Unit {0})) → Runs old new log log' wire sending came → Came new past (kill_left k) false came → HearsKill k came r → causes.ClosingCame new past k r
going_came old new log log' wire past k sending at some (step.Pending waiting) r runs came h = subst (causes.ClosingCame new past k) (sym h) (record { underway = came; token_is = refl; cursor_by = inl refl })
going_came old new log log' wire past k sending at some (step.Done bytes) r runs came h = kill_came new past k k refl (causes.killing sending at refl) some old log log' wire sending (step.Done bytes) r runs came h
going_came old new log log' wire past k sending at some (step.Failed e) r runs came h = kill_came new past k k refl (causes.killing sending at refl) some old log log' wire sending (step.Failed e) r runs came h

pub closing_caused : (old new : Awaited) (log log' : LogTold) (wire : ℤ) (k : ClosingStream) (r : Step ClosingStream (Unit {0})) → IsSoundClosing k → ClosesStream old new log log' wire k r → ClosingCaused old new log log' wire k r
closing_caused old new log log' wire k r sound (begins at quiet h) = λ calls told places underway.
    let start : length calls ≤ length calls = omega arith in
    kills_caused old new log log' wire k r calls places (length calls) told start (record k { cursor = at_rest k.cursor }) refl (causes.same at quiet refl) h
closing_caused old new log log' wire k r sound (lands_more at sending asks_so b came left poll runs hears behind) = λ calls told places underway.
    let past : Past = past_of places (length calls) calls wire in
    let landing : IsLanding k = subst (LandsSoundly k) at sound in
    let on : IsAsking false k.cursor sending = subst (cursors.SoundBy false k.cursor) asks_so landing.asks_its_own in
    let far : FliesMore old past k.cursor sending = subst (UnderwayByCursor old past k.cursor) asks_so (underway_as old past k lands at underway) in
    let start : length calls ≤ length calls = omega arith in
    let ran = request_ran old b.awaited log b.log wire sending (get_more k.cursor far.session) false came far.command_is on.waits_on.single runs calls told places (length calls) start far.flies in
    let x = more_landed b.awaited new b.log log' wire k r ran.calls' places (length calls) ran.told ran.room at old log far.session sending far.command_is came left poll runs ran.came hears behind in
    (x.0, x.1, keeps_on calls ran.calls' x.0 ran.grows.keeps x.2, x.3)
closing_caused old new log log' wire k r sound (lands_opening sending at b came runs behind) = λ calls told places underway.
    let past : Past = past_of places (length calls) calls wire in
    let start : length calls ≤ length calls = omega arith in
    let ran = request_ran old b.awaited log b.log wire sending (fields sending.command) sending.retries came refl refl runs calls told places (length calls) start (underway_as old past k (lands_aggregate sending) at underway) in
    let x = aggregate_landed b.awaited new b.log log' wire k r ran.calls' places (length calls) ran.told ran.room old log sending at came runs ran.came behind in
    (x.0, x.1, keeps_on calls ran.calls' x.0 ran.grows.keeps x.2, x.3)
closing_caused old new log log' wire k r sound (lands_closing before at b came polls behind) = λ calls told places underway.
    let past : Past = past_of places (length calls) calls wire in
    let parts = subst (LandsSoundly k) at sound in
    let ran = cursor_caused old b.awaited log b.log wire before came parts.1 polls calls told places (underway_as old past k (lands_replaced before) at underway) in
    let longer = keeps_longer calls ran.0 ran.2 in
    let x = older_landed b.awaited new b.log log' wire k r ran.0 places (length calls) ran.1 longer before at came ran.3 behind in
    (x.0, x.1, keeps_on calls ran.0 x.0 ran.2 x.2, x.3)
closing_caused old new log log' wire k r sound (goes_on sending at h) = λ calls told places underway.
    let past : Past = past_of places (length calls) calls wire in
    let parts = subst (LandsSoundly k) at sound in
    let start : length calls ≤ length calls = omega arith in
    let ran = request_ran old new log log' wire sending (kill_left k) false h.came parts.1.command_is parts.1.single h.runs calls told places (length calls) start (underway_as old past k (ends sending) at underway) in
    (ran.calls', ran.told, ran.grows.keeps, going_came old new log log' wire (past_of places (length calls) ran.calls' wire) k sending at parts.2 h.came r h.runs ran.came h.hears)

-- ---- the closing of a stream at rest

-- what is left of it is what its stream left
last_same : (awaited : Awaited) (past : Past) (last : ClientStream) (k : ClosingStream) → LastSoFar awaited past last k → ids_left k ≡ last_ids last
last_same awaited past last k so = ap (λ (x : ℤ). unless_none x ++ unless_none k.opened) so.id_is ∙ ap (λ (x : ℤ). unless_none last.cursor.id ++ unless_none x) so.none_opened

kill_same : (awaited : Awaited) (past : Past) (last : ClientStream) (k : ClosingStream) → LastSoFar awaited past last k → kill_left k ≡ last_kill last
kill_same awaited past last k so = ap (λ (s : Space). kill_command s (ids_left k)) so.space_is ∙ ap (λ (ids : List ℤ). kill_command last.cursor.space ids) (last_same awaited past last k so)

-- what a poll of it comes to
abbrev pub LastCame : Awaited → Past → ClientStream → Step ClosingStream (Unit {0}) → Type 0
LastCame awaited past last (step.Pending k) = LastSoFar awaited past last k
LastCame awaited past last (step.Done t) = LastDone past last
LastCame awaited past last (step.Failed e) = LastFails past last e

module _ (old new : Awaited) (log log' : LogTold) (wire : ℤ) (last : ClientStream) (k : ClosingStream) (r : Step ClosingStream (Unit {0})) (ids_are : ids_left k ≡ last_ids last) (kill_is : kill_left k ≡ last_kill last) where
  -- it is still the closing of this stream
  last_heard : (past : Past) (sending : Sending) → k.cursor.id ≡ last.cursor.id → k.cursor.space ≡ last.cursor.space → k.opened ≡ pos 0 → IsNotAsking k.cursor.doing → last_ids last ≢ [] → (came : Step Sending (List ℕ)) → Runs old new log log' wire sending came → Came new past (last_kill last) false came → HearsKill k came r → LastCame new past last r
  last_heard past sending id_is space_is none_opened quiet some (step.Pending waiting) runs came h =
      subst (LastCame new past last) (sym h) (record { id_is = id_is; space_is = space_is; none_opened = none_opened; quiet = quiet; by = (some, came) })
  last_heard past sending id_is space_is none_opened quiet some (step.Done bytes) runs came h =
      subst (LastCame new past last) (sym h) (was_killed some bytes (heard_by past (last_kill last) false (reply bytes) came) (success_ran old new log log' wire sending bytes runs))
  last_heard past sending id_is space_is none_opened quiet some (step.Failed e) runs came h = subst (LastCame new past last) (sym h) (record { some_left = some; why = inr (inl came) })

  last_ran : k.cursor.id ≡ last.cursor.id → k.cursor.space ≡ last.cursor.space → k.opened ≡ pos 0 → IsNotAsking k.cursor.doing → last_ids last ≢ [] → (sending : Sending) → fields sending.command ≡ kill_left k → sending.retries ≡ false → RunsKill old new log log' wire k sending r
      → (calls : List Call) → log ≡ Some calls → (places : List ℕ) → Flies old (past_of places (length calls) calls wire) (last_kill last) sending.stage → (calls' : List Call) × (log' ≡ Some calls') × Keeps calls calls' × LastCame new (past_of places (length calls) calls' wire) last r
  last_ran id_is space_is none_opened quiet some sending command_is single h calls told places flies =
      let start : length calls ≤ length calls = omega arith in
      let ran = request_ran old new log log' wire sending (last_kill last) false h.came (command_is ∙ kill_is) single h.runs calls told places (length calls) start flies in
      (ran.calls', ran.told, ran.grows.keeps, last_heard (past_of places (length calls) ran.calls' wire) sending id_is space_is none_opened quiet some h.came h.runs ran.came h.hears)

  last_left : k.cursor.id ≡ last.cursor.id → k.cursor.space ≡ last.cursor.space → k.opened ≡ pos 0 → IsNotAsking k.cursor.doing → KillsLeft old new log log' wire k r
      → (calls : List Call) → log ≡ Some calls → (places : List ℕ) → (calls' : List Call) × (log' ≡ Some calls') × Keeps calls calls' × LastCame new (past_of places (length calls) calls' wire) last r
  last_left id_is space_is none_opened quiet (nothing_left none nothing answer) calls told places =
      (calls, nothing.log_same ∙ told, same_keeps calls, subst (LastCame new (past_of places (length calls) calls wire) last) (sym answer) (none_held (sym ids_are ∙ none)))
  last_left id_is space_is none_opened quiet (not_built some e (inl memory) nothing answer) calls told places =
      (calls, nothing.log_same ∙ told, same_keeps calls, subst (LastCame new (past_of places (length calls) calls wire) last) (sym answer) (record { some_left = λ none. some (ids_are ∙ none); why = inl (ap (λ (x : Error). x.kind) memory) }))
  last_left id_is space_is none_opened quiet (not_built some e (inr cannot) nothing answer) calls told places =
      (calls, nothing.log_same ∙ told, same_keeps calls, subst (LastCame new (past_of places (length calls) calls wire) last) (sym answer) (record { some_left = λ none. some (ids_are ∙ none); why = inr (inr (subst (λ (c : Fields). CannotBeSent c e) kill_is cannot)) }))
  last_left id_is space_is none_opened quiet (kills_all some sending new_one h) calls told places =
      last_ran id_is space_is none_opened quiet (λ none. some (ids_are ∙ none)) sending new_one.command_is new_one.single h calls told places
      (subst (λ (stage : Stage). Flies old (past_of places (length calls) calls wire) (last_kill last) stage) (sym new_one.new) tt)

-- A poll of the closing of a stream at rest.
pub last_closes : (old new : Awaited) (log log' : LogTold) (wire : ℤ) (last : ClientStream) (k : ClosingStream) (r : Step ClosingStream (Unit {0})) → IsSoundClosing k → ClosesStream old new log log' wire k r → (calls : List Call) → log ≡ Some calls → (places : List ℕ) → LastSoFar old (past_of places (length calls) calls wire) last k
    → (calls' : List Call) × (log' ≡ Some calls') × Keeps calls calls' × LastCame new (past_of places (length calls) calls' wire) last r
last_closes old new log log' wire last k r sound (begins at quiet h) calls told places so =
    last_left old new log log' wire last (record k { cursor = at_rest k.cursor }) r (last_same old (past_of places (length calls) calls wire) last k so) (kill_same old (past_of places (length calls) calls wire) last k so) so.id_is so.space_is so.none_opened tt h calls told places
last_closes old new log log' wire last k r sound (lands_more at sending asks_so b came left poll runs hears behind) calls told places so = absurd (subst IsNotAsking asks_so so.quiet)
last_closes old new log log' wire last k r sound (lands_opening sending at b came runs behind) calls told places so = absurd (subst (LastBy old (past_of places (length calls) calls wire) last) at so.by)
last_closes old new log log' wire last k r sound (lands_closing before at b came polls behind) calls told places so = absurd (subst (LastBy old (past_of places (length calls) calls wire) last) at so.by)
last_closes old new log log' wire last k r sound (goes_on sending at h) calls told places so =
    let parts = subst (LandsSoundly k) at sound in
    let by = subst (LastBy old (past_of places (length calls) calls wire) last) at so.by in
    last_ran old new log log' wire last k r (last_same old (past_of places (length calls) calls wire) last k so) (kill_same old (past_of places (length calls) calls wire) last k so) so.id_is so.space_is so.none_opened so.quiet by.0 sending parts.1.command_is parts.1.single h calls told places by.1

module _ (past past' : Past) (grows : Grows past past') (last : ClientStream) where
  last_by_grows : (awaited awaited' : Awaited) (c : ClientCursor) (d : Landing) → ((n : ℕ) → landing_ticket c d ≡ Some n → awaited' n ≡ awaited n) → LastBy awaited past last d → LastBy awaited' past' last d
  last_by_grows awaited awaited' c lands tickets h = tt
  last_by_grows awaited awaited' c (lands_aggregate sending) tickets h = absurd h
  last_by_grows awaited awaited' c (lands_replaced before) tickets h = absurd h
  last_by_grows awaited awaited' c (ends sending) tickets h = (h.0, flies_grows past past' grows awaited awaited' (last_kill last) sending.stage tickets h.1)

  pub last_grows : (awaited awaited' : Awaited) (k : ClosingStream) → ((n : ℕ) → stream_closing_ticket k ≡ Some n → awaited' n ≡ awaited n) → LastSoFar awaited past last k → LastSoFar awaited' past' last k
  last_grows awaited awaited' k tickets so = record { id_is = so.id_is; space_is = so.space_is; none_opened = so.none_opened; quiet = so.quiet; by = last_by_grows awaited awaited' k.cursor k.doing tickets so.by }

  pub last_done_grows : LastDone past last → LastDone past' last
  last_done_grows (none_held none) = none_held none
  last_done_grows (was_killed some bytes heard success) = was_killed some bytes (heard_reply past past' grows (last_kill last) bytes heard) success

  pub last_fails_grows : (e : Error) → LastFails past last e → LastFails past' last e
  last_fails_grows e h = record { some_left = h.some_left; why = why_grows h.why }
    where
      why_grows : (e.kind ≡ kind.OutOfMemory) ⊎ (RequestFails past (last_kill last) false NoneBroken e ⊎ CannotBeSent (last_kill last) e) → (e.kind ≡ kind.OutOfMemory) ⊎ (RequestFails past' (last_kill last) false NoneBroken e ⊎ CannotBeSent (last_kill last) e)
      why_grows (inl room) = inl room
      why_grows (inr (inl fails)) = inr (inl (request_fails_grows past past' grows (last_kill last) false NoneBroken e fails))
      why_grows (inr (inr cannot)) = inr (inr cannot)
