-- Where a watch is behind the polls of its opening, and that its stream is sound.
use Rattle.std.proofs.Common.{◌≡◌, ℕ, ℤ, Bool, true, false, List, [], ◌∷◌, Option, Some, None, option_map, refl, sym, ap, ◌∙◌, subst}
use Rattle.std.specs.Prelude.{◌↔◌, ◌||◌, IsTrue, is_some, not, int_lt, option_and_then, unwrap_or, if◌then◌else◌}
use Rattle.mg_bson.specs.Tree.{Tree, Fields, Items, no_items, item}
use Rattle.mg_bson.specs.Find.{as_document}
use Rattle.mg_bson.specs.declared.tree.Timestamp.{Timestamp}
use Rattle.mg_bson.specs.Raw.{fields}
use Rattle.mg_server.specs.Commands.{asks_watch, as_time, asked, batch_of, documents_in, start_by}
use Rattle.mg_link.specs.Namespace.{space, target}
use Rattle.mg_server.specs.State.{Start, Watch, nowhere, after, at_time}
use Rattle.mg_link.specs.Exec.{Sending, Stage, unsent, first, second, IsSuccess, Runs}
use Rattle.mg_server.specs.Follow.{Follow, starting, start_token, first_token as token_behind, Moved}
use Rattle.mg_link.specs.Link.{Awaited, LogTold, Sees}
use Rattle.mg_link.specs.Log.{reply}
use Rattle.mg_link.specs.Session.{Session}
use Rattle.mg_link.specs.declared.action.Step.{Step}
use Rattle.mg_link.specs.declared.action.Step.TheVariants as step
use Rattle.mg_link.specs.declared.error.Error.{Error}
use Rattle.mg_exec.proofs.Execs.{runs_of}
use Rattle.mg_server.proofs.Heard.{watch_spoiled}
use Rattle.mg_server.proofs.Moves.{moved, stayed}
use Rattle.mg_server.proofs.Openings.{opened_with as opened_at, start_heard}
use Rattle.mg_server.specs.Moves.{at_stage}
use Rattle.mg_server.proofs.Retries.{opening_request, place_of, ran}
use Rattle.mg_options.specs.Tokens.{batch_token, first_token, or_else}
use Rattle.mg_options.specs.Printing.{time_value}
use Rattle.mg_options.specs.declared.change_stream.ChangeStreamOptions.{ChangeStreamOptions}
use Rattle.mg_ops.specs.Aims.{asked_for}
use Rattle.mg_ops.specs.Cursors.{Cursor}
use Rattle.mg_ops.specs.Naming.{start_in}
use Rattle.mg_ops.specs.Resuming.{has_start, saved_time, times_from}
use Rattle.mg_ops.specs.declared.change_stream.ChangeStreamData.{ChangeStreamData}
use Rattle.mg_ops.specs.declared.change_stream.WatchArgs.{WatchArgs}
use Rattle.mg_ops.specs.declared.cursor_reply.CursorSpecification.{CursorSpecification}
use Rattle.mg_ops.proofs.Asking.{asks_as_aimed}
use Rattle.mg_ops.proofs.Reading.{batch_as, batch_read, named_read}
use Rattle.mg_cursor.specs.Client.{PlainIf}
use Rattle.mg_change.specs.ClientOpenings.{ClientOpening, HearsOpening, IsSoundOpening, OpensStream, RunsOpening, SendsSoundly, begins, broke, first_aggregate, goes_on, not_built, opened, opened_with}
use Rattle.mg_change.specs.ClientStreams.{Asks, ClientStream, IsAggregate, IsOnItsWay, IsSound, SavedFor, is_read_again, resuming_in, stream_token}
use Rattle.mg_change.specs.Following.{OpeningMoves, OpensTo, event_fields, follow_of, not_open, opening_by}
use Rattle.mg_change.specs.Steps.{OpensCursor}
use Rattle.mg_change.proofs.Aimed.{aimed_at}
use Rattle.mg_change.proofs.Garbled.{IsHeld, came, place_heard, start_garbled, still_waits}
use Rattle.mg_change.proofs.Reading.{events_read}
use Rattle.mg_change.proofs.Turning.{IsResumption}

-- ---- the token of a new stream

start_at : (o : Option ℕ) (start : Start) → option_map at_time o ≡ Some start → None ≡ start_token start
start_at (Some time) start h = let same : at_time time ≡ start = cc in ap start_token same
start_at None start h = absurd cc

started_behind : (resume_after start_after time : Option Tree) (start : Start) → start_by resume_after start_after time ≡ Some start → or_else start_after resume_after ≡ start_token start
started_behind None None None start h = let same : nowhere ≡ start = cc in ap start_token same
started_behind (Some token) None None start h = let same : after token ≡ start = cc in ap start_token same
started_behind None (Some token) None start h = let same : after token ≡ start = cc in ap start_token same
started_behind None None (Some t) start h = start_at (as_time t) start h
started_behind (Some a) (Some b) None start h = absurd cc
started_behind (Some a) (Some b) (Some t) start h = absurd cc
started_behind (Some a) None (Some t) start h = absurd cc
started_behind None (Some b) (Some t) start h = absurd cc

some_document : (d : Option Fields) (ds : Option (List Fields)) → option_and_then (λ (e : Fields). option_map (λ es. e ∷ es) ds) d ≡ Some [] → ⊥
some_document None ds h = cc
some_document (Some d) None h = cc
some_document (Some d) (Some ds) h = cc

none_empty : (batch : Items) → documents_in batch ≡ Some [] → batch ≡ no_items
none_empty no_items h = refl
none_empty (item t ts) h = absurd (some_document (as_document t) (documents_in ts) h)

some_full : (batch : Items) (e : Fields) (es : List Fields) → documents_in batch ≡ Some (e ∷ es) → batch ≡ no_items → ⊥
some_full no_items e es h is = cc
some_full (item t ts) e es h is = cc

token_by : (b : Option Tree) (start : Start) (token : Option Tree) → b ≡ start_token start → or_else (batch_token true token) b ≡ token_behind start [] token
token_by b start (Some token) is = refl
token_by b start None is = is

-- the token by the options and the batch is the one by the start and the events
first_behind : (o : ChangeStreamOptions) (start : Start) (batch : Items) (events : List Fields) (is_empty : Bool) (token : Option Tree) → start_in o ≡ Some start → documents_in batch ≡ Some events → IsTrue is_empty ↔ (batch ≡ no_items)
    → first_token o.start_after o.resume_after is_empty token ≡ token_behind start events token
first_behind o start batch [] true token from has empty = token_by (or_else o.start_after o.resume_after) start token (started_behind o.resume_after o.start_after (option_map time_value o.start_at_operation_time) start from)
first_behind o start batch [] false token from has empty = let bad : false ≡ true = empty.1 (none_empty batch has) in absurd cc
first_behind o start batch (e ∷ es) true token from has empty = absurd (some_full batch e es has (empty.0 refl))
first_behind o start batch (e ∷ es) false token from has empty = started_behind o.resume_after o.start_after (option_map time_value o.start_at_operation_time) start from

-- ---- what is saved

saved_if : (c : Bool) (o : ChangeStreamOptions) (time : Option Timestamp) → has_start o ≡ false → SavedFor o (if c then None else time)
saved_if true o time none = tt
saved_if false o None none = tt
saved_if false o (Some t) none = none

saved_by : (b p q r : Bool) (o : ChangeStreamOptions) (time : Option Timestamp) → has_start o ≡ b → SavedFor o (if b || p || q || r then None else time)
saved_by true p q r o time is = tt
saved_by false p q r o time is = saved_if (p || q || r) o time is

-- the time that an opening saves is one that it may
pub saved_for : (o : ChangeStreamOptions) (wire : ℤ) (is_empty has_token : Bool) (time : Option Timestamp) → SavedFor o (saved_time o wire is_empty has_token time)
saved_for o wire is_empty has_token time = saved_by (has_start o) (int_lt wire times_from) (not is_empty) has_token o time refl

-- two that remember the same are one
pub known_by : (d e : ChangeStreamData) → d.initial_operation_time ≡ e.initial_operation_time → d.resume_token ≡ e.resume_token → d.document_returned ≡ e.document_returned → d ≡ e
known_by d e time token returned =
    ap (λ (t : _). record d { initial_operation_time = t }) time ∙ ap (λ (t : _). record { initial_operation_time = e.initial_operation_time; resume_token = t; document_returned = d.document_returned }) token
    ∙ ap (λ (b : _). record { initial_operation_time = e.initial_operation_time; resume_token = e.resume_token; document_returned = b }) returned

-- ---- the command

pub opening_asks : (args : WatchArgs) (w : Watch) (start : Start) (sending : Sending) → Asks args w start → IsResumption (first_aggregate args) sending → asked sending.command ≡ asks_watch w start
opening_asks args w start sending asks is =
    asks_as_aimed sending.command (target args.target) args.pipeline.items args.options is.session is.command_is ∙ ap asked_for (aimed_at args w args.options start asks.aimed asks.by asks.from)

-- the watch while its opening waits
abbrev pub waits_at : Watch → Start → Option ℕ → Follow
waits_at w start place = record (not_open w start) { doing = starting place }

-- ---- the reply

-- the cursor that was read
abbrev cursor_read : CursorSpecification → Items → Cursor
cursor_read out batch = record { id = out.info.id; space = space out.info.ns; token = out.post_batch_resume_token; batch = batch }

opened_by : (mid log' : LogTold) (awaited : Awaited) (args : WatchArgs) (w : Watch) (start : Start) (place : Option ℕ) (wire : ℤ) (bytes : List ℕ) (out : CursorSpecification × Option Timestamp) (o : OpensCursor (first_aggregate args) bytes out) (events : Option (List Fields)) → documents_in o.opens.opens.batch ≡ events → Asks args w start → IsSuccess bytes
    → Sees mid log' place (reply bytes) → Moved mid log' (waits_at w start place) (follow_of awaited w start (opened_with args wire out) place [])
opened_by mid log' awaited args w start place wire bytes out o None has asks success sees =
    let c = cursor_read out.0 o.opens.opens.batch in
    let none : batch_of (fields bytes) ≡ None = batch_read (fields bytes) c o.opens.opens.says ∙ ap (option_map (batch_as c)) has in
    start_garbled mid log' (waits_at w start place) place bytes out.0.info.id (event_fields out.0.initial_reply) out.0.post_batch_resume_token (stream_token (opened_with args wire out)) refl (watch_spoiled w start bytes success none) sees
opened_by mid log' awaited args w start place wire bytes out o (Some events) has asks success sees =
    let c = cursor_read out.0 o.opens.opens.batch in
    let some : batch_of (fields bytes) ≡ Some (batch_as c events) = batch_read (fields bytes) c o.opens.opens.says ∙ ap (option_map (batch_as c)) has in
    let heard = start_heard mid log' (waits_at w start place) place bytes (batch_as c events) refl (record { success = success; batch_is = some }) sees in
    let token : stream_token (opened_with args wire out) ≡ token_behind start events out.0.post_batch_resume_token = first_behind args.options start o.opens.opens.batch events out.0.is_empty out.0.post_batch_resume_token asks.from has o.opens.opens.first in
    let ahead : event_fields out.0.initial_reply ≡ events = ap event_fields o.opens.opens.whole ∙ events_read bytes c o.opens.opens.says ∙ ap (λ (d : Option (List Fields)). unwrap_or d []) has in
    let f : Follow = opened_at (waits_at w start place) place (batch_as c events) in
    let with_ahead : Moved mid log' (waits_at w start place) (record f { ahead = event_fields out.0.initial_reply }) = subst (λ (es : List Fields). Moved mid log' (waits_at w start place) (record f { ahead = es })) (sym ahead) heard in
    subst (λ (t : Option Tree). Moved mid log' (waits_at w start place) (record f { ahead = event_fields out.0.initial_reply; token = t })) (sym token) with_ahead

-- ---- the request

module _ (args : WatchArgs) (w : Watch) (start : Start) (old new : Awaited) (log log' : LogTold) (wire : ℤ) (s : Sending) (asks : Asks args w start) (is : IsResumption (first_aggregate args) s) where
  held_stage : (stage : Stage) → IsHeld stage → waits_at w start (place_of new stage) ≡ at_stage (not_open w start) (waits_at w start) new stage
  held_stage unsent held = absurd held
  held_stage (first ticket) held = refl
  held_stage (second ticket) held = refl

  -- It waits still.
  opening_waits : (waiting : Sending) → Runs old new log log' wire s (step.Pending waiting) → Moved log log' (opening_by old (Some s) w start) (opening_by new (Some waiting) w start)
  opening_waits waiting runs =
      subst (Moved log log' (opening_by old (Some s) w start)) (held_stage waiting.stage (still_waits old new log log' wire s waiting runs).held)
      (ran s.command (not_open w start) (waits_at w start) (opened_at (not_open w start)) (opening_request s.command (not_open w start) (opening_asks args w start s asks is)) old new log log' wire s (step.Pending waiting) refl runs)

  -- It failed.
  opening_failed : (e : Error) → Runs old new log log' wire s (step.Failed e) → Moved log log' (opening_by old (Some s) w start) (not_open w start)
  opening_failed e runs =
      ran s.command (not_open w start) (waits_at w start) (opened_at (not_open w start)) (opening_request s.command (not_open w start) (opening_asks args w start s asks is)) old new log log' wire s (step.Failed e) refl runs

  -- A reply came of which no stream was made.
  opening_lost : (bytes : List ℕ) → Runs old new log log' wire s (step.Done bytes) → Moved log log' (opening_by old (Some s) w start) (not_open w start)
  opening_lost bytes runs =
      (ran s.command (not_open w start) (waits_at w start) (opened_at (not_open w start)) (opening_request s.command (not_open w start) (opening_asks args w start s asks is)) old new log log' wire s (step.Done bytes) refl runs).0

  -- A reply came, and a stream was made of it.
  pub opening_came : (bytes : List ℕ) (out : CursorSpecification × Option Timestamp) → OpensCursor (first_aggregate args) bytes out → (runs : Runs old new log log' wire s (step.Done bytes))
      → Moved log log' (opening_by old (Some s) w start) (follow_of new w start (opened_with args wire out) (place_heard old new log log' wire s (step.Done bytes) runs) [])
  opening_came bytes out o runs =
      let place = place_heard old new log log' wire s (step.Done bytes) runs in
      let c = came s.command (not_open w start) (waits_at w start) (opened_at (not_open w start)) (opening_request s.command (not_open w start) (opening_asks args w start s asks is)) old new log log' wire s bytes refl runs in
      moved log c.mid log' (opening_by old (Some s) w start) (waits_at w start place) (follow_of new w start (opened_with args wire out) place []) c.out
      (opened_by c.mid log' new args w start place wire bytes out o (documents_in o.opens.opens.batch) refl asks c.success c.sees)

-- ---- a poll

pub first_is : (plain : Bool) (args : WatchArgs) (sending : Sending) → IsAggregate plain (first_aggregate args) sending → IsResumption (first_aggregate args) sending
first_is plain args sending h = record { wire = h.wire; session = h.session; command_is = h.command_is }

-- before it is sent the watch is not open
pub not_open_yet : (awaited : Awaited) (w : Watch) (start : Start) (sending : Sending) → sending.stage ≡ unsent → opening_by awaited (Some sending) w start ≡ not_open w start
not_open_yet awaited w start sending new = ap (at_stage (not_open w start) (waits_at w start) awaited) new

module _ (old new : Awaited) (log log' : LogTold) (wire : ℤ) (session : Option Session) (started : Bool) (o : ClientOpening) (r : Step ClientOpening ClientStream) (w : Watch) (start : Start) (asks : Asks o.args w start) where
  heard_moved : (sending : Sending) → IsResumption (first_aggregate o.args) sending → (came_so : Step Sending (List ℕ)) → Runs old new log log' wire sending came_so → HearsOpening wire o came_so r → OpensTo new log log' (opening_by old (Some sending) w start) w start r
  heard_moved sending is (step.Pending waiting) runs h =
      subst (OpensTo new log log' (opening_by old (Some sending) w start) w start) (sym h) (opening_waits o.args w start old new log log' wire sending asks is waiting runs)
  heard_moved sending is (step.Done bytes) runs (opened out opens answer) =
      subst (OpensTo new log log' (opening_by old (Some sending) w start) w start) (sym answer)
      (place_heard old new log log' wire sending (step.Done bytes) runs, opening_came o.args w start old new log log' wire sending asks is bytes out opens runs)
  heard_moved sending is (step.Done bytes) runs (broke e by answer) =
      subst (OpensTo new log log' (opening_by old (Some sending) w start) w start) (sym answer) (opening_lost o.args w start old new log log' wire sending asks is bytes runs)
  heard_moved sending is (step.Failed e) runs h =
      subst (OpensTo new log log' (opening_by old (Some sending) w start) w start) (sym h) (opening_failed o.args w start old new log log' wire sending asks is e runs)

  opening_run : (sending : Sending) → IsResumption (first_aggregate o.args) sending → RunsOpening old new log log' wire started o sending r → OpensTo new log log' (opening_by old (Some sending) w start) w start r
  opening_run sending is h = heard_moved sending is h.came (runs_of old new log log' wire sending h.came started h.runs) h.hears

  pub opens_moved : (plain : Bool) → IsSoundOpening plain o → OpensStream old new log log' wire session started o r → OpeningMoves old new log log' w start o r
  opens_moved plain sound (not_built unsent_so e fails nothing not_so answer) =
      subst (λ (x : Option Sending). OpensTo new log log' (opening_by old x w start) w start r) (sym unsent_so)
      (subst (OpensTo new log log' (not_open w start) w start) (sym answer) (stayed log log' (not_open w start) nothing.log_same))
  opens_moved plain sound (begins unsent_so sending new_one h) =
      subst (λ (x : Option Sending). OpensTo new log log' (opening_by old x w start) w start r) (sym unsent_so)
      (subst (λ (f : Follow). OpensTo new log log' f w start r) (not_open_yet old w start sending new_one.new) (opening_run sending (record { wire = wire; session = session; command_is = new_one.command_is }) h))
  opens_moved plain sound (goes_on sending is h) =
      subst (λ (x : Option Sending). OpensTo new log log' (opening_by old x w start) w start r) (sym is)
      (opening_run sending (first_is plain o.args sending (subst (SendsSoundly plain o.args) is sound)) h)

-- ---- what it keeps

abbrev pub SoundBehind : Bool → Step ClientOpening ClientStream → Type 0
SoundBehind plain (step.Pending next) = IsSoundOpening plain next
SoundBehind plain (step.Done s) = IsSound plain s
SoundBehind plain (step.Failed e) = Unit {0}

on_its_way : (stage : Stage) → IsHeld stage → IsOnItsWay stage
on_its_way unsent held = absurd held
on_its_way (first ticket) held = tt
on_its_way (second ticket) held = tt

-- the stream of an opening is sound
pub opened_sound : (plain : Bool) (args : WatchArgs) (wire : ℤ) (bytes : List ℕ) (out : CursorSpecification × Option Timestamp) → OpensCursor (first_aggregate args) bytes out → IsSound plain (opened_with args wire out)
opened_sound plain args wire bytes out o = record {
  saved = saved_for args.options wire out.0.is_empty (is_some out.0.post_batch_resume_token) out.1;
  named = named_read (fields bytes) (cursor_read out.0 o.opens.opens.batch) o.opens.opens.says;
  unbound = refl;
  asks_its_own = tt;
  by = refl;
}

-- an aggregate that is sent, as it is polled
record IsPolled (plain : Bool) (args : WatchArgs) (sending : Sending) : Type 0 where
  wire : ℤ
  session : Option Session
  plainly : PlainIf plain session
  command_is : fields sending.command ≡ resuming_in (first_aggregate args) wire session
  retries_is : sending.retries ≡ is_read_again session

module _ (plain : Bool) (old new : Awaited) (log log' : LogTold) (wire : ℤ) (session : Option Session) (started : Bool) (o : ClientOpening) (r : Step ClientOpening ClientStream) where
  heard_sound : (sending : Sending) → IsPolled plain o.args sending → (came_so : Step Sending (List ℕ)) → Runs old new log log' wire sending came_so → HearsOpening wire o came_so r → SoundBehind plain r
  heard_sound sending is (step.Pending waiting) runs h =
      let still = still_waits old new log log' wire sending waiting runs in
      subst (SoundBehind plain) (sym h)
      (record { wire = is.wire; session = is.session; plainly = is.plainly; command_is = ap fields still.same_command ∙ is.command_is; retries_is = still.same_retries ∙ is.retries_is; waits = on_its_way waiting.stage still.held })
  heard_sound sending is (step.Done bytes) runs (opened out opens answer) = subst (SoundBehind plain) (sym answer) (opened_sound plain o.args wire bytes out opens)
  heard_sound sending is (step.Done bytes) runs (broke e by answer) = subst (SoundBehind plain) (sym answer) tt
  heard_sound sending is (step.Failed e) runs h = subst (SoundBehind plain) (sym h) tt

  pub opens_sound : IsSoundOpening plain o → PlainIf plain session → OpensStream old new log log' wire session started o r → SoundBehind plain r
  opens_sound sound plainly (not_built unsent_so e fails nothing not_so answer) = subst (SoundBehind plain) (sym answer) tt
  opens_sound sound plainly (begins unsent_so sending new_one h) =
      heard_sound sending (record { wire = wire; session = session; plainly = plainly; command_is = new_one.command_is; retries_is = new_one.retries_is }) h.came (runs_of old new log log' wire sending h.came started h.runs) h.hears
  opens_sound sound plainly (goes_on sending is h) =
      let own : IsAggregate plain (first_aggregate o.args) sending = subst (SendsSoundly plain o.args) is sound in
      heard_sound sending (record { wire = own.wire; session = own.session; plainly = own.plainly; command_is = own.command_is; retries_is = own.retries_is }) h.came (runs_of old new log log' wire sending h.came started h.runs) h.hears
