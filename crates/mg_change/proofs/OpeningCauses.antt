-- What the answers of an opening are caused by.
use Rattle.std.proofs.Common.{◌≡◌, ◌⊎◌, ℕ, ℤ, Bool, false, List, length, Option, Some, None, refl, sym, ap, ◌∙◌, subst, inl, inr, arith}
use Rattle.std.specs.Prelude.{◌&&◌}
use Rattle.mg_bson.specs.Raw.{fields}
use Rattle.mg_server.specs.Calls.{Came, Flies, Grows, HeardAt, HeardLast, IsRetried, Keeps, Past, RequestFails, past_of}
use Rattle.mg_link.specs.Exec.{IsSuccess, Runs, Sending, Stage}
use Rattle.mg_link.specs.Link.{Awaited, LogTold}
use Rattle.mg_link.specs.Log.{Call, reply}
use Rattle.mg_link.specs.Retry.{is_retried}
use Rattle.mg_link.specs.Session.{Session}
use Rattle.mg_link.specs.declared.action.Step.{Step}
use Rattle.mg_link.specs.declared.action.Step.TheVariants as step
use Rattle.mg_link.specs.declared.error.Error.{Error}
use Rattle.mg_server.proofs.Calls.{request_ran, same_keeps, success_ran}
use Rattle.mg_exec.proofs.Execs.{runs_of}
use Rattle.mg_server.proofs.Pasts.{fails_anyhow, flies_grows, last_reply, request_fails_grows}
use Rattle.mg_ops.specs.Failing.{FailsBy}
use Rattle.mg_ops.specs.declared.change_stream.WatchArgs.{WatchArgs}
use Rattle.mg_ops.proofs.Unread.{unread_fails}
use Rattle.mg_cursor.specs.Causes.{TellsNoCursor}
use Rattle.mg_change.specs.ClientOpenings.{ClientOpening, HearsOpening, OpensStream, ReadsOpening, RunsOpening, begins, broke, first_aggregate, goes_on, not_built, opened, opened_with, sending_ticket}
use Rattle.mg_change.specs.ClientStreams.{ClientStream, is_read_again, resuming_in}
use Rattle.mg_change.specs.OpeningCauses.{FliesFirst, StreamOpened, OpeningCame, OpeningCaused, OpeningFails, OpensSoFar, not_built as cannot_build, out_of_memory, request}
use Rattle.mg_change.specs.Steps.{CannotResume}
use Rattle.mg_change.proofs.Garbled.{still_waits}

-- ---- its request

module _ (new : Awaited) (places : List ℕ) (since : ℕ) (calls : List Call) (wire : ℤ) (session sent : Option Session) (o : ClientOpening) where
  opening_read : (bytes : List ℕ) (r : Step ClientOpening ClientStream) → HeardLast (past_of places since calls wire) (resuming_in (first_aggregate o.args) wire sent) (is_read_again sent) (reply bytes) → IsSuccess bytes → ReadsOpening wire o bytes r
      → OpeningCame new (past_of places since calls wire) session o.args r
  opening_read bytes r heard success (opened out opens answer) =
      subst (OpeningCame new (past_of places since calls wire) session o.args) (sym answer)
      (record { bytes = bytes; session = sent; heard = heard; success = success; out = out; opens = opens; stream_is = refl })
  opening_read bytes r heard success (broke e by answer) =
      subst (OpeningCame new (past_of places since calls wire) session o.args) (sym answer)
      (request sent (unread_fails (past_of places since calls wire) (resuming_in (first_aggregate o.args) wire sent) (is_read_again sent) TellsNoCursor bytes e by heard success))

  -- by what came of it
  opening_heard : (old : Awaited) (log log' : LogTold) (sending : Sending) → fields sending.command ≡ resuming_in (first_aggregate o.args) wire sent → sending.retries ≡ is_read_again sent → (came : Step Sending (List ℕ)) → Runs old new log log' wire sending came
      → Came new (past_of places since calls wire) (resuming_in (first_aggregate o.args) wire sent) (is_read_again sent) came → (r : Step ClientOpening ClientStream) → HearsOpening wire o came r → OpeningCame new (past_of places since calls wire) session o.args r
  opening_heard old log log' sending command_is retries_is (step.Pending waiting) runs came r h =
      let still = still_waits old new log log' wire sending waiting runs in
      subst (OpeningCame new (past_of places since calls wire) session o.args) (sym h)
      (record { session = sent; command_is = ap fields still.same_command ∙ command_is; retries_is = still.same_retries ∙ retries_is; flies = came })
  opening_heard old log log' sending command_is retries_is (step.Done bytes) runs came r h = opening_read bytes r came (success_ran old new log log' wire sending bytes runs) h
  opening_heard old log log' sending command_is retries_is (step.Failed e) runs came r h =
      subst (OpeningCame new (past_of places since calls wire) session o.args) (sym h)
      (request sent (fails_anyhow (past_of places since calls wire) (resuming_in (first_aggregate o.args) wire sent) (is_read_again sent) TellsNoCursor e came))

-- ---- a poll

module _ (old new : Awaited) (log log' : LogTold) (wire : ℤ) (session : Option Session) (started : Bool) (o : ClientOpening) (r : Step ClientOpening ClientStream) where
  opening_ran : (sent : Option Session) (sending : Sending) → fields sending.command ≡ resuming_in (first_aggregate o.args) wire sent → sending.retries ≡ is_read_again sent → RunsOpening old new log log' wire started o sending r
      → (calls : List Call) → log ≡ Some calls → (places : List ℕ) → Flies old (past_of places (length calls) calls wire) (resuming_in (first_aggregate o.args) wire sent) sending.stage
      → (calls' : List Call) × (log' ≡ Some calls') × Keeps calls calls' × OpeningCame new (past_of places (length calls) calls' wire) session o.args r
  opening_ran sent sending command_is retries_is h calls told places flies =
      let runs = runs_of old new log log' wire sending h.came started h.runs in
      let x = request_ran old new log log' wire sending (resuming_in (first_aggregate o.args) wire sent) (is_read_again sent) h.came command_is retries_is runs calls told places (length calls) (omega arith) flies in
      (x.calls', x.told, x.grows.keeps, opening_heard new places (length calls) x.calls' wire session sent o old log log' sending command_is retries_is h.came runs x.came r h.hears)

  unsent_fails : (past : Past) → past.wire ≡ wire → (e : Error) → FailsBy (CannotResume (first_aggregate o.args) wire session) e → OpeningFails past session o.args e
  unsent_fails past on e (inl room) = out_of_memory room
  unsent_fails past on e (inr by) = cannot_build (subst (λ (w : ℤ). CannotResume (first_aggregate o.args) w session e) (sym on) by)

  pub opens_caused : OpensStream old new log log' wire session started o r → OpeningCaused old new log log' wire session o r
  opens_caused (not_built unsent e fails nothing not_so answer) = λ calls told places so.
      (calls, nothing.log_same ∙ told, same_keeps calls, subst (OpeningCame new (past_of places (length calls) calls wire) session o.args) (sym answer) (unsent_fails (past_of places (length calls) calls wire) refl e fails))
  opens_caused (begins unsent sending new_one h) = λ calls told places so.
      opening_ran session sending new_one.command_is new_one.retries_is h calls told places
      (subst (λ (stage : Stage). Flies old (past_of places (length calls) calls wire) (resuming_in (first_aggregate o.args) wire session) stage) (sym new_one.new) tt)
  opens_caused (goes_on sending is h) = λ calls told places so.
      let flies : FliesFirst old (past_of places (length calls) calls wire) o.args sending = subst (OpensSoFar old (past_of places (length calls) calls wire) o.args) is so in
      opening_ran flies.session sending flies.command_is flies.retries_is h calls told places flies.flies

-- ---- a later time

module _ (past past' : Past) (grows : Grows past past') (args : WatchArgs) where
  pub opens_grows : (awaited awaited' : Awaited) (sending : Option Sending) → ((n : ℕ) → sending_ticket sending ≡ Some n → awaited' n ≡ awaited n) → OpensSoFar awaited past args sending → OpensSoFar awaited' past' args sending
  opens_grows awaited awaited' None tickets h = tt
  opens_grows awaited awaited' (Some sending) tickets h = record {
    session = h.session;
    command_is = h.command_is ∙ ap (λ (w : ℤ). resuming_in (first_aggregate args) w h.session) (sym grows.wire);
    retries_is = h.retries_is;
    flies = subst (λ (w : ℤ). Flies awaited' past' (resuming_in (first_aggregate args) w h.session) sending.stage) (sym grows.wire)
        (flies_grows past past' grows awaited awaited' (resuming_in (first_aggregate args) past.wire h.session) sending.stage tickets h.flies);
  }

  -- at the same place
  abbrev pub first_grows : (session : Option Session) (bytes : List ℕ) → HeardLast past (resuming_in (first_aggregate args) past.wire session) (is_read_again session) (reply bytes) → HeardLast past' (resuming_in (first_aggregate args) past'.wire session) (is_read_again session) (reply bytes)
  first_grows session bytes h =
      let l = last_reply past past' grows (resuming_in (first_aggregate args) past.wire session) (is_read_again session) bytes h in
      record {
        place = h.place;
        heard = subst (λ (w : ℤ). HeardAt past' h.place (resuming_in (first_aggregate args) w session) (reply bytes)) (sym grows.wire) l.heard;
        last = subst (λ (w : ℤ). ((is_read_again session && is_retried (reply bytes)) ≡ false) ⊎ IsRetried past' h.place (resuming_in (first_aggregate args) w session)) (sym grows.wire) l.last;
      }

  abbrev pub opened_grows : (s : ClientStream) → StreamOpened past args s → StreamOpened past' args s
  opened_grows s h = record {
    bytes = h.bytes;
    session = h.session;
    heard = first_grows h.session h.bytes h.heard;
    success = h.success;
    out = h.out;
    opens = h.opens;
    stream_is = h.stream_is ∙ ap (λ (w : ℤ). opened_with args w h.out) (sym grows.wire);
  }

  pub opening_fails_grows : (session : Option Session) (e : Error) → OpeningFails past session args e → OpeningFails past' session args e
  opening_fails_grows session e (out_of_memory room) = out_of_memory room
  opening_fails_grows session e (request sent fails) =
      request sent
      (subst (λ (w : ℤ). RequestFails past' (resuming_in (first_aggregate args) w sent) (is_read_again sent) TellsNoCursor e) (sym grows.wire)
      (request_fails_grows past past' grows (resuming_in (first_aggregate args) past.wire sent) (is_read_again sent) TellsNoCursor e fails))
  opening_fails_grows session e (cannot_build by) = cannot_build (subst (λ (w : ℤ). CannotResume (first_aggregate args) w session e) (sym grows.wire) by)
