-- Where an opening heard its reply: what its stream knows and what caused it name the same call.
use Rattle.std.proofs.Common.{◌≡◌, ◌≤◌, ℕ, ℤ, Bool, true, false, List, [], length, Option, Some, None, refl, sym, ap, ◌∙◌, subst, inl, inr, arith}
use Rattle.std.specs.Prelude.{◌&&◌}
use Rattle.mg_bson.specs.Tree.{Fields}
use Rattle.mg_bson.specs.Raw.{fields}
use Rattle.mg_bson.specs.Reading.{doc}
use Rattle.mg_bson.specs.declared.tree.Timestamp.{Timestamp}
use Rattle.mg_server.specs.Calls.{Flies, HeardAt, HeardLast, Past, WaitsAt, past_of}
use Rattle.mg_link.specs.Exec.{Attempt, answered, Begins, GoesOn, IsSuccess, Runs, Sending, Stage, Tries, first, second, unsent}
use Rattle.mg_server.specs.Follow.{Follow, Moved}
use Rattle.mg_link.specs.Link.{Awaited, LogTold}
use Rattle.mg_link.specs.Log.{Call, reply}
use Rattle.mg_link.specs.Reply.{verdict_of}
use Rattle.mg_link.specs.Retry.{is_retried, is_retried_as, is_retried_reply}
use Rattle.mg_link.specs.Session.{Session}
use Rattle.mg_link.specs.declared.action.Step.{Step}
use Rattle.mg_link.specs.declared.action.Step.TheVariants as step
use Rattle.mg_link.specs.declared.reply.Verdict.{Verdict}
use Rattle.mg_server.proofs.Calls.{begun, gone_on, keeps_longer, success_ran, tried}
use Rattle.mg_exec.proofs.Execs.{runs_of}
use Rattle.mg_server.proofs.Retries.{next_is, next_place}
use Rattle.mg_ops.specs.declared.change_stream.WatchArgs.{WatchArgs}
use Rattle.mg_ops.specs.declared.cursor_reply.CursorSpecification.{CursorSpecification}
use Rattle.mg_change.specs.ClientOpenings.{ClientOpening, HearsOpening, IsSoundOpening, OpensStream, RunsOpening, SendsSoundly, begins, broke, first_aggregate, goes_on, not_built, opened, opened_with}
use Rattle.mg_change.specs.ClientStreams.{ClientStream, IsNewAggregate, is_read_again, resuming_in}
use Rattle.mg_change.specs.Following.{follow_of, opening_by}
use Rattle.mg_change.specs.OpenedStreams.{OpenedAt}
use Rattle.mg_change.specs.Steps.{OpensCursor}
use Rattle.mg_change.proofs.Garbled.{place_at, place_heard}
use Rattle.mg_change.proofs.Opened.{first_is, not_open_yet, opening_came}
use Rattle.mg_change.proofs.Turning.{IsResumption}

-- ---- where a request heard its reply

-- this was heard at a place of the log
abbrev HeardThere : LogTold → List ℕ → ℕ → ℤ → Fields → List ℕ → Option ℕ → Type 0
HeardThere log' places since wire command bytes at = (calls' : List Call) × (log' ≡ Some calls') × (place : ℕ) × (at ≡ Some place) × HeardAt (past_of places since calls' wire) place command (reply bytes)

module _ (places : List ℕ) (since : ℕ) (wire : ℤ) (command : List ℕ) (bytes : List ℕ) where
  begun_there : (old new : Awaited) (log log' : LogTold) (calls : List Call) → log ≡ Some calls → since ≤ length calls → Begins old new log log' command (answered (reply bytes)) → HeardThere log' places since wire (fields command) bytes (next_place log)
  begun_there old new log log' calls told room b =
      let t = begun old new log log' calls told places since wire command (answered (reply bytes)) (λ place. place ≡ length calls) room refl b in
      (t.calls', t.told, t.stands.0, next_is log calls told ∙ ap Some (sym t.stands.2), t.stands.1)

  on_there : (old new : Awaited) (log log' : LogTold) (calls : List Call) → log ≡ Some calls → (ticket place : ℕ) → WaitsAt old (past_of places since calls wire) ticket (fields command) place → GoesOn old new log log' ticket (answered (reply bytes)) → HeardThere log' places since wire (fields command) bytes (old ticket)
  on_there old new log log' calls told ticket place w g =
      let t = gone_on old new log log' calls told places since wire ticket (fields command) (answered (reply bytes)) (λ p. old ticket ≡ Some p) place w w.at g in
      (t.calls', t.told, t.stands.0, t.stands.2, t.stands.1)

  tried_there : (old new : Awaited) (log log' : LogTold) (calls : List Call) → log ≡ Some calls → since ≤ length calls → (stage : Stage) → Flies old (past_of places since calls wire) (fields command) stage → Tries old new log log' command stage (answered (reply bytes)) → HeardThere log' places since wire (fields command) bytes (place_at old log stage)
  tried_there old new log log' calls told room unsent flies t = begun_there old new log log' calls told room t
  tried_there old new log log' calls told room (first ticket) flies t = on_there old new log log' calls told ticket flies.0 flies.1 t
  tried_there old new log log' calls told room (second ticket) flies t = on_there old new log log' calls told ticket flies.0 flies.1 t

ran_there : (places : List ℕ) (since : ℕ) (old new : Awaited) (log log' : LogTold) (wire : ℤ) (s : Sending) (bytes : List ℕ) (calls : List Call) → log ≡ Some calls → since ≤ length calls → Flies old (past_of places since calls wire) (fields s.command) s.stage → (runs : Runs old new log log' wire s (step.Done bytes))
    → HeardThere log' places since wire (fields s.command) bytes (place_heard old new log log' wire s (step.Done bytes) runs)
ran_there places since old new log log' wire s bytes calls told room flies (inl once) =
    tried_there places since wire s.command bytes old new log log' calls told room s.stage flies (subst (λ (a : Attempt). Tries old new log log' s.command s.stage a) once.gives.0 once.tries)
ran_there places since old new log log' wire s bytes calls told room flies (inr twice) =
    let t = tried old twice.between log twice.log_between calls told places since wire s.command s.stage twice.attempt room flies twice.tries in
    let longer = keeps_longer calls t.calls' t.keeps in
    begun_there places since wire s.command bytes twice.between new twice.log_between log' t.calls' t.told (omega arith) (subst (λ (a : Attempt). Begins twice.between new twice.log_between log' s.command a) twice.gives.0 twice.begins)

-- ---- a success is not sent once more

calm_by : (o : Option Fields) (bytes : List ℕ) → doc bytes ≡ o → IsSuccess bytes → is_retried_reply o ≡ false
unfolding fields
calm_by None bytes is success = refl
calm_by (Some said) bytes is success =
    let said_is : fields bytes ≡ said = rw is refl in
    ap (λ (v : Verdict). is_retried_as v said) (ap verdict_of (sym said_is) ∙ success)

calm : (again : Bool) (bytes : List ℕ) → IsSuccess bytes → (again && is_retried (reply bytes)) ≡ false
calm true bytes success = calm_by (doc bytes) bytes refl success
calm false bytes success = refl

-- ---- openings

abbrev IsDone : Step ClientOpening ClientStream → Type 0
IsDone (step.Pending o) = ⊥
IsDone (step.Done s) = Unit {0}
IsDone (step.Failed e) = ⊥

same_stream : (s t : ClientStream) → ◌≡◌ {A = Step ClientOpening ClientStream} (step.Done s) (step.Done t) → s ≡ t
same_stream s t is = cc

module _ (old new : Awaited) (log log' : LogTold) (wire : ℤ) (args : WatchArgs) (sending : Sending) (is : IsResumption (first_aggregate args) sending) where
  -- a reply came of which a stream was made
  placed_by : (bytes : List ℕ) (out : CursorSpecification × Option Timestamp) (s : ClientStream) → OpensCursor (first_aggregate args) bytes out → s ≡ opened_with args wire out → Runs old new log log' wire sending (step.Done bytes) → OpenedAt old new log log' wire args (Some sending) s
  placed_by bytes out s opens same runs = record {
    place = place_heard old new log log' wire sending (step.Done bytes) runs;
    moved = λ w start asks.
        subst (λ (x : ClientStream). Moved log log' (opening_by old (Some sending) w start) (follow_of new w start x (place_heard old new log log' wire sending (step.Done bytes) runs) [])) (sym same)
        (opening_came args w start old new log log' wire sending asks is bytes out opens runs);
    caused = λ calls told places so.
        let flies = subst (λ (c : Fields). Flies old (past_of places (length calls) calls wire) c sending.stage) (sym so.command_is) so.flies in
        let h = ran_there places (length calls) old new log log' wire sending bytes calls told (omega arith) flies runs in
        let past' : Past = past_of places (length calls) h.0 wire in
        let heard = subst (λ (c : Fields). HeardAt past' h.2 c (reply bytes)) so.command_is h.4 in
        let success = success_ran old new log log' wire sending bytes runs in
        let last : HeardLast past' (resuming_in (first_aggregate args) wire so.session) (is_read_again so.session) (reply bytes) = record { place = h.2; heard = heard; last = inl (calm (is_read_again so.session) bytes success) } in
        (h.0, h.1, record { bytes = bytes; session = so.session; heard = last; success = success; out = out; opens = opens; stream_is = same }, h.3);
  }

-- the same of one that was not sent before
unsent_placed : (old new : Awaited) (log log' : LogTold) (wire : ℤ) (session : Option Session) (args : WatchArgs) (sending : Sending) (s : ClientStream) → IsNewAggregate (resuming_in (first_aggregate args) wire session) session sending → OpenedAt old new log log' wire args (Some sending) s
    → OpenedAt old new log log' wire args None s
unsent_placed old new log log' wire session args sending s new_one h = record {
  place = h.place;
  moved = λ w start asks. subst (λ (f : Follow). Moved log log' f (follow_of new w start s h.place [])) (not_open_yet old w start sending new_one.new) (h.moved w start asks);
  caused = λ calls told places so.
      h.caused calls told places
      (record {
        session = session;
        command_is = new_one.command_is;
        retries_is = new_one.retries_is;
        flies = subst (λ (stage : Stage). Flies old (past_of places (length calls) calls wire) (resuming_in (first_aggregate args) wire session) stage) (sym new_one.new) tt;
      });
}

module _ (old new : Awaited) (log log' : LogTold) (wire : ℤ) (session : Option Session) (started : Bool) (o : ClientOpening) (s : ClientStream) where
  heard_placed : (sending : Sending) → IsResumption (first_aggregate o.args) sending → (came : Step Sending (List ℕ)) → Runs old new log log' wire sending came → HearsOpening wire o came (step.Done s) → OpenedAt old new log log' wire o.args (Some sending) s
  heard_placed sending is (step.Pending waiting) runs h = absurd (subst IsDone h tt)
  heard_placed sending is (step.Done bytes) runs (opened out opens answer) = placed_by old new log log' wire o.args sending is bytes out s opens (same_stream s (opened_with o.args wire out) answer) runs
  heard_placed sending is (step.Done bytes) runs (broke e by answer) = absurd (subst IsDone answer tt)
  heard_placed sending is (step.Failed e) runs h = absurd (subst IsDone h tt)

  run_placed : (sending : Sending) → IsResumption (first_aggregate o.args) sending → RunsOpening old new log log' wire started o sending (step.Done s) → OpenedAt old new log log' wire o.args (Some sending) s
  run_placed sending is h = heard_placed sending is h.came (runs_of old new log log' wire sending h.came started h.runs) h.hears

  pub opens_at : (plain : Bool) → IsSoundOpening plain o → OpensStream old new log log' wire session started o (step.Done s) → OpenedAt old new log log' wire o.args o.sending s
  opens_at plain sound (not_built unsent_so e fails nothing not_so answer) = absurd (subst IsDone answer tt)
  opens_at plain sound (begins unsent_so sending new_one h) =
      subst (λ (x : Option Sending). OpenedAt old new log log' wire o.args x s) (sym unsent_so)
      (unsent_placed old new log log' wire session o.args sending s new_one (run_placed sending (record { wire = wire; session = session; command_is = new_one.command_is }) h))
  opens_at plain sound (goes_on sending is h) =
      subst (λ (x : Option Sending). OpenedAt old new log log' wire o.args x s) (sym is) (run_placed sending (first_is plain o.args sending (subst (SendsSoundly plain o.args) is sound)) h)
