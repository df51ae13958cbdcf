-- What the polls of a follow's opening, stream and closing send: commands of its own, none of which names a session.
use Rattle.std.proofs.Common.{◌≡◌, ℕ, ℤ, Bool, true, false, Option, None, refl, sym, ap, subst}
use Rattle.mg_bson.specs.Raw.{fields}
use Rattle.mg_link.specs.Exec.{Sending}
use Rattle.mg_link.specs.Link.{Awaited, LogTold}
use Rattle.mg_link.specs.Session.{Session}
use Rattle.mg_link.specs.declared.action.Step.{Step}
use Rattle.mg_ops.specs.Cursors.{next_command, watch_manner}
use Rattle.mg_ops.specs.declared.change_stream.WatchArgs.{WatchArgs}
use Rattle.mg_cursor.specs.Client.{at_rest}
use Rattle.mg_cursor.specs.Client as cursors
use Rattle.mg_change.specs.ClientOpenings.{ClientOpening, IsSoundOpening, OpensStream, RunsOpening, SendsSoundly, first_aggregate}
use Rattle.mg_change.specs.ClientOpenings as openings
use Rattle.mg_change.specs.ClientStreams.{ClientStream, IsAggregate, IsSound, follows, resuming_in}
use Rattle.mg_change.specs.ClosingStreams.{ClosesStream, ClosingStream, IsSoundClosing, KillsLeft, LandsSoundly, RunsKill, ids_left, kill_left}
use Rattle.mg_change.specs.ClosingStreams as closings
use Rattle.mg_change.specs.Growths.{GoesOnward}
use Rattle.mg_change.specs.Sent.{ending_places}
use Rattle.mg_change.specs.StreamCalls.{CallCopies}
use Rattle.mg_change.specs.declared.event_poll.EventPoll.{EventPoll}
use Rattle.mg_change.proofs.Sent.{kill_sent}
use Rattle.mg_change.proofs.Such.{AddsSuch, again_such, call_such, such_none, such_tried}
use Rattle.mg_players.specs.Playing.{IsLast}
use Rattle.mg_players.specs.Sends.{IsCommandOf, asks, kills, opens, resumes}

-- ---- a call of a stream

pub calls_such : (are_its : WatchArgs → Type 0) (args : WatchArgs) → are_its args → (n : ℕ) (old new : Awaited) (log log' : LogTold) (wire : ℤ) (starts : ℕ) (s s' : ClientStream) (r : EventPoll) → IsSound true s → s.aggregate.args ≡ args → (s.doing ≡ follows → s.cursor.manner ≡ watch_manner args.options) → CallCopies n old new log log' wire None starts s s' r → AddsSuch (IsCommandOf are_its) log log'
calls_such are_its args its =
    call_such (IsCommandOf are_its) args
    (λ c manner. asks args its c.id c.space (ap (next_command c.id c.space) manner))
    (λ a wire same. resumes a wire (subst are_its (sym same) its) refl)
    (λ at ids. kills at ids refl)

-- ---- an opening

module _ (are_its : WatchArgs → Type 0) (old new : Awaited) (log log' : LogTold) (wire : ℤ) (started : Bool) (o : ClientOpening) (r : Step ClientOpening ClientStream) (its : are_its o.args) where
  opening_run : (sending : Sending) (at : ℤ) → fields sending.command ≡ resuming_in (first_aggregate o.args) at None → RunsOpening old new log log' wire started o sending r → AddsSuch (IsCommandOf are_its) log log'
  opening_run sending at is h = again_such (IsCommandOf are_its) old new log log' wire sending h.came started (opens o.args at its is) h.runs

  pub opening_such : IsSoundOpening true o → OpensStream old new log log' wire None started o r → AddsSuch (IsCommandOf are_its) log log'
  opening_such sound (openings.not_built unsent_so e by nothing not_so answer) = such_none (IsCommandOf are_its) log log' nothing.log_same
  opening_such sound (openings.begins unsent_so sending new_one h) = opening_run sending wire new_one.command_is h
  opening_such sound (openings.goes_on sending is h) =
      let own : IsAggregate true (first_aggregate o.args) sending = subst (SendsSoundly true o.args) is sound in
      opening_run sending own.wire (subst (λ (x : Option Session). fields sending.command ≡ resuming_in (first_aggregate o.args) own.wire x) own.plainly own.command_is) h

-- ---- a closing

module _ (are_its : WatchArgs → Type 0) (old new : Awaited) (log log' : LogTold) (wire : ℤ) (r : Step ClosingStream (Unit {0})) where
  kill_run : (k : ClosingStream) (sending : Sending) → fields sending.command ≡ kill_left k → sending.retries ≡ false → RunsKill old new log log' wire k sending r → AddsSuch (IsCommandOf are_its) log log'
  kill_run k sending is single h =
      such_tried (IsCommandOf are_its) log log' (ending_places sending.stage) 0
      (kill_sent (λ (place : ℕ). IsCommandOf are_its) old new log log' wire sending single h.came (kills k.cursor.space (ids_left k) is) h.runs)

  left_such : (k : ClosingStream) → KillsLeft old new log log' wire k r → AddsSuch (IsCommandOf are_its) log log'
  left_such k (closings.nothing_left none nothing answer) = such_none (IsCommandOf are_its) log log' nothing.log_same
  left_such k (closings.not_built some e by nothing answer) = such_none (IsCommandOf are_its) log log' nothing.log_same
  left_such k (closings.kills_all some sending new_one h) = kill_run k sending new_one.command_is new_one.single h

  -- of a stream at rest
  pub closing_such : (k : ClosingStream) → IsLast k.cursor.doing k.opened k.doing → IsSoundClosing k → ClosesStream old new log log' wire k r → AddsSuch (IsCommandOf are_its) log log'
  closing_such k last sound (closings.begins at quiet h) = left_such (record k { cursor = at_rest k.cursor }) h
  closing_such k last sound (closings.lands_more at sending asks_so b came left poll runs hears behind) = absurd (subst (λ (d : cursors.Doing). IsLast d k.opened closings.lands) asks_so (subst (IsLast k.cursor.doing k.opened) at last)).0
  closing_such k last sound (closings.lands_opening sending at b came runs behind) = absurd (subst (IsLast k.cursor.doing k.opened) at last)
  closing_such k last sound (closings.lands_closing before at b came polls behind) = absurd (subst (IsLast k.cursor.doing k.opened) at last)
  closing_such k last sound (closings.goes_on sending at h) =
      let own = (subst (LandsSoundly k) at sound).1 in
      kill_run k sending own.command_is own.single h

-- so the log grows by it, whatever its server does
pub closing_grows : (old new : Awaited) (log log' : LogTold) (wire : ℤ) (k : ClosingStream) (r : Step ClosingStream (Unit {0})) → IsLast k.cursor.doing k.opened k.doing × IsSoundClosing k → ClosesStream old new log log' wire k r → GoesOnward log log'
closing_grows old new log log' wire k r last closes calls told =
    let s = closing_such (λ (a : WatchArgs). Unit {0}) old new log log' wire r k last.0 last.1 closes in
    let m = s.adds calls told in
    (m.0, m.1, m.3)
