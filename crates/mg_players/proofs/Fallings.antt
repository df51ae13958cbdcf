-- The places at which a follow's closing sends: the killing of what is left.
use Rattle.std.proofs.Common.{◌≡◌, ◌≤◌, ◌++◌, List, ℕ, ℤ, pos, false, sym, ap, ◌∙◌, subst, arith}
use Rattle.mg_bson.specs.Raw.{fields}
use Rattle.mg_bson.specs.Tree.{Fields}
use Rattle.mg_link.specs.Exec.{Runs, Sending}
use Rattle.mg_link.specs.Link.{Awaited, LogTold}
use Rattle.mg_link.specs.Namespace.{Space}
use Rattle.mg_link.specs.declared.action.Step.{Step}
use Rattle.mg_link.specs.declared.action.Step.TheVariants as step
use Rattle.mg_ops.specs.Commands.{kill_command}
use Rattle.mg_cursor.specs.Client.{at_rest}
use Rattle.mg_cursor.specs.Client as cursors
use Rattle.mg_change.specs.ClientStreams.{ClientStream}
use Rattle.mg_change.specs.ClosingCauses.{last_kill}
use Rattle.mg_change.specs.ClosingStreams.{ClosesStream, ClosingStream, HearsKill, IsSoundClosing, KillsLeft, LandsSoundly, ids_left, kill_left, unless_none}
use Rattle.mg_change.specs.ClosingStreams as closings
use Rattle.mg_change.specs.Sent.{ending_places}
use Rattle.mg_change.proofs.Sent.{Tried, kill_held, kill_sent, tried_below, tried_none}
use Rattle.mg_players.specs.Causes.{KillsLast}
use Rattle.mg_players.specs.Playing.{IsLast}
use Rattle.mg_players.specs.Telling.{landing_places}

-- nothing is sent
pub tried_still : (at : ℕ → Fields → Type 0) (log log' : LogTold) (n m : ℕ) → log' ≡ log → m ≤ n → Tried at log log' n m
tried_still at log log' n m same less = subst (λ (l : LogTold). Tried at log l n m) (sym same) (tried_below at log log n n m less (tried_none at log n))

-- how many are left behind a poll of a closing
abbrev pub closing_left : Step ClosingStream (Unit {0}) → ℕ
closing_left (step.Pending k) = landing_places k.doing
closing_left (step.Done t) = 0
closing_left (step.Failed e) = 0

-- the closing of a stream kills what that leaves
pub kill_of : (last : ClientStream) (k : ClosingStream) → k.cursor.id ≡ last.cursor.id → k.cursor.space ≡ last.cursor.space → k.opened ≡ pos 0 → kill_left k ≡ last_kill last
kill_of last k id_is space_is none_opened =
    let ids : ids_left k ≡ unless_none last.cursor.id ++ unless_none (pos 0) = ap (λ (x : ℤ). unless_none x ++ unless_none k.opened) id_is ∙ ap (λ (x : ℤ). unless_none last.cursor.id ++ unless_none x) none_opened in
    ap (λ (s : Space). kill_command s (ids_left k)) space_is ∙ ap (λ (l : List ℤ). kill_command last.cursor.space l) ids

module _ (old new : Awaited) (log log' : LogTold) (wire : ℤ) (last : ClientStream) (r : Step ClosingStream (Unit {0})) where
  abbrev KillsDown : ℕ → Step ClosingStream (Unit {0}) → Type 0
  KillsDown n x = Tried (KillsLast last) log log' n (closing_left x)

  kill_came : (k : ClosingStream) (sending : Sending) → KillsLast last 0 (fields sending.command) → sending.retries ≡ false → (came : Step Sending (List ℕ)) → Runs old new log log' wire sending came → HearsKill k came r → KillsDown (ending_places sending.stage) r
  kill_came k sending is single (step.Pending later) runs heard =
      subst (KillsDown (ending_places sending.stage)) (sym heard)
      (subst (λ (m : ℕ). Tried (KillsLast last) log log' (ending_places sending.stage) m) (kill_held (KillsLast last) old new log log' wire sending single later runs)
      (kill_sent (KillsLast last) old new log log' wire sending single (step.Pending later) is runs))
  kill_came k sending is single (step.Done bytes) runs heard = subst (KillsDown (ending_places sending.stage)) (sym heard) (kill_sent (KillsLast last) old new log log' wire sending single (step.Done bytes) is runs)
  kill_came k sending is single (step.Failed e) runs heard = subst (KillsDown (ending_places sending.stage)) (sym heard) (kill_sent (KillsLast last) old new log log' wire sending single (step.Failed e) is runs)

  left_falls : (k : ClosingStream) → kill_left k ≡ last_kill last → KillsLeft old new log log' wire k r → KillsDown 1 r
  left_falls k is (closings.nothing_left none nothing answer) = subst (KillsDown 1) (sym answer) (tried_still (KillsLast last) log log' 1 0 nothing.log_same (omega arith))
  left_falls k is (closings.not_built some e by nothing answer) = subst (KillsDown 1) (sym answer) (tried_still (KillsLast last) log log' 1 0 nothing.log_same (omega arith))
  left_falls k is (closings.kills_all some sending new_one h) = subst (λ (n : ℕ). KillsDown n r) (ap ending_places new_one.new) (kill_came k sending (new_one.command_is ∙ is) new_one.single h.came h.runs h.hears)

  -- the killing of what is left, once at most
  pub closing_falls : (k : ClosingStream) → kill_left k ≡ last_kill last → IsLast k.cursor.doing k.opened k.doing → IsSoundClosing k → ClosesStream old new log log' wire k r → KillsDown (landing_places k.doing) r
  closing_falls k is alone sound (closings.begins at quiet h) = subst (λ (n : ℕ). KillsDown n r) (sym (ap landing_places at)) (left_falls (record k { cursor = at_rest k.cursor }) is h)
  closing_falls k is alone sound (closings.lands_more at sending asks_so b came left poll runs hears behind) = absurd (subst (λ (d : cursors.Doing). IsLast d k.opened closings.lands) asks_so (subst (IsLast k.cursor.doing k.opened) at alone)).0
  closing_falls k is alone sound (closings.lands_opening sending at b came runs behind) = absurd (subst (IsLast k.cursor.doing k.opened) at alone)
  closing_falls k is alone sound (closings.lands_closing before at b came polls behind) = absurd (subst (IsLast k.cursor.doing k.opened) at alone)
  closing_falls k is alone sound (closings.goes_on sending at h) =
      let own = (subst (LandsSoundly k) at sound).1 in
      subst (λ (n : ℕ). KillsDown n r) (sym (ap landing_places at)) (kill_came k sending (own.command_is ∙ is) own.single h.came h.runs h.hears)
