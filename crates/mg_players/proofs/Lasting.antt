-- The closing of a stream at rest stays one, from poll to poll.
use Rattle.std.proofs.Common.{◌≡◌, ℕ, ℤ, pos, List, [], Option, sym, ap, ◌∙◌, subst}
use Rattle.std.specs.Prelude.{◌≢◌}
use Rattle.mg_bson.specs.Raw.{fields}
use Rattle.mg_bson.specs.Tree.{Tree}
use Rattle.mg_link.specs.Exec.{Runs, Sending, Stage, IsFirstTry}
use Rattle.mg_link.specs.Link.{Awaited, LogTold}
use Rattle.mg_server.specs.State.{Start, Watch}
use Rattle.mg_link.specs.declared.action.Step.{Step}
use Rattle.mg_link.specs.declared.action.Step.TheVariants as step
use Rattle.mg_link.proofs.Waits.{waits_still}
use Rattle.mg_cursor.specs.Client.{WaitsFor, at_rest}
use Rattle.mg_cursor.specs.Client as cursors
use Rattle.mg_cursor.specs.Closing.{IsNotAsking}
use Rattle.mg_change.specs.ClosingStreams.{ClosesStream, ClosingStream, HearsKill, IsSoundClosing, KillsLeft, Landing, LandsFor, LandsForBy, LandsSoundly, ids_left, kill_left}
use Rattle.mg_change.specs.ClosingStreams as closings
use Rattle.mg_players.specs.Playing.{IsLast}

-- the closing and what it lands on keep what they have to
abbrev pub Lasts : ClosingStream → Type 0
Lasts k = IsLast k.cursor.doing k.opened k.doing × IsSoundClosing k

-- nothing on its way is of the stream but the killing of its cursor
for_by : (w : Watch) (start : Start) (token : Option Tree) (c : cursors.Doing) (opened : ℤ) (d : Landing) → IsLast c opened d → LandsForBy w start token d
for_by w start token c opened closings.lands last = tt
for_by w start token c opened (closings.lands_aggregate sending) last = absurd last
for_by w start token c opened (closings.lands_replaced before) last = absurd last
for_by w start token c opened (closings.ends sending) last = tt

pub last_for : (w : Watch) (start : Start) (token : Option Tree) (k : ClosingStream) → Lasts k → LandsFor w start token k
last_for w start token k last = for_by w start token k.cursor.doing k.opened k.doing last.0

-- ---- a poll that pends

abbrev IsPending : Step ClosingStream (Unit {0}) → Type 0
IsPending (step.Pending k) = Unit {0}
IsPending (step.Done t) = ⊥
IsPending (step.Failed e) = ⊥

same_pending : (j k : ClosingStream) → ◌≡◌ {A = Step ClosingStream (Unit {0})} (step.Pending j) (step.Pending k) → j ≡ k
same_pending j k is = cc

module _ (old new : Awaited) (log log' : LogTold) (wire : ℤ) (k' : ClosingStream) where
  -- the killing waits
  heard_lasts : (k : ClosingStream) (sending : Sending) (came : Step Sending (List ℕ)) → IsNotAsking k.cursor.doing → k.opened ≡ pos 0 → ids_left k ≢ [] → WaitsFor (kill_left k) sending → Runs old new log log' wire sending came → HearsKill k came (step.Pending k') → Lasts k'
  heard_lasts k sending (step.Pending waiting) quiet alone some own runs h =
      let w = waits_still old new log log' wire sending waiting own.single own.first_try runs in
      subst Lasts (sym (same_pending k' (record k { doing = closings.ends waiting }) h))
      ((quiet, alone), (quiet, record { command_is = ap fields w.same_command ∙ own.command_is; single = w.same_retries ∙ own.single; first_try = subst IsFirstTry (sym w.waits_by) tt }, some))
  heard_lasts k sending (step.Done bytes) quiet alone some own runs h = absurd (subst IsPending h tt)
  heard_lasts k sending (step.Failed e) quiet alone some own runs h = absurd (subst IsPending h tt)

  left_lasts : (k : ClosingStream) → IsNotAsking k.cursor.doing → k.opened ≡ pos 0 → KillsLeft old new log log' wire k (step.Pending k') → Lasts k'
  left_lasts k quiet alone (closings.nothing_left none nothing answer) = absurd (subst IsPending answer tt)
  left_lasts k quiet alone (closings.not_built some e by nothing answer) = absurd (subst IsPending answer tt)
  left_lasts k quiet alone (closings.kills_all some sending new_one h) =
      heard_lasts k sending h.came quiet alone some (record { command_is = new_one.command_is; single = new_one.single; first_try = subst (λ (stage : Stage). IsFirstTry stage) (sym new_one.new) tt }) h.runs h.hears

  alone_by : (c : cursors.Doing) (opened : ℤ) (d : Landing) → IsLast c opened d → opened ≡ pos 0
  alone_by c opened closings.lands last = last.1
  alone_by c opened (closings.lands_aggregate sending) last = absurd last
  alone_by c opened (closings.lands_replaced before) last = absurd last
  alone_by c opened (closings.ends sending) last = last.1

  pub still_lasts : (k : ClosingStream) → Lasts k → ClosesStream old new log log' wire k (step.Pending k') → Lasts k'
  still_lasts k last (closings.begins at quiet h) = left_lasts (record k { cursor = at_rest k.cursor }) tt (alone_by k.cursor.doing k.opened k.doing last.0) h
  still_lasts k last (closings.lands_more at sending asks_so b came left poll runs hears behind) = absurd (subst (λ (d : cursors.Doing). IsLast d k.opened closings.lands) asks_so (subst (IsLast k.cursor.doing k.opened) at last.0)).0
  still_lasts k last (closings.lands_opening sending at b came runs behind) = absurd (subst (IsLast k.cursor.doing k.opened) at last.0)
  still_lasts k last (closings.lands_closing before at b came polls behind) = absurd (subst (IsLast k.cursor.doing k.opened) at last.0)
  still_lasts k last (closings.goes_on sending at h) =
      let own = subst (LandsSoundly k) at last.1 in
      heard_lasts k sending h.came own.0 (alone_by k.cursor.doing k.opened k.doing last.0) own.2 own.1 h.runs h.hears
