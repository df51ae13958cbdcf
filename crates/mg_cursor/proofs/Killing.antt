-- The polls of a closing: what they keep of the link, and what comes behind the getMore on its way.
use Rattle.std.proofs.Common.{◌≡◌, ℕ, ℤ, Bool, true, false, List, Option, Some, None, refl, sym, ap, subst}
use Rattle.mg_link.specs.Acts.{EndsAtOnce, FailsByFault, Pended, ticket_after}
use Rattle.mg_link.specs.Exec.{Sending, ticket_at, ticket_of}
use Rattle.mg_link.specs.Link.{Awaited, LogTold}
use Rattle.mg_link.specs.Moment.{Ending, IsAtOnce, LinkKeeps, LosesByFault, Moment, PendsJust, step_ending}
use Rattle.mg_link.specs.declared.action.Step.{Step}
use Rattle.mg_link.specs.declared.action.Step.TheVariants as step
use Rattle.mg_link.specs.declared.error.Error.{Error}
use Rattle.mg_link.proofs.Moments.{keeps_on}
use Rattle.mg_steps.specs.Cursors.{KillsIf}
use Rattle.mg_cursor.specs.Client.{ClientCursor, IsNew, IsOver, MayAsk, client_ticket, kill, rests, ticket_by}
use Rattle.mg_cursor.specs.Closing.{BehindFailure, BehindMore, ClosesBy, ClosingCursor, ClosingPolls, IsKilling, KillsCursor, LandsIn, begins, closed, heard, lands, quiet}
use Rattle.mg_cursor.specs.Polling.{Hears, ReadsReply, broke, gave}
use Rattle.mg_cursor.specs.declared.polls.NextPoll.{NextPoll}
use Rattle.mg_cursor.specs.declared.polls.NextPoll.TheVariants as next
use Rattle.mg_cursor.proofs.Hearing.{keeps_from}

-- ---- the clauses of an action, from what its poll keeps

pub pended_step : {S T : Type 0} (ticket : S → Option ℕ) (r : Step S T) (before now : ℕ) → PendsJust (step_ending r) (ticket_after ticket r) before now → Pended ticket r before now
pended_step ticket (step.Pending s) before now h = h
pended_step ticket (step.Done t) before now h = h
pended_step ticket (step.Failed e) before now h = h

pub lost_step : {S T : Type 0} (r : Step S T) (before now : ℕ) → LosesByFault (step_ending r) before now → FailsByFault r before now
lost_step (step.Pending s) before now h = h
lost_step (step.Done t) before now h = h
lost_step (step.Failed e) before now h = h

pub at_once_step : {S T : Type 0} (r : Step S T) → IsAtOnce (step_ending r) → EndsAtOnce r
at_once_step (step.Pending s) h = h
at_once_step (step.Done t) h = h
at_once_step (step.Failed e) h = h

-- ---- whether it is killed

pub to_kill : (c : ClientCursor) (kills : Bool) → kills ≡ true → KillsIf kills c.id c.pinned → MayAsk c
to_kill c kills is means = subst (λ (b : Bool). KillsIf b c.id c.pinned) is means

pub spared : (c : ClientCursor) (kills : Bool) → kills ≡ false → KillsIf kills c.id c.pinned → IsOver c
spared c kills is means = subst (λ (b : Bool). KillsIf b c.id c.pinned) is means

-- ---- a cursor whose getMore landed

read_rest : (c : ClientCursor) (reply : List ℕ) (c' : ClientCursor) (r : NextPoll) → ReadsReply c reply c' r → c'.doing ≡ rests
read_rest c reply c' r (gave said says is answer) = ap (λ (x : ClientCursor). x.doing) is
read_rest c reply c' r (broke e fails is answer) = ap (λ (x : ClientCursor). x.doing) is

heard_rest : (c : ClientCursor) (came : Step Sending (List ℕ)) (c' : ClientCursor) (r : NextPoll) → (r ≡ next.Pending → ⊥) → Hears c came c' r → c'.doing ≡ rests
heard_rest c (step.Pending sending) c' r ended h = absurd (ended h.1)
heard_rest c (step.Done reply) c' r ended h = read_rest c reply c' r h
heard_rest c (step.Failed e) c' r ended h = ap (λ (x : ClientCursor). x.doing) h.0

pub lands_rest : (old new : Awaited) (log log' : LogTold) (wire : ℤ) (c c' : ClientCursor) (r : NextPoll) → (r ≡ next.Pending → ⊥) → LandsIn old new log log' wire c c' r → c'.doing ≡ rests
lands_rest old new log log' wire c c' r ended (quiet not same_awaited same_log is answer) = ap (λ (x : ClientCursor). x.doing) is
lands_rest old new log log' wire c c' r ended (heard sending at came runs hears) = heard_rest c came c' r ended hears

-- the killing behind it keeps what both keep
pub keeps_behind : (m mid m' : Moment) (ticket ticket' : Option ℕ) (left : ClientCursor) (first outcome : Ending) → left.doing ≡ rests → LinkKeeps m mid ticket (client_ticket left) first → mid.pends ≡ m.pends → LinkKeeps mid m' None ticket' outcome → LinkKeeps m m' ticket ticket' outcome
keeps_behind m mid m' ticket ticket' left first outcome is k same j =
    keeps_on m mid m' ticket (client_ticket left) ticket' first outcome k same (keeps_from mid m' None (client_ticket left) ticket' outcome (sym (ap ticket_by is)) j)

-- ---- what comes behind it

module _ (old mid new : Awaited) (log log_mid log' : LogTold) (wire wire' : ℤ) (same_wire : wire' ≡ wire) (c left : ClientCursor) (r : Step ClosingCursor (Unit {0})) where
  pub lands_behind : (p : NextPoll) → (p ≡ next.End → ⊥) → LandsIn old mid log log_mid wire c left p → BehindMore mid new log_mid log' wire left p r → ClosingPolls old new log log' wire (closed c) r
  lands_behind p other (quiet not same_awaited same_log is answer) behind = absurd (other answer)
  lands_behind p other (heard sending at came runs hears) behind =
      lands refl sending at (record { between = mid; log_between = log_mid; came = came; runs = runs; left = left; poll = p; hears = hears; behind = behind })

  kills_over : KillsCursor mid new log_mid log' wire' left r → KillsCursor mid new log_mid log' wire left r
  kills_over h = subst (λ (w : ℤ). KillsCursor mid new log_mid log' w left r) same_wire h

  -- a batch came
  pub batch_behind : (bytes : List ℕ) → LandsIn old mid log log_mid wire c left (next.Batch bytes) → KillsCursor mid new log_mid log' wire' left r → ClosingPolls old new log log' wire (closed c) r
  batch_behind bytes landed kills_it = lands_behind (next.Batch bytes) (λ e. cc) landed (kills_over kills_it)

  -- it failed
  pub failed_behind : (e : Error) → LandsIn old mid log log_mid wire c left (next.Failed e) → BehindFailure mid new log_mid log' wire' left e r → ClosingPolls old new log log' wire (closed c) r
  failed_behind e landed fails = lands_behind (next.Failed e) (λ f. cc) landed (subst (λ (w : ℤ). BehindFailure mid new log_mid log' w left e r) same_wire fails)

  -- nothing was on its way
  none_heard : (came : Step Sending (List ℕ)) → Hears c came left next.End → ⊥
  none_heard (step.Pending sending) h = let bad : next.End ≡ next.Pending = h.1 in cc
  none_heard (step.Done reply) h = none_read reply h
    where
      none_read : (reply : List ℕ) → ReadsReply c reply left next.End → ⊥
      none_read reply (gave said says is answer) = cc
      none_read reply (broke e fails is answer) = cc
  none_heard (step.Failed e) h = let bad : next.End ≡ next.Failed e = h.1 in cc

  pub quiet_behind : LandsIn old mid log log_mid wire c left next.End → KillsCursor mid new log_mid log' wire' left r → ClosingPolls old new log log' wire (closed c) r
  quiet_behind (quiet not same_awaited same_log is answer) kills_it =
      begins refl not
      (subst (λ (x : ClientCursor). KillsCursor old new log log' wire x r) is
      (subst (λ (l : LogTold). KillsCursor old new l log' wire left r) same_log
      (subst (λ (a : Awaited). KillsCursor a new log_mid log' wire left r) same_awaited (kills_over kills_it))))
  quiet_behind (heard sending at came runs hears) kills_it = absurd (none_heard came hears)

-- it pends still
pub pending_behind : (old mid : Awaited) (log log_mid : LogTold) (wire : ℤ) (c left : ClientCursor) → LandsIn old mid log log_mid wire c left next.Pending → ClosingPolls old mid log log_mid wire (closed c) (step.Pending (closed left))
pending_behind old mid log log_mid wire c left landed =
    lands_behind old mid mid log log_mid log_mid wire wire refl c left (step.Pending (closed left)) next.Pending (λ e. cc) landed (record { rest = λ m. refl; log_same = refl }, refl)

-- ---- a closing as it is seen

-- the parts of what is on its way
pub closes_as : (c : ClientCursor) (o : Option Sending) (sending : Sending) → o ≡ Some sending → ClosesBy c o → IsKilling c sending
closes_as c o sending is h = subst (ClosesBy c) is h

pub closes_first : (c : ClientCursor) (o : Option Sending) → o ≡ None → ClosesBy c o → ClosesBy c None
closes_first c o is h = subst (ClosesBy c) is h

-- a command that was not sent holds no ticket
pub new_ticket : (command : ClientCursor) (sending : Sending) → IsNew (kill command) sending → ticket_of sending ≡ None
new_ticket c sending h = ap ticket_at h.new
