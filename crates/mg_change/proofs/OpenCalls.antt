-- What a call that opens a stream comes to, poll by poll.
use Rattle.std.proofs.Common.{◌≡◌, ◌⊎◌, ◌+◌, ◌-◌, ◌≤◌, ◌<◌, ℕ, zero, suc, ℤ, Bool, true, false, List, [], ◌∷◌, length, Option, Some, None, refl, sym, ap, ◌∙◌, subst, inl, inr, arith}
use Rattle.mg_link.specs.Acts.{FailsByFault, PendsBy, Tickets, ticket_after}
use Rattle.mg_server.specs.Calls.{Grows, Past, past_of}
use Rattle.mg_link.specs.Causes.{Rose, RoseJust}
use Rattle.mg_link.specs.Exec.{Sending}
use Rattle.mg_server.specs.Follow.{Follow, Moved}
use Rattle.mg_link.specs.Link.{Awaited, Later, LogTold}
use Rattle.mg_link.specs.Log.{Call}
use Rattle.mg_server.specs.Owner.{IsOf}
use Rattle.mg_link.specs.Moment.{LinkKeeps, Moment, step_ending}
use Rattle.mg_link.specs.Session.{Session, after_command, moved_on}
use Rattle.mg_server.specs.State.{Start, Watch}
use Rattle.mg_link.specs.declared.action.Step.{Step}
use Rattle.mg_link.specs.declared.action.Step.TheVariants as step
use Rattle.mg_link.specs.declared.session.TransactionState.{TransactionState}
use Rattle.mg_link.specs.declared.session.TransactionState.TheVariants as states
use Rattle.mg_server.proofs.Calls.{keeps_longer, keeps_on, same_keeps}
use Rattle.mg_server.proofs.Moves.{moved, stayed}
use Rattle.mg_link.proofs.Onward.{later_on, polled_once_more, tickets_on}
use Rattle.mg_link.proofs.Places.{get_within}
use Rattle.mg_ops.specs.Failing.{FailsBy}
use Rattle.mg_ops.specs.declared.change_stream.WatchArgs.{WatchArgs}
use Rattle.mg_cursor.specs.Seeking.{session_moved, times}
use Rattle.mg_cursor.proofs.Killing.{at_once_step, lost_step, pended_step}
use Rattle.mg_change.specs.ClientOpenings.{ClientOpening, HearsOpening, IsSoundOpening, OpensStream, begins, broke, first_aggregate, goes_on, not_built, opened, seen_step}
use Rattle.mg_change.specs.ClientStreams.{Asks, ClientStream, IsNewAggregate, resuming_in}
use Rattle.mg_change.specs.Following.{OpeningMoves, OpensTo, follow_of, not_open, opening_in}
use Rattle.mg_change.specs.OpenedStreams.{CallOpens, OpenBegins, OpenCaused, OpenKeeps, OpenMoves}
use Rattle.mg_change.specs.OpeningCauses.{OpeningCame, OpeningCaused, OpensSoFar}
use Rattle.mg_change.specs.Steps.{CannotResume}
use Rattle.mg_change.proofs.OpenSends.{OpenSends, open_sent, sends_none, sends_on}
use Rattle.mg_change.proofs.Opened.{opens_moved}
use Rattle.mg_change.proofs.OpeningCauses.{opened_grows, opening_fails_grows, opens_caused, opens_grows}
use Rattle.mg_change.proofs.Resting.{opened_args, opened_between, opening_args}

-- ---- places

-- so many places, from one on
abbrev places_from : ℕ → ℕ → List ℕ
places_from at zero = []
places_from at (suc n) = at ∷ places_from (suc at) n

is_from : (at n place : ℕ) → IsOf (places_from at n) place → at ≤ place
is_from at zero place of = absurd of
is_from at (suc n) place (inl e) = omega (arith, e)
is_from at (suc n) place (inr of) = let low = is_from (suc at) n place of in omega (arith, low)

at_or_behind : (a b : ℕ) → a ≤ b → (a ≡ b) ⊎ (suc a ≤ b)
at_or_behind zero zero h = inl refl
at_or_behind zero (suc b) h = inr (omega arith)
at_or_behind (suc a) zero h = absurd (omega arith)
at_or_behind (suc a) (suc b) h = elim (at_or_behind a b (omega arith)) [ inl e ↦ inl (ap suc e) | inr behind ↦ inr (omega (arith, behind)) ]

from_is : (at n place : ℕ) → at ≤ place → place < at + n → IsOf (places_from at n) place
from_is at zero place low high = absurd (omega arith)
from_is at (suc n) place low high = elim (at_or_behind at place low) [ inl e ↦ inl e | inr behind ↦ inr (from_is (suc at) n place behind (omega arith)) ]

-- ---- what was sent since the call began

-- as of the next poll, it stands at the places between
module _ (since : ℕ) (calls : List Call) (wire : ℤ) where
  abbrev earlier : List ℕ
  earlier = places_from since (length calls - since)

  to_earlier : Grows (past_of [] since calls wire) (past_of earlier (length calls) calls wire)
  to_earlier = record {
    own = λ place call there own. elim own [
      | inl of ↦ absurd of
      | inr low ↦ inl (from_is since (length calls - since) place low (let within = get_within calls place call there in omega (arith, low, within)))
    ];
    keeps = same_keeps calls;
    wire = refl;
  }

  from_earlier : (calls' : List Call) → since ≤ length calls → Grows (past_of earlier (length calls) calls' wire) (past_of [] since calls' wire)
  from_earlier calls' room = record {
    own = λ place call there own. elim own [
      | inl of ↦ inr (is_from since (length calls - since) place of)
      | inr low ↦ inr (omega (arith, low, room))
    ];
    keeps = same_keeps calls';
    wire = refl;
  }

came_grows : (past past' : Past) → Grows past past' → (awaited : Awaited) (session : Option Session) (args : WatchArgs) (r : Step ClientOpening ClientStream) → OpeningCame awaited past session args r → OpeningCame awaited past' session args r
came_grows past past' grows awaited session args (step.Pending o) h = opens_grows past past' grows args awaited awaited o.sending (λ n e. refl) h
came_grows past past' grows awaited session args (step.Done s) h = opened_grows past past' grows args s h
came_grows past past' grows awaited session args (step.Failed e) h = opening_fails_grows past past' grows args session e h

caused_on : (old new : Awaited) (log mid log' : LogTold) (wire : ℤ) (session : Option Session) (o : ClientOpening) (r : Step ClientOpening ClientStream) → OpenCaused old log mid wire session o.args (step.Pending o) → OpeningCaused old new mid log' wire session o r
    → OpenCaused new log log' wire session o.args r
caused_on old new log mid log' wire session o r before polled = λ calls told.
    let a = before calls told in
    let since = length calls in
    let so : OpensSoFar old (past_of (earlier since a.0 wire) (length a.0) a.0 wire) o.args o.sending =
    opens_grows (past_of [] since a.0 wire) (past_of (earlier since a.0 wire) (length a.0) a.0 wire) (to_earlier since a.0 wire) o.args old old o.sending (λ n e. refl) a.3 in
    let b = polled a.0 a.1 (earlier since a.0 wire) so in (
      b.0,
      b.1,
      keeps_on calls a.0 b.0 a.2 b.2,
      came_grows (past_of (earlier since a.0 wire) (length a.0) b.0 wire) (past_of [] since b.0 wire) (from_earlier since a.0 wire b.0 (keeps_longer calls a.0 a.2)) new session o.args r b.3,
    )

-- ---- where the watch is

moves_on : (new : Awaited) (log mid log' : LogTold) (f g : Follow) (w : Watch) (start : Start) (r : Step ClientOpening ClientStream) → Moved log mid f g → OpensTo new mid log' g w start r → OpensTo new log log' f w start r
moves_on new log mid log' f g w start (step.Pending o) before h = moved log mid log' f g (opening_in new w start o) before h
moves_on new log mid log' f g w start (step.Done s) before h = (h.0, moved log mid log' f g (follow_of new w start s h.0 []) before h.1)
moves_on new log mid log' f g w start (step.Failed e) before h = moved log mid log' f g (not_open w start) before h

-- ---- what it has for arguments

pub begins_on : (old new : Awaited) (log log' : LogTold) (wire : ℤ) (session : Option Session) (started : Bool) (o : ClientOpening) (args : WatchArgs) (r : Step ClientOpening ClientStream) → o.args ≡ args → OpensStream old new log log' wire session started o r → OpenBegins args r
begins_on old new log log' wire session started o args (step.Pending next) same opens = opening_args old new log log' wire session started o (step.Pending next) opens next refl ∙ same
begins_on old new log log' wire session started o args (step.Done s) same opens = record {
  args_are = opened_args old new log log' wire session started o (step.Done s) opens s refl ∙ same;
  rests = opened_between old new log log' wire session started o (step.Done s) opens s refl;
}
begins_on old new log log' wire session started o args (step.Failed e) same opens = tt

-- ---- all of it

-- what the polls so far came to
pub record OpenGoes (new : Awaited) (log log' : LogTold) (wire : ℤ) (session : Option Session) (args : WatchArgs) (r : Step ClientOpening ClientStream) : Type 0 where
  pub begins : OpenBegins args r
  pub caused : OpenCaused new log log' wire session args r
  pub moves : OpenMoves new log log' args r
  pub sends : OpenSends log log' wire session args r

-- nothing was polled
pub open_goes : (awaited : Awaited) (log : LogTold) (wire : ℤ) (session : Option Session) (args : WatchArgs) (o : ClientOpening) → o ≡ record { args = args; sending = None } → OpenGoes awaited log log wire session args (step.Pending o)
open_goes awaited log wire session args o is =
    subst (λ (x : ClientOpening). OpenGoes awaited log log wire session args (step.Pending x)) (sym is)
    (record {
      begins = refl;
      caused = λ calls told. (calls, told, same_keeps calls, tt);
      moves = λ w start asks. stayed log log (not_open w start) refl;
      sends = sends_none log wire session args;
    })

-- one poll more
pub open_goes_on : {old new : Awaited} {log mid log' : LogTold} {wire wire' : ℤ} {session : Option Session} {args : WatchArgs} {o : ClientOpening} {r : Step ClientOpening ClientStream} → OpenGoes old log mid wire session args (step.Pending o) → wire' ≡ wire
    → (started : Bool) × OpensStream old new mid log' wire' session started o r → OpeningCaused old new mid log' wire' session o r → ((w : Watch) (start : Start) → Asks o.args w start → OpeningMoves old new mid log' w start o r) → OpenGoes new log log' wire session args r
open_goes_on {old} {new} {log} {mid} {log'} {wire} {wire'} {session} {args} {o} {r} before same_wire opens causes moves = record {
  begins = begins_on old new mid log' wire' session opens.0 o args r before.begins opens.1;
  caused =
      subst (λ (a : WatchArgs). OpenCaused new log log' wire session a r) before.begins
      (caused_on old new log mid log' wire session o r (subst (λ (a : WatchArgs). OpenCaused old log mid wire session a (step.Pending o)) (sym before.begins) before.caused)
      (subst (λ (v : ℤ). OpeningCaused old new mid log' v session o r) same_wire causes));
  moves = λ w start asks.
      moves_on new log mid log' (not_open w start) (opening_in old w start o) w start r (before.moves w start asks)
      (moves w start (subst (λ (a : WatchArgs). Asks a w start) (sym before.begins) asks));
  sends =
      subst (λ (a : WatchArgs). OpenSends log log' wire session a r) before.begins
      (sends_on old new log mid log' wire session opens.0 o r (subst (λ (a : WatchArgs). OpenSends log mid wire session a (step.Pending o)) (sym before.begins) before.sends)
      (subst (λ (v : ℤ). OpensStream old new mid log' v session opens.0 o r) same_wire opens.1));
}

pub call_opens : {new : Awaited} {log log' : LogTold} {wire : ℤ} {session : Option Session} {args : WatchArgs} {r : Step ClientOpening ClientStream} → OpenGoes new log log' wire session args r → CallOpens new log log' wire session args r
call_opens {new} {log} {log'} {wire} {session} {args} {r} h = record { begins = h.begins; sent = open_sent log log' wire session args r h.sends; caused = h.caused; moved = h.moves }

-- ---- in a session

-- the aggregate names the session as it stood when the call began
opens_as : (old new : Awaited) (log log' : LogTold) (wire : ℤ) (session now : Option Session) (started : Bool) (o : ClientOpening) (r : Step ClientOpening ClientStream) → (o.sending ≡ None → now ≡ session) → OpensStream old new log log' wire now started o r → OpensStream old new log log' wire session started o r
opens_as old new log log' wire session now started o r same (not_built none e fails nothing not_so answer) =
    not_built none e (subst (λ (s : Option Session). FailsBy (CannotResume (first_aggregate o.args) wire s) e) (same none) fails) nothing not_so answer
opens_as old new log log' wire session now started o r same (begins none sending new_one h) =
    begins none sending (subst (λ (s : Option Session). IsNewAggregate (resuming_in (first_aggregate o.args) wire s) s sending) (same none) new_one) h
opens_as old new log log' wire session now started o r same (goes_on sending is h) = goes_on sending is h

abbrev sending_in : Step ClientOpening ClientStream → Option Sending
sending_in (step.Pending o) = o.sending
sending_in (step.Done s) = None
sending_in (step.Failed e) = None

heard_sent : (wire : ℤ) (o next : ClientOpening) (came : Step Sending (List ℕ)) → HearsOpening wire o came (step.Pending next) → next.sending ≡ None → ⊥
heard_sent wire o next (step.Pending sending) h none = let bad : None ≡ Some sending = sym none ∙ ap sending_in h in absurd cc
heard_sent wire o next (step.Done bytes) (opened out opens answer) none = absurd cc
heard_sent wire o next (step.Done bytes) (broke e by answer) none = absurd cc
heard_sent wire o next (step.Failed e) h none = absurd cc

-- what pends has sent it
pub pends_sent : (old new : Awaited) (log log' : LogTold) (wire : ℤ) (session : Option Session) (started : Bool) (o next : ClientOpening) → OpensStream old new log log' wire session started o (step.Pending next) → next.sending ≡ None → ⊥
pends_sent old new log log' wire session started o next (not_built none e fails nothing not_so answer) unsent = absurd cc
pends_sent old new log log' wire session started o next (begins none sending new_one h) unsent = heard_sent wire o next h.came h.hears unsent
pends_sent old new log log' wire session started o next (goes_on sending is h) unsent = heard_sent wire o next h.came h.hears unsent

-- one poll more, of a session that has moved on once the aggregate is sent
pub open_goes_in : {old new : Awaited} {log mid log' : LogTold} {wire wire' : ℤ} {session : Option Session} {args : WatchArgs} {o : ClientOpening} {r : Step ClientOpening ClientStream} → (now : Option Session) → OpenGoes old log mid wire session args (step.Pending o) → wire' ≡ wire → (o.sending ≡ None → now ≡ session) → IsSoundOpening false o
    → (started : Bool) → OpensStream old new mid log' wire' now started o r → OpenGoes new log log' wire session args r
open_goes_in {old} {new} {log} {mid} {log'} {wire} {wire'} {session} {args} {o} {r} now before same_wire same sound started opens =
    let as_begun = opens_as old new mid log' wire' session now started o r same opens in
    open_goes_on before same_wire (started, as_begun) (opens_caused old new mid log' wire' session started o r as_begun) (λ w start asks. opens_moved old new mid log' wire' session started o r w start asks false sound as_begun)

moved_twice : (t : TransactionState) → moved_on (moved_on t) ≡ moved_on t
moved_twice states.None = refl
moved_twice states.Starting = refl
moved_twice states.InProgress = refl
moved_twice states.Committed = refl
moved_twice states.Aborted = refl

moved_already : (n : ℕ) (s : Session) → times n after_command (after_command s) ≡ after_command s
moved_already zero s = refl
moved_already (suc n) s = ap (times n after_command) (ap (λ (t : TransactionState). record s { state = t }) (moved_twice s.state)) ∙ moved_already n s

-- a session that was told so often moved on as if it was told once
pub moved_often : (n : ℕ) (s : Session) → (started : Bool) × (times n after_command s ≡ session_moved started s)
moved_often zero s = (false, refl)
moved_often (suc n) s = (true, moved_already n s)

-- ---- the same as it is seen

pub seen_open_keeps : {A B C D : Type 0} (n : ℕ) (m m' : Moment) (of : C → Option ℕ) (f : A → C) (g : B → D) (r : Step A B) (p : Step C D) → seen_step f g r ≡ p → OpenKeeps n m m' of p → OpenKeeps n m m' (λ a. of (f a)) r
seen_open_keeps {A = A} {B = B} {C = C} {D = D} n m m' of f g r p is k = by_step r (subst (OpenKeeps n m m' of) (sym is) k)
  where
    by_step : (r : Step A B) → OpenKeeps n m m' of (seen_step f g r) → OpenKeeps n m m' (λ a. of (f a)) r
    by_step (step.Pending a) k = record { tickets = k.tickets; pended = k.pended; lost = k.lost; prompt = k.prompt; later = k.later }
    by_step (step.Done b) k = record { tickets = k.tickets; pended = k.pended; lost = k.lost; prompt = k.prompt; later = k.later }
    by_step (step.Failed e) k = record { tickets = k.tickets; pended = k.pended; lost = k.lost; prompt = k.prompt; later = k.later }

-- ---- its counts

-- it pended once more
pub pended_once : (k before mid now : ℕ) → 1 ≤ k → RoseJust (k - 1) before mid → RoseJust 1 mid now → RoseJust (k + 1 - 1) before now
pended_once k before mid now low p q =
    let least = p.0 in
    let most = p.1 in
    let least_more = q.0 in
    let most_more = q.1 in
    (omega (arith, least, most, least_more, most_more, low), omega (arith, most, most_more, low))

lost_longer : {A B : Type 0} (r : Step A B) (before mid now : ℕ) → before ≤ mid → FailsByFault r mid now → FailsByFault r before now
lost_longer (step.Pending s) before mid now longer h = tt
lost_longer (step.Done t) before mid now longer h = tt
lost_longer (step.Failed e) before mid now longer h = λ io. let rose : Rose mid now = h io in omega (arith, longer, rose)

-- it ends after fewer polls
abbrev pub Ends : {A B : Type 0} → Step A B → Type 0
Ends (step.Pending s) = ⊥
Ends (step.Done t) = Unit {0}
Ends (step.Failed e) = Unit {0}

-- it pended so often before the last poll, or fewer times where it ends
pub pends_by : {A B : Type 0} (n k : ℕ) (ticket : A → Option ℕ) (r : Step A B) (before mid now : ℕ) → (k + 1 ≡ n) ⊎ (Ends r × (k + 1 ≤ n)) → RoseJust k before mid → PendsBy (k + 1) ticket r before now → PendsBy n ticket r before now
pends_by n k ticket r before mid now (inl all) rose h = subst (λ (x : ℕ). PendsBy x ticket r before now) all h
pends_by n k ticket (step.Pending s) before mid now (inr few) rose h = absurd few.0
pends_by n k ticket (step.Done t) before mid now (inr few) rose h = let less : k + 1 ≤ n = few.1 in omega (arith, less, h)
pends_by n k ticket (step.Failed e) before mid now (inr few) rose h = let less : k + 1 ≤ n = few.1 in omega (arith, less, h)

-- the last poll of the call
pub open_keeps : {A B : Type 0} (n k : ℕ) (m mid m' : Moment) (ticket : A → Option ℕ) (held : Option ℕ) (r : Step A B) → (k + 1 ≡ n) ⊎ (Ends r × (k + 1 ≤ n)) → Tickets m.awaited mid.awaited None held → RoseJust k m.pends mid.pends → Later m.faults mid.faults m.pends mid.pends m.wire mid.wire m.prompt mid.prompt
    → LinkKeeps mid m' held (ticket_after ticket r) (step_ending r) → OpenKeeps n m m' ticket r
open_keeps n k m mid m' ticket held r count tickets rose later keeps = record {
  tickets = tickets_on tickets keeps.tickets;
  pended = pends_by n k ticket r m.pends mid.pends m'.pends count rose (polled_once_more ticket (k + 1) k r m.pends mid.pends m'.pends refl rose (pended_step ticket r mid.pends m'.pends keeps.pended));
  lost = lost_longer r m.faults mid.faults m'.faults later.faults (lost_step r mid.faults m'.faults keeps.lost);
  prompt = λ promptly. at_once_step r (keeps.prompt (later.prompt promptly).stays);
  later = later_on later keeps.later;
}
