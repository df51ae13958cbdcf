-- Whose calls are polled in the turns of a run.
use Rattle.std.proofs.Common.{◌≡◌, ◌+◌, ◌≤◌, ℕ, zero, suc, ℤ, List, [], ◌∷◌, ◌++◌, length, Option, Some, Result, Ok, Err, IfOk, refl, sym, ap, ◌∙◌, subst, take, arith, append_assoc}
use Rattle.std.specs.Prelude.{slice_get}
use Rattle.std.specs.List.{sum_by}
use Rattle.std.proofs.lemmas.List.{append-nil, take_all}
use Rattle.mg_link.specs.Causes.{one_if}
use Rattle.mg_link.specs.Link.{Awaited, Polls, SamePolls, LogTold}
use Rattle.mg_link.specs.Log.{Call}
use Rattle.mg_link.specs.declared.error.Error.{Error}
use Rattle.mg_server.proofs.Owners.{same_some}
use Rattle.mg_players.specs.Causes.{AllPollOwn, IsPolledIn, in_turn, before_it, PollOwnFrom, PollsOwn, SentIn, SentNoneBehind, course}
use Rattle.mg_turns.specs.Counts.{IsNewest, NewestAt, sent_last, was_held, PolledBy, StartedBy}
use Rattle.mg_players.specs.Drawing.{HaveDrawn, first_id}
use Rattle.mg_players.specs.Puts.{Supply}
use Rattle.mg_players.specs.Progress.{AllAt, IsAt, calls_of, pends_last, turns_done}
use Rattle.mg_players.specs.Telling.{AllTell, JobTold}
use Rattle.mg_script.specs.Plan.{Task}
use Rattle.mg_script.specs.declared.outcome.Played.{Played}
use Rattle.mg_turns.specs.declared.turned.Turned.{Turned}
use Rattle.mg_players.specs.declared.player.Player.{Player}
use Rattle.mg_players.proofs.Knowing.{get_length, one_more, take_next}
use Rattle.mg_turns.proofs.OwnTickets.{polled_map}
use Rattle.mg_players.specs.Playing.{job_ticket}
use Rattle.mg_jobs.proofs.Waiting.{job_own, job_pended}

-- ---- one turn

-- the newest call of a turn is the newest one that its job sent
polled_in : (supply : Supply) (first : ℕ) (old : Awaited) (mid new : List Call) (wire : ℤ) (calls : List Call) (order : List ℕ) (notes : List Turned) (j : ℕ) (p : Player) (at : Option ℕ) (asks : ℕ) (note : Turned) (place : ℕ) → JobTold supply first old mid wire (course calls order notes) j p at
    → IsAt asks p (turns_done j order notes) (pends_last j order notes) → ((n : ℕ) → job_ticket p ≡ Some n → old n ≡ Some place → SentNoneBehind (course calls order notes) j place)
    → length mid ≡ length calls + sum_by (λ (t : Turned). t.started) notes → length new ≡ length mid + note.started → NewestAt (job_ticket p) old mid new place → IsPolledIn calls order notes j note place
polled_in supply first old mid new wire calls order notes j p at asks note place told is none count more (sent_last less last) = in_turn (omega (arith, less, more)) (omega (arith, count, more, last))
polled_in supply first old mid new wire calls order notes j p at asks note place told is none count more (was_held same n holds out) =
    let own = job_own supply first old mid wire (course calls order notes) j p at n told holds in
    before_it (omega (arith, same, more)) (job_pended asks p (turns_done j order notes) (pends_last j order notes) n is holds)
    (record { done = own.done; sent = subst (λ m. SentIn (course calls order notes) j own.done m) (same_some own.place place (sym own.at ∙ out)) own.sent; newest = none n holds out })

-- The call that was polled is the newest one that the turn's job sent.
pub polls_turn : (supply : Supply) (given : ℕ → List ℕ) (old : Awaited) (log log' : LogTold) (wire : ℤ) (ts : List Task) (order : List ℕ) (notes : List Turned) (players : List Player) (j : ℕ) (p : Player) (note : Turned) (polls polls' : Polls) (begun : LogTold) → slice_get players j ≡ Some p → StartedBy note.started log log'
    → AllAt ts order notes players → HaveDrawn supply.ids given ts order players → AllTell supply old begun log wire ts order notes players → PolledBy (one_if note.pended) (IsNewest (job_ticket p) old log log') polls polls' → PollsOwn begun order notes j note polls polls'
polls_turn supply given old log log' wire ts order notes players j p note polls polls' begun at started all drawn tell polled calls told =
    let run = tell calls told in
    let t = get_length ts players drawn.jobs j p at in
    let count = run.3.count in
    let s = started run.0 run.1 in
    polled_map (one_if note.pended) (IsNewest (job_ticket p) old log log') (IsPolledIn calls order notes j note) polls polls'
    (λ place own.
    let it = own run.0 run.1 in
    let same : it.0 ≡ s.0 = same_some it.0 s.0 (sym it.1 ∙ s.1) in
    polled_in supply (first_id ts order j) old run.0 s.0 wire calls order notes j p (run.2.places j) (calls_of t.0) note place (run.3.each j t.0 p t.1 at) (all j t.0 p t.1 at) (λ n holds out. run.3.newest j p n place at holds out) count s.2
    (subst (λ (c : List Call). NewestAt (job_ticket p) old run.0 c place) same it.2))
    polled

-- ---- turn by turn

polled_from : (n : ℕ) (own : ℕ → Type 0) (before mid now : Polls) → SamePolls before mid → PolledBy n own mid now → PolledBy n own before now
polled_from zero own before mid now same p = λ place. p place ∙ same place
polled_from (suc n) own before mid now same p = (p.0, polled_from n own before mid p.0 same p.1, p.2)

-- one turn more
pub polls_more : (calls : List Call) (gone : List ℕ) (noted : List Turned) (order : List ℕ) (notes : List Turned) (i : ℕ) (note : Turned) (before mid now : Polls) → length order ≡ length notes → PollOwnFrom calls gone noted order notes before mid
    → PolledBy (one_if note.pended) (IsPolledIn calls (gone ++ order) (noted ++ notes) i note) mid now → PollOwnFrom calls gone noted (order ++ i ∷ []) (notes ++ note ∷ []) before now
polls_more calls gone noted [] [] i note before mid now abreast first polled = (
  now,
  polled_from (one_if note.pended) (IsPolledIn calls gone noted i note) before mid now first
      (subst (λ (g : List ℕ). PolledBy (one_if note.pended) (IsPolledIn calls g noted i note) mid now) (append-nil gone) (subst (λ (ns : List Turned). PolledBy (one_if note.pended) (IsPolledIn calls (gone ++ []) ns i note) mid now) (append-nil noted) polled)),
  λ place. refl,
)
polls_more calls gone noted [] (y ∷ notes) i note before mid now abreast first polled = absurd (omega (arith, abreast))
polls_more calls gone noted (x ∷ order) [] i note before mid now abreast first polled = absurd (omega (arith, abreast))
polls_more calls gone noted (x ∷ order) (y ∷ notes) i note before mid now abreast first polled = (
  first.0,
  first.1,
  polls_more calls (gone ++ x ∷ []) (noted ++ y ∷ []) order notes i note first.0 mid now (omega (arith, abreast)) first.2
      (subst (λ (g : List ℕ). PolledBy (one_if note.pended) (IsPolledIn calls g ((noted ++ y ∷ []) ++ notes) i note) mid now) (sym (append_assoc gone (x ∷ []) order))
      (subst (λ (ns : List Turned). PolledBy (one_if note.pended) (IsPolledIn calls (gone ++ x ∷ order) ns i note) mid now) (sym (append_assoc noted (y ∷ []) notes)) polled)),
)

-- the turn of this number was taken too
pub polls_next : (begun : LogTold) (order : List ℕ) (k i : ℕ) (notes : List Turned) (note : Turned) (before mid now : Polls) → slice_get order k ≡ Some i → length (take k order) ≡ length notes → AllPollOwn begun (take k order) notes before mid → PollsOwn begun (take k order) notes i note mid now → AllPollOwn begun (take (k + 1) order) (notes ++ note ∷ []) before now
polls_next begun order k i notes note before mid now there abreast all polled calls told =
    subst (λ (ns : List ℕ). PollOwnFrom calls [] [] ns (notes ++ note ∷ []) before now) (sym (take_next order k i there) ∙ ap (λ m. take m order) (one_more k))
    (polls_more calls [] [] (take k order) notes i note before mid now abreast (all calls told) (polled calls told))

pub polls_whole : (begun : LogTold) (order : List ℕ) (k : ℕ) (notes : List Turned) (before now : Polls) → length order ≤ k → AllPollOwn begun (take k order) notes before now → AllPollOwn begun order notes before now
polls_whole begun order k notes before now over all = subst (λ (ns : List ℕ). AllPollOwn begun ns notes before now) (take_all k order over) all

-- the same of a run, unless memory ran out
pub polls_so : (played : Result Played Error) (log : LogTold) (order : List ℕ) (notes : List Turned) (before now : Polls) → IfOk played (λ p. p.turns.items ≡ notes) → AllPollOwn log order notes before now → IfOk played (λ p. AllPollOwn log order p.turns.items before now)
polls_so (Ok p) log order notes before now same all = subst (λ (ts : List Turned). AllPollOwn log order ts before now) (sym same) all
polls_so (Err e) log order notes before now same all = tt
