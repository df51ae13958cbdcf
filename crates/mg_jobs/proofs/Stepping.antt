-- A link that alone uses its store goes on doing so.
use Rattle.std.proofs.Common.{◌≡◌, ◌⊎◌, ℕ, zero, suc, ◌<◌, List, [], ◌∷◌, ◌++◌, length, Option, Some, None, Ok, Err, Result, refl, sym, ap, ◌∙◌, subst, inl, inr, arith, length-append}
use Rattle.std.specs.Prelude.{slice_get}
use Rattle.mg_server.specs.Kept.{Kept}
use Rattle.mg_link.specs.Link.{Awaited, PollMeans}
use Rattle.mg_link.specs.Log.{Sight, Call, see}
use Rattle.mg_link.specs.declared.link.LinkError.{LinkError}
use Rattle.mg_link.specs.declared.link.LinkError.TheVariants as errors
use Rattle.mg_link.specs.declared.link.Polled.{Polled}
use Rattle.mg_link.specs.declared.link.Polled.TheVariants as polled
use Rattle.mg_link.specs.declared.link.Ticket.{Ticket}
use Rattle.mg_link.proofs.Places.{get_front, get_seam}
use Rattle.mg_store.specs.InMemory.{StartedAs, Takes, sent_call}
use Rattle.mg_store.specs.Stored.{Stored}
use Rattle.mg_store.specs.declared.fate.FateKind.{FateKind}
use Rattle.mg_store.specs.declared.fate.FateKind.TheVariants as kinds
use Rattle.mg_jobs.specs.Fated.{AreItsSteps}

-- a call more
steps_kept : (history : List Kept) (calls : List Call) (call : Call) → AreItsSteps history calls → AreItsSteps history (calls ++ call ∷ [])
steps_kept history calls call steps p lt = let s = steps p lt in (s.0, s.1, get_front calls (call ∷ []) s.0 s.1 s.2, s.3)

last_or : (n p : ℕ) → p < suc n → (p < n) ⊎ (p ≡ n)
last_or zero zero lt = inr refl
last_or zero (suc p) lt = inl (omega arith)
last_or (suc n) zero lt = inl (omega arith)
last_or (suc n) (suc p) lt = let rest : p < suc n = omega arith in elim (last_or n p rest) [ inl below ↦ inl (omega arith) | inr is ↦ inr (ap suc is) ]

-- with the step that it took
steps_added : (history : List Kept) (kept : Kept) (calls : List Call) (call : Call) → call.position ≡ Some (length history) → AreItsSteps history calls → AreItsSteps (history ++ kept ∷ []) (calls ++ call ∷ [])
steps_added history kept calls call placed steps p lt =
    let joined = length-append history (kept ∷ []) in
    let one : length (kept ∷ []) ≡ 1 = refl in
    let below : p < suc (length history) = omega (arith, lt, joined, one) in
    elim (last_or (length history) p below) [
      | inl old ↦ steps_kept history calls call steps p old
      | inr is ↦ (length calls, call, get_seam calls [] call, placed ∙ ap Some (sym is))
    ]

-- by what the fate says is performed
takes_steps : (kind : FateKind) (old new : Stored) (command : List ℕ) (come : Option (List ℕ)) (calls : List Call) → Takes kind old new command come → AreItsSteps old.history calls → AreItsSteps new.history (calls ++ sent_call kind old.history command ∷ [])
takes_steps kinds.Keep old new command (Some given) calls takes steps = subst (λ (h : List Kept). AreItsSteps h (calls ++ sent_call kinds.Keep old.history command ∷ [])) (sym takes.history) (steps_added old.history (record { command = command; reply = given }) calls (sent_call kinds.Keep old.history command) refl steps)
takes_steps kinds.Keep old new command None calls takes steps = absurd takes
takes_steps kinds.Lose old new command (Some given) calls takes steps = absurd takes
takes_steps kinds.Lose old new command None calls takes steps = subst (λ (h : List Kept). AreItsSteps h (calls ++ sent_call kinds.Lose old.history command ∷ [])) (sym takes.1.history) (steps_added old.history (record { command = command; reply = takes.0 }) calls (sent_call kinds.Lose old.history command) refl steps)
takes_steps kinds.Drop old new command (Some given) calls takes steps = absurd takes
takes_steps kinds.Drop old new command None calls takes steps = subst (λ (s : Stored). AreItsSteps s.history (calls ++ sent_call kinds.Drop old.history command ∷ [])) (sym takes) (steps_kept old.history calls (sent_call kinds.Drop old.history command) steps)
takes_steps (kinds.Refuse code labels) old new command (Some given) calls takes steps = subst (λ (h : List Kept). AreItsSteps h (calls ++ sent_call (kinds.Refuse code labels) old.history command ∷ [])) (sym takes.history) (steps_added old.history (record { command = command; reply = given }) calls (sent_call (kinds.Refuse code labels) old.history command) refl steps)
takes_steps (kinds.Refuse code labels) old new command None calls takes steps = absurd takes

pub started_steps : (result : Result Ticket LinkError) (kind : FateKind) (command : List ℕ) (old new : Stored) (calls calls' : List Call) (pended pended' : List ℕ) → StartedAs result kind command old new calls calls' pended pended' → AreItsSteps old.history calls → AreItsSteps new.history calls'
started_steps (Ok number) kind command old new calls calls' pended pended' started steps = subst (λ (cs : List Call). AreItsSteps new.history cs) (sym started.calls_are) (takes_steps kind old new command started.come calls started.takes steps)
started_steps (Err errors.Fault) kind command old new calls calls' pended pended' started steps = absurd started
started_steps (Err errors.Memory) kind command old new calls calls' pended pended' started steps = subst (λ (cs : List Call). AreItsSteps new.history cs) (sym started.1) (subst (λ (s : Stored). AreItsSteps s.history calls) (sym started.0) steps)

-- a call that has seen something keeps its position
place_seen : (k : ℕ) (seen : Sight) (calls : List Call) (j : ℕ) (call : Call) (p : ℕ) → slice_get calls j ≡ Some call → call.position ≡ Some p → (call' : Call) × (slice_get (see k seen calls) j ≡ Some call') × (call'.position ≡ Some p)
place_seen k seen [] j call p there placed = absurd cc
place_seen zero seen (c ∷ calls) zero call p there placed = let e : c ≡ call = cc in (record c { seen = seen }, refl, ap (λ (d : Call). d.position) e ∙ placed)
place_seen zero seen (c ∷ calls) (suc j) call p there placed = (call, there, placed)
place_seen (suc k) seen (c ∷ calls) zero call p there placed = (call, there, placed)
place_seen (suc k) seen (c ∷ calls) (suc j) call p there placed = place_seen k seen calls j call p there placed

steps_seen : (history : List Kept) (k : ℕ) (seen : Sight) (calls calls' : List Call) → Some calls' ≡ Some (see k seen calls) → AreItsSteps history calls → AreItsSteps history calls'
steps_seen history k seen calls calls' is steps =
    let same : calls' ≡ see k seen calls = cc in
    subst (λ (cs : List Call). AreItsSteps history cs) (sym same) (λ p lt. let s = steps p lt in let r = place_seen k seen calls s.0 s.1 p s.2 s.3 in (s.0, r.0, r.1, r.2))

pub polled_steps : (history : List Kept) (old new : Awaited) (calls calls' : List Call) (number : ℕ) (result : Polled) → PollMeans old new (Some calls) (Some calls') number result → AreItsSteps history calls → AreItsSteps history calls'
polled_steps history old new calls calls' number (polled.Pending given) means steps = let same : calls' ≡ calls = (let e = means.log_same in cc) in subst (λ (cs : List Call). AreItsSteps history cs) (sym same) steps
polled_steps history old new calls calls' number (polled.Reply bytes) means steps = let s = means.sees calls refl in steps_seen history s.0 _ calls calls' s.5 steps
polled_steps history old new calls calls' number polled.Failed means steps = let s = means.sees calls refl in steps_seen history s.0 _ calls calls' s.5 steps
polled_steps history old new calls calls' number polled.Memory means steps = let s = means.sees calls refl in steps_seen history s.0 _ calls calls' s.5 steps
