-- How the store of a run goes on step by step, where every fate keeps its command: by its rules, over modest entries, and each watch's cursor stands until it is killed.
use Rattle.std.proofs.Common.{◌≡◌, ◌≢◌, ◌≤◌, ◌<◌, ◌+◌, ◌++◌, ℕ, zero, suc, ℤ, pos, true, List, [], ◌∷◌, length, take, Contains, Option, Some, refl, sym, ap, ◌∙◌, subst, arith}
use Rattle.std.specs.Prelude.{option_map, slice_get, slice_index_or}
use Rattle.mg_bson.specs.Raw.{fields}
use Rattle.mg_server.specs.Commands.{asked, asks_watch}
use Rattle.mg_server.specs.History.{IsLegal, Step, state_of, step_after, told_at}
use Rattle.mg_server.specs.Kept.{AreStoreEntries, IsByRules as AreByRules, Kept, given_of, state_of_kept, steps_of}
use Rattle.mg_link.specs.Log.{Call, fault}
use Rattle.mg_server.specs.Prompt.{AnswersAtOnce, HoldsBackNone, IsRefused}
use Rattle.mg_server.specs.Rules.{answer_of}
use Rattle.mg_server.specs.Standing.{OpensId, Stands}
use Rattle.mg_server.specs.State.{Entry, Start, State, Watch}
use Rattle.mg_server.proofs.Later.{opens_given}
use Rattle.mg_link.proofs.Places.{get_some, get_within}
use Rattle.mg_store.specs.InMemory.{AreAsFates, AreKept, SeesWhatComes, coming, reply_at}
use Rattle.mg_store.specs.declared.fate.Fate.{Fate}
use Rattle.mg_store.proofs.Sending.{length-steps}
use Rattle.mg_store.proofs.Standing.{get_seam, same_some}
use Rattle.mg_jobs.specs.Fated.{AreItsSteps}
use Rattle.mg_jobs.proofs.Added.{AreModestEntries, kept_modest}
use Rattle.mg_jobs.proofs.Mild.{IsMildCommand}
use Rattle.mg_players.proofs.Prompting.{IsPrompted, prompted}
use Rattle.mg_jobs.proofs.Refusing.{step_by, took}
use Rattle.mg_jobs.proofs.StepsAt.{later_place, may_at, next_state}
use Rattle.mg_jobs.proofs.Tokened.{kept_stored}
use Rattle.mg_jobs.proofs.WatchStands.{KillsIt, StandsFor, opened_stands, stays_step}

-- ---- fronts of entries

modest_front : (es fs : List Entry) → AreModestEntries (es ++ fs) → AreModestEntries es
modest_front [] fs a = tt
modest_front (e ∷ es) fs a = (a.0, modest_front es fs a.1)

stored_front : (place : ℕ) (es fs : List Entry) → AreStoreEntries place (es ++ fs) → AreStoreEntries place es
stored_front place [] fs a = tt
stored_front place (e ∷ es) fs a = (a.0, stored_front (suc place) es fs a.1)

take_all : {A : Type 0} (xs : List A) → take (length xs) xs ≡ xs
take_all [] = refl
take_all (x ∷ xs) = ap (λ ys. x ∷ ys) (take_all xs)

-- the step at a position is by the rules
pub record IsRuled (history : List Step) (p : ℕ) (step : Step) : Type 0 where
  pub given : ℕ
  pub read : fields step.reply ≡ (answer_of (state_of (take p history)) (pos (suc given)) (fields step.command)).reply

module _ (history : List Kept) (fates : List Fate) (kept : AreKept 0 fates) (calls : List Call) (pended : List ℕ) (as_fates : AreAsFates history fates calls pended) (stands : Stands calls (steps_of history)) (alone : AreItsSteps history calls)
    (ruled : AreByRules history) (mild : (p : ℕ) (k : Kept) → slice_get history p ≡ Some k → IsMildCommand (fields k.command)) (legal : IsLegal (steps_of history)) (prompt : HoldsBackNone (steps_of history)) where
  abbrev pub steps : List Step
  steps = steps_of history

  abbrev pub state_at : ℕ → State
  state_at p = state_of (take p steps)

  -- no call saw a fault
  pub never_fault : (k : ℕ) (call : Call) → slice_get calls k ≡ Some call → call.seen ≡ fault → ⊥
  never_fault k call there is =
      let within = get_within calls k call there in
      let counted = as_fates.counted in
      let n = get_some pended k (omega (arith, within, counted)) in
      let t = took history fates kept calls pended as_fates stands k call there in
      let comes : reply_at history call.position ≡ Some t.given = ap (reply_at history) t.placed ∙ ap (λ (h : List Kept). option_map (λ (x : Kept). x.reply) (slice_get h (length t.before))) t.these ∙ ap (option_map (λ (x : Kept). x.reply)) (get_seam t.before t.later (record { command = call.command; reply = t.given })) in
      let sees = subst (λ (f : Fate). SeesWhatComes (coming f.kind history call.position) call.seen) (kept k (omega arith)) (as_fates.each k call n.0 there n.1).sees in
      subst (SeesWhatComes (Some t.given)) is (subst (λ (o : Option (List ℕ)). SeesWhatComes o call.seen) comes sees)

  -- each step is by the rules
  pub ruled_at : (p : ℕ) (step : Step) → slice_get steps p ≡ Some step → IsRuled steps p step
  ruled_at p step at =
      let within = get_within steps p step at in
      let long = length-steps history in
      let call = alone p (omega (arith, within, long)) in
      let r = step_by history fates kept calls pended as_fates stands call.0 call.1 p step call.2 call.3 at in
      record {
        given = given_of r.before;
        read = r.replies ∙ ap (λ (s : State). (answer_of s (pos (suc (given_of r.before))) (fields call.1.command)).reply) (sym r.state_is) ∙ ap (λ (command : List ℕ). (answer_of (state_at p) (pos (suc (given_of r.before))) (fields command)).reply) (sym r.command_is);
      }

  final : state_at (length steps) ≡ state_of_kept history
  final = ap state_of (take_all steps)

  pub modest_at : (p : ℕ) → p ≤ length steps → AreModestEntries (state_at p).changes
  modest_at p within =
      let later = later_place steps legal p (length steps) within (omega arith) in
      modest_front (state_at p).changes later.more (subst AreModestEntries (ap (λ (s : State). s.changes) (sym final) ∙ later.changes) (kept_modest history ruled mild))

  pub stored_at : (p : ℕ) → p ≤ length steps → AreStoreEntries 0 (state_at p).changes
  stored_at p within =
      let later = later_place steps legal p (length steps) within (omega arith) in
      stored_front 0 (state_at p).changes later.more (subst (AreStoreEntries 0) (ap (λ (s : State). s.changes) (sym final) ∙ later.changes) (kept_stored history mild))

  -- ---- one step

  only_here : (p position : ℕ) → Contains (p ∷ []) position → position ≡ p
  only_here p position has = by_place has.0 has.1 has.2
    where
      by_place : (k : ℕ) → k < 1 → slice_index_or (p ∷ []) k position ≡ position → position ≡ p
      by_place zero less is = sym is
      by_place (suc k) less is = absurd (omega (arith, less))

  abbrev AtOnce : ℕ → Step → Type 0
  AtOnce p step = AnswersAtOnce (state_at p) (step_after (state_at p) step) (asked step.command) (told_at step)

  prompt_here : (p : ℕ) (step : Step) → slice_get steps p ≡ Some step → (IsRefused (told_at step) → ⊥) → (position : ℕ) (step' : Step) → Contains (p ∷ []) position → slice_get steps position ≡ Some step' → IsRefused (told_at step') → ⊥
  prompt_here p step at taken position step' has there refused =
      let same : step' ≡ step = same_some step' step (sym there ∙ ap (slice_get steps) (only_here p position has) ∙ at) in
      taken (subst (λ (x : Step). IsRefused (told_at x)) same refused)

  -- one that was not refused was answered at once
  pub prompted_at : (p : ℕ) (step : Step) → slice_get steps p ≡ Some step → (IsRefused (told_at step) → ⊥) → IsPrompted step
  prompted_at p step at taken = prompted steps (p ∷ []) p step legal (prompt.each (p ∷ []) (prompt_here p step at taken)) (0, omega arith, refl) at

  at_once : (p : ℕ) (step : Step) → slice_get steps p ≡ Some step → (IsRefused (told_at step) → ⊥) → AtOnce p step
  at_once p step at taken = (prompt.each (p ∷ []) (prompt_here p step at taken) p step (0, omega arith, refl) at).0

  stands_next : (x : ℤ) (w : Watch) (p : ℕ) (step : Step) → slice_get steps p ≡ Some step → x ≢ pos 0 → (state_at p).given x ≡ true → StandsFor (state_at p) x w → (KillsIt (fields step.command) x → ⊥) → StandsFor (state_at (suc p)) x w
  stands_next x w p step at held given before spared =
      let within = get_within steps p step at in
      let r = ruled_at p step at in
      let next = next_state steps p step at in
      let none : AreModestEntries (step_after (state_at p) step).changes = subst (λ (s : State). AreModestEntries s.changes) next (modest_at (suc p) (omega (arith, within))) in
      subst (λ (s : State). StandsFor s x w) (sym next) (stays_step (state_at p) step x w (may_at steps p step legal at) given held before none (at_once p step at) (pos (suc r.given)) r.read spared)

  -- ---- from one position to another

  -- no step from one position up to another kills it
  abbrev pub IsSpared : ℤ → ℕ → ℕ → Type 0
  IsSpared x from upto = (r : ℕ) (step : Step) → from ≤ r → r < upto → slice_get steps r ≡ Some step → KillsIt (fields step.command) x → ⊥

  stands_by : (x : ℤ) (w : Watch) (q n : ℕ) → q + n ≤ length steps → x ≢ pos 0 → (state_at q).given x ≡ true → StandsFor (state_at q) x w → IsSpared x q (q + n) → StandsFor (state_at (q + n)) x w
  stands_by x w q zero within held given before spared = let same : q + 0 ≡ q = omega arith in subst (λ (p : ℕ). StandsFor (state_at p) x w) (sym same) before
  stands_by x w q (suc n) within held given before spared =
      let next : q + suc n ≡ suc (q + n) = omega arith in
      let step = get_some steps (q + n) (omega (arith, within)) in
      let now = stands_by x w q n (omega (arith, within)) held given before (λ r s low high. spared r s low (omega (arith, high))) in
      let still = (later_place steps legal q (q + n) (omega arith) (omega (arith, within))).given x given in
      subst (λ (p : ℕ). StandsFor (state_at p) x w) (sym next) (stands_next x w (q + n) step.0 step.1 held still now (spared (q + n) step.0 (omega arith) (omega arith) step.1))

  -- A cursor that an aggregate opened for a watch stands until it is killed.
  pub opened_lasts : (x : ℤ) (w : Watch) (start : Start) (q p : ℕ) (step : Step) → slice_get steps q ≡ Some step → asked step.command ≡ asks_watch w start → OpensId (told_at step) x → x ≢ pos 0 → q < p → p ≤ length steps → IsSpared x (suc q) p → StandsFor (state_at p) x w
  opened_lasts x w start q p step at asks opens held less within spared =
      let next = next_state steps q step at in
      let may = may_at steps q step legal at in
      let first = subst (λ (s : State). StandsFor s x w) (sym next) (opened_stands (state_at q) step x w start may asks opens) in
      let given = subst (λ (s : State). s.given x ≡ true) (sym next) (opens_given (state_at q) step x may opens) in
      let n : (k : ℕ) × (suc q + k ≡ p) = apart q p less in
      let long = n.1 in
      subst (λ (r : ℕ). StandsFor (state_at r) x w) n.1 (stands_by x w (suc q) n.0 (omega (arith, long, within)) held given first (λ r s low high. spared r s low (omega (arith, long, high))))
    where
      apart : (q p : ℕ) → q < p → (k : ℕ) × (suc q + k ≡ p)
      apart q zero less = absurd (omega (arith, less))
      apart zero (suc p) less = (p, omega arith)
      apart (suc q) (suc p) less = let k = apart q p (omega (arith, less)) in let is = k.1 in (k.0, omega (arith, is))
