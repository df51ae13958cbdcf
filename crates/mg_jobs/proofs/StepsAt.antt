-- The steps of a legal history by their positions.
use Rattle.std.proofs.Common.{◌≡◌, ◌≤◌, ◌<◌, ◌+◌, ℕ, zero, suc, ℤ, true, false, List, [], ◌∷◌, length, take, Some, sym, ap, ◌∙◌, subst, inl, inr, arith}
use Rattle.std.specs.Prelude.{slice_get}
use Rattle.std.proofs.lemmas.Bool.{cases_lt}
use Rattle.mg_server.specs.Commands.{asked}
use Rattle.mg_server.specs.History.{IsLegal, Step, state_after, state_of, step_after, told_at}
use Rattle.mg_link.specs.Log.{Call}
use Rattle.mg_server.specs.Standing.{OpensId, Stands}
use Rattle.mg_server.specs.State.{State, nothing}
use Rattle.mg_server.specs.Step.{May}
use Rattle.mg_server.proofs.Histories.{state_after-append}
use Rattle.mg_server.proofs.Later.{Later, later_refl, later_step, later_trans, opens_given, opens_new, respects_of}
use Rattle.mg_link.proofs.Places.{get_some, get_within, take_more}
use Rattle.mg_players.proofs.Prompting.{lawful_at}

-- the state behind a step
pub next_state : (history : List Step) (p : ℕ) (step : Step) → slice_get history p ≡ Some step → state_of (take (suc p) history) ≡ step_after (state_of (take p history)) step
unfolding state_after
next_state history p step there = ap state_of (take_more history p step there) ∙ state_after-append nothing (take p history) (step ∷ [])

pub may_at : (history : List Step) (p : ℕ) (step : Step) → IsLegal history → slice_get history p ≡ Some step → May (state_of (take p history)) (asked step.command) (told_at step) step.made
may_at history p step legal there = (lawful_at history p step legal there).may

module _ (history : List Step) (legal : IsLegal history) where
  abbrev at_place : ℕ → State
  at_place p = state_of (take p history)

  later_one : (p : ℕ) → p < length history → Later (at_place p) (at_place (suc p))
  later_one p less =
      let step = get_some history p less in
      subst (Later (at_place p)) (sym (next_state history p step.0 step.1)) (later_step (at_place p) step.0 (respects_of (take p history)) (may_at history p step.0 legal step.1))

  later_by : (p n : ℕ) → p + n ≤ length history → Later (at_place p) (at_place (p + n))
  later_by p zero within = let same : p + 0 ≡ p = omega arith in subst (λ (q : ℕ). Later (at_place p) (at_place q)) (sym same) (later_refl (at_place p))
  later_by p (suc n) within =
      let next : p + suc n ≡ suc (p + n) = omega arith in
      subst (λ (q : ℕ). Later (at_place p) (at_place q)) (sym next) (later_trans (at_place p) (at_place (p + n)) (at_place (suc (p + n))) (later_by p n (omega (arith, within))) (later_one (p + n) (omega (arith, within))))

  -- no state forgets what one before it had
  pub later_place : (p q : ℕ) → p ≤ q → q ≤ length history → Later (at_place p) (at_place q)
  later_place p q less within =
      let n : (k : ℕ) × (p + k ≡ q) = apart p q less in
      let long = n.1 in
      subst (λ (r : ℕ). Later (at_place p) (at_place r)) n.1 (later_by p n.0 (omega (arith, long, within)))
    where
      apart : (p q : ℕ) → p ≤ q → (k : ℕ) × (p + k ≡ q)
      apart zero q less = (q, omega arith)
      apart (suc p) zero less = absurd (omega (arith, less))
      apart (suc p) (suc q) less = let k = apart p q (omega (arith, less)) in let is = k.1 in (k.0, omega (arith, is))

  never_later : (p q : ℕ) (a b : Step) (x : ℤ) → p < q → slice_get history p ≡ Some a → slice_get history q ≡ Some b → OpensId (told_at a) x → OpensId (told_at b) x → ⊥
  never_later p q a b x less here there first second =
      let within = get_within history q b there in
      let given = subst (λ (s : State). s.given x ≡ true) (sym (next_state history p a here)) (opens_given (at_place p) a x (may_at history p a legal here) first) in
      let still = (later_place (suc p) q less (omega (arith, within))).given x given in
      let bad : true ≡ false = sym still ∙ opens_new (at_place q) b x (may_at history q b legal there) second in
      cc

  -- no two steps open the same cursor
  pub opened_once : (p q : ℕ) (a b : Step) (x : ℤ) → slice_get history p ≡ Some a → slice_get history q ≡ Some b → OpensId (told_at a) x → OpensId (told_at b) x → p ≡ q
  opened_once p q a b x here there first second =
      elim (cases_lt p q) [
        | inl less ↦ absurd (never_later p q a b x less here there first second)
        | inr more ↦ elim (cases_lt q p) [
          | inl less ↦ absurd (never_later q p b a x less there here second first)
          | inr also ↦ omega (arith, more, also)
        ]
      ]

-- no two calls have the same position
pub placed_once : (calls : List Call) (history : List Step) → Stands calls history → (i j : ℕ) (a b : Call) (p : ℕ) → slice_get calls i ≡ Some a → slice_get calls j ≡ Some b → a.position ≡ Some p → b.position ≡ Some p → i ≡ j
placed_once calls history stands i j a b p here there first second =
    elim (cases_lt i j) [
      | inl less ↦ (let bad = stands.rising i j a b p p less here there first second in absurd (omega (arith, bad)))
      | inr more ↦ elim (cases_lt j i) [
        | inl less ↦ (let bad = stands.rising j i b a p p less there here second first in absurd (omega (arith, bad)))
        | inr also ↦ omega (arith, more, also)
      ]
    ]
