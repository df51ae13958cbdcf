-- What a store in memory kept is a legal history.
use Rattle.std.proofs.Common.{◌≡◌, ℕ, ℤ, pos, negsuc, zero, suc, ◌+◌, ◌<◌, ◌^◌, Bool, true, false, List, [], ◌∷◌, ◌++◌, length, refl, sym, ap, ◌∙◌, subst, inr, arith, length-append}
use Rattle.std.proofs.lemmas.Bool.{le-ltb}
use Rattle.mg_server.specs.State.{State, nothing}
use Rattle.mg_server.specs.History.{Step, step_after, state_after, IsLegal, IsLegalFrom}
use Rattle.mg_server.specs.Events.{TellsItsInserts}
use Rattle.mg_server.specs.Kept.{Kept, made_of, given_after, step_of, state_behind, steps_from, steps_of, state_of_kept, given_from, given_of, started_from, is_started, Follows, by_rules, by_choice, AreByRulesFrom, IsByRules, is_given, IsStoreState, IsAllowed}
use Rattle.mg_server.proofs.Histories.{step_after-changes, state_after-changes, state_after-append}
use Rattle.mg_server.proofs.Allowed.{rules_allowed, refusal_allowed}

-- ---- an empty store

none_given : (id : ℤ) → false ≡ is_given 0 id
none_given (pos zero) = refl
none_given (pos (suc n)) = sym (le-ltb n 0 (omega arith))
none_given (negsuc n) = refl

pub nothing_is : IsStoreState nothing 0 false
nothing_is = record { entries_are = tt; tokens_are = λ token. refl; ids_are = none_given; cursors_are = λ id c there. absurd cc; time_is = inr (refl, refl); empty_before = λ e. refl }

-- ---- one step more

started_true : (kept : List Kept) → started_from true kept ≡ true
started_true [] = refl
started_true (k ∷ kept) = refl

pub steps_from-append : (s : State) (given : ℕ) (started : Bool) (xs ys : List Kept) → steps_from s given started (xs ++ ys) ≡ steps_from s given started xs ++ steps_from (state_after s (steps_from s given started xs)) (given_from given xs) (started_from started xs) ys
unfolding steps_from state_after given_from
steps_from-append s given started [] ys = refl
steps_from-append s given started (x ∷ xs) ys =
    let rest = steps_from-append (state_behind s given started x) (given_after given x) true xs ys in
    let started_is = started_true xs in
    ap (λ (l : List Step). step_of s given started x ∷ l) (rest ∙ ap (λ (b : Bool). steps_from (state_behind s given started x) (given_after given x) true xs ++ steps_from (state_after (state_behind s given started x) (steps_from (state_behind s given started x) (given_after given x) true xs)) (given_from (given_after given x) xs) b ys) started_is)

-- the history with one step more
pub steps_push : (kept : List Kept) (k : Kept) → steps_of (kept ++ k ∷ []) ≡ steps_of kept ++ step_of (state_of_kept kept) (given_of kept) (is_started kept) k ∷ []
unfolding steps_from
steps_push kept k = steps_from-append nothing 0 false kept (k ∷ [])

pub state_push : (kept : List Kept) (k : Kept) → state_of_kept (kept ++ k ∷ []) ≡ state_behind (state_of_kept kept) (given_of kept) (is_started kept) k
unfolding state_after
state_push kept k = ap (state_after nothing) (steps_push kept k) ∙ state_after-append nothing (steps_of kept) (step_of (state_of_kept kept) (given_of kept) (is_started kept) k ∷ [])

pub given_push : (given : ℕ) (kept : List Kept) (k : Kept) → given_from given (kept ++ k ∷ []) ≡ given_after (given_from given kept) k
unfolding given_from
given_push given [] k = refl
given_push given (x ∷ kept) k = given_push (given_after given x) kept k

by_rules_more : (s : State) (given : ℕ) (started : Bool) (kept : List Kept) (k : Kept) → AreByRulesFrom s given started kept → Follows (state_after s (steps_from s given started kept)) (given_from given kept) k → AreByRulesFrom s given started (kept ++ k ∷ [])
unfolding AreByRulesFrom steps_from state_after given_from
by_rules_more s given started [] k h follows = (follows, tt)
by_rules_more s given started (x ∷ kept) k h follows = (h.0, by_rules_more (state_behind s given started x) (given_after given x) true kept k h.1 follows)

pub by_rules_push : (kept : List Kept) (k : Kept) → IsByRules kept → Follows (state_of_kept kept) (given_of kept) k → IsByRules (kept ++ k ∷ [])
by_rules_push kept k h follows = by_rules_more nothing 0 false kept k h follows

-- ---- legal

pub follows_allowed : (s : State) (given : ℕ) (started : Bool) (kept : Kept) → IsStoreState s given started → length s.changes + length (made_of s given started kept).entries < 2 ^ 64 → Follows s given kept → IsAllowed s given started kept
follows_allowed s given started kept h lt (by_rules is) = rules_allowed s given started kept h lt is.read_back
follows_allowed s given started kept h lt (by_choice code labels is) = refusal_allowed s given started kept code labels h lt is.read_back

-- no entry is lost, so what fits at the end fits before
pub fits_before : (s : State) (step : Step) (steps : List Step) → length (state_after s (step ∷ steps)).changes < 2 ^ 64 → length s.changes + length step.made.entries < 2 ^ 64
unfolding state_after
fits_before s step steps lt =
    let later = state_after-changes (step_after s step) steps in
    let a : length (state_after (step_after s step) steps).changes ≡ length (step_after s step).changes + length later.0 = ap length later.1 ∙ length-append (step_after s step).changes later.0 in
    let b : length (step_after s step).changes ≡ length s.changes + length step.made.entries = ap length (step_after-changes s step) ∙ length-append s.changes step.made.entries in
    omega arith

pub record Goes (s : State) (given : ℕ) (started : Bool) (kept : List Kept) : Type 0 where
  pub legal : IsLegalFrom s (steps_from s given started kept)
  pub tells : TellsItsInserts (steps_from s given started kept)
  pub state : IsStoreState (state_after s (steps_from s given started kept)) (given_from given kept) (started_from started kept)

goes_on : (s : State) (given : ℕ) (started : Bool) (kept : List Kept) → IsStoreState s given started → AreByRulesFrom s given started kept → length (state_after s (steps_from s given started kept)).changes < 2 ^ 64 → Goes s given started kept
unfolding IsLegalFrom TellsItsInserts AreByRulesFrom steps_from state_after given_from
goes_on s given started [] h by lt = record { legal = tt; tells = tt; state = h }
goes_on s given started (k ∷ kept) h by lt =
    let fits = fits_before s (step_of s given started k) (steps_from (state_behind s given started k) (given_after given k) true kept) lt in
    let now = follows_allowed s given started k h fits by.0 in
    let later = goes_on (state_behind s given started k) (given_after given k) true kept now.stays by.1 lt in
    record { legal = (now.may, later.legal); tells = (now.tells, later.tells); state = subst (λ (b : Bool). IsStoreState (state_after (state_behind s given started k) (steps_from (state_behind s given started k) (given_after given k) true kept)) (given_from (given_after given k) kept) b) (started_true kept) later.state }

pub kept_is_legal : (kept : List Kept) → IsByRules kept → length (state_of_kept kept).changes < 2 ^ 64 → IsLegal (steps_of kept)
kept_is_legal kept by lt = (goes_on nothing 0 false kept nothing_is by lt).legal

-- its events tell of the documents that it wrote
pub kept_tells : (kept : List Kept) → IsByRules kept → length (state_of_kept kept).changes < 2 ^ 64 → TellsItsInserts (steps_of kept)
kept_tells kept by lt = (goes_on nothing 0 false kept nothing_is by lt).tells

-- and the store stands in a state of its kind
pub kept_state : (kept : List Kept) → IsByRules kept → length (state_of_kept kept).changes < 2 ^ 64 → IsStoreState (state_of_kept kept) (given_of kept) (is_started kept)
kept_state kept by lt = (goes_on nothing 0 false kept nothing_is by lt).state
