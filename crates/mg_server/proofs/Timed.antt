-- Times of entries, and the place that a time says.
use Rattle.std.proofs.Common.{◌≡◌, ℕ, suc, ◌<◌, ◌≤◌, Bool, true, false, List, [], ◌∷◌, ◌++◌, length, refl, sym, ap, ◌∙◌, subst, arith, le_trans}
use Rattle.std.specs.Prelude.{if◌then◌else◌, nat_lt}
use Rattle.std.proofs.lemmas.Bool.{le-ltb, ltb-false}
use Rattle.mg_server.specs.State.{Entry, State, nothing, count_before}
use Rattle.mg_server.specs.Commands.{asked}
use Rattle.mg_server.specs.Step.{AreWithin, May}
use Rattle.mg_server.specs.History.{Step, step_after, state_after, IsLegal, IsLegalFrom, state_of, told_at}
use Rattle.mg_server.proofs.Histories.{step_after-changes}
use Rattle.mg_server.proofs.Later.{AreFrom, grown-now, effect_keeps}

-- none of the entries has a later time
abbrev pub AreUpTo : ℕ → List Entry → Type 0
AreUpTo now [] = Unit {0}
AreUpTo now (e ∷ es) = (e.time ≤ now) × AreUpTo now es

upto_later : (a b : ℕ) (es : List Entry) → a ≤ b → AreUpTo a es → AreUpTo b es
upto_later a b [] le h = tt
upto_later a b (e ∷ es) le h = (le_trans h.0 le, upto_later a b es le h.1)

upto_joined : (now : ℕ) (xs ys : List Entry) → AreUpTo now xs → AreUpTo now ys → AreUpTo now (xs ++ ys)
upto_joined now [] ys a b = b
upto_joined now (x ∷ xs) ys a b = (a.0, upto_joined now xs ys a.1 b)

upto_within : (from upto : ℕ) (es : List Entry) → AreWithin from upto es → AreUpTo upto es
upto_within from upto [] h = tt
upto_within from upto (e ∷ es) h = (h.1, upto_within from upto es h.2)

-- no entry of a state is later than its time
abbrev pub IsTimed : State → Type 0
IsTimed s = AreUpTo s.now s.changes

pub timed_step : (s : State) (step : Step) → May s (asked step.command) (told_at step) step.made → IsTimed s → IsTimed (step_after s step)
timed_step s step may timed =
    let keeps = effect_keeps _ (asked step.command) (told_at step) in
    let now : (step_after s step).now ≡ step.made.now = keeps.now ∙ grown-now s step.made in
    let all = upto_joined step.made.now s.changes step.made.entries (upto_later s.now step.made.now s.changes may.grows.later timed) (upto_within s.now step.made.now step.made.entries may.grows.times) in
    subst (λ (n : ℕ). AreUpTo n (step_after s step).changes) (sym now) (subst (AreUpTo step.made.now) (sym (step_after-changes s step)) all)

timed_steps : (s : State) (steps : List Step) → IsLegalFrom s steps → IsTimed s → IsTimed (state_after s steps)
unfolding state_after IsLegalFrom
timed_steps s [] legal timed = timed
timed_steps s (step ∷ steps) legal timed = timed_steps (step_after s step) steps legal.1 (timed_step s step legal.0 timed)

pub timed_of : (history : List Step) → IsLegal history → IsTimed (state_of history)
timed_of history legal = timed_steps nothing history legal tt

-- ---- the place that a time says

not_before : (time now : ℕ) (es : List Entry) → time ≤ now → AreFrom now es → count_before time es ≡ 0
not_before time now [] le h = refl
not_before time now (e ∷ es) le h = ap (λ (b : Bool). if b then suc (count_before time es) else count_before time es) (le-ltb e.time time (le_trans le h.0)) ∙ not_before time now es le h.1

-- it is the same place with entries that are not before it
pub count_still : (time now : ℕ) (xs more : List Entry) → time ≤ now → AreFrom now more → count_before time (xs ++ more) ≡ count_before time xs
count_still time now [] more le h = not_before time now more le h
count_still time now (x ∷ xs) more le h = ap (λ (n : ℕ). if nat_lt x.time time then suc n else n) (count_still time now xs more le h)

past_if : (b : Bool) (time now : ℕ) (x : Entry) (xs : List Entry) → nat_lt x.time time ≡ b → x.time ≤ now → (count_before time xs < length xs → time ≤ now) → (if b then suc (count_before time xs) else count_before time xs) < suc (length xs) → time ≤ now
past_if true time now x xs is le rest lt = rest (omega arith)
past_if false time now x xs is le rest lt = le_trans (ltb-false x.time time is) le

-- a time that does not say the end has passed
pub past_by : (time now : ℕ) (xs : List Entry) → AreUpTo now xs → count_before time xs < length xs → time ≤ now
past_by time now [] h lt = absurd (omega arith)
past_by time now (x ∷ xs) h lt = past_if (nat_lt x.time time) time now x xs refl h.0 (past_by time now xs h.1) lt
