-- A front of a log stands in a front of the history.
use Rattle.std.proofs.Common.{◌≡◌, ◌⊎◌, ℕ, ℤ, zero, suc, ◌+◌, ◌<◌, ◌≤◌, List, [], ◌∷◌, ◌++◌, length, Option, Some, None, refl, sym, ap, ◌∙◌, subst, inl, inr, take, arith}
use Rattle.std.specs.Prelude.{slice_get}
use Rattle.mg_link.specs.Log.{Sight, waiting, reply, Call, see}
use Rattle.mg_server.specs.Commands.{asked}
use Rattle.mg_server.specs.History.{Step, IsLegal, IsLegalFrom, step_after}
use Rattle.mg_server.specs.State.{State, nothing}
use Rattle.mg_server.specs.Standing.{Stands, GivenTo, SeenFits, Names, first_of, first_position, cut, history_before}
use Rattle.mg_link.proofs.Places.{get_front, get_back, get_within, get_either, get_take, taken_below}

-- ---- a front of a legal history is legal

pub legal_take : (s : State) (n : ℕ) (steps : List Step) → IsLegalFrom s steps → IsLegalFrom s (take n steps)
unfolding IsLegalFrom
legal_take s zero steps l = tt
legal_take s (suc n) [] l = tt
legal_take s (suc n) (step ∷ steps) l = (l.0, legal_take (step_after s step) n steps l.1)

-- ---- the first call that has a position

-- no call of the list has a position
abbrev pub HaveNone : List Call → Type 0
HaveNone cs = (j : ℕ) (d : Call) (q : ℕ) → slice_get cs j ≡ Some d → d.position ≡ Some q → ⊥

pub record First (cs : List Call) (p : ℕ) : Type 0 where
  pub at : ℕ
  pub call : Call
  pub found : slice_get cs at ≡ Some call
  pub placed : call.position ≡ Some p
  pub least : (j : ℕ) (d : Call) (q : ℕ) → slice_get cs j ≡ Some d → d.position ≡ Some q → at ≤ j

none_more : (c : Call) (cs : List Call) → c.position ≡ None → HaveNone cs → HaveNone (c ∷ cs)
none_more c cs e h zero d q found placed = let same : c ≡ d = cc in let p = ap (λ (x : Call). x.position) same in cc
none_more c cs e h (suc j) d q found placed = h j d q found placed

first_here : (c : Call) (cs : List Call) (p : ℕ) → c.position ≡ Some p → First (c ∷ cs) p
first_here c cs p e = record { at = 0; call = c; found = refl; placed = e; least = λ j d q f g. omega arith }

first_least : (c : Call) (cs : List Call) (p : ℕ) (first : First cs p) → c.position ≡ None → (j : ℕ) (d : Call) (q : ℕ) → slice_get (c ∷ cs) j ≡ Some d → d.position ≡ Some q → suc first.at ≤ j
first_least c cs p first e zero d q found placed = let same : c ≡ d = cc in let o = ap (λ (x : Call). x.position) same in cc
first_least c cs p first e (suc j) d q found placed = let i = first.least j d q found placed in omega arith

first_later : (c : Call) (cs : List Call) (p : ℕ) → c.position ≡ None → First cs p → First (c ∷ cs) p
first_later c cs p e first = record { at = suc first.at; call = first.call; found = first.found; placed = first.placed; least = first_least c cs p first e }

pub data Firsts (cs : List Call) : Type 0 where
  no_first : first_position cs ≡ None → HaveNone cs → Firsts cs
  a_first : (p : ℕ) → first_position cs ≡ Some p → First cs p → Firsts cs

firsts_by : (c : Call) (cs : List Call) (o : Option ℕ) → c.position ≡ o → Firsts cs → Firsts (c ∷ cs)
firsts_by c cs (Some p) e rest = a_first p (ap (λ (x : Option ℕ). first_of x (first_position cs)) e) (first_here c cs p e)
firsts_by c cs None e (no_first f h) = no_first (ap (λ (x : Option ℕ). first_of x (first_position cs)) e ∙ f) (none_more c cs e h)
firsts_by c cs None e (a_first p f first) = a_first p (ap (λ (x : Option ℕ). first_of x (first_position cs)) e ∙ f) (first_later c cs p e first)

pub firsts : (cs : List Call) → Firsts cs
firsts [] = no_first refl (λ j d q found placed. cc)
firsts (c ∷ cs) = firsts_by c cs c.position refl (firsts cs)

-- ---- what a front of the log knows of the whole

-- the steps of the calls stand in the front of the history, and no step there is one of the calls left out
pub record Parts (calls later : List Call) (history before : List Step) : Type 0 where
  pub kept : (k : ℕ) (call : Call) (p : ℕ) → slice_get calls k ≡ Some call → call.position ≡ Some p → slice_get before p ≡ slice_get history p
  pub inside : (p : ℕ) (step : Step) → slice_get before p ≡ Some step → slice_get history p ≡ Some step
  pub not_later : (p : ℕ) (step : Step) (j : ℕ) (d : Call) → slice_get before p ≡ Some step → slice_get later j ≡ Some d → d.position ≡ Some p → ⊥

abbrev front_given : (calls later : List Call) (history before : List Step) (x : ℤ) → Parts calls later history before → GivenTo calls before x → GivenTo (calls ++ later) history x
front_given calls later history before x parts g = record {
  at = g.at;
  position = g.position;
  step = g.step;
  took = record {
    call = g.took.call;
    found = get_front calls later g.at g.took.call g.took.found;
    placed = g.took.placed;
    there = parts.inside g.position g.step g.took.there;
  };
  opens = g.opens;
}

front_alone : (calls later : List Call) (history before : List Step) → Parts calls later history before → Stands (calls ++ later) history → (p : ℕ) (step : Step) (x : ℤ) → slice_get before p ≡ Some step → Names (asked step.command) x → (g : GivenTo calls before x) → g.position < p → (k : ℕ) × (call : Call) × (slice_get calls k ≡ Some call) × (call.position ≡ Some p)
front_alone calls later history before parts stands p step x there names g lt =
    let found = stands.alone p step x (parts.inside p step there) names (front_given calls later history before x parts g) lt in
    elim (get_either calls later found.0 found.1 found.2) [
      | inl here ↦ (found.0, found.1, here, found.3)
      | inr there_later ↦ absurd (parts.not_later p step there_later.0 found.1 there there_later.1 found.3)
    ]

pub front_by : (calls later : List Call) (history before : List Step) → Parts calls later history before → Stands (calls ++ later) history → Stands calls before
front_by calls later history before parts stands = record {
  rising = λ i j a b p q lt f g. stands.rising i j a b p q lt (get_front calls later i a f) (get_front calls later j b g);
  same = λ k call p found placed.
      let old = stands.same k call p (get_front calls later k call found) placed in
      (old.0, parts.kept k call p found placed ∙ old.1, old.2, old.3);
  placed = λ k call bytes found. stands.placed k call bytes (get_front calls later k call found);
  alone = front_alone calls later history before parts stands;
}

whole_parts : (calls later : List Call) (history : List Step) → HaveNone later → Parts calls later history history
whole_parts calls later history none = record {
  kept = λ k call p found placed. refl;
  inside = λ p step found. found;
  not_later = λ p step j d there found placed. none j d p found placed;
}

-- the position of a call of the front is below that of the first call behind it
below_first : (calls later : List Call) (history : List Step) (n : ℕ) (first : First later n) → Stands (calls ++ later) history → (k : ℕ) (call : Call) (p : ℕ) → slice_get calls k ≡ Some call → call.position ≡ Some p → p < n
below_first calls later history n first stands k call p found placed =
    let within = get_within calls k call found in
    stands.rising k (length calls + first.at) call first.call p n (omega arith) (get_front calls later k call found) (get_back calls later first.at first.call first.found) placed first.placed

le_cases : (a b : ℕ) → a ≤ b → (a ≡ b) ⊎ (a < b)
le_cases zero zero h = inl refl
le_cases zero (suc b) h = inr (omega arith)
le_cases (suc a) zero h = absurd (omega arith)
le_cases (suc a) (suc b) h = elim (le_cases a b (omega arith)) [ inl e ↦ inl (ap suc e) | inr l ↦ inr (omega arith) ]

one_position : (c d : Call) (p q : ℕ) → Some d ≡ Some c → c.position ≡ Some q → d.position ≡ Some p → p ≡ q
one_position c d p q same placed at = let one : d ≡ c = cc in let o = ap (λ (x : Call). x.position) one in cc

-- no call behind it has a position below
not_below : (calls later : List Call) (history : List Step) (n : ℕ) (first : First later n) → Stands (calls ++ later) history → (p : ℕ) (j : ℕ) (d : Call) → p < n → slice_get later j ≡ Some d → d.position ≡ Some p → ⊥
not_below calls later history n first stands p j d lt found placed =
    elim (le_cases first.at j (first.least j d p found placed)) [
      | inl same ↦
          let here : slice_get later j ≡ Some first.call = subst (λ i. slice_get later i ≡ Some first.call) same first.found in
          let p_is = one_position first.call d p n (sym found ∙ here) first.placed placed in
          omega arith
      | inr more ↦
          let up = stands.rising (length calls + first.at) (length calls + j) first.call d n p (omega arith) (get_back calls later first.at first.call first.found) (get_back calls later j d found) first.placed placed in
          omega arith
    ]

cut_parts : (calls later : List Call) (history : List Step) (n : ℕ) → First later n → Stands (calls ++ later) history → Parts calls later history (take n history)
cut_parts calls later history n first stands = record {
  kept = λ k call p found placed. get_take n history p (below_first calls later history n first stands k call p found placed);
  inside = λ p step found. sym (get_take n history p (taken_below n history p step found)) ∙ found;
  not_later = λ p step j d there found placed. not_below calls later history n first stands p j d (taken_below n history p step there) found placed;
}

front_cut : (calls later : List Call) (history : List Step) (o : Option ℕ) → Firsts later → first_position later ≡ o → IsLegal history → Stands (calls ++ later) history → IsLegal (cut o history) × Stands calls (cut o history)
front_cut calls later history None (no_first e none) f legal stands = (legal, front_by calls later history history (whole_parts calls later history none) stands)
front_cut calls later history None (a_first p e first) f legal stands = absurd cc
front_cut calls later history (Some n) (no_first e none) f legal stands = absurd cc
front_cut calls later history (Some n) (a_first p e first) f legal stands =
    let same : p ≡ n = cc in
    let first = subst (First later) same first in
    (legal_take nothing n history legal, front_by calls later history (take n history) (cut_parts calls later history n first stands) stands)

pub front_stands : (calls later : List Call) (history : List Step) → IsLegal history → Stands (calls ++ later) history → IsLegal (history_before later history) × Stands calls (history_before later history)
front_stands calls later history legal stands = front_cut calls later history (first_position later) (firsts later) refl legal stands

-- ---- less seen

pub record Unseen (old new : Call) : Type 0 where
  pub command : new.command ≡ old.command
  pub position : new.position ≡ old.position
  pub seen : (new.seen ≡ old.seen) ⊎ (new.seen ≡ waiting)

see_get : (place : ℕ) (calls : List Call) (k : ℕ) (call : Call) → slice_get (see place waiting calls) k ≡ Some call → (old : Call) × (slice_get calls k ≡ Some old) × Unseen old call
see_get place [] k call h = cc
see_get zero (c ∷ calls) zero call h = let same : record c { seen = waiting } ≡ call = cc in (c, refl, record { command = ap (λ (x : Call). x.command) (sym same); position = ap (λ (x : Call). x.position) (sym same); seen = inr (ap (λ (x : Call). x.seen) (sym same)) })
see_get zero (c ∷ calls) (suc k) call h = (call, h, record { command = refl; position = refl; seen = inl refl })
see_get (suc place) (c ∷ calls) zero call h = (call, h, record { command = refl; position = refl; seen = inl refl })
see_get (suc place) (c ∷ calls) (suc k) call h = see_get place calls k call h

see_back : (place : ℕ) (calls : List Call) (k : ℕ) (old : Call) → slice_get calls k ≡ Some old → (call : Call) × (slice_get (see place waiting calls) k ≡ Some call) × (call.position ≡ old.position)
see_back place [] k old h = cc
see_back zero (c ∷ calls) zero old h = let same : c ≡ old = cc in (record c { seen = waiting }, refl, ap (λ (x : Call). x.position) same)
see_back zero (c ∷ calls) (suc k) old h = (old, h, refl)
see_back (suc place) (c ∷ calls) zero old h = (old, h, refl)
see_back (suc place) (c ∷ calls) (suc k) old h = see_back place calls k old h

unseen_fits : (old new : Sight) (given : List ℕ) → (new ≡ old) ⊎ (new ≡ waiting) → SeenFits old given → SeenFits new given
unseen_fits old new given (inl e) fits = subst (λ (s : Sight). SeenFits s given) (sym e) fits
unseen_fits old new given (inr e) fits = subst (λ (s : Sight). SeenFits s given) (sym e) tt

heard_before : (old new : Sight) (bytes : List ℕ) → (new ≡ old) ⊎ (new ≡ waiting) → new ≡ reply bytes → old ≡ reply bytes
heard_before old new bytes (inl e) h = sym e ∙ h
heard_before old new bytes (inr e) h = absurd cc

abbrev unseen_given : (calls : List Call) (history : List Step) (place : ℕ) (x : ℤ) → GivenTo (see place waiting calls) history x → GivenTo calls history x
unseen_given calls history place x g =
    let old = see_get place calls g.at g.took.call g.took.found in
    record { at = g.at; position = g.position; step = g.step; took = record { call = old.0; found = old.1; placed = sym old.2.position ∙ g.took.placed; there = g.took.there }; opens = g.opens }

unseen_rising : (calls : List Call) (history : List Step) (place : ℕ) → Stands calls history → (i j : ℕ) (a b : Call) (p q : ℕ) → i < j → slice_get (see place waiting calls) i ≡ Some a → slice_get (see place waiting calls) j ≡ Some b → a.position ≡ Some p → b.position ≡ Some q → p < q
unseen_rising calls history place stands i j a b p q lt f g placed placed' =
    let a' = see_get place calls i a f in
    let b' = see_get place calls j b g in
    stands.rising i j a'.0 b'.0 p q lt a'.1 b'.1 (sym a'.2.position ∙ placed) (sym b'.2.position ∙ placed')

unseen_same : (calls : List Call) (history : List Step) (place : ℕ) → Stands calls history → (k : ℕ) (call : Call) (p : ℕ) → slice_get (see place waiting calls) k ≡ Some call → call.position ≡ Some p → (step : Step) × (slice_get history p ≡ Some step) × (step.command ≡ call.command) × SeenFits call.seen step.reply
unseen_same calls history place stands k call p found placed =
    let old = see_get place calls k call found in
    let same = stands.same k old.0 p old.1 (sym old.2.position ∙ placed) in
    (same.0, same.1, same.2 ∙ sym old.2.command, unseen_fits old.0.seen call.seen same.0.reply old.2.seen same.3)

unseen_placed : (calls : List Call) (history : List Step) (place : ℕ) → Stands calls history → (k : ℕ) (call : Call) (bytes : List ℕ) → slice_get (see place waiting calls) k ≡ Some call → call.seen ≡ reply bytes → (p : ℕ) × (call.position ≡ Some p)
unseen_placed calls history place stands k call bytes found heard =
    let old = see_get place calls k call found in
    let placed = stands.placed k old.0 bytes old.1 (heard_before old.0.seen call.seen bytes old.2.seen heard) in
    (placed.0, old.2.position ∙ placed.1)

unseen_alone : (calls : List Call) (history : List Step) (place : ℕ) → Stands calls history → (p : ℕ) (step : Step) (x : ℤ) → slice_get history p ≡ Some step → Names (asked step.command) x → (g : GivenTo (see place waiting calls) history x) → g.position < p → (k : ℕ) × (call : Call) × (slice_get (see place waiting calls) k ≡ Some call) × (call.position ≡ Some p)
unseen_alone calls history place stands p step x there names g lt =
    let found = stands.alone p step x there names (unseen_given calls history place x g) lt in
    let new = see_back place calls found.0 found.1 found.2 in
    (found.0, new.0, new.1, new.2 ∙ found.3)

pub unseen_stands : (calls : List Call) (history : List Step) (place : ℕ) → Stands calls history → Stands (see place waiting calls) history
unseen_stands calls history place stands = record {
  rising = unseen_rising calls history place stands;
  same = unseen_same calls history place stands;
  placed = unseen_placed calls history place stands;
  alone = unseen_alone calls history place stands;
}
