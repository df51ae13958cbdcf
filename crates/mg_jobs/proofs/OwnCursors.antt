-- Each job of a run owns and names its own cursors alone, turn by turn.
use Rattle.std.proofs.Common.{◌≡◌, ◌⊎◌, ◌<◌, ◌≤◌, ◌+◌, ◌-◌, ◌++◌, ℕ, zero, suc, ℤ, List, [], ◌∷◌, length, Some, refl, sym, ap, ◌∙◌, subst, inl, inr, arith}
use Rattle.std.specs.Prelude.{cond, nat_eq, slice_get, slice_set}
use Rattle.std.proofs.lemmas.Bool.{cases_eq, cases_lt}
use Rattle.std.proofs.lemmas.List.Sums.{sum_by-cons}
use Rattle.mg_server.specs.Commands.{asked}
use Rattle.mg_server.specs.History.{IsLegal, Step, told_at}
use Rattle.mg_link.specs.Log.{Call}
use Rattle.mg_server.specs.Owner.{Apart, AreApart, Earlier, Holds, IsGrown, IsOf, NoneNames, Onward, Owner, Owns, Passes, by_id, by_reply, nobody}
use Rattle.mg_server.specs.Standing.{GivenTo, Names, OpensId, Stands, TookEffect}
use Rattle.mg_server.proofs.Apart.{given_of, owns_back}
use Rattle.mg_server.proofs.Owners.{same_some, took_back, took_grown}
use Rattle.mg_link.proofs.Places.{get_joined, get_set_other, get_set_same, get_some, get_within}
use Rattle.mg_server.proofs.Runs.{OwnsNothing, others_onward}
use Rattle.mg_gridfs.proofs.Fronts.{nobody_onward}
use Rattle.mg_players.specs.Causes.{Course, places_from, places_in, places_of, sent_since}
use Rattle.mg_players.specs.Owned.{AllOwn, NamesNoOthers, OwnsItsOwn}
use Rattle.mg_players.proofs.Newest.{started_in}
use Rattle.mg_players.proofs.Telling.{in_first, is_since, since_is}
use Rattle.mg_players.proofs.Whole.{places_other, places_own}
use Rattle.mg_turns.specs.declared.turned.Turned.{Turned}
use Rattle.mg_jobs.proofs.PlacesRise.{of_cond, of_either}
use Rattle.mg_jobs.proofs.StepsAt.{opened_once, placed_once}

-- ---- places

is_of : (ps : List ℕ) (p : ℕ) → IsOf ps p ⊎ (IsOf ps p → ⊥)
is_of [] p = inr (λ of. of)
is_of (q ∷ ps) p = elim (cases_eq q p) [
  | inl same ↦ inl (inl same)
  | inr other ↦ elim (is_of ps p) [ inl of ↦ inl (inr of) | inr none ↦ inr (λ of. elim of [ inl same ↦ other same | inr more ↦ none more ]) ]
]

-- each place of a job stands in the log
in_below : (i : ℕ) (order : List ℕ) (notes : List Turned) (at p : ℕ) → IsOf (places_in i order notes at) p → p < at + started_in notes
in_below i [] notes at p of = absurd of
in_below i (n ∷ order) [] at p of = absurd of
in_below i (n ∷ order) (note ∷ notes) at p of =
    let sum : started_in (note ∷ notes) ≡ note.started + started_in notes = sum_by-cons (λ (t : Turned). t.started) note notes in
    elim (of_either (cond (nat_eq i n) (places_from at note.started) []) (places_in i order notes (at + note.started)) p of) [
      | inl here ↦ (let high = (of_cond i n at note.started p here).high in omega (arith, high, sum))
      | inr later ↦ (let high = in_below i order notes (at + note.started) p later in omega (arith, high, sum))
    ]

-- none of the steps names it
none_at : (steps : List Step) (x : ℤ) (j : ℕ) (step : Step) → NoneNames steps x → slice_get steps j ≡ Some step → Names (asked step.command) x → ⊥
none_at [] x j step none there names = absurd cc
none_at (s ∷ steps) x zero step none there names = none.0 (subst (λ (t : Step). Names (asked t.command) x) (sym (same_some s step there)) names)
none_at (s ∷ steps) x (suc j) step none there names = none_at steps x j step none.1 there names

-- ---- the turn of a job

-- a caller whose cursor is the one that the call at this place opened
abbrev opener : ℕ → Owner
opener at = record { ids = []; coming = Some at ∷ [] }

module _ (calls calls' : List Call) (begun : ℕ) (order : List ℕ) (notes : List Turned) (k : ℕ) (note : Turned) (abreast : length order ≡ length notes) (count : length calls ≡ begun + started_in notes) (more : length calls' ≡ length calls + note.started) (owners : List Owner) (o o' : Owner) (there : slice_get owners k ≡ Some o)
    (passes : Passes calls calls' o o') (apart : AreApart calls owners) (all : AllOwn calls (record { begun = begun; order = order; notes = notes }) owners) where
  abbrev now : Course
  now = record { begun = begun; order = order; notes = notes }

  abbrev then : Course
  then = record { begun = begun; order = order ++ k ∷ []; notes = notes ++ note ∷ [] }

  -- ---- whose places are whose

  others_same : (i : ℕ) → (i ≡ k → ⊥) → places_of then i ≡ places_of now i
  others_same i ne = places_other i k ne order notes note begun abreast

  its_more : places_of then k ≡ sent_since (places_of now k) (length calls) (length calls')
  its_more =
      let long : note.started ≡ length calls' - length calls = omega (arith, more) in
      places_own k order notes note begun abreast ∙ ap (λ (n : ℕ). places_of now k ++ places_from n note.started) (sym count) ∙ ap (λ (n : ℕ). places_of now k ++ places_from (length calls) n) long

  room : length calls ≤ length calls'
  room = omega (arith, more)

  its_old : (p : ℕ) → IsOf (places_of now k) p → IsOf (places_of then k) p
  its_old p of = subst (λ (l : List ℕ). IsOf l p) (sym its_more) (in_first (places_of now k) _ p of)

  its_new : (p : ℕ) → length calls ≤ p → p < length calls' → IsOf (places_of then k) p
  its_new p low high = subst (λ (l : List ℕ). IsOf l p) (sym its_more) (is_since (places_of now k) (length calls) (length calls') p low high)

  its_either : (p : ℕ) → IsOf (places_of then k) p → IsOf (places_of now k) p ⊎ (length calls ≤ p)
  its_either p of = elim (since_is (places_of now k) (length calls) (length calls') p room (subst (λ (l : List ℕ). IsOf l p) its_more of)) [ inl before ↦ inl before | inr since ↦ inr since.0 ]

  old_within : (i p : ℕ) → IsOf (places_of now i) p → p < length calls
  old_within i p of = let high = in_below i order notes begun p of in omega (arith, high, count)

  -- ---- a cursor that a call of another opened

  opener_holds : (at : ℕ) → at < length calls → Holds calls (opener at)
  opener_holds at within = record {
    in_log = λ n is. elim is [
      | inl same ↦ (let one : at ≡ n = same_some at n same in get_some calls n (omega (arith, within, one)))
      | inr none ↦ absurd none
    ];
    given = λ history legal stands x is ne. absurd is;
    seen = λ history legal stands x is ne. absurd is;
  }

  opener_apart : (at : ℕ) → (IsOf (places_of now k) at → ⊥) → Apart calls o (opener at)
  opener_apart at none history legal stands x mine (by_id is ne) = absurd is
  opener_apart at none history legal stands x mine (by_reply n p step (inr bad) took opens) = absurd bad
  opener_apart at none history legal stands x mine (by_reply n p step (inl same) took opens) =
      let g = all.owns k o there history legal stands x mine in
      let one = opened_once history legal g.position p g.step step x g.took.there took.there g.opens opens in
      let place = placed_once calls history stands g.place n g.took.call took.call p g.took.found took.found (g.took.placed ∙ ap (λ (m : ℕ). Some m) one) took.placed in
      none (subst (λ (m : ℕ). IsOf (places_of now k) m) (place ∙ sym (same_some at n same)) g.of)

  -- ---- what is named

  left_alone : Onward calls calls' nobody
  left_alone = nobody_onward calls calls' o o' passes

  -- what took effect for an old call did so in an earlier history
  took_before : (g : Owner) (history : List Step) (e : Earlier calls g history) → Onward calls calls' g → (n p : ℕ) (step : Step) → n < length calls → TookEffect calls' history n p step → TookEffect calls e.before n p step
  took_before g history e onward n p step within t =
      let c = get_some calls n within in
      took_back calls calls' e.before e.tail n p step c.0 onward.grown e.stands c.1 (subst (λ (h : List Step). TookEffect calls' h n p step) e.whole t)

  -- a command of an earlier turn
  old_names : (i : ℕ) (history : List Step) → IsLegal history → Stands calls' history → (place position : ℕ) (step : Step) → IsOf (places_of now i) place → TookEffect calls' history place position step → (x : ℤ) → Names (asked step.command) x
      → (at from : ℕ) (opening : Step) → TookEffect calls' history at from opening → from < position → OpensId (told_at opening) x → IsOf (places_of now i) at
  old_names i history legal stands place position step of took x names at from opening took' less opens =
      let e = left_alone.earlier history legal stands in
      let within = old_within i place of in
      elim (cases_lt at (length calls)) [
        | inl before ↦ all.names i e.before e.legal e.stands place position step of (took_before nobody history e left_alone place position step within took) x names at from opening (took_before nobody history e left_alone at from opening before took') less opens
        | inr beyond ↦ (let bad = stands.rising place at took.call took'.call position from (omega (arith, within, beyond)) took.found took'.found took.placed took'.placed in absurd (omega (arith, bad, less)))
      ]

  -- a call of this turn has no position of an earlier one
  never_twice : (history : List Step) → Stands calls' history → IsGrown calls calls' → (place position : ℕ) (call : Call) → length calls ≤ place → slice_get calls' place ≡ Some call → call.position ≡ Some position → (n : ℕ) (old : Call) → slice_get calls n ≡ Some old → old.position ≡ Some position → ⊥
  never_twice history stands grown place position call low found placed n old there before =
      let kept = grown.keeps n old there in
      let lower = get_within calls n old there in
      let bad = stands.rising n place kept.0 call position position (omega (arith, lower, low)) kept.1 found (kept.3 ∙ before) placed in
      omega (arith, bad)

  -- one of this turn names no cursor that the call of another opened
  none_named : (history : List Step) → IsLegal history → Stands calls' history → (place position : ℕ) (step : Step) → length calls ≤ place → TookEffect calls' history place position step → (x : ℤ) → Names (asked step.command) x
      → (at from : ℕ) (opening : Step) → TookEffect calls' history at from opening → from < position → OpensId (told_at opening) x → at < length calls → (IsOf (places_of now k) at → ⊥) → ⊥
  none_named history legal stands place position step low took x names at from opening took' less opens within none =
      let onward = passes.onward (opener at) (opener_holds at within) (opener_apart at none) in
      let e = onward.earlier history legal stands in
      let opened = took_before (opener at) history e onward at from opening within took' in
      let given : GivenTo calls e.before x = record { at = at; position = from; step = opening; took = opened; opens = opens } in
      let silent = e.silent x (by_reply at from opening (inl refl) opened opens) given in
      elim (get_joined e.before e.tail position step (subst (λ (h : List Step). slice_get h position ≡ Some step) e.whole took.there)) [
        | inl before ↦
            let own = e.stands.alone position step x before names given less in
            absurd (never_twice history stands onward.grown place position took.call low took.found took.placed own.0 own.1 own.2 own.3)
        | inr behind ↦ none_at e.tail x behind.0 step silent behind.2 names
      ]

  new_names : (history : List Step) → IsLegal history → Stands calls' history → (place position : ℕ) (step : Step) → length calls ≤ place → TookEffect calls' history place position step → (x : ℤ) → Names (asked step.command) x
      → (at from : ℕ) (opening : Step) → TookEffect calls' history at from opening → from < position → OpensId (told_at opening) x → IsOf (places_of then k) at
  new_names history legal stands place position step low took x names at from opening took' less opens =
      elim (cases_lt at (length calls)) [
        | inl before ↦ elim (is_of (places_of now k) at) [
          | inl own ↦ its_old at own
          | inr none ↦ absurd (none_named history legal stands place position step low took x names at from opening took' less opens before none)
        ]
        | inr beyond ↦ its_new at (omega (arith, beyond)) (get_within calls' at took'.call took'.found)
      ]

  names_on : (i : ℕ) → NamesNoOthers calls' then i
  names_on i history legal stands place position step of took x names at from opening took' less opens =
      elim (cases_eq i k) [
        | inl same ↦ subst (λ (n : ℕ). IsOf (places_of then n) at) (sym same)
            (elim (its_either place (subst (λ (n : ℕ). IsOf (places_of then n) place) same of)) [
              | inl before ↦ its_old at (old_names k history legal stands place position step before took x names at from opening took' less opens)
              | inr low ↦ new_names history legal stands place position step low took x names at from opening took' less opens
            ])
        | inr other ↦
            let same = others_same i other in
            subst (λ (l : List ℕ). IsOf l at) (sym same) (old_names i history legal stands place position step (subst (λ (l : List ℕ). IsOf l place) same of) took x names at from opening took' less opens)
      ]

  -- ---- what is owned

  its_own : OwnsItsOwn calls' then k o'
  its_own history legal stands x owns =
      let g = given_of calls' o' history x passes.holds legal stands owns in
      record { place = g.at; of = mine g; position = g.position; step = g.step; took = g.took; opens = g.opens }
    where
      mine : (g : GivenTo calls' history x) → IsOf (places_of then k) g.at
      mine g = elim (cases_lt g.at (length calls)) [
        | inl before ↦ elim (is_of (places_of now k) g.at) [
          | inl own ↦ its_old g.at own
          | inr none ↦ absurd (passes.apart (opener g.at) (opener_holds g.at before) (opener_apart g.at none) history legal stands x owns (by_reply g.at g.position g.step (inl refl) g.took g.opens))
        ]
        | inr beyond ↦ its_new g.at (omega (arith, beyond)) (get_within calls' g.at g.took.call g.took.found)
      ]

  others_own : (i : ℕ) (g : Owner) → (i ≡ k → ⊥) → slice_get owners i ≡ Some g → OwnsItsOwn calls' then i g
  others_own i g ne at history legal stands x owns =
      let onward = others_onward calls calls' owners k o o' there passes apart i g ne at in
      let e = onward.earlier history legal stands in
      let r = all.owns i g at e.before e.legal e.stands x (owns_back calls calls' e.before e.tail g x onward.grown e.stands (apart.holds i g at) (subst (λ (h : List Step). Owns calls' h g x) e.whole owns)) in
      record {
        place = r.place;
        of = subst (λ (l : List ℕ). IsOf l r.place) (sym (others_same i ne)) r.of;
        position = r.position;
        step = r.step;
        took = subst (λ (h : List Step). TookEffect calls' h r.place r.position r.step) (sym e.whole) (took_grown calls calls' e.before e.tail r.place r.position r.step onward.grown r.took);
        opens = r.opens;
      }

  -- So it is behind the turn.
  pub own_turn : AllOwn calls' then (slice_set owners k o')
  own_turn = record {
    owns = λ i g at. elim (cases_eq i k) [
      | inl same ↦
          let one : o' ≡ g = same_some o' g (sym (get_set_same owners k o o' there) ∙ ap (λ (n : ℕ). slice_get (slice_set owners k o') n) (sym same) ∙ at) in
          subst (λ (n : ℕ). OwnsItsOwn calls' then n g) (sym same) (subst (OwnsItsOwn calls' then k) one its_own)
      | inr other ↦ others_own i g other (get_set_other owners k i g o' other at)
    ];
    names = names_on;
  }

-- ---- at first

owns_none : (calls : List Call) (history : List Step) (o : Owner) → OwnsNothing o → (x : ℤ) → Owns calls history o x → ⊥
owns_none calls history o none x (by_id is ne) = ne (none.ids x is)
owns_none calls history o none x (by_reply n p step is took opens) = none.coming n is

-- Jobs that have done nothing own and name nothing.
pub own_first : (calls : List Call) (begun : ℕ) (owners : List Owner) → ((i : ℕ) (o : Owner) → slice_get owners i ≡ Some o → OwnsNothing o) → AllOwn calls (record { begun = begun; order = []; notes = [] }) owners
own_first calls begun owners none = record {
  owns = λ i o at history legal stands x owns. absurd (owns_none calls history o (none i o at) x owns);
  names = λ i history legal stands place position step of took x names at from opening took' less opens. absurd of;
}
