-- What longer histories keep: views, openings, and the place behind a token.
use Rattle.std.proofs.Common.{◌≡◌, ℕ, suc, ◌+◌, ◌≤◌, Bool, List, [], ◌∷◌, ◌++◌, length, Option, Some, sym, ap, ◌∙◌, subst, inl, inr, take, arith, append_assoc, length-append}
use Rattle.std.specs.Prelude.{slice_get, if◌then◌else◌}
use Rattle.std.proofs.lemmas.Bool.{cases_Bool, cases_lt}
use Rattle.std.proofs.lemmas.List.{take_at}
use Rattle.mg_bson.specs.Tree.{Tree, Fields}
use Rattle.mg_server.specs.Filter.{is_same}
use Rattle.mg_server.specs.State.{Entry, State, Watch, Start, after, nothing, events_between, start_place, name}
use Rattle.mg_server.specs.Commands.{Asked, asks_watch, Told, refuses, inserted, opened, gave, killed, garbled, asked, updated, deleted, done}
use Rattle.mg_server.specs.Step.{Named, name_all, entry_names, grown, AreNewNames, May, MayTell}
use Rattle.mg_server.specs.History.{Step, IsLegal, IsLegalFrom, OpensAt, Reached, opening, state_after, state_of, step_after, told_at, view_of}
use Rattle.mg_server.proofs.Histories.{state_of-grows, step_after-changes, state_after-append}
use Rattle.mg_server.proofs.Views.{events_join, events_more, events_past}
use Rattle.mg_server.proofs.Later.{Later, later_steps, respects_of, respects_step, grown-tokens, effect_keeps}
use Rattle.mg_link.proofs.Places.{split_at}
use Rattle.mg_server.proofs.Owners.{after_cons, legal_back, legal_front, legal_parts, same_some, state_one}

-- ---- views

-- the view of more entries begins with that of fewer
view_more : (w : Watch) (xs more : List Entry) (from : ℕ) → (later : List Fields) × (events_between w (xs ++ more) from (length (xs ++ more)) ≡ events_between w xs from (length xs) ++ later)
view_more w xs more from =
    let n = length-append xs more in
    elim (cases_lt (length xs) from) [
      | inl behind ↦ (
        events_between w (xs ++ more) from (length (xs ++ more)),
        ap (λ (l : List Fields). l ++ events_between w (xs ++ more) from (length (xs ++ more))) (events_past w xs from (length xs) (omega arith)),
      )
      | inr within ↦ (
        events_between w (xs ++ more) (length xs) (length (xs ++ more)),
        events_join w (xs ++ more) from (length xs) (length (xs ++ more)) within (omega arith)
            ∙ ap (λ (l : List Fields). l ++ events_between w (xs ++ more) (length xs) (length (xs ++ more))) (events_more w xs more from (length xs) within (omega arith)),
      )
    ]

pub view_later : (history more : List Step) (w : Watch) (from : ℕ) → (later : List Fields) × (view_of (history ++ more) w from ≡ view_of history w from ++ later)
view_later history more w from =
    let grows = state_of-grows history more in
    let later = view_more w (state_of history).changes grows.0 from in
    (later.0, ap (λ (l : List Entry). events_between w l from (length l)) grows.1 ∙ later.1)

-- ---- the places of tokens

-- no token names a place behind this one
abbrev AreBefore : ℕ → (Tree → Option ℕ) → Type 0
AreBefore end tokens = (t : Tree) (p : ℕ) → tokens t ≡ Some p → p ≤ end

named_before : (end : ℕ) (ns : List Named) (tokens : Tree → Option ℕ) → AreNewNames end tokens ns → AreBefore end tokens → AreBefore end (name_all ns tokens)
named_before end [] tokens new before = before
named_before end (n ∷ ns) tokens new before =
    named_before end ns (name n.token n.place tokens) new.2 (λ t p h.
    elim (cases_Bool (is_same t n.token)) [
      | inl same ↦
          let e : n.place ≡ p = same_some n.place p (sym (ap (λ (b : Bool). if b then Some n.place else tokens t) same) ∙ h) in
          subst (λ (q : ℕ). q ≤ end) e new.1
      | inr other ↦ before t p (sym (ap (λ (b : Bool). if b then Some n.place else tokens t) other) ∙ h)
    ])

before_step : (s : State) (step : Step) → May s (asked step.command) (told_at step) step.made → AreBefore (length s.changes) s.tokens → AreBefore (length (step_after s step).changes) (step_after s step).tokens
before_step s step may before =
    let keeps = effect_keeps (grown s step.made) (asked step.command) (told_at step) in
    let n : length (step_after s step).changes ≡ length s.changes + length step.made.entries = ap length (step_after-changes s step) ∙ length-append s.changes step.made.entries in
    let all = named_before (length s.changes + length step.made.entries) (entry_names (length s.changes) step.made.entries ++ step.made.tokens) s.tokens may.grows.names
    (λ t p h. let le = before t p h in omega arith) in
    subst (λ (f : Tree → Option ℕ). AreBefore (length (step_after s step).changes) f) (sym (keeps.tokens ∙ grown-tokens s step.made))
    (subst (λ (end : ℕ). AreBefore end (name_all (entry_names (length s.changes) step.made.entries ++ step.made.tokens) s.tokens)) (sym n) all)

before_steps : (s : State) (steps : List Step) → IsLegalFrom s steps → AreBefore (length s.changes) s.tokens → AreBefore (length (state_after s steps).changes) (state_after s steps).tokens
unfolding state_after IsLegalFrom
before_steps s [] legal before = before
before_steps s (step ∷ steps) legal before = before_steps (step_after s step) steps legal.1 (before_step s step legal.0 before)

-- a token names no place behind the last
pub token_within : (history : List Step) (token : Tree) (place : ℕ) → IsLegal history → (state_of history).tokens token ≡ Some place → place ≤ length (state_of history).changes
token_within history token place legal named = before_steps nothing history legal (λ t p h. absurd cc) token place named

-- ---- a new watch behind a token

-- a history at one of its steps
record Through (history : List Step) (position : ℕ) (step : Step) : Type 0 where
  before : State
  may : May before (asked step.command) (told_at step) step.made
  opens : (start : Start) → opening history position start ≡ start_place (step_after before step) start
  later : Later (step_after before step) (state_of history)

through : (history : List Step) (position : ℕ) (step : Step) → IsLegal history → slice_get history position ≡ Some step → Through history position step
through history position step legal there =
    let at = split_at history position step there in
    let s : State = state_of at.front in
    let parts = legal_parts s step at.back (legal_back nothing at.front (step ∷ at.back) (subst (λ h. IsLegal h) at.whole legal)) in
    let whole : state_of history ≡ state_after (step_after s step) at.back = ap state_of at.whole ∙ state_after-append nothing at.front (step ∷ at.back) ∙ after_cons s step at.back in
    let n : length (at.front ++ step ∷ []) ≡ suc position = (let e = at.place in omega (arith, length-append at.front (step ∷ []))) in
    let front : take (suc position) history ≡ at.front ++ step ∷ [] =
    ap (take (suc position)) (at.whole ∙ sym (append_assoc at.front (step ∷ []) at.back)) ∙ take_at (at.front ++ step ∷ []) at.back (suc position) n in
    record {
      before = s;
      may = parts.0;
      opens = λ start. ap (λ h. start_place (state_of h) start) front ∙ ap (λ (t : State). start_place t start) (state_one at.front step);
      later = subst (Later (step_after s step)) (sym whole) (later_steps (step_after s step) at.back (respects_step s step (respects_of at.front)) parts.1);
    }

-- where a watch behind the token opened, the token names the place still
opened_there : (history : List Step) (position : ℕ) (token : Tree) (place from : ℕ) (n : State) → (state_of history).tokens token ≡ Some place → opening history position (after token) ≡ start_place n (after token) → Later n (state_of history) → start_place n (after token) ≡ Some from
    → opening history position (after token) ≡ Some place
opened_there history position token place from n named opens later begins = opens ∙ begins ∙ sym (later.tokens token from begins) ∙ named

opens_by : (history : List Step) (position : ℕ) (step : Step) (w : Watch) (token : Tree) (place : ℕ) (said : Told) → (t : Through history position step) → (state_of history).tokens token ≡ Some place
    → MayTell t.before (grown t.before step.made) (asks_watch w (after token)) said step.made → (step_after t.before step).tokens ≡ (grown t.before step.made).tokens → OpensAt history position (after token) place said
opens_by history position step w token place (opened id space events upto time) t named may same =
    opened_there history position token place may.from (step_after t.before step) named (t.opens (after token)) t.later (ap (λ (f : Tree → Option ℕ). f token) same ∙ may.begins)
opens_by history position step w token place (refuses code labels) t named may same = tt
opens_by history position step w token place (inserted n failures) t named may same = absurd may
opens_by history position step w token place (updated n changed failures) t named may same = absurd may
opens_by history position step w token place (deleted n failures) t named may same = absurd may
opens_by history position step w token place done t named may same = absurd may
opens_by history position step w token place (gave id space events upto) t named may same = absurd may
opens_by history position step w token place killed t named may same = absurd may
opens_by history position step w token place garbled t named may same = absurd may

-- the token names the place in the longer history
still_named : (history more : List Step) (token : Tree) (place : ℕ) → IsLegal (history ++ more) → (state_of history).tokens token ≡ Some place → (state_of (history ++ more)).tokens token ≡ Some place
still_named history more token place legal named =
    let later = later_steps (state_of history) more (respects_of history) (legal_back nothing history more legal) in
    ap (λ (s : State). s.tokens token) (state_after-append nothing history more) ∙ later.tokens token place named

pub resumes_at : (history more : List Step) (w : Watch) (from : ℕ) (events : List Fields) (token : Tree) (position : ℕ) (step : Step) → IsLegal (history ++ more) → (r : Reached (state_of history) w from events token)
    → slice_get (history ++ more) position ≡ Some step → asked step.command ≡ asks_watch w (after token) → OpensAt (history ++ more) position (after token) r.place (told_at step)
resumes_at history more w from events token position step legal r there asks =
    let t = through (history ++ more) position step legal there in
    opens_by (history ++ more) position step w token r.place (told_at step) t (still_named history more token r.place legal r.named)
    (subst (λ (a : Asked). MayTell t.before (grown t.before step.made) a (told_at step) step.made) asks t.may.tells) (effect_keeps (grown t.before step.made) (asked step.command) (told_at step)).tokens

-- what was answered and what is to be seen from the place reached are the whole view
pub reached_joins : (history more : List Step) (w : Watch) (from : ℕ) (events : List Fields) (token : Tree) → IsLegal (history ++ more) → (r : Reached (state_of history) w from events token) → view_of (history ++ more) w from ≡ events ++ view_of (history ++ more) w r.place
reached_joins history more w from events token legal r =
    let grows = state_of-grows history more in
    let all : List Entry = (state_of (history ++ more)).changes in
    let within = token_within history token r.place (legal_front nothing history more legal) r.named in
    let n : length all ≡ length (state_of history).changes + length grows.0 = ap length grows.1 ∙ length-append (state_of history).changes grows.0 in
    let same : events_between w all from r.place ≡ events = ap (λ (l : List Entry). events_between w l from r.place) grows.1 ∙ events_more w (state_of history).changes grows.0 from r.place r.forward within ∙ sym r.these in
    events_join w all from r.place (length all) r.forward (omega arith) ∙ ap (λ (l : List Fields). l ++ view_of (history ++ more) w r.place) same
