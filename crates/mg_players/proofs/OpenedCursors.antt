-- What a cursor holds by the command that opened it, it holds as long as it stands.
use Rattle.std.proofs.Common.{◌≡◌, ℕ, zero, suc, ℤ, pos, Bool, true, false, List, [], ◌∷◌, take, Option, Some, None, refl, sym, ap, ◌∙◌, subst, inl, inr}
use Rattle.std.specs.Prelude.{slice_get, if◌then◌else◌}
use Rattle.std.specs.Ordering.{int_eq}
use Rattle.mg_bson.specs.Tree.{Tree, Fields}
use Rattle.mg_link.specs.Namespace.{Space}
use Rattle.mg_server.specs.Query.{Query}
use Rattle.mg_server.specs.State.{Cursor, Start, State, Watch, nothing, put_cursor, give}
use Rattle.mg_server.specs.Commands.{Asked, asks_insert, asks_update, asks_delete, asks_query, asks_watch, asks_more, asks_kill, asks_create, asks_indexes, asks_drop, Told, refuses, inserted, updated, deleted, done, opened, gave, killed, asked}
use Rattle.mg_server.specs.Step.{grown, effect, queried_at, watching_at, moved, ends_cursor, May}
use Rattle.mg_server.specs.History.{Step, step_after, state_after, state_of, told_at, IsLegal, IsLegalFrom}
use Rattle.mg_server.specs.Standing.{OpensId}
use Rattle.mg_server.proofs.Cursoring.{put_is, kept_from}
use Rattle.mg_server.proofs.Later.{later_step, grown-cursors, opens_given, opens_new, Respects, respects_step}
use Rattle.mg_server.proofs.Owners.{same_some}

-- A cursor that such a command opens holds such things, and those that are left behind a batch are such too.
pub record Brings (Asks : Asked → Type 0) (Holds : Cursor → Type 0) : Type 0 where
  pub by_query : (s : State) (q : Query) (at : Space) (given : List Fields) → Asks (asks_query q) → Holds (queried_at s q at given)
  pub by_watch : (s : State) (w : Watch) (start : Start) (token : Option Tree) → Asks (asks_watch w start) → Holds (watching_at s w token)
  pub left : (s : State) (c d : Cursor) (given : List Fields) (token : Option Tree) → moved s given token (Some c) ≡ Some d → Holds c → Holds d

-- where a cursor that stands behind a step comes from
data Origin (Asks : Asked → Type 0) (Holds : Cursor → Type 0) (s : State) (command : Asked) (reply : Told) (x : ℤ) (c : Cursor) : Type 0 where
  stood : (d : Cursor) → s.cursors x ≡ Some d → (Holds d → Holds c) → Origin Asks Holds s command reply x c
  came : OpensId reply x → (Asks command → Holds c) → Origin Asks Holds s command reply x c

-- the id of each cursor that stands was given
abbrev AreGiven : State → Type 0
AreGiven s = (x : ℤ) (c : Cursor) → s.cursors x ≡ Some c → s.given x ≡ true

not_both : {A : Type 0} (b : Bool) → b ≡ true → b ≡ false → A
not_both b t f = let bad : true ≡ false = sym t ∙ f in cc

nonzero_opens : (id x : ℤ) → (id ≡ pos 0 → ⊥) → id ≡ x → (id ≡ x) × (x ≡ pos 0 → ⊥)
nonzero_opens id x ne e = (e, λ z. ne (e ∙ z))

-- an id that was given is not opened again
not_again : (s : State) (steps : List Step) (q : ℕ) (o : Step) (x : ℤ) → Respects s.tokens → IsLegalFrom s steps → s.given x ≡ true → slice_get steps q ≡ Some o → OpensId (told_at o) x → ⊥
unfolding IsLegalFrom
not_again s [] q o x r legal given there opens = cc
not_again s (step ∷ steps) zero o x r legal given there opens =
    let same : step ≡ o = same_some step o there in
    not_both (s.given x) given (opens_new s step x legal.0 (subst (λ (t : Step). OpensId (told_at t) x) (sym same) opens))
not_again s (step ∷ steps) (suc q) o x r legal given there opens =
    not_again (step_after s step) steps q o x (respects_step s step r) legal.1 ((later_step s step r legal.0).given x given) there opens

module _ (Asks : Asked → Type 0) (Holds : Cursor → Type 0) (b : Brings Asks Holds) where
  put_origin : (s : State) (command : Asked) (reply : Told) (id x : ℤ) (c d : Cursor) → (id ≡ x → OpensId reply x) → (Asks command → Holds d) → put_cursor id (Some d) s.cursors x ≡ Some c → Origin Asks Holds s command reply x c
  put_origin s command reply id x c d opens asks h =
      elim (put_is id (Some d) s.cursors x c h) [
        | inl here ↦ let same : d ≡ c = same_some d c here.1 in came (opens (sym here.0)) (λ w. subst Holds same (asks w))
        | inr before ↦ stood c before (λ w. w)
      ]

  opened_origin : (s : State) (command : Asked) (reply : Told) (id x : ℤ) (c d : Cursor) (over : Bool) → int_eq id (pos 0) ≡ over → ((id ≡ pos 0 → ⊥) → id ≡ x → OpensId reply x) → (Asks command → Holds d)
      → (if over then s else record s { cursors = put_cursor id (Some d) s.cursors; given = give id s.given }).cursors x ≡ Some c → Origin Asks Holds s command reply x c
  opened_origin s command reply id x c d true e opens asks h = stood c h (λ w. w)
  opened_origin s command reply id x c d false e opens asks h =
      put_origin s command reply id x c d (opens (λ z. let t : int_eq id (pos 0) ≡ true = ap (λ (n : ℤ). int_eq n (pos 0)) z in let bad : true ≡ false = sym t ∙ e in cc)) asks h

  moved_origin : (s : State) (command : Asked) (reply : Told) (x : ℤ) (c : Cursor) (given : List Fields) (token : Option Tree) (o : Option Cursor) → s.cursors x ≡ o → moved s given token o ≡ Some c → Origin Asks Holds s command reply x c
  moved_origin s command reply x c given token None e h = absurd cc
  moved_origin s command reply x c given token (Some d) e h = stood d e (λ holds. b.left s d c given token h holds)

  more_origin : (s : State) (command : Asked) (reply : Told) (id x : ℤ) (c : Cursor) (given : List Fields) (token : Option Tree) (over : Bool) → put_cursor id (if over then None else moved s given token (s.cursors id)) s.cursors x ≡ Some c → Origin Asks Holds s command reply x c
  more_origin s command reply id x c given token true h =
      elim (put_is id None s.cursors x c h) [ inl here ↦ absurd (let e : None ≡ Some c = here.1 in cc) | inr before ↦ stood c before (λ w. w) ]
  more_origin s command reply id x c given token false h =
      elim (put_is id (moved s given token (s.cursors id)) s.cursors x c h) [
        | inl here ↦ moved_origin s command reply x c given token (s.cursors id) (ap s.cursors here.0) here.1
        | inr before ↦ stood c before (λ w. w)
      ]

  ended_origin : (s : State) (command : Asked) (reply : Told) (id x : ℤ) (c : Cursor) (over : Bool) → (if over then record s { cursors = put_cursor id None s.cursors } else s).cursors x ≡ Some c → Origin Asks Holds s command reply x c
  ended_origin s command reply id x c true h = more_origin s command reply id x c [] None true h
  ended_origin s command reply id x c false h = stood c h (λ w. w)

  origin : (s : State) (command : Asked) (reply : Told) (x : ℤ) (c : Cursor) → (effect s command reply).cursors x ≡ Some c → Origin Asks Holds s command reply x c
  unfolding effect
  origin s (asks_query q) (opened id at documents token time) x c h =
      opened_origin s (asks_query q) (opened id at documents token time) id x c (queried_at s q at documents) (int_eq id (pos 0)) refl (nonzero_opens id x) (λ asks. b.by_query s q at documents asks) h
  origin s (asks_watch w start) (opened id at events token time) x c h =
      opened_origin s (asks_watch w start) (opened id at events token time) id x c (watching_at s w token) (int_eq id (pos 0)) refl (nonzero_opens id x) (λ asks. b.by_watch s w start token asks) h
  origin s (asks_more id space) (gave left at events token) x c h = more_origin s (asks_more id space) (gave left at events token) id x c events token (int_eq left (pos 0)) h
  origin s (asks_more id space) (refuses code labels) x c h = ended_origin s (asks_more id space) (refuses code labels) id x c (ends_cursor code) h
  origin s (asks_kill ids) killed x c h = stood c (kept_from ids s.cursors x c h) (λ w. w)
  origin s (asks_insert space documents ordered) (inserted n failures) x c h = stood c h (λ w. w)
  origin s (asks_update space conditions m many) (updated n changed []) x c h = stood c h (λ w. w)
  origin s (asks_delete space conditions many) (deleted n []) x c h = stood c h (λ w. w)
  origin s (asks_create space) done x c h = stood c h (λ w. w)
  origin s (asks_indexes space indexes) done x c h = stood c h (λ w. w)
  origin s (asks_drop space) done x c h = stood c h (λ w. w)
  origin s command reply x c h = stood c h (λ w. w)

  -- ---- along a history

  -- the cursor, where it stands, holds such things
  abbrev HoldsThere : State → ℤ → Type 0
  HoldsThere s x = (c : Cursor) → s.cursors x ≡ Some c → Holds c

  step_holds : (s : State) (step : Step) (x : ℤ) → May s (asked step.command) (told_at step) step.made → s.given x ≡ true → HoldsThere s x → HoldsThere (step_after s step) x
  step_holds s step x may given was c h =
      elim (origin (grown s step.made) (asked step.command) (told_at step) x c h) [
        | stood d e f ↦ f (was d (ap (λ (g : ℤ → Option Cursor). g x) (sym (grown-cursors s step.made)) ∙ e))
        | came opens f ↦ not_both (s.given x) given (opens_new s step x may opens)
      ]

  step_opens : (s : State) (step : Step) (x : ℤ) → May s (asked step.command) (told_at step) step.made → AreGiven s → Asks (asked step.command) → OpensId (told_at step) x → HoldsThere (step_after s step) x
  step_opens s step x may are asks opens c h =
      elim (origin (grown s step.made) (asked step.command) (told_at step) x c h) [
        | stood d e f ↦ not_both (s.given x) (are x d (ap (λ (g : ℤ → Option Cursor). g x) (sym (grown-cursors s step.made)) ∙ e)) (opens_new s step x may opens)
        | came also f ↦ f asks
      ]

  step_given : (s : State) (step : Step) → Respects s.tokens → May s (asked step.command) (told_at step) step.made → AreGiven s → AreGiven (step_after s step)
  step_given s step r may are x c h =
      elim (origin (grown s step.made) (asked step.command) (told_at step) x c h) [
        | stood d e f ↦ (later_step s step r may).given x (are x d (ap (λ (g : ℤ → Option Cursor). g x) (sym (grown-cursors s step.made)) ∙ e))
        | came opens f ↦ opens_given s step x may opens
      ]

  steps_hold : (s : State) (steps : List Step) (p : ℕ) (x : ℤ) → Respects s.tokens → IsLegalFrom s steps → s.given x ≡ true → HoldsThere s x → HoldsThere (state_after s (take p steps)) x
  unfolding state_after IsLegalFrom
  steps_hold s steps zero x r legal given was = was
  steps_hold s [] (suc p) x r legal given was = was
  steps_hold s (step ∷ steps) (suc p) x r legal given was =
      steps_hold (step_after s step) steps p x (respects_step s step r) legal.1 ((later_step s step r legal.0).given x given) (step_holds s step x legal.0 given was)

  held_from : (s : State) (steps : List Step) (p q : ℕ) (o : Step) (x : ℤ) → Respects s.tokens → IsLegalFrom s steps → AreGiven s → slice_get steps q ≡ Some o → Asks (asked o.command) → OpensId (told_at o) x → HoldsThere (state_after s (take p steps)) x
  unfolding state_after IsLegalFrom
  held_from s [] p q o x r legal are there asks opens = absurd cc
  held_from s (step ∷ steps) zero q o x r legal are there asks opens = λ c h. absurd (not_again s (step ∷ steps) q o x r legal (are x c h) there opens)
  held_from s (step ∷ steps) (suc p) zero o x r legal are there asks opens =
      let same : step ≡ o = same_some step o there in
      let opens' = subst (λ (t : Step). OpensId (told_at t) x) (sym same) opens in
      let asks' = subst (λ (t : Step). Asks (asked t.command)) (sym same) asks in
      steps_hold (step_after s step) steps p x (respects_step s step r) legal.1 (opens_given s step x legal.0 opens') (step_opens s step x legal.0 are asks' opens')
  held_from s (step ∷ steps) (suc p) (suc q) o x r legal are there asks opens =
      held_from (step_after s step) steps p q o x (respects_step s step r) legal.1 (step_given s step r legal.0 are) there asks opens

  -- wherever it stands, it holds such things
  pub stays_such : (history : List Step) (p position : ℕ) (step : Step) (x : ℤ) (c : Cursor) → IsLegal history → slice_get history position ≡ Some step → Asks (asked step.command) → OpensId (told_at step) x → (state_of (take p history)).cursors x ≡ Some c → Holds c
  stays_such history p position step x c legal there asks opens h = held_from nothing history p position step x (λ t u e. refl) legal (λ y d e. absurd cc) there asks opens c h
