-- What a getMore of a query's cursor tells, and what is left behind it.
use Rattle.std.proofs.Common.{◌≡◌, ◌≢◌, ◌+◌, ◌≤◌, ℕ, ℤ, pos, Bool, true, false, List, [], ◌∷◌, ◌++◌, length, Option, Some, None, refl, sym, ap, ◌∙◌, subst, inl, inr, arith, append_assoc, append-nil}
use Rattle.std.specs.Prelude.{if◌then◌else◌, slice_get}
use Rattle.std.specs.Ordering.{int_eq}
use Rattle.std.proofs.lemmas.Bool.{cond_both}
use Rattle.std.proofs.lemmas.Bool.Decides.{Decides-int_eq}
use Rattle.std.proofs.lemmas.List.{drop_at}
use Rattle.mg_bson.specs.Tree.{Tree, Fields}
use Rattle.mg_link.specs.Namespace.{Space}
use Rattle.mg_server.specs.State.{State, nothing, Cursor, query, watching, put_cursor}
use Rattle.mg_server.specs.Commands.{Asked, asks_more, asks_kill, Told, refuses, inserted, opened, gave, killed, garbled, updated, deleted, done, asked}
use Rattle.mg_server.specs.Step.{Made, effect, grown, moved, ends_cursor, May, MayTell}
use Rattle.mg_server.specs.History.{Step, step_after, state_after, state_of, told_at}
use Rattle.mg_link.specs.Log.{Call}
use Rattle.mg_server.specs.Standing.{GivenTo, Stands}
use Rattle.mg_server.specs.Reader.{Portion, all_in, kept_in, losses_in, HoldsLeft, AfterFetch, MayBeFetched}
use Rattle.mg_server.proofs.Histories.{state_after-append}
use Rattle.mg_server.proofs.Later.{later_step, leaves_steps, respects_of, respects_step, grown-cursors}
use Rattle.mg_server.proofs.Owners.{same_some, legal_parts, after_cons, BackTo, given_in_state}
use Rattle.mg_server.proofs.Apart.{silent_at}
use Rattle.mg_server.proofs.Readers.{all_push, kept_push, losses_push, holds_later, fetch_later}

-- ---- right behind its step

here_put : (id : ℤ) (c : Option Cursor) (cursors : ℤ → Option Cursor) → put_cursor id c cursors id ≡ c
here_put id c cursors = ap (λ (b : Bool). if b then c else cursors id) ((Decides-int_eq id id).1 refl)

-- cursors of queries that are the same hold the same
same_left : (space space' : Space) (left left' : List Fields) → query space left ≡ query space' left' → left ≡ left'
same_left space space' left left' h = ap left_of h
  where
    left_of : Cursor → List Fields
    left_of (query space ds) = ds
    left_of (watching watch place) = left

left_at : (s' : State) (c : ℤ) (space : Space) (given left : List Fields) (token : Option Tree) (b : Bool) (d : Cursor) → s'.cursors c ≡ Some (query space (given ++ left)) → (if b then None else moved s' given token (s'.cursors c)) ≡ Some d → (other : Space) × (d ≡ query other left)
left_at s' c space given left token true d stood h = absurd cc
left_at s' c space given left token false d stood h =
    (space, same_some d (query space left) (sym h ∙ ap (moved s' given token) stood ∙ ap (λ (l : List Fields). Some (query space l)) (drop_at given left (length given) refl)))

fetch_step : (s s' : State) (c : ℤ) (left : List Fields) (space : Space) (said : Told) (made : Made) → s'.cursors ≡ s.cursors → MayTell s s' (asks_more c space) said made → c ≢ pos 0 → HoldsLeft s c left → AfterFetch (effect s' (asks_more c space) said) c left said
unfolding effect
fetch_step s s' c left space (gave next other documents token) made same (inl may) nz at =
    let stood = at (watching may.watch may.at) nz may.stood in
    let bad : watching may.watch may.at ≡ query stood.0 left = stood.1 in
    absurd cc
fetch_step s s' c left space (gave next other documents token) made same (inr may) nz at =
    let stood = at (query may.space (documents ++ may.left)) nz may.stood in
    let there : s'.cursors c ≡ Some (query may.space (documents ++ may.left)) = ap (λ (f : ℤ → Option Cursor). f c) same ∙ may.stood in
    record {
      behind = may.left;
      these = sym (same_left may.space stood.0 (documents ++ may.left) left stood.1);
      holds = λ d ne h. left_at s' c may.space documents may.left token (int_eq next (pos 0)) d there
          (sym (here_put c (if int_eq next (pos 0) then None else moved s' documents token (s'.cursors c)) s'.cursors) ∙ h);
      same = may.same;
    }
fetch_step s s' c left space (refuses code labels) made same may nz at =
    cond_both (ends_cursor code) (record s' { cursors = put_cursor c None s'.cursors }) s' (λ (n : State). HoldsLeft n c left)
    (λ e d ne h. let bad : Some d ≡ None = sym h ∙ here_put c None s'.cursors in absurd cc)
    (λ e d ne h. at d ne (sym (ap (λ (f : ℤ → Option Cursor). f c) same) ∙ h))
fetch_step s s' c left space (inserted n failures) made same may nz at = absurd may
fetch_step s s' c left space (updated n changed failures) made same may nz at = absurd may
fetch_step s s' c left space (deleted n failures) made same may nz at = absurd may
fetch_step s s' c left space done made same may nz at = absurd may
fetch_step s s' c left space (opened id other events token time) made same may nz at = absurd may
fetch_step s s' c left space killed made same may nz at = absurd may
fetch_step s s' c left space garbled made same may nz at = absurd may

-- a cursor that is killed holds nothing
kill_step : (s s' : State) (c : ℤ) (left : List Fields) (said : Told) (made : Made) → s'.cursors ≡ s.cursors → MayTell s s' (asks_kill (c ∷ [])) said made → HoldsLeft s c left → HoldsLeft (effect s' (asks_kill (c ∷ [])) said) c left
unfolding effect
kill_step s s' c left killed made same may at = λ d ne h. let bad : Some d ≡ None = sym h ∙ here_put c None s'.cursors in absurd cc
kill_step s s' c left (refuses code labels) made same may at = λ d ne h. at d ne (sym (ap (λ (f : ℤ → Option Cursor). f c) same) ∙ h)
kill_step s s' c left (gave next other documents token) made same may at = absurd may
kill_step s s' c left (inserted n failures) made same may at = absurd may
kill_step s s' c left (updated n changed failures) made same may at = absurd may
kill_step s s' c left (deleted n failures) made same may at = absurd may
kill_step s s' c left done made same may at = absurd may
kill_step s s' c left (opened id other events token time) made same may at = absurd may
kill_step s s' c left garbled made same may at = absurd may

-- ---- whatever came after it

module _ (calls : List Call) (call : Call) (history : List Step) (p : ℕ) (b : BackTo calls call history p) (c : ℤ) (left : List Fields) (given : GivenTo calls b.before c) (nz : c ≢ pos 0) (at : HoldsLeft (state_of b.before) c left) where
  may : May (state_of b.before) (asked b.step.command) (told_at b.step) b.step.made
  may = (legal_parts (state_of b.before) b.step b.rest b.onward).0

  state_by : state_of history ≡ state_after (step_after (state_of b.before) b.step) b.rest
  state_by = ap state_of b.whole ∙ state_after-append nothing b.before (b.step ∷ b.rest) ∙ after_cons (state_of b.before) b.step b.rest

  -- the cursor stands where the step left it
  stays_behind : (state_of history).cursors c ≡ (step_after (state_of b.before) b.step).cursors c
  stays_behind =
      let was = (later_step (state_of b.before) b.step (respects_of b.before) may).given c (given_in_state calls b.before c b.legal given) in
      ap (λ (s : State). s.cursors c) state_by
      ∙ leaves_steps (step_after (state_of b.before) b.step) b.rest c (respects_step (state_of b.before) b.step (respects_of b.before)) (legal_parts (state_of b.before) b.step b.rest b.onward).1 was (silent_at calls call history p c b given)

  pub fetch_tells : (space : Space) → asked call.command ≡ asks_more c space → AfterFetch (state_of history) c left (told_at b.step)
  fetch_tells space asks =
      let s : State = state_of b.before in
      let s' : State = grown s b.step.made in
      let q : asked b.step.command ≡ asks_more c space = ap asked b.command ∙ asks in
      let tells = subst (λ (a : Asked). MayTell s s' a (told_at b.step) b.step.made) q may.tells in
      let here = fetch_step s s' c left space (told_at b.step) b.step.made (grown-cursors s b.step.made) tells nz at in
      let here' = subst (λ (a : Asked). AfterFetch (effect s' a (told_at b.step)) c left (told_at b.step)) (sym q) here in
      fetch_later (step_after s b.step) (state_of history) c left (told_at b.step) (λ ne. stays_behind) here'

  pub kill_leaves : asked call.command ≡ asks_kill (c ∷ []) → HoldsLeft (state_of history) c left
  kill_leaves asks =
      let s : State = state_of b.before in
      let s' : State = grown s b.step.made in
      let q : asked b.step.command ≡ asks_kill (c ∷ []) = ap asked b.command ∙ asks in
      let tells = subst (λ (a : Asked). MayTell s s' a (told_at b.step) b.step.made) q may.tells in
      let here = kill_step s s' c left (told_at b.step) b.step.made (grown-cursors s b.step.made) tells at in
      let here' = subst (λ (a : Asked). HoldsLeft (effect s' a (told_at b.step)) c left) (sym q) here in
      holds_later (step_after s b.step) (state_of history) c left (λ ne. stays_behind) here'

-- ---- a batch that may be lost

-- where a getMore failed: a batch more was lost, or none
pub record AfterLoss (s : State) (id : ℤ) (all : List Fields) (portions : List Portion) : Type 0 where
  pub with_lost : List Portion
  pub behind : List Fields
  pub cut : all ≡ all_in with_lost ++ behind
  pub kept : kept_in with_lost ≡ kept_in portions
  pub few : losses_in with_lost ≤ losses_in portions + 1
  pub holds : HoldsLeft s id behind

nothing_lost : (s : State) (id : ℤ) (all : List Fields) (portions : List Portion) (left : List Fields) → all ≡ all_in portions ++ left → HoldsLeft s id left → AfterLoss s id all portions
nothing_lost s id all portions left cut h = record { with_lost = portions; behind = left; cut = cut; kept = refl; few = omega arith; holds = h }

-- the batches with one more
pub cut_further : (all : List Fields) (portions : List Portion) (p : Portion) (left behind : List Fields) → all ≡ all_in portions ++ left → left ≡ p.documents ++ behind → all ≡ all_in (portions ++ p ∷ []) ++ behind
cut_further all portions p left behind cut these =
    cut ∙ ap (λ (l : List Fields). all_in portions ++ l) these ∙ sym (append_assoc (all_in portions) p.documents behind) ∙ ap (λ (l : List Fields). l ++ behind) (sym (all_push portions p))

loss_by : (s : State) (id : ℤ) (all : List Fields) (portions : List Portion) (left : List Fields) (said : Told) → all ≡ all_in portions ++ left → AfterFetch s id left said → AfterLoss s id all portions
loss_by s id all portions left (gave next space documents token) cut g =
    let p : Portion = record { documents = documents; lost = true } in
    let one : losses_in (portions ++ p ∷ []) ≡ losses_in portions + 1 = losses_push portions p in
    record {
      with_lost = portions ++ p ∷ [];
      behind = g.behind;
      cut = cut_further all portions p left g.behind cut g.these;
      kept = kept_push portions p ∙ append-nil (kept_in portions);
      few = omega arith;
      holds = g.holds;
    }
loss_by s id all portions left (refuses code labels) cut h = nothing_lost s id all portions left cut h
loss_by s id all portions left (opened other space events token time) cut h = absurd h
loss_by s id all portions left (inserted n failures) cut h = absurd h
loss_by s id all portions left (updated n changed failures) cut h = absurd h
loss_by s id all portions left (deleted n failures) cut h = absurd h
loss_by s id all portions left done cut h = absurd h
loss_by s id all portions left killed cut h = absurd h
loss_by s id all portions left garbled cut h = absurd h

-- whether the getMore took effect or not
pub lost_in : (calls : List Call) (history : List Step) (id : ℤ) (all : List Fields) (portions : List Portion) (left : List Fields) (place : Option ℕ) (k : ℕ) (call : Call) (o : Option ℕ) → place ≡ Some k → slice_get calls k ≡ Some call → call.position ≡ o → Stands calls history
    → all ≡ all_in portions ++ left → MayBeFetched calls history id left place → AfterLoss (state_of history) id all portions
lost_in calls history id all portions left place k call None at found is stands cut f =
    nothing_lost (state_of history) id all portions left cut
    (f.never (λ position step came.
    let here : came.0 ≡ k = same_some came.0 k (sym came.1 ∙ at) in
    let one : came.2.call ≡ call = same_some came.2.call call (sym came.2.found ∙ ap (λ (n : ℕ). slice_get calls n) here ∙ found) in
    let bad : None ≡ Some position = sym is ∙ sym (ap (λ (d : Call). d.position) one) ∙ came.2.placed in
    cc))
lost_in calls history id all portions left place k call (Some p) at found is stands cut f =
    let s = stands.same k call p found is in
    let tells = f.came p s.0 (k, at, record { call = call; found = found; placed = is; there = s.1 }) in
    loss_by (state_of history) id all portions left (told_at s.0) cut tells.tells
