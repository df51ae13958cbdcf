-- What the call that was added last will tell, whatever came after its step.
use Rattle.std.proofs.Common.{◌≡◌, ◌≢◌, ℕ, suc, ℤ, pos, true, false, List, [], ◌∷◌, ◌++◌, length, take, Some, refl, sym, ap, ◌∙◌, subst, arith, append_assoc, length-append}
use Rattle.std.proofs.lemmas.List.{take_at}
use Rattle.mg_link.specs.Namespace.{Space}
use Rattle.mg_server.specs.State.{State, nothing, Watch, Start, start_place}
use Rattle.mg_server.specs.Commands.{Asked, Told, refuses, inserted, opened, gave, killed, garbled, asked, asks_watch, asks_more, updated, deleted, done}
use Rattle.mg_server.specs.Step.{grown, effect, May, MayTell}
use Rattle.mg_server.specs.History.{Step, step_after, state_after, state_of, told_at, opening}
use Rattle.mg_link.specs.Log.{Call}
use Rattle.mg_server.specs.Standing.{OpensId, TookEffect, GivenTo}
use Rattle.mg_server.specs.Owner.{NoneNames}
use Rattle.mg_server.specs.Follow.{CursorAt, Brings, AfterOpen, AfterMore, AfterStart}
use Rattle.mg_server.proofs.Histories.{state_after-append}
use Rattle.mg_server.proofs.Later.{Later, later_step, later_steps, leaves_steps, respects_of, respects_step, grown-cursors, opens_given, opens_new}
use Rattle.mg_server.proofs.Timed.{IsTimed, timed_step, timed_of}
use Rattle.mg_server.proofs.Owners.{legal_parts, after_cons, state_one, BackTo, given_in_state}
use Rattle.mg_server.proofs.Apart.{silent_at}
use Rattle.mg_server.proofs.Asked.{more_step, open_step, WasOpened}
use Rattle.mg_server.proofs.Follows.{brings_later, more_later, begun_later}

-- a watch that was opened again behind a place tells of it still in a later state
resumed_by : (s' n t : State) (w : Watch) (start : Start) (place : ℕ) (said : Told) → WasOpened s' n w start said → ((from : ℕ) → start_place n start ≡ Some from → from ≡ place) → Later n t → ((x : ℤ) → OpensId said x → t.cursors x ≡ n.cursors x) → AfterOpen t w place said
resumed_by s' n t w start place (opened id space events token time) was there later same =
    brings_later n t w place id events token later (λ ne. same id (refl, ne)) (subst (λ (m : ℕ). Brings n w m id events token) (there was.from was.begins) was.brings)
resumed_by s' n t w start place (refuses code labels) was there later same = tt
resumed_by s' n t w start place (inserted m failures) was there later same = absurd was
resumed_by s' n t w start place (updated m changed failures) was there later same = absurd was
resumed_by s' n t w start place (deleted m failures) was there later same = absurd was
resumed_by s' n t w start place done was there later same = absurd was
resumed_by s' n t w start place (gave id space events token) was there later same = absurd was
resumed_by s' n t w start place killed was there later same = absurd was
resumed_by s' n t w start place garbled was there later same = absurd was

-- and so does the one that a stream opened with
started_by : (s' n : State) (history : List Step) (w : Watch) (start : Start) (position : ℕ) (said : Told) → WasOpened s' n w start said → opening history position start ≡ start_place n start → Later n (state_of history) → ((x : ℤ) → OpensId said x → (state_of history).cursors x ≡ n.cursors x) → AfterStart history w start position said
started_by s' n history w start position (opened id space events token time) was opens later same =
    record {
      from = was.from;
      begins = opens ∙ was.begins;
      begun = begun_later n (state_of history) start was.from events later was.begun;
      brings = brings_later n (state_of history) w was.from id events token later (λ ne. same id (refl, ne)) was.brings;
    }
started_by s' n history w start position (refuses code labels) was opens later same = tt
started_by s' n history w start position (inserted m failures) was opens later same = absurd was
started_by s' n history w start position (updated m changed failures) was opens later same = absurd was
started_by s' n history w start position (deleted m failures) was opens later same = absurd was
started_by s' n history w start position done was opens later same = absurd was
started_by s' n history w start position (gave id space events token) was opens later same = absurd was
started_by s' n history w start position killed was opens later same = absurd was
started_by s' n history w start position garbled was opens later same = absurd was

module _ (calls : List Call) (call : Call) (history : List Step) (p : ℕ) (b : BackTo calls call history p) where
  may : May (state_of b.before) (asked b.step.command) (told_at b.step) b.step.made
  may = (legal_parts (state_of b.before) b.step b.rest b.onward).0

  state_by : state_of history ≡ state_after (step_after (state_of b.before) b.step) b.rest
  state_by = ap state_of b.whole ∙ state_after-append nothing b.before (b.step ∷ b.rest) ∙ after_cons (state_of b.before) b.step b.rest

  later_behind : Later (step_after (state_of b.before) b.step) (state_of history)
  later_behind = subst (Later (step_after (state_of b.before) b.step)) (sym state_by) (later_steps (step_after (state_of b.before) b.step) b.rest (respects_step (state_of b.before) b.step (respects_of b.before)) (legal_parts (state_of b.before) b.step b.rest b.onward).1)

  stays_behind : (x : ℤ) → (step_after (state_of b.before) b.step).given x ≡ true → NoneNames b.rest x → (state_of history).cursors x ≡ (step_after (state_of b.before) b.step).cursors x
  stays_behind x given none =
      ap (λ (s : State). s.cursors x) state_by ∙ leaves_steps (step_after (state_of b.before) b.step) b.rest x (respects_step (state_of b.before) b.step (respects_of b.before)) (legal_parts (state_of b.before) b.step b.rest b.onward).1 given none

  -- a cursor that the step opened stands where the step put it
  new_stays : (k : ℕ) (step : Step) → TookEffect (calls ++ call ∷ []) history k p step → b.step ≡ step → (x : ℤ) → OpensId (told_at b.step) x → (state_of history).cursors x ≡ (step_after (state_of b.before) b.step).cursors x
  new_stays k step took same x opens =
      stays_behind x (opens_given (state_of b.before) b.step x may opens)
      (b.silent x (record { at = k; position = p; step = step; took = took; opens = subst (λ (s : Step). OpensId (told_at s) x) same opens }) (omega arith))

  -- it was none that had been given before
  pub new_is_other : (x : ℤ) → GivenTo calls b.before x → OpensId (told_at b.step) x → ⊥
  new_is_other x given opens =
      let bad : true ≡ false = sym (given_in_state calls b.before x b.legal given) ∙ opens_new (state_of b.before) b.step x may opens in
      cc

  pub more_tells : (w : Watch) (c : ℤ) (place : ℕ) (space : Space) → asked call.command ≡ asks_more c space → c ≢ pos 0 → CursorAt (state_of b.before) w c place → GivenTo calls b.before c → AfterMore (state_of history) w c place (told_at b.step)
  more_tells w c place space asks nz at given =
      let s : State = state_of b.before in
      let s' : State = grown s b.step.made in
      let q : asked b.step.command ≡ asks_more c space = ap asked b.command ∙ asks in
      let tells = subst (λ (a : Asked). MayTell s s' a (told_at b.step) b.step.made) q may.tells in
      let here = more_step s s' w c place space (told_at b.step) b.step.made (grown-cursors s b.step.made) tells nz at in
      let here' = subst (λ (a : Asked). AfterMore (effect s' a (told_at b.step)) w c place (told_at b.step)) (sym q) here in
      let was = (later_step s b.step (respects_of b.before) may).given c (given_in_state calls b.before c b.legal given) in
      more_later (step_after s b.step) (state_of history) w c place (told_at b.step) later_behind (λ ne. stays_behind c was (silent_at calls call history p c b given)) here'

  was_opened : (w : Watch) (start : Start) → asked call.command ≡ asks_watch w start → WasOpened (grown (state_of b.before) b.step.made) (step_after (state_of b.before) b.step) w start (told_at b.step)
  was_opened w start asks =
      let s : State = state_of b.before in
      let s' : State = grown s b.step.made in
      let q : asked b.step.command ≡ asks_watch w start = ap asked b.command ∙ asks in
      let tells = subst (λ (a : Asked). MayTell s s' a (told_at b.step) b.step.made) q may.tells in
      let timed = timed_step s b.step may (timed_of b.before b.legal) in
      let timed' = subst (λ (a : Asked). IsTimed (effect s' a (told_at b.step))) q timed in
      subst (λ (a : Asked). WasOpened s' (effect s' a (told_at b.step)) w start (told_at b.step)) (sym q) (open_step s s' w start (told_at b.step) b.step.made timed' tells)

  pub resume_tells : (w : Watch) (start : Start) (place k : ℕ) (step : Step) → asked call.command ≡ asks_watch w start → TookEffect (calls ++ call ∷ []) history k p step → b.step ≡ step
      → (Later (state_of b.before) (step_after (state_of b.before) b.step) → (from : ℕ) → start_place (step_after (state_of b.before) b.step) start ≡ Some from → from ≡ place) → AfterOpen (state_of history) w place (told_at b.step)
  resume_tells w start place k step asks took same there =
      resumed_by (grown (state_of b.before) b.step.made) (step_after (state_of b.before) b.step) (state_of history) w start place (told_at b.step) (was_opened w start asks) (there (later_step (state_of b.before) b.step (respects_of b.before) may)) later_behind (new_stays k step took same)

  opening_behind : (start : Start) → opening history p start ≡ start_place (step_after (state_of b.before) b.step) start
  opening_behind start =
      let n : length (b.before ++ b.step ∷ []) ≡ suc p = (let e = b.place in omega (arith, length-append b.before (b.step ∷ []))) in
      let front : take (suc p) history ≡ b.before ++ b.step ∷ [] =
      ap (take (suc p)) (b.whole ∙ sym (append_assoc b.before (b.step ∷ []) b.rest)) ∙ take_at (b.before ++ b.step ∷ []) b.rest (suc p) n in
      ap (λ h. start_place (state_of h) start) front ∙ ap (λ (s : State). start_place s start) (state_one b.before b.step)

  pub start_tells : (w : Watch) (start : Start) (k : ℕ) (step : Step) → asked call.command ≡ asks_watch w start → TookEffect (calls ++ call ∷ []) history k p step → b.step ≡ step → AfterStart history w start p (told_at b.step)
  start_tells w start k step asks took same =
      started_by (grown (state_of b.before) b.step.made) (step_after (state_of b.before) b.step) history w start p (told_at b.step) (was_opened w start asks) (opening_behind start) later_behind (new_stays k step took same)
