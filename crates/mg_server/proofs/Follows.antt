-- What a stream knows stays true while others call.
use Rattle.std.proofs.Common.{◌≡◌, ◌≢◌, ℕ, suc, ◌<◌, ◌≤◌, ℤ, pos, List, [], ◌∷◌, ◌++◌, length, Option, Some, None, refl, sym, ap, ◌∙◌, subst, inl, arith, le_trans, length-append}
use Rattle.std.specs.Prelude.{slice_get}
use Rattle.std.proofs.lemmas.List.{take-append-le}
use Rattle.mg_bson.specs.Tree.{Tree, Fields}
use Rattle.mg_server.specs.State.{Entry, State, nothing, Watch, Start, nowhere, after, at_time, count_before, start_place, events_between}
use Rattle.mg_server.specs.Commands.{Told, refuses, inserted, opened, gave, killed, garbled, asked, asks_watch, updated, deleted, done}
use Rattle.mg_server.specs.Step.{IsNamed}
use Rattle.mg_server.specs.History.{Step, state_after, state_of, told_at, opening}
use Rattle.mg_link.specs.Log.{Call}
use Rattle.mg_server.specs.Standing.{OpensId, TookEffect, GivenTo, Stands}
use Rattle.mg_server.specs.Owner.{Owner, Owns, by_id, by_reply, Holds, IsGrown, Earlier, Onward}
use Rattle.mg_server.specs.Follow.{Doing, unopened, starting, resting, holding, asking, owing, resuming, Follow, waited, owner_of, IsPast, Marks, HasReached, CursorAt, Brings, AfterOpen, AfterMore, IsBegun, AfterStart, CameAs, Hand, Facts, Opened, KnowsOpen, KnowsStarting, KnowsBy, Knows}
use Rattle.mg_link.proofs.Places.{get_within}
use Rattle.mg_server.proofs.Histories.{state_after-append}
use Rattle.mg_server.proofs.Later.{Later, later_steps, respects_of, leaves_steps}
use Rattle.mg_server.proofs.Timed.{count_still}
use Rattle.mg_server.proofs.Views.{events_more}
use Rattle.mg_server.proofs.Owners.{same_some, took_back, given_in_state}
use Rattle.mg_server.proofs.Apart.{holds_kept}

-- ---- one state after another

grows_to : (s t : State) → Later s t → length s.changes ≤ length t.changes
grows_to s t later = let e = ap length later.changes ∙ length-append s.changes later.more in omega arith

events_later : (s t : State) (w : Watch) (p q : ℕ) → Later s t → p ≤ q → q ≤ length s.changes → events_between w s.changes p q ≡ events_between w t.changes p q
events_later s t w p q later le within = sym (events_more w s.changes later.more p q le within) ∙ ap (λ (l : List Entry). events_between w l p q) (sym later.changes)

pub past_later : (s t : State) (start : Start) (from : ℕ) → Later s t → IsPast s start from → IsPast t start from
past_later s t nowhere from later h = h
past_later s t (after token) from later h = h
past_later s t (at_time time) from later h =
    (le_trans h.0 later.now, ap (count_before time) later.changes ∙ count_still time s.now s.changes later.more h.0 later.times ∙ h.1)

marks_later : (s t : State) (start : Start) (from : ℕ) (token : Option Tree) (answered : List Fields) (place : ℕ) → Later s t → Marks s start from token answered place → Marks t start from token answered place
marks_later s t start from (Some token) answered place later h = later.tokens token place h
marks_later s t start from None answered place later h = (h.0, h.1, past_later s t start from later h.2)

named_later : (s t : State) (token : Option Tree) (place : ℕ) → Later s t → IsNamed s token place → IsNamed t token place
named_later s t (Some token) place later h = later.tokens token place h
named_later s t None place later h = h

pub reached_later : (s t : State) (w : Watch) (start : Start) (token : Option Tree) (answered : List Fields) (from place : ℕ) → Later s t → HasReached s w start token answered from place → HasReached t w start token answered from place
reached_later s t w start token answered from place later h =
    let a = h.within in
    let b = grows_to s t later in
    record {
      forward = h.forward;
      within = omega arith;
      marks = marks_later s t start from token answered place later h.marks;
      these = h.these ∙ events_later s t w from place later h.forward h.within;
    }

cursor_later : (s t : State) (w : Watch) (id : ℤ) (place : ℕ) → (id ≢ pos 0 → t.cursors id ≡ s.cursors id) → CursorAt s w id place → CursorAt t w id place
cursor_later s t w id place same h c ne there = h c ne (sym (same ne) ∙ there)

pub brings_later : (s t : State) (w : Watch) (place : ℕ) (id : ℤ) (events : List Fields) (token : Option Tree) → Later s t → (id ≢ pos 0 → t.cursors id ≡ s.cursors id) → Brings s w place id events token → Brings t w place id events token
brings_later s t w place id events token later same h =
    let a = h.within in
    let b = grows_to s t later in
    record {
      upto = h.upto;
      forward = h.forward;
      within = omega arith;
      these = h.these ∙ events_later s t w place h.upto later h.forward h.within;
      named = named_later s t token h.upto later h.named;
      stands = cursor_later s t w id h.upto same h.stands;
    }

pub open_later : (s t : State) (w : Watch) (from : ℕ) (said : Told) → Later s t → ((x : ℤ) → OpensId said x → t.cursors x ≡ s.cursors x) → AfterOpen s w from said → AfterOpen t w from said
open_later s t w from (opened id space events token time) later same h = brings_later s t w from id events token later (λ ne. same id (refl, ne)) h
open_later s t w from (refuses code labels) later same h = tt
open_later s t w from (inserted n failures) later same h = absurd h
open_later s t w from (updated n changed failures) later same h = absurd h
open_later s t w from (deleted n failures) later same h = absurd h
open_later s t w from done later same h = absurd h
open_later s t w from (gave id space events token) later same h = absurd h
open_later s t w from killed later same h = absurd h
open_later s t w from garbled later same h = absurd h

pub more_later : (s t : State) (w : Watch) (id : ℤ) (place : ℕ) (said : Told) → Later s t → (id ≢ pos 0 → t.cursors id ≡ s.cursors id) → AfterMore s w id place said → AfterMore t w id place said
more_later s t w id place (gave left space events token) later same h = (brings_later s t w place id events token later same h.0, h.1)
more_later s t w id place (refuses code labels) later same h = cursor_later s t w id place same h
more_later s t w id place (opened other space events token time) later same h = absurd h
more_later s t w id place (inserted n failures) later same h = absurd h
more_later s t w id place (updated n changed failures) later same h = absurd h
more_later s t w id place (deleted n failures) later same h = absurd h
more_later s t w id place done later same h = absurd h
more_later s t w id place killed later same h = absurd h
more_later s t w id place garbled later same h = absurd h

pub begun_later : (s t : State) (start : Start) (from : ℕ) (events : List Fields) → Later s t → IsBegun s start from events → IsBegun t start from events
begun_later s t nowhere from events later h = h
begun_later s t (after token) from events later h = later.tokens token from h
begun_later s t (at_time time) from [] later h = tt
begun_later s t (at_time time) from (e ∷ es) later h = past_later s t (at_time time) from later h

-- a watch opened at the same place in every longer history
pub opening_kept : (before tail : List Step) (position : ℕ) (start : Start) → position < length before → opening (before ++ tail) position start ≡ opening before position start
opening_kept before tail position start lt = ap (λ h. start_place (state_of h) start) (take-append-le (suc position) before tail (omega arith))

-- ---- an earlier history

module _ (calls : List Call) (o : Owner) (history : List Step) (e : Earlier calls o history) where
  whole_state : state_of history ≡ state_after (state_of e.before) e.tail
  whole_state = ap state_of e.whole ∙ state_after-append nothing e.before e.tail

  pub later_of : Later (state_of e.before) (state_of history)
  later_of = subst (Later (state_of e.before)) (sym whole_state) (later_steps (state_of e.before) e.tail (respects_of e.before) e.rest)

  -- a cursor of the caller stands where it stood
  pub still_of : (x : ℤ) → Owns calls e.before o x → GivenTo calls e.before x → (state_of history).cursors x ≡ (state_of e.before).cursors x
  still_of x owns given =
      ap (λ (s : State). s.cursors x) whole_state
      ∙ leaves_steps (state_of e.before) e.tail x (respects_of e.before) e.rest (given_in_state calls e.before x e.legal given) (e.silent x owns given)

  pub opening_of : (position : ℕ) (start : Start) → position < length e.before → opening history position start ≡ opening e.before position start
  opening_of position start lt = ap (λ h. opening h position start) e.whole ∙ opening_kept e.before e.tail position start lt

  -- what took effect for a call that the caller waits for did so before
  pub came_back : (calls' : List Call) (place : Option ℕ) (position : ℕ) (step : Step) → IsGrown calls calls' → ((k : ℕ) → place ≡ Some k → (call : Call) × (slice_get calls k ≡ Some call)) → CameAs calls' history place position step → CameAs calls e.before place position step
  came_back calls' place position step grown in_log came =
      let c = in_log came.0 came.1 in
      let took = subst (λ h. TookEffect calls' h came.0 position step) e.whole came.2 in
      (came.0, came.1, took_back calls calls' e.before e.tail came.0 position step c.0 grown e.stands c.1 took)

-- ---- what a stream knows

pub in_log_of : (calls : List Call) (g : Follow) → Holds calls (owner_of g) → (k : ℕ) → waited g.doing ≡ Some k → (call : Call) × (slice_get calls k ≡ Some call)
in_log_of calls g holds k is = holds.in_log k (inl is)

module _ (calls calls' : List Call) (grown : IsGrown calls calls') (g : Follow) (history : List Step) (e : Earlier calls (owner_of g) history) (holds : Holds calls (owner_of g)) where
  cursor_still : g.cursor ≢ pos 0 → (state_of history).cursors g.cursor ≡ (state_of e.before).cursors g.cursor
  cursor_still ne = still_of calls (owner_of g) history e g.cursor (by_id (inl refl) ne) (holds.given e.before e.legal e.stands g.cursor (inl refl) ne)

  coming_still : (place : Option ℕ) (position : ℕ) (step : Step) → waited g.doing ≡ place → CameAs calls e.before place position step → (x : ℤ) → OpensId (told_at step) x → (state_of history).cursors x ≡ (state_of e.before).cursors x
  coming_still place position step is came x opens =
      still_of calls (owner_of g) history e x (by_reply came.0 position step (inl (is ∙ came.1)) came.2 opens) (record { at = came.0; position = position; step = step; took = came.2; opens = opens })

  back : (place : Option ℕ) (position : ℕ) (step : Step) → waited g.doing ≡ place → CameAs calls' history place position step → CameAs calls e.before place position step
  back place position step is came = came_back calls (owner_of g) history e calls' place position step grown (λ k at. in_log_of calls g holds k (is ∙ at)) came

  hand_kept : (place : ℕ) (d : Doing) → g.doing ≡ d → Hand calls e.before (state_of e.before) g place d → Hand calls' history (state_of history) g place d
  hand_kept place unopened is h = tt
  hand_kept place (starting at) is h = tt
  hand_kept place resting is h = cursor_later (state_of e.before) (state_of history) g.watch g.cursor place cursor_still h
  hand_kept place holding is h = (brings_later (state_of e.before) (state_of history) g.watch place g.cursor g.ahead g.upto (later_of calls (owner_of g) history e) cursor_still h.0, h.1)
  hand_kept place (asking at) is h = λ position step came.
      let r = h position step (back at position step (ap waited is) came) in
      record { space = r.space; asks = r.asks; tells = more_later (state_of e.before) (state_of history) g.watch g.cursor place (told_at step) (later_of calls (owner_of g) history e) cursor_still r.tells }
  hand_kept place owing is h = tt
  hand_kept place (resuming at) is h = λ position step came.
      let came' = back at position step (ap waited is) came in
      let r = h position step came' in
      record { start = r.start; asks = r.asks; tells = open_later (state_of e.before) (state_of history) g.watch place (told_at step) (later_of calls (owner_of g) history e) (coming_still at position step (ap waited is) came') r.tells; other = r.other }

  pub facts_kept : (position : ℕ) → position < length e.before → Facts calls e.before g position → Facts calls' history g position
  facts_kept position lt f =
      record {
        from = f.from;
        begins = opening_of calls (owner_of g) history e position g.start lt ∙ f.begins;
        place = f.place;
        reached = reached_later (state_of e.before) (state_of history) g.watch g.start g.token g.answered f.from f.place (later_of calls (owner_of g) history e) f.reached;
        hand = hand_kept f.place g.doing refl f.hand;
      }

  start_kept : (position : ℕ) (said : Told) → position < length e.before → ((x : ℤ) → OpensId said x → (state_of history).cursors x ≡ (state_of e.before).cursors x) → AfterStart e.before g.watch g.start position said → AfterStart history g.watch g.start position said
  start_kept position (opened id space events token time) lt same h =
      record {
        from = h.from;
        begins = opening_of calls (owner_of g) history e position g.start lt ∙ h.begins;
        begun = begun_later (state_of e.before) (state_of history) g.start h.from events (later_of calls (owner_of g) history e) h.begun;
        brings = brings_later (state_of e.before) (state_of history) g.watch h.from id events token (later_of calls (owner_of g) history e) (λ ne. same id (refl, ne)) h.brings;
      }
  start_kept position (refuses code labels) lt same h = tt
  start_kept position (inserted n failures) lt same h = absurd h
  start_kept position (updated n changed failures) lt same h = absurd h
  start_kept position (deleted n failures) lt same h = absurd h
  start_kept position done lt same h = absurd h
  start_kept position (gave id space events token) lt same h = absurd h
  start_kept position killed lt same h = absurd h
  start_kept position garbled lt same h = absurd h

  pub coming_kept : (place : Option ℕ) (position : ℕ) (step : Step) → g.doing ≡ starting place → CameAs calls' history place position step
      → (CameAs calls e.before place position step → AfterStart e.before g.watch g.start position (told_at step)) → AfterStart history g.watch g.start position (told_at step)
  coming_kept place position step is came h =
      let came' = back place position step (ap waited is) came in
      start_kept position (told_at step) (get_within e.before position step came'.2.there) (coming_still place position step (ap waited is) came') (h came')

-- a call of the log stands within each history in which the log stands
pub placed_within : (calls : List Call) (history : List Step) (k : ℕ) (call : Call) (position : ℕ) → Stands calls history → slice_get calls k ≡ Some call → call.position ≡ Some position → position < length history
placed_within calls history k call position stands found placed =
    let s = stands.same k call position found placed in
    get_within history position s.0 s.1

abbrev pub opened_grown : (calls calls' : List Call) (f f' : Follow) → f'.opened ≡ f.opened → f'.watch ≡ f.watch → f'.start ≡ f.start → IsGrown calls calls' → Opened calls f → Opened calls' f'
opened_grown calls calls' f f' same watch start grown o =
    let r = grown.keeps o.at o.call o.found in
    record { at = o.at; is = same ∙ o.is; call = r.0; bytes = o.bytes; found = r.1; watches = ap asked r.2 ∙ o.watches ∙ ap (λ w. asks_watch w f.start) (sym watch) ∙ ap (asks_watch f'.watch) (sym start); heard = r.4 o.bytes o.heard }

open_kept : (calls calls' : List Call) (g : Follow) → Onward calls calls' (owner_of g) → Holds calls (owner_of g) → KnowsOpen calls g → KnowsOpen calls' g
open_kept calls calls' g onward holds kn =
    let o = kn.opened in
    let r = onward.grown.keeps o.at o.call o.found in
    record {
      opened = opened_grown calls calls' g g refl refl refl onward.grown o;
      facts = λ history legal stands position placed.
          let e = onward.earlier history legal stands in
          let placed' : o.call.position ≡ Some position = sym r.3 ∙ placed in
          facts_kept calls calls' onward.grown g history e holds position (placed_within calls e.before o.at o.call position e.stands o.found placed') (kn.facts e.before e.legal e.stands position placed');
    }

starting_kept : (calls calls' : List Call) (g : Follow) (place : Option ℕ) → g.doing ≡ starting place → Onward calls calls' (owner_of g) → Holds calls (owner_of g) → KnowsStarting calls g place → KnowsStarting calls' g place
starting_kept calls calls' g place is onward holds kn =
    record {
      has_nothing = kn.has_nothing;
      watches = λ k call at found.
          let c = in_log_of calls g holds k (ap waited is ∙ at) in
          let r = onward.grown.keeps k c.0 c.1 in
          let same : r.0 ≡ call = same_some r.0 call (sym r.1 ∙ found) in
          ap asked (sym (ap (λ (x : Call). x.command) same) ∙ r.2) ∙ kn.watches k c.0 at c.1;
      coming = λ history legal stands position step came.
          let e = onward.earlier history legal stands in
          coming_kept calls calls' onward.grown g history e holds place position step is came (λ came'. kn.coming e.before e.legal e.stands position step came');
    }

known_by : (calls calls' : List Call) (g : Follow) (d : Doing) → g.doing ≡ d → Onward calls calls' (owner_of g) → Holds calls (owner_of g) → KnowsBy d calls g → KnowsBy d calls' g
known_by calls calls' g unopened is onward holds k = k
known_by calls calls' g (starting place) is onward holds k = starting_kept calls calls' g place is onward holds k
known_by calls calls' g resting is onward holds k = open_kept calls calls' g onward holds k
known_by calls calls' g holding is onward holds k = open_kept calls calls' g onward holds k
known_by calls calls' g (asking place) is onward holds k = open_kept calls calls' g onward holds k
known_by calls calls' g owing is onward holds k = open_kept calls calls' g onward holds k
known_by calls calls' g (resuming place) is onward holds k = open_kept calls calls' g onward holds k

-- A stream goes on knowing while others call.
pub knows_kept : (calls calls' : List Call) (g : Follow) → Onward calls calls' (owner_of g) → Knows calls g → Knows calls' g
knows_kept calls calls' g onward k = record { owned = holds_kept calls calls' (owner_of g) onward k.owned; by = known_by calls calls' g g.doing refl onward k.owned k.by }
