-- What the replies to a getMore and to an aggregate that opens a watch tell, right behind their steps.
use Rattle.std.proofs.Common.{◌≡◌, ◌≢◌, ℕ, zero, suc, ◌<◌, ◌≤◌, ℤ, pos, Bool, true, false, List, [], ◌∷◌, length, Option, Some, None, refl, sym, ap, ◌∙◌, subst, inl, inr, arith, ◌++◌}
use Rattle.std.specs.Prelude.{if◌then◌else◌, unwrap_or}
use Rattle.std.specs.Ordering.{int_eq}
use Rattle.std.proofs.lemmas.Bool.{cases_eq, cond_both}
use Rattle.std.proofs.lemmas.Bool.Decides.{Decides-int_eq}
use Rattle.mg_bson.specs.Tree.{Tree, Fields}
use Rattle.mg_link.specs.Namespace.{Space}
use Rattle.mg_server.specs.State.{Entry, Cursor, watching, query, State, Watch, Start, nowhere, after, at_time, count_before, start_place, events_between, put_cursor, give}
use Rattle.mg_server.specs.Commands.{Told, refuses, inserted, opened, gave, killed, garbled, asks_watch, asks_more, updated, deleted, done}
use Rattle.mg_server.specs.Step.{IsNamed, Made, effect, watching_at, moved, opened_cursor, moved_cursor, ends_cursor, MayGive, MayTell}
use Rattle.mg_server.specs.Follow.{CursorAt, Brings, AfterMore, IsBegun}
use Rattle.mg_server.proofs.Histories.{effect-changes}
use Rattle.mg_server.proofs.Views.{events_none}
use Rattle.mg_server.proofs.Timed.{IsTimed, past_by}
use Rattle.mg_server.proofs.Later.{effect_keeps}
use Rattle.mg_server.proofs.Owners.{same_some}

-- ---- a batch

same_watching : (w v : Watch) (p q : ℕ) → watching w p ≡ watching v q → (w ≡ v) × (p ≡ q)
same_watching w v p q h = (ap watch_of h, ap place_of h)
  where
    watch_of : Cursor → Watch
    watch_of (query space left) = w
    watch_of (watching x place) = x

    place_of : Cursor → ℕ
    place_of (query space left) = 0
    place_of (watching x place) = place

named_with : (s' n : State) (token : Option Tree) (place : ℕ) → n.tokens ≡ s'.tokens → IsNamed s' token place → IsNamed n token place
named_with s' n (Some token) place tokens named = ap (λ (f : Tree → Option ℕ). f token) tokens ∙ named
named_with s' n None place tokens named = absurd named

-- a batch that the state before allows, in one with the same entries and tokens
brings_by : (s' n : State) (w : Watch) (from : ℕ) (id left : ℤ) (events : List Fields) (token : Option Tree) → n.changes ≡ s'.changes → n.tokens ≡ s'.tokens → (g : MayGive s' w from left events token) → CursorAt n w id g.upto → Brings n w from id events token
brings_by s' n w from id left events token changes tokens g at =
    record {
      upto = g.upto;
      forward = g.forward;
      within = subst (λ (l : List Entry). g.upto ≤ length l) (sym changes) g.within;
      these = g.these ∙ ap (λ (l : List Entry). events_between w l from g.upto) (sym changes);
      named = named_with s' n token g.upto tokens g.named;
      stands = at;
    }

-- a watch that a reply puts behind its token
placed_at : (s' : State) (w : Watch) (token : Option Tree) (upto : ℕ) → IsNamed s' token upto → watching_at s' w token ≡ watching w upto
placed_at s' w (Some token) upto named = ap (λ (o : Option ℕ). watching w (unwrap_or o 0)) named
placed_at s' w None upto named = absurd named

here_put : (id : ℤ) (c : Option Cursor) (cursors : ℤ → Option Cursor) → put_cursor id c cursors id ≡ c
here_put id c cursors = ap (λ (b : Bool). if b then c else cursors id) ((Decides-int_eq id id).1 refl)

-- ---- getMore

more_at : (s' : State) (w : Watch) (c : ℤ) (place upto : ℕ) (events : List Fields) (token : Option Tree) (b : Bool) (d : Cursor) → s'.cursors c ≡ Some (watching w place) → IsNamed s' token upto → (if b then None else moved s' events token (s'.cursors c)) ≡ Some d → d ≡ watching w upto
more_at s' w c place upto events token true d stood named h = absurd cc
more_at s' w c place upto events token false d stood named h = same_some d (watching w upto) (sym h ∙ ap (moved s' events token) stood ∙ ap Some (placed_at s' w token upto named))

pub more_step : (s s' : State) (w : Watch) (c : ℤ) (place : ℕ) (space : Space) (said : Told) (made : Made) → s'.cursors ≡ s.cursors → MayTell s s' (asks_more c space) said made → c ≢ pos 0 → CursorAt s w c place → AfterMore (effect s' (asks_more c space) said) w c place said
unfolding effect
more_step s s' w c place space (gave left other events token) made same (inr may) nz at = let bad : query may.space (events ++ may.left) ≡ watching w place = at (query may.space (events ++ may.left)) nz may.stood in absurd cc
more_step s s' w c place space (gave left other events token) made same (inl may) nz at =
    let stood' : watching may.watch may.at ≡ watching w place = at (watching may.watch may.at) nz may.stood in
    let two = same_watching may.watch w may.at place stood' in
    let g : MayGive s' w place left events token = subst (λ (v : Watch). MayGive s' v place left events token) two.0 (subst (λ (n : ℕ). MayGive s' may.watch n left events token) two.1 may.batch) in
    let there : s'.cursors c ≡ Some (watching w place) = ap (λ (f : ℤ → Option Cursor). f c) same ∙ may.stood ∙ ap Some stood' in
    let n : State = moved_cursor s' c left events token in (
      brings_by s' n w place c left events token refl refl g
          (λ d ne h. more_at s' w c place g.upto events token (int_eq left (pos 0)) d there g.named (sym (here_put c (if int_eq left (pos 0) then None else moved s' events token (s'.cursors c)) s'.cursors) ∙ h)),
      may.same,
    )
more_step s s' w c place space (refuses code labels) made same may nz at =
    cond_both (ends_cursor code) (record s' { cursors = put_cursor c None s'.cursors }) s' (λ (n : State). CursorAt n w c place)
    (λ e d ne h. let bad : Some d ≡ None = sym h ∙ here_put c None s'.cursors in absurd cc)
    (λ e d ne h. at d ne (sym (ap (λ (f : ℤ → Option Cursor). f c) same) ∙ h))
more_step s s' w c place space (inserted n failures) made same may nz at = absurd may
more_step s s' w c place space (updated n changed failures) made same may nz at = absurd may
more_step s s' w c place space (deleted n failures) made same may nz at = absurd may
more_step s s' w c place space done made same may nz at = absurd may
more_step s s' w c place space (opened id other events token time) made same may nz at = absurd may
more_step s s' w c place space killed made same may nz at = absurd may
more_step s s' w c place space garbled made same may nz at = absurd may

-- ---- aggregates that open a watch

opened_at : (s' : State) (w : Watch) (id : ℤ) (token : Option Tree) (upto : ℕ) → IsNamed s' token upto → CursorAt (opened_cursor s' id (watching_at s' w token)) w id upto
opened_at s' w id token upto named =
    cond_both (int_eq id (pos 0)) s' (record s' { cursors = put_cursor id (Some (watching_at s' w token)) s'.cursors; given = give id s'.given }) (λ (n : State). CursorAt n w id upto)
    (λ e d ne h. absurd (ne ((Decides-int_eq id (pos 0)).0 e)))
    (λ e d ne h. same_some d (watching w upto) (sym h ∙ here_put id (Some (watching_at s' w token)) s'.cursors ∙ ap Some (placed_at s' w token upto named)))

-- where the state is this one behind the step
pub record OpenedAs (s' n : State) (w : Watch) (start : Start) (id : ℤ) (events : List Fields) (token : Option Tree) : Type 0 where
  pub from : ℕ
  pub begins : start_place n start ≡ Some from
  pub begun : IsBegun n start from events
  pub brings : Brings n w from id events token

abbrev pub WasOpened : State → State → Watch → Start → Told → Type 0
WasOpened s' n w start (opened id space events token time) = OpenedAs s' n w start id events token
WasOpened s' n w start (refuses code labels) = Unit {0}
WasOpened s' n w start (inserted m failures) = ⊥
WasOpened s' n w start (updated m changed failures) = ⊥
WasOpened s' n w start (deleted m failures) = ⊥
WasOpened s' n w start done = ⊥
WasOpened s' n w start (gave id space events token) = ⊥
WasOpened s' n w start killed = ⊥
WasOpened s' n w start garbled = ⊥

start_same : (s' n : State) (start : Start) → n.changes ≡ s'.changes → n.tokens ≡ s'.tokens → start_place n start ≡ start_place s' start
start_same s' n nowhere changes tokens = ap (λ (l : List Entry). Some (length l)) changes
start_same s' n (after token) changes tokens = ap (λ (f : Tree → Option ℕ). f token) tokens
start_same s' n (at_time time) changes tokens = ap (λ (l : List Entry). Some (count_before time l)) changes

-- a batch that holds an event begins before the end
from_below : (n : State) (w : Watch) (from : ℕ) (id : ℤ) (e : Fields) (es : List Fields) (token : Option Tree) → Brings n w from id (e ∷ es) token → from < length n.changes
from_below n w from id e es token g =
    let a = g.forward in
    let b = g.within in
    elim (cases_eq g.upto from) [
      | inl same ↦ let bad : e ∷ es ≡ [] = g.these ∙ sym (events_none w n.changes from g.upto same) in absurd cc
      | inr ne ↦ omega (arith, strictly from g.upto a (λ h. ne (sym h)))
    ]
  where
    strictly : (a b : ℕ) → a ≤ b → (a ≡ b → ⊥) → a < b
    strictly zero zero le ne = absurd (ne refl)
    strictly zero (suc b) le ne = omega arith
    strictly (suc a) zero le ne = absurd (omega arith)
    strictly (suc a) (suc b) le ne = let lt = strictly a b (omega arith) (λ h. ne (ap suc h)) in omega arith

begun_by : (n : State) (w : Watch) (start : Start) (from : ℕ) (id : ℤ) (events : List Fields) (token : Option Tree) → IsTimed n → start_place n start ≡ Some from → Brings n w from id events token → IsBegun n start from events
begun_by n w nowhere from id events token timed begins g =
    let e : length n.changes ≡ from = same_some (length n.changes) from begins in
    let a = g.forward in
    let b = g.within in
    g.these ∙ sym (events_none w n.changes from g.upto (omega arith))
begun_by n w (after t) from id events token timed begins g = begins
begun_by n w (at_time time) from id [] token timed begins g = tt
begun_by n w (at_time time) from id (e ∷ es) token timed begins g =
    let is : count_before time n.changes ≡ from = same_some (count_before time n.changes) from begins in
    let lt = from_below n w from id e es token g in
    (past_by time n.now n.changes timed (omega arith), is)

at_effect : (s' : State) (w : Watch) (start : Start) (id : ℤ) (space : Space) (events : List Fields) (token : Option Tree) (time : Option ℕ) (upto : ℕ) → IsNamed s' token upto → CursorAt (effect s' (asks_watch w start) (opened id space events token time)) w id upto
unfolding effect
at_effect s' w start id space events token time upto named = opened_at s' w id token upto named

pub open_step : (s s' : State) (w : Watch) (start : Start) (said : Told) (made : Made) → IsTimed (effect s' (asks_watch w start) said) → MayTell s s' (asks_watch w start) said made → WasOpened s' (effect s' (asks_watch w start) said) w start said
open_step s s' w start (opened id space events token time) made timed may =
    let n : State = effect s' (asks_watch w start) (opened id space events token time) in
    let changes : n.changes ≡ s'.changes = effect-changes s' (asks_watch w start) (opened id space events token time) in
    let tokens : n.tokens ≡ s'.tokens = (effect_keeps s' (asks_watch w start) (opened id space events token time)).tokens in
    let begins : start_place n start ≡ Some may.from = start_same s' n start changes tokens ∙ may.begins in
    let brings : Brings n w may.from id events token = brings_by s' n w may.from id id events token changes tokens may.batch (at_effect s' w start id space events token time may.batch.upto may.batch.named) in
    record { from = may.from; begins = begins; begun = begun_by n w start may.from id events token timed begins brings; brings = brings }
open_step s s' w start (refuses code labels) made timed may = tt
open_step s s' w start (inserted m failures) made timed may = absurd may
open_step s s' w start (updated m changed failures) made timed may = absurd may
open_step s s' w start (deleted m failures) made timed may = absurd may
open_step s s' w start done made timed may = absurd may
open_step s s' w start (gave id space events token) made timed may = absurd may
open_step s s' w start killed made timed may = absurd may
open_step s s' w start garbled made timed may = absurd may
