-- Each event of a legal history has an `_id`.
use Rattle.std.proofs.Common.{◌≡◌, ℕ, zero, suc, ◌-◌, Bool, true, false, List, [], ◌∷◌, ◌++◌, append-nil, map, Some, refl, sym, ap, ◌∙◌, subst, inl, inr, take, drop}
use Rattle.std.specs.Prelude.{slice_get, if◌then◌else◌}
use Rattle.std.specs.List.{filter}
use Rattle.mg_bson.specs.Tree.{Fields}
use Rattle.mg_server.specs.State.{Entry, State, Watch, query, watching, nothing, events_between, IsBatchBetween, sees}
use Rattle.mg_server.specs.Commands.{Asked, asks_watch, asks_more, Batch, Told, refuses, opened, gave, opened_by, gave_by, asked}
use Rattle.mg_server.specs.Step.{Made, grown, May, MayTell}
use Rattle.mg_server.specs.History.{Step, IsLegal, state_of, told_at}
use Rattle.mg_link.specs.Log.{Call}
use Rattle.mg_server.specs.Standing.{Stands}
use Rattle.mg_server.specs.Events.{HasId, HaveIds, events_in, AsksForEvents}
use Rattle.mg_server.specs.Follow.{holding, Follow, Knows, Reads}
use Rattle.mg_link.proofs.Places.{split_at}
use Rattle.mg_server.proofs.Numbered.{AreNumbered, numbered_of}
use Rattle.mg_server.proofs.Owners.{legal_back, legal_front, legal_parts}
use Rattle.mg_server.proofs.Heard.{opening_heard, giving_heard}
use Rattle.mg_server.proofs.Moving.{known_as, hand_as}
use Rattle.std.proofs.lemmas.List.{take_at}

-- ---- a view

-- the events of the entries have one
abbrev ShowIds : List Entry → Type 0
ShowIds [] = Unit {0}
ShowIds (e ∷ es) = HasId e.event × ShowIds es

ids_each : (es : List Entry) → ((p : ℕ) (e : Entry) → slice_get es p ≡ Some e → HasId e.event) → ShowIds es
ids_each [] each = tt
ids_each (e ∷ es) each = (each 0 e refl, ids_each es (λ p f h. each (suc p) f h))

ids_take : (n : ℕ) (es : List Entry) → ShowIds es → ShowIds (take n es)
ids_take zero es ids = tt
ids_take (suc n) [] ids = tt
ids_take (suc n) (e ∷ es) ids = (ids.0, ids_take n es ids.1)

ids_drop : (n : ℕ) (es : List Entry) → ShowIds es → ShowIds (drop n es)
ids_drop zero es ids = ids
ids_drop (suc n) [] ids = tt
ids_drop (suc n) (e ∷ es) ids = ids_drop n es ids.1

ids_if : (b : Bool) (e : Entry) (es : List Entry) → HasId e.event → ShowIds es → ShowIds (if b then e ∷ es else es)
ids_if true e es id ids = (id, ids)
ids_if false e es id ids = ids

ids_filter : (m : Entry → Bool) (es : List Entry) → ShowIds es → ShowIds (filter m es)
ids_filter m [] ids = tt
ids_filter m (e ∷ es) ids = ids_if (m e) e (filter m es) ids.0 (ids_filter m es ids.1)

ids_shown : (es : List Entry) → ShowIds es → HaveIds (map (λ (e : Entry). e.event) es)
ids_shown [] ids = tt
ids_shown (e ∷ es) ids = (ids.0, ids_shown es ids.1)

pub ids_between : (s : State) (w : Watch) (from upto : ℕ) → AreNumbered s → HaveIds (events_between w s.changes from upto)
ids_between s w from upto numbered =
    let all = ids_each s.changes (λ p e h. let n = numbered p e h in (e.token, n.id)) in
    ids_shown (filter (sees w) (take (upto - from) (drop from s.changes))) (ids_filter (sees w) (take (upto - from) (drop from s.changes)) (ids_take (upto - from) (drop from s.changes) (ids_drop from s.changes all)))

pub view_has_ids : (history : List Step) (w : Watch) (from upto : ℕ) → IsLegal history → HaveIds (events_between w (state_of history).changes from upto)
view_has_ids history w from upto legal = ids_between (state_of history) w from upto (numbered_of history legal)

-- ---- a reply

grown_none : (s : State) (made : Made) → made.entries ≡ [] → (grown s made).changes ≡ s.changes
unfolding grown
grown_none s made none = ap (λ (es : List Entry). s.changes ++ es) none ∙ append-nil s.changes

ids_given : (s : State) (made : Made) (w : Watch) (from upto : ℕ) (events : List Fields) → AreNumbered s → made.entries ≡ [] → IsBatchBetween w (grown s made).changes from upto events → HaveIds events
ids_given s made w from upto events numbered none these =
    subst HaveIds (sym these) (subst (λ (cs : List Entry). HaveIds (events_between w cs from upto)) (sym (grown_none s made none)) (ids_between s w from upto numbered))

ids_told : (s : State) (command : Asked) (said : Told) (made : Made) → AreNumbered s → AsksForEvents s command → MayTell s (grown s made) command said made → HaveIds (events_in said)
ids_told s (asks_watch w start) (opened id space events token time) made numbered asks may = ids_given s made w may.from may.batch.upto events numbered may.no_entry may.batch.these
ids_told s (asks_more other space) (gave id at events token) made numbered asks (inl may) = ids_given s made may.watch may.at may.batch.upto events numbered may.no_entry may.batch.these
ids_told s (asks_more other space) (gave id at events token) made numbered asks (inr may) = let bad : Some (query may.space (events ++ may.left)) ≡ Some (watching asks.0 asks.1) = sym may.stood ∙ asks.2 in absurd cc
ids_told s (asks_watch w start) (refuses code labels) made numbered asks may = tt
ids_told s (asks_more other space) (refuses code labels) made numbered asks may = tt
ids_told s (asks_watch w start) said made numbered asks may = absurd may
ids_told s (asks_more other space) said made numbered asks may = absurd may
ids_told s command said made numbered asks may = absurd asks

-- where a step of a legal history stands
record Standing (history : List Step) (position : ℕ) (step : Step) : Type 0 where
  before : State
  is : before ≡ state_of (take position history)
  numbered : AreNumbered before
  may : May before (asked step.command) (told_at step) step.made

standing : (history : List Step) (position : ℕ) (step : Step) → IsLegal history → slice_get history position ≡ Some step → Standing history position step
standing history position step legal there =
    let at = split_at history position step there in
    let whole = subst (λ h. IsLegal h) at.whole legal in
    record {
      before = state_of at.front;
      is = ap state_of (sym (take_at at.front (step ∷ at.back) position at.place) ∙ ap (take position) (sym at.whole));
      numbered = numbered_of at.front (legal_front nothing at.front (step ∷ at.back) whole);
      may = (legal_parts (state_of at.front) step at.back (legal_back nothing at.front (step ∷ at.back) whole)).0;
    }

pub reply_has_ids : (history : List Step) (position : ℕ) (step : Step) → IsLegal history → slice_get history position ≡ Some step → AsksForEvents (state_of (take position history)) (asked step.command) → HaveIds (events_in (told_at step))
reply_has_ids history position step legal there asks =
    let at = standing history position step legal there in
    ids_told at.before (asked step.command) (told_at step) step.made at.numbered (subst (λ (s : State). AsksForEvents s (asked step.command)) (sym at.is) asks) at.may.tells

-- ---- a batch that is read of it

module _ (s : State) (step : Step) (numbered : AreNumbered s) (may : May s (asked step.command) (told_at step) step.made) (batch : Batch) (reads : Reads step.reply batch) (asks_events : AsksForEvents s (asked step.command)) where
  told_as : (said : Told) → told_at step ≡ said → HaveIds (events_in said)
  told_as said is = subst (λ (t : Told). HaveIds (events_in t)) is (ids_told s (asked step.command) (told_at step) step.made numbered asks_events may.tells)

  batch_by : (command : Asked) → asked step.command ≡ command → AsksForEvents s command → HaveIds batch.events
  batch_by (asks_watch w start) asks is =
      let opens = opening_heard step w start step.reply batch asks refl reads in
      told_as (opened_by opens.time batch) opens.said_is
  batch_by (asks_more id space) asks is =
      told_as (gave_by batch) (giving_heard step id space step.reply batch asks refl reads)
  batch_by command asks is = absurd is

  pub batch_ids : HaveIds batch.events
  batch_ids = batch_by (asked step.command) refl asks_events

pub batch_has_ids : (history : List Step) (position : ℕ) (step : Step) (batch : Batch) → IsLegal history → slice_get history position ≡ Some step → AsksForEvents (state_of (take position history)) (asked step.command) → Reads step.reply batch → HaveIds batch.events
batch_has_ids history position step batch legal there is reads =
    let at = standing history position step legal there in
    batch_ids at.before step at.numbered at.may batch reads (subst (λ (s : State). AsksForEvents s (asked step.command)) (sym at.is) is)

-- ---- what a stream has in hand

pub ahead_has_ids : (calls : List Call) (f : Follow) (history : List Step) → f.doing ≡ holding → Knows calls f → IsLegal history → Stands calls history → HaveIds f.ahead
ahead_has_ids calls f history is k legal stands =
    let kn = known_as calls f holding is k in
    let o = kn.opened in
    let p = stands.placed o.at o.call o.bytes o.found o.heard in
    let facts = kn.facts history legal stands p.0 p.1 in
    let hand = hand_as calls history f p.0 holding is facts in
    subst HaveIds (sym hand.0.these) (view_has_ids history f.watch facts.place hand.0.upto legal)
