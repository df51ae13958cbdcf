-- The steps of a job in the history of its store.
use Rattle.std.proofs.Common.{◌≡◌, ◌+◌, ◌<◌, ◌≤◌, ℕ, zero, suc, List, [], ◌∷◌, ◌++◌, length, Option, Some, Contains, refl, sym, ap, ◌∙◌, subst, inl, inr, arith}
use Rattle.std.specs.Prelude.{Bool, true, false, cond, nat_eq, option_and_then, slice_get}
use Rattle.std.proofs.lemmas.Bool.{eq-eqb, eqb-true}
use Rattle.std.proofs.lemmas.List.Elements.{Contains-append_right}
use Rattle.std.proofs.lemmas.List.Sums.{sum_by-cons}
use Rattle.mg_server.specs.History.{IsLegal, Step}
use Rattle.mg_link.specs.Log.{Call}
use Rattle.mg_server.specs.Owner.{IsOf}
use Rattle.mg_server.specs.Prompt.{HoldsBackNone}
use Rattle.mg_server.specs.Standing.{Stands}
use Rattle.mg_players.specs.Causes.{Course, SentIn, places_from, places_in, places_of}
use Rattle.mg_jobs.specs.Completing.{AnswersWell, AnswersWellIn, NoneRefused, own_position, positions_at}
use Rattle.mg_jobs.proofs.Created.{CreationsMeet, prompt_where_taken}
use Rattle.mg_players.proofs.Newest.{started_in}
use Rattle.mg_players.proofs.Telling.{from_is, in_either, in_first, in_second}
use Rattle.mg_players.specs.Progress.{turns_done}
use Rattle.mg_turns.specs.declared.turned.Turned.{Turned}

places_hold : (i : ℕ) (before : List ℕ) (noted : List Turned) (after : List ℕ) (note : Turned) (later : List Turned) (at place : ℕ) → length noted ≡ length before → at + started_in noted ≤ place → place < at + started_in noted + note.started → IsOf (places_in i (before ++ i ∷ after) (noted ++ note ∷ later) at) place
places_hold i [] [] after note later at place abreast low high =
    let none : started_in [] ≡ 0 = refl in
    in_first (cond (nat_eq i i) (places_from at note.started) []) (places_in i after later (at + note.started)) place
    (subst (λ b. IsOf (cond b (places_from at note.started) []) place) (sym (eq-eqb i i refl)) (from_is at note.started place (omega (arith, none, low)) (omega (arith, none, high))))
places_hold i [] (m ∷ noted) after note later at place abreast low high = absurd (omega arith)
places_hold i (n ∷ before) [] after note later at place abreast low high = absurd (omega arith)
places_hold i (n ∷ before) (m ∷ noted) after note later at place abreast low high =
    let sum : started_in (m ∷ noted) ≡ m.started + started_in noted = sum_by-cons (λ (t : Turned). t.started) m noted in
    in_second (cond (nat_eq i n) (places_from at m.started) []) (places_in i (before ++ i ∷ after) (noted ++ note ∷ later) (at + m.started)) place
    (places_hold i before noted after note later (at + m.started) place (omega (arith, abreast)) (omega (arith, sum, low)) (omega (arith, sum, high)))

-- what a job sent in its turns it sent at its places
pub sent_place : (c : Course) (i k place : ℕ) → SentIn c i k place → IsOf (places_of c i) place
sent_place c i k place s =
    subst (λ (order : List ℕ). IsOf (places_in i order c.notes c.begun) place) (sym s.order_is)
    (subst (λ (notes : List Turned). IsOf (places_in i (s.before ++ i ∷ s.after) notes c.begun) place) (sym s.notes_are) (places_hold i s.before s.noted s.after s.note s.later c.begun place s.abreast s.from s.upto))

-- What stands at its places it sent.

within_from : (at n place : ℕ) → IsOf (places_from at n) place → (at ≤ place) × (place < at + n)
within_from at zero place of = absurd of
within_from at (suc n) place (inl e) = (omega (arith, e), omega (arith, e))
within_from at (suc n) place (inr of) = let r = within_from (suc at) n place of in let low = r.0 in let high = r.1 in (omega (arith, low), omega (arith, high))

-- in the turn whose commands begin at this place
place_here : (i n : ℕ) (order : List ℕ) (note : Turned) (notes : List Turned) (at place : ℕ) (b : Bool) → nat_eq i n ≡ b → IsOf (cond b (places_from at note.started) []) place → (k : ℕ) × SentIn (record { begun = at; order = n ∷ order; notes = note ∷ notes }) i k place
place_here i n order note notes at place false is here = absurd here
place_here i n order note notes at place true is here =
    let same : i ≡ n = eqb-true i n is in
    let within = within_from at note.started place here in
    let none : started_in [] ≡ 0 = refl in
    (turns_done i [] [], record { before = []; after = order; order_is = ap (λ (m : ℕ). m ∷ order) (sym same); noted = []; note = note; later = notes; notes_are = refl; abreast = refl; done = refl; from = omega (arith, none, within.0); upto = omega (arith, none, within.1) })

place_in : (i : ℕ) (order : List ℕ) (notes : List Turned) (at place : ℕ) → IsOf (places_in i order notes at) place → (k : ℕ) × SentIn (record { begun = at; order = order; notes = notes }) i k place
place_in i [] notes at place is = absurd is
place_in i (n ∷ order) [] at place is = absurd is
place_in i (n ∷ order) (note ∷ notes) at place is = elim (in_either (cond (nat_eq i n) (places_from at note.started) []) (places_in i order notes (at + note.started)) place is) [
  | inl here ↦ place_here i n order note notes at place (nat_eq i n) refl here
  | inr after ↦
      let s = (place_in i order notes (at + note.started) place after).1 in
      let sum : started_in (note ∷ s.noted) ≡ note.started + started_in s.noted = sum_by-cons (λ (t : Turned). t.started) note s.noted in
      let abreast = s.abreast in
      let from = s.from in
      let upto = s.upto in (
        turns_done i (n ∷ s.before) (note ∷ s.noted),
        record {
          before = n ∷ s.before;
          after = s.after;
          order_is = ap (λ (l : List ℕ). n ∷ l) s.order_is;
          noted = note ∷ s.noted;
          note = s.note;
          later = s.later;
          notes_are = ap (λ (l : List Turned). note ∷ l) s.notes_are;
          abreast = omega (arith, abreast);
          done = refl;
          from = omega (arith, sum, from);
          upto = omega (arith, sum, upto);
        },
      )
]

pub place_sent : (c : Course) (i place : ℕ) → IsOf (places_of c i) place → (k : ℕ) × SentIn c i k place
place_sent c i place is =
    let s = place_in i c.order c.notes c.begun place is in
    (s.0, record { before = s.1.before; after = s.1.after; order_is = s.1.order_is; noted = s.1.noted; note = s.1.note; later = s.1.later; notes_are = s.1.notes_are; abreast = s.1.abreast; done = s.1.done; from = s.1.from; upto = s.1.upto })

pub has_position : (calls : List Call) (places : List ℕ) (place : ℕ) (call : Call) (position : ℕ) → IsOf places place → slice_get calls place ≡ Some call → call.position ≡ Some position → Contains (positions_at calls places) position
has_position calls [] place call position of there at = absurd of
has_position calls (first ∷ places) place call position (inl same) there at =
    let is : option_and_then (λ (c : Call). c.position) (slice_get calls first) ≡ Some position = ap (option_and_then (λ (c : Call). c.position)) (ap (slice_get calls) same ∙ there) ∙ at in
    subst (λ (o : Option ℕ). Contains (own_position o ++ positions_at calls places) position) (sym is) (0, omega arith, refl)
has_position calls (first ∷ places) place call position (inr of) there at =
    Contains-append_right (own_position (option_and_then (λ (c : Call). c.position) (slice_get calls first))) (positions_at calls places) position (has_position calls places place call position of there at)

-- A history that holds nothing back answers a job at once none of whose steps it refused, but the creation of a collection that is there.
unfoldable pub answers_well : (c : Course) (i : ℕ) (calls : List Call) (history : List Step) → IsLegal history → Stands calls history → HoldsBackNone history → CreationsMeet history → NoneRefused c i calls history → AnswersWell c i calls
answers_well c i calls history legal stands prompt meets taken = record {
  history = history;
  legal = legal;
  stands = stands;
  own = positions_at calls (places_of c i);
  positions = λ k place call position sent there at. has_position calls (places_of c i) place call position (sent_place c i k place sent) there at;
  prompt = prompt_where_taken history (positions_at calls (places_of c i)) prompt meets taken;
}

pub answered_well : (c : Course) (i : ℕ) (calls : List Call) (history : List Step) → IsLegal history → Stands calls history → HoldsBackNone history → CreationsMeet history → NoneRefused c i calls history → AnswersWellIn c i calls history
unfolding answers_well
answered_well c i calls history legal stands prompt meets taken = (answers_well c i calls history legal stands prompt meets taken, refl, refl)
