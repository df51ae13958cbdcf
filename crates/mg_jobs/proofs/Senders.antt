-- Each command of a run is one that a job of it sent.
use Rattle.std.proofs.Common.{◌≡◌, ◌≤◌, ◌<◌, ◌+◌, ◌++◌, ℕ, ℤ, Bool, false, List, [], ◌∷◌, length, take, Option, Some, None, refl, sym, ap, ◌∙◌, subst, inl, inr, arith, length-append, append_assoc}
use Rattle.std.specs.Prelude.{if◌then◌else◌, nat_lt, unwrap_or, codes, option_and_then, option_map}
use Rattle.std.specs.List.{sum_by}
use Rattle.std.proofs.lemmas.Bool.{cases_Bool, cases_lt, ltb-true}
use Rattle.std.proofs.lemmas.List.Sums.{sum_by-append, sum_by-cons}
use Rattle.std.proofs.Math.Seq.{take-append_seam}
use Rattle.mg_bson.specs.Tree.{Fields}
use Rattle.mg_bson.specs.Find.{get}
use Rattle.mg_link.specs.Numbers.{as_integer}
use Rattle.mg_server.specs.Commands.{Asked, asks_more, asks_other, more_of, space_at}
use Rattle.mg_server.specs.History.{Step, state_of}
use Rattle.mg_server.specs.Kept.{Kept, given_from, started_from, state_of_kept, steps_from, steps_of}
use Rattle.mg_link.specs.Namespace.{Space}
use Rattle.mg_server.specs.State.{nothing}
use Rattle.mg_server.proofs.Legal.{steps_from-append}
use Rattle.mg_ops.specs.Cursors.{Manner, next_command}
use Rattle.mg_script.specs.Script.{first_missing}
use Rattle.mg_store.proofs.Sending.{length-steps}
use Rattle.mg_jobs.proofs.Mild.{IsMildCommand, IsQuiet, quiet_mild}
use Rattle.mg_players.specs.Causes.{SentIn}
use Rattle.mg_players.specs.Progress.{turns_done}
use Rattle.mg_turns.specs.declared.turned.Turned.{Turned}

-- ---- the state before a step

pub state_before : (before later : List Kept) (k : Kept) → state_of (take (length before) (steps_of (before ++ k ∷ later))) ≡ state_of_kept before
state_before before later k =
    let rest : List Step = steps_from (state_of_kept before) (given_from 0 before) (started_from false before) (k ∷ later) in
    let whole : steps_of (before ++ k ∷ later) ≡ steps_of before ++ rest = steps_from-append nothing 0 false before (k ∷ later) in
    ap state_of (ap (take (length before)) whole ∙ ap (λ (n : ℕ). take n (steps_of before ++ rest)) (sym (length-steps before)) ∙ take-append_seam (steps_of before) rest)

-- ---- whose call it is

abbrev sent_by : List Turned → ℕ
sent_by notes = sum_by (λ (t : Turned). t.started) notes

-- a place within what the notes count is that of a command of some turn
pub turn_of : (begun : ℕ) (before : List ℕ) (noted : List Turned) (order : List ℕ) (notes : List Turned) (place : ℕ) → length noted ≡ length before → length notes ≡ length order → begun + sent_by noted ≤ place → place < begun + sent_by noted + sent_by notes
    → (i : ℕ) × (k : ℕ) × SentIn (record { begun = begun; order = before ++ order; notes = noted ++ notes }) i k place
turn_of begun before noted [] [] place abreast same low high = let none : sent_by [] ≡ 0 = refl in absurd (omega (arith, none, low, high))
turn_of begun before noted (i ∷ order) [] place abreast same low high = absurd (omega (arith, same))
turn_of begun before noted [] (note ∷ notes) place abreast same low high = absurd (omega (arith, same))
turn_of begun before noted (i ∷ order) (note ∷ notes) place abreast same low high =
    let sum = sum_by-cons (λ (t : Turned). t.started) note notes in
    elim (cases_lt place (begun + sent_by noted + note.started)) [
      | inl here ↦ (
        i,
        turns_done i before noted,
        record {
          before = before;
          after = order;
          order_is = refl;
          noted = noted;
          note = note;
          later = notes;
          notes_are = refl;
          abreast = abreast;
          done = refl;
          from = low;
          upto = here;
        },
      )
      | inr later ↦
          let all = sum_by-append (λ (t : Turned). t.started) noted (note ∷ []) in
          let one = sum_by-cons (λ (t : Turned). t.started) note [] in
          let none : sent_by [] ≡ 0 = refl in
          let long = length-append noted (note ∷ []) in
          let wide = length-append before (i ∷ []) in
          let more = turn_of begun (before ++ i ∷ []) (noted ++ note ∷ []) order notes place (omega (arith, abreast, long, wide)) (omega (arith, same)) (omega (arith, all, one, none, later)) (omega (arith, all, one, none, sum, high)) in (
            more.0,
            more.1,
            subst (λ (ns : List Turned). SentIn (record { begun = begun; order = before ++ i ∷ order; notes = ns }) more.0 more.1 place) (append_assoc noted (note ∷ []) notes)
                (subst (λ (is : List ℕ). SentIn (record { begun = begun; order = is; notes = (noted ++ note ∷ []) ++ notes }) more.0 more.1 place) (append_assoc before (i ∷ []) order) more.2),
          )
    ]

-- each number of an order that names jobs only is below their count
pub none_missing : (count : ℕ) (before : List ℕ) (i : ℕ) (after : List ℕ) → first_missing count (before ++ i ∷ after) ≡ None → i < count
unfolding first_missing
none_missing count [] i after none = elim (cases_Bool (nat_lt i count)) [
  | inl below ↦ ltb-true i count below
  | inr not ↦ (let bad : Some i ≡ None = sym (ap (λ (b : Bool). if b then first_missing count after else Some i) not) ∙ none in absurd cc)
]
none_missing count (n ∷ before) i after none = elim (cases_Bool (nat_lt n count)) [
  | inl below ↦ none_missing count before i after (sym (ap (λ (b : Bool). if b then first_missing count (before ++ i ∷ after) else Some n) below) ∙ none)
  | inr not ↦ (let bad : Some n ≡ None = sym (ap (λ (b : Bool). if b then first_missing count (before ++ i ∷ after) else Some n) not) ∙ none in absurd cc)
]

-- ---- a getMore adds nothing

abbrev found_quiet : Option Asked → Type 0
found_quiet found = IsQuiet (unwrap_or found asks_other)

by_more : (id : Option ℤ) (s : Option Space) → found_quiet (option_and_then (λ id. option_map (asks_more id) s) id)
by_more None s = tt
by_more (Some id) None = tt
by_more (Some id) (Some s) = tt

more_quiet : (fs : Fields) → found_quiet (more_of fs)
unfolding more_of
more_quiet fs = by_more (option_and_then as_integer (get (codes "getMore") fs)) (space_at (codes "collection") fs)

pub more_mild : (id : ℤ) (space : Space) (m : Manner) → IsMildCommand (next_command id space m)
more_mild id space m = quiet_mild (next_command id space m) (more_quiet (next_command id space m))
