-- The newest command of a job, by its turns.
use Rattle.std.proofs.Common.{◌≡◌, ◌⊎◌, ◌+◌, ◌<◌, ◌≤◌, ◌++◌, ◌∷◌, [], List, length, ℕ, Option, Some, refl, sym, ap, ◌∙◌, inl, inr, arith, length-append}
use Rattle.std.specs.List.{sum_by}
use Rattle.std.proofs.lemmas.List.Sums.{sum_by-append, sum_by-cons}
use Rattle.mg_link.specs.Link.{Awaited}
use Rattle.mg_link.specs.Log.{Call}
use Rattle.mg_players.specs.Causes.{Course, SentIn, SentNoneBehind}
use Rattle.mg_turns.specs.Counts.{NewestAt, sent_last, was_held}
use Rattle.mg_turns.specs.declared.turned.Turned.{Turned}

-- ---- one turn of many

-- an element of a list with one more is that one, or one of those before
last_of : {A : Type 0} (before : List A) (x : A) (after xs : List A) (y : A) → xs ++ y ∷ [] ≡ before ++ x ∷ after → ((rest : List A) × (xs ≡ before ++ x ∷ rest)) ⊎ ((before ≡ xs) × (x ≡ y))
last_of [] x after [] y e = inr (refl, cc e)
last_of [] x after (z ∷ xs) y e = let first : z ≡ x = cc e in inl (xs, ap (λ w. w ∷ xs) first)
last_of (b ∷ before) x after [] y e =
    let long = ap (λ l. length l) e in
    let sum = length-append before (x ∷ after) in
    absurd (omega (arith, long, sum))
last_of (b ∷ before) x after (z ∷ xs) y e =
    let first : z ≡ b = cc e in
    let rest : xs ++ y ∷ [] ≡ before ++ x ∷ after = cc e in
    elim (last_of before x after xs y rest) [
      | inl more ↦ inl (more.0, ap (λ w. w ∷ xs) first ∙ ap (λ l. b ∷ l) more.1)
      | inr end ↦ inr (ap (λ w. w ∷ before) (sym first) ∙ ap (λ l. z ∷ l) end.0, end.1)
    ]

abbrev pub started_in : List Turned → ℕ
started_in notes = sum_by (λ (t : Turned). t.started) notes

-- what was sent stands within what the notes count
pub sent_below : (c : Course) (i k place : ℕ) → SentIn c i k place → place < c.begun + started_in c.notes
sent_below c i k place s =
    let all = ap (λ ns. started_in ns) s.notes_are ∙ sum_by-append (λ (t : Turned). t.started) s.noted (s.note ∷ s.later) in
    let one = sum_by-cons (λ (t : Turned). t.started) s.note s.later in
    omega (arith, all, one, s.upto)

-- at first there was no turn
pub none_sent : (begun i k place : ℕ) → SentIn (record { begun = begun; order = []; notes = [] }) i k place → ⊥
none_sent begun i k place s =
    let long = ap (λ l. length l) s.order_is in
    let sum = length-append s.before (i ∷ s.after) in
    absurd (omega (arith, long, sum))

-- ---- one turn more

module _ (begun : ℕ) (order : List ℕ) (notes : List Turned) (j : ℕ) (note : Turned) (abreast : length order ≡ length notes) where
  abbrev was : Course
  was = record { begun = begun; order = order; notes = notes }

  abbrev is : Course
  is = record { begun = begun; order = order ++ j ∷ []; notes = notes ++ note ∷ [] }

  -- a command was sent before this turn, or in it by its job
  pub sent_before : (i k place : ℕ) → SentIn is i k place → SentIn was i k place ⊎ ((i ≡ j) × (begun + started_in notes ≤ place) × (place < begun + started_in notes + note.started))
  sent_before i k place s =
      let wide = s.abreast in
      elim (last_of s.before i s.after order j s.order_is) [
        | inl early ↦ elim (last_of s.noted s.note s.later notes note s.notes_are) [
          | inl noted ↦ inl (record {
            before = s.before;
            after = early.0;
            order_is = early.1;
            noted = s.noted;
            note = s.note;
            later = noted.0;
            notes_are = noted.1;
            abreast = s.abreast;
            done = s.done;
            from = s.from;
            upto = s.upto;
          })
          | inr last ↦
              let long = ap (λ l. length l) early.1 in
              let sum = length-append s.before (i ∷ early.0) in
              let whole = ap (λ l. length l) last.0 in
              absurd (omega (arith, long, sum, whole, wide, abreast))
        ]
        | inr end ↦ elim (last_of s.noted s.note s.later notes note s.notes_are) [
          | inl noted ↦
              let long = ap (λ l. length l) noted.1 in
              let sum = length-append s.noted (s.note ∷ noted.0) in
              let whole = ap (λ l. length l) end.0 in
              absurd (omega (arith, long, sum, whole, wide, abreast))
          | inr last ↦
              let count = ap (λ ns. started_in ns) last.0 in
              let one = ap (λ (t : Turned). t.started) last.1 in
              let low = s.from in
              let high = s.upto in
              inr (end.1, omega (arith, count, low), omega (arith, count, one, high))
        ]
      ]

  -- another job's turn leaves the newest command of a job
  pub newest_other : (i place : ℕ) → (i ≡ j → ⊥) → SentNoneBehind was i place → SentNoneBehind is i place
  newest_other i place ne none k later s = elim (sent_before i k later s) [ inl before ↦ none k later before | inr mine ↦ absurd (ne mine.0) ]

  -- its own turn gives the newest call of the turn
  pub newest_own : (held : Option ℕ) (began : Awaited) (calls calls' : List Call) (place : ℕ) → length calls ≡ begun + started_in notes → length calls' ≡ length calls + note.started → ((n : ℕ) → held ≡ Some n → began n ≡ Some place → SentNoneBehind was j place) → NewestAt held began calls calls' place → SentNoneBehind is j place
  newest_own held began calls calls' place count more none (sent_last less last) k later s = elim (sent_before j k later s) [
    | inl before ↦ (let below = sent_below was j k later before in omega (arith, below, count, less, last))
    | inr mine ↦ (let high = mine.2 in omega (arith, high, count, more, last))
  ]
  newest_own held began calls calls' place count more none (was_held same n holds at) k later s = elim (sent_before j k later s) [
    | inl before ↦ none n holds at k later before
    | inr mine ↦ (let low = mine.1 in let high = mine.2 in absurd (omega (arith, low, high, more, same)))
  ]
