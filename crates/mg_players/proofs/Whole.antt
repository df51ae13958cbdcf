-- All places of what a job sent, turn by turn.
use Rattle.std.proofs.Common.{◌≡◌, ◌+◌, ◌-◌, ℕ, List, [], ◌∷◌, ◌++◌, length, refl, sym, ap, ◌∙◌, append-nil, append_assoc, arith}
use Rattle.std.specs.List.{concat}
use Rattle.std.specs.Prelude.{cond, nat_eq}
use Rattle.std.proofs.lemmas.Bool.{eq-eqb, ne_eqb}
use Rattle.std.proofs.lemmas.List.Sums.{sum_by-cons}
use Rattle.mg_players.specs.Causes.{places_from, places_in, sent_since}
pub use Rattle.mg_change.proofs.Grown.{since_none, since_on}
use Rattle.mg_players.specs.Plays.{Places, all_places}
use Rattle.mg_players.proofs.Newest.{started_in}
use Rattle.mg_turns.specs.declared.turned.Turned.{Turned}

-- ---- what a turn does to them

pub concat_more : (xss : List (List ℕ)) (ys : List ℕ) → concat (xss ++ ys ∷ []) ≡ concat xss ++ ys
concat_more [] ys = append-nil ys
concat_more (xs ∷ xss) ys = ap (λ (l : List ℕ). xs ++ l) (concat_more xss ys) ∙ sym (append_assoc xs (concat xss) ys)

-- where there was no opening and no call, all are those of what goes on
pub only_now : (q : Places) → q.opened ≡ [] → q.owns ≡ [] → all_places q ≡ q.now
only_now q opened owns = ap (λ (l : List ℕ). l ++ (concat q.owns ++ q.now)) opened ∙ ap (λ (l : List (List ℕ)). concat l ++ q.now) owns

-- where there was nothing but an opening, all are its places
pub only_opened : (q : Places) → q.owns ≡ [] → q.now ≡ [] → all_places q ≡ q.opened
only_opened q owns now = ap (λ (l : List (List ℕ)). q.opened ++ (concat l ++ q.now)) owns ∙ ap (λ (l : List ℕ). q.opened ++ l) now ∙ append-nil q.opened

pub whole_same : (q : Places) (from : ℕ) → all_places q ≡ sent_since (all_places q) from from
whole_same q from = sym (since_none (all_places q) from)

pub whole_going : (q : Places) (from upto : ℕ) → q.opened ++ (concat q.owns ++ sent_since q.now from upto) ≡ sent_since (all_places q) from upto
whole_going q from upto =
    let more : List ℕ = places_from from (upto - from) in
    ap (λ (l : List ℕ). q.opened ++ l) (sym (append_assoc (concat q.owns) q.now more)) ∙ sym (append_assoc q.opened (concat q.owns ++ q.now) more)

pub whole_opened : (q : Places) (from upto : ℕ) → q.opened ≡ [] → q.owns ≡ [] → sent_since q.now from upto ++ [] ≡ sent_since (all_places q) from upto
whole_opened q from upto opened owns = append-nil (sent_since q.now from upto) ∙ ap (λ (l : List ℕ). sent_since l from upto) (sym (only_now q opened owns))

pub whole_answered : (q : Places) (from upto : ℕ) → q.opened ++ (concat (q.owns ++ sent_since q.now from upto ∷ []) ++ []) ≡ sent_since (all_places q) from upto
whole_answered q from upto =
    let own : List ℕ = sent_since q.now from upto in
    ap (λ (l : List ℕ). q.opened ++ l) (append-nil (concat (q.owns ++ own ∷ [])) ∙ concat_more q.owns own) ∙ whole_going q from upto

-- ---- one turn more

-- of another job
pub places_other : (i j : ℕ) → (i ≡ j → ⊥) → (order : List ℕ) (notes : List Turned) (note : Turned) (at : ℕ) → length order ≡ length notes → places_in i (order ++ j ∷ []) (notes ++ note ∷ []) at ≡ places_in i order notes at
places_other i j ne [] [] note at abreast = ap (λ b. cond b (places_from at note.started) [] ++ []) (ne_eqb i j ne)
places_other i j ne [] (m ∷ notes) note at abreast = absurd (omega arith)
places_other i j ne (n ∷ order) [] note at abreast = absurd (omega arith)
places_other i j ne (n ∷ order) (m ∷ notes) note at abreast = ap (λ (l : List ℕ). cond (nat_eq i n) (places_from at m.started) [] ++ l) (places_other i j ne order notes note (at + m.started) (omega arith))

-- of the job itself
pub places_own : (j : ℕ) (order : List ℕ) (notes : List Turned) (note : Turned) (at : ℕ) → length order ≡ length notes → places_in j (order ++ j ∷ []) (notes ++ note ∷ []) at ≡ places_in j order notes at ++ places_from (at + started_in notes) note.started
places_own j [] [] note at abreast =
    let none : started_in [] ≡ 0 = refl in
    let same : at ≡ at + started_in [] = omega (arith, none) in
    ap (λ b. cond b (places_from at note.started) [] ++ []) (eq-eqb j j refl) ∙ append-nil (places_from at note.started) ∙ ap (λ (k : ℕ). places_from k note.started) same
places_own j [] (m ∷ notes) note at abreast = absurd (omega arith)
places_own j (n ∷ order) [] note at abreast = absurd (omega arith)
places_own j (n ∷ order) (m ∷ notes) note at abreast =
    let first : List ℕ = cond (nat_eq j n) (places_from at m.started) [] in
    let rest : List ℕ = places_in j order notes (at + m.started) in
    let sum : started_in (m ∷ notes) ≡ m.started + started_in notes = sum_by-cons (λ (t : Turned). t.started) m notes in
    let same : at + m.started + started_in notes ≡ at + started_in (m ∷ notes) = omega (arith, sum) in
    ap (λ (l : List ℕ). first ++ l) (places_own j order notes note (at + m.started) (omega arith)) ∙ sym (append_assoc first rest (places_from (at + m.started + started_in notes) note.started))
    ∙ ap (λ (k : ℕ). (first ++ rest) ++ places_from k note.started) same
