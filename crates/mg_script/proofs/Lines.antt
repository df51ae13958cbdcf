-- Lines that are written one after another.
use Rattle.std.proofs.Common.{◌≡◌, ℕ, ◌+◌, ◌<◌, ◌≤◌, List, [], ◌∷◌, ◌++◌, length, get_or, drop, refl, sym, ap, ◌∙◌, append_assoc, append-nil, add-one, decimal, codes, ℤ, pos, arith}
use Rattle.std.specs.Fmt.{signed_decimal}
use Rattle.std.proofs.lemmas.List.{drop_more, drop_all}
use Rattle.mg_script.specs.Text.{line, answer_line, answers_text, outcome_text, outcomes_text, spaced, open_text, open_line}
use Rattle.mg_script.specs.declared.outcome.Answer.{Answer}
use Rattle.mg_script.specs.declared.outcome.Outcome.{Outcome}

pub answers_more : (before after : List ℕ) (job call : ℕ) (a : Answer) (given : List Answer) (total : List ℕ) → call < length given → a ≡ get_or given call a → after ≡ before ++ answer_line job call a
    → before ++ answers_text job call (drop call given) ≡ total → after ++ answers_text job (call + 1) (drop (call + 1) given) ≡ total
unfolding answers_text
answers_more before after job call a given total lt is e so_far =
    let rest = drop (call + 1) given in
    ap (λ b. b ++ answers_text job (call + 1) rest) e ∙ append_assoc before (answer_line job call a) (answers_text job (call + 1) rest)
    ∙ ap (λ n. before ++ (answer_line job call a ++ answers_text job n rest)) (add-one call)
    ∙ ap (λ xs. before ++ answers_text job call xs) (sym (drop_more given call a lt ∙ ap (λ x. x ∷ rest) (sym is))) ∙ so_far

pub answers_all : (before : List ℕ) (job call : ℕ) (given : List Answer) (total : List ℕ) → length given ≤ call → before ++ answers_text job call (drop call given) ≡ total → before ≡ total
unfolding answers_text
answers_all before job call given total le so_far = sym (append-nil before) ∙ ap (λ xs. before ++ answers_text job call xs) (sym (drop_all call given le)) ∙ so_far

pub outcomes_more : (before after : List ℕ) (job : ℕ) (o : Outcome) (given : List Outcome) (total : List ℕ) → job < length given → o ≡ get_or given job o → after ≡ before ++ outcome_text job o
    → before ++ outcomes_text job (drop job given) ≡ total → after ++ outcomes_text (job + 1) (drop (job + 1) given) ≡ total
unfolding outcomes_text
outcomes_more before after job o given total lt is e so_far =
    let rest = drop (job + 1) given in
    ap (λ b. b ++ outcomes_text (job + 1) rest) e ∙ append_assoc before (outcome_text job o) (outcomes_text (job + 1) rest)
    ∙ ap (λ n. before ++ (outcome_text job o ++ outcomes_text n rest)) (add-one job)
    ∙ ap (λ xs. before ++ outcomes_text job xs) (sym (drop_more given job o lt ∙ ap (λ x. x ∷ rest) (sym is))) ∙ so_far

pub outcomes_all : (before : List ℕ) (job : ℕ) (given : List Outcome) (total : List ℕ) → length given ≤ job → before ++ outcomes_text job (drop job given) ≡ total → before ≡ total
unfolding outcomes_text
outcomes_all before job given total le so_far = sym (append-nil before) ∙ ap (λ xs. before ++ outcomes_text job xs) (sym (drop_all job given le)) ∙ so_far

pub spaced_more : (before after : List ℕ) (i : ℕ) (ns : List ℤ) (total : List ℕ) → i < length ns → after ≡ before ++ 32 ∷ signed_decimal (get_or ns i (pos 0))
    → before ++ spaced (drop i ns) ≡ total → after ++ spaced (drop (i + 1) ns) ≡ total
unfolding spaced
spaced_more before after i ns total lt e so_far =
    let n = get_or ns i (pos 0) in
    let rest = drop (i + 1) ns in
    ap (λ b. b ++ spaced rest) e ∙ append_assoc before (32 ∷ signed_decimal n) (spaced rest)
    ∙ ap (λ xs. before ++ spaced xs) (sym (drop_more ns i (pos 0) lt)) ∙ so_far

spaced_all : (before : List ℕ) (i : ℕ) (ns : List ℤ) (total : List ℕ) → length ns ≤ i → before ++ spaced (drop i ns) ≡ total → before ≡ total
unfolding spaced
spaced_all before i ns total le so_far = sym (append-nil before) ∙ ap (λ xs. before ++ spaced xs) (sym (drop_all i ns le)) ∙ so_far

open_some : (ns : List ℤ) → 0 < length ns → spaced ns ≡ open_text ns
open_some [] some = absurd (omega arith)
open_some (n ∷ ns) some = refl

pub opens : (old start mid new : List ℕ) (i : ℕ) (ns : List ℤ) → 0 < length ns → length ns ≤ i → start ≡ old ++ codes "open" → mid ++ spaced (drop i ns) ≡ start ++ spaced ns → new ≡ mid ++ 10 ∷ [] → new ≡ old ++ open_line ns
opens old start mid new i ns some le s m n =
    n ∙ ap (λ b. b ++ 10 ∷ []) (spaced_all mid i ns (start ++ spaced ns) le m ∙ ap (λ x. start ++ x) (open_some ns some) ∙ ap (λ b. b ++ open_text ns) s)
    ∙ simp append_assoc

-- the text of a run, after its outcomes and the line of its open cursors
pub ends : (old mid new outcomes : List ℕ) (ids open_ids : List ℤ) (n commands : ℕ) → old ≡ outcomes → ids ≡ open_ids → n ≡ commands → mid ≡ old ++ open_line ids → new ≡ mid ++ (codes "commands " ++ (decimal n ++ 10 ∷ []))
    → new ≡ outcomes ++ open_line open_ids ++ line (codes "commands " ++ decimal commands)
ends old mid new outcomes ids open_ids n commands a b d m e =
    e ∙ ap (λ x. x ++ (codes "commands " ++ (decimal n ++ 10 ∷ []))) (m ∙ ap (λ x. x ++ open_line ids) a ∙ ap (λ x. outcomes ++ open_line x) b)
    ∙ ap (λ k. (outcomes ++ open_line open_ids) ++ (codes "commands " ++ (decimal k ++ 10 ∷ []))) d ∙ ap (λ x. (outcomes ++ open_line open_ids) ++ x) (sym (append_assoc (codes "commands ") (decimal commands) (10 ∷ [])))
