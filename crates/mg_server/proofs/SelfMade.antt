-- A log names its own cursors, call by call.
use Rattle.std.proofs.Common.{◌≡◌, ℕ, ◌≤◌, List, ◌++◌, length, Some, refl, sym, ap, ◌∙◌, subst, inl, inr, take, drop, arith}
use Rattle.std.specs.Prelude.{slice_get}
use Rattle.std.proofs.lemmas.Bool.{cases_lt}
use Rattle.std.proofs.lemmas.List.{take-append-drop, take-take, take_all}
use Rattle.mg_link.specs.Log.{Sight, waiting, reply, fault, memory, Call}
use Rattle.mg_server.specs.Commands.{asked}
use Rattle.mg_server.specs.History.{Step, IsLegal}
use Rattle.mg_server.specs.Standing.{Stands, SeenFits, Names, IsSelfMade, history_before}
use Rattle.mg_server.specs.Owner.{IsGrown, NamesItsOwn}
use Rattle.mg_link.proofs.Places.{get_some, get_take, taken_below, taken_get}
use Rattle.mg_server.proofs.Owners.{same_some, seen_grown}
use Rattle.mg_server.proofs.Fronts.{front_stands}

-- ---- fronts of lists

-- a front is a front of a longer one, with what is behind it there
front_parts : {A : Type 0} (n m : ℕ) (xs : List A) → n ≤ m → take n xs ++ drop n (take m xs) ≡ take m xs
front_parts n m xs le = ap (λ l. l ++ drop n (take m xs)) (sym (take-take n m xs le)) ∙ take-append-drop n (take m xs)

-- ---- a front of an earlier log

front_kept : (calls calls' : List Call) (n : ℕ) → IsGrown calls calls' → (k : ℕ) (call : Call) → slice_get (take n calls) k ≡ Some call
    → (call' : Call) × (slice_get (take n calls') k ≡ Some call') × (call'.command ≡ call.command) × (call'.position ≡ call.position) × ((bytes : List ℕ) → call.seen ≡ reply bytes → call'.seen ≡ reply bytes)
front_kept calls calls' n grown k call found =
    let r = grown.keeps k call (taken_get n calls k call found) in
    (r.0, get_take n calls' k (taken_below n calls k call found) ∙ r.1, r.2, r.3, r.4)

front_back : (calls calls' : List Call) (n : ℕ) → IsGrown calls calls' → n ≤ length calls → (k : ℕ) (call' : Call) → slice_get (take n calls') k ≡ Some call'
    → (call : Call) × (slice_get (take n calls) k ≡ Some call) × (call'.position ≡ call.position)
front_back calls calls' n grown le k call' found =
    let lt = taken_below n calls' k call' found in
    let old = get_some calls k (omega (arith, lt, le)) in
    let r = grown.keeps k old.0 old.1 in
    let same : r.0 ≡ call' = same_some r.0 call' (sym r.1 ∙ taken_get n calls' k call' found) in
    (old.0, get_take n calls k lt ∙ old.1, ap (λ (c : Call). c.position) (sym same) ∙ r.3)

less_fits : (seen seen' : Sight) (given : List ℕ) → ((bytes : List ℕ) → seen ≡ reply bytes → seen' ≡ reply bytes) → SeenFits seen' given → SeenFits seen given
less_fits waiting seen' given keeps fits = tt
less_fits (reply bytes) seen' given keeps fits = subst (λ (s : Sight). SeenFits s given) (keeps bytes refl) fits
less_fits fault seen' given keeps fits = tt
less_fits memory seen' given keeps fits = tt

-- Where a front of the later log stands, that of the earlier one does.
pub front_before : (calls calls' : List Call) (n : ℕ) (history : List Step) → IsGrown calls calls' → n ≤ length calls → Stands (take n calls') history → Stands (take n calls) history
front_before calls calls' n history grown le stands =
    record {
      rising = λ i j a b p q lt f g pa pb.
          let a' = front_kept calls calls' n grown i a f in
          let b' = front_kept calls calls' n grown j b g in
          stands.rising i j a'.0 b'.0 p q lt a'.1 b'.1 (a'.3 ∙ pa) (b'.3 ∙ pb);
      same = λ k call p found placed.
          let c = front_kept calls calls' n grown k call found in
          let s = stands.same k c.0 p c.1 (c.3 ∙ placed) in
          (s.0, s.1, s.2 ∙ c.2, less_fits call.seen c.0.seen s.0.reply c.4 s.3);
      placed = λ k call bytes found heard.
          let c = front_kept calls calls' n grown k call found in
          let p = stands.placed k c.0 bytes c.1 (c.4 bytes heard) in
          (p.0, sym c.3 ∙ p.1);
      alone = λ p step x there names g lt.
          let c = front_kept calls calls' n grown g.at g.took.call g.took.found in
          let f = stands.alone p step x there names (record { at = g.at; position = g.position; step = g.step; took = record { call = c.0; found = c.1; placed = c.3 ∙ g.took.placed; there = g.took.there }; opens = g.opens }) lt in
          let b = front_back calls calls' n grown le f.0 f.1 f.2 in
          (f.0, b.0, b.1, sym b.2 ∙ f.3);
    }

-- ---- the whole log

-- Where the log stands it names its own cursors as a whole.
pub names_whole : (calls : List Call) (history : List Step) → NamesItsOwn calls → IsLegal history → Stands calls history → IsSelfMade calls
names_whole calls history made legal stands k call x found names =
    let f = front_stands (take k calls) (drop k calls) history legal (subst (λ (l : List Call). Stands l history) (sym (take-append-drop k calls)) stands) in
    made k call x (history_before (drop k calls) history) f.0 f.1 found names

-- ---- a log that stands nowhere

-- What comes behind it changes nothing of it.
pub made_nowhere : (calls calls' : List Call) → IsGrown calls calls' → ((history : List Step) → IsLegal history → Stands calls history → ⊥) → NamesItsOwn calls → NamesItsOwn calls'
made_nowhere calls calls' grown nowhere made j c x history legal stands found names =
    elim (cases_lt j (length calls)) [
      | inl lt ↦
          let old = get_some calls j lt in
          let r = grown.keeps j old.0 old.1 in
          let same : r.0 ≡ c = same_some r.0 c (sym r.1 ∙ found) in
          let command : c.command ≡ old.0.command = ap (λ (d : Call). d.command) (sym same) ∙ r.2 in
          seen_grown calls calls' j j x grown (omega arith) (made j old.0 x history legal (front_before calls calls' j history grown (omega (arith, lt)) stands) old.1 (subst (λ (d : List ℕ). Names (asked d) x) command names))
      | inr ge ↦
          let later = drop (length calls) (take j calls') in
          let f = front_stands (take (length calls) calls') later history legal (subst (λ (l : List Call). Stands l history) (sym (front_parts (length calls) j calls' ge)) stands) in
          let mine = front_before calls calls' (length calls) (history_before later history) grown (omega arith) f.1 in
          absurd (nowhere (history_before later history) f.0 (subst (λ (l : List Call). Stands l (history_before later history)) (take_all (length calls) calls (omega arith)) mine))
    ]
