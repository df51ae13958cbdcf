-- The places of a job's commands rise, and no place is of two jobs.
use Rattle.std.proofs.Common.{◌≡◌, ◌⊎◌, ◌≤◌, ◌<◌, ◌+◌, ◌++◌, ℕ, zero, suc, Bool, true, false, List, [], ◌∷◌, refl, sym, ◌∙◌, subst, inl, inr, arith}
use Rattle.std.specs.Prelude.{cond, nat_eq}
use Rattle.std.proofs.lemmas.Bool.{cases_Bool, eqb-true}
use Rattle.mg_server.specs.Owner.{IsOf}
use Rattle.mg_players.specs.Causes.{Course, places_from, places_in, places_of}
use Rattle.mg_players.specs.Progress.{one_unless, pended_since, pends_last, turns_done}
use Rattle.mg_turns.specs.declared.turned.Turned.{Turned}

-- each is above the one before, and none is below this
abbrev pub Rise : ℕ → List ℕ → Type 0
Rise at [] = Unit {0}
Rise at (p ∷ ps) = (at ≤ p) × Rise (suc p) ps

pub rise_above : (ps : List ℕ) (a b : ℕ) → a ≤ b → Rise b ps → Rise a ps
rise_above [] a b less r = tt
rise_above (p ∷ ps) a b less r = (let low : b ≤ p = r.0 in omega (arith, less, low), r.1)

pub rise_first : (xs ys : List ℕ) (at : ℕ) → Rise at (xs ++ ys) → Rise at xs
rise_first [] ys at r = tt
rise_first (x ∷ xs) ys at r = (r.0, rise_first xs ys (suc x) r.1)

rise_from : (at n : ℕ) (ps : List ℕ) → Rise (at + n) ps → Rise at (places_from at n ++ ps)
rise_from at zero ps r = rise_above ps at (at + 0) (omega arith) r
rise_from at (suc n) ps r = let same : at + suc n ≡ suc at + n = omega arith in (omega arith, rise_from (suc at) n ps (subst (λ (m : ℕ). Rise m ps) same r))

places_rise : (i : ℕ) (order : List ℕ) (notes : List Turned) (at : ℕ) → Rise at (places_in i order notes at)
places_rise i [] notes at = tt
places_rise i (n ∷ order) [] at = tt
places_rise i (n ∷ order) (note ∷ notes) at =
    let rest = places_rise i order notes (at + note.started) in
    elim (nat_eq i n) as (λ (b : Bool). Rise at (cond b (places_from at note.started) [] ++ places_in i order notes (at + note.started))) [
      | true ↦ rise_from at note.started (places_in i order notes (at + note.started)) rest
      | false ↦ rise_above (places_in i order notes (at + note.started)) at (at + note.started) (omega arith) rest
    ]

pub of_rise : (c : Course) (i : ℕ) → Rise c.begun (places_of c i)
of_rise c i = places_rise i c.order c.notes c.begun

none_below : (ps : List ℕ) (at p : ℕ) → Rise at ps → IsOf ps p → at ≤ p
none_below [] at p r of = absurd of
none_below (q ∷ ps) at p r (inl same) = let low : at ≤ q = r.0 in omega (arith, low, same)
none_below (q ∷ ps) at p r (inr of) = let low : at ≤ q = r.0 in let more = none_below ps (suc q) p r.1 of in omega (arith, low, more)

-- ---- parts of places

pub of_first : (xs ys : List ℕ) (p : ℕ) → IsOf xs p → IsOf (xs ++ ys) p
of_first [] ys p of = absurd of
of_first (x ∷ xs) ys p (inl same) = inl same
of_first (x ∷ xs) ys p (inr of) = inr (of_first xs ys p of)

pub of_second : (xs ys : List ℕ) (p : ℕ) → IsOf ys p → IsOf (xs ++ ys) p
of_second [] ys p of = of
of_second (x ∷ xs) ys p of = inr (of_second xs ys p of)

pub of_either : (xs ys : List ℕ) (p : ℕ) → IsOf (xs ++ ys) p → IsOf xs p ⊎ IsOf ys p
of_either [] ys p of = inr of
of_either (x ∷ xs) ys p (inl same) = inl (inl same)
of_either (x ∷ xs) ys p (inr of) =
    elim (of_either xs ys p of) [
      | inl here ↦ inl (inr here)
      | inr there ↦ inr there
    ]

-- the first places are below the others
pub below_others : (xs ys : List ℕ) (at p q : ℕ) → Rise at (xs ++ ys) → IsOf xs p → IsOf ys q → p < q
below_others [] ys at p q r first second = absurd first
below_others (x ∷ xs) ys at p q r (inl same) second = let low = none_below (xs ++ ys) (suc x) q r.1 (of_second xs ys q second) in omega (arith, same, low)
below_others (x ∷ xs) ys at p q r (inr first) second = below_others xs ys (suc x) p q r.1 first second

-- ---- whose place it is

pub record IsHere (i n at m p : ℕ) : Type 0 where
  pub job : i ≡ n
  pub low : at ≤ p
  pub high : p < at + m

of_from : (at m p : ℕ) → IsOf (places_from at m) p → (at ≤ p) × (p < at + m)
of_from at zero p of = absurd of
of_from at (suc m) p (inl same) = (omega (arith, same), omega (arith, same))
of_from at (suc m) p (inr of) = let more = of_from (suc at) m p of in let low = more.0 in let high = more.1 in (omega (arith, low), omega (arith, high))

pub of_cond : (i n at m p : ℕ) → IsOf (cond (nat_eq i n) (places_from at m) []) p → IsHere i n at m p
of_cond i n at m p of =
    elim (cases_Bool (nat_eq i n)) [
      | inl is ↦ (let within = of_from at m p (subst (λ (b : Bool). IsOf (cond b (places_from at m) []) p) is of) in record { job = eqb-true i n is; low = within.0; high = within.1 })
      | inr not ↦ absurd (subst (λ (b : Bool). IsOf (cond b (places_from at m) []) p) not of)
    ]

one_in : (i j : ℕ) (order : List ℕ) (notes : List Turned) (at p : ℕ) → IsOf (places_in i order notes at) p → IsOf (places_in j order notes at) p → i ≡ j
one_in i j [] notes at p a b = absurd a
one_in i j (n ∷ order) [] at p a b = absurd a
one_in i j (n ∷ order) (note ∷ notes) at p a b =
    let next : ℕ = at + note.started in
    elim (of_either (cond (nat_eq i n) (places_from at note.started) []) (places_in i order notes next) p a) [
      | inl first ↦
          let f = of_cond i n at note.started p first in
          elim (of_either (cond (nat_eq j n) (places_from at note.started) []) (places_in j order notes next) p b) [
            | inl also ↦ f.job ∙ sym (of_cond j n at note.started p also).job
            | inr later ↦ (let low = none_below (places_in j order notes next) next p (places_rise j order notes next) later in let high = f.high in absurd (omega (arith, low, high)))
          ]
      | inr later ↦
          let low = none_below (places_in i order notes next) next p (places_rise i order notes next) later in
          elim (of_either (cond (nat_eq j n) (places_from at note.started) []) (places_in j order notes next) p b) [
            | inl also ↦ (let high = (of_cond j n at note.started p also).high in absurd (omega (arith, low, high)))
            | inr both ↦ one_in i j order notes next p later both
          ]
    ]

-- A place is of one job.
pub one_job : (c : Course) (i j p : ℕ) → IsOf (places_of c i) p → IsOf (places_of c j) p → i ≡ j
one_job c i j p a b = one_in i j c.order c.notes c.begun p a b

-- ---- a job all of whose turns pended

all_pended : (i : ℕ) (order : List ℕ) (notes : List Turned) → turns_done i order notes ≡ 0 → pended_since true i order notes ≡ true
all_pended i [] notes none = refl
all_pended i (n ∷ order) [] none = refl
all_pended i (n ∷ order) (note ∷ notes) none =
    elim (nat_eq i n) as (λ (b : Bool). cond b (one_unless note.pended) 0 + turns_done i order notes ≡ 0 → pended_since (cond b note.pended true) i order notes ≡ true) [
      | true ↦ λ zero'. elim note.pended as (λ (b : Bool). one_unless b + turns_done i order notes ≡ 0 → pended_since b i order notes ≡ true) [ true ↦ λ z. all_pended i order notes (omega (arith, z)) | false ↦ λ z. absurd (omega (arith, z)) ] zero'
      | false ↦ λ zero'. all_pended i order notes (omega (arith, zero'))
    ] none

sent_pended : (i : ℕ) (order : List ℕ) (notes : List Turned) (at p : ℕ) (last : Bool) → turns_done i order notes ≡ 0 → IsOf (places_in i order notes at) p → pended_since last i order notes ≡ true
sent_pended i [] notes at p last none of = absurd of
sent_pended i (n ∷ order) [] at p last none of = absurd of
sent_pended i (n ∷ order) (note ∷ notes) at p last none of =
    let rest : List ℕ = places_in i order notes (at + note.started) in
    elim (nat_eq i n) as (λ (b : Bool). cond b (one_unless note.pended) 0 + turns_done i order notes ≡ 0 → IsOf (cond b (places_from at note.started) [] ++ rest) p → pended_since (cond b note.pended last) i order notes ≡ true) [
      | true ↦ λ zero' here. elim note.pended as (λ (b : Bool). one_unless b + turns_done i order notes ≡ 0 → pended_since b i order notes ≡ true) [ true ↦ λ z. all_pended i order notes (omega (arith, z)) | false ↦ λ z. absurd (omega (arith, z)) ] zero'
      | false ↦ λ zero' later. sent_pended i order notes (at + note.started) p last (omega (arith, zero')) later
    ] none of

-- One that sent something, and none of whose turns did not pend, pended last.
pub sent_pends : (c : Course) (i p : ℕ) → turns_done i c.order c.notes ≡ 0 → IsOf (places_of c i) p → pends_last i c.order c.notes ≡ true
sent_pends c i p none of = sent_pended i c.order c.notes c.begun p false none of
