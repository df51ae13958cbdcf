-- What is counted of a turn, poll by poll.
use Rattle.std.proofs.Common.{◌≡◌, ◌+◌, ◌<◌, ◌≤◌, ◌^◌, ◌++◌, ◌∷◌, [], List, length, ℕ, zero, suc, min, ◌-◌, Bool, true, false, Option, arith, refl, sym, ap, ◌∙◌, subst, inl, inr, length-append}
use Rattle.std.specs.List.{sum_by}
use Rattle.std.proofs.lemmas.List.Sums.{sum_by-append}
use Rattle.mg_server.specs.Calls.{Stays}
use Rattle.mg_server.proofs.Staying.{stays_adds, stays_on, stays_sees}
use Rattle.mg_turns.specs.declared.turned.Turned.{Turned}
use Rattle.mg_link.specs.Link.{Adds, Sees, LogTold}
use Rattle.mg_link.specs.Log.{Sight, fault, Call, see}
use Rattle.mg_link.proofs.Onward.{rose_on}
use Rattle.mg_link.proofs.Outs.{length-see}
use Rattle.mg_link.proofs.Places.{get_push}
use Rattle.mg_link.specs.Causes.{RoseJust, one_if}
use Rattle.mg_turns.specs.Counts.{AreNoted, Counted, Faultless, IsNoted, LosesNothing, RoseIf, StartedBy, turns_pended}

-- ---- what is lost

pub loses_on : (old mid new : LogTold) → LosesNothing old mid → LosesNothing mid new → LosesNothing old new
loses_on old mid new first second calls told =
    let a = first calls told in
    let b = second a.0 a.1 in
    (b.0, b.1, λ place call there is. a.2 place call (b.2 place call there is) is)

see_faultless : (k : ℕ) (seen : Sight) (calls : List Call) → (seen ≡ fault → ⊥) → Faultless calls (see k seen calls)
see_faultless k seen [] saved place call there is = there
see_faultless zero seen (c ∷ calls) saved zero call there is = let same : seen ≡ call.seen = cc in absurd (saved (same ∙ is))
see_faultless zero seen (c ∷ calls) saved (suc place) call there is = there
see_faultless (suc k) seen (c ∷ calls) saved zero call there is = there
see_faultless (suc k) seen (c ∷ calls) saved (suc place) call there is = see_faultless k seen calls saved place call there is

loses_sees : (log log' : LogTold) (place : Option ℕ) (seen : Sight) → (seen ≡ fault → ⊥) → Sees log log' place seen → LosesNothing log log'
loses_sees log log' place seen saved sees calls told = let s = sees calls told in (see s.0 seen calls, s.5, see_faultless s.0 seen calls saved)

-- ---- what is counted

started_seen : (n : ℕ) (old log log' : LogTold) (place : Option ℕ) (seen : Sight) → StartedBy n old log → Sees log log' place seen → StartedBy n old log'
started_seen n old log log' place seen started sees calls e =
    let s = started calls e in
    let r = sees s.0 s.1 in
    (see r.0 seen s.0, r.5, length-see r.0 seen s.0 ∙ s.2)

-- a call has seen its answer
pub counted_seen : (old log log' : LogTold) (n pended before pends pends' : ℕ) (prompts p p' : Type 0) (place : Option ℕ) (seen : Sight) → Counted old log n pended before pends prompts p → Sees log log' place seen → pends' ≡ pends → (p → p') → (p → seen ≡ fault → ⊥) → Counted old log' n pended before pends' prompts p'
counted_seen old log log' n pended before pends pends' prompts p p' place seen counted sees same stays saved =
    record {
      starts = started_seen n old log log' place seen counted.starts sees;
      stays = stays_on old log log' counted.stays (stays_sees log log' place seen sees);
      pends = λ few. subst (λ m. RoseJust pended before m) (sym same) (counted.pends few);
      never_less = omega (arith, same, counted.never_less);
      prompt = λ was. let r = counted.prompt was in (stays r.0, r.1, loses_on old log log' r.2 (loses_sees log log' place seen (saved r.0) sees));
    }

push_faultless : (calls : List Call) (added : Call) → (added.seen ≡ fault → ⊥) → Faultless calls (calls ++ added ∷ [])
push_faultless calls added saved place call there is = elim (get_push calls added place call there) [
  | inl old ↦ old
  | inr new ↦ absurd (saved (ap (λ (c : Call). c.seen) new.1 ∙ is))
]

-- a command was sent
pub counted_started : (old log log' : LogTold) (n more pended before pends pends' : ℕ) (prompts p p' : Type 0) (command : List ℕ) (seen : Sight) → Counted old log n pended before pends prompts p → Adds log log' command seen → more ≡ n + 1 → pends' ≡ pends → (p → p') → (p → seen ≡ fault → ⊥) → Counted old log' more pended before pends' prompts p'
counted_started old log log' n more pended before pends pends' prompts p p' command seen counted adds is same stays saved =
    record {
      starts = λ calls told.
          let s = counted.starts calls told in
          let a = adds s.0 s.1 in
          let added : Call = record { command = command; position = a.0; seen = seen } in
          let count = s.2 in
          (s.0 ++ added ∷ [], a.1, omega (arith, count, is, length-append s.0 (added ∷ [])));
      stays = stays_on old log log' counted.stays (stays_adds log log' command seen adds);
      pends = λ few. subst (λ m. RoseJust pended before m) (sym same) (counted.pends few);
      never_less = omega (arith, same, counted.never_less);
      prompt = λ was.
          let r = counted.prompt was in
          (stays r.0, r.1, loses_on old log log' r.2 (λ calls told. let a = adds calls told in let added : Call = record { command = command; position = a.0; seen = seen } in (calls ++ added ∷ [], a.1, push_faultless calls added (saved r.0))));
    }

-- a count that goes on by one, or stays at its greatest number
pub rose_counted : (n more : ℕ) → more ≡ min (n + 1) (2 ^ 64 - 1) → RoseJust 1 n more
rose_counted n more is = (omega (arith, is), omega (arith, is))

-- ---- notes

pub started_more : (xs : List Turned) (note : Turned) (old mid new : LogTold) → StartedBy (sum_by (λ (t : Turned). t.started) xs) old mid → StartedBy note.started mid new → StartedBy (sum_by (λ (t : Turned). t.started) (xs ++ note ∷ [])) old new
started_more xs note old mid new first second calls e =
    let a = first calls e in
    let b = second a.0 a.1 in
    let all = sum_by-append (λ (t : Turned). t.started) xs (note ∷ []) in
    let one : sum_by (λ (t : Turned). t.started) (note ∷ []) ≡ 0 + note.started = refl in
    let x = a.2 in
    let y = b.2 in
    (b.0, b.1, omega (arith, x, y, all, one))

pub noted_more : (xs : List Turned) (note : Turned) (old mid new : LogTold) (before count now : ℕ) → AreNoted xs old mid before count → StartedBy note.started mid new → Stays mid new → RoseIf note.pended count now → AreNoted (xs ++ note ∷ []) old new before now
noted_more [] note old mid new before count now first started stays pended =
    (new, now, subst (λ (l : LogTold). StartedBy note.started l new) first.0 started, subst (λ (l : LogTold). Stays l new) first.0 stays, subst (λ (n : ℕ). RoseIf note.pended n now) first.1 pended, (refl, refl))
noted_more (x ∷ xs) note old mid new before count now first started stays pended =
    (first.0, first.1, first.2, first.3, first.4, noted_more xs note first.0 mid new first.1 count now first.5 started stays pended)

-- a poll pends, and the counter of such polls goes on, or stays at its greatest number
pub counted_pends : (old log log' : LogTold) (n pended more before pends pends' : ℕ) (prompts p p' : Type 0) → Counted old log n pended before pends prompts p → log' ≡ log → more ≡ min (pended + 1) (2 ^ 64 - 1) → RoseJust 1 pends pends' → pends ≤ pends' → (p → ⊥) → Counted old log' n more before pends' prompts p'
counted_pends old log log' n pended more before pends pends' prompts p p' counted same is rose later never =
    record {
      starts = subst (λ (l : LogTold). StartedBy n old l) (sym same) counted.starts;
      stays = subst (λ (l : LogTold). Stays old l) (sym same) counted.stays;
      pends = λ few.
          let one : more ≡ pended + 1 = omega (arith, few, is) in
          subst (λ m. RoseJust m before pends') (sym one) (rose_on pended 1 before pends pends' (counted.pends (omega (arith, few, one))) rose);
      never_less = omega (arith, later, counted.never_less);
      prompt = λ was. absurd (never (counted.prompt was).0);
    }

-- a turn that pended raised the count
pended_by : (pended : Bool) (before now : ℕ) → RoseIf pended before now → RoseJust (one_if pended) before now
pended_by true before now p = p
pended_by false before now p = (omega (arith, p), omega (arith, p))

-- just as many turns pended as the count rose by
pub noted_rose : (xs : List Turned) (old new : LogTold) (before now : ℕ) → AreNoted xs old new before now → RoseJust (turns_pended xs) before now
noted_rose [] old new before now noted = (omega (arith, noted.1), omega (arith, noted.1))
noted_rose (x ∷ xs) old new before now noted =
    rose_on (one_if x.pended) (turns_pended xs) before noted.1 now (pended_by x.pended before noted.1 noted.4) (noted_rose xs noted.0 new noted.1 now noted.5)

pub one_at_most : (pended : Bool) → one_if pended ≤ 1
one_at_most true = omega arith
one_at_most false = omega arith

few_pended : (xs : List Turned) → turns_pended xs ≤ length xs
few_pended [] = omega arith
few_pended (x ∷ xs) = let more = few_pended xs in let one = one_at_most x.pended in omega (arith, more, one)

-- a count that began at 0, over fewer than 2^64 turns
pub turns_counted : (xs : List Turned) (now : ℕ) → length xs < 2 ^ 64 → RoseJust (turns_pended xs) 0 now → now ≡ turns_pended xs
turns_counted xs now few rose = let least = rose.0 in let most = rose.1 in let within = few_pended xs in omega (arith, few, least, most, within)

noted_as : (pended : Bool) (before now : ℕ) → RoseJust (one_if pended) before now → before ≤ now → RoseIf pended before now
noted_as true before now rose later = rose
noted_as false before now rose later = let most = rose.1 in omega (arith, most, later)

none_if : (pended : Bool) → one_if pended ≡ 0 → pended ≡ false
none_if true e = absurd cc
none_if false e = refl

-- the note of a turn whose polls were counted
pub is_noted : (note : Turned) (old new : LogTold) (n before now : ℕ) (prompts prompts' : Type 0) → n ≡ one_if note.pended → Counted old new note.started n before now prompts prompts' → IsNoted note old new before now prompts prompts'
is_noted note old new n before now prompts prompts' is counted =
    record {
      starts = counted.starts;
      stays = counted.stays;
      pends =
          let one = one_at_most note.pended in
          noted_as note.pended before now (subst (λ m. RoseJust m before now) is (counted.pends (omega (arith, is, one)))) counted.never_less;
      never_less = counted.never_less;
      prompt = λ was. let r = counted.prompt was in (r.0, none_if note.pended (sym is ∙ r.1), r.2);
    }
