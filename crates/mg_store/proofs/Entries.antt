-- The entries that the store holds, as those of a state.
use Rattle.std.proofs.Common.{◌≡◌, ℕ, zero, suc, ◌+◌, ◌<◌, ◌≤◌, ◌⊎◌, inl, inr, Bool, false, Some, List, [], ◌∷◌, ◌++◌, length, drop, get_or, refl, sym, ap, ap₂, ◌∙◌, subst, arith}
use Rattle.std.specs.Prelude.{nat_lt, slice_get, ◌&&◌, if◌then◌else◌}
use Rattle.std.proofs.lemmas.Option.{slice_get_past}
use Rattle.std.proofs.lemmas.Bool.{lt-ltb, le-ltb}
use Rattle.mg_bson.specs.Bytes.{bytes}
use Rattle.mg_bson.specs.Tree.{Fields}
use Rattle.mg_bson.specs.Raw.{fields}
use Rattle.mg_link.specs.Namespace.{Space}
use Rattle.mg_server.specs.State.{Change, Entry, Watch, count_before, drops, invalidates, is_invalidate, sees}
use Rattle.mg_server.specs.Rules.{dropped_entries, dropped_event, ended_before, ends_with, entry_before, invalidate_event, now_of, token_of}
use Rattle.mg_store.specs.Holding.{change_told, entry_at, entries_from, AreExact, IsEntryOf}
use Rattle.mg_store.specs.declared.change.ChangeEntry.{ChangeEntry}

pub length-entries : (p : ℕ) (es : List ChangeEntry) → length (entries_from p es) ≡ length es
length-entries p [] = refl
length-entries p (e ∷ es) = ap suc (length-entries (suc p) es)

pub entries-append : (p : ℕ) (es fs : List ChangeEntry) → entries_from p (es ++ fs) ≡ entries_from p es ++ entries_from (p + length es) fs
entries-append p [] fs = let e : p ≡ p + 0 = omega arith in ap (λ (n : ℕ). entries_from n fs) e
entries-append p (e ∷ es) fs =
    let n : suc p + length es ≡ p + suc (length es) = omega arith in
    ap (λ (l : List Entry). entry_at p e ∷ l) (entries-append (suc p) es fs ∙ ap (λ (m : ℕ). entries_from (suc p) es ++ entries_from m fs) n)

drop_from : (p n : ℕ) (es : List ChangeEntry) (e : ChangeEntry) → n < length es → e ≡ get_or es n e → drop n (entries_from p es) ≡ entry_at (p + n) e ∷ drop (suc n) (entries_from p es)
drop_from p zero [] e lt is = absurd (omega arith)
drop_from p zero (x ∷ es) e lt is =
    let at : p ≡ p + 0 = omega arith in
    ap₂ (λ (q : ℕ) (y : ChangeEntry). entry_at q y ∷ entries_from (suc p) es) at (sym is)
drop_from p (suc n) [] e lt is = absurd (omega arith)
drop_from p (suc n) (x ∷ es) e lt is =
    let at : suc p + n ≡ p + suc n = omega arith in
    drop_from (suc p) n es e (omega arith) is ∙ ap (λ (q : ℕ). entry_at q e ∷ drop (suc n) (entries_from (suc p) es)) at

-- the entry at a place, and those behind it
pub drop_entry : (n : ℕ) (es : List ChangeEntry) (e : ChangeEntry) → n < length es → e ≡ get_or es n e → drop n (entries_from 0 es) ≡ entry_at n e ∷ drop (n + 1) (entries_from 0 es)
drop_entry n es e lt is =
    let at : 0 + n ≡ n = omega arith in
    let next : suc n ≡ n + 1 = omega arith in
    drop_from 0 n es e lt is ∙ ap₂ (λ (q r : ℕ). entry_at q e ∷ drop r (entries_from 0 es)) at next

pub exact_at : (n : ℕ) (es : List ChangeEntry) (e : ChangeEntry) → n < length es → e ≡ get_or es n e → AreExact es → e.event ≡ bytes (fields e.event)
exact_at zero [] e lt is h = absurd (omega arith)
exact_at zero (x ∷ es) e lt is h = subst (λ (y : ChangeEntry). y.event ≡ bytes (fields y.event)) (sym is) h.0
exact_at (suc n) [] e lt is h = absurd (omega arith)
exact_at (suc n) (x ∷ es) e lt is h = exact_at n es e (omega arith) is h.1

pub exact-append : (es fs : List ChangeEntry) → AreExact es → AreExact fs → AreExact (es ++ fs)
exact-append [] fs h g = g
exact-append (e ∷ es) fs h g = (h.0, exact-append es fs h.1 g)

abbrev suc_if : Bool → ℕ → ℕ
suc_if below n = if below then suc n else n

counted_from : (time p n : ℕ) (es : List ChangeEntry) → n < length es → count_before time (drop n (entries_from p es)) ≡ suc_if (nat_lt (now_of (suc (p + n))) time) (count_before time (drop (suc n) (entries_from p es)))
counted_from time p n [] lt = absurd (omega arith)
counted_from time p zero (e ∷ es) lt = let at : p ≡ p + 0 = omega arith in ap (λ (q : ℕ). suc_if (nat_lt (now_of (suc q)) time) (count_before time (entries_from (suc p) es))) at
counted_from time p (suc n) (e ∷ es) lt =
    let at : suc p + n ≡ p + suc n = omega arith in
    counted_from time (suc p) n es (omega arith) ∙ ap (λ (q : ℕ). suc_if (nat_lt (now_of (suc q)) time) (count_before time (drop (suc n) (entries_from (suc p) es)))) at

-- the entry at a place counts where its time is below
pub counted_at : (time n below bound now : ℕ) (es : List ChangeEntry) → n < length es → now ≡ now_of (n + 1) → (below + count_before time (drop n (entries_from 0 es)) ≡ bound)
    → (now < time → below + 1 + count_before time (drop (n + 1) (entries_from 0 es)) ≡ bound) × (time ≤ now → below + count_before time (drop (n + 1) (entries_from 0 es)) ≡ bound)
counted_at time n below bound now es lt is so_far =
    let at : suc (0 + n) ≡ n + 1 = omega arith in
    let next : suc n ≡ n + 1 = omega arith in
    let step = counted_from time 0 n es lt ∙ ap₂ (λ (q r : ℕ). suc_if (nat_lt (now_of q) time) (count_before time (drop r (entries_from 0 es)))) at next ∙ ap (λ (q : ℕ). suc_if (nat_lt q time) (count_before time (drop (n + 1) (entries_from 0 es)))) (sym is) in (
      λ less. let e = step ∙ ap (λ (b : Bool). suc_if b (count_before time (drop (n + 1) (entries_from 0 es)))) (lt-ltb now time less) in omega (arith, so_far, e),
      λ more. let e = step ∙ ap (λ (b : Bool). suc_if b (count_before time (drop (n + 1) (entries_from 0 es)))) (le-ltb now time more) in omega (arith, so_far, e),
    )

got_from : (p n : ℕ) (es : List ChangeEntry) (e : ChangeEntry) → n < length es → e ≡ get_or es n e → slice_get (entries_from p es) n ≡ Some (entry_at (p + n) e)
got_from p n [] e lt is = absurd (omega arith)
got_from p zero (x ∷ es) e lt is = let at : p ≡ p + 0 = omega arith in ap₂ (λ (q : ℕ) (y : ChangeEntry). Some (entry_at q y)) at (sym is)
got_from p (suc n) (x ∷ es) e lt is = let at : suc p + n ≡ p + suc n = omega arith in got_from (suc p) n es e (omega arith) is ∙ ap (λ (q : ℕ). Some (entry_at q e)) at

-- whether a watch ended with the entry before the place
pub ended_at : (w : Watch) (place n : ℕ) (es : List ChangeEntry) (e : ChangeEntry) → place ≡ suc n → n < length es → e ≡ get_or es n e → ended_before w (entries_from 0 es) place ≡ (sees w (entry_at n e) && is_invalidate (entry_at n e).change)
ended_at w zero n es e at lt is = absurd (omega (arith, at))
ended_at w (suc m) n es e at lt is =
    let same : m ≡ 0 + n = omega (arith, at) in
    let here : 0 + n ≡ n = omega arith in
    ap (λ (k : ℕ). ends_with w (slice_get (entries_from 0 es) k)) (same ∙ here) ∙ ap (ends_with w) (got_from 0 n es e lt is ∙ ap (λ (q : ℕ). Some (entry_at q e)) here)

ended_past : (w : Watch) (place : ℕ) (es : List ChangeEntry) → length es < place → ended_before w (entries_from 0 es) place ≡ false
ended_past w zero es past = absurd (omega arith)
ended_past w (suc m) es past = ap (ends_with w) (slice_get_past (entries_from 0 es) m (omega (arith, length-entries 0 es)))

none_before : (w : Watch) (place : ℕ) (es : List ChangeEntry) → place ≡ 0 → ended_before w (entries_from 0 es) place ≡ false
none_before w zero es e = refl
none_before w (suc m) es e = absurd (omega arith)

pub ended_none : (w : Watch) (place : ℕ) (es : List ChangeEntry) → (place ≡ 0) ⊎ (length es < place) → ended_before w (entries_from 0 es) place ≡ false
ended_none w place es (inl e) = none_before w place es e
ended_none w place es (inr past) = ended_past w place es past

-- ---- the entries of a drop

pub told_entry : (place : ℕ) (sp : Space) (change : Change) (event : Fields) (e : ChangeEntry) → IsEntryOf sp event e → change_told event ≡ change → entry_at place e ≡ entry_before (suc place) sp change event
told_entry place sp change event e h told =
    ap₂ (λ (x : Space) (v : Fields). record { token = token_of (suc place); time = now_of (suc place); space = x; change = change_told v; event = v }) h.at_is h.event_is
    ∙ ap (λ (k : Change). record { token = token_of (suc place); time = now_of (suc place); space = sp; change = k; event = event }) told

pub dropped_held : (place p q : ℕ) (sp : Space) (a b : ChangeEntry) (es : List ChangeEntry) → p ≡ place + 1 → q ≡ place + 2 → IsEntryOf sp (dropped_event p sp) a → IsEntryOf sp (invalidate_event q) b → es ≡ a ∷ b ∷ [] → entries_from place es ≡ dropped_entries place sp
dropped_held place p q sp a b es first second x y these =
    let one : p ≡ suc place = omega (arith, first) in
    let two : q ≡ suc (suc place) = omega (arith, second) in
    ap (entries_from place) these
    ∙ ap₂ (λ (u v : Entry). u ∷ v ∷ []) (told_entry place sp drops (dropped_event (suc place) sp) a (subst (λ (n : ℕ). IsEntryOf sp (dropped_event n sp) a) one x) refl)
    (told_entry (suc place) sp invalidates (invalidate_event (suc (suc place))) b (subst (λ (n : ℕ). IsEntryOf sp (invalidate_event n) b) two y) refl)
