-- Where the batches of the rules end.
use Rattle.std.proofs.Common.{◌≡◌, ℕ, ℤ, zero, suc, ◌+◌, ◌-◌, ◌≤◌, Bool, true, false, List, [], ◌∷◌, length, take, drop, Option, Some, None, sym, ap, subst, arith, length-drop, take_all}
use Rattle.std.specs.Prelude.{◌&&◌, ◌||◌, nat_lt, if◌then◌else◌}
use Rattle.std.specs.List.{filter}
use Rattle.std.proofs.lemmas.Bool.{cond_both}
use Rattle.mg_bson.specs.Bytes.{bytes}
use Rattle.mg_server.specs.State.{Entry, Watch, sees, is_invalidate, between, seen_between}
use Rattle.mg_server.specs.Step.{EndsAtInvalidate}
use Rattle.mg_server.specs.Rules.{behind_given, behind_other, full_behind, place_or_end, batch_place, max_batch, has_invalidate, id_unless, batch_id}

-- ---- the place behind a batch

abbrev IsWithin : Option ℕ → ℕ → Type 0
IsWithin None len = Unit {0}
IsWithin (Some n) len = n ≤ len

within_given : (o : Option ℕ) (len : ℕ) → IsWithin o len → IsWithin (behind_given o) (suc len)
within_given None len h = tt
within_given (Some n) len h = omega arith

within_other : (o : Option ℕ) (len : ℕ) → IsWithin o len → IsWithin (behind_other o) (suc len)
within_other None len h = tt
within_other (Some zero) len h = omega arith
within_other (Some (suc n)) len h = omega arith

full_within : (w : Watch) (size room : ℕ) (given : Bool) (es : List Entry) → IsWithin (full_behind w size room given es) (length es)
unfolding full_behind
full_within w zero room given es = omega arith
full_within w (suc size) room given [] = tt
full_within w (suc size) room given (e ∷ es) =
    let stops : IsWithin (Some 0) (suc (length es)) = omega arith in
    let ends : IsWithin (Some 1) (suc (length es)) = omega arith in
    cond_both (sees w e) _ _ (λ (o : Option ℕ). IsWithin o (suc (length es)))
    (λ seen. cond_both (given && nat_lt room (length (bytes e.event))) _ _ (λ (o : Option ℕ). IsWithin o (suc (length es))) (λ full. stops)
    (λ goes_on. cond_both (is_invalidate e.change) _ _ (λ (o : Option ℕ). IsWithin o (suc (length es))) (λ last. ends)
    (λ goes_on. within_given _ (length es) (full_within w size (room - length (bytes e.event)) true es))))
    (λ unseen. within_other _ (length es) (full_within w (suc size) room given es))

place_within : (changes : List Entry) (from : ℕ) (o : Option ℕ) → from ≤ length changes → IsWithin o (length (drop from changes)) → (from ≤ place_or_end changes from o) × (place_or_end changes from o ≤ length changes)
place_within changes from None le h = (le, omega arith)
place_within changes from (Some n) le h = let d = length-drop from changes in (omega arith, omega arith)

-- a batch ends not before its beginning, and within the entries
pub batch_within : (w : Watch) (changes : List Entry) (from size : ℕ) → from ≤ length changes → (from ≤ batch_place w changes from size) × (batch_place w changes from size ≤ length changes)
batch_within w changes from size le = place_within changes from (full_behind w size max_batch false (drop from changes)) le (full_within w size max_batch false (drop from changes))

-- ---- invalidate entries

-- the entries up to the place behind which a batch ends
abbrev pub taken : Option ℕ → List Entry → List Entry
taken None es = es
taken (Some n) es = take n es

-- an invalidate entry has none behind it
abbrev EndLast : List Entry → Type 0
EndLast [] = Unit {0}
EndLast (e ∷ []) = Unit {0}
EndLast (e ∷ f ∷ es) = (is_invalidate e.change ≡ false) × EndLast (f ∷ es)

end_more : (e : Entry) (es : List Entry) → is_invalidate e.change ≡ false → EndLast es → EndLast (e ∷ es)
end_more e [] no_end h = tt
end_more e (f ∷ es) no_end h = (no_end, h)

-- the entries of a batch that the watch is to see
abbrev shown : Watch → Option ℕ → List Entry → List Entry
shown w o es = filter (sees w) (taken o es)

seen_more : (w : Watch) (e : Entry) (es : List Entry) → sees w e ≡ true → is_invalidate e.change ≡ false → EndLast (filter (sees w) es) → EndLast (filter (sees w) (e ∷ es))
seen_more w e es seen no_end h = subst (λ (b : Bool). EndLast (if b then e ∷ filter (sees w) es else filter (sees w) es)) (sym seen) (end_more e (filter (sees w) es) no_end h)

unseen_more : (w : Watch) (e : Entry) (es : List Entry) → sees w e ≡ false → EndLast (filter (sees w) es) → EndLast (filter (sees w) (e ∷ es))
unseen_more w e es unseen h = subst (λ (b : Bool). EndLast (if b then e ∷ filter (sees w) es else filter (sees w) es)) (sym unseen) h

last_given : (w : Watch) (e : Entry) (es : List Entry) (o : Option ℕ) → sees w e ≡ true → is_invalidate e.change ≡ false → EndLast (shown w o es) → EndLast (shown w (behind_given o) (e ∷ es))
last_given w e es None seen no_end h = seen_more w e es seen no_end h
last_given w e es (Some n) seen no_end h = seen_more w e (take n es) seen no_end h

last_other : (w : Watch) (e : Entry) (es : List Entry) (o : Option ℕ) → sees w e ≡ false → EndLast (shown w o es) → EndLast (shown w (behind_other o) (e ∷ es))
last_other w e es None unseen h = unseen_more w e es unseen h
last_other w e es (Some zero) unseen h = tt
last_other w e es (Some (suc n)) unseen h = unseen_more w e (take (suc n) es) unseen h

last_alone : (w : Watch) (e : Entry) (es : List Entry) → sees w e ≡ true → EndLast (shown w (Some 1) (e ∷ es))
last_alone w e es seen = subst (λ (b : Bool). EndLast (if b then e ∷ [] else [])) (sym seen) tt

full_ends : (w : Watch) (size room : ℕ) (given : Bool) (es : List Entry) → EndLast (shown w (full_behind w size room given es) es)
unfolding full_behind
full_ends w zero room given es = tt
full_ends w (suc size) room given [] = tt
full_ends w (suc size) room given (e ∷ es) =
    cond_both (sees w e) _ _ (λ (o : Option ℕ). EndLast (shown w o (e ∷ es)))
    (λ seen. cond_both (given && nat_lt room (length (bytes e.event))) _ _ (λ (o : Option ℕ). EndLast (shown w o (e ∷ es))) (λ full. tt)
    (λ goes_on. cond_both (is_invalidate e.change) _ _ (λ (o : Option ℕ). EndLast (shown w o (e ∷ es))) (λ last. last_alone w e es seen)
    (λ no_end. last_given w e es _ seen no_end (full_ends w size (room - length (bytes e.event)) true es))))
    (λ unseen. last_other w e es _ unseen (full_ends w (suc size) room given es))

pub taken_between : (changes : List Entry) (from : ℕ) (o : Option ℕ) → from ≤ length changes → between changes from (place_or_end changes from o) ≡ taken o (drop from changes)
taken_between changes from None le = let d = length-drop from changes in take_all (length changes - from) (drop from changes) (omega arith)
taken_between changes from (Some n) le = let e : from + n - from ≡ n = omega arith in ap (λ (k : ℕ). take k (drop from changes)) e

ends_so : (es : List Entry) (id : ℤ) → EndLast es → EndsAtInvalidate es (id_unless (has_invalidate es) id)
ends_so [] id h = tt
ends_so (e ∷ []) id h = λ ends. ap (λ (b : Bool). id_unless (b || false) id) ends
ends_so (e ∷ f ∷ es) id h = (h.0, subst (λ (b : Bool). EndsAtInvalidate (f ∷ es) (id_unless (b || has_invalidate (f ∷ es)) id)) (sym h.0) (ends_so (f ∷ es) id h.1))

-- a batch ends with the first invalidate entry that it hands out, and then has id 0
pub batch_ends : (w : Watch) (changes : List Entry) (from size : ℕ) (id : ℤ) → from ≤ length changes
    → EndsAtInvalidate (seen_between w changes from (batch_place w changes from size)) (batch_id id w changes from (batch_place w changes from size))
batch_ends w changes from size id le =
    let o : Option ℕ = full_behind w size max_batch false (drop from changes) in
    let last : EndLast (seen_between w changes from (batch_place w changes from size)) = subst (λ (es : List Entry). EndLast (filter (sees w) es)) (sym (taken_between changes from o le)) (full_ends w size max_batch false (drop from changes)) in
    ends_so (seen_between w changes from (batch_place w changes from size)) id last
