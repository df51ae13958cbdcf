-- Batches of watches are as full as their size and their bytes allow.
use Rattle.std.proofs.Common.{◌≡◌, ◌⊎◌, ℕ, zero, suc, ◌+◌, ◌-◌, ◌<◌, ◌≤◌, Bool, true, false, List, [], ◌∷◌, length, take, drop, map, Option, Some, None, refl, sym, ap, ◌∙◌, subst, inl, inr, arith}
use Rattle.std.specs.Prelude.{nat_lt, if◌then◌else◌, slice_get}
use Rattle.std.specs.List.{filter}
use Rattle.std.proofs.lemmas.Bool.{cases_lt, cond_both, ltb-false, ltb-true}
use Rattle.std.proofs.lemmas.List.{drop-drop}
use Rattle.mg_bson.specs.Bytes.{bytes}
use Rattle.mg_bson.specs.Tree.{Fields}
use Rattle.mg_server.specs.Batches.{EndsBehind, IsFullBatch, NextIsTooLarge}
use Rattle.mg_server.specs.Rules.{batch_place, behind_given, behind_other, bytes_of, full_behind, max_batch, place_or_end}
use Rattle.mg_server.specs.State.{Entry, Watch, events_between, is_invalidate, sees}
use Rattle.mg_server.proofs.Batched.{some_bytes}
use Rattle.mg_server.proofs.Batching.{batch_within, taken, taken_between}
use Rattle.mg_server.proofs.Prompts.{nonempty}

-- ---- what a watch is to see of entries

abbrev shown : Watch → List Entry → List Fields
shown w es = map (λ (e : Entry). e.event) (filter (sees w) es)

shown_seen : (w : Watch) (e : Entry) (es : List Entry) → sees w e ≡ true → shown w (e ∷ es) ≡ e.event ∷ shown w es
shown_seen w e es seen = ap (λ (b : Bool). map (λ (f : Entry). f.event) (if b then e ∷ filter (sees w) es else filter (sees w) es)) seen

shown_other : (w : Watch) (e : Entry) (es : List Entry) → sees w e ≡ false → shown w (e ∷ es) ≡ shown w es
shown_other w e es other = ap (λ (b : Bool). map (λ (f : Entry). f.event) (if b then e ∷ filter (sees w) es else filter (sees w) es)) other

given_seen : (w : Watch) (e : Entry) (es : List Entry) (o : Option ℕ) → sees w e ≡ true → shown w (taken (behind_given o) (e ∷ es)) ≡ e.event ∷ shown w (taken o es)
given_seen w e es None seen = shown_seen w e es seen
given_seen w e es (Some n) seen = shown_seen w e (take n es) seen

given_other : (w : Watch) (e : Entry) (es : List Entry) (o : Option ℕ) → sees w e ≡ false → shown w (taken (behind_other o) (e ∷ es)) ≡ shown w (taken o es)
given_other w e es None other = shown_other w e es other
given_other w e es (Some zero) other = refl
given_other w e es (Some (suc n)) other = shown_other w e (take (suc n) es) other

-- events have bytes
no_events : (ds : List Fields) → bytes_of ds ≤ 0 → length ds ≡ 0
no_events [] none = refl
no_events (d ∷ ds) none = let some = some_bytes d in absurd (omega arith)

-- ---- where a batch ends

-- the last of so many entries is this one, which the watch is to see
record LastIs (w : Watch) (es : List Entry) (n : ℕ) (e : Entry) : Type 0 where
  before : ℕ
  count_is : n ≡ suc before
  entry_is : slice_get es before ≡ Some e
  seen : sees w e ≡ true

last_here : (w : Watch) (e : Entry) (es : List Entry) → sees w e ≡ true → LastIs w (e ∷ es) 1 e
last_here w e es seen = record { before = 0; count_is = refl; entry_is = refl; seen = seen }

last_more : (w : Watch) (e : Entry) (es : List Entry) (n : ℕ) (f : Entry) → LastIs w es n f → LastIs w (e ∷ es) (suc n) f
last_more w e es n f h = record { before = suc h.before; count_is = ap suc h.count_is; entry_is = h.entry_is; seen = h.seen }

-- a batch that is full ends behind an entry that it gives
abbrev EndsSeen : Watch → List Entry → Option ℕ → Type 0
EndsSeen w es None = Unit {0}
EndsSeen w es (Some n) = (e : Entry) × LastIs w es n e

-- or it is empty
abbrev EndsSeenOrNone : Watch → List Entry → Option ℕ → Type 0
EndsSeenOrNone w es None = Unit {0}
EndsSeenOrNone w es (Some zero) = Unit {0}
EndsSeenOrNone w es (Some (suc n)) = (e : Entry) × LastIs w es (suc n) e

seen_or_none : (w : Watch) (es : List Entry) (o : Option ℕ) → EndsSeen w es o → EndsSeenOrNone w es o
seen_or_none w es None h = tt
seen_or_none w es (Some zero) h = tt
seen_or_none w es (Some (suc n)) h = h

ends_given : (w : Watch) (e : Entry) (es : List Entry) (o : Option ℕ) → sees w e ≡ true → EndsSeenOrNone w es o → EndsSeen w (e ∷ es) (behind_given o)
ends_given w e es None seen h = tt
ends_given w e es (Some zero) seen h = (e, last_here w e es seen)
ends_given w e es (Some (suc n)) seen h = (h.0, last_more w e es (suc n) h.0 h.1)

ends_other : (w : Watch) (e : Entry) (es : List Entry) (o : Option ℕ) → EndsSeen w es o → EndsSeen w (e ∷ es) (behind_other o)
ends_other w e es None h = tt
ends_other w e es (Some zero) h = let last = h.1 in absurd (omega arith)
ends_other w e es (Some (suc n)) h = (h.0, last_more w e es (suc n) h.0 h.1)

none_other : (w : Watch) (e : Entry) (es : List Entry) (o : Option ℕ) → EndsSeenOrNone w es o → EndsSeenOrNone w (e ∷ es) (behind_other o)
none_other w e es None h = tt
none_other w e es (Some zero) h = tt
none_other w e es (Some (suc n)) h = (h.0, last_more w e es (suc n) h.0 h.1)

-- ---- why it ends there

record IsTooLarge (w : Watch) (room : ℕ) (es : List Entry) (n : ℕ) : Type 0 where
  next : Fields
  rest : List Fields
  left : shown w (drop n es) ≡ next ∷ rest
  large : room < bytes_of (shown w (take n es)) + length (bytes next)

abbrev EndsWatch : Watch → List Entry → ℕ → Type 0
EndsWatch w es n = (e : Entry) × LastIs w es n e × (is_invalidate e.change ≡ true)

-- a batch that is full has as many events as its size, or the next is too large, or the last one ends the watch
abbrev Stops : Watch → (size room : ℕ) → List Entry → Option ℕ → Type 0
Stops w size room es None = Unit {0}
Stops w size room es (Some n) = (length (shown w (take n es)) ≡ size) ⊎ (IsTooLarge w room es n ⊎ EndsWatch w es n)

large_given : (w : Watch) (room : ℕ) (e : Entry) (es : List Entry) (n : ℕ) → sees w e ≡ true → IsTooLarge w (room - length (bytes e.event)) es n → IsTooLarge w room (e ∷ es) (suc n)
large_given w room e es n seen t = record {
  next = t.next;
  rest = t.rest;
  left = t.left;
  large = let large = t.large in subst (λ (l : List Fields). room < bytes_of l + length (bytes t.next)) (sym (shown_seen w e (take n es) seen)) (omega arith);
}

stops_given : (w : Watch) (size room : ℕ) (e : Entry) (es : List Entry) (o : Option ℕ) → sees w e ≡ true → Stops w size (room - length (bytes e.event)) es o → Stops w (suc size) room (e ∷ es) (behind_given o)
stops_given w size room e es None seen h = tt
stops_given w size room e es (Some n) seen (inl count) = inl (ap length (shown_seen w e (take n es) seen) ∙ ap suc count)
stops_given w size room e es (Some n) seen (inr (inl large)) = inr (inl (large_given w room e es n seen large))
stops_given w size room e es (Some n) seen (inr (inr h)) = inr (inr (h.0, last_more w e es n h.0 h.1, h.2))

stops_other : (w : Watch) (size room : ℕ) (e : Entry) (es : List Entry) (o : Option ℕ) → sees w e ≡ false → Stops w size room es o → Stops w size room (e ∷ es) (behind_other o)
stops_other w size room e es None other h = tt
stops_other w size room e es (Some zero) other (inl count) = inl count
stops_other w size room e es (Some zero) other (inr (inl t)) = inr (inl (record { next = t.next; rest = t.rest; left = shown_other w e es other ∙ t.left; large = t.large }))
stops_other w size room e es (Some zero) other (inr (inr h)) = let last = h.1 in absurd (omega arith)
stops_other w size room e es (Some (suc n)) other (inl count) = inl (ap length (shown_other w e (take (suc n) es) other) ∙ count)
stops_other w size room e es (Some (suc n)) other (inr (inl t)) =
    inr (inl (record {
      next = t.next;
      rest = t.rest;
      left = t.left;
      large = subst (λ (l : List Fields). room < bytes_of l + length (bytes t.next)) (sym (shown_other w e (take (suc n) es) other)) t.large;
    }))
stops_other w size room e es (Some (suc n)) other (inr (inr h)) = inr (inr (h.0, last_more w e es (suc n) h.0 h.1, h.2))

-- ---- behind its first event

record Goes (w : Watch) (size room : ℕ) (es : List Entry) (o : Option ℕ) : Type 0 where
  count : length (shown w (taken o es)) ≤ size
  fits : bytes_of (shown w (taken o es)) ≤ room
  ends : EndsSeenOrNone w es o
  stops : Stops w size room es o

too_large : (w : Watch) (size room : ℕ) (e : Entry) (es : List Entry) → sees w e ≡ true → room < length (bytes e.event) → Goes w size room (e ∷ es) (Some 0)
too_large w size room e es seen large = record {
  count = omega arith;
  fits = omega arith;
  ends = tt;
  stops = inr (inl (record { next = e.event; rest = shown w es; left = shown_seen w e es seen; large = omega arith }));
}

ends_watch : (w : Watch) (e : Entry) (es : List Entry) → sees w e ≡ true → is_invalidate e.change ≡ true → EndsWatch w (e ∷ es) 1
ends_watch w e es seen last = (e, last_here w e es seen, last)

goes_last : (w : Watch) (size room : ℕ) (e : Entry) (es : List Entry) → sees w e ≡ true → length (bytes e.event) ≤ room → is_invalidate e.change ≡ true → Goes w (suc size) room (e ∷ es) (Some 1)
goes_last w size room e es seen fits last =
    let is = shown_seen w e [] seen in
    record {
      count = subst (λ (l : List Fields). length l ≤ suc size) (sym is) (omega arith);
      fits = subst (λ (l : List Fields). bytes_of l ≤ room) (sym is) (omega arith);
      ends = (e, last_here w e es seen);
      stops = inr (inr (ends_watch w e es seen last));
    }

goes_given : (w : Watch) (size room : ℕ) (e : Entry) (es : List Entry) (o : Option ℕ) → sees w e ≡ true → length (bytes e.event) ≤ room → Goes w size (room - length (bytes e.event)) es o → Goes w (suc size) room (e ∷ es) (behind_given o)
goes_given w size room e es o seen fits h =
    let is = given_seen w e es o seen in
    let few = h.count in
    let small = h.fits in
    record {
      count = subst (λ (l : List Fields). length l ≤ suc size) (sym is) (omega arith);
      fits = subst (λ (l : List Fields). bytes_of l ≤ room) (sym is) (omega arith);
      ends = seen_or_none w (e ∷ es) (behind_given o) (ends_given w e es o seen h.ends);
      stops = stops_given w size room e es o seen h.stops;
    }

goes_other : (w : Watch) (size room : ℕ) (e : Entry) (es : List Entry) (o : Option ℕ) → sees w e ≡ false → Goes w size room es o → Goes w size room (e ∷ es) (behind_other o)
goes_other w size room e es o other h =
    let is = given_other w e es o other in
    record {
      count = subst (λ (l : List Fields). length l ≤ size) (sym is) h.count;
      fits = subst (λ (l : List Fields). bytes_of l ≤ room) (sym is) h.fits;
      ends = none_other w e es o h.ends;
      stops = stops_other w size room e es o other h.stops;
    }

goes : (w : Watch) (size room : ℕ) (es : List Entry) → Goes w size room es (full_behind w size room true es)
unfolding full_behind
goes w zero room es = record { count = omega arith; fits = omega arith; ends = tt; stops = inl refl }
goes w (suc size) room [] = record { count = omega arith; fits = omega arith; ends = tt; stops = tt }
goes w (suc size) room (e ∷ es) =
    cond_both (sees w e) _ _ (λ (o : Option ℕ). Goes w (suc size) room (e ∷ es) o)
    (λ seen. cond_both (nat_lt room (length (bytes e.event))) _ _ (λ (o : Option ℕ). Goes w (suc size) room (e ∷ es) o)
    (λ full. too_large w (suc size) room e es seen (ltb-true room (length (bytes e.event)) full))
    (λ fits. cond_both (is_invalidate e.change) _ _ (λ (o : Option ℕ). Goes w (suc size) room (e ∷ es) o)
    (λ last. goes_last w size room e es seen (ltb-false room (length (bytes e.event)) fits) last)
    (λ goes_on. goes_given w size room e es _ seen (ltb-false room (length (bytes e.event)) fits) (goes w size (room - length (bytes e.event)) es))))
    (λ other. goes_other w (suc size) room e es _ other (goes w (suc size) room es))

-- ---- from its beginning

record Begins (w : Watch) (size room : ℕ) (es : List Entry) (o : Option ℕ) : Type 0 where
  count : length (shown w (taken o es)) ≤ size
  fits : (bytes_of (shown w (taken o es)) ≤ room) ⊎ (length (shown w (taken o es)) ≡ 1)
  some : shown w (taken o es) ≡ [] → shown w es ≡ []
  ends : EndsSeen w es o
  stops : Stops w size room es o

begins_last : (w : Watch) (size room : ℕ) (e : Entry) (es : List Entry) → sees w e ≡ true → is_invalidate e.change ≡ true → Begins w (suc size) room (e ∷ es) (Some 1)
begins_last w size room e es seen last =
    let is = shown_seen w e [] seen in
    record {
      count = subst (λ (l : List Fields). length l ≤ suc size) (sym is) (omega arith);
      fits = inr (ap length is);
      some = λ none. absurd (nonempty _ _ (sym is ∙ none));
      ends = (e, last_here w e es seen);
      stops = inr (inr (ends_watch w e es seen last));
    }

-- a first event that is larger than a batch may be has none behind it
first_fits : (w : Watch) (room : ℕ) (e : Entry) (given : List Fields) → bytes_of given ≤ room - length (bytes e.event) → (bytes_of (e.event ∷ given) ≤ room) ⊎ (length (e.event ∷ given) ≡ 1)
first_fits w room e given small =
    elim (cases_lt room (length (bytes e.event))) [
      | inl large ↦ inr (ap suc (no_events given (omega arith)))
      | inr fits ↦ inl (omega arith)
    ]

begins_given : (w : Watch) (size room : ℕ) (e : Entry) (es : List Entry) (o : Option ℕ) → sees w e ≡ true → Goes w size (room - length (bytes e.event)) es o → Begins w (suc size) room (e ∷ es) (behind_given o)
begins_given w size room e es o seen h =
    let is = given_seen w e es o seen in
    let few = h.count in
    record {
      count = subst (λ (l : List Fields). length l ≤ suc size) (sym is) (omega arith);
      fits = subst (λ (l : List Fields). (bytes_of l ≤ room) ⊎ (length l ≡ 1)) (sym is) (first_fits w room e (shown w (taken o es)) h.fits);
      some = λ none. absurd (nonempty _ _ (sym is ∙ none));
      ends = ends_given w e es o seen h.ends;
      stops = stops_given w size room e es o seen h.stops;
    }

begins_other : (w : Watch) (size room : ℕ) (e : Entry) (es : List Entry) (o : Option ℕ) → sees w e ≡ false → Begins w size room es o → Begins w size room (e ∷ es) (behind_other o)
begins_other w size room e es o other h =
    let is = given_other w e es o other in
    record {
      count = subst (λ (l : List Fields). length l ≤ size) (sym is) h.count;
      fits = subst (λ (l : List Fields). (bytes_of l ≤ room) ⊎ (length l ≡ 1)) (sym is) h.fits;
      some = λ none. shown_other w e es other ∙ h.some (sym is ∙ none);
      ends = ends_other w e es o h.ends;
      stops = stops_other w size room e es o other h.stops;
    }

begins : (w : Watch) (size room : ℕ) (es : List Entry) → Begins w (suc size) room es (full_behind w (suc size) room false es)
unfolding full_behind
begins w size room [] = record { count = omega arith; fits = inl (omega arith); some = λ none. refl; ends = tt; stops = tt }
begins w size room (e ∷ es) =
    cond_both (sees w e) _ _ (λ (o : Option ℕ). Begins w (suc size) room (e ∷ es) o)
    (λ seen. cond_both (is_invalidate e.change) _ _ (λ (o : Option ℕ). Begins w (suc size) room (e ∷ es) o)
    (λ last. begins_last w size room e es seen last)
    (λ goes_on. begins_given w size room e es _ seen (goes w size (room - length (bytes e.event)) es)))
    (λ other. begins_other w (suc size) room e es _ other (begins w size room es))

-- ---- in the list of changes

get_dropped : {A : Type 0} (k : ℕ) (xs : List A) (m : ℕ) (x : A) → slice_get (drop k xs) m ≡ Some x → slice_get xs (k + m) ≡ Some x
get_dropped zero xs m x h = let e : 0 + m ≡ m = omega arith in subst (λ (n : ℕ). slice_get xs n ≡ Some x) (sym e) h
get_dropped (suc k) [] m x h = cc
get_dropped (suc k) (y ∷ ys) m x h = let e : suc k + m ≡ suc (k + m) = omega arith in subst (λ (n : ℕ). slice_get (y ∷ ys) n ≡ Some x) (sym e) (get_dropped k ys m x h)

ends_at : (w : Watch) (changes : List Entry) (from n : ℕ) (e : Entry) → LastIs w (drop from changes) n e → EndsBehind w changes from (from + n) e
ends_at w changes from n e h =
    let count = h.count_is in
    record { before = from + h.before; begins = omega arith; place_is = omega arith; entry_is = get_dropped from changes h.before e h.entry_is; seen = h.seen }

behind_at : (w : Watch) (changes : List Entry) (from : ℕ) (o : Option ℕ) → place_or_end changes from o < length changes → EndsSeen w (drop from changes) o → (e : Entry) × EndsBehind w changes from (place_or_end changes from o) e
behind_at w changes from None before h = absurd (omega arith)
behind_at w changes from (Some n) before h = (h.0, ends_at w changes from n h.0 h.1)

large_at : (w : Watch) (changes : List Entry) (from n : ℕ) → from ≤ length changes → from + n < length changes → IsTooLarge w max_batch (drop from changes) n → NextIsTooLarge w changes from (from + n)
large_at w changes from n le before t =
    let is = ap (shown w) (taken_between changes from (Some n) le) in
    let rest = ap (shown w) (taken_between changes (from + n) None (omega arith) ∙ sym (drop-drop n from changes)) in
    record {
      next = t.next;
      rest = t.rest;
      left = rest ∙ t.left;
      large = subst (λ (l : List Fields). max_batch < bytes_of l + length (bytes t.next)) (sym is) t.large;
    }

full_at : (w : Watch) (changes : List Entry) (from size : ℕ) (o : Option ℕ) → from ≤ length changes → place_or_end changes from o < length changes → length (shown w (taken o (drop from changes))) < size → Stops w size max_batch (drop from changes) o
    → NextIsTooLarge w changes from (place_or_end changes from o) ⊎ ((e : Entry) × EndsBehind w changes from (place_or_end changes from o) e × (is_invalidate e.change ≡ true))
full_at w changes from size None le before short h = absurd (omega arith)
full_at w changes from size (Some n) le before short (inl count) = absurd (omega arith)
full_at w changes from size (Some n) le before short (inr (inl t)) = inl (large_at w changes from n le before t)
full_at w changes from size (Some n) le before short (inr (inr h)) = inr (h.0, ends_at w changes from n h.0 h.1, h.2)

none_behind : (w : Watch) (room : ℕ) (given : Bool) (es : List Entry) → full_behind w 0 room given es ≡ Some 0
unfolding full_behind
none_behind w room given es = refl

none_at : (w : Watch) (changes : List Entry) (from : ℕ) → from ≤ length changes → IsFullBatch w changes from 0 (from + 0)
none_at w changes from le =
    let is : events_between w changes from (from + 0) ≡ [] = ap (shown w) (taken_between changes from (Some 0) le) in
    record {
      within = (omega arith, omega arith);
      count = subst (λ (l : List Fields). length l ≤ 0) (sym is) (omega arith);
      fits = inl (subst (λ (l : List Fields). bytes_of l ≤ max_batch) (sym is) (omega arith));
      some = λ positive none. absurd (omega arith);
      none = λ zero_size. omega arith;
      behind = λ positive before. absurd (omega arith);
      full = λ before short. absurd (omega arith);
    }

pub is_full_batch : (w : Watch) (changes : List Entry) (from size : ℕ) → from ≤ length changes → IsFullBatch w changes from size (batch_place w changes from size)
is_full_batch w changes from zero le =
    subst (λ (o : Option ℕ). IsFullBatch w changes from 0 (place_or_end changes from o)) (sym (none_behind w max_batch false (drop from changes))) (none_at w changes from le)
is_full_batch w changes from (suc size) le =
    let o : Option ℕ = full_behind w (suc size) max_batch false (drop from changes) in
    let h : Begins w (suc size) max_batch (drop from changes) o = begins w size max_batch (drop from changes) in
    let is : events_between w changes from (place_or_end changes from o) ≡ shown w (taken o (drop from changes)) = ap (shown w) (taken_between changes from o le) in
    let all : events_between w changes from (length changes) ≡ shown w (drop from changes) = ap (shown w) (taken_between changes from None le) in
    record {
      within = batch_within w changes from (suc size) le;
      count = subst (λ (l : List Fields). length l ≤ suc size) (sym is) h.count;
      fits = subst (λ (l : List Fields). (bytes_of l ≤ max_batch) ⊎ (length l ≡ 1)) (sym is) h.fits;
      some = λ positive none. all ∙ h.some (sym is ∙ none);
      none = λ zero_size. absurd (omega arith);
      behind = λ positive before. behind_at w changes from o before h.ends;
      full = λ before short. full_at w changes from (suc size) o le before (subst (λ (l : List Fields). length l < suc size) is short) h.stops;
    }
