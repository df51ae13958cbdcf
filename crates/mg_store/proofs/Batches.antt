-- The events of a batch, taken one after another.
use Rattle.std.proofs.Common.{◌≡◌, ℕ, zero, suc, ◌+◌, ◌-◌, ◌<◌, ◌≤◌, Bool, true, false, List, [], ◌∷◌, length, take, drop, map, Option, Some, None, refl, sym, ap, ap₂, ◌∙◌, arith}
use Rattle.std.specs.Prelude.{if◌then◌else◌, ◌&&◌, ◌||◌, nat_lt}
use Rattle.std.specs.List.{filter}
use Rattle.std.proofs.lemmas.Bool.{lt-ltb}
use Rattle.std.proofs.lemmas.List.{drop_all}
use Rattle.mg_bson.specs.Tree.{document, Items, no_items, item}
use Rattle.mg_bson.specs.Bytes.{bytes}
use Rattle.mg_bson.specs.Find.{with_item, items_joined}
use Rattle.mg_bson.proofs.Joining.{items_joined_more, items_joined_all}
use Rattle.mg_server.specs.State.{Entry, Watch, sees, is_invalidate, events_between}
use Rattle.mg_server.specs.Rules.{behind_given, behind_other, full_behind, batch_place, documents_of_items, has_invalidate, ends_watch}

-- how many of the entries that are left a batch has
abbrev count_or : Option ℕ → ℕ → ℕ
count_or None len = len
count_or (Some n) len = n

-- the place that a batch ends at, where its last event so far stands behind this place
abbrev place_now : ℕ → ℕ → ℕ → Option ℕ → ℕ
place_now len behind place None = len
place_now len behind place (Some zero) = behind
place_now len behind place (Some (suc n)) = place + suc n

abbrev event_items : Watch → ℕ → List Entry → Items
event_items w n es = documents_of_items (map (λ (e : Entry). e.event) (filter (sees w) (take n es)))

abbrev ends_within : Watch → ℕ → List Entry → Bool
ends_within w n es = has_invalidate (filter (sees w) (take n es))

abbrev full_now : Watch → List Entry → (size room left place : ℕ) → Option ℕ
full_now w all size room left place = full_behind w left room (nat_lt left size) (drop place all)

-- the batch so far, and what is left of it
pub record Stands (w : Watch) (all : List Entry) (from size : ℕ) (events : Items) (behind room left place : ℕ) : Type 0 where
  pub place_is : place_now (length all) behind place (full_now w all size room left place) ≡ batch_place w all from size
  pub events_are : items_joined events (event_items w (count_or (full_now w all size room left place) (length (drop place all))) (drop place all)) ≡ documents_of_items (events_between w all from (batch_place w all from size))
  pub ends : ends_within w (count_or (full_now w all size room left place) (length (drop place all))) (drop place all) ≡ ends_watch w all from (batch_place w all from size)

-- ---- an entry that is not seen

place_other : (len behind place : ℕ) (o : Option ℕ) → place_now len behind place (behind_other o) ≡ place_now len behind (place + 1) o
place_other len behind place None = refl
place_other len behind place (Some zero) = refl
place_other len behind place (Some (suc n)) = omega arith

items_other : (w : Watch) (e : Entry) (es : List Entry) (o : Option ℕ) → sees w e ≡ false → event_items w (count_or (behind_other o) (suc (length es))) (e ∷ es) ≡ event_items w (count_or o (length es)) es
items_other w e es None unseen = ap (λ (b : Bool). documents_of_items (map (λ (x : Entry). x.event) (if b then e ∷ filter (sees w) (take (length es) es) else filter (sees w) (take (length es) es)))) unseen
items_other w e es (Some zero) unseen = refl
items_other w e es (Some (suc n)) unseen = ap (λ (b : Bool). documents_of_items (map (λ (x : Entry). x.event) (if b then e ∷ filter (sees w) (take (suc n) es) else filter (sees w) (take (suc n) es)))) unseen

ends_other : (w : Watch) (e : Entry) (es : List Entry) (o : Option ℕ) → sees w e ≡ false → ends_within w (count_or (behind_other o) (suc (length es))) (e ∷ es) ≡ ends_within w (count_or o (length es)) es
ends_other w e es None unseen = ap (λ (b : Bool). has_invalidate (if b then e ∷ filter (sees w) (take (length es) es) else filter (sees w) (take (length es) es))) unseen
ends_other w e es (Some zero) unseen = refl
ends_other w e es (Some (suc n)) unseen = ap (λ (b : Bool). has_invalidate (if b then e ∷ filter (sees w) (take (suc n) es) else filter (sees w) (take (suc n) es))) unseen

full_other : (w : Watch) (left room : ℕ) (g : Bool) (e : Entry) (es : List Entry) → (left ≡ 0 → ⊥) → sees w e ≡ false → full_behind w left room g (e ∷ es) ≡ behind_other (full_behind w left room g es)
unfolding full_behind
full_other w zero room g e es some unseen = absurd (some refl)
full_other w (suc k) room g e es some unseen =
    ap (λ (b : Bool). if b then (if g && nat_lt room (length (bytes e.event)) then Some 0 else (if is_invalidate e.change then Some 1 else behind_given (full_behind w k (room - length (bytes e.event)) true es))) else behind_other (full_behind w (suc k) room g es)) unseen

pub batch_passes : (w : Watch) (all : List Entry) (from size : ℕ) (events : Items) (behind room left place : ℕ) (e : Entry) → drop place all ≡ e ∷ drop (place + 1) all → (left ≡ 0 → ⊥) → sees w e ≡ false
    → Stands w all from size events behind room left place → Stands w all from size events behind room left (place + 1)
batch_passes w all from size events behind room left place e here some unseen h =
    let es : List Entry = drop (place + 1) all in
    let o : Option ℕ = full_now w all size room left (place + 1) in
    let full : full_now w all size room left place ≡ behind_other o = ap (full_behind w left room (nat_lt left size)) here ∙ full_other w left room (nat_lt left size) e es some unseen in
    record {
      place_is = sym (ap (place_now (length all) behind place) full ∙ place_other (length all) behind place o) ∙ h.place_is;
      events_are = sym (ap₂ (λ (p : Option ℕ) (l : List Entry). items_joined events (event_items w (count_or p (length l)) l)) full here ∙ ap (items_joined events) (items_other w e es o unseen)) ∙ h.events_are;
      ends = sym (ap₂ (λ (p : Option ℕ) (l : List Entry). ends_within w (count_or p (length l)) l) full here ∙ ends_other w e es o unseen) ∙ h.ends;
    }

-- ---- an entry that is seen

place_given : (len behind place : ℕ) (o : Option ℕ) → place_now len behind place (behind_given o) ≡ place_now len (place + 1) (place + 1) o
place_given len behind place None = refl
place_given len behind place (Some zero) = refl
place_given len behind place (Some (suc n)) = omega arith

count_given : (o : Option ℕ) (len : ℕ) → count_or (behind_given o) (suc len) ≡ suc (count_or o len)
count_given None len = refl
count_given (Some n) len = refl

pub items_given : (w : Watch) (e : Entry) (es : List Entry) (n : ℕ) → sees w e ≡ true → event_items w (suc n) (e ∷ es) ≡ item (document e.event) (event_items w n es)
items_given w e es n seen = ap (λ (b : Bool). documents_of_items (map (λ (x : Entry). x.event) (if b then e ∷ filter (sees w) (take n es) else filter (sees w) (take n es)))) seen

ends_given : (w : Watch) (e : Entry) (es : List Entry) (n : ℕ) → sees w e ≡ true → is_invalidate e.change ≡ false → ends_within w (suc n) (e ∷ es) ≡ ends_within w n es
ends_given w e es n seen goes_on =
    ap (λ (b : Bool). has_invalidate (if b then e ∷ filter (sees w) (take n es) else filter (sees w) (take n es))) seen ∙ ap (λ (b : Bool). b || has_invalidate (filter (sees w) (take n es))) goes_on

full_given : (w : Watch) (l room : ℕ) (g : Bool) (e : Entry) (es : List Entry) → sees w e ≡ true → (g && nat_lt room (length (bytes e.event))) ≡ false → is_invalidate e.change ≡ false
    → full_behind w (suc l) room g (e ∷ es) ≡ behind_given (full_behind w l (room - length (bytes e.event)) true es)
unfolding full_behind
full_given w l room g e es seen fits goes_on =
    let next : Option ℕ = full_behind w l (room - length (bytes e.event)) true es in
    ap (λ (b : Bool). if b then (if g && nat_lt room (length (bytes e.event)) then Some 0 else (if is_invalidate e.change then Some 1 else behind_given next)) else behind_other (full_behind w (suc l) room g es)) seen
    ∙ ap (λ (b : Bool). if b then Some 0 else (if is_invalidate e.change then Some 1 else behind_given next)) fits
    ∙ ap (λ (b : Bool). if b then Some 1 else behind_given next) goes_on

pub batch_takes : (w : Watch) (all : List Entry) (from size : ℕ) (events after : Items) (behind room left place room' left' : ℕ) (e : Entry) → drop place all ≡ e ∷ drop (place + 1) all → left ≡ suc left' → left ≤ size → sees w e ≡ true
    → (nat_lt left size && nat_lt room (length (bytes e.event))) ≡ false → is_invalidate e.change ≡ false → after ≡ with_item events (document e.event) → room' ≡ room - length (bytes e.event)
    → Stands w all from size events behind room left place → Stands w all from size after (place + 1) room' left' (place + 1)
batch_takes w all from size events after behind room left place room' left' e here some le seen fits goes_on is room_is h =
    let es : List Entry = drop (place + 1) all in
    let o : Option ℕ = full_now w all size room' left' (place + 1) in
    let less : left' < size = omega arith in
    let now : full_behind w left' (room - length (bytes e.event)) true es ≡ o = ap₂ (λ (b : Bool) (r : ℕ). full_behind w left' r b es) (sym (lt-ltb left' size less)) (sym room_is) in
    let full : full_now w all size room left place ≡ behind_given o =
    ap₂ (λ (n : ℕ) (l : List Entry). full_behind w n room (nat_lt left size) l) some here ∙ full_given w left' room (nat_lt left size) e es seen fits goes_on ∙ ap behind_given now in
    let these : event_items w (count_or (behind_given o) (suc (length es))) (e ∷ es) ≡ item (document e.event) (event_items w (count_or o (length es)) es) =
    ap (λ (n : ℕ). event_items w n (e ∷ es)) (count_given o (length es)) ∙ items_given w e es (count_or o (length es)) seen in
    record {
      place_is = sym (ap (place_now (length all) behind place) full ∙ place_given (length all) behind place o) ∙ h.place_is;
      events_are = ap (λ (a : Items). items_joined a (event_items w (count_or o (length es)) es)) is ∙ items_joined_more events (document e.event) (event_items w (count_or o (length es)) es)
          ∙ sym (ap₂ (λ (p : Option ℕ) (l : List Entry). items_joined events (event_items w (count_or p (length l)) l)) full here ∙ ap (items_joined events) these) ∙ h.events_are;
      ends = sym (ap₂ (λ (p : Option ℕ) (l : List Entry). ends_within w (count_or p (length l)) l) full here ∙ ap (λ (n : ℕ). ends_within w n (e ∷ es)) (count_given o (length es)) ∙ ends_given w e es (count_or o (length es)) seen goes_on) ∙ h.ends;
    }

-- ---- the end of a batch

-- the batch, as it was made
pub record Ends (w : Watch) (all : List Entry) (from size : ℕ) (events : Items) (place : ℕ) (ended : Bool) : Type 0 where
  pub place_is : place ≡ batch_place w all from size
  pub events_are : events ≡ documents_of_items (events_between w all from (batch_place w all from size))
  pub ended_is : ended ≡ ends_watch w all from (batch_place w all from size)

abbrev ends_full : (w : Watch) (all : List Entry) (from size : ℕ) (events : Items) (behind room left place : ℕ) → full_now w all size room left place ≡ Some 0 → Stands w all from size events behind room left place → Ends w all from size events behind false
ends_full w all from size events behind room left place full h = record {
  place_is = sym (ap (place_now (length all) behind place) full) ∙ h.place_is;
  events_are = sym (ap (λ (o : Option ℕ). items_joined events (event_items w (count_or o (length (drop place all))) (drop place all))) full ∙ items_joined_all events) ∙ h.events_are;
  ended_is = sym (ap (λ (o : Option ℕ). ends_within w (count_or o (length (drop place all))) (drop place all)) full) ∙ h.ends;
}

pub none_left : (w : Watch) (left room : ℕ) (g : Bool) (es : List Entry) → left ≡ 0 → full_behind w left room g es ≡ Some 0
unfolding full_behind
none_left w zero room g es e = refl
none_left w (suc k) room g es e = absurd (omega arith)

-- it has as many events as it may have
abbrev pub batch_counted : (w : Watch) (all : List Entry) (from size : ℕ) (events : Items) (behind room left place : ℕ) → left ≡ 0 → Stands w all from size events behind room left place → Ends w all from size events behind false
batch_counted w all from size events behind room left place none h = ends_full w all from size events behind room left place (none_left w left room (nat_lt left size) (drop place all) none) h

pub no_room : (w : Watch) (left room : ℕ) (g : Bool) (e : Entry) (es : List Entry) → sees w e ≡ true → (g && nat_lt room (length (bytes e.event))) ≡ true → full_behind w left room g (e ∷ es) ≡ Some 0
unfolding full_behind
no_room w zero room g e es seen full = refl
no_room w (suc k) room g e es seen full =
    let next : Option ℕ = full_behind w k (room - length (bytes e.event)) true es in
    ap (λ (b : Bool). if b then (if g && nat_lt room (length (bytes e.event)) then Some 0 else (if is_invalidate e.change then Some 1 else behind_given next)) else behind_other (full_behind w (suc k) room g es)) seen
    ∙ ap (λ (b : Bool). if b then Some 0 else (if is_invalidate e.change then Some 1 else behind_given next)) full

-- the next event does not fit it
abbrev pub batch_filled : (w : Watch) (all : List Entry) (from size : ℕ) (events : Items) (behind room left place : ℕ) (e : Entry) → drop place all ≡ e ∷ drop (place + 1) all → sees w e ≡ true
    → (nat_lt left size && nat_lt room (length (bytes e.event))) ≡ true → Stands w all from size events behind room left place → Ends w all from size events behind false
batch_filled w all from size events behind room left place e here seen full h =
    ends_full w all from size events behind room left place (ap (full_behind w left room (nat_lt left size)) here ∙ no_room w left room (nat_lt left size) e (drop (place + 1) all) seen full) h

pub full_ended : (w : Watch) (l room : ℕ) (g : Bool) (e : Entry) (es : List Entry) → sees w e ≡ true → (g && nat_lt room (length (bytes e.event))) ≡ false → is_invalidate e.change ≡ true → full_behind w (suc l) room g (e ∷ es) ≡ Some 1
unfolding full_behind
full_ended w l room g e es seen fits last =
    let next : Option ℕ = full_behind w l (room - length (bytes e.event)) true es in
    ap (λ (b : Bool). if b then (if g && nat_lt room (length (bytes e.event)) then Some 0 else (if is_invalidate e.change then Some 1 else behind_given next)) else behind_other (full_behind w (suc l) room g es)) seen
    ∙ ap (λ (b : Bool). if b then Some 0 else (if is_invalidate e.change then Some 1 else behind_given next)) fits
    ∙ ap (λ (b : Bool). if b then Some 1 else behind_given next) last

-- the next event is the last that it may have
abbrev pub batch_ended : (w : Watch) (all : List Entry) (from size : ℕ) (events after : Items) (behind room left place left' : ℕ) (e : Entry) → drop place all ≡ e ∷ drop (place + 1) all → left ≡ suc left' → sees w e ≡ true
    → (nat_lt left size && nat_lt room (length (bytes e.event))) ≡ false → is_invalidate e.change ≡ true → after ≡ with_item events (document e.event)
    → Stands w all from size events behind room left place → Ends w all from size after (place + 1) true
batch_ended w all from size events after behind room left place left' e here some seen fits last is h =
    let es : List Entry = drop (place + 1) all in
    let full : full_now w all size room left place ≡ Some 1 = ap₂ (λ (n : ℕ) (l : List Entry). full_behind w n room (nat_lt left size) l) some here ∙ full_ended w left' room (nat_lt left size) e es seen fits last in
    record {
      place_is = sym (ap (place_now (length all) behind place) full) ∙ h.place_is;
      events_are = is ∙ sym (items_joined_all (with_item events (document e.event))) ∙ items_joined_more events (document e.event) no_items
          ∙ sym (ap₂ (λ (p : Option ℕ) (l : List Entry). items_joined events (event_items w (count_or p (length l)) l)) full here ∙ ap (items_joined events) (items_given w e es 0 seen)) ∙ h.events_are;
      ended_is = sym (ap₂ (λ (p : Option ℕ) (l : List Entry). ends_within w (count_or p (length l)) l) full here
          ∙ ap (λ (b : Bool). has_invalidate (if b then e ∷ [] else [])) seen ∙ ap (λ (b : Bool). b || false) last) ∙ h.ends;
    }

pub goes_to_end : (w : Watch) (left room : ℕ) (g : Bool) → (left ≡ 0 → ⊥) → full_behind w left room g [] ≡ None
unfolding full_behind
goes_to_end w zero room g some = absurd (some refl)
goes_to_end w (suc k) room g some = refl

-- no entry is left
abbrev pub batch_at_end : (w : Watch) (all : List Entry) (from size : ℕ) (events : Items) (behind room left place : ℕ) → length all ≤ place → (left ≡ 0 → ⊥) → Stands w all from size events behind room left place → Ends w all from size events (length all) false
batch_at_end w all from size events behind room left place le some h =
    let here : drop place all ≡ [] = drop_all place all le in
    let full : full_now w all size room left place ≡ None = ap (full_behind w left room (nat_lt left size)) here ∙ goes_to_end w left room (nat_lt left size) some in
    record {
      place_is = sym (ap (place_now (length all) behind place) full) ∙ h.place_is;
      events_are = sym (ap₂ (λ (o : Option ℕ) (l : List Entry). items_joined events (event_items w (count_or o (length l)) l)) full here ∙ items_joined_all events) ∙ h.events_are;
      ended_is = sym (ap₂ (λ (o : Option ℕ) (l : List Entry). ends_within w (count_or o (length l)) l) full here) ∙ h.ends;
    }
