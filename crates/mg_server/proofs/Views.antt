-- What a watch sees from one place up to another.
use Rattle.std.proofs.Common.{◌≡◌, ℕ, zero, suc, ◌+◌, ◌-◌, ◌≤◌, Bool, true, false, List, [], ◌∷◌, ◌++◌, length, map, Some, refl, sym, ap, ◌∙◌, subst, inl, inr, arith, append_assoc, length-append, take, drop}
use Rattle.std.specs.Prelude.{slice_get, if◌then◌else◌}
use Rattle.std.specs.List.{filter}
use Rattle.std.proofs.lemmas.Bool.{cases_Bool}
use Rattle.std.proofs.lemmas.List.{drop-drop, map-append, length-drop, length-take, take-append-le, drop-append-le}
use Rattle.std.proofs.lemmas.List.Elements.{filter-append}
use Rattle.mg_bson.specs.Tree.{Fields}
use Rattle.mg_server.specs.State.{Entry, Watch, between, sees, events_between}

abbrev event_of : Entry → Fields
event_of e = e.event

-- the events of those that pass
abbrev passed : (Entry → Bool) → List Entry → List Fields
passed m l = map event_of (filter m l)

passed-append : (m : Entry → Bool) (xs ys : List Entry) → passed m (xs ++ ys) ≡ passed m xs ++ passed m ys
passed-append m xs ys = ap (map event_of) (filter-append m xs ys) ∙ map-append event_of (filter m xs) (filter m ys)

-- ---- more entries

pub between_more : (xs more : List Entry) (p q : ℕ) → p ≤ q → q ≤ length xs → between (xs ++ more) p q ≡ between xs p q
between_more xs more p q le within =
    let d : p ≤ length xs = omega arith in
    let e : q - p ≤ length (drop p xs) = omega (arith, length-drop p xs) in
    ap (λ l. take (q - p) l) (drop-append-le p xs more d) ∙ take-append-le (q - p) (drop p xs) more e

pub events_more : (w : Watch) (xs more : List Entry) (p q : ℕ) → p ≤ q → q ≤ length xs → events_between w (xs ++ more) p q ≡ events_between w xs p q
events_more w xs more p q le within = ap (passed (sees w)) (between_more xs more p q le within)

-- nothing is to be seen from behind the end
pub events_past : (w : Watch) (xs : List Entry) (p q : ℕ) → q ≤ p → [] ≡ events_between w xs p q
events_past w xs p q le = let z : 0 ≡ q - p = omega arith in ap (λ n. passed (sees w) (take n (drop p xs))) z

pub events_none : (w : Watch) (xs : List Entry) (p q : ℕ) → q ≡ p → [] ≡ events_between w xs p q
events_none w xs p q e = events_past w xs p q (omega arith)

-- ---- one place after another

take_nil : (b : ℕ) → ◌≡◌ {A = List Entry} [] (take b [])
take_nil zero = refl
take_nil (suc b) = refl

take_split : (a b : ℕ) (l : List Entry) → take (a + b) l ≡ take a l ++ take b (drop a l)
take_split zero b l = let e : 0 + b ≡ b = omega arith in ap (λ n. take n l) e
take_split (suc a) b [] = let e : suc a + b ≡ suc (a + b) = omega arith in ap (λ n. take n []) e ∙ take_nil b
take_split (suc a) b (x ∷ l) = let e : suc a + b ≡ suc (a + b) = omega arith in ap (λ n. take n (x ∷ l)) e ∙ ap (λ k. x ∷ k) (take_split a b l)

between_join : (xs : List Entry) (p q r : ℕ) → p ≤ q → q ≤ r → between xs p r ≡ between xs p q ++ between xs q r
between_join xs p q r a b =
    let n : r - p ≡ (q - p) + (r - q) = omega arith in
    let m : p + (q - p) ≡ q = omega arith in
    ap (λ k. take k (drop p xs)) n ∙ take_split (q - p) (r - q) (drop p xs) ∙ ap (λ l. take (q - p) (drop p xs) ++ take (r - q) l) (drop-drop (q - p) p xs ∙ ap (λ k. drop k xs) m)

pub events_join : (w : Watch) (xs : List Entry) (p q r : ℕ) → p ≤ q → q ≤ r → events_between w xs p r ≡ events_between w xs p q ++ events_between w xs q r
events_join w xs p q r a b = ap (passed (sees w)) (between_join xs p q r a b) ∙ passed-append (sees w) (between xs p q) (between xs q r)

-- ---- the first event of a batch

-- entries are cut where the first that passes stands
record Cut (m : Entry → Bool) (l : List Entry) (d : Fields) (rest : List Fields) : Type 0 where
  before : List Entry
  entry : Entry
  behind : List Entry
  whole : l ≡ before ++ entry ∷ behind
  none : passed m before ≡ []
  left : passed m behind ≡ rest
  hit : m entry ≡ true
  shows : entry.event ≡ d

cut_more : (m : Entry → Bool) (x : Entry) (l : List Entry) (d : Fields) (rest : List Fields) → m x ≡ false → Cut m l d rest → Cut m (x ∷ l) d rest
cut_more m x l d rest misses c =
    record {
      before = x ∷ c.before;
      entry = c.entry;
      behind = c.behind;
      whole = ap (λ k. x ∷ k) c.whole;
      none = ap (λ (b : Bool). map event_of (if b then x ∷ filter m c.before else filter m c.before)) misses ∙ c.none;
      left = c.left;
      hit = c.hit;
      shows = c.shows;
    }

cut_here : (m : Entry → Bool) (x : Entry) (l : List Entry) (d : Fields) (rest : List Fields) → m x ≡ true → x.event ∷ passed m l ≡ d ∷ rest → Cut m (x ∷ l) d rest
cut_here m x l d rest hits h =
    let same : x.event ≡ d = cc in
    let left : passed m l ≡ rest = cc in
    record { before = []; entry = x; behind = l; whole = refl; none = refl; left = left; hit = hits; shows = same }

cut : (m : Entry → Bool) (l : List Entry) (d : Fields) (rest : List Fields) → passed m l ≡ d ∷ rest → Cut m l d rest
cut m [] d rest h = absurd cc
cut m (x ∷ l) d rest h =
    elim (cases_Bool (m x)) [
      | inl hits ↦ cut_here m x l d rest hits (sym (ap (λ (b : Bool). map event_of (if b then x ∷ filter m l else filter m l)) hits) ∙ h)
      | inr misses ↦ cut_more m x l d rest misses (cut m l d rest (sym (ap (λ (b : Bool). map event_of (if b then x ∷ filter m l else filter m l)) misses) ∙ h))
    ]

drop_parts : (t : ℕ) (xs : List Entry) (e : Entry) (l : List Entry) → drop t xs ≡ e ∷ l → slice_get xs t ≡ Some e
drop_parts zero [] e l h = absurd cc
drop_parts zero (x ∷ xs) e l h = let a : x ≡ e = cc in ap Some a
drop_parts (suc t) [] e l h = absurd cc
drop_parts (suc t) (x ∷ xs) e l h = drop_parts t xs e l h

head_is : (l : List Entry) (e : Entry) → take 1 l ≡ e ∷ [] → (t : ℕ) (xs : List Entry) → drop t xs ≡ l → slice_get xs t ≡ Some e
head_is [] e h t xs d = absurd cc
head_is (x ∷ l) e h t xs d = let same : x ≡ e = cc in drop_parts t xs x l d ∙ ap Some same

between_length : (xs : List Entry) (t u : ℕ) → t ≤ u → u ≤ length xs → length (between xs t u) ≡ u - t
between_length xs t u le within = omega (arith, length-take (u - t) (drop t xs), length-drop t xs)

-- a list in two parts, of which the first has a known length
parts : (a b c d : List Entry) → length a ≡ length c → a ++ b ≡ c ++ d → (a ≡ c) × (b ≡ d)
parts [] b [] d n h = (refl, h)
parts [] b (y ∷ c) d n h = absurd (omega arith)
parts (x ∷ a) b [] d n h = absurd (omega arith)
parts (x ∷ a) b (y ∷ c) d n h =
    let head : x ≡ y = cc in
    let tail : a ++ b ≡ c ++ d = cc in
    let r = parts a b c d (omega arith) tail in
    (ap (λ l. l ++ a) (ap (λ z. z ∷ []) head) ∙ ap (λ l. y ∷ l) r.0, r.1)

between_whole : (xs : List Entry) (t u : ℕ) (before behind : List Entry) (e : Entry) → t ≤ u → u ≤ length xs → between xs t u ≡ before ++ e ∷ behind
    → (t + length before + 1 ≤ u) × (slice_get xs (t + length before) ≡ Some e) × (between xs t (t + length before + 1) ≡ before ++ e ∷ []) × (between xs (t + length before + 1) u ≡ behind)
between_whole xs t u before behind e le within h =
    let n : length (between xs t u) ≡ length before + suc (length behind) = ap length h ∙ length-append before (e ∷ behind) in
    let m = between_length xs t u le within in
    let q : t + length before + 1 ≤ u = omega arith in
    let joined : between xs t (t + length before + 1) ++ between xs (t + length before + 1) u ≡ (before ++ e ∷ []) ++ behind = sym (between_join xs t (t + length before + 1) u (omega arith) q) ∙ h ∙ sym (append_assoc before (e ∷ []) behind) in
    let l : length (between xs t (t + length before + 1)) ≡ length (before ++ e ∷ []) = omega (arith, between_length xs t (t + length before + 1) (omega arith) (omega arith), length-append before (e ∷ [])) in
    let r = parts (between xs t (t + length before + 1)) (between xs (t + length before + 1) u) (before ++ e ∷ []) behind l joined in
    let j : between xs t (t + length before + 1) ≡ between xs t (t + length before) ++ between xs (t + length before) (t + length before + 1) = between_join xs t (t + length before) (t + length before + 1) (omega arith) (omega arith) in
    let l' : length (between xs t (t + length before)) ≡ length before = omega (arith, between_length xs t (t + length before) (omega arith) (omega arith)) in
    let r' = parts (between xs t (t + length before)) (between xs (t + length before) (t + length before + 1)) before (e ∷ []) l' (sym j ∙ r.0) in
    let one : t + length before + 1 - (t + length before) ≡ 1 = omega arith in
    let here = sym (ap (λ k. take k (drop (t + length before) xs)) one) ∙ r'.1 in
    (q, head_is (drop (t + length before) xs) e here (t + length before) xs refl, r.0, r.1)

-- the entry whose event is the first of a batch, and the view on both sides of it
pub record First (w : Watch) (xs : List Entry) (t u : ℕ) (d : Fields) (rest : List Fields) : Type 0 where
  pub at : ℕ
  pub entry : Entry
  pub from : t ≤ at
  pub below : suc at ≤ u
  pub found : slice_get xs at ≡ Some entry
  pub shows : entry.event ≡ d
  pub up_to : events_between w xs t (suc at) ≡ d ∷ []
  pub left : events_between w xs (suc at) u ≡ rest

pub first_of_view : (w : Watch) (xs : List Entry) (t u : ℕ) (d : Fields) (rest : List Fields) → t ≤ u → u ≤ length xs → events_between w xs t u ≡ d ∷ rest → First w xs t u d rest
first_of_view w xs t u d rest le within h =
    let c = cut (sees w) (between xs t u) d rest h in
    let b = between_whole xs t u c.before c.behind c.entry le within c.whole in
    let q = b.0 in
    let n : t + length c.before + 1 ≡ suc (t + length c.before) = omega arith in
    let one : passed (sees w) (c.before ++ c.entry ∷ []) ≡ d ∷ [] = passed-append (sees w) c.before (c.entry ∷ []) ∙ ap (λ l. l ++ passed (sees w) (c.entry ∷ [])) c.none ∙ ap (λ (b : Bool). map event_of (if b then c.entry ∷ [] else [])) c.hit ∙ ap (λ (f : Fields). f ∷ []) c.shows in
    record {
      at = t + length c.before;
      entry = c.entry;
      from = omega arith;
      below = omega arith;
      found = b.1;
      shows = c.shows;
      up_to = subst (λ k. events_between w xs t k ≡ d ∷ []) n (ap (passed (sees w)) b.2 ∙ one);
      left = subst (λ k. events_between w xs k u ≡ rest) n (ap (passed (sees w)) b.3 ∙ c.left);
    }
