-- Numbers of documents under encodings, as they are put there and taken out.
use Rattle.std.proofs.Common.{◌≡◌, ℕ, ◌<◌, Bool, true, false, cond, List, [], ◌∷◌, ◌++◌, Option, Some, None, refl, sym, ap, ap₂, ◌∙◌, inl, inr, subst, arith, Vec}
use Rattle.std.specs.Prelude.{◌||◌, ◌&&◌, ◌⊎◌, not, nat_lt}
use Rattle.std.specs.declared.alloc.Global.{Global}
use Rattle.std.specs.declared.cmp.Ordering.{Ordering}
use Rattle.std.specs.declared.cmp.Ordering.TheVariants.{Less, Equal, Greater}
use Rattle.std.specs.declared.ops.Bound.TheVariants.{Included, Excluded}
use Rattle.std.specs.BTreeMap.{is_at}
use Rattle.std.specs.BTreeMap.Range.{range_contains}
use Rattle.std.specs.BTreeSet.{insert_key}
use Rattle.std.specs.Cmp.{Equal-is, nat_cmp_is}
use Rattle.std.specs.Cmp.Lexicographic.{slice_cmp}
use Rattle.std.specs.List.{AllByRecursion, filter, list_any}
use Rattle.std.specs.List.Sorted.{IsStrictlySortedBy}
use Rattle.std.specs.Map.{keys_of, remove_entry, set_value}
use Rattle.std.specs.Ordering.{is_eq, is_gt, is_le, nat_cmp, ordering_then}
use Rattle.std.specs.Set.{remove_key}
use Rattle.std.specs.Str.{bytes_eq}
use Rattle.std.proofs.lemmas.Bool.{and_parts, cases_Bool, lt-ltb, ltb-true, ltb-false}
use Rattle.std.proofs.lemmas.Map.Keys.{sorted_head, sorted_tail}
use Rattle.std.proofs.lemmas.Map.Text.{is_eq-slice_cmp}
use Rattle.std.proofs.lemmas.Map.Views.{any-filter_same}
use Rattle.std.proofs.lemmas.Slice.Eq.{bytes_eq-Decides}
use Rattle.mg_bson.specs.Raw.{fields}
use Rattle.mg_query.specs.Grouping.{AreGrouped, IsGrouped, KeepsBelow, KeepsOthers, KeepsGroups, StandsAt, chunk_key, file_key, is_member, stands}
use Rattle.mg_query.specs.declared.groups.Groups.{Groups}
use Rattle.mg_query.proofs.Ids.{same_bytes}
use Rattle.mg_query.proofs.Numbers.{Entry, at_is}
use Rattle.mg_query.proofs.Sets.{any_insert, any_more, any_remove, or_right}

abbrev pub Member : Type 0
Member = Vec ℕ Global × ℕ

-- the order of members
abbrev pub member_cmp : Member → Member → Ordering
member_cmp x y = ordering_then (slice_cmp nat_cmp x.0.items y.0.items) (nat_cmp x.1 y.1)

both_equal : (a b : Ordering) → ordering_then a b ≡ Equal → (a ≡ Equal) × (b ≡ Equal)
both_equal Less b h = absurd cc
both_equal Equal b h = (refl, h)
both_equal Greater b h = absurd cc

-- equal members have one encoding and one number
same_member : (x y : Member) → member_cmp x y ≡ Equal → (x.0.items ≡ y.0.items) × (x.1 ≡ y.1)
same_member x y h =
    let parts = both_equal (slice_cmp nat_cmp x.0.items y.0.items) (nat_cmp x.1 y.1) h in (
      (bytes_eq-Decides x.0.items y.0.items).0 (sym (is_eq-slice_cmp x.0.items y.0.items) ∙ ap is_eq parts.0),
      at_is x.1 y.1 (ap is_eq parts.1),
    )

member_same : (k : List ℕ) (n : ℕ) (x y : Member) → member_cmp x y ≡ Equal → is_member k n x ≡ is_member k n y
member_same k n x y h = let parts = same_member x y h in ap₂ (λ (l : List ℕ) (m : ℕ). bytes_eq l k && is_eq (nat_cmp m n)) parts.0 parts.1

member_self : (k : Vec ℕ Global) (n : ℕ) → is_member k.items n (k, n) ≡ true
member_self k n = ap₂ (λ (a b : Bool). a && b) (same_bytes k.items) (sym (ap is_eq (nat_cmp_is n n Equal refl)))

-- ---- a number is put there

put_is : (old new : Groups) (k : Vec ℕ Global) (n : ℕ) (l : List ℕ) (m : ℕ) → new.numbers.keys ≡ insert_key member_cmp old.numbers.keys (k, n) → stands new l m ≡ (is_member l m (k, n) || stands old l m)
put_is old new k n l m put = ap (list_any (is_member l m)) put ∙ any_insert member_cmp (is_member l m) (member_same l m) (k, n) old.numbers.keys

pub put_stands : (old new : Groups) (k : Vec ℕ Global) (n : ℕ) → new.numbers.keys ≡ insert_key member_cmp old.numbers.keys (k, n) → stands new k.items n ≡ true
put_stands old new k n put = put_is old new k n k.items n put ∙ ap (λ (b : Bool). b || stands old k.items n) (member_self k n)

pub put_keeps : (old new : Groups) (k : Vec ℕ Global) (n : ℕ) → new.numbers.keys ≡ insert_key member_cmp old.numbers.keys (k, n) → new.is_whole ≡ old.is_whole → KeepsGroups old new
put_keeps old new k n put whole = record { whole = whole; stay = λ l m is. put_is old new k n l m put ∙ or_right (is_member l m (k, n)) (stands old l m) is }

pub same_keeps : (old new : Groups) → new.numbers.keys ≡ old.numbers.keys → new.is_whole ≡ old.is_whole → KeepsGroups old new
same_keeps old new same whole = record { whole = whole; stay = λ l m is. ap (list_any (is_member l m)) same ∙ is }

pub keeps_both : (a b c : Groups) → KeepsGroups a b → KeepsGroups b c → KeepsGroups a c
keeps_both a b c h g = record { whole = g.whole ∙ h.whole; stay = λ k n is. g.stay k n (h.stay k n is) }

pub others_both : (m : ℕ) (a b c : Groups) → KeepsOthers m a b → KeepsOthers m b c → KeepsOthers m a c
others_both m a b c h g = record { whole = λ w. h.whole (g.whole w); stay = λ k n other is. g.stay k n other (h.stay k n other is) }

-- what all keep others keep
pub others_of : (m : ℕ) (a b : Groups) → KeepsGroups a b → KeepsOthers m a b
others_of m a b h = record { whole = λ w. sym h.whole ∙ w; stay = λ k n other is. h.stay k n is }

pub none_taken : (m : ℕ) (a : Groups) → KeepsOthers m a a
none_taken m a = record { whole = λ w. w; stay = λ k n other is. is }

pub stands_still : (old new : Groups) (n : ℕ) (k : Option (List ℕ)) → KeepsGroups old new → StandsAt old n k → StandsAt new n k
stands_still old new n None keeps h = tt
stands_still old new n (Some k) keeps h = keeps.stay k n h

-- ---- a number is taken out

and_false : (a b : Bool) → b ≡ false → (a && b) ≡ false
and_false true b h = h
and_false false b h = refl

pub take_keeps : (old new : Groups) (k : Vec ℕ Global) (n : ℕ) → new.numbers.keys ≡ remove_key (is_at (member_cmp (k, n))) old.numbers.keys → new.is_whole ≡ old.is_whole → KeepsOthers n old new
take_keeps old new k n out whole = record {
  whole = λ w. sym whole ∙ w;
  stay = λ l m other is.
      ap (list_any (is_member l m)) out
      ∙ any_remove (is_at (member_cmp (k, n))) (is_member l m)
      (λ x at. and_false (bytes_eq x.0.items l) (is_eq (nat_cmp x.1 m)) (ap (λ (y : ℕ). is_eq (nat_cmp y m)) (sym (same_member (k, n) x ((Equal-is (member_cmp (k, n) x)).0 at)).1) ∙ other)) old.numbers.keys
      ∙ is;
}

pub cut_keeps : (old new : Groups) (n : ℕ) → new.numbers.keys ≡ filter (λ (p : Member). nat_lt p.1 n) old.numbers.keys → new.is_whole ≡ old.is_whole → KeepsBelow n old new
cut_keeps old new n cut whole = record {
  whole = whole;
  stay = λ l m less is.
      ap (list_any (is_member l m)) cut
      ∙ any-filter_same (is_member l m) (λ (p : Member). nat_lt p.1 n) true (λ p at. ap (λ (y : ℕ). nat_lt y n) (at_is p.1 m (and_parts (bytes_eq p.0.items l) (is_eq (nat_cmp p.1 m)) at).1) ∙ lt-ltb m n less) old.numbers.keys
      ∙ is;
}

-- ---- what stands there

pub found_stands : (ps : Groups) (k : Vec ℕ Global) (n : ℕ) → list_any (is_at (member_cmp (k, n))) ps.numbers.keys ≡ true → stands ps k.items n ≡ true
found_stands ps k n found =
    any_more (is_at (member_cmp (k, n))) (is_member k.items n) (λ x at. sym (member_same k.items n (k, n) x ((Equal-is (member_cmp (k, n) x)).0 at)) ∙ member_self k n) ps.numbers.keys found

-- ---- the members of a group

same_cmp : (k l : List ℕ) → k ≡ l → slice_cmp nat_cmp k l ≡ Equal
same_cmp k l e = (Equal-is (slice_cmp nat_cmp k l)).0 (is_eq-slice_cmp k l ∙ (bytes_eq-Decides k l).1 e)

from_zero : (n : ℕ) → (nat_cmp 0 n ≡ Less) ⊎ (nat_cmp 0 n ≡ Equal)
from_zero n =
    elim (cases_Bool (nat_lt 0 n)) [
      | inl is ↦ let less : 0 < n = ltb-true 0 n is in inl (sym (nat_cmp_is 0 n Less less))
      | inr not ↦ let same : 0 ≡ n = omega (arith, ltb-false 0 n not) in inr (sym (nat_cmp_is 0 n Equal same))
    ]

not_past : (o : Ordering) → (o ≡ Less) ⊎ (o ≡ Equal) → (is_gt o ≡ false) × (is_le o ≡ true)
not_past o (inl e) = (ap is_gt e, ap is_le e)
not_past o (inr e) = (ap is_gt e, ap is_le e)

-- the first number of a group is not past a later one
pub is_forward : (x y : Vec ℕ Global) (n : ℕ) → x.items ≡ y.items → is_gt (member_cmp (x, 0) (y, n)) ≡ false
is_forward x y n e = ap (λ (o : Ordering). is_gt (ordering_then o (nat_cmp 0 n))) (same_cmp x.items y.items e) ∙ (not_past (nat_cmp 0 n) (from_zero n)).0

within : (k x y : Vec ℕ Global) (end m : ℕ) (p : Member) → x.items ≡ k.items → y.items ≡ k.items → m < end → is_member k.items m p ≡ true → range_contains member_cmp (Included (x, 0)) (Excluded (y, end)) p ≡ true
within k x y end m p from to less at =
    let parts = and_parts (bytes_eq p.0.items k.items) (is_eq (nat_cmp p.1 m)) at in
    let same : p.0.items ≡ k.items = (bytes_eq-Decides p.0.items k.items).0 parts.0 in
    let number : p.1 ≡ m = at_is p.1 m parts.1 in
    let below : p.1 < end = omega (arith, less, number) in
    ap₂ (λ (o r : Ordering). is_le (ordering_then o (nat_cmp 0 p.1)) && not (is_le (ordering_then r (nat_cmp end p.1)))) (same_cmp x.items p.0.items (from ∙ sym same)) (same_cmp y.items p.0.items (to ∙ sym same))
    ∙ ap₂ (λ (a b : Bool). a && not b) (not_past (nat_cmp 0 p.1) (from_zero p.1)).1 (sym (ap is_le (nat_cmp_is end p.1 Greater below)))

-- what stands in a group below the end is among its members
pub members_have : (ps : Groups) (k x y : Vec ℕ Global) (end m : ℕ) (found : Bool) (members : List Member) → x.items ≡ k.items → y.items ≡ k.items → members ≡ filter (range_contains member_cmp (Included (x, 0)) (Excluded (y, end))) ps.numbers.keys → m < end → stands ps k.items m ≡ true
    → (found || list_any (λ (p : Member). is_eq (nat_cmp p.1 m)) members) ≡ true
members_have ps k x y end m found members from to these less is =
    or_right found (list_any (λ (p : Member). is_eq (nat_cmp p.1 m)) members)
    (any_more (is_member k.items m) (λ (p : Member). is_eq (nat_cmp p.1 m)) (λ p at. (and_parts (bytes_eq p.0.items k.items) (is_eq (nat_cmp p.1 m)) at).1) members
    (ap (list_any (is_member k.items m)) these ∙ any-filter_same (is_member k.items m) (range_contains member_cmp (Included (x, 0)) (Excluded (y, end))) true (λ p at. within k x y end m p from to less at) ps.numbers.keys ∙ is))

-- ---- documents

abbrev AllGrouped : Groups → List Entry → Type 0
AllGrouped ps es = AllByRecursion (λ (e : Entry). IsGrouped ps e.0 (fields e.1)) es

all_still : (old new : Groups) (es : List Entry) → KeepsGroups old new → AllGrouped old es → AllGrouped new es
all_still old new [] keeps h = tt
all_still old new (e ∷ es) keeps h = (
  (stands_still old new e.0 (file_key (fields e.1)) keeps h.0.0, stands_still old new e.0 (chunk_key (fields e.1)) keeps h.0.1),
  all_still old new es keeps h.1,
)

pub grouped_still : (old new : Groups) (es : List Entry) → KeepsGroups old new → AreGrouped old es → AreGrouped new es
grouped_still old new es keeps h = λ w. all_still old new es keeps (h (sym keeps.whole ∙ w))

all_last : (ps : Groups) (es : List Entry) (e : Entry) → AllGrouped ps es → IsGrouped ps e.0 (fields e.1) → AllGrouped ps (es ++ e ∷ [])
all_last ps [] e h g = (g, tt)
all_last ps (x ∷ es) e h g = (h.0, all_last ps es e h.1 g)

pub grouped_more : (old new : Groups) (es : List Entry) (n : ℕ) (v : List ℕ) → KeepsGroups old new → IsGrouped new n (fields v) → AreGrouped old es → AreGrouped new (es ++ (n, v) ∷ [])
grouped_more old new es n v keeps is h = λ w. all_last new es (n, v) (grouped_still old new es keeps h w) is

below_still : (m : ℕ) (old new : Groups) (n : ℕ) (k : Option (List ℕ)) → KeepsBelow m old new → n < m → StandsAt old n k → StandsAt new n k
below_still m old new n None keeps less h = tt
below_still m old new n (Some k) keeps less h = keeps.stay k n less h

all_cut : (m : ℕ) (old new : Groups) (es : List Entry) → KeepsBelow m old new → AllGrouped old es → AllGrouped new (filter (λ (e : Entry). nat_lt e.0 m) es)
all_cut m old new [] keeps h = tt
all_cut m old new (e ∷ es) keeps h =
    let rest = all_cut m old new es keeps h.1 in
    let left : List Entry = filter (λ (x : Entry). nat_lt x.0 m) es in
    elim (cases_Bool (nat_lt e.0 m)) [
      | inl is ↦
          let less = ltb-true e.0 m is in
          subst (λ (b : Bool). AllGrouped new (cond b (e ∷ left) left)) (sym is) ((below_still m old new e.0 (file_key (fields e.1)) keeps less h.0.0, below_still m old new e.0 (chunk_key (fields e.1)) keeps less h.0.1), rest)
      | inr not ↦ subst (λ (b : Bool). AllGrouped new (cond b (e ∷ left) left)) (sym not) rest
    ]

pub grouped_cut : (m : ℕ) (old new : Groups) (es : List Entry) → KeepsBelow m old new → AreGrouped old es → AreGrouped new (filter (λ (e : Entry). nat_lt e.0 m) es)
grouped_cut m old new es keeps h = λ w. all_cut m old new es keeps (h (sym keeps.whole ∙ w))

other_still : (m : ℕ) (old new : Groups) (n : ℕ) (k : Option (List ℕ)) → KeepsOthers m old new → is_eq (nat_cmp m n) ≡ false → StandsAt old n k → StandsAt new n k
other_still m old new n None keeps other h = tt
other_still m old new n (Some k) keeps other h = keeps.stay k n other h

both_still : (m : ℕ) (old new : Groups) (e : Entry) → KeepsOthers m old new → is_eq (nat_cmp m e.0) ≡ false → IsGrouped old e.0 (fields e.1) → IsGrouped new e.0 (fields e.1)
both_still m old new e keeps other h = (other_still m old new e.0 (file_key (fields e.1)) keeps other h.0, other_still m old new e.0 (chunk_key (fields e.1)) keeps other h.1)

-- the documents behind the one with this number have others
all_behind : (m : ℕ) (old new : Groups) (es : List Entry) → KeepsOthers m old new → AllByRecursion (λ (n : ℕ). nat_cmp m n ≡ Less) (keys_of es) → AllGrouped old es → AllGrouped new es
all_behind m old new [] keeps less h = tt
all_behind m old new (e ∷ es) keeps less h = (both_still m old new e keeps (ap is_eq less.0) h.0, all_behind m old new es keeps less.1 h.1)

behind_this : (m : ℕ) (e : Entry) (es : List Entry) → IsStrictlySortedBy nat_cmp (keys_of (e ∷ es)) → is_eq (nat_cmp m e.0) ≡ true → AllByRecursion (λ (n : ℕ). nat_cmp m n ≡ Less) (keys_of es)
behind_this m e es sorted at = subst (λ (k : ℕ). AllByRecursion (λ (n : ℕ). nat_cmp k n ≡ Less) (keys_of es)) (sym (at_is m e.0 at)) (sorted_head nat_cmp e.0 (keys_of es) sorted)

all_removed : (m : ℕ) (old new : Groups) (es : List Entry) → IsStrictlySortedBy nat_cmp (keys_of es) → KeepsOthers m old new → AllGrouped old es → AllGrouped new (remove_entry (is_at (nat_cmp m)) es)
all_removed m old new [] sorted keeps h = tt
all_removed m old new (e ∷ es) sorted keeps h =
    let left : List Entry = remove_entry (is_at (nat_cmp m)) es in
    elim (cases_Bool (is_eq (nat_cmp m e.0))) [
      | inl at ↦ subst (λ (b : Bool). AllGrouped new (cond b es (e ∷ left))) (sym at) (all_behind m old new es keeps (behind_this m e es sorted at) h.1)
      | inr other ↦ subst (λ (b : Bool). AllGrouped new (cond b es (e ∷ left))) (sym other) (both_still m old new e keeps other h.0, all_removed m old new es (sorted_tail nat_cmp e.0 (keys_of es) sorted) keeps h.1)
    ]

pub grouped_removed : (m : ℕ) (old new : Groups) (es : List Entry) → IsStrictlySortedBy nat_cmp (keys_of es) → KeepsOthers m old new → AreGrouped old es → AreGrouped new (remove_entry (is_at (nat_cmp m)) es)
grouped_removed m old new es sorted keeps h = λ w. all_removed m old new es sorted keeps (h (keeps.whole w))

all_changed : (m : ℕ) (v : List ℕ) (old new : Groups) (es : List Entry) → IsStrictlySortedBy nat_cmp (keys_of es) → KeepsOthers m old new → IsGrouped new m (fields v) → AllGrouped old es → AllGrouped new (set_value (is_at (nat_cmp m)) es v)
all_changed m v old new [] sorted keeps is h = tt
all_changed m v old new (e ∷ es) sorted keeps is h =
    let left : List Entry = set_value (is_at (nat_cmp m)) es v in
    elim (cases_Bool (is_eq (nat_cmp m e.0))) [
      | inl at ↦
          subst (λ (b : Bool). AllGrouped new (cond b ((e.0, v) ∷ es) (e ∷ left))) (sym at)
          (subst (λ (n : ℕ). IsGrouped new n (fields v)) (at_is m e.0 at) is, all_behind m old new es keeps (behind_this m e es sorted at) h.1)
      | inr other ↦ subst (λ (b : Bool). AllGrouped new (cond b ((e.0, v) ∷ es) (e ∷ left))) (sym other) (both_still m old new e keeps other h.0, all_changed m v old new es (sorted_tail nat_cmp e.0 (keys_of es) sorted) keeps is h.1)
    ]

pub grouped_changed : (m : ℕ) (v : List ℕ) (old new : Groups) (es : List Entry) → IsStrictlySortedBy nat_cmp (keys_of es) → KeepsOthers m old new → (new.is_whole ≡ true → IsGrouped new m (fields v)) → AreGrouped old es → AreGrouped new (set_value (is_at (nat_cmp m)) es v)
grouped_changed m v old new es sorted keeps is h = λ w. all_changed m v old new es sorted keeps (is w) (h (keeps.whole w))
