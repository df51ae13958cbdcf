-- Documents in the order of keys.
use Rattle.std.proofs.Common.{◌≡◌, ◌<◌, ℕ, zero, suc, Bool, true, false, List, [], ◌∷◌, Option, Some, None, refl, sym, ap, ap₂, ◌∙◌, subst, inl, inr, arith}
use Rattle.std.specs.Prelude.{if◌then◌else◌, is_some, option_and_then, option_map, slice_get}
use Rattle.std.specs.Cmp.{IsTotalOrder, then_flip}
use Rattle.std.specs.List.{filter}
use Rattle.std.specs.List.Sorted.{IsPermutation}
use Rattle.std.specs.Ordering.{is_eq, is_some_and, ordering_reverse, ordering_then}
use Rattle.std.specs.declared.cmp.Ordering.{Ordering}
use Rattle.std.specs.declared.cmp.Ordering.TheVariants.{Less, Equal, Greater}
use Rattle.std.proofs.lemmas.Bool.{and_parts, cond_both}
use Rattle.std.proofs.lemmas.Cmp.{alike_right, int_cmp_total, nat_list_cmp_total}
use Rattle.std.proofs.lemmas.List.Sorted.{IsPermutation-cons, IsPermutation-middle, IsPermutation-refl, IsPermutation-trans}
use Rattle.mg_bson.specs.Find.{get}
use Rattle.mg_bson.specs.Tree.{Tree, string, object_id, date_time, int32, int64, Fields}
use Rattle.mg_server.specs.Query.{Key, can_sort, comes_first, have_order, order_at, order_by, order_of, sorted, sorted_in, turned}
use Rattle.mg_server.specs.Sorting.{SortsTo, IsUpTo, are_equal}

-- ---- orders that hold of some things

-- what the order of a first and a third may be, by that of the first and a second, and that of the second and the third
abbrev Joins : Ordering → Ordering → Ordering → Type 0
Joins Less Less c = c ≡ Less
Joins Less Equal c = c ≡ Less
Joins Less Greater c = Unit {0}
Joins Equal b c = c ≡ b
Joins Greater Less c = Unit {0}
Joins Greater Equal c = c ≡ Greater
Joins Greater Greater c = c ≡ Greater

record IsOrder {A : Type 0} (R : A → A → Option Ordering) : Type 0 where
  turns : (x y : A) (a : Ordering) → R x y ≡ Some a → R y x ≡ Some (ordering_reverse a)
  joins : (x y z : A) (a b : Ordering) → R x y ≡ Some a → R y z ≡ Some b → (c : Ordering) × (R x z ≡ Some c) × Joins a b c

-- ---- that of values of one kind

module _ {A : Type 0} {R : A → A → Ordering} (o : IsTotalOrder R) where
  joins_by : (x y z : A) (a b : Ordering) → R x y ≡ a → R y z ≡ b → Joins a b (R x z)
  joins_by x y z Less Less p q = o.trans x y z p q
  joins_by x y z Less Equal p q = sym (alike_right o y z x q) ∙ p
  joins_by x y z Less Greater p q = tt
  joins_by x y z Equal b p q = o.congr x y z p ∙ q
  joins_by x y z Greater Less p q = tt
  joins_by x y z Greater Equal p q = sym (alike_right o y z x q) ∙ p
  joins_by x y z Greater Greater p q = o.antisymm x z ∙ ap ordering_reverse (o.trans z y x (o.antisymm z y ∙ ap ordering_reverse q) (o.antisymm y x ∙ ap ordering_reverse p))

  turns_so : (x y : A) (a : Ordering) → Some (R x y) ≡ Some a → Some (R y x) ≡ Some (ordering_reverse a)
  turns_so x y a h = let is : R x y ≡ a = cc in ap (λ (c : Ordering). Some c) (o.antisymm y x ∙ ap ordering_reverse is)

  joins_so : (x y z : A) (a b : Ordering) → Some (R x y) ≡ Some a → Some (R y z) ≡ Some b → (c : Ordering) × (Some (R x z) ≡ Some c) × Joins a b c
  joins_so x y z a b p q =
      let first : R x y ≡ a = cc in
      let second : R y z ≡ b = cc in
      (R x z, refl, joins_by x y z a b first second)

values_turn : (t u : Tree) (a : Ordering) → order_of t u ≡ Some a → order_of u t ≡ Some (ordering_reverse a)
values_turn (int32 x) (int32 y) a h = turns_so int_cmp_total x y a h
values_turn (int64 x) (int64 y) a h = turns_so int_cmp_total x y a h
values_turn (date_time x) (date_time y) a h = turns_so int_cmp_total x y a h
values_turn (string x) (string y) a h = turns_so nat_list_cmp_total x y a h
values_turn (object_id x) (object_id y) a h = turns_so nat_list_cmp_total x y a h
values_turn t u a h = absurd cc

values_join : (t u v : Tree) (a b : Ordering) → order_of t u ≡ Some a → order_of u v ≡ Some b → (c : Ordering) × (order_of t v ≡ Some c) × Joins a b c
values_join (int32 x) (int32 y) (int32 z) a b p q = joins_so int_cmp_total x y z a b p q
values_join (int64 x) (int64 y) (int64 z) a b p q = joins_so int_cmp_total x y z a b p q
values_join (date_time x) (date_time y) (date_time z) a b p q = joins_so int_cmp_total x y z a b p q
values_join (string x) (string y) (string z) a b p q = joins_so nat_list_cmp_total x y z a b p q
values_join (object_id x) (object_id y) (object_id z) a b p q = joins_so nat_list_cmp_total x y z a b p q
values_join t u v a b p q = absurd cc

values_order : IsOrder order_of
values_order = record { turns = values_turn; joins = values_join }

-- ---- that of values that may be absent

abbrev both : {A : Type 0} → (A → A → Option Ordering) → Option A → Option A → Option Ordering
both R m n = option_and_then (λ x. option_and_then (R x) n) m

both_turn : {A : Type 0} (R : A → A → Option Ordering) → IsOrder R → (m n : Option A) (a : Ordering) → both R m n ≡ Some a → both R n m ≡ Some (ordering_reverse a)
both_turn R o None n a h = absurd cc
both_turn R o (Some x) None a h = absurd cc
both_turn R o (Some x) (Some y) a h = o.turns x y a h

both_join : {A : Type 0} (R : A → A → Option Ordering) → IsOrder R → (m n l : Option A) (a b : Ordering) → both R m n ≡ Some a → both R n l ≡ Some b → (c : Ordering) × (both R m l ≡ Some c) × Joins a b c
both_join R o None n l a b p q = absurd cc
both_join R o (Some x) None l a b p q = absurd cc
both_join R o (Some x) (Some y) None a b p q = absurd cc
both_join R o (Some x) (Some y) (Some z) a b p q = o.joins x y z a b p q

-- ---- turned round

turned_reverse : (rising : Bool) (a : Ordering) → turned rising (ordering_reverse a) ≡ ordering_reverse (turned rising a)
turned_reverse true a = refl
turned_reverse false Less = refl
turned_reverse false Equal = refl
turned_reverse false Greater = refl

turned_joins : (rising : Bool) (a b c : Ordering) → Joins a b c → Joins (turned rising a) (turned rising b) (turned rising c)
turned_joins true a b c h = h
turned_joins false Less Less c h = ap (turned false) h
turned_joins false Less Equal c h = ap (turned false) h
turned_joins false Less Greater c h = tt
turned_joins false Equal b c h = ap (turned false) h
turned_joins false Greater Less c h = tt
turned_joins false Greater Equal c h = ap (turned false) h
turned_joins false Greater Greater c h = ap (turned false) h

record IsTurned (rising : Bool) (m : Option Ordering) (a : Ordering) : Type 0 where
  before : Ordering
  was : m ≡ Some before
  is : turned rising before ≡ a

turned_some : (rising : Bool) (m : Option Ordering) (a : Ordering) → option_map (turned rising) m ≡ Some a → IsTurned rising m a
turned_some rising None a h = absurd cc
turned_some rising (Some b) a h = let is : turned rising b ≡ a = cc in record { before = b; was = refl; is = is }

turned_order : {A : Type 0} (R : A → A → Option Ordering) (rising : Bool) → IsOrder R → IsOrder (λ x y. option_map (turned rising) (R x y))
turned_order R rising o = record {
  turns = λ x y a h.
      let m = turned_some rising (R x y) a h in
      ap (option_map (turned rising)) (o.turns x y m.before m.was) ∙ ap (λ (c : Ordering). Some c) (turned_reverse rising m.before ∙ ap ordering_reverse m.is);
  joins = λ x y z a b p q.
      let m = turned_some rising (R x y) a p in
      let n = turned_some rising (R y z) b q in
      let j = o.joins x y z m.before n.before m.was n.was in (
        turned rising j.0,
        ap (option_map (turned rising)) j.1,
        subst (λ (first : Ordering). Joins first b (turned rising j.0)) m.is
            (subst (λ (second : Ordering). Joins (turned rising m.before) second (turned rising j.0)) n.is (turned_joins rising m.before n.before j.0 j.2)),
      );
}

-- ---- one order, and then another

abbrev then_by : Option Ordering → Option Ordering → Option Ordering
then_by m n = option_and_then (λ o. option_map (ordering_then o) n) m

record IsThen (m n : Option Ordering) (a : Ordering) : Type 0 where
  first : Ordering
  first_is : m ≡ Some first
  second : Ordering
  second_is : n ≡ Some second
  is : ordering_then first second ≡ a

then_some : (m n : Option Ordering) (a : Ordering) → then_by m n ≡ Some a → IsThen m n a
then_some None n a h = absurd cc
then_some (Some b) None a h = absurd cc
then_some (Some b) (Some c) a h = let is : ordering_then b c ≡ a = cc in record { first = b; first_is = refl; second = c; second_is = refl; is = is }

then_joins : (a b c a' b' c' : Ordering) → Joins a b c → Joins a' b' c' → Joins (ordering_then a a') (ordering_then b b') (ordering_then c c')
then_joins Less Less c a' b' c' p q = ap (λ (o : Ordering). ordering_then o c') p
then_joins Less Equal c a' Less c' p q = ap (λ (o : Ordering). ordering_then o c') p
then_joins Less Equal c a' Equal c' p q = ap (λ (o : Ordering). ordering_then o c') p
then_joins Less Equal c a' Greater c' p q = tt
then_joins Less Greater c a' b' c' p q = tt
then_joins Equal Less c Less b' c' p q = ap (λ (o : Ordering). ordering_then o c') p
then_joins Equal Less c Equal b' c' p q = ap (λ (o : Ordering). ordering_then o c') p
then_joins Equal Less c Greater b' c' p q = tt
then_joins Equal Equal c a' b' c' p q = subst (λ (o : Ordering). Joins a' b' (ordering_then o c')) (sym p) q
then_joins Equal Greater c Less b' c' p q = tt
then_joins Equal Greater c Equal b' c' p q = ap (λ (o : Ordering). ordering_then o c') p
then_joins Equal Greater c Greater b' c' p q = ap (λ (o : Ordering). ordering_then o c') p
then_joins Greater Less c a' b' c' p q = tt
then_joins Greater Equal c a' Less c' p q = tt
then_joins Greater Equal c a' Equal c' p q = ap (λ (o : Ordering). ordering_then o c') p
then_joins Greater Equal c a' Greater c' p q = ap (λ (o : Ordering). ordering_then o c') p
then_joins Greater Greater c a' b' c' p q = ap (λ (o : Ordering). ordering_then o c') p

then_order : {A : Type 0} (R S : A → A → Option Ordering) → IsOrder R → IsOrder S → IsOrder (λ x y. then_by (R x y) (S x y))
then_order R S r s = record {
  turns = λ x y a h.
      let t = then_some (R x y) (S x y) a h in
      ap₂ then_by (r.turns x y t.first t.first_is) (s.turns x y t.second t.second_is) ∙ ap (λ (c : Ordering). Some c) (then_flip t.first t.second ∙ ap ordering_reverse t.is);
  joins = λ x y z a b p q.
      let t = then_some (R x y) (S x y) a p in
      let u = then_some (R y z) (S y z) b q in
      let i = r.joins x y z t.first u.first t.first_is u.first_is in
      let j = s.joins x y z t.second u.second t.second_is u.second_is in (
        ordering_then i.0 j.0,
        ap₂ then_by i.1 j.1,
        subst (λ (first : Ordering). Joins first b (ordering_then i.0 j.0)) t.is
            (subst (λ (second : Ordering). Joins (ordering_then t.first t.second) second (ordering_then i.0 j.0)) u.is
            (then_joins t.first u.first i.0 t.second u.second j.0 i.2 j.2)),
      );
}

-- ---- the order by keys

none_order : IsOrder (order_by [])
none_order = record {
  turns = λ x y a h. let is : Equal ≡ a = cc in ap (λ (c : Ordering). Some (ordering_reverse c)) is;
  joins = λ x y z a b p q.
      let first : Equal ≡ a = cc in
      let second : Equal ≡ b = cc in
      (Equal, refl, subst (λ (c : Ordering). Joins c b Equal) first second);
}

at_order : (k : Key) → IsOrder (order_at k)
at_order k = turned_order (λ (d e : Fields). both order_of (get k.name d) (get k.name e)) k.rising (record {
  turns = λ d e a h. both_turn order_of values_order (get k.name d) (get k.name e) a h;
  joins = λ d e f a b p q. both_join order_of values_order (get k.name d) (get k.name e) (get k.name f) a b p q;
})

is_order : (keys : List Key) → IsOrder (order_by keys)
is_order [] = none_order
is_order (k ∷ ks) = then_order (order_at k) (order_by ks) (at_order k) (is_order ks)

-- ---- what holds of each document

abbrev AllOf : (Fields → Type 0) → List Fields → Type 0
AllOf P [] = Unit {0}
AllOf P (d ∷ ds) = P d × AllOf P ds

all_in : (P : Fields → Type 0) (keys : List Key) (d : Fields) (es : List Fields) → P d → AllOf P es → AllOf P (sorted_in keys d es)
all_in P keys d [] h hs = (h, tt)
all_in P keys d (e ∷ es) h hs =
    cond_both (comes_first (order_by keys e d)) _ _ (λ (l : List Fields). AllOf P l) (λ first. (hs.0, all_in P keys d es h hs.1)) (λ behind. (h, hs))

all_sorted : (P : Fields → Type 0) (keys : List Key) (ds : List Fields) → AllOf P ds → AllOf P (sorted keys ds)
all_sorted P keys [] h = tt
all_sorted P keys (d ∷ ds) h = all_in P keys d (sorted keys ds) h.0 (all_sorted P keys ds h.1)

all_get : (P : Fields → Type 0) (es : List Fields) → AllOf P es → (j : ℕ) (e : Fields) → slice_get es j ≡ Some e → P e
all_get P [] h j e at = absurd cc
all_get P (f ∷ es) h zero e at = let same : f ≡ e = cc in subst P same h.0
all_get P (f ∷ es) h (suc j) e at = all_get P es h.1 j e at

-- ---- documents ascend

module _ (keys : List Key) where
  abbrev HasOrder : Fields → Fields → Type 0
  HasOrder d e = (a : Ordering) × (order_by keys d e ≡ Some a)

  abbrev Ascend : List Fields → Type 0
  Ascend [] = Unit {0}
  Ascend (d ∷ ds) = AllOf (IsUpTo keys d) ds × Ascend ds

  is_less : (m : Option Ordering) → comes_first m ≡ true → m ≡ Some Less
  is_less None h = cc
  is_less (Some Less) h = refl
  is_less (Some Equal) h = cc
  is_less (Some Greater) h = cc

  -- one that has an order with another, which does not come before it
  up_by : (d e : Fields) (a : Ordering) → order_by keys d e ≡ Some a → comes_first (order_by keys e d) ≡ false → IsUpTo keys d e
  up_by d e Less is behind = inl is
  up_by d e Equal is behind = inr is
  up_by d e Greater is behind = let bad : true ≡ false = sym (ap comes_first ((is_order keys).turns d e Greater is)) ∙ behind in absurd cc

  up_join : (d e f : Fields) → IsUpTo keys d e → IsUpTo keys e f → IsUpTo keys d f
  up_join d e f (inl p) (inl q) = let j = (is_order keys).joins d e f Less Less p q in inl (j.1 ∙ ap (λ (c : Ordering). Some c) j.2)
  up_join d e f (inl p) (inr q) = let j = (is_order keys).joins d e f Less Equal p q in inl (j.1 ∙ ap (λ (c : Ordering). Some c) j.2)
  up_join d e f (inr p) (inl q) = let j = (is_order keys).joins d e f Equal Less p q in inl (j.1 ∙ ap (λ (c : Ordering). Some c) j.2)
  up_join d e f (inr p) (inr q) = let j = (is_order keys).joins d e f Equal Equal p q in inr (j.1 ∙ ap (λ (c : Ordering). Some c) j.2)

  all_up : (d e : Fields) (fs : List Fields) → IsUpTo keys d e → AllOf (IsUpTo keys e) fs → AllOf (IsUpTo keys d) fs
  all_up d e [] up h = tt
  all_up d e (f ∷ fs) up h = (up_join d e f up h.0, all_up d e fs up h.1)

  ascend_in : (d : Fields) (es : List Fields) → AllOf (HasOrder d) es → Ascend es → Ascend (sorted_in keys d es)
  ascend_in d [] has h = (tt, tt)
  ascend_in d (e ∷ es) has h =
      cond_both (comes_first (order_by keys e d)) _ _ (λ (l : List Fields). Ascend l)
      (λ first. (all_in (IsUpTo keys e) keys d es (inl (is_less (order_by keys e d) first)) h.0, ascend_in d es has.1 h.1))
      (λ behind. let up = up_by d e has.0.0 has.0.1 behind in ((up, all_up d e es up h.0), h))

  some_is : (m : Option Ordering) → is_some m ≡ true → (a : Ordering) × (m ≡ Some a)
  some_is None h = absurd cc
  some_is (Some a) h = (a, refl)

  have_all : (d : Fields) (es : List Fields) → have_order keys d es ≡ true → AllOf (HasOrder d) es
  have_all d [] h = tt
  have_all d (e ∷ es) h = let parts = and_parts (is_some (order_by keys d e)) (have_order keys d es) h in (some_is (order_by keys d e) parts.0, have_all d es parts.1)

  -- documents that have an order with one have one with each other
  have_each : (one d : Fields) (es : List Fields) → HasOrder one d → AllOf (HasOrder one) es → AllOf (HasOrder d) es
  have_each one d [] h hs = tt
  have_each one d (e ∷ es) h hs =
      let j = (is_order keys).joins d one e (ordering_reverse h.0) hs.0.0 ((is_order keys).turns one d h.0 h.1) hs.0.1 in
      ((j.0, j.1), have_each one d es h hs.1)

  ascend_by : (one : Fields) (ds : List Fields) → AllOf (HasOrder one) ds → Ascend (sorted keys ds)
  ascend_by one [] h = tt
  ascend_by one (d ∷ ds) h = ascend_in d (sorted keys ds) (have_each one d (sorted keys ds) h.0 (all_sorted (HasOrder one) keys ds h.1)) (ascend_by one ds h.1)

  sorted_ascend : (ds : List Fields) → can_sort keys ds ≡ true → Ascend (sorted keys ds)
  sorted_ascend [] can = tt
  sorted_ascend (d ∷ ds) can = ascend_by d (d ∷ ds) (have_all d (d ∷ ds) can)

  pair_ascends : (es : List Fields) → Ascend es → (i j : ℕ) (d e : Fields) → i < j → slice_get es i ≡ Some d → slice_get es j ≡ Some e → IsUpTo keys d e
  pair_ascends [] h i j d e lt p q = absurd cc
  pair_ascends (x ∷ es) h i zero d e lt p q = absurd (omega arith)
  pair_ascends (x ∷ es) h zero (suc j) d e lt p q = let same : x ≡ d = cc in subst (λ (y : Fields). IsUpTo keys y e) same (all_get (IsUpTo keys x) es h.0 j e q)
  pair_ascends (x ∷ es) h (suc i) (suc j) d e lt p q = pair_ascends es h.1 i j d e (omega arith) p q

  -- ---- none is lost

  moved_in : (d : Fields) (es : List Fields) → IsPermutation (d ∷ es) (sorted_in keys d es)
  moved_in d [] = IsPermutation-refl (d ∷ [])
  moved_in d (e ∷ es) =
      cond_both (comes_first (order_by keys e d)) _ _ (λ (l : List Fields). IsPermutation (d ∷ e ∷ es) l)
      (λ first. IsPermutation-trans (d ∷ e ∷ es) (e ∷ d ∷ es) (e ∷ sorted_in keys d es) (IsPermutation-middle (d ∷ []) e es) (IsPermutation-cons e (d ∷ es) (sorted_in keys d es) (moved_in d es)))
      (λ behind. IsPermutation-refl (d ∷ e ∷ es))

  moved : (ds : List Fields) → IsPermutation ds (sorted keys ds)
  moved [] = IsPermutation-refl []
  moved (d ∷ ds) = IsPermutation-trans (d ∷ ds) (d ∷ sorted keys ds) (sorted_in keys d (sorted keys ds)) (IsPermutation-cons d ds (sorted keys ds) (moved ds)) (moved_in d (sorted keys ds))

  -- ---- equal ones keep their order

  equal_is : (m : Option Ordering) → is_some_and is_eq m ≡ true → m ≡ Some Equal
  equal_is None h = cc
  equal_is (Some Less) h = cc
  equal_is (Some Equal) h = refl
  equal_is (Some Greater) h = cc

  -- of two that are equal to one, neither comes first
  neither_first : (one d e : Fields) → are_equal keys one d ≡ true → are_equal keys one e ≡ true → comes_first (order_by keys e d) ≡ true → ⊥
  neither_first one d e same_d same_e first =
      let p = equal_is (order_by keys one d) same_d in
      let q = (is_order keys).turns one e Equal (equal_is (order_by keys one e) same_e) in
      let j = (is_order keys).joins e one d Equal Equal q p in
      let bad : Some Less ≡ Some Equal = sym (is_less (order_by keys e d) first) ∙ (j.1 ∙ ap (λ (c : Ordering). Some c) j.2) in
      cc

  exchanged : (b c : Bool) (d e : Fields) (fs : List Fields) → (b ≡ true → c ≡ true → ⊥)
      → (if c then e ∷ (if b then d ∷ fs else fs) else (if b then d ∷ fs else fs)) ≡ (if b then d ∷ (if c then e ∷ fs else fs) else (if c then e ∷ fs else fs))
  exchanged true true d e fs apart = absurd (apart refl refl)
  exchanged true false d e fs apart = refl
  exchanged false true d e fs apart = refl
  exchanged false false d e fs apart = refl

  stays_in : (one d : Fields) (es : List Fields) → filter (are_equal keys one) (sorted_in keys d es) ≡ filter (are_equal keys one) (d ∷ es)
  stays_in one d [] = refl
  stays_in one d (e ∷ es) =
      cond_both (comes_first (order_by keys e d)) _ _ (λ (l : List Fields). filter (are_equal keys one) l ≡ filter (are_equal keys one) (d ∷ e ∷ es))
      (λ first. ap (λ (l : List Fields). if are_equal keys one e then e ∷ l else l) (stays_in one d es)
      ∙ exchanged (are_equal keys one d) (are_equal keys one e) d e (filter (are_equal keys one) es) (λ same_d same_e. neither_first one d e same_d same_e first))
      (λ behind. refl)

  stays : (one : Fields) (ds : List Fields) → filter (are_equal keys one) (sorted keys ds) ≡ filter (are_equal keys one) ds
  stays one [] = refl
  stays one (d ∷ ds) = stays_in one d (sorted keys ds) ∙ ap (λ (l : List Fields). if are_equal keys one d then d ∷ l else l) (stays one ds)

pub is_sorted : (keys : List Key) (ds : List Fields) → SortsTo keys ds (sorted keys ds)
is_sorted keys ds = record {
  same = moved keys ds;
  ascends = λ can i j d e lt p q. pair_ascends keys (sorted keys ds) (sorted_ascend keys ds can) i j d e lt p q;
  stable = λ d. stays keys d ds;
}
