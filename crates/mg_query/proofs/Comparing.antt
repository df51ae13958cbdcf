-- The order of all documents by keys is a total one, and that of two documents that have an order.
use Rattle.std.proofs.Common.{Ordering, ◌≡◌, ℕ, Bool, true, false, List, [], ◌∷◌, Option, Some, None, refl, sym, ap, ap₂, ◌∙◌, subst}
use Rattle.std.specs.Prelude.{is_some, option_and_then, option_map}
use Rattle.std.specs.Cmp.{IsStrictWeakOrder, IsTotalOrder, back_total, on_total, then_total}
use Rattle.std.specs.Ordering.{is_lt, ordering_reverse, ordering_then}
use Rattle.std.specs.declared.cmp.Ordering.TheVariants.{Less, Equal, Greater}
use Rattle.std.proofs.lemmas.Cmp.{int_cmp_total, nat_cmp_total, nat_list_cmp_total}
use Rattle.std.proofs.lemmas.List.Sorted.{ranks_by}
use Rattle.mg_bson.specs.Find.{get}
use Rattle.mg_bson.specs.Raw.{fields}
use Rattle.mg_bson.specs.Tree.{Tree, string, object_id, date_time, int32, int64, Fields}
use Rattle.mg_server.specs.Query.{Key, comes_first, order_at, order_by, order_of, turned}
use Rattle.mg_query.specs.Comparing.{compare_at, compare_by, compare_values, kind, letters, number}

-- ---- a total order

values_total : IsTotalOrder compare_values
values_total = then_total (then_total (on_total kind nat_cmp_total) (on_total number int_cmp_total)) (on_total letters nat_list_cmp_total)

turned_is : (a : Ordering) → ordering_reverse a ≡ turned false a
turned_is Less = refl
turned_is Equal = refl
turned_is Greater = refl

turned_total : {A : Type 0} (rising : Bool) (R : A → A → Ordering) → IsTotalOrder R → IsTotalOrder (λ x y. turned rising (R x y))
turned_total true R o = o
turned_total false R o = subst IsTotalOrder (λ i x y. (o.antisymm y x ∙ turned_is (R x y)) i) (back_total o)

pub compare_total : (keys : List Key) → IsTotalOrder (compare_by keys)
compare_total [] = record { antisymm = λ x y. refl; trans = λ x y z p q. p; congr = λ x y z p. refl }
compare_total (k ∷ ks) = then_total (turned_total k.rising (λ (d e : Fields). compare_values (get k.name d) (get k.name e)) (on_total (get k.name) values_total)) (compare_total ks)

-- the order of encodings
abbrev pub is_less : List Key → List ℕ → List ℕ → Bool
is_less keys x y = is_lt (compare_by keys (fields x) (fields y))

pub is_less_ranks : (keys : List Key) → IsStrictWeakOrder (is_less keys)
is_less_ranks keys = ranks_by (compare_total keys) fields

-- ---- the order of values that have one

abbrev both : Option Tree → Option Tree → Option Ordering
both m n = option_and_then (λ t. option_and_then (order_of t) n) m

then_equal : (a : Ordering) → ordering_then a Equal ≡ a
then_equal Less = refl
then_equal Equal = refl
then_equal Greater = refl

some_same : (a b : Ordering) → Some a ≡ Some b → a ≡ b
some_same a b h = cc

values_agree : (t u : Tree) (a : Ordering) → order_of t u ≡ Some a → compare_values (Some t) (Some u) ≡ a
values_agree (int32 x) (int32 y) a h = then_equal _ ∙ some_same _ _ h
values_agree (int64 x) (int64 y) a h = then_equal _ ∙ some_same _ _ h
values_agree (date_time x) (date_time y) a h = then_equal _ ∙ some_same _ _ h
values_agree (string x) (string y) a h = some_same _ _ h
values_agree (object_id x) (object_id y) a h = some_same _ _ h
values_agree t u a h = absurd cc

both_agree : (m n : Option Tree) (a : Ordering) → both m n ≡ Some a → compare_values m n ≡ a
both_agree None n a h = absurd cc
both_agree (Some t) None a h = absurd cc
both_agree (Some t) (Some u) a h = values_agree t u a h

at_agree_by : (rising : Bool) (m : Option Ordering) (r a : Ordering) → ((b : Ordering) → m ≡ Some b → r ≡ b) → option_map (turned rising) m ≡ Some a → turned rising r ≡ a
at_agree_by rising None r a h is = absurd cc
at_agree_by rising (Some b) r a h is = ap (turned rising) (h b refl) ∙ some_same _ _ is

at_agree : (k : Key) (d e : Fields) (a : Ordering) → order_at k d e ≡ Some a → compare_at k d e ≡ a
at_agree k d e a is = at_agree_by k.rising (both (get k.name d) (get k.name e)) _ a (both_agree (get k.name d) (get k.name e)) is

then_agree : (m n : Option Ordering) (r s a : Ordering) → ((b : Ordering) → m ≡ Some b → r ≡ b) → ((b : Ordering) → n ≡ Some b → s ≡ b)
    → option_and_then (λ o. option_map (ordering_then o) n) m ≡ Some a → ordering_then r s ≡ a
then_agree None n r s a h k is = absurd cc
then_agree (Some b) None r s a h k is = absurd cc
then_agree (Some b) (Some c) r s a h k is = ap₂ ordering_then (h b refl) (k c refl) ∙ some_same _ _ is

pub by_agree : (keys : List Key) (d e : Fields) (a : Ordering) → order_by keys d e ≡ Some a → compare_by keys d e ≡ a
by_agree [] d e a is = some_same _ _ is
by_agree (k ∷ ks) d e a is = then_agree (order_at k d e) (order_by ks d e) _ _ a (at_agree k d e) (by_agree ks d e) is

first_agree_by : (m : Option Ordering) (r : Ordering) → ((a : Ordering) → m ≡ Some a → r ≡ a) → is_some m ≡ true → comes_first m ≡ is_lt r
first_agree_by None r h has = absurd cc
first_agree_by (Some a) r h has = ap is_lt (sym (h a refl))

-- of documents that have an order the one that comes first is the lesser
pub first_agree : (keys : List Key) (d e : Fields) → is_some (order_by keys d e) ≡ true → comes_first (order_by keys d e) ≡ is_lt (compare_by keys d e)
first_agree keys d e = first_agree_by (order_by keys d e) (compare_by keys d e) (by_agree keys d e)

-- ---- what has an order with a third has one with each other

third_value : (l t u : Tree) → is_some (order_of l t) ≡ true → is_some (order_of l u) ≡ true → is_some (order_of t u) ≡ true
third_value (int32 l) (int32 t) (int32 u) h k = refl
third_value (int64 l) (int64 t) (int64 u) h k = refl
third_value (date_time l) (date_time t) (date_time u) h k = refl
third_value (string l) (string t) (string u) h k = refl
third_value (object_id l) (object_id t) (object_id u) h k = refl
third_value l t u h k = absurd cc

third_both : (l m n : Option Tree) → is_some (both l m) ≡ true → is_some (both l n) ≡ true → is_some (both m n) ≡ true
third_both None m n h k = absurd cc
third_both (Some l) None n h k = absurd cc
third_both (Some l) (Some t) None h k = absurd cc
third_both (Some l) (Some t) (Some u) h k = third_value l t u h k

some_turned : (rising : Bool) (m : Option Ordering) → is_some (option_map (turned rising) m) ≡ is_some m
some_turned rising None = refl
some_turned rising (Some a) = refl

third_at : (k : Key) (c d e : Fields) → is_some (order_at k c d) ≡ true → is_some (order_at k c e) ≡ true → is_some (order_at k d e) ≡ true
third_at k c d e p q =
    let name = k.name in
    some_turned k.rising (both (get name d) (get name e))
    ∙ third_both (get name c) (get name d) (get name e) (sym (some_turned k.rising (both (get name c) (get name d))) ∙ p) (sym (some_turned k.rising (both (get name c) (get name e))) ∙ q)

some_then : (m n : Option Ordering) → is_some (option_and_then (λ o. option_map (ordering_then o) n) m) ≡ true → (is_some m ≡ true) × (is_some n ≡ true)
some_then None n h = absurd cc
some_then (Some b) None h = absurd cc
some_then (Some b) (Some c) h = (refl, refl)

then_some : (m n : Option Ordering) → is_some m ≡ true → is_some n ≡ true → is_some (option_and_then (λ o. option_map (ordering_then o) n) m) ≡ true
then_some None n h k = absurd cc
then_some (Some b) None h k = absurd cc
then_some (Some b) (Some c) h k = refl

pub third_by : (keys : List Key) (c d e : Fields) → is_some (order_by keys c d) ≡ true → is_some (order_by keys c e) ≡ true → is_some (order_by keys d e) ≡ true
third_by [] c d e p q = refl
third_by (k ∷ ks) c d e p q =
    let first = some_then (order_at k c d) (order_by ks c d) p in
    let second = some_then (order_at k c e) (order_by ks c e) q in
    then_some (order_at k d e) (order_by ks d e) (third_at k c d e first.0 second.0) (third_by ks c d e first.1 second.1)
