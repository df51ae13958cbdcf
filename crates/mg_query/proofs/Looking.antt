-- Documents of a collection that are looked up by their ids.
use Rattle.std.proofs.Common.{◌≡◌, ℕ, ◌<◌, Bool, true, false, cond, List, [], ◌∷◌, map, Option, Some, None, option_map, refl, sym, ap, ap₂, ◌∙◌, inl, inr, arith, Vec, subst, ◌++◌}
use Rattle.std.specs.Prelude.{if◌then◌else◌, ◌||◌, nat_lt, codes, string_bytes, take}
use Rattle.std.specs.declared.alloc.Global.{Global}
use Rattle.std.specs.declared.cmp.Ordering.TheVariants.{Less, Equal}
use Rattle.std.specs.BTreeMap.{BTreeMap, is_at}
use Rattle.std.specs.BTreeSet.{BTreeSet, IsOrdered, contains}
use Rattle.std.specs.Cmp.{nat_cmp_is}
use Rattle.std.specs.List.{AllByRecursion, filter, list_any}
use Rattle.std.specs.List.Sorted.{IsStrictlySortedBy}
use Rattle.std.specs.Map.{keys_of, lookup}
use Rattle.std.specs.Ordering.{is_eq, is_le, nat_cmp}
use Rattle.std.specs.Str.{bytes_eq}
use Rattle.std.proofs.lemmas.Bool.{and_parts, cases_Bool, false_from_ne_true, ltb-true, ltb-false}
use Rattle.std.proofs.lemmas.Map.Keys.{le_from_is_le, sorted_head, sorted_tail}
use Rattle.std.proofs.lemmas.Slice.Eq.{bytes_eq-Decides}
use Rattle.mg_bson.specs.Tree.{Tree, Fields}
use Rattle.mg_bson.specs.Raw.{fields}
use Rattle.mg_bson.specs.Find.{get}
use Rattle.mg_server.specs.Filter.{key}
use Rattle.mg_query.specs.Asking.{Keyed, ahead, has_key, held, matches_keys, meets_keys}
use Rattle.mg_query.specs.Collecting.{Covers, is_in, looked_up}
use Rattle.mg_query.specs.Numbering.{IsNumbered, KeepsIds, has_this, is_number, is_of_id, number_in, stored}
use Rattle.mg_query.specs.Querying.{chosen_by}
use Rattle.mg_query.specs.declared.collection.Collection.{Collection}
use Rattle.mg_query.specs.declared.filter.Condition.{Condition}
use Rattle.mg_query.proofs.Numbers.{Entry, fields_of, not_above}

-- ---- numbers in order

less_is : (m n : ℕ) → nat_cmp m n ≡ Less → m < n
less_is m n h =
    elim (cases_Bool (nat_lt m n)) [
      | inl is ↦ ltb-true m n is
      | inr not ↦
          let le = le_from_is_le m n (ap is_le h) in
          let same : m ≡ n = omega (arith, le, ltb-false m n not) in
          let bad : Equal ≡ Less = nat_cmp_is m n Equal same ∙ h in
          absurd cc
    ]

all_less : (n : ℕ) (ks : List ℕ) → AllByRecursion (λ (m : ℕ). nat_cmp n m ≡ Less) ks → AllByRecursion (λ (m : ℕ). n < m) ks
all_less n [] h = tt
all_less n (k ∷ ks) h = (less_is n k h.0, all_less n ks h.1)

all_less_still : (n m : ℕ) (ks : List ℕ) → n < m → AllByRecursion (λ (x : ℕ). m < x) ks → AllByRecursion (λ (x : ℕ). n < x) ks
all_less_still n m [] less h = tt
all_less_still n m (k ∷ ks) less h = (omega (arith, less, h.0), all_less_still n m ks less h.1)

not_below : (m n : ℕ) → m < n → is_eq (nat_cmp m n) ≡ false
not_below m n h = sym (ap is_eq (nat_cmp_is m n Less h))

-- a number below all of them is none of them
below_all : (n : ℕ) (ks : List ℕ) → AllByRecursion (λ (m : ℕ). n < m) ks → is_in ks n ≡ false
below_all n [] h = refl
below_all n (k ∷ ks) h = ap₂ (λ (a b : Bool). a || b) (not_below n k h.0) (below_all n ks h.1)

none_there : (n : ℕ) (es : List Entry) → AllByRecursion (λ (m : ℕ). n < m) (keys_of es) → lookup (is_at (nat_cmp n)) es ≡ None
none_there n [] h = refl
none_there n (e ∷ es) h = ap (λ (b : Bool). cond b (Some e.1) (lookup (is_at (nat_cmp n)) es)) (not_below n e.0 h.0) ∙ none_there n es h.1

-- a number below all that are there picks none of them
picks_none : (n : ℕ) (ns : List ℕ) (es : List Entry) → AllByRecursion (λ (m : ℕ). n < m) (keys_of es) → filter (λ (e : Entry). is_in (n ∷ ns) e.0) es ≡ filter (λ (e : Entry). is_in ns e.0) es
picks_none n ns [] h = refl
picks_none n ns (e ∷ es) h =
    ap (λ (b : Bool). cond (b || is_in ns e.0) (e ∷ filter (λ (x : Entry). is_in (n ∷ ns) x.0) es) (filter (λ (x : Entry). is_in (n ∷ ns) x.0) es)) (not_above n e.0 h.0)
    ∙ ap (λ (xs : List Entry). cond (is_in ns e.0) (e ∷ xs) xs) (picks_none n ns es h.1)

picks_first : (n : ℕ) (ns : List ℕ) (es : List Entry) → IsStrictlySortedBy nat_cmp (keys_of es) → AllByRecursion (λ (m : ℕ). n < m) ns
    → fields_of (filter (λ (e : Entry). is_in (n ∷ ns) e.0) es) ≡ ahead (option_map fields (lookup (is_at (nat_cmp n)) es)) (fields_of (filter (λ (e : Entry). is_in ns e.0) es))
picks_first n ns [] sorted above = refl
picks_first n ns (e ∷ es) sorted above =
    let behind = all_less e.0 (keys_of es) (sorted_head nat_cmp e.0 (keys_of es) sorted) in
    let rest : List Entry = filter (λ (x : Entry). is_in (n ∷ ns) x.0) es in
    let others : List Entry = filter (λ (x : Entry). is_in ns x.0) es in
    elim (cases_Bool (nat_lt n e.0)) [
      | inl less ↦
          let all : AllByRecursion (λ (m : ℕ). n < m) (keys_of (e ∷ es)) = (ltb-true n e.0 less, all_less_still n e.0 (keys_of es) (ltb-true n e.0 less) behind) in
          ap fields_of (picks_none n ns (e ∷ es) all) ∙ sym (ap (λ (o : Option (List ℕ)). ahead (option_map fields o) (fields_of (cond (is_in ns e.0) (e ∷ others) others))) (none_there n (e ∷ es) all))
      | inr not_less ↦
          elim (cases_Bool (nat_lt e.0 n)) [
            | inl more ↦
                let over : e.0 < n = ltb-true e.0 n more in
                let out : is_in ns e.0 ≡ false = below_all e.0 ns (all_less_still e.0 n ns over above) in
                ap₂ (λ (a b : Bool). fields_of (cond (a || b) (e ∷ rest) rest)) (not_below e.0 n over) out
                ∙ picks_first n ns es (sorted_tail nat_cmp e.0 (keys_of es) sorted) above
                ∙ sym (ap₂ (λ (a b : Bool). ahead (option_map fields (cond a (Some e.1) (lookup (is_at (nat_cmp n)) es))) (fields_of (cond b (e ∷ others) others))) (not_above e.0 n over) out)
            | inr not_more ↦
                let same : e.0 ≡ n = omega (arith, ltb-false n e.0 not_less, ltb-false e.0 n not_more) in
                let here : is_eq (nat_cmp e.0 n) ≡ true = sym (ap is_eq (nat_cmp_is e.0 n Equal same)) in
                let back : is_eq (nat_cmp n e.0) ≡ true = sym (ap is_eq (nat_cmp_is n e.0 Equal (sym same))) in
                let out : is_in ns e.0 ≡ false = below_all e.0 ns (subst (λ (m : ℕ). AllByRecursion (λ (x : ℕ). m < x) ns) (sym same) above) in
                ap (λ (b : Bool). fields_of (cond (b || is_in ns e.0) (e ∷ rest) rest)) here
                ∙ ap (λ (xs : List Entry). fields e.1 ∷ fields_of xs) (picks_none n ns es (subst (λ (m : ℕ). AllByRecursion (λ (x : ℕ). m < x) (keys_of es)) same behind))
                ∙ sym (ap₂ (λ (a b : Bool). ahead (option_map fields (cond a (Some e.1) (lookup (is_at (nat_cmp n)) es))) (fields_of (cond b (e ∷ others) others))) back out)
          ]
    ]

picks_nothing : (es : List Entry) → filter (λ (e : Entry). is_in [] e.0) es ≡ []
picks_nothing [] = refl
picks_nothing (e ∷ es) = picks_nothing es

-- the documents with numbers in order stand in the order of the collection
looked_up_is : (ns : List ℕ) (es : List Entry) → IsStrictlySortedBy nat_cmp ns → IsStrictlySortedBy nat_cmp (keys_of es) → looked_up ns es ≡ fields_of (filter (λ (e : Entry). is_in ns e.0) es)
looked_up_is [] es ns_sorted sorted = sym (ap fields_of (picks_nothing es))
looked_up_is (n ∷ ns) es ns_sorted sorted =
    ap (ahead (option_map fields (lookup (is_at (nat_cmp n)) es))) (looked_up_is ns es (sorted_tail nat_cmp n ns ns_sorted) sorted)
    ∙ sym (picks_first n ns es sorted (all_less n ns (sorted_head nat_cmp n ns ns_sorted)))

-- ---- what matches is among them

-- each document that passes is picked
passes_picked : (p : Fields → Bool) (ns : List ℕ) (es : List Entry) → AllByRecursion (λ (e : Entry). p (fields e.1) ≡ true → is_in ns e.0 ≡ true) es → filter p (fields_of (filter (λ (e : Entry). is_in ns e.0) es)) ≡ filter p (fields_of es)
passes_picked p ns [] h = refl
passes_picked p ns (e ∷ es) h =
    let rest : List Entry = filter (λ (x : Entry). is_in ns x.0) es in
    let same = passes_picked p ns es h.1 in
    elim (cases_Bool (is_in ns e.0)) [
      | inl is ↦ ap (λ (b : Bool). filter p (fields_of (cond b (e ∷ rest) rest))) is ∙ ap (λ (ds : List Fields). cond (p (fields e.1)) (fields e.1 ∷ ds) ds) same
      | inr out ↦
          let fails : p (fields e.1) ≡ false = false_from_ne_true (p (fields e.1)) (λ is. let bad : false ≡ true = sym out ∙ h.0 is in cc) in
          ap (λ (b : Bool). filter p (fields_of (cond b (e ∷ rest) rest))) out ∙ same ∙ sym (ap (λ (b : Bool). cond b (fields e.1 ∷ filter p (fields_of es)) (filter p (fields_of es))) fails)
    ]

any_same : (p q : Vec ℕ Global → Bool) (ks : List (Vec ℕ Global)) → ((k : Vec ℕ Global) → p k ≡ q k) → list_any p ks ≡ list_any q ks
any_same p q [] h = refl
any_same p q (k ∷ ks) h = ap₂ (λ (a b : Bool). a || b) (h k) (any_same p q ks h)

pub turned : (k l : List ℕ) → bytes_eq k l ≡ bytes_eq l k
turned k l =
    elim (cases_Bool (bytes_eq l k)) [
      | inl is ↦ (bytes_eq-Decides k l).1 (sym ((bytes_eq-Decides l k).0 is)) ∙ sym is
      | inr not ↦ false_from_ne_true (bytes_eq k l) (λ h. let bad : false ≡ true = sym not ∙ (bytes_eq-Decides l k).1 (sym ((bytes_eq-Decides k l).0 h)) in cc) ∙ sym not
    ]

moved : (a b c : Bool) → (cond a true b || c) ≡ (b || (a || c))
moved true true c = refl
moved true false c = refl
moved false b c = refl

-- the numbers that were found, and the encodings that are left
pub number_none : (ids : BTreeMap (Vec ℕ Global) ℕ) (k : Vec ℕ Global) (m : ℕ) (found : Bool) (ks : List (Vec ℕ Global)) (all : Bool) → number_in ids k.items ≡ None → (found || list_any (λ (l : Vec ℕ Global). is_number (number_in ids l.items) m) (k ∷ ks)) ≡ all
    → (found || list_any (λ (l : Vec ℕ Global). is_number (number_in ids l.items) m) ks) ≡ all
number_none ids k m found ks all none h = sym (ap (λ (o : Option ℕ). found || (is_number o m || list_any (λ (l : Vec ℕ Global). is_number (number_in ids l.items) m) ks)) none) ∙ h

pub number_some : (ids : BTreeMap (Vec ℕ Global) ℕ) (k : Vec ℕ Global) (n m : ℕ) (found more : Bool) (ks : List (Vec ℕ Global)) (all : Bool) → number_in ids k.items ≡ Some n → more ≡ cond (is_eq (nat_cmp n m)) true found
    → (found || list_any (λ (l : Vec ℕ Global). is_number (number_in ids l.items) m) (k ∷ ks)) ≡ all → (more || list_any (λ (l : Vec ℕ Global). is_number (number_in ids l.items) m) ks) ≡ all
number_some ids k n m found more ks all some updates h =
    let left : Bool = list_any (λ (l : Vec ℕ Global). is_number (number_in ids l.items) m) ks in
    ap (λ (b : Bool). b || left) updates ∙ moved (is_eq (nat_cmp n m)) found left ∙ sym (ap (λ (o : Option ℕ). found || (is_number o m || left)) some) ∙ h

-- the encoding of the id is among these
among_is : (o : Option Tree) (ks : List (Vec ℕ Global)) → has_key (map (λ (k : Vec ℕ Global). k.items) ks) o ≡ list_any (λ (k : Vec ℕ Global). has_this k.items o) ks
among_is None [] = refl
among_is None (k ∷ ks) = among_is None ks
among_is (Some t) [] = refl
among_is (Some t) (k ∷ ks) = ap₂ (λ (a b : Bool). a || b) (turned k.items (key t)) (among_is (Some t) ks)

covers : (p : Fields → Bool) (ids : BTreeMap (Vec ℕ Global) ℕ) (ks : List (Vec ℕ Global)) (ns : List ℕ) (es : List Entry) → ((d : Fields) → p d ≡ true → has_key (map (λ (k : Vec ℕ Global). k.items) ks) (get (codes "_id") d) ≡ true)
    → ((m : ℕ) → is_in ns m ≡ list_any (λ (k : Vec ℕ Global). is_number (number_in ids k.items) m) ks) → ((k : Vec ℕ Global) → IsNumbered k.items (number_in ids k.items) es) → AllByRecursion (λ (e : Entry). p (fields e.1) ≡ true → is_in ns e.0 ≡ true) es
covers p ids ks ns [] has these h = tt
covers p ids ks ns (e ∷ es) has these h = (
  λ is. these e.0
      ∙ sym (any_same (λ (k : Vec ℕ Global). is_of_id k.items (fields e.1)) (λ (k : Vec ℕ Global). is_number (number_in ids k.items) e.0) ks (λ k. (h k).0))
      ∙ sym (among_is (get (codes "_id") (fields e.1)) ks) ∙ has (fields e.1) is,
  covers p ids ks ns es has these (λ k. (h k).1),
)

-- the numbers of the ids are those of all that matches
pub covers_ids : (cs : List Keyed) (c : Collection) (ks : List (Vec ℕ Global)) (ns : BTreeSet ℕ) → ((d : Fields) → matches_keys cs d ≡ true → has_key (map (λ (k : Vec ℕ Global). k.items) ks) (get (codes "_id") d) ≡ true)
    → IsOrdered nat_cmp ns × ((m : ℕ) → contains nat_cmp ns m ≡ list_any (λ (k : Vec ℕ Global). is_number (number_in c.ids k.items) m) ks) → KeepsIds c → Covers cs c ns
covers_ids cs c ks ns has these keeps = record { ordered = these.0; each = covers (matches_keys cs) c.ids ks ns.keys c.documents.entries has these.1 keeps.numbered }

-- the documents with numbers that cover what matches match as all do
pub chosen_covered : (cs : List Keyed) (many : Bool) (c : Collection) (ns : BTreeSet ℕ) → KeepsIds c → Covers cs c ns → chosen_by cs many (looked_up ns.keys c.documents.entries) ≡ chosen_by cs many (stored c)
chosen_covered cs many c ns keeps covers =
    ap (λ (l : List Fields). if many then l else take 1 l)
    (ap (filter (matches_keys cs)) (looked_up_is ns.keys c.documents.entries covers.ordered keeps.sorted) ∙ passes_picked (matches_keys cs) ns.keys c.documents.entries covers.each)

-- ---- conditions

-- what meets each condition meets the first
pub first_met : (name : List ℕ) (c : Condition) (cs : List Keyed) (d : Fields) → string_bytes c.name ≡ name → matches_keys (held c ∷ cs) d ≡ true → has_key (map (λ (k : Vec ℕ Global). k.items) c.keys.items) (get name d) ≡ true
first_met name c cs d at met =
    ap (λ (n : List ℕ). has_key (map (λ (k : Vec ℕ Global). k.items) c.keys.items) (get n d)) (sym at) ∙ (and_parts (meets_keys (held c) d) (matches_keys cs d) met).0

-- ---- documents that are tried one after another

-- what was chosen so far, and the documents that are left; where one is asked for none was chosen so far
abbrev pub ChosenBehind : List Keyed → Bool → List Fields → List Fields → List Fields → Type 0
ChosenBehind keys many front left all = (front ++ filter (matches_keys keys) left ≡ filter (matches_keys keys) all) × (many ≡ false → front ≡ [])
