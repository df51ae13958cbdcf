-- The documents of a collection by their numbers, and the numbers by the ids.
use Rattle.std.proofs.Common.{◌≡◌, ℕ, ◌<◌, ◌≤◌, Bool, true, false, cond, List, [], ◌∷◌, ◌++◌, map, Option, Some, None, is_some, refl, sym, ap, ap₂, ◌∙◌, inl, inr, append-nil, append_assoc, arith, Vec, subst}
use Rattle.std.specs.Prelude.{◌||◌, nat_lt}
use Rattle.std.specs.declared.alloc.Global.{Global}
use Rattle.std.specs.declared.cmp.Ordering.TheVariants.{Less, Equal, Greater}
use Rattle.std.specs.BTreeMap.{BTreeMap, UpdatesBy, IsOrdered, insert_entry, is_at, keys}
use Rattle.std.specs.Cmp.{Equal-is, nat_cmp_is, eq_by_cmp_equiv, on_total, IsEquivalence}
use Rattle.std.specs.List.{AllByRecursion, filter}
use Rattle.std.specs.List.Sorted.{IsStrictlySortedBy}
use Rattle.std.specs.Map.{keys_of, lookup, values_of, remove_entry}
use Rattle.std.specs.Ordering.{eq_by_cmp, is_eq, match_ordering, nat_cmp}
use Rattle.std.specs.Str.{bytes_eq}
use Rattle.std.proofs.lemmas.Bool.{cases_Bool, lt-ltb, le-ltb, ltb-true, ltb-false}
use Rattle.std.proofs.lemmas.Cmp.{nat_list_cmp_total}
use Rattle.std.proofs.lemmas.List.{map-append}
use Rattle.std.proofs.lemmas.List.Elements.{filter-append}
use Rattle.std.proofs.lemmas.Slice.Eq.{bytes_eq-Decides}
use Rattle.std.proofs.lemmas.Map.Entries.{lookup-filter-values, option_filter}
use Rattle.std.proofs.lemmas.Map.Keys.{IsDistinct-from_sorted}
use Rattle.std.proofs.lemmas.Map.Lookups.{exact_unsigned}
use Rattle.std.proofs.lemmas.Map.Text.{is_eq-slice_cmp}
use denote.Ref.{Bor}
use Rattle.mg_bson.specs.Tree.{Fields}
use Rattle.mg_bson.specs.Bytes.{bytes}
use Rattle.mg_bson.specs.Raw.{fields}
use Rattle.mg_query.specs.Grouping.{AreGrouped}
use Rattle.mg_query.specs.Querying.{lent}
use Rattle.mg_query.specs.Numbering.{GrowsBySome, IsExact, IsKeyed, IsNumbered, KeepsIds, KeepsAll, Pushes, holds_id, is_number, is_of_id, number_in, stored, stored_bytes, vec_cmp}
use Rattle.mg_query.specs.declared.collection.Collection.{Collection}
use Rattle.mg_query.proofs.Ids.{holds_push, of_key}

abbrev pub Entry : Type 0
Entry = ℕ × List ℕ

abbrev pub fields_of : List Entry → List Fields
fields_of es = map fields (values_of es)

-- each of these documents is held as its encoding
abbrev pub HoldExact : List Entry → Type 0
HoldExact es = AllByRecursion (λ (e : Entry). IsExact e.1) es

exact_bytes : (es : List Entry) → HoldExact es → values_of es ≡ map bytes (fields_of es)
exact_bytes [] h = refl
exact_bytes (e ∷ es) h = ap₂ (λ (b : List ℕ) (bs : List (List ℕ)). b ∷ bs) h.0 (exact_bytes es h.1)

-- documents are what their bytes are read as
pub lent_fields : (ds : List (Bor (List ℕ))) → lent ds ≡ map fields (map (λ d. d.now) ds)
lent_fields [] = refl
lent_fields (d ∷ ds) = ap (λ (l : List Fields). fields d.now ∷ l) (lent_fields ds)

-- what is held are the encodings of the documents
pub bytes_are : (c : Collection) → KeepsIds c → stored_bytes c ≡ map bytes (stored c)
bytes_are c h = exact_bytes c.documents.entries h.exact

-- ---- numbers

at_self : (n : ℕ) → is_eq (nat_cmp n n) ≡ true
at_self n = sym (ap is_eq (nat_cmp_is n n Equal refl))

pub at_is : (m n : ℕ) → is_eq (nat_cmp m n) ≡ true → m ≡ n
at_is m n h = exact_unsigned m n ((Equal-is (nat_cmp m n)).0 h)

above : (m n : ℕ) → m < n → nat_cmp n m ≡ Greater
above m n h = sym (nat_cmp_is n m Greater h)

pub not_above : (m n : ℕ) → m < n → is_eq (nat_cmp n m) ≡ false
not_above m n h = ap is_eq (above m n h)

-- a number that was found below a bound is not the bound
not_bound : (o : Option ℕ) (n : ℕ) → ((m : ℕ) → o ≡ Some m → m < n) → is_number o n ≡ false
not_bound None n h = refl
not_bound (Some m) n h = let less : m < n = h m refl in sym (ap is_eq (nat_cmp_is m n Less less))

-- ---- entries

all_append : {A : Type 0} (P : A → Type 0) (xs ys : List A) → AllByRecursion P xs → AllByRecursion P ys → AllByRecursion P (xs ++ ys)
all_append P [] ys h g = g
all_append P (x ∷ xs) ys h g = (h.0, all_append P xs ys h.1 g)

keys_append : (xs ys : List Entry) → keys_of (xs ++ ys) ≡ keys_of xs ++ keys_of ys
keys_append xs ys = map-append (λ (e : Entry). e.0) xs ys

pub fields_append : (xs ys : List Entry) → fields_of (xs ++ ys) ≡ fields_of xs ++ fields_of ys
fields_append [] ys = refl
fields_append (x ∷ xs) ys = ap (λ (ds : List Fields). fields x.1 ∷ ds) (fields_append xs ys)

pub insert_last : (es : List Entry) (n : ℕ) (v : List ℕ) → AllByRecursion (λ (m : ℕ). m < n) (keys_of es) → insert_entry nat_cmp es n v ≡ es ++ (n, v) ∷ []
insert_last [] n v h = refl
insert_last (e ∷ es) n v h =
    ap (λ o. match_ordering o ((n, v) ∷ e ∷ es) ((e.0, v) ∷ es) (e ∷ insert_entry nat_cmp es n v)) (above e.0 n h.0) ∙ ap (λ (l : List Entry). e ∷ l) (insert_last es n v h.1)

pub remove_last : (es : List Entry) (n : ℕ) (v : List ℕ) → AllByRecursion (λ (m : ℕ). m < n) (keys_of es) → remove_entry (is_at (nat_cmp n)) (es ++ (n, v) ∷ []) ≡ es
remove_last [] n v h = ap (λ (b : Bool). cond b [] ((n, v) ∷ [])) (at_self n)
remove_last (e ∷ es) n v h =
    ap (λ (b : Bool). cond b (es ++ (n, v) ∷ []) (e ∷ remove_entry (is_at (nat_cmp n)) (es ++ (n, v) ∷ []))) (not_above e.0 n h.0) ∙ ap (λ (l : List Entry). e ∷ l) (remove_last es n v h.1)

-- a number that an id has is that of a document, and so below the bound
number_below : (k : List ℕ) (n next : ℕ) (es : List Entry) → IsNumbered k (Some n) es → AllByRecursion (λ (m : ℕ). m < next) (keys_of es) → holds_id k (fields_of es) ≡ true → n < next
number_below k n next [] h below held = absurd cc
number_below k n next (e ∷ es) h below held =
    elim (cases_Bool (is_of_id k (fields e.1))) [
      | inl is ↦ subst (λ (m : ℕ). m < next) (sym (at_is n e.0 (sym h.0 ∙ is))) below.0
      | inr not ↦ number_below k n next es h.1 below.1 (sym (ap (λ (b : Bool). b || holds_id k (fields_of es)) not) ∙ held)
    ]

pub found_below : (c : Collection) (k : Vec ℕ Global) (n : ℕ) → KeepsIds c → number_in c.ids k.items ≡ Some n → n < c.next
found_below c k n h e =
    number_below k.items n c.next c.documents.entries (subst (λ (o : Option ℕ). IsNumbered k.items o c.documents.entries) e (h.numbered k)) h.below (sym (h.held k) ∙ ap is_some e)

-- ---- a document more

numbered_new : (k : List ℕ) (n : ℕ) (es : List Entry) → AllByRecursion (λ (m : ℕ). m < n) (keys_of es) → IsNumbered k None es → IsNumbered k (Some n) es
numbered_new k n [] below h = tt
numbered_new k n (e ∷ es) below h = (h.0 ∙ sym (not_above e.0 n below.0), numbered_new k n es below.1 h.1)

numbered_if : (k l : List ℕ) (n : ℕ) (o : Option ℕ) (es : List Entry) → AllByRecursion (λ (m : ℕ). m < n) (keys_of es) → IsNumbered k None es → IsNumbered l o es → IsNumbered l (cond (bytes_eq k l) (Some n) o) es
numbered_if k l n o es below none h =
    elim (cases_Bool (bytes_eq k l)) [
      | inl is ↦
          subst (λ (b : Bool). IsNumbered l (cond b (Some n) o) es) (sym is)
          (subst (λ (x : List ℕ). IsNumbered x (Some n) es) ((bytes_eq-Decides k l).0 is) (numbered_new k n es below none))
      | inr not ↦ subst (λ (b : Bool). IsNumbered l (cond b (Some n) o) es) (sym not) h
    ]

last_numbered : (b : Bool) (n : ℕ) (o : Option ℕ) → is_number o n ≡ false → b ≡ is_number (cond b (Some n) o) n
last_numbered true n o h = sym (at_self n)
last_numbered false n o h = sym h

held_if : (b c : Bool) (n : ℕ) (o : Option ℕ) → is_some o ≡ c → is_some (cond b (Some n) o) ≡ cond b true c
held_if true c n o h = refl
held_if false c n o h = h

none_of : (o : Option ℕ) → is_some o ≡ false → o ≡ None
none_of None h = refl
none_of (Some n) h = cc

more_below : (n next : ℕ) (ks : List ℕ) → n ≤ next → AllByRecursion (λ (m : ℕ). m < n) ks → AllByRecursion (λ (m : ℕ). m < next) ks
more_below n next [] le h = tt
more_below n next (k ∷ ks) le h = (omega (arith, h.0), more_below n next ks le h.1)

-- a document behind the others, under the number that comes
pub push_keeps : (c w : Collection) (k : Vec ℕ Global) (v : List ℕ) → KeepsIds c → IsKeyed k.items (fields v) → holds_id k.items (stored c) ≡ false → IsExact v → w.documents.entries ≡ c.documents.entries ++ (c.next, v) ∷ []
    → UpdatesBy vec_cmp (vec_cmp k) c.ids w.ids (Some c.next) → c.next < w.next → IsOrdered nat_cmp w.documents → AreGrouped w.groups w.documents.entries → KeepsIds w
push_keeps c w k v h keyed new exact docs updates less sorted grouped =
    let number : (l : Vec ℕ Global) → number_in w.ids l.items ≡ cond (bytes_eq k.items l.items) (Some c.next) (number_in c.ids l.items) = λ l. updates.0 l ∙ ap (λ (b : Bool). cond b (Some c.next) (number_in c.ids l.items)) (is_eq-slice_cmp k.items l.items) in
    let fresh : number_in c.ids k.items ≡ None = none_of (number_in c.ids k.items) (h.held k ∙ new) in
    let none : IsNumbered k.items None c.documents.entries = subst (λ (o : Option ℕ). IsNumbered k.items o c.documents.entries) fresh (h.numbered k) in
    let all : stored w ≡ stored c ++ fields v ∷ [] = ap fields_of docs ∙ fields_append c.documents.entries ((c.next, v) ∷ []) in
    record {
      numbered = λ l. subst (λ (o : Option ℕ). IsNumbered l.items o w.documents.entries) (sym (number l))
          (subst (λ (es : List Entry). IsNumbered l.items (cond (bytes_eq k.items l.items) (Some c.next) (number_in c.ids l.items)) es) (sym docs)
          (all_append (λ (e : Entry). is_of_id l.items (fields e.1) ≡ is_number (cond (bytes_eq k.items l.items) (Some c.next) (number_in c.ids l.items)) e.0) c.documents.entries ((c.next, v) ∷ [])
          (numbered_if k.items l.items c.next (number_in c.ids l.items) c.documents.entries h.below none (h.numbered l))
          (of_key k.items l.items (fields v) keyed ∙ last_numbered (bytes_eq k.items l.items) c.next (number_in c.ids l.items) (not_bound (number_in c.ids l.items) c.next (λ m e. found_below c l m h e)), tt)));
      held = λ l. ap is_some (number l) ∙ held_if (bytes_eq k.items l.items) (holds_id l.items (stored c)) c.next (number_in c.ids l.items) (h.held l) ∙ sym (ap (holds_id l.items) all ∙ holds_push k.items l.items (stored c) (fields v) keyed);
      below = subst (λ (ks : List ℕ). AllByRecursion (λ (m : ℕ). m < w.next) ks) (sym (ap keys_of docs ∙ keys_append c.documents.entries ((c.next, v) ∷ [])))
          (all_append (λ (m : ℕ). m < w.next) (keys_of c.documents.entries) (c.next ∷ []) (more_below c.next w.next (keys_of c.documents.entries) (omega (arith, less)) h.below) (less, tt));
      sorted = sorted;
      grouped = grouped;
      exact = subst HoldExact (sym docs) (all_append (λ (e : Entry). IsExact e.1) c.documents.entries ((c.next, v) ∷ []) h.exact (exact, tt));
    }

-- the same documents under the same ids
pub same_keeps : (c w : Collection) → KeepsIds c → w.documents.entries ≡ c.documents.entries → w.ids.entries ≡ c.ids.entries → w.next ≡ c.next → AreGrouped w.groups w.documents.entries → KeepsIds w
same_keeps c w h docs ids next grouped =
    let number : (l : Vec ℕ Global) → number_in c.ids l.items ≡ number_in w.ids l.items = λ l. ap (lookup (λ (other : Vec ℕ Global). is_eq (vec_cmp l other))) (sym ids) in
    record {
      numbered = λ l. subst (λ (o : Option ℕ). IsNumbered l.items o w.documents.entries) (number l) (subst (IsNumbered l.items (number_in c.ids l.items)) (sym docs) (h.numbered l));
      held = λ l. ap is_some (sym (number l)) ∙ h.held l ∙ ap (λ (es : List Entry). holds_id l.items (fields_of es)) (sym docs);
      below = subst (λ (n : ℕ). AllByRecursion (λ (m : ℕ). m < n) (keys w.documents)) (sym next) (subst (λ (es : List Entry). AllByRecursion (λ (m : ℕ). m < c.next) (keys_of es)) (sym docs) h.below);
      sorted = subst (λ (es : List Entry). IsStrictlySortedBy nat_cmp (keys_of es)) (sym docs) h.sorted;
      grouped = grouped;
      exact = subst HoldExact (sym docs) h.exact;
    }

-- nothing stands there
pub none_keeps : (c : Collection) → c.documents.entries ≡ [] → c.ids.entries ≡ [] → KeepsIds c
unfolding IsStrictlySortedBy
none_keeps c docs ids =
    record {
      numbered = λ k. subst (IsNumbered k.items (number_in c.ids k.items)) (sym docs) tt;
      held = λ k. ap (λ es. is_some (lookup (λ (other : Vec ℕ Global). is_eq (vec_cmp k other)) es)) ids ∙ sym (ap (λ (es : List Entry). holds_id k.items (fields_of es)) docs);
      below = subst (λ (es : List Entry). AllByRecursion (λ (m : ℕ). m < c.next) (keys_of es)) (sym docs) tt;
      sorted = subst (λ (es : List Entry). IsStrictlySortedBy nat_cmp (keys_of es)) (sym docs) tt;
      grouped = subst (AreGrouped c.groups) (sym docs) (λ w. tt);
      exact = subst HoldExact (sym docs) tt;
    }

pub all_same : (c w : Collection) → KeepsIds c → w.documents.entries ≡ c.documents.entries → w.ids.entries ≡ c.ids.entries → w.next ≡ c.next → AreGrouped w.groups w.documents.entries → KeepsAll c w
all_same c w h docs ids next grouped = record { keeps = same_keeps c w h docs ids next grouped; documents_same = docs; next_same = next }

-- a document that was put there and taken out again
pub undone : (c w : Collection) (m : BTreeMap ℕ (List ℕ)) (v : List ℕ) → KeepsIds c → m.entries ≡ insert_entry nat_cmp c.documents.entries c.next v → w.documents.entries ≡ remove_entry (is_at (nat_cmp c.next)) m.entries → w.ids.entries ≡ c.ids.entries → w.next ≡ c.next → AreGrouped w.groups c.documents.entries → KeepsAll c w
undone c w m v h put out ids next grouped =
    let docs = out ∙ ap (remove_entry (is_at (nat_cmp c.next))) (put ∙ insert_last c.documents.entries c.next v h.below) ∙ remove_last c.documents.entries c.next v h.below in
    all_same c w h docs ids next (subst (AreGrouped w.groups) (sym docs) grouped)

-- ---- the last documents are taken out again

kept_number : (o : Option ℕ) (n m : ℕ) → m < n → is_number o m ≡ is_number (option_filter (λ (v : ℕ). nat_lt v n) o) m
kept_number None n m less = refl
kept_number (Some v) n m less =
    elim (cases_Bool (nat_lt v n)) [
      | inl is ↦ sym (ap (λ (b : Bool). is_number (cond b (Some v) None) m) is)
      | inr not ↦ not_above m v (omega (arith, less, ltb-false v n not)) ∙ sym (ap (λ (b : Bool). is_number (cond b (Some v) None) m) not)
    ]

kept_numbered : (l : List ℕ) (o : Option ℕ) (n : ℕ) (es : List Entry) → IsNumbered l o es → IsNumbered l (option_filter (λ (v : ℕ). nat_lt v n) o) (filter (λ (e : Entry). nat_lt e.0 n) es)
kept_numbered l o n [] h = tt
kept_numbered l o n (e ∷ es) h =
    let rest = kept_numbered l o n es h.1 in
    elim (cases_Bool (nat_lt e.0 n)) [
      | inl is ↦ subst (λ (b : Bool). IsNumbered l (option_filter (λ (v : ℕ). nat_lt v n) o) (cond b (e ∷ filter (λ (x : Entry). nat_lt x.0 n) es) (filter (λ (x : Entry). nat_lt x.0 n) es))) (sym is) (h.0 ∙ kept_number o n e.0 (ltb-true e.0 n is), rest)
      | inr not ↦ subst (λ (b : Bool). IsNumbered l (option_filter (λ (v : ℕ). nat_lt v n) o) (cond b (e ∷ filter (λ (x : Entry). nat_lt x.0 n) es) (filter (λ (x : Entry). nat_lt x.0 n) es))) (sym not) rest
    ]

pub none_holds : (l : List ℕ) (es : List Entry) → IsNumbered l None es → holds_id l (fields_of es) ≡ false
none_holds l [] h = refl
none_holds l (e ∷ es) h = ap₂ (λ (a b : Bool). a || b) h.0 (none_holds l es h.1)

kept_tail : (b : Bool) (l : List ℕ) (e : Entry) (es : List Entry) → is_of_id l (fields e.1) ≡ false → holds_id l (fields_of (cond b (e ∷ es) es)) ≡ holds_id l (fields_of es)
kept_tail true l e es h = ap (λ (b : Bool). b || holds_id l (fields_of es)) h
kept_tail false l e es h = refl

kept_holds : (l : List ℕ) (m n : ℕ) (es : List Entry) → m < n → IsNumbered l (Some m) es → holds_id l (fields_of es) ≡ true → holds_id l (fields_of (filter (λ (e : Entry). nat_lt e.0 n) es)) ≡ true
kept_holds l m n [] less h held = cc
kept_holds l m n (e ∷ es) less h held =
    elim (cases_Bool (is_of_id l (fields e.1))) [
      | inl is ↦
          ap (λ (b : Bool). holds_id l (fields_of (cond b (e ∷ filter (λ (x : Entry). nat_lt x.0 n) es) (filter (λ (x : Entry). nat_lt x.0 n) es)))) (lt-ltb e.0 n (omega (arith, less, at_is m e.0 (sym h.0 ∙ is))))
          ∙ ap (λ (b : Bool). b || holds_id l (fields_of (filter (λ (x : Entry). nat_lt x.0 n) es))) is
      | inr not ↦
          kept_tail (nat_lt e.0 n) l e (filter (λ (x : Entry). nat_lt x.0 n) es) not
          ∙ kept_holds l m n es less h.1 (sym (ap (λ (b : Bool). b || holds_id l (fields_of es)) not) ∙ held)
    ]

kept_held : (l : List ℕ) (o : Option ℕ) (n : ℕ) (es : List Entry) → IsNumbered l o es → is_some o ≡ holds_id l (fields_of es) → is_some (option_filter (λ (v : ℕ). nat_lt v n) o) ≡ holds_id l (fields_of (filter (λ (e : Entry). nat_lt e.0 n) es))
kept_held l None n es h held = sym (none_holds l (filter (λ (e : Entry). nat_lt e.0 n) es) (kept_numbered l None n es h))
kept_held l (Some m) n es h held =
    elim (cases_Bool (nat_lt m n)) [
      | inl is ↦ ap (λ (b : Bool). is_some (cond b (Some m) None)) is ∙ sym (kept_holds l m n es (ltb-true m n is) h (sym held))
      | inr not ↦
          let gone : option_filter (λ (v : ℕ). nat_lt v n) (Some m) ≡ None = ap (λ (b : Bool). cond b (Some m) None) not in
          ap is_some gone ∙ sym (none_holds l (filter (λ (e : Entry). nat_lt e.0 n) es) (subst (λ (o : Option ℕ). IsNumbered l o (filter (λ (e : Entry). nat_lt e.0 n) es)) gone (kept_numbered l (Some m) n es h)))
    ]

kept_one : (b : Bool) (next : ℕ) (e : Entry) (es : List Entry) → e.0 < next → AllByRecursion (λ (m : ℕ). m < next) (keys_of es) → AllByRecursion (λ (m : ℕ). m < next) (keys_of (cond b (e ∷ es) es))
kept_one true next e es less h = (less, h)
kept_one false next e es less h = h

kept_below : (n next : ℕ) (es : List Entry) → AllByRecursion (λ (m : ℕ). m < next) (keys_of es) → AllByRecursion (λ (m : ℕ). m < next) (keys_of (filter (λ (e : Entry). nat_lt e.0 n) es))
kept_below n next [] h = tt
kept_below n next (e ∷ es) h =
    kept_one (nat_lt e.0 n) next e (filter (λ (x : Entry). nat_lt x.0 n) es) h.0 (kept_below n next es h.1)

kept_exact : (b : Bool) (e : Entry) (es : List Entry) → IsExact e.1 → HoldExact es → HoldExact (cond b (e ∷ es) es)
kept_exact true e es h g = (h, g)
kept_exact false e es h g = g

exact_below : (n : ℕ) (es : List Entry) → HoldExact es → HoldExact (filter (λ (e : Entry). nat_lt e.0 n) es)
exact_below n [] h = tt
exact_below n (e ∷ es) h = kept_exact (nat_lt e.0 n) e (filter (λ (x : Entry). nat_lt x.0 n) es) h.0 (exact_below n es h.1)

key_laws : IsEquivalence (eq_by_cmp vec_cmp)
key_laws = eq_by_cmp_equiv (on_total (λ (x : Vec ℕ Global). x.items) nat_list_cmp_total)

pub truncate_keeps : (c w : Collection) (n : ℕ) → KeepsIds c → IsOrdered vec_cmp c.ids → w.documents.entries ≡ filter (λ (e : Entry). nat_lt e.0 n) c.documents.entries → w.ids.entries ≡ filter (λ (e : Vec ℕ Global × ℕ). nat_lt e.1 n) c.ids.entries → w.next ≡ c.next → IsOrdered nat_cmp w.documents → AreGrouped w.groups w.documents.entries → KeepsIds w
truncate_keeps c w n h ordered docs ids next sorted grouped =
    let number : (l : Vec ℕ Global) → number_in w.ids l.items ≡ option_filter (λ (v : ℕ). nat_lt v n) (number_in c.ids l.items) =
    λ l. ap (lookup (λ (other : Vec ℕ Global). is_eq (vec_cmp l other))) ids ∙ lookup-filter-values key_laws (λ (v : ℕ). nat_lt v n) l c.ids.entries (IsDistinct-from_sorted vec_cmp (keys c.ids) ordered) in
    record {
      numbered = λ l. subst (λ (o : Option ℕ). IsNumbered l.items o w.documents.entries) (sym (number l))
          (subst (IsNumbered l.items (option_filter (λ (v : ℕ). nat_lt v n) (number_in c.ids l.items))) (sym docs) (kept_numbered l.items (number_in c.ids l.items) n c.documents.entries (h.numbered l)));
      held = λ l. ap is_some (number l) ∙ kept_held l.items (number_in c.ids l.items) n c.documents.entries (h.numbered l) (h.held l) ∙ ap (λ (es : List Entry). holds_id l.items (fields_of es)) (sym docs);
      below = subst (λ (m : ℕ). AllByRecursion (λ (x : ℕ). x < m) (keys w.documents)) (sym next) (subst (λ (es : List Entry). AllByRecursion (λ (x : ℕ). x < c.next) (keys_of es)) (sym docs) (kept_below n c.next c.documents.entries h.below));
      sorted = sorted;
      grouped = grouped;
      exact = subst HoldExact (sym docs) (exact_below n c.documents.entries h.exact);
    }

-- the documents from this number on are the last
kept_all : (n : ℕ) (es : List Entry) → AllByRecursion (λ (m : ℕ). m < n) (keys_of es) → filter (λ (e : Entry). nat_lt e.0 n) es ≡ es
kept_all n [] h = refl
kept_all n (e ∷ es) h =
    ap (λ (b : Bool). cond b (e ∷ filter (λ (x : Entry). nat_lt x.0 n) es) (filter (λ (x : Entry). nat_lt x.0 n) es)) (lt-ltb e.0 n h.0) ∙ ap (λ (l : List Entry). e ∷ l) (kept_all n es h.1)

kept_none : (n : ℕ) (es : List Entry) → AllByRecursion (λ (e : Entry). n ≤ e.0) es → filter (λ (e : Entry). nat_lt e.0 n) es ≡ []
kept_none n [] h = refl
kept_none n (e ∷ es) h = ap (λ (b : Bool). cond b (e ∷ filter (λ (x : Entry). nat_lt x.0 n) es) (filter (λ (x : Entry). nat_lt x.0 n) es)) (le-ltb e.0 n h.0) ∙ kept_none n es h.1

pub truncated : (n : ℕ) (xs ys : List Entry) → AllByRecursion (λ (m : ℕ). m < n) (keys_of xs) → AllByRecursion (λ (e : Entry). n ≤ e.0) ys → filter (λ (e : Entry). nat_lt e.0 n) (xs ++ ys) ≡ xs
truncated n xs ys below from =
    filter-append (λ (e : Entry). nat_lt e.0 n) xs ys ∙ ap₂ (λ (a b : List Entry). a ++ b) (kept_all n xs below) (kept_none n ys from) ∙ append-nil xs

-- ---- documents more, one after another

pub grows_none : (c : Collection) → KeepsIds c → GrowsBySome c c
grows_none c h = record { keeps = h; more = []; documents_are = sym (append-nil c.documents.entries); numbers_are = tt; next_is = omega arith }

pub push_stored : (c w : Collection) (v : List ℕ) → Pushes v c w → stored w ≡ stored c ++ fields v ∷ []
push_stored c w v p = ap fields_of p.documents_are ∙ fields_append c.documents.entries ((c.next, v) ∷ [])

pub grows_more : (b c w : Collection) (v : List ℕ) → GrowsBySome b c → Pushes v c w → GrowsBySome b w
grows_more b c w v g p =
    record {
      keeps = p.keeps;
      more = g.more ++ (c.next, v) ∷ [];
      documents_are = p.documents_are ∙ ap (λ (es : List Entry). es ++ (c.next, v) ∷ []) g.documents_are ∙ append_assoc b.documents.entries g.more ((c.next, v) ∷ []);
      numbers_are = all_append (λ (e : Entry). b.next ≤ e.0) g.more ((c.next, v) ∷ []) g.numbers_are (g.next_is, tt);
      next_is = omega (arith, g.next_is, p.next_is);
    }

pub grows_same : (b c w : Collection) → GrowsBySome b c → KeepsAll c w → GrowsBySome b w
grows_same b c w g k =
    record {
      keeps = k.keeps;
      more = g.more;
      documents_are = k.documents_same ∙ g.documents_are;
      numbers_are = g.numbers_are;
      next_is = omega (arith, g.next_is, k.next_same);
    }

-- what grew is cut down to what it was
pub cut_down : (b c w : Collection) → KeepsIds b → GrowsBySome b c → w.documents.entries ≡ filter (λ (e : Entry). nat_lt e.0 b.next) c.documents.entries → stored w ≡ stored b
cut_down b c w h g cut = ap fields_of (cut ∙ ap (filter (λ (e : Entry). nat_lt e.0 b.next)) g.documents_are ∙ truncated b.next b.documents.entries g.more h.below g.numbers_are)
