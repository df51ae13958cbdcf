-- A document of a collection is changed or removed by its number.
use Rattle.std.proofs.Common.{◌≡◌, ℕ, ◌<◌, Bool, true, false, cond, List, [], ◌∷◌, Option, Some, None, is_some, refl, sym, ap, ap₂, ◌∙◌, inl, inr, Vec, subst}
use Rattle.std.specs.Prelude.{if◌then◌else◌, not, ◌||◌}
use Rattle.std.specs.declared.alloc.Global.{Global}
use Rattle.std.specs.declared.cmp.Ordering.TheVariants.{Less}
use Rattle.std.specs.BTreeMap.{BTreeMap, UpdatesBy, IsOrdered, is_at, keys}
use Rattle.std.specs.List.{AllByRecursion}
use Rattle.std.specs.List.Sorted.{IsStrictlySortedBy}
use Rattle.std.specs.Map.{keys_of, lookup, remove_entry, set_value}
use Rattle.std.specs.Ordering.{is_eq, nat_cmp}
use Rattle.std.specs.Str.{bytes_eq}
use Rattle.std.proofs.lemmas.Bool.{cases_Bool}
use Rattle.std.proofs.lemmas.Map.{none_passes_from_lookup, keys-set_value, NonePasses}
use Rattle.std.proofs.lemmas.Map.Keys.{sorted_head, sorted_tail}
use Rattle.std.proofs.lemmas.Map.Text.{is_eq-slice_cmp}
use Rattle.std.proofs.lemmas.Slice.Eq.{bytes_eq-Decides}
use Rattle.mg_bson.specs.Tree.{Fields}
use Rattle.mg_bson.specs.Raw.{fields}
use Rattle.mg_query.specs.Collecting.{AreDistinct, exchange_document, without_document}
use Rattle.mg_query.specs.Grouping.{AreGrouped}
use Rattle.mg_query.specs.Numbering.{IsExact, IsKeyed, IsNumbered, KeepsIds, holds_id, is_number, is_of_id, number_in, stored, vec_cmp}
use Rattle.mg_query.specs.declared.collection.Collection.{Collection}
use Rattle.mg_query.proofs.Ids.{of_id_then, of_key}
use Rattle.mg_query.proofs.Numbers.{Entry, HoldExact, at_is, fields_of, none_holds}

-- ---- documents of another id

neither : (a b : Bool) → (a || b) ≡ false → (a ≡ false) × (b ≡ false)
neither true b h = cc
neither false b h = (refl, h)

pub none_changes : (k : List ℕ) (d : Fields) (ds : List Fields) → holds_id k ds ≡ false → exchange_document k d ds ≡ ds
none_changes k d [] h = refl
none_changes k d (x ∷ ds) h =
    let parts = neither (is_of_id k x) (holds_id k ds) h in
    ap (λ (b : Bool). (if b then d else x) ∷ exchange_document k d ds) parts.0 ∙ ap (λ (l : List Fields). x ∷ l) (none_changes k d ds parts.1)

pub none_goes : (k : List ℕ) (ds : List Fields) → holds_id k ds ≡ false → without_document k ds ≡ ds
none_goes k [] h = refl
none_goes k (x ∷ ds) h =
    let parts = neither (is_of_id k x) (holds_id k ds) h in
    ap (λ (b : Bool). cond (not b) (x ∷ without_document k ds) (without_document k ds)) parts.0 ∙ ap (λ (l : List Fields). x ∷ l) (none_goes k ds parts.1)

holds_with : (k l : List ℕ) (d : Fields) (ds : List Fields) → IsKeyed k d → holds_id l (exchange_document k d ds) ≡ holds_id l ds
holds_with k l d [] keyed = refl
holds_with k l d (x ∷ ds) keyed =
    ap₂ (λ (a b : Bool). a || b)
    (elim (cases_Bool (is_of_id k x)) [
      | inl is ↦ ap (λ (b : Bool). is_of_id l (if b then d else x)) is ∙ of_key k l d keyed ∙ sym (of_id_then k l x is)
      | inr other ↦ ap (λ (b : Bool). is_of_id l (if b then d else x)) other
    ])
    (holds_with k l d ds keyed)

never : (b : Bool) → false ≡ cond b false false
never true = refl
never false = refl

gone_here : (b is rest : Bool) → is ≡ b → cond b false rest ≡ cond b false (is || rest)
gone_here true is rest e = refl
gone_here false is rest e = ap (λ (x : Bool). x || rest) (sym e)

stays_here : (b is rest : Bool) → (b ≡ true → is ≡ false) → (is || cond b false rest) ≡ cond b false (is || rest)
stays_here true is rest h = ap (λ (x : Bool). x || false) (h refl)
stays_here false is rest h = refl

holds_without : (k l : List ℕ) (ds : List Fields) → holds_id l (without_document k ds) ≡ cond (bytes_eq k l) false (holds_id l ds)
holds_without k l [] = never (bytes_eq k l)
holds_without k l (x ∷ ds) =
    elim (cases_Bool (is_of_id k x)) [
      | inl is ↦
          ap (λ (b : Bool). holds_id l (cond (not b) (x ∷ without_document k ds) (without_document k ds))) is ∙ holds_without k l ds
          ∙ gone_here (bytes_eq k l) (is_of_id l x) (holds_id l ds) (of_id_then k l x is)
      | inr other ↦
          ap (λ (b : Bool). holds_id l (cond (not b) (x ∷ without_document k ds) (without_document k ds))) other ∙ ap (λ (b : Bool). is_of_id l x || b) (holds_without k l ds)
          ∙ stays_here (bytes_eq k l) (is_of_id l x) (holds_id l ds) (λ same. sym (ap (λ (m : List ℕ). is_of_id m x) ((bytes_eq-Decides k l).0 same)) ∙ other)
    ]

-- ---- by numbers

-- a document behind the one with this number has another
none_behind : (k : List ℕ) (n : ℕ) (es : List Entry) → AllByRecursion (λ (m : ℕ). nat_cmp n m ≡ Less) (keys_of es) → IsNumbered k (Some n) es → IsNumbered k None es
none_behind k n [] less h = tt
none_behind k n (e ∷ es) less h = (h.0 ∙ ap is_eq less.0, none_behind k n es less.1 h.1)

behind_head : (k : List ℕ) (n : ℕ) (e : Entry) (es : List Entry) → IsStrictlySortedBy nat_cmp (keys_of (e ∷ es)) → is_eq (nat_cmp n e.0) ≡ true → IsNumbered k (Some n) es → IsNumbered k None es
behind_head k n e es sorted at h =
    none_behind k n es (subst (λ (m : ℕ). AllByRecursion (λ (x : ℕ). nat_cmp m x ≡ Less) (keys_of es)) (sym (at_is n e.0 at)) (sorted_head nat_cmp e.0 (keys_of es) sorted)) h

-- where no document has the number none has the id
pub none_numbered : (k : List ℕ) (n : ℕ) (es : List Entry) → NonePasses (is_at (nat_cmp n)) es → IsNumbered k (Some n) es → IsNumbered k None es
none_numbered k n [] none h = tt
none_numbered k n (e ∷ es) none h = (h.0 ∙ none.0, none_numbered k n es none.1 h.1)

pub not_there : (k : List ℕ) (n : ℕ) (es : List Entry) → lookup (is_at (nat_cmp n)) es ≡ None → IsNumbered k (Some n) es → holds_id k (fields_of es) ≡ false
not_there k n es none h = none_holds k es (none_numbered k n es (none_passes_from_lookup (is_at (nat_cmp n)) es none) h)

-- ---- a document is changed

pub changed_fields : (k : List ℕ) (n : ℕ) (w : List ℕ) (es : List Entry) → IsStrictlySortedBy nat_cmp (keys_of es) → IsNumbered k (Some n) es → fields_of (set_value (is_at (nat_cmp n)) es w) ≡ exchange_document k (fields w) (fields_of es)
changed_fields k n w [] sorted h = refl
changed_fields k n w (e ∷ es) sorted h =
    elim (cases_Bool (is_eq (nat_cmp n e.0))) [
      | inl at ↦
          ap (λ (b : Bool). fields_of (cond b ((e.0, w) ∷ es) (e ∷ set_value (is_at (nat_cmp n)) es w))) at
          ∙ sym (ap (λ (b : Bool). (if b then fields w else fields e.1) ∷ exchange_document k (fields w) (fields_of es)) (h.0 ∙ at)
          ∙ ap (λ (l : List Fields). fields w ∷ l) (none_changes k (fields w) (fields_of es) (none_holds k es (behind_head k n e es sorted at h.1))))
      | inr other ↦
          ap (λ (b : Bool). fields_of (cond b ((e.0, w) ∷ es) (e ∷ set_value (is_at (nat_cmp n)) es w))) other
          ∙ ap (λ (l : List Fields). fields e.1 ∷ l) (changed_fields k n w es (sorted_tail nat_cmp e.0 (keys_of es) sorted) h.1)
          ∙ sym (ap (λ (b : Bool). (if b then fields w else fields e.1) ∷ exchange_document k (fields w) (fields_of es)) (h.0 ∙ other))
    ]

changed_numbered : (k l : List ℕ) (n : ℕ) (o : Option ℕ) (w : List ℕ) (es : List Entry) → IsKeyed k (fields w) → IsNumbered k (Some n) es → IsNumbered l o es → IsNumbered l o (set_value (is_at (nat_cmp n)) es w)
changed_numbered k l n o w [] keyed h g = tt
changed_numbered k l n o w (e ∷ es) keyed h g =
    elim (cases_Bool (is_eq (nat_cmp n e.0))) [
      | inl at ↦ subst (λ (b : Bool). IsNumbered l o (cond b ((e.0, w) ∷ es) (e ∷ set_value (is_at (nat_cmp n)) es w))) (sym at) (of_key k l (fields w) keyed ∙ sym (of_id_then k l (fields e.1) (h.0 ∙ at)) ∙ g.0, g.1)
      | inr other ↦ subst (λ (b : Bool). IsNumbered l o (cond b ((e.0, w) ∷ es) (e ∷ set_value (is_at (nat_cmp n)) es w))) (sym other) (g.0, changed_numbered k l n o w es keyed h.1 g.1)
    ]

exact_at : (b : Bool) (w : List ℕ) (e : Entry) (es rest : List Entry) → IsExact w → HoldExact (e ∷ es) → HoldExact rest → HoldExact (cond b ((e.0, w) ∷ es) (e ∷ rest))
exact_at true w e es rest exact h g = (exact, h.1)
exact_at false w e es rest exact h g = (h.0, g)

changed_exact : (n : ℕ) (w : List ℕ) (es : List Entry) → IsExact w → HoldExact es → HoldExact (set_value (is_at (nat_cmp n)) es w)
changed_exact n w [] exact h = tt
changed_exact n w (e ∷ es) exact h = exact_at (is_eq (nat_cmp n e.0)) w e es (set_value (is_at (nat_cmp n)) es w) exact h (changed_exact n w es exact h.1)

pub numbered_at : (c : Collection) (k : Vec ℕ Global) (n : ℕ) → KeepsIds c → number_in c.ids k.items ≡ Some n → IsNumbered k.items (Some n) c.documents.entries
numbered_at c k n h e = subst (λ (o : Option ℕ). IsNumbered k.items o c.documents.entries) e (h.numbered k)

pub change_stored : (c w : Collection) (k : Vec ℕ Global) (n : ℕ) (v : List ℕ) → KeepsIds c → number_in c.ids k.items ≡ Some n → w.documents.entries ≡ set_value (is_at (nat_cmp n)) c.documents.entries v → stored w ≡ exchange_document k.items (fields v) (stored c)
change_stored c w k n v h at docs = ap fields_of docs ∙ changed_fields k.items n v c.documents.entries h.sorted (numbered_at c k n h at)

pub change_keeps : (c w : Collection) (k : Vec ℕ Global) (n : ℕ) (v : List ℕ) → KeepsIds c → number_in c.ids k.items ≡ Some n → w.documents.entries ≡ set_value (is_at (nat_cmp n)) c.documents.entries v
    → w.ids ≡ c.ids → w.next ≡ c.next → IsKeyed k.items (fields v) → IsExact v → IsOrdered nat_cmp w.documents → AreGrouped w.groups w.documents.entries → KeepsIds w
change_keeps c w k n v h at docs ids next keyed exact sorted grouped =
    record {
      numbered = λ l. subst (λ m. IsNumbered l.items (number_in m l.items) w.documents.entries) (sym ids)
          (subst (IsNumbered l.items (number_in c.ids l.items)) (sym docs) (changed_numbered k.items l.items n (number_in c.ids l.items) v c.documents.entries keyed (numbered_at c k n h at) (h.numbered l)));
      held = λ l. ap (λ m. is_some (number_in m l.items)) ids ∙ h.held l ∙ sym (ap (holds_id l.items) (change_stored c w k n v h at docs) ∙ holds_with k.items l.items (fields v) (stored c) keyed);
      below = subst (λ (m : ℕ). AllByRecursion (λ (x : ℕ). x < m) (keys w.documents)) (sym next)
          (subst (AllByRecursion (λ (x : ℕ). x < c.next)) (sym (ap keys_of docs ∙ keys-set_value (is_at (nat_cmp n)) c.documents.entries v)) h.below);
      sorted = sorted;
      grouped = grouped;
      exact = subst HoldExact (sym docs) (changed_exact n v c.documents.entries exact h.exact);
    }

-- ---- a document is removed

pub removed_fields : (k : List ℕ) (n : ℕ) (es : List Entry) → IsStrictlySortedBy nat_cmp (keys_of es) → IsNumbered k (Some n) es → fields_of (remove_entry (is_at (nat_cmp n)) es) ≡ without_document k (fields_of es)
removed_fields k n [] sorted h = refl
removed_fields k n (e ∷ es) sorted h =
    elim (cases_Bool (is_eq (nat_cmp n e.0))) [
      | inl at ↦
          ap (λ (b : Bool). fields_of (cond b es (e ∷ remove_entry (is_at (nat_cmp n)) es))) at
          ∙ sym (ap (λ (b : Bool). cond (not b) (fields e.1 ∷ without_document k (fields_of es)) (without_document k (fields_of es))) (h.0 ∙ at) ∙ none_goes k (fields_of es) (none_holds k es (behind_head k n e es sorted at h.1)))
      | inr other ↦
          ap (λ (b : Bool). fields_of (cond b es (e ∷ remove_entry (is_at (nat_cmp n)) es))) other
          ∙ ap (λ (l : List Fields). fields e.1 ∷ l) (removed_fields k n es (sorted_tail nat_cmp e.0 (keys_of es) sorted) h.1)
          ∙ sym (ap (λ (b : Bool). cond (not b) (fields e.1 ∷ without_document k (fields_of es)) (without_document k (fields_of es))) (h.0 ∙ other))
    ]

all_cond : (P : Entry → Type 0) (b : Bool) (e : Entry) (es rest : List Entry) → AllByRecursion P (e ∷ es) → AllByRecursion P rest → AllByRecursion P (cond b es (e ∷ rest))
all_cond P true e es rest h g = h.1
all_cond P false e es rest h g = (h.0, g)

all_removed : (P : Entry → Type 0) (test : ℕ → Bool) (es : List Entry) → AllByRecursion P es → AllByRecursion P (remove_entry test es)
all_removed P test [] h = tt
all_removed P test (e ∷ es) h = all_cond P (test e.0) e es (remove_entry test es) h (all_removed P test es h.1)

keys_cond : (b : Bool) (next : ℕ) (e : Entry) (es rest : List Entry) → AllByRecursion (λ (m : ℕ). m < next) (keys_of (e ∷ es)) → AllByRecursion (λ (m : ℕ). m < next) (keys_of rest) → AllByRecursion (λ (m : ℕ). m < next) (keys_of (cond b es (e ∷ rest)))
keys_cond true next e es rest h g = h.1
keys_cond false next e es rest h g = (h.0, g)

keys_removed : (next n : ℕ) (es : List Entry) → AllByRecursion (λ (m : ℕ). m < next) (keys_of es) → AllByRecursion (λ (m : ℕ). m < next) (keys_of (remove_entry (is_at (nat_cmp n)) es))
keys_removed next n [] h = tt
keys_removed next n (e ∷ es) h = keys_cond (is_eq (nat_cmp n e.0)) next e es (remove_entry (is_at (nat_cmp n)) es) h (keys_removed next n es h.1)

removed_none : (k : List ℕ) (n : ℕ) (es : List Entry) → IsStrictlySortedBy nat_cmp (keys_of es) → IsNumbered k (Some n) es → IsNumbered k None (remove_entry (is_at (nat_cmp n)) es)
removed_none k n [] sorted h = tt
removed_none k n (e ∷ es) sorted h =
    elim (cases_Bool (is_eq (nat_cmp n e.0))) [
      | inl at ↦ subst (λ (b : Bool). IsNumbered k None (cond b es (e ∷ remove_entry (is_at (nat_cmp n)) es))) (sym at) (behind_head k n e es sorted at h.1)
      | inr other ↦ subst (λ (b : Bool). IsNumbered k None (cond b es (e ∷ remove_entry (is_at (nat_cmp n)) es))) (sym other) (h.0 ∙ other, removed_none k n es (sorted_tail nat_cmp e.0 (keys_of es) sorted) h.1)
    ]

removed_numbered : (k l : List ℕ) (n : ℕ) (o : Option ℕ) (es : List Entry) → IsStrictlySortedBy nat_cmp (keys_of es) → IsNumbered k (Some n) es → IsNumbered l o es → IsNumbered l (cond (bytes_eq k l) None o) (remove_entry (is_at (nat_cmp n)) es)
removed_numbered k l n o es sorted h g =
    elim (cases_Bool (bytes_eq k l)) [
      | inl is ↦
          subst (λ (b : Bool). IsNumbered l (cond b None o) (remove_entry (is_at (nat_cmp n)) es)) (sym is)
          (subst (λ (m : List ℕ). IsNumbered m None (remove_entry (is_at (nat_cmp n)) es)) ((bytes_eq-Decides k l).0 is) (removed_none k n es sorted h))
      | inr other ↦
          subst (λ (b : Bool). IsNumbered l (cond b None o) (remove_entry (is_at (nat_cmp n)) es)) (sym other)
          (all_removed (λ (e : Entry). is_of_id l (fields e.1) ≡ is_number o e.0) (is_at (nat_cmp n)) es g)
    ]

held_unless : (b c : Bool) (o : Option ℕ) → is_some o ≡ c → is_some (cond b None o) ≡ cond b false c
held_unless true c o h = refl
held_unless false c o h = h

pub remove_stored : (c w : Collection) (k : Vec ℕ Global) (n : ℕ) → KeepsIds c → number_in c.ids k.items ≡ Some n → w.documents.entries ≡ remove_entry (is_at (nat_cmp n)) c.documents.entries → stored w ≡ without_document k.items (stored c)
remove_stored c w k n h at docs = ap fields_of docs ∙ removed_fields k.items n c.documents.entries h.sorted (numbered_at c k n h at)

pub remove_keeps : (c w : Collection) (k : Vec ℕ Global) (n : ℕ) → KeepsIds c → number_in c.ids k.items ≡ Some n → w.documents.entries ≡ remove_entry (is_at (nat_cmp n)) c.documents.entries
    → UpdatesBy vec_cmp (vec_cmp k) c.ids w.ids None → w.next ≡ c.next → IsOrdered nat_cmp w.documents → AreGrouped w.groups w.documents.entries → KeepsIds w
remove_keeps c w k n h at docs updates next sorted grouped =
    let number : (l : Vec ℕ Global) → number_in w.ids l.items ≡ cond (bytes_eq k.items l.items) None (number_in c.ids l.items) = λ l. updates.0 l ∙ ap (λ (b : Bool). cond b None (number_in c.ids l.items)) (is_eq-slice_cmp k.items l.items) in
    record {
      numbered = λ l. subst (λ (o : Option ℕ). IsNumbered l.items o w.documents.entries) (sym (number l))
          (subst (IsNumbered l.items (cond (bytes_eq k.items l.items) None (number_in c.ids l.items))) (sym docs)
          (removed_numbered k.items l.items n (number_in c.ids l.items) c.documents.entries h.sorted (numbered_at c k n h at) (h.numbered l)));
      held = λ l. ap is_some (number l) ∙ held_unless (bytes_eq k.items l.items) (holds_id l.items (stored c)) (number_in c.ids l.items) (h.held l)
          ∙ sym (ap (holds_id l.items) (remove_stored c w k n h at docs) ∙ holds_without k.items l.items (stored c));
      below = subst (λ (m : ℕ). AllByRecursion (λ (x : ℕ). x < m) (keys w.documents)) (sym next)
          (subst (λ (es : List Entry). AllByRecursion (λ (x : ℕ). x < c.next) (keys_of es)) (sym docs) (keys_removed c.next n c.documents.entries h.below));
      sorted = sorted;
      grouped = grouped;
      exact = subst HoldExact (sym docs) (all_removed (λ (e : Entry). IsExact e.1) (is_at (nat_cmp n)) c.documents.entries h.exact);
    }

-- ---- no two documents have the same id

one_id : (k : List ℕ) (o : Option ℕ) (e : Entry) (es : List Entry) → IsStrictlySortedBy nat_cmp (keys_of (e ∷ es)) → is_of_id k (fields e.1) ≡ true → IsNumbered k o (e ∷ es) → IsNumbered k None es
one_id k None e es sorted is h = let bad : true ≡ false = sym is ∙ h.0 in absurd cc
one_id k (Some n) e es sorted is h = behind_head k n e es sorted (sym h.0 ∙ is) h.1

distinct_from : (ids : BTreeMap (Vec ℕ Global) ℕ) (es : List Entry) → IsStrictlySortedBy nat_cmp (keys_of es) → ((k : Vec ℕ Global) → IsNumbered k.items (number_in ids k.items) es) → AreDistinct (fields_of es)
distinct_from ids [] sorted h = tt
distinct_from ids (e ∷ es) sorted h =
    (λ k is. none_holds k.items es (one_id k.items (number_in ids k.items) e es sorted is (h k)), distinct_from ids es (sorted_tail nat_cmp e.0 (keys_of es) sorted) (λ k. (h k).1))

pub distinct_ids : (c : Collection) → KeepsIds c → AreDistinct (stored c)
distinct_ids c h = distinct_from c.ids c.documents.entries h.sorted h.numbered
