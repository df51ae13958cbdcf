-- Where a field of a name stands.
use Rattle.std.proofs.Common.{◌≡◌, ℕ, zero, suc, ◌<◌, List, [], ◌∷◌, ◌++◌, length, get_or, set, Bool, true, false, Option, Some, None, MatchOption, option_map, refl, sym, ap, subst, ◌∙◌, arith, inl, inr, ◌⊎◌}
use Rattle.std.specs.Prelude.{remove, slice_get, ◌==◌, ◌↔◌, IsTrue}
use Rattle.std.proofs.lemmas.Bool.{eqb-true}
use Rattle.std.specs.List.{AllWithin, HoldsAt, ItemBy}
use Rattle.std.proofs.lemmas.Option.{slice_get_past, slice_get-get_or}
use Rattle.std.specs.Str.{bytes_eq}
use Rattle.mg_bson.specs.Tree.{Tree, field, no_fields, item, no_items}
use Rattle.mg_bson.specs.View.{tree, fields_of, items_of, place}
use Rattle.mg_bson.specs.Find.{get, put, without, fields_length, with_item, with_field, items_length, item_at}
use Rattle.mg_bson.proofs.Options.{map_some}
use Rattle.mg_bson.specs.declared.tree.Bson.{Bson}
use Rattle.mg_bson.specs.declared.tree.Field.{Field}

pub items_of-push : (ts : List Bson) (t : Bson) → items_of (ts ++ t ∷ []) ≡ with_item (items_of ts) (tree t)
items_of-push [] t = refl
items_of-push (u ∷ ts) t = ap (item (tree u)) (items_of-push ts t)

pub length-fields_of : (fs : List Field) → length fs ≡ fields_length (fields_of fs)
length-fields_of [] = refl
length-fields_of (f ∷ fs) = ap suc (length-fields_of fs)

-- the first field of the name, as `position` says it
pub place_at_first : (k : List ℕ) (fs : List Field) (r : Option ℕ)
    → MatchOption r (AllWithin (λ (f : Field). bytes_eq f.name k ≡ false) fs 0 (length fs)) (λ i. (i < length fs) × HoldsAt (λ (f : Field). bytes_eq f.name k ≡ true) fs i × AllWithin (λ (f : Field). bytes_eq f.name k ≡ false) fs 0 i)
    → place k fs ≡ r
place_at_first k [] None h = refl
place_at_first k [] (Some i) h = absurd (omega (arith, h.0))
place_at_first k (f ∷ fs) None h = rw (h 0 f (omega arith) (omega arith)) (ap (option_map suc) (place_at_first k fs None (λ j d from to. h (suc j) d (omega arith) (omega arith))))
place_at_first k (f ∷ fs) (Some zero) h = rw (h.1 f) refl
place_at_first k (f ∷ fs) (Some (suc i)) h =
    rw (h.2 0 f (omega arith) (omega arith)) (ap (option_map suc) (place_at_first k fs (Some i) (omega (arith, h.0), h.1, λ j d from to. h.2 (suc j) d (omega arith) (omega arith))))

both : (b : Bool) → (b ≡ true) ⊎ (b ≡ false)
both true = inl refl
both false = inr refl

-- the field of the name, and what the document is with another in its place or without it
pub record Stands (k : List ℕ) (fs : List Field) (i : ℕ) : Type 0 where
  pub within : i < length fs
  pub found : (d : Field) → get k (fields_of fs) ≡ Some (tree (get_or fs i d).value)
  pub replaced : (d g : Field) → g.name ≡ (get_or fs i d).name → put k (tree g.value) (fields_of fs) ≡ fields_of (set fs i g)
  pub removed : without k (fields_of fs) ≡ fields_of (remove fs i)

stands_here : (k : List ℕ) (f : Field) (fs : List Field) → bytes_eq f.name k ≡ true → Stands k (f ∷ fs) 0
stands_here k f fs yes' = record {
  within = omega arith;
  found = λ d. rw yes' refl;
  replaced = λ d g same. rw (yes', same) refl;
  removed = rw yes' refl;
}

stands_later : (k : List ℕ) (f : Field) (fs : List Field) (i : ℕ) → bytes_eq f.name k ≡ false → Stands k fs i → Stands k (f ∷ fs) (suc i)
stands_later k f fs i no' s = record {
  within = omega (arith, s.within);
  found = λ d. rw no' (s.found d);
  replaced = λ d g same. rw no' (ap (field f.name (tree f.value)) (s.replaced d g same));
  removed = rw no' (ap (field f.name (tree f.value)) s.removed);
}

pub place_some : (k : List ℕ) (fs : List Field) (i : ℕ) → place k fs ≡ Some i → Stands k fs i
place_some k [] i e = absurd cc
place_some k (f ∷ fs) i e = elim (both (bytes_eq f.name k)) [
  | inl yes' ↦
      let here : Some 0 ≡ Some i = sym (rw yes' refl) ∙ e in
      let at0 : 0 ≡ i = cc in
      subst (Stands k (f ∷ fs)) at0 (stands_here k f fs yes')
  | inr no' ↦
      let later : option_map (λ j. suc j) (place k fs) ≡ Some i = sym (rw no' refl) ∙ e in
      let m = map_some (place k fs) (λ j. suc j) i later in
      subst (Stands k (f ∷ fs)) m.2 (stands_later k f fs m.0 no' (place_some k fs m.0 m.1))
]

pub record StandsNowhere (k : List ℕ) (fs : List Field) : Type 0 where
  pub missing : get k (fields_of fs) ≡ None
  pub added : (t : Tree) → put k t (fields_of fs) ≡ with_field (fields_of fs) k t
  pub kept : without k (fields_of fs) ≡ fields_of fs

nowhere_yet : (k : List ℕ) (f : Field) (fs : List Field) → bytes_eq f.name k ≡ false → StandsNowhere k fs → StandsNowhere k (f ∷ fs)
nowhere_yet k f fs no' s = record {
  missing = rw no' s.missing;
  added = λ t. rw no' (ap (field f.name (tree f.value)) (s.added t));
  kept = rw no' (ap (field f.name (tree f.value)) s.kept);
}

map_nothing : (o : Option ℕ) → option_map (λ j. suc j) o ≡ None → o ≡ None
map_nothing (Some j) e = absurd cc
map_nothing None e = refl

pub place_none : (k : List ℕ) (fs : List Field) → place k fs ≡ None → StandsNowhere k fs
place_none k [] e = record { missing = refl; added = λ t. refl; kept = refl }
place_none k (f ∷ fs) e = elim (both (bytes_eq f.name k)) [
  | inl yes' ↦
      let here : Some 0 ≡ None = sym (rw yes' refl) ∙ e in
      absurd cc
  | inr no' ↦
      let later : option_map (λ j. suc j) (place k fs) ≡ None = sym (rw no' refl) ∙ e in
      nowhere_yet k f fs no' (place_none k fs (map_nothing (place k fs) later))
]

pub fields_of-push : (fs : List Field) (f : Field) → fields_of (fs ++ f ∷ []) ≡ with_field (fields_of fs) f.name (tree f.value)
fields_of-push [] f = refl
fields_of-push (g ∷ fs) f = ap (field g.name (tree g.value)) (fields_of-push fs f)

pub length-items_of : (ts : List Bson) → length ts ≡ items_length (items_of ts)
length-items_of [] = refl
length-items_of (t ∷ ts) = ap suc (length-items_of ts)

pub item_at-items_of : (ts : List Bson) (i : ℕ) → option_map tree (slice_get ts i) ≡ item_at i (items_of ts)
item_at-items_of [] i = refl
item_at-items_of (t ∷ ts) zero = refl
item_at-items_of (t ∷ ts) (suc i) = item_at-items_of ts i

-- only the empty list is the empty document, or the empty array
pub empty_fields : (fs : List Field) → IsTrue (length fs == 0) ↔ (fields_of fs ≡ no_fields)
empty_fields [] = (λ _. refl, λ _. refl)
empty_fields (f ∷ fs) = (λ e. absurd (omega (arith, eqb-true (length (f ∷ fs)) 0 e)), λ e. absurd cc)

pub empty_items : (ts : List Bson) → IsTrue (length ts == 0) ↔ (items_of ts ≡ no_items)
empty_items [] = (λ _. refl, λ _. refl)
empty_items (t ∷ ts) = (λ e. absurd (omega (arith, eqb-true (length (t ∷ ts)) 0 e)), λ e. absurd cc)

-- what is lent of a slice at an index
pub item_got : {R : Type 0} (now : R → Bson) (ts : List Bson) (i : ℕ) (r : Option R) → ItemBy now ts i i r → option_map (λ v. tree (now v)) r ≡ item_at i (items_of ts)
item_got now ts i (Some x) h = ap (λ t. Some (tree t)) h.1 ∙ ap (option_map tree) (sym (slice_get-get_or ts i (now x) h.3.0)) ∙ item_at-items_of ts i
item_got now ts i None h = ap (option_map tree) (sym (slice_get_past ts i h.3)) ∙ item_at-items_of ts i

-- functions that are the same at each value are the same, beside a name
pub everywhere : {N A B : Type 0} {n : N} {f g : A → B} → ((x : A) → f x ≡ g x) → ◌≡◌ {A = N × (A → B)} (n, f) (n, g)
everywhere {n = n} same = λ i. (n, λ x. same x i)
