-- Writing fields and items one after the other.
use Rattle.std.proofs.Common.{◌≡◌, ℕ, ◌+◌, ◌<◌, ◌≤◌, List, [], ◌∷◌, ◌++◌, length, get_or, take, drop, sym, ap, ◌∙◌, arith, add-one, append_assoc, length-append}
use Rattle.std.specs.Prelude.{decimal}
use Rattle.std.proofs.lemmas.List.{append-nil, drop_all, drop_more, take_at, drop_at}
use Rattle.mg_bson.specs.declared.tree.Bson.{Bson}
use Rattle.mg_bson.specs.declared.tree.Field.{Field}
use Rattle.mg_bson.specs.View.{tree, fields_of, items_of}
use Rattle.mg_bson.proofs.Numbers.{length-le32}
use Rattle.mg_bson.specs.Tree.{Tree, Fields, field, Items, item}
use Rattle.mg_bson.specs.Bytes.{le32, kind_of, element, value_bytes, fields_bytes, items_bytes}

-- what is written, with what is left, is what there was before, with all
abbrev pub Along : List ℕ → List ℕ → Fields → Fields → Type 0
Along old new all rest = new ++ fields_bytes rest ≡ old ++ fields_bytes all

pub along_step : (old new head next : List ℕ) (all rest : Fields) (k : List ℕ) (t : Tree) → Along old new all (field k t rest)
    → head ≡ new ++ element (kind_of t) k [] → next ≡ head ++ value_bytes t → Along old next all rest
along_step old new head next all rest k t a h n = rw (n, h) (simp append_assoc) ∙ a

pub along_end : (old new : List ℕ) (fs : List Field) (i : ℕ) → length fs ≤ i → Along old new (fields_of fs) (fields_of (drop i fs)) → new ≡ old ++ fields_bytes (fields_of fs)
along_end old new fs i h a = sym (append-nil new) ∙ ap (λ (xs : List Field). new ++ fields_bytes (fields_of xs)) (sym (drop_all i fs h)) ∙ a

-- the same of items, from the n-th on
abbrev pub AlongItems : ℕ → List ℕ → List ℕ → Items → Items → Type 0
AlongItems n old new all rest = new ++ items_bytes n rest ≡ old ++ items_bytes 0 all

pub along_items_step : (n : ℕ) (old new head next : List ℕ) (all rest : Items) (t : Tree) → AlongItems n old new all (item t rest)
    → head ≡ new ++ element (kind_of t) (decimal n) [] → next ≡ head ++ value_bytes t → AlongItems (n + 1) old next all rest
along_items_step n old new head next all rest t a h e = rw (add-one, e, h) (simp append_assoc) ∙ a

pub along_items_end : (old new : List ℕ) (ts : List Bson) (i : ℕ) → length ts ≤ i → AlongItems i old new (items_of ts) (items_of (drop i ts)) → new ≡ old ++ items_bytes 0 (items_of ts)
along_items_end old new ts i h a = sym (append-nil new) ∙ ap (λ (xs : List Bson). new ++ items_bytes i (items_of xs)) (sym (drop_all i ts h)) ∙ a

-- ---- in the loops, and around them

pub fields_here : (fs : List Field) (i : ℕ) (f : Field) → i < length fs → f ≡ get_or fs i f → fields_of (drop i fs) ≡ field f.name (tree f.value) (fields_of (drop (i + 1) fs))
fields_here fs i f lt is = ap fields_of (drop_more fs i f lt ∙ ap (λ (x : Field). x ∷ drop (i + 1) fs) (sym is))

pub items_here : (ts : List Bson) (i : ℕ) (t : Bson) → i < length ts → t ≡ get_or ts i t → items_of (drop i ts) ≡ item (tree t) (items_of (drop (i + 1) ts))
items_here ts i t lt is = ap items_of (drop_more ts i t lt ∙ ap (λ (x : Bson). x ∷ drop (i + 1) ts) (sym is))

-- a length that is still to come, and what stands behind it
pub opened : (old body mid : List ℕ) (start : ℕ) → start ≡ length old → mid ≡ (old ++ le32 0) ++ body → (take start mid ≡ old) × (drop (start + 4) mid ≡ body)
opened old body mid start s m =
    (rw (m, append_assoc) (take_at old (le32 0 ++ body) start (sym s)), rw m (drop_at (old ++ le32 0) body (start + 4) (omega (arith, length-append old (le32 0), length-le32 0))))

pub opened_room : (old body mid : List ℕ) (start : ℕ) → start ≡ length old → mid ≡ (old ++ le32 0) ++ body → start + 4 ≤ length mid
opened_room old body mid start s m = omega (arith, s, ap length m, length-append (old ++ le32 0) body, length-append old (le32 0), length-le32 0)
