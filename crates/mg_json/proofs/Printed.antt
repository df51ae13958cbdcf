-- Parts of a value, made one after another.
use Rattle.std.proofs.Common.{◌≡◌, ℕ, zero, suc, ◌+◌, ◌<◌, ◌≤◌, List, [], ◌∷◌, ◌++◌, Bool, true, false, cond, ◌==◌, ◌||◌, length, get_or, drop, Ordering, Less, Equal, Greater, nat_cmp, ℤ, pos, negsuc, refl, sym, ap, ◌∙◌, arith}
use Rattle.std.proofs.lemmas.Bool.{or_parts}
use Rattle.std.proofs.lemmas.List.{drop_more, drop_all}
use Rattle.std.specs.Ordering.{match_ordering}
use Rattle.std.specs.Cmp.Lexicographic.{slice_cmp}
use Rattle.serde_json.specs.Data.{Data, Items, no_items, item, Members, no_members, member, put}
use Rattle.serde_json.specs.View.{view, items_view}
use Rattle.serde_json.specs.Find.{of_integer, is_float}
use Rattle.serde_json.specs.Written.{has_float, items_have_float, members_have_float}
use Rattle.serde_json.specs.declared.value.Value.{Value}
use Rattle.mg_bson.specs.Tree as bson
use Rattle.mg_bson.specs.Tree.{tree_size, items_size}
use Rattle.mg_bson.specs.View.{tree, items_of}
use Rattle.mg_bson.specs.declared.tree.Bson.{Bson}
use Rattle.mg_json.specs.Json.{json_of, items_json, fields_json, binary_json, scoped_json}

-- ---- the parts are smaller

pub item_small : (ts : List Bson) (i : ℕ) (t : Bson) → i < length ts → t ≡ get_or ts i t → tree_size (tree t) < items_size (items_of ts)
item_small [] i t lt is = absurd (omega arith)
item_small (u ∷ ts) zero t lt is = omega (arith, ap (λ x. tree_size (tree x)) is)
item_small (u ∷ ts) (suc i) t lt is = omega (arith, item_small ts i t (omega arith) is)

-- ---- items

items_here : (ts : List Bson) (i : ℕ) (t : Bson) → i < length ts → t ≡ get_or ts i t → items_of (drop i ts) ≡ bson.item (tree t) (items_of (drop (i + 1) ts))
items_here ts i t lt is = ap items_of (drop_more ts i t lt ∙ ap (λ (x : Bson). x ∷ drop (i + 1) ts) (sym is))

-- the items of these values, and then those
abbrev pub items_then : List Value → Items → Items
items_then [] ds = ds
items_then (v ∷ vs) ds = item (view v) (items_then vs ds)

items_then-push : (vs : List Value) (v : Value) (ds : Items) → items_then (vs ++ v ∷ []) ds ≡ items_then vs (item (view v) ds)
items_then-push [] v ds = refl
items_then-push (w ∷ vs) v ds = ap (item (view w)) (items_then-push vs v ds)

items_then-end : (vs : List Value) → items_then vs no_items ≡ items_view vs
items_then-end [] = refl
items_then-end (v ∷ vs) = ap (item (view v)) (items_then-end vs)

pub items_made : (vs ws : List Value) (v : Value) (ts : List Bson) (i : ℕ) (t : Bson) (total : Items) → i < length ts → t ≡ get_or ts i t → view v ≡ json_of (tree t) → ws ≡ vs ++ v ∷ []
    → items_then vs (items_json (items_of (drop i ts))) ≡ total → items_then ws (items_json (items_of (drop (i + 1) ts))) ≡ total
items_made vs ws v ts i t total lt is h e so_far =
    let rest = items_json (items_of (drop (i + 1) ts)) in
    ap (λ x. items_then x rest) e ∙ items_then-push vs v rest ∙ ap (λ d. items_then vs (item d rest)) h ∙ ap (λ xs. items_then vs (items_json xs)) (sym (items_here ts i t lt is)) ∙ so_far

pub items_all : (vs : List Value) (ts : List Bson) (i : ℕ) (total : Items) → length ts ≤ i → items_then vs (items_json (items_of (drop i ts))) ≡ total → items_view vs ≡ total
items_all vs ts i total le so_far = sym (items_then-end vs) ∙ ap (λ xs. items_then vs (items_json (items_of xs))) (sym (drop_all i ts le)) ∙ so_far

-- ---- fields

pub fields_made : (old new : Members) (name : List ℕ) (d : Data) (t : bson.Tree) (before rest : bson.Fields) (total : Members) → before ≡ bson.field name t rest → d ≡ json_of t → new ≡ put name d old
    → fields_json before old ≡ total → fields_json rest new ≡ total
fields_made old new name d t before rest total split value e so_far =
    ap (fields_json rest) e ∙ ap (λ x. fields_json rest (put name x old)) value ∙ ap (λ fs. fields_json fs old) (sym split) ∙ so_far

-- ---- no part is a float

number_whole : (z : ℤ) → is_float (of_integer z) ≡ false
number_whole (pos n) = refl
number_whole (negsuc n) = refl

both_false : (a b : Bool) → a ≡ false → b ≡ false → (a || b) ≡ false
both_false a b p q = rw (p, q)

put_at : (o : Ordering) (k l : List ℕ) (d e : Data) (ms : Members) → has_float d ≡ false → has_float e ≡ false → members_have_float ms ≡ false → members_have_float (put k d ms) ≡ false
    → members_have_float (match_ordering o (member k d (member l e ms)) (member l d ms) (member l e (put k d ms))) ≡ false
put_at Less k l d e ms p q r s = rw (p, q, r)
put_at Equal k l d e ms p q r s = rw (p, r)
put_at Greater k l d e ms p q r s = rw (q, s)

put_whole : (k : List ℕ) (d : Data) (ms : Members) → has_float d ≡ false → members_have_float ms ≡ false → members_have_float (put k d ms) ≡ false
put_whole k d no_members p q = rw p
put_whole k d (member l e ms) p q = let r = or_parts (has_float e) _ q in put_at (slice_cmp nat_cmp k l) k l d e ms p r.0 r.1 (put_whole k d ms p r.1)

either_whole : (b : Bool) (d e : Data) → has_float d ≡ false → has_float e ≡ false → has_float (cond b d e) ≡ false
either_whole true d e p q = p
either_whole false d e p q = q

binary_whole : (n : ℕ) (bs : List ℕ) → has_float (binary_json n bs) ≡ false
binary_whole n bs = either_whole (n == 0) _ _ refl refl

scoped_whole : (ms : Members) → members_have_float ms ≡ false → has_float (scoped_json [] ms) ≡ false
scoped_whole ms p = rw p refl

mutual
  pub json_whole : (t : bson.Tree) → has_float (json_of t) ≡ false
  json_whole (bson.double bs) = refl
  json_whole (bson.string s) = refl
  json_whole (bson.document fs) = fields_whole fs no_members refl
  json_whole (bson.array ts) = items_whole ts
  json_whole (bson.binary n bs) = binary_whole n bs
  json_whole bson.undefined = refl
  json_whole (bson.object_id bs) = refl
  json_whole (bson.boolean b) = refl
  json_whole (bson.date_time z) = both_false (is_float (of_integer z)) false (number_whole z) refl
  json_whole bson.null = refl
  json_whole (bson.regex p o) = refl
  json_whole (bson.db_pointer s bs) = refl
  json_whole (bson.script s) = refl
  json_whole (bson.symbol s) = refl
  json_whole (bson.scoped s fs) = scoped_whole (fields_json fs no_members) (fields_whole fs no_members refl)
  json_whole (bson.int32 z) = number_whole z
  json_whole (bson.timestamp t i) = refl
  json_whole (bson.int64 z) = refl
  json_whole (bson.decimal128 bs) = refl
  json_whole bson.min_key = refl
  json_whole bson.max_key = refl

  items_whole : (ts : bson.Items) → items_have_float (items_json ts) ≡ false
  items_whole bson.no_items = refl
  items_whole (bson.item t ts) = both_false (has_float (json_of t)) _ (json_whole t) (items_whole ts)

  fields_whole : (fs : bson.Fields) (found : Members) → members_have_float found ≡ false → members_have_float (fields_json fs found) ≡ false
  fields_whole bson.no_fields found p = p
  fields_whole (bson.field k t fs) found p = fields_whole fs (put k (json_of t) found) (put_whole k (json_of t) found (json_whole t) p)
