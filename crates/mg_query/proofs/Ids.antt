-- The ids of documents, as their encodings name them.
use Rattle.std.proofs.Common.{◌≡◌, ℕ, Bool, true, false, List, [], ◌∷◌, ◌++◌, map, Option, Some, None, Ok, Err, codes, cond, refl, sym, ap, ap₂, ◌∙◌, append_assoc, append-nil, Vec}
use Rattle.std.specs.Prelude.{if◌then◌else◌, ◌||◌}
use Rattle.std.specs.declared.alloc.Global.{Global}
use Rattle.std.specs.BTreeSet.{BTreeSet, UpdatesBy, contains}
use Rattle.std.specs.Str.{bytes_eq}
use Rattle.std.proofs.lemmas.List.Folds.{list_any-append}
use Rattle.std.proofs.lemmas.Map.Text.{is_eq-slice_cmp}
use Rattle.std.proofs.lemmas.Slice.Eq.{bytes_eq-Decides}
use Rattle.mg_bson.specs.Tree.{Tree, Fields}
use Rattle.mg_bson.specs.Find.{get}
use Rattle.mg_server.specs.Filter.{key}
use Rattle.mg_server.specs.Rules.{accept, bad_request, duplicate_id, has_id, id_or_code, is_storable, same_id}
use Rattle.mg_query.specs.Numbering.{HaveNewIds, IsExact, IsKeyed, document_of, has_this, holds_id, is_of_id, vec_cmp}
use Rattle.mg_query.specs.declared.collection.KeyedDocument.{KeyedDocument}

-- ---- what the rules accept

same_is : (id : Tree) (o : Option Tree) → same_id id o ≡ has_this (key id) o
same_is id None = refl
same_is id (Some other) = refl

pub has_id_is : (id : Tree) (ds : List Fields) → has_id id ds ≡ holds_id (key id) ds
has_id_is id [] = refl
has_id_is id (d ∷ ds) = ap₂ (λ (a b : Bool). a || b) (same_is id (get (codes "_id") d)) (has_id_is id ds)

by_id : (before : List Fields) (d : Fields) (id : Tree) (b : Bool) → is_storable d ≡ true → get (codes "_id") d ≡ Some id → holds_id (key id) before ≡ b → accept before d ≡ (if b then Err duplicate_id else Ok id)
by_id before d id b fits e there =
    ap (λ (x : Bool). if x then id_or_code before (get (codes "_id") d) else Err bad_request) fits
    ∙ ap (id_or_code before) e ∙ ap (λ (x : Bool). if x then Err duplicate_id else Ok id) (has_id_is id before ∙ there)

pub accept_new : (before : List Fields) (d : Fields) (id : Tree) → is_storable d ≡ true → get (codes "_id") d ≡ Some id → holds_id (key id) before ≡ false → accept before d ≡ Ok id
accept_new before d id fits e new = by_id before d id false fits e new

pub accept_twice : (before : List Fields) (d : Fields) (id : Tree) → is_storable d ≡ true → get (codes "_id") d ≡ Some id → holds_id (key id) before ≡ true → accept before d ≡ Err duplicate_id
accept_twice before d id fits e old = by_id before d id true fits e old

-- ---- the id of a document

-- a document with this id has no other
pub of_key : (k l : List ℕ) (d : Fields) → IsKeyed k d → is_of_id l d ≡ bytes_eq k l
of_key k l d (id, e, same) = ap (has_this l) e ∙ ap (λ (x : List ℕ). bytes_eq x l) (sym same)

pub same_bytes : (k : List ℕ) → bytes_eq k k ≡ true
same_bytes k = (bytes_eq-Decides k k).1 refl

-- documents with one id have it by each of its encodings
this_then : (k l : List ℕ) (o : Option Tree) → has_this k o ≡ true → has_this l o ≡ bytes_eq k l
this_then k l None h = absurd cc
this_then k l (Some id) h = ap (λ (x : List ℕ). bytes_eq x l) ((bytes_eq-Decides (key id) k).0 h)

pub of_id_then : (k l : List ℕ) (d : Fields) → is_of_id k d ≡ true → is_of_id l d ≡ bytes_eq k l
of_id_then k l d h = this_then k l (get (codes "_id") d) h

-- ---- new documents

-- a document more at the end
pub new_push : (before : List Fields) (ds : List KeyedDocument) (d : KeyedDocument) → HaveNewIds before ds → IsKeyed d.key.items (document_of d) → holds_id d.key.items (before ++ map document_of ds) ≡ false → IsExact d.document → HaveNewIds before (ds ++ d ∷ [])
new_push before [] d h keyed none exact = (keyed, ap (holds_id d.key.items) (sym (append-nil before)) ∙ none, exact, tt)
new_push before (x ∷ ds) d h keyed none exact =
    (h.0, h.1, h.2, new_push (before ++ document_of x ∷ []) ds d h.3 keyed (ap (holds_id d.key.items) (append_assoc before (document_of x ∷ []) (map document_of ds)) ∙ none) exact)

either : (a b : Bool) → (b || (a || false)) ≡ cond a true b
either true true = refl
either true false = refl
either false true = refl
either false false = refl

pub holds_push : (k l : List ℕ) (ds : List Fields) (d : Fields) → IsKeyed k d → holds_id l (ds ++ d ∷ []) ≡ cond (bytes_eq k l) true (holds_id l ds)
holds_push k l ds d keyed = list_any-append (is_of_id l) ds (d ∷ []) ∙ ap (λ (b : Bool). holds_id l ds || (b || false)) (of_key k l d keyed) ∙ either (bytes_eq k l) (holds_id l ds)

-- ---- a set that takes an id more

pub set_updates : (k : Vec ℕ Global) (old new : BTreeSet (Vec ℕ Global)) → UpdatesBy vec_cmp (vec_cmp k) old new true → (l : Vec ℕ Global) → contains vec_cmp new l ≡ cond (bytes_eq k.items l.items) true (contains vec_cmp old l)
set_updates k old new updates l = updates.0 l ∙ ap (λ (b : Bool). cond b true (contains vec_cmp old l)) (is_eq-slice_cmp k.items l.items)
