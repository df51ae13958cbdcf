-- The batch of a reply: its bytes, its values and its documents.
use Rattle.std.proofs.Common.{◌≡◌, ◌↔◌, ℕ, Bool, true, false, not, IsTrue, List, map, Option, Some, None, Result, Ok, Err, is_some, option_map, refl, sym, ap, ◌∙◌}
use Rattle.std.specs.Prelude.{codes, option_and_then, unwrap_or}
use Rattle.std.proofs.lemmas.Bool.{not_from_false, not-true, false_from_ne_true, iff_false}
use Rattle.mg_bson.specs.Find.{as_array, as_document, get}
use Rattle.mg_bson.specs.Raw.{IsDocument, fields, items}
use Rattle.mg_bson.specs.Reading.{◌>>=◌, doc}
use Rattle.mg_bson.specs.Spans.{array_inside, documents_inside, items_inside}
use Rattle.mg_bson.specs.Tree.{Tree, Fields, no_fields, Items, no_items}
use Rattle.mg_bson.specs.Walks.{before}
use Rattle.mg_bson.proofs.Options.{map_some}
use Rattle.mg_bson.proofs.Inside.{inside_value}
use Rattle.mg_server.specs.Commands.{batch_items, documents_in, or_else as or_items}
use Rattle.mg_link.specs.Errors.{plain}
use Rattle.mg_link.specs.declared.error.Error.{Error}
use Rattle.mg_link.specs.declared.error.ErrorKind.TheVariants as kind
use Rattle.mg_link.specs.declared.error.Malformed.{Malformed}
use Rattle.mg_ops.specs.Cursors.{Cursor, batch_at, cursor_of}
use Rattle.mg_ops.proofs.Reading.{values_missing, values_read}
use Rattle.mg_cursor.specs.Batches.{HasItems, NoBatchIn, batch_in, documents_of, items_of, missing_by, missing_in, or_else}
use Rattle.mg_cursor.proofs.Spelled.{inside_document, items_spelled}

-- ---- the first, or else the other

pub or_first : {A : Type 0} (x y : Option A) (a : A) → x ≡ Some a → or_else x y ≡ x
or_first (Some b) y a is = refl
or_first None y a is = absurd cc

pub or_next : {A : Type 0} (x y : Option A) → x ≡ None → or_else x y ≡ y
or_next (Some b) y is = absurd cc
or_next None y is = refl

map_else : {A B : Type 0} (f : A → B) (x y : Option A) → option_map f (or_else x y) ≡ or_else (option_map f x) (option_map f y)
map_else f (Some a) y = refl
map_else f None y = refl

-- what holds of both holds of the one that is taken
or_either : {A : Type 0} (P : A → Type 0) (x y : Option A) (a : A) → or_else x y ≡ Some a → (x ≡ Some a → P a) → (y ≡ Some a → P a) → P a
or_either P (Some b) y a is first other = first is
or_either P None y a is first other = other is

-- ---- values

values_last : (y : Option Tree) → (y >>= as_array) ≡ option_and_then as_array y
values_last None = refl
values_last (Some t) = refl

values_either : (a : Option Items) (y : Option Tree) → or_else a (y >>= as_array) ≡ or_items a (option_and_then as_array y)
values_either (Some ts) y = refl
values_either None y = values_last y

values_by : (x y : Option Tree) → or_else (x >>= as_array) (y >>= as_array) ≡ or_items (option_and_then as_array x) (option_and_then as_array y)
values_by (Some t) y = values_either (as_array t) y
values_by None y = values_last y

values_in : (o : Option Fields) → or_else (o >>= get (codes "firstBatch") >>= as_array) (o >>= get (codes "nextBatch") >>= as_array) ≡ option_and_then batch_items o
values_in None = refl
values_in (Some d) = values_by (get (codes "firstBatch") d) (get (codes "nextBatch") d)

values_under : (o : Option Tree) → or_else (o >>= as_document >>= get (codes "firstBatch") >>= as_array) (o >>= as_document >>= get (codes "nextBatch") >>= as_array) ≡ option_and_then batch_items (option_and_then as_document o)
values_under None = refl
values_under (Some t) = values_in (as_document t)

values_are : (reply : Fields) → or_else (items_inside (codes "cursor") (codes "firstBatch") reply) (items_inside (codes "cursor") (codes "nextBatch") reply) ≡ items_of reply
values_are reply = values_under (get (codes "cursor") reply)

-- the values of the array that was found
pub first_values : (reply : Fields) (ts : Items) → Some ts ≡ items_inside (codes "cursor") (codes "firstBatch") reply → Some ts ≡ items_of reply
first_values reply ts is =
    let first = items_inside (codes "cursor") (codes "firstBatch") reply in
    is ∙ sym (or_first first (items_inside (codes "cursor") (codes "nextBatch") reply) ts (sym is)) ∙ values_are reply

pub next_values : (reply : Fields) (o : Option Items) → None ≡ items_inside (codes "cursor") (codes "firstBatch") reply → o ≡ items_inside (codes "cursor") (codes "nextBatch") reply → o ≡ items_of reply
next_values reply o none is =
    is ∙ sym (or_next (items_inside (codes "cursor") (codes "firstBatch") reply) (items_inside (codes "cursor") (codes "nextBatch") reply) (sym none)) ∙ values_are reply

-- ---- what a batch is, for those who ask for it

-- a reply without a batch
pub no_batch_in : (reply : Fields) (how : Malformed) (e : Error) → None ≡ items_of reply → how ≡ missing_in reply → e ≡ plain (kind.InvalidResponse how) → NoBatchIn reply e
no_batch_in reply how e none is error = record { how = how; says = values_missing missing_by (λ d. refl) refl reply (sym none) ∙ ap Err (sym is); error = error }

ok_same : (x y : Items) → ◌≡◌ {A = Result Items Malformed} (Ok x) (Ok y) → x ≡ y
ok_same x y h = cc

ok_or_err : (x : Items) (e : Malformed) → ◌≡◌ {A = Result Items Malformed} (Ok x) (Err e) → ⊥
ok_or_err x e h = cc

pub has_some : (reply : List ℕ) (ts : Items) (empty : Bool) → batch_at (fields reply) ≡ Ok ts → (IsTrue empty ↔ (ts ≡ no_items)) → IsTrue (not empty) ↔ HasItems reply
has_some reply ts empty at means = (
  λ some. record { batch = ts; there = at; some = λ none. iff_false means (not-true empty some) none },
  λ h. not_from_false empty (false_from_ne_true empty (λ none. let same : ts ≡ h.batch = ok_same ts h.batch (sym at ∙ h.there) in h.some (sym same ∙ means.0 none))),
)

pub has_none : (reply : List ℕ) (e : Error) → NoBatchIn (fields reply) e → IsTrue false ↔ HasItems reply
has_none reply e none = (λ bad. absurd cc, λ h. absurd (ok_or_err h.batch none.how (sym h.there ∙ none.says)))

-- ---- documents

-- a batch that holds what is no document
pub none_inside : (reply batch : List ℕ) → batch_in reply ≡ Some batch → None ≡ option_map (before reply) (documents_of reply) → documents_inside batch ≡ None
unfolding documents_of
none_inside reply batch at none = none_by (documents_inside batch) (none ∙ ap (λ (o : Option (List ℕ)). option_map (before reply) (option_and_then documents_inside o)) at)
  where
    none_by : (o : Option (List (List ℕ))) → None ≡ option_map (before reply) o → o ≡ None
    none_by None h = refl
    none_by (Some ds) h = absurd cc

-- a reply with a cursor is a document
there_by : (o : Option Fields) (said : Cursor) → cursor_of (unwrap_or o no_fields) ≡ Ok said → is_some o ≡ true
unfolding cursor_of
there_by (Some fs) said h = refl
there_by None said h = absurd cc

pub document_read : (reply : List ℕ) (said : Cursor) → cursor_of (fields reply) ≡ Ok said → IsDocument reply
unfolding fields
document_read reply said h = there_by (doc reply) said h

-- the values of the bytes of a batch
batch_values : (reply : List ℕ) → IsDocument reply → option_map items (batch_in reply) ≡ items_of (fields reply)
unfolding batch_in
batch_values reply is =
    let first = array_inside (codes "cursor") (codes "firstBatch") reply in
    let other = array_inside (codes "cursor") (codes "nextBatch") reply in
    map_else items first other
    ∙ ap (λ (o : Option Items). or_else o (option_map items other)) (inside_value (codes "cursor") (codes "firstBatch") reply is)
    ∙ ap (λ (o : Option Items). or_else (items_inside (codes "cursor") (codes "firstBatch") (fields reply)) o) (inside_value (codes "cursor") (codes "nextBatch") reply is)
    ∙ values_are (fields reply)

batch_document : (reply batch : List ℕ) → IsDocument reply → batch_in reply ≡ Some batch → IsDocument batch
unfolding batch_in
batch_document reply batch is at =
    or_either IsDocument (array_inside (codes "cursor") (codes "firstBatch") reply) (array_inside (codes "cursor") (codes "nextBatch") reply) batch at
    (inside_document (codes "cursor") (codes "firstBatch") reply batch is) (inside_document (codes "cursor") (codes "nextBatch") reply batch is)

-- The documents of a reply with a cursor, as the link's rules see them.
pub documents_read : (reply : List ℕ) (said : Cursor) → cursor_of (fields reply) ≡ Ok said → documents_in said.batch ≡ option_map (map fields) (documents_of reply)
unfolding documents_of
documents_read reply said says =
    let is = document_read reply said says in
    let there = map_some (batch_in reply) items said.batch (batch_values reply is ∙ values_read (fields reply) said says) in
    ap documents_in (sym there.2) ∙ items_spelled there.0 (batch_document reply there.0 is there.1)
    ∙ ap (λ (o : Option (List ℕ)). option_map (map fields) (option_and_then documents_inside o)) (sym there.1)
