-- What is read of a reply with a cursor: the batch that the link's rules see, and a name that a server takes.
use Rattle.std.proofs.Common.{◌≡◌, ◌+◌, ℕ, suc, ℤ, Bool, true, false, not, cond, List, [], ◌∷◌, length, take, Option, Some, None, Result, Ok, Err, refl, sym, ap, ◌∙◌, subst, option_map, arith}
use Rattle.std.specs.Prelude.{codes, option_and_then, nat_lt, ◌&&◌, ◌||◌, if◌then◌else◌}
use Rattle.std.specs.List.{before_first, after_first, position_or_len}
use Rattle.mg_bson.specs.Tree.{Tree, Fields, Items}
use Rattle.mg_bson.specs.Find.{as_document, as_int64, get}
use Rattle.mg_link.specs.Namespace.{has_dot, Space, is_dot, space_of, as_collection, as_database}
use Rattle.mg_server.specs.Commands.{Batch, batch_by, batch_items, batch_of, documents_in, text_of, token_in}
use Rattle.mg_link.specs.declared.error.Malformed.{Malformed}
use Rattle.mg_link.specs.declared.error.Malformed.TheVariants as malformed
use Rattle.mg_ops.specs.Cursors.{Cursor, batch_at, cursor_in, cursor_of, found, ◌>>=◌}
use Rattle.mg_ops.specs.Naming.{IsNamed}

-- ---- the batch

-- the batch with these events
abbrev pub batch_as : Cursor → List Fields → Batch
batch_as c events = record { id = c.id; space = c.space; events = events; token = c.token }

abbrev cursor_by : Option ℤ → Option Space → Option Items → Option Tree → Result Cursor Malformed
cursor_by i s b t = found malformed.BadId i >>= λ id. found malformed.BadNs s >>= λ space. found malformed.NoBatch b >>= λ batch. Ok (record { id = id; space = space; token = t; batch = batch })

abbrev batch_with : Option ℤ → Option Space → Option Items → Option Tree → Option Batch
batch_with i s b t = option_and_then (λ (id : ℤ). option_and_then (λ (space : Space). option_map (λ (events : List Fields). record { id = id; space = space; events = events; token = t }) (option_and_then documents_in b)) s) i

-- what a read cursor says of its parts
record IsRead (s : Option Space) (b : Option Items) (batch : Option Batch) (c : Cursor) : Type 0 where
  space_is : s ≡ Some c.space
  items_are : found malformed.NoBatch b ≡ Ok c.batch
  batch_is : batch ≡ option_map (batch_as c) (documents_in c.batch)

read_parts : (i : Option ℤ) (s : Option Space) (b : Option Items) (t : Option Tree) (c : Cursor) → cursor_by i s b t ≡ Ok c → IsRead s b (batch_with i s b t) c
read_parts (Some id) (Some sp) (Some items) t c h =
    let e : record { id = id; space = sp; token = t; batch = items } ≡ c = cc in
    subst (λ (d : Cursor). IsRead (Some sp) (Some items) (batch_with (Some id) (Some sp) (Some items) t) d) e (record { space_is = refl; items_are = refl; batch_is = refl })
read_parts None s b t c h = absurd cc
read_parts (Some id) None b t c h = absurd cc
read_parts (Some id) (Some sp) None t c h = absurd cc

-- the document of the cursor
read_in : (o : Option Fields) (c : Cursor) → (found malformed.NoCursor o >>= cursor_in) ≡ Ok c
    → (text : Option (List ℕ)) × (option_and_then space_of text ≡ Some c.space) × ((found malformed.NoCursor o >>= λ cursor. found malformed.NoBatch (batch_items cursor)) ≡ Ok c.batch) × (option_and_then batch_by o ≡ option_map (batch_as c) (documents_in c.batch))
read_in (Some d) c h =
    let r = read_parts (option_and_then as_int64 (get (codes "id") d)) (option_and_then space_of (text_of (codes "ns") d)) (batch_items d) (token_in d) c h in
    (text_of (codes "ns") d, r.space_is, r.items_are, r.batch_is)
read_in None c h = absurd cc

-- the batch of a reply whose cursor is read
pub batch_read : (reply : Fields) (c : Cursor) → cursor_of reply ≡ Ok c → batch_of reply ≡ option_map (batch_as c) (documents_in c.batch)
unfolding cursor_of batch_of
batch_read reply c h = (read_in (option_and_then as_document (get (codes "cursor") reply)) c h).3

pub items_read : (reply : Fields) (c : Cursor) → cursor_of reply ≡ Ok c → batch_at reply ≡ Ok c.batch
unfolding cursor_of batch_at
items_read reply c h = (read_in (option_and_then as_document (get (codes "cursor") reply)) c h).2

-- the values of its batch, where it has one
abbrev pub values_at : Fields → Option Items
values_at reply = option_and_then batch_items (option_and_then as_document (get (codes "cursor") reply))

found_in : (o : Option Fields) (ts : Items) → option_and_then batch_items o ≡ Some ts → (found malformed.NoCursor o >>= λ cursor. found malformed.NoBatch (batch_items cursor)) ≡ Ok ts
found_in (Some d) ts h = ap (found malformed.NoBatch) h
found_in None ts h = absurd cc

pub values_found : (reply : Fields) (ts : Items) → values_at reply ≡ Some ts → batch_at reply ≡ Ok ts
unfolding batch_at
values_found reply ts h = found_in (option_and_then as_document (get (codes "cursor") reply)) ts h

-- how it breaks the grammar where it has none: by whether a cursor is there
module _ (how : Option Fields → Malformed) (there : (d : Fields) → how (Some d) ≡ malformed.NoBatch) (missing : how None ≡ malformed.NoCursor) where
  missing_in : (o : Option Fields) → option_and_then batch_items o ≡ None → (found malformed.NoCursor o >>= λ cursor. found malformed.NoBatch (batch_items cursor)) ≡ Err (how o)
  missing_in (Some d) h = ap (found malformed.NoBatch) h ∙ ap Err (sym (there d))
  missing_in None h = ap Err (sym missing)

  pub values_missing : (reply : Fields) → values_at reply ≡ None → batch_at reply ≡ Err (how (option_and_then as_document (get (codes "cursor") reply)))
  unfolding batch_at
  values_missing reply h = missing_in (option_and_then as_document (get (codes "cursor") reply)) h

same_values : (o : Option Items) (ts : Items) → found malformed.NoBatch o ≡ Ok ts → o ≡ Some ts
same_values (Some us) ts h = let same : us ≡ ts = cc in ap Some same
same_values None ts h = absurd cc

values_in : (o : Option Fields) (ts : Items) → (found malformed.NoCursor o >>= λ cursor. found malformed.NoBatch (batch_items cursor)) ≡ Ok ts → option_and_then batch_items o ≡ Some ts
values_in (Some d) ts h = same_values (batch_items d) ts h
values_in None ts h = absurd cc

pub values_read : (reply : Fields) (c : Cursor) → cursor_of reply ≡ Ok c → values_at reply ≡ Some c.batch
unfolding batch_at
values_read reply c h = values_in (option_and_then as_document (get (codes "cursor") reply)) c.batch (items_read reply c h)

-- ---- the namespace

undotted_by : (d : Bool) (b : ℕ) (bs : List ℕ) (n : ℕ) → is_dot b ≡ d → has_dot (take n bs) ≡ false → has_dot (take (cond (not d) (1 + n) 0) (b ∷ bs)) ≡ false
undotted_by true b bs n is h = refl
undotted_by false b bs n is h = ap (λ (k : ℕ). has_dot (take k (b ∷ bs))) (let e : 1 + n ≡ suc n = omega arith in e) ∙ ap (λ (x : Bool). x || has_dot (take n bs)) is ∙ h

undotted : (s : List ℕ) → has_dot (before_first is_dot s) ≡ false
undotted [] = refl
undotted (b ∷ bs) = undotted_by (is_dot b) b bs (position_or_len is_dot bs) refl (undotted bs)

database_there : (s : List ℕ) → nat_lt 0 (length s) ≡ true → has_dot s ≡ false → as_database s ≡ Some s
database_there [] h e = absurd cc
database_there (b ∷ bs) h e = ap (λ (d : Bool). if d then None else Some (b ∷ bs)) e

collection_there : (s : List ℕ) → nat_lt 0 (length s) ≡ true → as_collection s ≡ Some s
collection_there [] h = absurd cc
collection_there (b ∷ bs) h = refl

-- a test that let the value through
let_through : {A : Type 0} (p q r : Bool) (x y : A) → (if p && q && r then Some x else None) ≡ Some y → (q ≡ true) × (r ≡ true) × (x ≡ y)
let_through true true true x y h = (refl, refl, cc)
let_through true true false x y h = absurd cc
let_through true false r x y h = absurd cc
let_through false q r x y h = absurd cc

-- the parts of a full name that was read
pub space_named : (s : List ℕ) (space : Space) → space_of s ≡ Some space → IsNamed space
space_named s space h =
    let r = let_through (nat_lt (position_or_len is_dot s) (length s)) (nat_lt 0 (length (before_first is_dot s))) (nat_lt 0 (length (after_first is_dot s))) (record { db = before_first is_dot s; coll = after_first is_dot s }) space h in
    subst IsNamed r.2 (record { db = database_there (before_first is_dot s) r.0 (undotted s); coll = collection_there (after_first is_dot s) r.1 })

named_by : (text : Option (List ℕ)) (space : Space) → option_and_then space_of text ≡ Some space → IsNamed space
named_by (Some s) space h = space_named s space h
named_by None space h = absurd cc

-- the namespace of a reply's cursor is one that a server takes
pub named_read : (reply : Fields) (c : Cursor) → cursor_of reply ≡ Ok c → IsNamed c.space
unfolding cursor_of
named_read reply c h = let r = read_in (option_and_then as_document (get (codes "cursor") reply)) c h in named_by r.0 c.space r.1
