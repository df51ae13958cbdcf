-- How large the events of inserts and deletes are, and the replies that give them.
use Rattle.std.proofs.Common.{◌≡◌, ◌⊎◌, ◌≤◌, ◌+◌, ◌*◌, ◌++◌, ℕ, suc, ℤ, pos, Bool, true, false, List, [], ◌∷◌, length, Option, None, Some, refl, subst, inl, inr, arith, length-append}
use Rattle.std.specs.Prelude.{if◌then◌else◌, codes, decimal}
use Rattle.std.specs.Int.{w64, to_be_bytes}
use Rattle.std.specs.Str.{bytes_eq}
use Rattle.hex.specs.Hex.{encode_lower, lower_digits}
use Rattle.hex.proofs.HexLemmas.{length-encode_with}
use Rattle.std.proofs.lemmas.Fmt.{length-decimal-le}
use Rattle.mg_bson.specs.Tree.{Tree, string, document, array, int32, int64, Fields, field, no_fields, Items, item}
use Rattle.mg_bson.specs.Bytes.{bytes, fields_bytes, fields_depth, framed, items_bytes, items_depth, levels, le32, le64, tree_depth, value_bytes}
use Rattle.mg_bson.specs.Find.{get}
use Rattle.mg_bson.specs.Literal.{◌⇒◌⨾◌, empty, word}
use Rattle.mg_link.specs.Namespace.{Space, full_name}
use Rattle.mg_server.specs.Query.{id_alone}
use Rattle.mg_server.specs.Rules.{bytes_of, cursor_fields, deleted_event, documents_of_items, first_batch, insert_event, max_batch, max_document, max_given_levels, max_name, max_reply, max_stored_levels, next_batch, stamp_of, token_fields, token_of}

-- ---- lengths

pub framed_long : (body : List ℕ) → length (framed body) ≡ 5 + length body
unfolding le32
framed_long body = let e = length-append body (0 ∷ []) in omega (arith, e)

pub field_long : (k : List ℕ) (t : Tree) (fs : Fields) → length (fields_bytes (field k t fs)) ≡ 2 + length k + length (value_bytes t) + length (fields_bytes fs)
field_long k t fs = let a = length-append k (0 ∷ (value_bytes t ++ fields_bytes fs)) in let b = length-append (value_bytes t) (fields_bytes fs) in omega (arith, a, b)

pub item_long : (n : ℕ) (t : Tree) (ts : Items) → length (items_bytes n (item t ts)) ≡ 2 + length (decimal n) + length (value_bytes t) + length (items_bytes (suc n) ts)
item_long n t ts = let a = length-append (decimal n) (0 ∷ (value_bytes t ++ items_bytes (suc n) ts)) in let b = length-append (value_bytes t) (items_bytes (suc n) ts) in omega (arith, a, b)

text_long : (s : List ℕ) → length (value_bytes (string s)) ≡ 5 + length s
unfolding le32
text_long s = let e = length-append s (0 ∷ []) in omega (arith, e)

-- ---- a part of a document

pub record IsPart (t : Tree) (fs : Fields) : Type 0 where
  pub short : length (value_bytes t) ≤ length (fields_bytes fs)
  pub flat : tree_depth t ≤ fields_depth fs

part_by : (b : Bool) (k : List ℕ) (t u : Tree) (fs : Fields) (o : Option Tree) → (o ≡ Some t → IsPart t fs) → (if b then Some u else o) ≡ Some t → IsPart t (field k u fs)
part_by true k t u fs o later is =
    let same : u ≡ t = cc in
    subst (λ (v : Tree). IsPart v (field k u fs)) same (let a = field_long k u fs in record { short = omega (arith, a); flat = omega arith })
part_by false k t u fs o later is = let p = later is in let a = field_long k u fs in let s = p.short in let f = p.flat in record { short = omega (arith, a, s); flat = omega (arith, f) }

pub part_of : (name : List ℕ) (fs : Fields) (t : Tree) → get name fs ≡ Some t → IsPart t fs
part_of name no_fields t is = absurd cc
part_of name (field k u fs) t is = part_by (bytes_eq k name) k t u fs (get name fs) (part_of name fs t) is

-- ---- the event of an insert

-- a token has 16 digits
token_long : (place : ℕ) → length (value_bytes (token_of place)) ≡ 33
unfolding le32
token_long place =
    let digits : List ℕ = encode_lower (to_be_bytes w64 place) in
    let a = length-encode_with lower_digits (to_be_bytes w64 place) in
    let b = framed_long (fields_bytes (token_fields place)) in
    let c = field_long (codes "_data") (string digits) empty in
    let d = text_long digits in
    omega (arith, a, b, c, d)

stamp_long : (place : ℕ) → length (value_bytes (stamp_of place)) ≡ 8
unfolding le32
stamp_long place = omega arith

-- what a batch asks of an event
pub record IsModest (e : Fields) : Type 0 where
  pub some : 40 ≤ length (bytes e)
  pub few : length (bytes e) ≤ 34000000
  pub flat : levels e ≤ 97

abbrev names_in : Space → Fields
names_in space = "db" ⇒ string space.db ⨾ "coll" ⇒ string space.coll ⨾ empty

names_long : (space : Space) → length (value_bytes (document (names_in space))) ≡ 25 + length space.db + length space.coll
unfolding le32
names_long space =
    let a = framed_long (fields_bytes (names_in space)) in
    let b = field_long (codes "db") (string space.db) ("coll" ⇒ string space.coll ⨾ empty) in
    let c = field_long (codes "coll") (string space.coll) empty in
    let d = text_long space.db in
    let e = text_long space.coll in
    omega (arith, a, b, c, d, e)

key_long : (id : Tree) → length (value_bytes (document ("_id" ⇒ id ⨾ empty))) ≡ 10 + length (value_bytes id)
key_long id =
    let a = framed_long (fields_bytes ("_id" ⇒ id ⨾ empty)) in
    let b = field_long (codes "_id") id empty in
    omega (arith, a, b)

pub event_modest : (place : ℕ) (space : Space) (id : Tree) (d : Fields) → length space.db ≤ max_name → length space.coll ≤ max_name → IsPart id d → length (bytes d) ≤ max_document → levels d ≤ max_stored_levels → IsModest (insert_event place space id d)
event_modest place space id d db coll part few flat =
    let from_document : Fields = "fullDocument" ⇒ document d ⨾ empty in
    let from_key : Fields = "documentKey" ⇒ document ("_id" ⇒ id ⨾ empty) ⨾ from_document in
    let from_names : Fields = "ns" ⇒ document (names_in space) ⨾ from_key in
    let from_time : Fields = "clusterTime" ⇒ stamp_of place ⨾ from_names in
    let from_kind : Fields = "operationType" ⇒ word "insert" ⨾ from_time in
    let all : Fields = "_id" ⇒ token_of place ⨾ from_kind in
    let f = framed_long (fields_bytes all) in
    let a = field_long (codes "_id") (token_of place) from_kind in
    let b = field_long (codes "operationType") (word "insert") from_time in
    let c = field_long (codes "clusterTime") (stamp_of place) from_names in
    let n = field_long (codes "ns") (document (names_in space)) from_key in
    let k = field_long (codes "documentKey") (document ("_id" ⇒ id ⨾ empty)) from_document in
    let g = field_long (codes "fullDocument") (document d) empty in
    let token = token_long place in
    let kind = text_long (codes "insert") in
    let stamp = stamp_long place in
    let names = names_long space in
    let key = key_long id in
    let short = part.short in
    let whole = framed_long (fields_bytes d) in
    let depth = part.flat in
    record {
      some = omega (arith, f, a, b, c, n, k, g, token, kind, stamp, names, key);
      few = omega (arith, f, a, b, c, n, k, g, token, kind, stamp, names, key, short, whole, db, coll, few);
      flat = omega (arith, depth, flat);
    }

-- ---- the event of a delete

key_none : length (value_bytes (document empty)) ≤ 10
unfolding le32
key_none = omega arith

key_few : (d : Fields) (o : Option Tree) → get (codes "_id") d ≡ o → length (value_bytes (document (id_alone o))) ≤ 10 + length (bytes d)
key_few d None is = let none = key_none in omega (arith, none)
key_few d (Some id) is =
    let key = key_long id in
    let short = (part_of (codes "_id") d id is).short in
    let whole = framed_long (fields_bytes d) in
    omega (arith, key, short, whole)

-- as many levels as a reply may give
pub deleted_modest : (place : ℕ) (space : Space) (d : Fields) → length space.db ≤ max_name → length space.coll ≤ max_name → length (bytes d) ≤ max_document → levels (deleted_event place space d) ≤ max_given_levels → IsModest (deleted_event place space d)
deleted_modest place space d db coll few flat =
    let key_of : Tree = document (id_alone (get (codes "_id") d)) in
    let from_key : Fields = "documentKey" ⇒ key_of ⨾ empty in
    let from_names : Fields = "ns" ⇒ document (names_in space) ⨾ from_key in
    let from_time : Fields = "clusterTime" ⇒ stamp_of place ⨾ from_names in
    let from_kind : Fields = "operationType" ⇒ word "delete" ⨾ from_time in
    let all : Fields = "_id" ⇒ token_of place ⨾ from_kind in
    let f = framed_long (fields_bytes all) in
    let a = field_long (codes "_id") (token_of place) from_kind in
    let b = field_long (codes "operationType") (word "delete") from_time in
    let c = field_long (codes "clusterTime") (stamp_of place) from_names in
    let n = field_long (codes "ns") (document (names_in space)) from_key in
    let k = field_long (codes "documentKey") key_of empty in
    let token = token_long place in
    let kind = text_long (codes "delete") in
    let stamp = stamp_long place in
    let names = names_long space in
    let key = key_few d (get (codes "_id") d) refl in
    record {
      some = omega (arith, f, a, b, c, n, k, token, kind, stamp, names);
      few = omega (arith, f, a, b, c, n, k, token, kind, stamp, names, key, db, coll, few);
      flat = flat;
    }

-- ---- batches of such events

abbrev pub AreModest : List Fields → Type 0
AreModest [] = Unit {0}
AreModest (e ∷ es) = IsModest e × AreModest es

events_few : (es : List Fields) → AreModest es → 40 * length es ≤ bytes_of es
events_few [] modest = omega arith
events_few (e ∷ es) modest = let rest = events_few es modest.1 in let some = modest.0.some in omega (arith, rest, some)

pub events_long : (n : ℕ) (es : List Fields) → n + length es ≤ 1000000 → length (items_bytes n (documents_of_items es)) ≤ 8 * length es + bytes_of es
events_long n [] less = omega arith
events_long n (e ∷ es) less =
    let rest = events_long (suc n) es (omega (arith, less)) in
    let digits = length-decimal-le 6 n (omega arith) (omega (arith, less)) (omega (arith, less)) in
    let this = item_long n (document e) (documents_of_items es) in
    omega (arith, rest, digits, this)

events_flat : (es : List Fields) → AreModest es → items_depth (documents_of_items es) ≤ 97
events_flat [] modest = omega arith
events_flat (e ∷ es) modest = let rest = events_flat es modest.1 in let flat = modest.0.flat in omega (arith, rest, flat)

one_event : (es : List Fields) → AreModest es → length es ≡ 1 → bytes_of es ≤ 34000000
one_event [] modest one = omega (arith, one)
one_event (e ∷ []) modest one = let few = modest.0.few in omega (arith, few)
one_event (e ∷ f ∷ es) modest one = absurd (omega (arith, one))

events_small : (es : List Fields) → AreModest es → (bytes_of es ≤ max_batch) ⊎ (length es ≡ 1) → length (items_bytes 0 (documents_of_items es)) ≤ 34000010
events_small es modest (inl few) = let many = events_few es modest in let long = events_long 0 es (omega (arith, many, few)) in omega (arith, many, few, long)
events_small es modest (inr one) = let long = events_long 0 es (omega (arith, one)) in let few = one_event es modest one in omega (arith, long, few, one)

-- ---- replies

abbrev pub IsSmall : Fields → Type 0
IsSmall d = (length (bytes d) ≤ max_reply) × (levels d ≤ 100)

abbrev batch_with : List ℕ → List Fields → ℕ → Fields
batch_with name events place = field name (array (documents_of_items events)) ("postBatchResumeToken" ⇒ token_of place ⨾ empty)

record FitsBatch (name : List ℕ) (events : List Fields) : Type 0 where
  short : length name ≤ 10
  modest : AreModest events
  fits : (bytes_of events ≤ max_batch) ⊎ (length events ≡ 1)

batch_long : (name : List ℕ) (events : List Fields) (place : ℕ) → FitsBatch name events → length (fields_bytes (batch_with name events place)) ≤ 34000100
batch_long name events place b =
    let a = field_long name (array (documents_of_items events)) ("postBatchResumeToken" ⇒ token_of place ⨾ empty) in
    let c = framed_long (items_bytes 0 (documents_of_items events)) in
    let e = field_long (codes "postBatchResumeToken") (token_of place) empty in
    let t = token_long place in
    let few = events_small events b.modest b.fits in
    let short = b.short in
    omega (arith, a, c, e, t, few, short)

pub name_long : (space : Space) → length space.db ≤ max_name → length space.coll ≤ max_name → length (value_bytes (string (full_name space))) ≤ 131078
name_long space db coll = let a = text_long (full_name space) in let b = length-append space.db (46 ∷ space.coll) in omega (arith, a, b, db, coll)

pub id_long : (id : ℤ) → length (value_bytes (int64 id)) ≡ 8
unfolding le64
id_long id = omega arith

cursor_long : (id : ℤ) (space : Space) (name : List ℕ) (events : List Fields) (place : ℕ) → length space.db ≤ max_name → length space.coll ≤ max_name → FitsBatch name events → length (value_bytes (document (cursor_fields id space (batch_with name events place)))) ≤ 34200000
cursor_long id space name events place db coll b =
    let batch : Fields = batch_with name events place in
    let a = framed_long (fields_bytes (cursor_fields id space batch)) in
    let c = field_long (codes "id") (int64 id) ("ns" ⇒ string (full_name space) ⨾ batch) in
    let d = field_long (codes "ns") (string (full_name space)) batch in
    let e = id_long id in
    let f = name_long space db coll in
    let g = batch_long name events place b in
    omega (arith, a, c, d, e, f, g)

pub ok_long : length (fields_bytes ("ok" ⇒ int32 (pos 1) ⨾ empty)) ≤ 10
unfolding le32
ok_long = omega arith

pub watch_small : (id : ℤ) (space : Space) (events : List Fields) (place entries : ℕ) → length space.db ≤ max_name → length space.coll ≤ max_name → AreModest events → (bytes_of events ≤ max_batch) ⊎ (length events ≡ 1)
    → IsSmall ("cursor" ⇒ document (cursor_fields id space (first_batch events place)) ⨾ "operationTime" ⇒ stamp_of entries ⨾ "ok" ⇒ int32 (pos 1) ⨾ empty)
watch_small id space events place entries db coll modest fits =
    let cursor : Tree = document (cursor_fields id space (first_batch events place)) in
    let b : FitsBatch (codes "firstBatch") events = record { short = omega arith; modest = modest; fits = fits } in
    let rest : Fields = "operationTime" ⇒ stamp_of entries ⨾ "ok" ⇒ int32 (pos 1) ⨾ empty in
    let a = framed_long (fields_bytes (field (codes "cursor") cursor rest)) in
    let c = field_long (codes "cursor") cursor rest in
    let d = field_long (codes "operationTime") (stamp_of entries) ("ok" ⇒ int32 (pos 1) ⨾ empty) in
    let e = stamp_long entries in
    let f = ok_long in
    let g = cursor_long id space (codes "firstBatch") events place db coll b in
    let flat = events_flat events modest in
    (omega (arith, a, c, d, e, f, g), omega (arith, flat))

pub more_small : (id : ℤ) (space : Space) (events : List Fields) (place : ℕ) → length space.db ≤ max_name → length space.coll ≤ max_name → AreModest events → (bytes_of events ≤ max_batch) ⊎ (length events ≡ 1)
    → IsSmall ("cursor" ⇒ document (cursor_fields id space (next_batch events place)) ⨾ "ok" ⇒ int32 (pos 1) ⨾ empty)
more_small id space events place db coll modest fits =
    let cursor : Tree = document (cursor_fields id space (next_batch events place)) in
    let b : FitsBatch (codes "nextBatch") events = record { short = omega arith; modest = modest; fits = fits } in
    let rest : Fields = "ok" ⇒ int32 (pos 1) ⨾ empty in
    let a = framed_long (fields_bytes (field (codes "cursor") cursor rest)) in
    let c = field_long (codes "cursor") cursor rest in
    let f = ok_long in
    let g = cursor_long id space (codes "nextBatch") events place db coll b in
    let flat = events_flat events modest in
    (omega (arith, a, c, f, g), omega (arith, flat))
