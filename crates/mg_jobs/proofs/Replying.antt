-- What the rules of the store reply to an insert into a collection with short names: they do not refuse it.
use Rattle.std.proofs.Common.{◌≡◌, ◌≤◌, ◌+◌, ◌++◌, ℕ, suc, ℤ, pos, Bool, true, false, List, [], ◌∷◌, length, Some, None, Result, Ok, Err, refl, sym, ap, ap₂, ◌∙◌, subst, inl, inr, arith}
use Rattle.std.specs.Prelude.{if◌then◌else◌, ◌&&◌, codes, nat_le, nat_lt}
use Rattle.std.proofs.lemmas.Fmt.{length-decimal-le}
use Rattle.std.proofs.lemmas.Bool.{cases_Bool, le-leb, lt-ltb}
use Rattle.mg_bson.specs.Tree.{Tree, string, document, array, boolean, int32, int64, Fields, Items, no_items, item}
use Rattle.mg_bson.specs.Bytes.{bytes, fields_bytes, items_bytes, levels, le32, le64, value_bytes}
use Rattle.mg_bson.specs.Literal.{◌⇒◌⨾◌, empty}
use Rattle.mg_link.specs.Namespace.{as_collection, as_database, has_dot, Space}
use Rattle.mg_server.specs.Commands.{documents_in}
use Rattle.mg_server.specs.Rules.{Answer, Inserted, Request, accept, where_ok, bad_request, errors_field, refused, answer, answer_insert, answer_of, as_name, choose, fitting, insert, insert_entry, insert_request, inserting, max_name, max_reply, named_space, no_more, request_of, with_document, with_error, without_dot, write_error}
use Rattle.mg_server.specs.State.{State}
use Rattle.mg_server.specs.Step.{documents_of}
use Rattle.mg_options.specs.Printing.{listed}
use Rattle.mg_ops.specs.Bodies.{insert_command}
use Rattle.mg_ops.proofs.Asking.{documents_listed}
use Rattle.mg_jobs.specs.Completing.{HasShortNames}
use Rattle.mg_jobs.proofs.Sizes.{IsSmall, field_long, framed_long, item_long}

abbrev inserts_here : Space → Items → Fields
inserts_here at items = "insert" ⇒ string at.coll ⨾ "documents" ⇒ array items ⨾ "ordered" ⇒ boolean true ⨾ "$db" ⇒ string at.db ⨾ empty

-- ---- names

pub named : (s : List ℕ) → nat_lt 0 (length s) ≡ true → length s ≤ max_name → as_name s ≡ Some s
named s some few = ap (λ (b : Bool). if b then Some s else None) (ap₂ (λ (a b : Bool). a && b) some (le-leb (length s) max_name few))

pub collection_there : (s : List ℕ) → as_collection s ≡ Some s → nat_lt 0 (length s) ≡ true
collection_there [] h = absurd cc
collection_there (b ∷ bs) h = lt-ltb 0 (length (b ∷ bs)) (omega arith)

pub database_there : (s : List ℕ) → as_database s ≡ Some s → (nat_lt 0 (length s) ≡ true) × (has_dot s ≡ false)
database_there [] h = absurd cc
database_there (b ∷ bs) h = elim (cases_Bool (has_dot (b ∷ bs))) [
  | inl dotted ↦ (let bad : None ≡ Some (b ∷ bs) = sym (ap (λ (d : Bool). if d then None else Some (b ∷ bs)) dotted) ∙ h in absurd cc)
  | inr plain ↦ (lt-ltb 0 (length (b ∷ bs)) (omega arith), plain)
]

pub undotted : (s : List ℕ) → has_dot s ≡ false → without_dot s ≡ Some s
undotted s plain = ap (λ (d : Bool). if d then None else Some s) plain

reads : (at : Space) (items : Items) (ds : List Fields) → as_name at.db ≡ Some at.db → without_dot at.db ≡ Some at.db → as_name at.coll ≡ Some at.coll → documents_in items ≡ Some ds → request_of (inserts_here at items) ≡ Ok (insert at ds true)
unfolding insert_request named_space
reads at items ds db plain coll listed = rw (db, plain, coll, listed) refl

-- ---- its reply is small

-- an ordered insert lists one write error at most
data ListsFew (errors : Items) : Type 0 where
  none : errors ≡ no_items → ListsFew errors
  one : (index : ℕ) (code : ℤ) → errors ≡ item (document (write_error index code)) no_items → ListsFew errors

few_chosen : (r : Result Tree ℤ) (with_id : Tree → Inserted) (index : ℕ) → ((id : Tree) → ListsFew (with_id id).errors) → ListsFew (choose r with_id (λ code. with_error index code no_more)).errors
few_chosen (Ok id) with_id index few = few id
few_chosen (Err code) with_id index few = one index code refl

few_listed : (space : Space) (index place : ℕ) (there documents : List Fields) → ListsFew (inserting space true index place there documents).errors
unfolding inserting
few_listed space index place there [] = none refl
few_listed space index place there (d ∷ ds) =
    few_chosen (accept there d) (λ id. with_document d (insert_entry (suc place) space id d) (inserting space true (suc index) (suc place) (there ++ d ∷ []) ds)) index (λ id. few_listed space (suc index) (suc place) (there ++ d ∷ []) ds)

abbrev pub replies : Bool → ℕ → Items → Fields
replies b n errors = "n" ⇒ (if b then int32 (pos n) else int64 (pos n)) ⨾ errors_field errors ("ok" ⇒ int32 (pos 1) ⨾ empty)

pub small_none : (b : Bool) (n : ℕ) → IsSmall (replies b n no_items)
unfolding le32 le64
small_none true n = (omega arith, omega arith)
small_none false n = (omega arith, omega arith)

-- ---- lengths

one_long : (t : Tree) → length (value_bytes (array (item t no_items))) ≤ 8 + length (value_bytes t)
one_long t =
    let a = framed_long (items_bytes 0 (item t no_items)) in
    let b = item_long 0 t no_items in
    let c = length-decimal-le 1 0 (omega arith) (omega arith) (omega arith) in
    omega (arith, a, b, c)

error_long : (index : ℕ) (code : ℤ) → length (value_bytes (document (write_error index code))) ≤ 100
unfolding le32
error_long index code = omega arith

ok_long : (b : Bool) (n : ℕ) → length (value_bytes (if b then int32 (pos n) else int64 (pos n))) ≤ 8
unfolding le32 le64
ok_long true n = omega arith
ok_long false n = omega arith

listed_long : (u t : Tree) → length (value_bytes u) ≤ 8 → length (value_bytes t) ≤ 200 → length (bytes ("n" ⇒ u ⨾ "writeErrors" ⇒ t ⨾ "ok" ⇒ int32 (pos 1) ⨾ empty)) ≤ 300
unfolding le32
listed_long u t few less =
    let a = framed_long (fields_bytes ("n" ⇒ u ⨾ "writeErrors" ⇒ t ⨾ "ok" ⇒ int32 (pos 1) ⨾ empty)) in
    let b = field_long (codes "n") u ("writeErrors" ⇒ t ⨾ "ok" ⇒ int32 (pos 1) ⨾ empty) in
    let c = field_long (codes "writeErrors") t ("ok" ⇒ int32 (pos 1) ⨾ empty) in
    omega (arith, a, b, c, few, less)

levels_few : (b : Bool) (n index : ℕ) (code : ℤ) → levels (replies b n (item (document (write_error index code)) no_items)) ≤ 100
levels_few true n index code = omega arith
levels_few false n index code = omega arith

small_one : (b : Bool) (n index : ℕ) (code : ℤ) → IsSmall (replies b n (item (document (write_error index code)) no_items))
small_one b n index code =
    let t : Tree = document (write_error index code) in
    let many = one_long t in
    let few = error_long index code in
    let all = listed_long (if b then int32 (pos n) else int64 (pos n)) (array (item t no_items)) (ok_long b n) (omega (arith, many, few)) in
    (omega (arith, all), levels_few b n index code)

small : (n : ℕ) (errors : Items) → ListsFew errors → IsSmall (replies (nat_le n 2147483647) n errors)
small n errors (none is) = subst (λ (es : Items). IsSmall (replies (nat_le n 2147483647) n es)) (sym is) (small_none (nat_le n 2147483647) n)
small n errors (one index code is) = subst (λ (es : Items). IsSmall (replies (nat_le n 2147483647) n es)) (sym is) (small_one (nat_le n 2147483647) n index code)

-- ---- so it is the reply

pub fits : (a : Answer) → IsSmall a.reply → fitting (Ok a) ≡ a
fits a few = ap (λ (b : Bool). if b then a else refused bad_request) (ap₂ (λ (a b : Bool). a && b) (le-leb (length (bytes a.reply)) max_reply few.0) (le-leb (levels a.reply) 100 few.1))

read_so : (s : State) (id : ℤ) (fs : Fields) (space : Space) (ds : List Fields) → request_of fs ≡ Ok (insert space ds true) → answer_of s id fs ≡ answer_insert s space ds true
unfolding answer_of
read_so s id fs space ds reads =
    let i = inserting space true 0 (length s.changes) (documents_of s space) ds in
    ap (λ (r : Result Request ℤ). fitting (where_ok (answer s id) r)) reads ∙ fits (answer_insert s space ds true) (small (length i.documents) i.errors (few_listed space 0 (length s.changes) (documents_of s space) ds))

-- an insert of these names is answered
pub inserts_so : (s : State) (id : ℤ) (at : Space) (ds : List Fields) → HasShortNames at → answer_of s id (insert_command at ds) ≡ answer_insert s at ds true
inserts_so s id at ds names =
    let db = database_there at.db names.named.db in
    let coll = collection_there at.coll names.named.coll in
    read_so s id (insert_command at ds) at ds
    (reads at (listed document ds) ds (named at.db db.0 names.db_fits) (undotted at.db db.1) (named at.coll coll names.coll_fits) (documents_listed ds))
