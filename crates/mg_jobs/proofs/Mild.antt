-- Commands that end no watch and change no document that is there: as they are read, inserts and deletes have short names, and the others change nothing.
use Rattle.std.proofs.Common.{◌≡◌, ◌≤◌, List, [], ◌∷◌, length, Bool, true, ℕ, ℤ, Option, Some, None, Ok, sym, ap, ◌∙◌, subst, inl, inr}
use Rattle.std.specs.Prelude.{if◌then◌else◌, ◌&&◌, codes, nat_le, nat_lt, option_and_then, unwrap_or}
use Rattle.std.proofs.lemmas.Bool.{cases_Bool, and_parts, leb-true}
use Rattle.mg_bson.specs.Tree.{Fields, Items}
use Rattle.mg_bson.specs.Find.{get}
use Rattle.mg_bson.specs.Reading.{◌>>=◌}
use Rattle.mg_link.specs.Numbers.{count_of}
use Rattle.mg_server.specs.Commands.{Asked, asked_by, asks_delete, asks_drop, asks_insert, asks_other, asks_update, create_fields, delete_by, delete_fields, delete_parts, documents_in, filter_at, find_fields, find_query, flag_or, has_only, indexes_fields, indexes_in, indexes_listed, indexing_fields, many_by, one_at, text_of}
use Rattle.mg_link.specs.Namespace.{has_dot, Space}
use Rattle.mg_server.specs.Filter.{Condition}
use Rattle.mg_server.specs.Query.{Query}
use Rattle.mg_server.specs.Rules.{Request, array_at, as_name, bad_request, create_collection, create_indexes, create_request, delete, delete_request, drop_collection, find, find_request, indexes_request, insert, insert_request, kill, list_indexes_request, max_name, more, name_at, named_space, or_code, request_of, update, watch, without_dot}
use Rattle.mg_server.specs.State.{Index}
use Rattle.mg_server.proofs.Requests.{and_then_some, asks_of, request_reads, then_some, when_some}

-- a collection with short names
abbrev pub FitsNames : Space → Type 0
FitsNames space = (length space.db ≤ max_name) × (length space.coll ≤ max_name)

abbrev pub IsMild : Request → Type 0
IsMild (insert space documents ordered) = FitsNames space
IsMild (delete space conditions many) = FitsNames space
IsMild (update space conditions modification many) = ⊥
IsMild (drop_collection space) = ⊥
IsMild r = Unit {0}

-- whatever the rules read in the command is so
abbrev pub IsMildCommand : Fields → Type 0
IsMildCommand fs = (r : Request) → request_of fs ≡ Ok r → IsMild r

-- ---- the names of an insert and of a delete that are read

name_short : (k : List ℕ) (fs : Fields) (s : List ℕ) → name_at k fs ≡ Some s → length s ≤ max_name
name_short k fs s h =
    let t = and_then_some as_name (text_of k fs) s h in
    let w = when_some (nat_lt 0 (length t.0) && nat_le (length t.0) max_name) (Some t.0) s t.2 in
    let e : t.0 ≡ s = cc in
    subst (λ (n : List ℕ). length n ≤ max_name) e (leb-true (length t.0) max_name (and_parts (nat_lt 0 (length t.0)) (nat_le (length t.0) max_name) w.0).1)

undotted_same : (s db : List ℕ) → without_dot s ≡ Some db → s ≡ db
undotted_same s db h = elim (cases_Bool (has_dot s)) [
  | inl dotted ↦ (let bad : None ≡ Some db = sym (ap (λ (b : Bool). if b then None else Some s) dotted) ∙ h in absurd cc)
  | inr plain ↦ (let e : Some s ≡ Some db = sym (ap (λ (b : Bool). if b then None else Some s) plain) ∙ h in cc)
]

space_short : (at : List ℕ) (fs : Fields) (space : Space) → named_space at fs ≡ Some space → (length space.db ≤ max_name) × (length space.coll ≤ max_name)
unfolding named_space
space_short at fs space h =
    let a = then_some (name_at (codes "$db") fs) (λ (name : List ℕ). without_dot name >>= λ db. name_at at fs >>= λ coll. Some (record { db = db; coll = coll })) space h in
    let b = then_some (without_dot a.0) (λ (db : List ℕ). name_at at fs >>= λ coll. Some (record { db = db; coll = coll })) space a.2 in
    let c = then_some (name_at at fs) (λ (coll : List ℕ). Some (record { db = b.0; coll = coll })) space b.2 in
    let made : record { db = b.0; coll = c.0 } ≡ space = cc in
    let db : length b.0 ≤ max_name = subst (λ (n : List ℕ). length n ≤ max_name) (undotted_same a.0 b.0 b.1) (name_short (codes "$db") fs a.0 a.1) in
    subst (λ (x : Space). (length x.db ≤ max_name) × (length x.coll ≤ max_name)) made (db, name_short at fs c.0 c.1)

code_some : (code : ℤ) (o : Option Request) (r : Request) → or_code code o ≡ Ok r → o ≡ Some r
code_some code (Some x) r h = cc
code_some code None r h = absurd cc

-- an insert that is read has short names
insert_read : (fs : Fields) (r : Request) → insert_request fs ≡ Some r → (space : Space) × (ds : List Fields) × (ordered : Bool) × (r ≡ insert space ds ordered) × (length space.db ≤ max_name) × (length space.coll ≤ max_name)
unfolding insert_request
insert_read fs r h =
    let w = when_some (has_only (codes "insert" ∷ codes "documents" ∷ codes "ordered" ∷ []) fs) (named_space (codes "insert") fs >>= λ space. array_at (codes "documents") fs >>= λ items. documents_in items >>= λ ds. flag_or true (get (codes "ordered") fs) >>= λ ordered. Some (insert space ds ordered)) r h in
    let a = then_some (named_space (codes "insert") fs) (λ (space : Space). array_at (codes "documents") fs >>= λ items. documents_in items >>= λ ds. flag_or true (get (codes "ordered") fs) >>= λ ordered. Some (insert space ds ordered)) r w.1 in
    let b = then_some (array_at (codes "documents") fs) (λ (items : Items). documents_in items >>= λ ds. flag_or true (get (codes "ordered") fs) >>= λ ordered. Some (insert a.0 ds ordered)) r a.2 in
    let c = then_some (documents_in b.0) (λ (ds : List Fields). flag_or true (get (codes "ordered") fs) >>= λ ordered. Some (insert a.0 ds ordered)) r b.2 in
    let d = then_some (flag_or true (get (codes "ordered") fs)) (λ (ordered : Bool). Some (insert a.0 c.0 ordered)) r c.2 in
    let is : insert a.0 c.0 d.0 ≡ r = cc in
    let short = space_short (codes "insert") fs a.0 a.1 in
    (a.0, c.0, d.0, sym is, short.0, short.1)

deletes_by : (make : List Condition → Bool → Request) (d : Fields) (r : Request) → delete_by make d ≡ Some r → (conditions : List Condition) × (many : Bool) × (r ≡ make conditions many)
deletes_by make d r h =
    let w = when_some (has_only delete_parts d) (filter_at (codes "q") d >>= λ conditions. option_and_then count_of (get (codes "limit") d) >>= many_by >>= λ many. Some (make conditions many)) r h in
    let a = then_some (filter_at (codes "q") d) (λ (conditions : List Condition). option_and_then count_of (get (codes "limit") d) >>= many_by >>= λ many. Some (make conditions many)) r w.1 in
    let b = then_some (option_and_then count_of (get (codes "limit") d) >>= many_by) (λ (many : Bool). Some (make a.0 many)) r a.2 in
    let is : make a.0 b.0 ≡ r = cc in
    (a.0, b.0, sym is)

-- so has a delete
delete_read : (fs : Fields) (r : Request) → delete_request fs ≡ Some r → (space : Space) × (conditions : List Condition) × (many : Bool) × (r ≡ delete space conditions many) × FitsNames space
unfolding delete_request
delete_read fs r h =
    let w = when_some (has_only delete_fields fs) (named_space (codes "delete") fs >>= λ space. one_at (codes "deletes") fs >>= delete_by (delete space)) r h in
    let a = then_some (named_space (codes "delete") fs) (λ (space : Space). one_at (codes "deletes") fs >>= delete_by (delete space)) r w.1 in
    let b = then_some (one_at (codes "deletes") fs) (delete_by (delete a.0)) r a.2 in
    let d = deletes_by (delete a.0) b.0 r b.2 in
    (a.0, d.0, d.1, d.2, space_short (codes "delete") fs a.0 a.1)

-- ---- commands

-- an insert
pub inserts_mild : (fs : Fields) → request_of fs ≡ or_code bad_request (insert_request fs) → IsMildCommand fs
inserts_mild fs reads r asks = let i = insert_read fs r (code_some bad_request (insert_request fs) r (sym reads ∙ asks)) in subst IsMild (sym i.3) (i.4, i.5)

-- a delete
pub deletes_mild : (fs : Fields) → request_of fs ≡ or_code bad_request (delete_request fs) → IsMildCommand fs
deletes_mild fs reads r asks = let d = delete_read fs r (code_some bad_request (delete_request fs) r (sym reads ∙ asks)) in subst IsMild (sym d.3) d.4

found_mild : (o : Option Query) (r : Request) → (o >>= λ q. Some (find q)) ≡ Some r → IsMild r
found_mild o r h =
    let a = then_some o (λ (q : Query). Some (find q)) r h in
    let is : find a.0 ≡ r = cc in
    subst IsMild is tt

-- a find
pub finds_mild : (fs : Fields) → request_of fs ≡ or_code bad_request (find_request fs) → IsMildCommand fs
unfolding find_request
finds_mild fs reads r asks =
    let w = when_some (has_only find_fields fs) (named_space (codes "find") fs >>= find_query fs >>= λ q. Some (find q)) r (code_some bad_request (find_request fs) r (sym reads ∙ asks)) in
    found_mild (named_space (codes "find") fs >>= find_query fs) r w.1

-- a list of indexes
pub lists_mild : (fs : Fields) → request_of fs ≡ or_code bad_request (list_indexes_request fs) → IsMildCommand fs
unfolding list_indexes_request
lists_mild fs reads r asks =
    let w = when_some (has_only indexes_fields fs) (named_space (codes "listIndexes") fs >>= indexes_listed fs >>= λ q. Some (find q)) r (code_some bad_request (list_indexes_request fs) r (sym reads ∙ asks)) in
    found_mild (named_space (codes "listIndexes") fs >>= indexes_listed fs) r w.1

-- the creation of a collection
pub creates_mild : (fs : Fields) → request_of fs ≡ or_code bad_request (create_request fs) → IsMildCommand fs
unfolding create_request
creates_mild fs reads r asks =
    let w = when_some (has_only create_fields fs) (named_space (codes "create") fs >>= λ space. Some (create_collection space)) r (code_some bad_request (create_request fs) r (sym reads ∙ asks)) in
    let a = then_some (named_space (codes "create") fs) (λ (space : Space). Some (create_collection space)) r w.1 in
    let is : create_collection a.0 ≡ r = cc in
    subst IsMild is tt

-- and that of indexes
pub indexes_mild : (fs : Fields) → request_of fs ≡ or_code bad_request (indexes_request fs) → IsMildCommand fs
unfolding indexes_request
indexes_mild fs reads r asks =
    let w = when_some (has_only indexing_fields fs) (named_space (codes "createIndexes") fs >>= λ space. indexes_in fs >>= λ indexes. Some (create_indexes space indexes)) r (code_some bad_request (indexes_request fs) r (sym reads ∙ asks)) in
    let a = then_some (named_space (codes "createIndexes") fs) (λ (space : Space). indexes_in fs >>= λ indexes. Some (create_indexes space indexes)) r w.1 in
    let b = then_some (indexes_in fs) (λ (indexes : List Index). Some (create_indexes a.0 indexes)) r a.2 in
    let is : create_indexes a.0 b.0 ≡ r = cc in
    subst IsMild is tt

-- what changes nothing
abbrev pub IsQuiet : Asked → Type 0
IsQuiet (asks_insert space documents ordered) = ⊥
IsQuiet (asks_update space conditions modification many) = ⊥
IsQuiet (asks_delete space conditions many) = ⊥
IsQuiet (asks_drop space) = ⊥
IsQuiet command = Unit {0}

quiet_is_mild : (r : Request) → IsQuiet (asks_of r) → IsMild r
quiet_is_mild (insert space ds ordered) q = absurd q
quiet_is_mild (find query) q = tt
quiet_is_mild (watch w start resumes size) q = tt
quiet_is_mild (more cursor space size) q = tt
quiet_is_mild (kill ids) q = tt
quiet_is_mild (create_collection space) q = tt
quiet_is_mild (create_indexes space indexes) q = tt
quiet_is_mild (update space conditions m many) q = absurd q
quiet_is_mild (delete space conditions many) q = absurd q
quiet_is_mild (drop_collection space) q = absurd q

pub quiet_mild : (fs : Fields) → IsQuiet (unwrap_or (asked_by fs) asks_other) → IsMildCommand fs
quiet_mild fs quiet r asks = quiet_is_mild r (subst IsQuiet (ap (λ (o : Option Asked). unwrap_or o asks_other) (request_reads fs r asks).asks) quiet)
