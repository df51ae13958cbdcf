-- What built writes and commands on collections and indexes ask for.
use Rattle.std.proofs.Common.{◌≡◌, ◌++◌, ℕ, Bool, true, false, List, [], ◌∷◌, Option, Some, None, refl}
use Rattle.std.specs.Prelude.{codes}
use Rattle.mg_bson.specs.Tree.{Fields}
use Rattle.mg_bson.specs.Raw.{fields}
use Rattle.mg_link.specs.Namespace.{Space}
use Rattle.mg_server.specs.Filter.{Condition, conditions_of}
use Rattle.mg_server.specs.Query.{of_indexes}
use Rattle.mg_link.specs.Session.{Session}
use Rattle.mg_server.specs.Write.{Modification}
use Rattle.mg_server.specs.Commands.{asked, asked_by, asks_create, asks_delete, asks_drop, asks_indexes, asks_query, asks_update, create_fields, create_of, delete_fields, delete_of, drop_fields, drop_of, has_only, indexing_fields, indexing_of, modification_of, space_at, update_fields, update_of}
use Rattle.mg_link.specs.declared.concern.WriteConcern.{WriteConcern}
use Rattle.mg_options.specs.Fields.{Line, absent, fields_in, ◌⟼◌⨾◌, nothing}
use Rattle.mg_options.specs.Shown.{write_concern}
use Rattle.mg_options.specs.declared.write_words.UpdateModifications.TheVariants as modifications
use Rattle.mg_ops.specs.Bodies.{always, change, create_body, create_indexes_body, delete_body, deletion, drop_body, index, list_indexes_body, text, update_body}
use Rattle.mg_ops.specs.Naming.{IsNamed}
use Rattle.mg_ops.specs.Pieces.{keys_onto, one_of}
use Rattle.mg_ops.specs.Plain.{plain_delete, plain_index, plain_indexes}
use Rattle.mg_ops.specs.Sessions.{session_lines}
use Rattle.mg_ops.proofs.Asking.{as_asked}
use Rattle.mg_ops.proofs.Queries.{indexes_ask}
use Rattle.mg_ops.proofs.Sessions.{ignored_line, session_allowed}

-- ---- what stands behind the database of a write

-- the fields of its session, and how far it is to come
abbrev written_in : Option Session → Option WriteConcern → List Line
written_in session writes = session_lines session ++ ("writeConcern" ⟼ write_concern writes ⨾ nothing)

-- a command may have them, whatever it is
write_allowed : (names : List (List ℕ)) (session : Option Session) (writes : Option WriteConcern) → has_only names (fields_in (written_in session writes)) ≡ true
write_allowed names session writes = session_allowed names session ("writeConcern" ⟼ write_concern writes ⨾ nothing) (ignored_line names (codes "writeConcern") (write_concern writes) nothing refl refl)

-- ---- collections

create_by : (space : Space) (ls : List Line) → IsNamed space → has_only create_fields (fields_in ls) ≡ true → asked_by (fields_in ("create" ⟼ text space.coll ⨾ "$db" ⟼ text space.db ⨾ ls)) ≡ Some (asks_create space)
unfolding create_of space_at
create_by space ls named only = rw (only, named.db, named.coll) refl

pub asks_to_create : (command : List ℕ) (space : Space) (writes : Option WriteConcern) (session : Option Session) → IsNamed space → fields command ≡ fields_in (create_body space writes session) → asked command ≡ asks_create space
asks_to_create command space writes session named e =
    as_asked command (fields_in (create_body space writes session)) (asks_create space) e (create_by space (written_in session writes) named (write_allowed create_fields session writes))

drop_by : (space : Space) (ls : List Line) → IsNamed space → has_only drop_fields (fields_in ls) ≡ true → asked_by (fields_in ("drop" ⟼ text space.coll ⨾ "$db" ⟼ text space.db ⨾ ls)) ≡ Some (asks_drop space)
unfolding drop_of space_at
drop_by space ls named only = rw (only, named.db, named.coll) refl

pub asks_to_drop : (command : List ℕ) (space : Space) (writes : Option WriteConcern) (session : Option Session) → IsNamed space → fields command ≡ fields_in (drop_body space writes session) → asked command ≡ asks_drop space
asks_to_drop command space writes session named e =
    as_asked command (fields_in (drop_body space writes session)) (asks_drop space) e (drop_by space (written_in session writes) named (write_allowed drop_fields session writes))

-- ---- writes

delete_by : (space : Space) (filter : Fields) (conditions : List Condition) (many : Bool) (ls : List Line) → IsNamed space → conditions_of filter ≡ Some conditions → has_only delete_fields (fields_in ls) ≡ true
    → asked_by (fields_in ("delete" ⟼ text space.coll ⨾ "deletes" ⟼ one_of (deletion filter many (plain_delete None)) ⨾ "ordered" ⟼ always true ⨾ "$db" ⟼ text space.db ⨾ ls)) ≡ Some (asks_delete space conditions many)
unfolding delete_of space_at
delete_by space filter conditions true ls named is only = rw (only, named.db, named.coll, is) refl
delete_by space filter conditions false ls named is only = rw (only, named.db, named.coll, is) refl

pub asks_to_delete : (command : List ℕ) (space : Space) (filter : Fields) (conditions : List Condition) (many : Bool) (writes : Option WriteConcern) (session : Option Session) → IsNamed space → conditions_of filter ≡ Some conditions
    → fields command ≡ fields_in (delete_body space filter many (plain_delete writes) session) → asked command ≡ asks_delete space conditions many
asks_to_delete command space filter conditions many writes session named is e =
    as_asked command (fields_in (delete_body space filter many (plain_delete writes) session)) (asks_delete space conditions many) e
    (delete_by space filter conditions many (written_in session writes) named is (write_allowed delete_fields session writes))

update_by : (space : Space) (filter d : Fields) (conditions : List Condition) (m : Modification) (many : Bool) (ls : List Line) → IsNamed space → conditions_of filter ≡ Some conditions → modification_of d ≡ Some m
    → has_only update_fields (fields_in ls) ≡ true
    → asked_by (fields_in ("update" ⟼ text space.coll ⨾ "updates" ⟼ one_of (change filter (modifications.Document d) many) ⨾ "ordered" ⟼ always true ⨾ "$db" ⟼ text space.db ⨾ ls)) ≡ Some (asks_update space conditions m many)
unfolding update_of space_at
update_by space filter d conditions m true ls named is does only = rw (only, named.db, named.coll, is, does) refl
update_by space filter d conditions m false ls named is does only = rw (only, named.db, named.coll, is, does) refl

pub asks_to_update : (command : List ℕ) (space : Space) (filter d : Fields) (conditions : List Condition) (m : Modification) (many : Bool) (writes : Option WriteConcern) (session : Option Session) → IsNamed space
    → conditions_of filter ≡ Some conditions → modification_of d ≡ Some m
    → fields command ≡ fields_in (update_body space filter (modifications.Document d) many writes session) → asked command ≡ asks_update space conditions m many
asks_to_update command space filter d conditions m many writes session named is does e =
    as_asked command (fields_in (update_body space filter (modifications.Document d) many writes session)) (asks_update space conditions m many) e
    (update_by space filter d conditions m many (written_in session writes) named is does (write_allowed update_fields session writes))

-- ---- indexes

index_by : (space : Space) (keys : Fields) (name : List ℕ) (ls : List Line) → IsNamed space → keys_onto [] keys ≡ Some name → has_only indexing_fields (fields_in ls) ≡ true
    → asked_by (fields_in ("createIndexes" ⟼ text space.coll ⨾ "indexes" ⟼ one_of (index keys) ⨾ "commitQuorum" ⟼ absent ⨾ "maxTimeMS" ⟼ absent ⨾ "comment" ⟼ absent ⨾ "$db" ⟼ text space.db ⨾ ls)) ≡ Some (asks_indexes space (record { name = name; key = keys } ∷ []))
unfolding indexing_of space_at
index_by space keys name ls named is only = rw (is, only, named.db, named.coll) refl

pub asks_to_index : (command : List ℕ) (space : Space) (keys : Fields) (name : List ℕ) (writes : Option WriteConcern) (session : Option Session) → IsNamed space → keys_onto [] keys ≡ Some name
    → fields command ≡ fields_in (create_indexes_body space keys (plain_index writes) session) → asked command ≡ asks_indexes space (record { name = name; key = keys } ∷ [])
asks_to_index command space keys name writes session named is e =
    as_asked command (fields_in (create_indexes_body space keys (plain_index writes) session)) (asks_indexes space (record { name = name; key = keys } ∷ [])) e
    (index_by space keys name (written_in session writes) named is (write_allowed indexing_fields session writes))

-- ---- a list of indexes without options

pub asks_for_indexes : (command : List ℕ) (space : Space) (session : Option Session) → IsNamed space
    → fields command ≡ fields_in (list_indexes_body space plain_indexes session) → asked command ≡ asks_query (record { source = of_indexes space; stages = []; single = false; size = None })
asks_for_indexes command space session named is = indexes_ask command space plain_indexes session named refl is
