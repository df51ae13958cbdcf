-- What the commands of inserts, removals and creations ask for: a write, or nothing that is known.
use Rattle.std.proofs.Common.{◌≡◌, ℕ, Bool, true, false, List, Option, Some, None, sym, subst, option_map}
use Rattle.std.specs.Prelude.{if◌then◌else◌, codes, option_and_then, unwrap_or}
use Rattle.mg_bson.specs.Find.{as_array, get}
use Rattle.mg_bson.specs.Raw.{fields}
use Rattle.mg_bson.specs.Reading.{◌>>=◌}
use Rattle.mg_bson.specs.Tree.{Fields, Tree}
use Rattle.mg_link.specs.Numbers.{count_of}
use Rattle.mg_server.specs.Commands.{Asked, asked, asked_by, asks_create, asks_delete, asks_indexes, asks_insert, asks_kill, asks_more, asks_other, asks_query, asks_watch, create_fields, create_of, delete_by, delete_fields, delete_of, delete_parts, documents_in, filter_at, flag_or, has_only, indexes_in, indexing_fields, indexing_of, insert_of, many_by, one_at, space_at}
use Rattle.mg_link.specs.Namespace.{Space}
use Rattle.mg_options.specs.Fields.{fields_in}
use Rattle.mg_ops.specs.Bodies.{insert_command}
use Rattle.mg_gridfs.specs.Buckets.{ClientBucket}
use Rattle.mg_gridfs.specs.Commands.{creation_lines, deletion_lines, index_lines}
use Rattle.mg_gridfs.specs.declared.indexes.Place.{Place}

-- ---- what a command asks for

-- an insert or a removal, or nothing that is known
abbrev pub Counts : Asked → Type 0
Counts (asks_insert space documents ordered) = Unit {0}
Counts (asks_delete space conditions many) = Unit {0}
Counts asks_other = Unit {0}
Counts _ = ⊥

-- a write, or nothing that is known
abbrev pub Writes : Asked → Type 0
Writes (asks_query query) = ⊥
Writes (asks_watch watch start) = ⊥
Writes (asks_more id space) = ⊥
Writes (asks_kill ids) = ⊥
Writes _ = Unit {0}

-- what the parts of a command ask for, where what asks for nothing that is known is such
module _ (Such : Asked → Type 0) (other : Such asks_other) where
  abbrev Asks : Option Asked → Type 0
  Asks found = Such (unwrap_or found asks_other)

  asked_such : (bytes : List ℕ) (command : Fields) → fields bytes ≡ command → Asks (asked_by command) → Such (asked bytes)
  unfolding asked
  asked_such bytes command is asks = subst (λ (fs : Fields). Asks (asked_by fs)) (sym is) asks

  mapped : {A : Type 0} (f : A → Asked) (o : Option A) → ((x : A) → Such (f x)) → Asks (option_map f o)
  mapped f (Some x) each = each x
  mapped f None each = other

  behind : {A : Type 0} (f : A → Option Asked) (o : Option A) → ((x : A) → Asks (f x)) → Asks (option_and_then f o)
  behind f (Some x) each = each x
  behind f None each = other

  bound : {A : Type 0} (o : Option A) (f : A → Option Asked) → ((x : A) → Asks (f x)) → Asks (o >>= f)
  bound (Some x) f each = each x
  bound None f each = other

  flagged : (b : Bool) (o : Option Asked) → Asks o → Asks (if b then o else None)
  flagged true o asks = asks
  flagged false o asks = other

insert_counts : (fs : Fields) → Asks Counts tt (insert_of fs)
unfolding insert_of
insert_counts fs =
    behind Counts tt _ (space_at (codes "insert") fs)
    (λ space. behind Counts tt _ (option_and_then documents_in (option_and_then as_array (get (codes "documents") fs))) (λ ds. mapped Counts tt (asks_insert space ds) (flag_or true (get (codes "ordered") fs)) (λ ordered. tt)))

pub inserting_counts : (bytes : List ℕ) (space : Space) (documents : List Fields) → fields bytes ≡ insert_command space documents → Counts (asked bytes)
inserting_counts bytes space documents is = asked_such Counts tt bytes (insert_command space documents) is (insert_counts (insert_command space documents))

-- ---- of a put

-- what one statement of a removal asks for
abbrev some_deletes : Space → Fields → Option Asked
some_deletes space d = delete_by (asks_delete space) d

one_deletes : (space : Space) (d : Fields) → Asks Counts tt (some_deletes space d)
one_deletes space d =
    flagged Counts tt (has_only delete_parts d) _
    (bound Counts tt (filter_at (codes "q") d) _ (λ conditions. bound Counts tt (option_and_then count_of (get (codes "limit") d) >>= many_by) _ (λ many. tt)))

delete_counts : (fs : Fields) → Asks Counts tt (delete_of fs)
unfolding delete_of
delete_counts fs = flagged Counts tt (has_only delete_fields fs) _ (bound Counts tt (space_at (codes "delete") fs) _ (λ space. bound Counts tt (one_at (codes "deletes") fs) _ (λ d. one_deletes space d)))

pub deleting_counts : (bytes : List ℕ) (b : ClientBucket) (id : Tree) → fields bytes ≡ fields_in (deletion_lines b id) → Counts (asked bytes)
deleting_counts bytes b id is = asked_such Counts tt bytes (fields_in (deletion_lines b id)) is (delete_counts (fields_in (deletion_lines b id)))

create_writes : (fs : Fields) → Asks Writes tt (create_of fs)
unfolding create_of
create_writes fs = flagged Writes tt (has_only create_fields fs) _ (mapped Writes tt asks_create (space_at (codes "create") fs) (λ space. tt))

pub creating_writes : (bytes : List ℕ) (b : ClientBucket) (at : Place) → fields bytes ≡ fields_in (creation_lines b at) → Writes (asked bytes)
creating_writes bytes b at is = asked_such Writes tt bytes (fields_in (creation_lines b at)) is (create_writes (fields_in (creation_lines b at)))

indexing_writes : (fs : Fields) → Asks Writes tt (indexing_of fs)
unfolding indexing_of
indexing_writes fs = flagged Writes tt (has_only indexing_fields fs) _ (bound Writes tt (space_at (codes "createIndexes") fs) _ (λ space. mapped Writes tt (asks_indexes space) (indexes_in fs) (λ indexes. tt)))

pub indexes_write : (bytes : List ℕ) (b : ClientBucket) (at : Place) → fields bytes ≡ fields_in (index_lines b at) → Writes (asked bytes)
indexes_write bytes b at is = asked_such Writes tt bytes (fields_in (index_lines b at)) is (indexing_writes (fields_in (index_lines b at)))
