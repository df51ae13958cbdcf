-- How documents are read as records: the values that have to stand there, and those that may be absent.
use Rattle.std.specs.Prelude.{◌≡◌, ◌⊎◌, ℕ, List, [], ◌∷◌, Option, Some, None, option_map, option_and_then, ok_or, Result, Ok, Err, if◌then◌else◌}
use Rattle.mg_bson.specs.Tree.{Tree, Fields, Items, no_items, item}
use Rattle.mg_bson.specs.Find.{as_array, get, is_null}
use Rattle.mg_bson.specs.Reading.{◌>>=◌}
use Rattle.mg_link.specs.Errors.{plain}
use Rattle.mg_link.specs.declared.error.Error.{Error}
use Rattle.mg_link.specs.declared.error.ErrorKind.TheVariants as kind
use Rattle.mg_link.specs.declared.error.Malformed.{Malformed}
use Rattle.mg_link.specs.declared.error.Malformed.TheVariants as malformed
use Rattle.mg_chunks.specs.Broken.{Breaks, broken}
use Rattle.mg_records.specs.declared.fault.Fault.{Fault}
use Rattle.mg_records.specs.declared.fault.Fault.TheVariants as fault

-- a value that has to stand there
abbrev pub needed : {A : Type 0} → (Tree → Option A) → List ℕ → Fields → Option A
needed read name d = option_and_then read (get name d)

-- a null counts as absent
abbrev pub unless_null : {A : Type 0} → (Tree → Option A) → Tree → Option (Option A)
unless_null read t = if is_null t then Some None else option_map (λ x. Some x) (read t)

abbrev pub where_given : {A : Type 0} → (Tree → Option A) → Option Tree → Option (Option A)
where_given read None = Some None
where_given read (Some t) = unless_null read t

-- a value that may be absent
abbrev pub optional : {A : Type 0} → (Tree → Option A) → List ℕ → Fields → Option (Option A)
optional read name d = where_given read (get name d)

-- each value of an array
abbrev pub each_by : {A : Type 0} → (Tree → Option A) → Items → Option (List A)
each_by read no_items = Some []
each_by read (item t ts) = read t >>= λ x. each_by read ts >>= λ xs. Some (x ∷ xs)

abbrev pub list_by : {A : Type 0} → (Tree → Option A) → Tree → Option (List A)
list_by read t = option_and_then (each_by read) (as_array t)

-- any value but null
abbrev pub not_null : Tree → Option Tree
not_null t = if is_null t then None else Some t

abbrev pub any_value : Tree → Option Tree
any_value t = Some t

-- why a value was not read, unless memory ran out
abbrev pub Fails : {Y : Type 0} → Fault → Option Y → Type 0
Fails fault.Memory read = Unit {0}
Fails fault.Broken read = read ≡ None

-- what was read, seen by view, is what the document says, unless memory ran out
abbrev pub Gives : {X Y : Type 0} → (X → Y) → Result X Fault → Option Y → Type 0
Gives view (Ok x) read = read ≡ Some (view x)
Gives view (Err e) read = Fails e read

abbrev pub fault_error : Fault → Error
fault_error fault.Memory = plain kind.OutOfMemory
fault_error fault.Broken = broken malformed.BadRecord

-- the record, or else a field is missing or of another kind
abbrev pub recorded : {Y : Type 0} → Option Y → Result Y Malformed
recorded read = ok_or read malformed.BadRecord

-- why no record was read: memory ran out, or the document is none, for this reason
abbrev pub FailsToRead : {Y : Type 0} → Result Y Malformed → Error → Type 0
FailsToRead read e = (e ≡ plain kind.OutOfMemory) ⊎ Breaks read e
