-- Why an operation fails.
use Rattle.std.specs.Prelude.{◌≡◌, ◌⊎◌, ◌<◌, ℕ, List, [], length, Option, Some, None, Result, Ok, Err}
use Rattle.mg_bson.specs.Tree.{Fields}
use Rattle.mg_bson.specs.Writable.{max_len}
use Rattle.mg_link.specs.Errors.{plain}
use Rattle.mg_link.specs.declared.error.Error.{Error}
use Rattle.mg_link.specs.declared.error.ErrorKind.TheVariants as kind
use Rattle.mg_link.specs.declared.error.BadArgument.{BadArgument}
use Rattle.mg_link.specs.declared.error.BadArgument.TheVariants as argument
use Rattle.mg_link.specs.declared.error.Malformed.{Malformed}
use Rattle.mg_ops.specs.Limits.{PassesLimit, SizePasses, SomePassLimit, max_documents}
use Rattle.mg_ops.specs.declared.fault.Fault.{Fault}
use Rattle.mg_ops.specs.declared.fault.Fault.TheVariants as fault

-- want of memory, which needs no cause, or an error with one
abbrev pub FailsBy : (Error → Type 0) → Error → Type 0
FailsBy cause e = (e ≡ plain kind.OutOfMemory) ⊎ cause e

-- a document cannot be sent
abbrev pub CannotBeSent : Fields → Error → Type 0
CannotBeSent d e = (e ≡ plain kind.BsonSerialization) × PassesLimit max_len d

-- the size of a batch is none
abbrev pub HasBadSize : Option ℕ → Error → Type 0
HasBadSize size e = (e ≡ plain (kind.InvalidArgument argument.BatchSize)) × SizePasses size

-- documents cannot be inserted by one command
abbrev pub CannotBeInserted : List Fields → Error → Type 0
CannotBeInserted ds e = ((e ≡ plain (kind.InvalidArgument argument.NoDocuments)) × (ds ≡ []))
    ⊎ ((e ≡ plain kind.BsonSerialization) × ((max_documents < length ds) ⊎ SomePassLimit ds))

-- why documents are not inserted: one command cannot, or this argument of its options is outside its range
abbrev pub CannotInsert : Option BadArgument → List Fields → Error → Type 0
CannotInsert None ds e = CannotBeInserted ds e
CannotInsert (Some a) ds e = CannotBeInserted ds e ⊎ (e ≡ plain (kind.InvalidArgument a))

abbrev pub fault_error : Fault → Error
fault_error fault.Memory = plain kind.OutOfMemory
fault_error (fault.Broken m) = plain (kind.InvalidResponse m)

-- why a part of a reply was not read, unless memory ran out
abbrev pub Fails : {Y : Type 0} → Fault → Result Y Malformed → Type 0
Fails fault.Memory read = Unit {0}
Fails (fault.Broken m) read = read ≡ Err m

-- what a function read, seen by view, is what the reply says, unless memory ran out
abbrev pub Gives : {X Y : Type 0} → (X → Y) → Result X Fault → Result Y Malformed → Type 0
Gives view (Ok x) read = read ≡ Ok (view x)
Gives view (Err e) read = Fails e read
