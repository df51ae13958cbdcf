-- What an error says.
use Rattle.std.specs.Prelude.{ℤ, [], Option, Some, None}
use Rattle.mg_bson.specs.declared.error.BsonError.{BsonError}
use Rattle.mg_bson.specs.declared.error.BsonError.TheVariants as bson
use Rattle.mg_link.specs.declared.error.Error.{Error}
use Rattle.mg_link.specs.declared.error.ErrorKind.{ErrorKind}
use Rattle.mg_link.specs.declared.error.ErrorKind.TheVariants as kind

-- an error of this kind that no reply was the cause of
abbrev pub plain : ErrorKind → Error
plain k = record { kind = k; labels = []; wire_version = None }

-- what fails where bytes are no document, or a document cannot be written
abbrev pub bson_kind : BsonError → ErrorKind
bson_kind bson.OutOfMemory = kind.OutOfMemory
bson_kind bson.Malformed = kind.BsonDeserialization
bson_kind bson.TooLarge = kind.BsonSerialization
bson_kind bson.TooDeep = kind.BsonSerialization
bson_kind bson.BadName = kind.BsonSerialization

-- the code of a refusal
abbrev pub command_code : ErrorKind → Option ℤ
command_code (kind.Command refusal) = Some refusal.code
command_code _ = None
