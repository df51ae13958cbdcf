-- The kinds of values, and the byte of each (BSON: element).
use Rattle.std.specs.Prelude.{ℕ, ◌==◌, if◌then◌else◌, Option, Some, None}
use Rattle.mg_bson.specs.declared.kind.Kind.{Kind}
use Rattle.mg_bson.specs.declared.kind.Kind.TheVariants.{Double, String, Document, Array, Binary, Undefined, ObjectId, Boolean, DateTime, Null, Regex, DbPointer, Code, Symbol, CodeWithScope, Int32, Timestamp, Int64, Decimal128, MinKey, MaxKey}

-- the byte of a kind
abbrev pub kind_byte : Kind → ℕ
kind_byte Double = 1
kind_byte String = 2
kind_byte Document = 3
kind_byte Array = 4
kind_byte Binary = 5
kind_byte Undefined = 6
kind_byte ObjectId = 7
kind_byte Boolean = 8
kind_byte DateTime = 9
kind_byte Null = 10
kind_byte Regex = 11
kind_byte DbPointer = 12
kind_byte Code = 13
kind_byte Symbol = 14
kind_byte CodeWithScope = 15
kind_byte Int32 = 16
kind_byte Timestamp = 17
kind_byte Int64 = 18
kind_byte Decimal128 = 19
kind_byte MinKey = 255
kind_byte MaxKey = 127

-- the kind of a byte, where there is one
unfoldable pub kind_at : ℕ → Option Kind
kind_at b = if b == 1 then Some Double else (if b == 2 then Some String else (if b == 3 then Some Document else (if b == 4 then Some Array else (if b == 5 then Some Binary else (if b == 6 then Some Undefined else (if b == 7 then Some ObjectId else (if b == 8 then Some Boolean else (if b == 9 then Some DateTime else (if b == 10 then Some Null else (if b == 11 then Some Regex else (if b == 12 then Some DbPointer else (if b == 13 then Some Code else (if b == 14 then Some Symbol else (if b == 15 then Some CodeWithScope else (if b == 16 then Some Int32 else (if b == 17 then Some Timestamp else (if b == 18 then Some Int64 else (if b == 19 then Some Decimal128 else (if b == 255 then Some MinKey else (if b == 127 then Some MaxKey else (None)))))))))))))))))))))
