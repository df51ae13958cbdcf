-- What a lent value stands for.
use Rattle.mg_bson.specs.Tree.{Tree, double, string, document, array, binary, undefined, object_id, boolean, date_time, null, regex, db_pointer, script, symbol, scoped, int32, timestamp, int64, decimal128, min_key, max_key}
use Rattle.mg_bson.specs.Raw.{fields, items}
use Rattle.mg_bson.specs.declared.raw.RawValue.{RawValue}
use Rattle.mg_bson.specs.declared.raw.RawValue.TheVariants as raw

-- the value that is lent
abbrev pub value : RawValue → Tree
value (raw.Double v) = double v
value (raw.String s) = string s.now
value (raw.Document d) = document (fields d)
value (raw.Array d) = array (items d)
value (raw.Binary n b) = binary n b.now
value raw.Undefined = undefined
value (raw.ObjectId o) = object_id o.0
value (raw.Boolean b) = boolean b
value (raw.DateTime d) = date_time d.millis
value raw.Null = null
value (raw.Regex p o) = regex p.now o.now
value (raw.DbPointer s o) = db_pointer s.now o.0
value (raw.Code s) = script s.now
value (raw.Symbol s) = symbol s.now
value (raw.CodeWithScope s d) = scoped s.now (fields d)
value (raw.Int32 z) = int32 z
value (raw.Timestamp t) = timestamp t.time t.increment
value (raw.Int64 z) = int64 z
value (raw.Decimal128 v) = decimal128 v
value raw.MinKey = min_key
value raw.MaxKey = max_key
