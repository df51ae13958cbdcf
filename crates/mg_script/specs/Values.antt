-- The value of a document that a JSON value stands for.
use Rattle.std.specs.Prelude.{ℕ, ◌&&◌, ℤ, pos, negsuc, int_le, List, [], ◌∷◌, Bool, Option, Some, None, option_and_then, Result, Ok, codes, if◌then◌else◌}
use Rattle.std.specs.Result.{result_ok}
use Rattle.std.specs.Str.{bytes_eq}
use Rattle.serde_json.specs.Data.{Num, Data, null, boolean, number, string, array, object, Items, no_items, item, Members, no_members, member}
use Rattle.serde_json.specs.Find.{as_i64, as_str}
use Rattle.mg_bson.specs.Tree as bson
use Rattle.mg_bson.specs.Find.{as_document}
use Rattle.mg_script.specs.declared.fault.Place.{Place}
use Rattle.mg_script.specs.declared.fault.Place.TheVariants as place
use Rattle.mg_script.specs.Reads.{◌>>=◌, found, guard}
use Rattle.mg_script.specs.Parts.{is_among, only_member, has_only, number_at, int64_number, lower_bytes, bytes_at, printed_number}

-- the number, in 32 bits where it fits
abbrev pub whole : ℤ → bson.Tree
whole z = if int_le (negsuc 2147483647) z && int_le z (pos 2147483647) then bson.int32 z else bson.int64 z

-- the value of a number, which is whole and fits 64 bits
abbrev pub whole_at : Place → Num → Result bson.Tree Place
whole_at p n = found p (as_i64 n) >>= λ z. Ok (whole z)

-- ---- objects of one member that stand for another value than a document

-- 24 hexadecimal digits, of which letters are lower case
abbrev pub object_id_at : Place → Data → Result bson.Tree Place
object_id_at p d = found p (option_and_then (lower_bytes 12) (as_str d)) >>= λ bs. Ok (bson.object_id bs)

-- bytes of subtype 0, as pairs of hexadecimal digits
abbrev pub binary_at : Place → Data → Result bson.Tree Place
binary_at p d = bytes_at p d >>= λ bs. Ok (bson.binary 0 bs)

-- milliseconds
abbrev pub date_at : Place → Data → Result bson.Tree Place
date_at p d = found p (int64_number d) >>= λ z. Ok (bson.date_time z)

-- the text that a number of 64 bits prints as
abbrev pub int64_at : Place → Data → Result bson.Tree Place
int64_at p d = found p (option_and_then printed_number (as_str d)) >>= λ z. Ok (bson.int64 z)

-- the increment `i` and the seconds `t`
abbrev pub timestamp_at : Place → Data → Result bson.Tree Place
timestamp_at p d = guard p (has_only (codes "i" ∷ codes "t" ∷ []) d) >>= λ named. number_at p (codes "i") d >>= λ i. number_at p (codes "t") d >>= λ t. Ok (bson.timestamp t i)

-- whether a member of the name stands for such a value where it is the only one of its object
abbrev pub is_wrapper : List ℕ → Bool
is_wrapper k = is_among k (codes "$oid" ∷ codes "$bytes" ∷ codes "$date" ∷ codes "$int64" ∷ codes "$timestamp" ∷ [])

-- the only member, where it stands for such a value
abbrev pub wrapper : Members → Option (List ℕ × Data)
wrapper ms = option_and_then (λ m. if is_wrapper m.0 then Some m else None) (only_member ms)

-- the value that a member of such a name stands for
abbrev pub wrapped_at : Place → List ℕ → Data → Result bson.Tree Place
wrapped_at p k d = if bytes_eq k (codes "$oid") then object_id_at p d
    else (if bytes_eq k (codes "$bytes") then binary_at p d
    else (if bytes_eq k (codes "$date") then date_at p d
    else (if bytes_eq k (codes "$int64") then int64_at p d else timestamp_at p d)))

-- the value of the member where there is one, and else the document of the fields
abbrev pub or_document : Place → Option (List ℕ × Data) → Result bson.Fields Place → Result bson.Tree Place
or_document p (Some m) r = wrapped_at p m.0 m.1
or_document p None r = r >>= λ fs. Ok (bson.document fs)

-- ---- all values

-- The value of a JSON value, or a fault at the place. Numbers are whole and fit 64 bits. An object whose only member is one of the
-- above stands for that value; every other object is the document of its members, in the byte order of their names.
abbrev mutual
  pub value_at : Place → Data → Result bson.Tree Place
  value_at p null = Ok bson.null
  value_at p (boolean b) = Ok (bson.boolean b)
  value_at p (number n) = whole_at p n
  value_at p (string s) = Ok (bson.string s)
  value_at p (array ds) = items_at p ds >>= λ ts. Ok (bson.array ts)
  value_at p (object ms) = or_document p (wrapper ms) (fields_at p ms)

  pub items_at : Place → Items → Result bson.Items Place
  items_at p no_items = Ok bson.no_items
  items_at p (item d ds) = value_at p d >>= λ t. items_at p ds >>= λ ts. Ok (bson.item t ts)

  pub fields_at : Place → Members → Result bson.Fields Place
  fields_at p no_members = Ok bson.no_fields
  fields_at p (member k d ms) = value_at p d >>= λ t. fields_at p ms >>= λ fs. Ok (bson.field k t fs)

-- a value that is a document
abbrev pub document_at : Place → Data → Result bson.Fields Place
document_at p d = value_at p d >>= λ t. found p (as_document t)

-- the value of a JSON value, where it has one
abbrev pub value_of : Data → Option bson.Tree
value_of d = result_ok (value_at place.Top d)
