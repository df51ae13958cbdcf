-- What is read off one JSON value.
use Rattle.std.specs.Prelude.{ℕ, ◌^◌, ◌&&◌, ◌||◌, ℤ, pos, negsuc, List, [], ◌∷◌, Bool, true, false, Option, Some, None, option_and_then, Result, Ok, nat_le, nat_lt, int_le, if◌then◌else◌}
use Rattle.std.specs.List.{list_all}
use Rattle.std.specs.Fmt.{signed_decimal}
use Rattle.std.specs.Result.{result_ok}
use Rattle.std.specs.Str.{bytes_eq}
use Rattle.std.specs.Str.Parse.{signed_digits_value}
use Rattle.hex.specs.Hex.{decode_of, decode_sized}
use Rattle.serde_json.specs.Data.{Data, null, boolean, number, string, array, object, Items, no_items, Members, no_members, member}
use Rattle.serde_json.specs.Find.{get, as_array, as_object, as_str, as_number, as_u64, as_i64}
use Rattle.mg_script.specs.declared.fault.Place.{Place}
use Rattle.mg_script.specs.Reads.{found}

-- ---- objects

-- whether the name is one of these
abbrev pub is_among : List ℕ → List (List ℕ) → Bool
is_among k [] = false
is_among k (n ∷ ns) = bytes_eq k n || is_among k ns

-- whether each member has one of these names
abbrev pub are_among : Members → List (List ℕ) → Bool
are_among no_members ns = true
are_among (member k d ms) ns = is_among k ns && are_among ms ns

-- the value is an object, and each of its members has one of the names
abbrev pub has_only : List (List ℕ) → Data → Bool
has_only ns null = false
has_only ns (boolean b) = false
has_only ns (number n) = false
has_only ns (string s) = false
has_only ns (array ds) = false
has_only ns (object ms) = are_among ms ns

-- the name and the value of the member, where there is just one
abbrev pub only_member : Members → Option (List ℕ × Data)
only_member no_members = None
only_member (member k d no_members) = Some (k, d)
only_member (member k d (member l e ms)) = None

-- by f where the value is there, and the default where it is not
abbrev pub optional : {A : Type 0} → Option Data → A → (Data → Result A Place) → Result A Place
optional None x f = Ok x
optional (Some d) x f = f d

-- ---- numbers

-- a whole number of 64 bits
abbrev pub int64_number : Data → Option ℤ
int64_number d = option_and_then as_i64 (as_number d)

-- a whole number of 32 bits
abbrev pub int32_number : Data → Option ℤ
int32_number d = option_and_then (λ z. if int_le (negsuc 2147483647) z && int_le z (pos 2147483647) then Some z else None) (int64_number d)

-- a whole number from 0 to 2147483647
abbrev pub natural_number : Data → Option ℤ
natural_number d = option_and_then (λ z. if int_le (pos 0) z then Some z else None) (int32_number d)

-- a whole number from 0 to 4294967295
abbrev pub small_number : Data → Option ℕ
small_number d = option_and_then (λ n. if nat_lt n (2 ^ 32) then Some n else None) (option_and_then as_u64 (as_number d))

-- ---- texts

-- a digit of hexadecimal text, of which letters are lower case
abbrev pub is_lower_digit : ℕ → Bool
is_lower_digit b = (nat_le 48 b && nat_le b 57) || (nat_le 97 b && nat_le b 102)

-- the bytes of so many pairs of hexadecimal digits, of which letters are lower case
abbrev pub lower_bytes : ℕ → List ℕ → Option (List ℕ)
lower_bytes n s = if list_all is_lower_digit s then result_ok (decode_sized s n) else None

-- the bytes of pairs of hexadecimal digits, in either case
abbrev pub hex_bytes : List ℕ → Option (List ℕ)
hex_bytes s = result_ok (decode_of s)

-- a number that 64 bits hold
abbrev pub fits_64 : ℤ → Bool
fits_64 z = int_le (negsuc 9223372036854775807) z && int_le z (pos 9223372036854775807)

-- the number of 64 bits that prints as the text
abbrev pub printed_number : List ℕ → Option ℤ
printed_number s = if fits_64 (signed_digits_value 10 s) && bytes_eq s (signed_decimal (signed_digits_value 10 s)) then Some (signed_digits_value 10 s) else None

-- ---- members by name

-- the value of the name
abbrev pub member_at : Place → List ℕ → Data → Result Data Place
member_at p name d = found p (get name d)

-- the array of the name
abbrev pub array_at : Place → List ℕ → Data → Result Items Place
array_at p name d = found p (option_and_then as_array (get name d))

-- the array of the name, and an empty one where there is none
abbrev pub array_or : Place → List ℕ → Data → Result Items Place
array_or p name d = optional (get name d) no_items (λ e. found p (as_array e))

-- the text of the name
abbrev pub text_at : Place → List ℕ → Data → Result (List ℕ) Place
text_at p name d = found p (option_and_then as_str (get name d))

-- the text of the name, and the default where there is none
abbrev pub text_or : Place → List ℕ → List ℕ → Data → Result (List ℕ) Place
text_or p name default d = optional (get name d) default (λ e. found p (as_str e))

-- the small number of the name
abbrev pub number_at : Place → List ℕ → Data → Result ℕ Place
number_at p name d = found p (option_and_then small_number (get name d))

-- the small number of the name, and 0 where there is none
abbrev pub number_or : Place → List ℕ → Data → Result ℕ Place
number_or p name d = optional (get name d) 0 (λ e. found p (small_number e))

-- the member of an object that has just one
abbrev pub single_at : Place → Data → Result (List ℕ × Data) Place
single_at p d = found p (option_and_then only_member (as_object d))

-- the bytes of a text of hexadecimal digits
abbrev pub bytes_at : Place → Data → Result (List ℕ) Place
bytes_at p d = found p (option_and_then hex_bytes (as_str d))
