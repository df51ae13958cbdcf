-- What the values of options come to in a document.
use Rattle.std.specs.Prelude.{ℕ, ℤ, pos, nat_abs, Bool, List, [], ◌∷◌, Option, Some, None, option_map, if◌then◌else◌, ltb, ◌^◌}
use Rattle.mg_bson.specs.Tree.{Tree, Fields, Items, no_items, item, string, document, boolean, int32, int64, timestamp}
use Rattle.mg_bson.specs.Literal.{◌⇒◌⨾◌, empty}
use Rattle.mg_bson.specs.View.{tree}
use Rattle.mg_bson.specs.declared.tree.Bson.{Bson}
use Rattle.mg_bson.specs.declared.tree.Timestamp.{Timestamp}
use Rattle.mg_link.specs.Words.{Word, text}
use Rattle.mg_link.specs.Concerns.{Members, so_many, told_by}
use Rattle.mg_link.specs.declared.error.BadArgument.TheVariants as argument
use Rattle.mg_options.specs.Fields.{Shown, absent, shown, unfit, given}

-- an array of a value for each
abbrev pub listed : {A : Type 0} → (A → Tree) → List A → Items
listed f [] = no_items
listed f (x ∷ xs) = item (f x) (listed f xs)

abbrev pub flag : Option Bool → Shown
flag b = given (option_map boolean b)

abbrev pub value : Option Bson → Shown
value v = given (option_map tree v)

abbrev pub inner : Option Fields → Shown
inner d = given (option_map document d)

-- the text of a word
abbrev pub word_value : Word → Tree
word_value w = string (text w)

abbrev pub word : Option Word → Shown
word w = given (option_map word_value w)

abbrev pub time_value : Timestamp → Tree
time_value t = timestamp t.time t.increment

abbrev pub time : Option Timestamp → Shown
time t = given (option_map time_value t)

-- the size of a batch
abbrev pub size : Option ℕ → Shown
size None = absent
size (Some n) = if ltb n (2 ^ 31) then shown (int32 (pos n)) else unfit argument.BatchSize

-- the size of a batch in the document of a cursor
abbrev pub cursor : Option ℕ → Shown
cursor None = absent
cursor (Some n) = if ltb n (2 ^ 31) then shown (document ("batchSize" ⇒ int32 (pos n) ⨾ empty)) else unfit argument.BatchSize

abbrev pub count : Option ℕ → Shown
count None = absent
count (Some n) = if ltb n (2 ^ 63) then shown (int64 (pos n)) else unfit argument.Number

-- a limit without its sign
abbrev pub limit : Option ℤ → Shown
limit None = absent
limit (Some z) = if ltb (nat_abs z) (2 ^ 63) then shown (int64 (pos (nat_abs z))) else unfit argument.Limit

-- milliseconds, in the smaller kind where they fit
abbrev pub millis : Option ℕ → Shown
millis None = absent
millis (Some n) = if ltb n (2 ^ 31) then shown (int32 (pos n)) else (if ltb n (2 ^ 63) then shown (int64 (pos n)) else unfit argument.Number)

-- how many servers, or the word for them
abbrev pub members_of : Members → Shown
members_of (so_many n) = if ltb n (2 ^ 31) then shown (int32 (pos n)) else unfit argument.Number
members_of (told_by w) = shown (word_value w)

abbrev pub members : Option Members → Shown
members None = absent
members (Some m) = members_of m
