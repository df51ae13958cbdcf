-- Values of commands: cursors, the names of indexes, and arrays of one document.
use Rattle.std.specs.Prelude.{ℕ, true, false, Bool, List, [], ◌∷◌, ◌++◌, Option, Some, None, if◌then◌else◌, ltb, ◌^◌, codes}
use Rattle.std.specs.Fmt.{signed_decimal}
use Rattle.mg_bson.specs.Tree.{Tree, string, document, array, int32, int64, Fields, no_fields, field, no_items, item}
use Rattle.mg_bson.specs.Literal.{empty}
use Rattle.mg_bson.specs.Reading.{◌>>=◌}
use Rattle.mg_link.specs.declared.error.BadArgument.{BadArgument}
use Rattle.mg_link.specs.declared.error.BadArgument.TheVariants as argument
use Rattle.mg_options.specs.Fields.{Shown, shown, unfit, Line, fields_in, first_unfit}
use Rattle.mg_ops.specs.Commands.{cursor_fields}

-- a size of a batch that is not asked for, where a command has no batch
abbrev pub size_for : Bool → ℕ → Option ℕ
size_for true n = None
size_for false n = Some n

-- the document of the cursor that is asked for, which is always there; the size is looked at also where it is not asked for
abbrev pub cursor_of_size : Bool → Option ℕ → Shown
cursor_of_size sizeless None = shown (document empty)
cursor_of_size sizeless (Some n) = if ltb n (2 ^ 31) then shown (document (cursor_fields (size_for sizeless n))) else unfit argument.BatchSize

-- the value of a key in the name of its index: a text or a whole number
abbrev pub key_text : Tree → Option (List ℕ)
key_text (string s) = Some s
key_text (int32 z) = Some (signed_decimal z)
key_text (int64 z) = Some (signed_decimal z)
key_text _ = None

-- two words with an underscore between them
abbrev pub underscored : List ℕ → List ℕ → List ℕ
underscored first second = (first ++ codes "_") ++ second

-- a key behind those before it
abbrev pub key_onto : List ℕ → List ℕ → List ℕ → List ℕ
key_onto [] k text = underscored k text
key_onto (b ∷ bs) k text = underscored (underscored (b ∷ bs) k) text

-- the names and values of keys, joined by underscores
abbrev pub keys_onto : List ℕ → Fields → Option (List ℕ)
keys_onto front no_fields = Some front
keys_onto front (field k t fs) = key_text t >>= λ text. keys_onto (key_onto front k text) fs

-- a text, where there is one
abbrev pub text_or_unfit : Option (List ℕ) → Shown
text_or_unfit None = unfit argument.Number
text_or_unfit (Some s) = shown (string s)

-- the name that an index gets of its keys, as `filename_1_uploadDate_1`
abbrev pub index_name : Fields → Shown
index_name keys = text_or_unfit (keys_onto [] keys)

-- an array of one document
abbrev pub one_by : Option BadArgument → Fields → Shown
one_by None fs = shown (array (item (document fs) no_items))
one_by (Some a) fs = unfit a

-- the one document of an array, as its fields
abbrev pub one_of : List Line → Shown
one_of ls = one_by (first_unfit ls) (fields_in ls)

-- a flag that is left out where it does not hold
abbrev pub only_true : Bool → Option Bool
only_true true = Some true
only_true false = None
