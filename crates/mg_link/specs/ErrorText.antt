-- The texts of errors that are fixed.
use Rattle.std.specs.Prelude.{ℕ, List, ◌++◌, Option, Some, None, codes, decimal, string_bytes}
use Rattle.mg_link.specs.declared.error.Error.{Error}
use Rattle.mg_link.specs.declared.error.ErrorKind.{ErrorKind}
use Rattle.mg_link.specs.declared.error.ErrorKind.TheVariants as kind
use Rattle.mg_link.specs.declared.error.BadArgument.{BadArgument}
use Rattle.mg_link.specs.declared.error.BadArgument.TheVariants as bad

-- the text of an argument that names no word of its list, with the value as given
abbrev pub argument_text : BadArgument → Option (List ℕ)
argument_text (bad.CollationStrength n) = Some (codes "invalid collation strength: " ++ decimal n)
argument_text (bad.CollationCaseFirst s) = Some (codes "invalid CollationCaseFirst: " ++ string_bytes s)
argument_text (bad.CollationAlternate s) = Some (codes "invalid collation alternate: " ++ string_bytes s)
argument_text (bad.CollationMaxVariable s) = Some (codes "invalid collation max variable: " ++ string_bytes s)
argument_text (bad.ReturnDocument s) = Some (codes "Unknown return document value: " ++ string_bytes s)
argument_text _ = None

abbrev pub kind_text : ErrorKind → Option (List ℕ)
kind_text (kind.InvalidArgument a) = argument_text a
kind_text _ = None

-- an error is printed as its argument where that has a fixed text
abbrev pub error_text : Error → Option (List ℕ)
error_text e = kind_text e.kind
