-- Documents that were received and break their grammar.
use Rattle.std.specs.Prelude.{◌≡◌, Result, Ok, Err}
use Rattle.mg_link.specs.Errors.{plain}
use Rattle.mg_link.specs.declared.error.Error.{Error}
use Rattle.mg_link.specs.declared.error.ErrorKind.TheVariants as kind
use Rattle.mg_link.specs.declared.error.Malformed.{Malformed}

-- a document breaks its grammar so
abbrev pub broken : Malformed → Error
broken m = plain (kind.InvalidResponse m)

-- this is the error of what is none
abbrev pub Breaks : {Y : Type 0} → Result Y Malformed → Error → Type 0
Breaks (Ok y) e = ⊥
Breaks (Err m) e = e ≡ broken m
