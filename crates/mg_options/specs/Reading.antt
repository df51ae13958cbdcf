-- Words that name nothing.
use Rattle.std.specs.Prelude.{◌≡◌, ◌++◌, ℕ, List, codes, Some}
use Prim.Native.String.{String}
use Rattle.mg_link.specs.Errors.{plain}
use Rattle.mg_link.specs.ErrorText.{error_text}
use Rattle.mg_link.specs.declared.error.Error.{Error}

-- the argument is outside its range, as the error's text says with the word as it was given
abbrev pub IsBadWord : String → List ℕ → Error → Type 0
IsBadWord says w e = (e ≡ plain e.kind) × (error_text e ≡ Some (codes says ++ w))
