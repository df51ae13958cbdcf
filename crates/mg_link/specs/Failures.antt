-- The errors that replies are the cause of.
use Rattle.std.specs.Prelude.{◌≡◌, ℕ, ℤ, List, Option, Some, None, string_bytes}
use Rattle.mg_link.specs.declared.error.Error.{Error}
use Rattle.mg_link.specs.declared.error.ErrorKind.{ErrorKind}
use Rattle.mg_link.specs.declared.error.ErrorKind.TheVariants as kind
use Rattle.mg_link.specs.Reply.{Refusal}

abbrev pub refusal_by : ErrorKind → List (List ℕ) → Option Refusal
refusal_by (kind.Command c) labels = Some (record { code = c.code; name = string_bytes c.code_name; message = string_bytes c.message; labels = labels })
refusal_by _ labels = None

-- the refusal that an error tells of
abbrev pub refusal_in : Error → Option Refusal
refusal_in e = refusal_by e.kind e.labels

-- the error tells of this refusal, over a link of this wire version
pub record ErrorTells (told : Refusal) (version : ℤ) (e : Error) : Type 0 where
  pub refusal : refusal_in e ≡ Some told
  pub wire : e.wire_version ≡ Some version
