-- What an update makes of a document, as the store holds it.
use Rattle.std.specs.Prelude.{◌≡◌, ◌<◌, ◌≤◌, ℕ, length, true, List, Option, Some, None, Result, Ok, Err}
use Rattle.mg_bson.specs.Raw.{fields}
use Rattle.mg_bson.specs.Tree.{Fields}
use Rattle.mg_bson.specs.Bytes.{bytes}
use Rattle.mg_bson.specs.Writable.{max_len}
use Rattle.mg_server.specs.Write.{Modification, sets, puts, differs, modified}
use Rattle.mg_query.specs.declared.modification.Modification as code
use Rattle.mg_query.specs.declared.modification.Modification.TheVariants as modifications
use Rattle.mg_query.specs.declared.refusal.Refusal.TheVariants as refusals
use Rattle.mg_query.specs.declared.refusal.Stop.{Stop}
use Rattle.mg_query.specs.declared.refusal.Stop.TheVariants as stops
use Rattle.mg_query.specs.declared.modification.Altered.{Altered}

-- the modification that is lent
abbrev pub lent_modification : code.Modification → Modification
lent_modification (modifications.Set fs) = sets (fields fs)
lent_modification (modifications.Put d) = puts (fields d)

-- ---- a document that is altered

pub record IsAltered (m : Modification) (d : Fields) (a : Altered) : Type 0 where
  pub differs : differs d (modified m d) ≡ true
  pub document_is : a.document ≡ modified m d
  pub encoded_is : a.encoded ≡ bytes (modified m d)
  pub read_back : fields a.encoded ≡ modified m d

abbrev pub Alters : Modification → Fields → Option Altered → Type 0
Alters m d None = modified m d ≡ d
Alters m d (Some a) = IsAltered m d a

-- a document is encoded, or refused as too large for that
abbrev pub EncodesOr : Fields → Result (List ℕ) Stop → Type 0
EncodesOr d (Ok encoded) = (encoded ≡ bytes d) × (fields encoded ≡ d)
EncodesOr d (Err stops.Memory) = Unit {0}
EncodesOr d (Err (stops.Refused refusal)) = (refusal ≡ refusals.BadRequest) × (max_len < length (bytes d))

-- a document is altered or left equal, or it would be too large to be encoded, which the old one is not
abbrev pub AltersOr : Modification → Fields → Result (Option Altered) Stop → Type 0
AltersOr m d (Ok altered) = Alters m d altered
AltersOr m d (Err stops.Memory) = Unit {0}
AltersOr m d (Err (stops.Refused refusal)) = (refusal ≡ refusals.BadRequest) × (max_len < length (bytes (modified m d))) × (length (bytes d) ≤ max_len)
