-- The errors after which a change stream goes on (drivers' specification of change streams, "Resumable Error").
use Rattle.std.specs.Prelude.{ℕ, ℤ, pos, List, [], ◌∷◌, Bool, true, false, Option, Some, None, codes, int_lt, if◌then◌else◌}
use Rattle.std.specs.Ordering.{int_eq}
use Rattle.mg_link.specs.Labels.{has_label}
use Rattle.mg_link.specs.Codes.{is_among, cursor_not_found}
use Rattle.mg_link.specs.declared.error.ErrorKind.{ErrorKind}
use Rattle.mg_link.specs.declared.error.ErrorKind.TheVariants as kind

-- the codes that resume where no label speaks for it
abbrev pub resumable_codes : List ℤ
resumable_codes = pos 6 ∷ pos 7 ∷ pos 63 ∷ pos 89 ∷ pos 91 ∷ pos 133 ∷ pos 150 ∷ pos 189 ∷ pos 234 ∷ pos 262 ∷ pos 9001 ∷ pos 10107 ∷ pos 11600 ∷ pos 11602 ∷ pos 13388 ∷ pos 13435 ∷ pos 13436 ∷ []

abbrev pub resumable_label : List ℕ
resumable_label = codes "ResumableChangeStreamError"

-- from this wire version on a server gives the label
abbrev pub labels_from : ℤ
labels_from = pos 9

-- what speaks for a resumption: below the version the code, from it on the label
unfoldable pub spoken_for : ℤ → List (List ℕ) → Option ℤ → Bool
spoken_for code labels None = false
spoken_for code labels (Some wire) = if int_lt wire labels_from then is_among code resumable_codes else has_label resumable_label labels

-- a change stream goes on after a refusal
unfoldable pub refusal_resumes : ℤ → List (List ℕ) → Option ℤ → Bool
refusal_resumes code labels wire = if int_eq code cursor_not_found then true else spoken_for code labels wire

-- a change stream goes on after an error of this kind, with these labels, over a link of this wire version
abbrev pub is_resumable : ErrorKind → List (List ℕ) → Option ℤ → Bool
is_resumable kind.Io labels wire = true
is_resumable (kind.InvalidResponse m) labels wire = true
is_resumable kind.BsonDeserialization labels wire = true
is_resumable (kind.Command refusal) labels wire = refusal_resumes refusal.code labels wire
is_resumable _ labels wire = false
