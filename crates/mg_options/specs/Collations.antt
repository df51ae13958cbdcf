-- Collations (the manual of the server, "Collation").
use Rattle.std.specs.Prelude.{ℕ, List, [], ◌∷◌, string_bytes, option_map, pos, Some}
use Rattle.mg_bson.specs.Tree.{int32, string}
use Rattle.mg_link.specs.Words.{Word, spelled}
use Rattle.mg_options.specs.Fields.{Line, given, ◌⟼◌⨾◌, nothing}
use Rattle.mg_options.specs.Printing.{flag, word}
use Rattle.mg_options.specs.declared.collation.Collation.{Collation}
use Rattle.mg_options.specs.declared.collation.CollationStrength.{CollationStrength}
use Rattle.mg_options.specs.declared.collation.CollationStrength.TheVariants as strength
use Rattle.mg_options.specs.declared.collation.CollationCaseFirst.{CollationCaseFirst}
use Rattle.mg_options.specs.declared.collation.CollationCaseFirst.TheVariants as case_first
use Rattle.mg_options.specs.declared.collation.CollationAlternate.{CollationAlternate}
use Rattle.mg_options.specs.declared.collation.CollationAlternate.TheVariants as alternate
use Rattle.mg_options.specs.declared.collation.CollationMaxVariable.{CollationMaxVariable}
use Rattle.mg_options.specs.declared.collation.CollationMaxVariable.TheVariants as max_variable

-- the level of each strength
abbrev pub strength_level : CollationStrength → ℕ
strength_level strength.Primary = 1
strength_level strength.Secondary = 2
strength_level strength.Tertiary = 3
strength_level strength.Quaternary = 4
strength_level strength.Identical = 5

abbrev pub case_first_word : CollationCaseFirst → Word
case_first_word case_first.Upper = spelled "upper"
case_first_word case_first.Lower = spelled "lower"
case_first_word case_first.Off = spelled "off"

abbrev pub case_firsts : List CollationCaseFirst
case_firsts = case_first.Upper ∷ case_first.Lower ∷ case_first.Off ∷ []

abbrev pub alternate_word : CollationAlternate → Word
alternate_word alternate.NonIgnorable = spelled "non-ignorable"
alternate_word alternate.Shifted = spelled "shifted"

abbrev pub alternates : List CollationAlternate
alternates = alternate.NonIgnorable ∷ alternate.Shifted ∷ []

abbrev pub max_variable_word : CollationMaxVariable → Word
max_variable_word max_variable.Punct = spelled "punct"
max_variable_word max_variable.Space = spelled "space"

abbrev pub max_variables : List CollationMaxVariable
max_variables = max_variable.Punct ∷ max_variable.Space ∷ []

-- the fields of a collation; the locale is always there
abbrev pub collation_lines : Collation → List Line
collation_lines o =
    "locale" ⟼ given (Some (string (string_bytes o.locale)))
    ⨾ "strength" ⟼ given (option_map (λ s. int32 (pos (strength_level s))) o.strength)
    ⨾ "caseLevel" ⟼ flag o.case_level
    ⨾ "caseFirst" ⟼ word (option_map case_first_word o.case_first)
    ⨾ "numericOrdering" ⟼ flag o.numeric_ordering
    ⨾ "alternate" ⟼ word (option_map alternate_word o.alternate)
    ⨾ "maxVariable" ⟼ word (option_map max_variable_word o.max_variable)
    ⨾ "normalization" ⟼ flag o.normalization
    ⨾ "backwards" ⟼ flag o.backwards
    ⨾ nothing
