-- What the values of each type of option come to in a document.
use Rattle.std.specs.Prelude.{pos, List, Option, Some, None, option_map}
use Rattle.mg_bson.specs.Tree.{document, int32}
use Rattle.mg_bson.specs.Literal.{◌⇒◌⨾◌, empty}
use Rattle.mg_link.specs.Concerns.{acknowledged, level_word, preference_word}
use Rattle.mg_link.specs.declared.concern.ReadConcern.{ReadConcern}
use Rattle.mg_link.specs.declared.concern.WriteConcern.{WriteConcern}
use Rattle.mg_link.specs.declared.read_preference.ReadPreference.{ReadPreference}
use Rattle.mg_link.specs.declared.read_preference.ReadPreference.TheVariants as preference
use Rattle.mg_link.specs.declared.read_preference.SelectionCriteria.{SelectionCriteria}
use Rattle.mg_link.specs.declared.read_preference.SelectionCriteria.TheVariants as criteria
use Rattle.mg_options.specs.Fields.{Shown, absent, shown, given, nested, Line, ◌⟼◌⨾◌, nothing}
use Rattle.mg_options.specs.Printing.{flag, members, millis, word, word_value}
use Rattle.mg_options.specs.Collations.{collation_lines, strength_level}
use Rattle.mg_options.specs.Tables.{full_document_word, full_document_before_word, hint_value, quorum_members}
use Rattle.mg_options.specs.declared.collation.Collation.{Collation}
use Rattle.mg_options.specs.declared.collation.CollationStrength.{CollationStrength}
use Rattle.mg_options.specs.declared.full_document.FullDocumentType.{FullDocumentType}
use Rattle.mg_options.specs.declared.full_document.FullDocumentBeforeChangeType.{FullDocumentBeforeChangeType}
use Rattle.mg_options.specs.declared.write_words.CommitQuorum.{CommitQuorum}
use Rattle.mg_options.specs.declared.write_words.Hint.{Hint}

abbrev pub hint : Option Hint → Shown
hint h = given (option_map hint_value h)

abbrev pub quorum : Option CommitQuorum → Shown
quorum q = members (option_map quorum_members q)

abbrev pub full_document : Option FullDocumentType → Shown
full_document f = word (option_map full_document_word f)

abbrev pub full_document_before : Option FullDocumentBeforeChangeType → Shown
full_document_before f = word (option_map full_document_before_word f)

abbrev pub strength : Option CollationStrength → Shown
strength s = given (option_map (λ s. int32 (pos (strength_level s))) s)

abbrev pub collation : Option Collation → Shown
collation None = absent
collation (Some c) = nested (collation_lines c)

abbrev pub level_lines : ReadConcern → List Line
level_lines c = "level" ⟼ given (Some (word_value (level_word c.level))) ⨾ nothing

abbrev pub read_concern : Option ReadConcern → Shown
read_concern None = absent
read_concern (Some c) = nested (level_lines c)

abbrev pub write_concern_lines : WriteConcern → List Line
write_concern_lines c =
    "w" ⟼ members (option_map acknowledged c.w)
    ⨾ "j" ⟼ flag c.journal
    ⨾ "wtimeout" ⟼ millis c.w_timeout
    ⨾ nothing

abbrev pub write_concern : Option WriteConcern → Shown
write_concern None = absent
write_concern (Some c) = nested (write_concern_lines c)

-- the primary is what a server takes without a mode
abbrev pub mode : ReadPreference → Shown
mode preference.Primary = absent
mode p = shown (document ("mode" ⇒ word_value (preference_word p) ⨾ empty))

abbrev pub selection : Option SelectionCriteria → Shown
selection None = absent
selection (Some (criteria.ReadPreference p)) = mode p

-- what stands behind the body of a command
abbrev pub concern_lines : Option ReadConcern → Option WriteConcern → Option SelectionCriteria → List Line
concern_lines reads writes asks =
    "readConcern" ⟼ read_concern reads
    ⨾ "writeConcern" ⟼ write_concern writes
    ⨾ "$readPreference" ⟼ selection asks
    ⨾ nothing
