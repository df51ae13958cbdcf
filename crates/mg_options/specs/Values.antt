-- What a value that is handed on to be printed comes to.
use Rattle.std.specs.Prelude.{string_bytes, Some, option_map}
use Rattle.mg_bson.specs.Tree.{string}
use Rattle.mg_link.specs.Concerns.{acknowledged, level_word}
use Rattle.mg_options.specs.Collations.{alternate_word, case_first_word, max_variable_word}
use Rattle.mg_options.specs.Fields.{Shown, given}
use Rattle.mg_options.specs.Printing.{count, cursor, flag, inner, limit, members, millis, size, time, value, word, word_value}
use Rattle.mg_options.specs.Shown.{collation, full_document, full_document_before, hint, quorum, read_concern, selection, strength, write_concern}
use Rattle.mg_options.specs.declared.printing.Part.{Part}
use Rattle.mg_options.specs.declared.printing.Part.TheVariants as parts
use Rattle.mg_options.specs.declared.printing.Value.{Value}
use Rattle.mg_options.specs.declared.printing.Value.TheVariants as values

abbrev pub part : Part → Shown
part (parts.Text s) = given (Some (string (string_bytes s.now)))
part (parts.Flag b) = flag b
part (parts.Strength s) = strength s
part (parts.CaseFirst w) = word (option_map case_first_word w)
part (parts.Alternate w) = word (option_map alternate_word w)
part (parts.MaxVariable w) = word (option_map max_variable_word w)
part (parts.Level l) = given (Some (word_value (level_word l.now)))
part (parts.Acknowledgment w) = members (option_map acknowledged w.now)
part (parts.Millis n) = millis n

abbrev pub value_shown : Value → Shown
value_shown (values.Flag b) = flag b
value_shown (values.Size n) = size n
value_shown (values.Cursor n) = cursor n
value_shown (values.Count n) = count n
value_shown (values.Limit z) = limit z
value_shown (values.Millis n) = millis n
value_shown (values.Time t) = time t
value_shown (values.Document d) = inner d.now
value_shown (values.Any v) = value v.now
value_shown (values.Token t) = given t.now
value_shown (values.Hint h) = hint h.now
value_shown (values.Quorum q) = quorum q.now
value_shown (values.FullDocument f) = full_document f.now
value_shown (values.FullDocumentBefore f) = full_document_before f.now
value_shown (values.Collation c) = collation c.now
value_shown (values.ReadConcern c) = read_concern c.now
value_shown (values.WriteConcern c) = write_concern c.now
value_shown (values.Selection c) = selection c
