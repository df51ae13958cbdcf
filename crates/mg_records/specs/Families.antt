-- The records of options that share their fields with others.
use Rattle.mg_records.specs.declared.count.Summary.{Summary}
use Rattle.mg_records.specs.declared.marks.Distinct.{Distinct}
use Rattle.mg_records.specs.declared.marks.Estimate.{Estimate}
use Rattle.mg_records.specs.declared.marks.Modification.{Modification}
use Rattle.mg_records.specs.declared.marks.Replacement.{Replacement}
use Rattle.mg_records.specs.declared.update.UpdateOf.{UpdateOf}

abbrev pub UpdateOptions : Type 0
UpdateOptions = UpdateOf Modification

abbrev pub ReplaceOptions : Type 0
ReplaceOptions = UpdateOf Replacement

abbrev pub EstimatedDocumentCountOptions : Type 0
EstimatedDocumentCountOptions = Summary Estimate

abbrev pub DistinctOptions : Type 0
DistinctOptions = Summary Distinct
