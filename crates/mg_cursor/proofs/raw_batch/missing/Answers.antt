use Rattle.std.proofs.Common.{ap, ◌∙◌}
use Rattle.std.specs.Prelude.{option_and_then}
use Rattle.mg_bson.specs.Find.{as_document}
use Rattle.mg_cursor.specs.Batches.{missing_by}
use Rattle.mg_cursor.proofs.raw_batch.missing.Goals as goal

pub returns-in-Some-as_document : goal.returns-in-Some-as_document
returns-in-Some-as_document c = ap missing_by (c.in-Some-as_document.ensures ∙ ap (option_and_then as_document) c.in-Some.ensures)

pub returns-in-Some : goal.returns-in-Some
returns-in-Some c = ap missing_by (c.in-None-as_document.ensures ∙ ap (option_and_then as_document) c.in-Some.ensures)

pub returns : goal.returns
returns c = ap missing_by (ap (option_and_then as_document) c.in-None.ensures)
