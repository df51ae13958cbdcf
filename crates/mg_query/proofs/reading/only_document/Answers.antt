use Rattle.std.proofs.Common.{sym, ◌∙◌}
use Rattle.mg_bson.specs.Raw.{fields}
use Rattle.mg_query.proofs.Asking.{only_of_more, only_of_one}
use Rattle.mg_query.proofs.reading.only_document.Goals as goal

pub returns-then-not-is_single : goal.returns-then-not-is_single
returns-then-not-is_single c = sym (only_of_more c.args.name.now (fields c.args.stage.now) (sym c.is_single.ensures ∙ c.if-not-is_single.true))

pub returns : goal.returns
returns c = c.document_at.ensures ∙ sym (only_of_one c.args.name.now (fields c.args.stage.now) (sym c.is_single.ensures ∙ c.if-not-is_single.false))
