use Rattle.std.proofs.Common.{is_some, sym, ap, ◌∙◌}
use Rattle.mg_bson.specs.RawView.{value}
use Rattle.mg_change.proofs.Parts.{some_seen}
use Rattle.mg_change.proofs.changes.answering.has_id.Goals as goal

pub returns : goal.returns
returns c = c.is_some.ensures ∙ sym (some_seen value c.get.result) ∙ ap is_some c.get.ensures
