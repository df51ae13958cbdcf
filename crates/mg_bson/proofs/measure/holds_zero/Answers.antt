use Rattle.std.proofs.Common.{eqb, ap, ◌∙◌}
use Rattle.std.specs.List.{list_any}
use Rattle.mg_bson.proofs.Cutting.{any_zero}
use Rattle.mg_bson.proofs.measure.holds_zero.Goals as goal

pub returns : goal.returns
returns c = c.contains.ensures.value ∙ ap (list_any (λ b. eqb b 0)) c.as_bytes.ensures.value ∙ any_zero c.args.text.now
