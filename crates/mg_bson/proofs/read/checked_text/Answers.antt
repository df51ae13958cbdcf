use Rattle.std.proofs.Common.{◌∙◌, ap, option_map}
use Rattle.mg_bson.proofs.Cutting.{text_given}
use Rattle.mg_bson.proofs.read.checked_text.Goals as goal

pub returns : goal.returns
returns c = ap (option_map (λ s. s.now)) c.ok.ensures.value ∙ text_given (λ s. s.now) _ c.args.bytes.now c.from_utf8.result c.from_utf8.ensures.cases
