use Rattle.std.proofs.Common.{ap, ◌∙◌}
use Rattle.std.proofs.lemmas.Result.{IfOk-weaker}
use Rattle.serde_json.specs.Written.{has_float, compact_text}
use Rattle.mg_bson.specs.View.{tree}
use Rattle.mg_json.proofs.Printed.{json_whole}
use Rattle.mg_json.proofs.json.value_text.Goals as goal

pub returns : goal.returns
returns c = IfOk-weaker c.to_string.result _ _ (λ s h. h (ap has_float c.in_ok-json.ensures ∙ json_whole (tree c.args.value.now)) ∙ ap compact_text c.in_ok-json.ensures) c.to_string.ensures.text
