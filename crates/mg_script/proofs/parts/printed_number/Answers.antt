use Rattle.mg_script.proofs.Digits.{number_missing}
use Rattle.mg_script.proofs.parts.printed_number.Goals as goal

pub returns-in_default : goal.returns-in_default
returns-in_default c = number_missing c.args.text.now c.parse.result c.in_default.field-0 c.in_default.is c.parse.ensures.value.0
