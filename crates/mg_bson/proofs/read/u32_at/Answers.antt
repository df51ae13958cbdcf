use Rattle.std.proofs.Common.{ap, ◌∙◌}
use Rattle.std.specs.Int.{w32, from_le_bytes}
use Rattle.mg_bson.proofs.Numbers.{first_four}
use Rattle.mg_bson.proofs.read.u32_at.Goals as goal

pub returns : goal.returns
returns c = c.from_le_bytes.ensures ∙ ap (from_le_bytes w32) c.array_of.ensures ∙ first_four c.args.bytes.now
