use Rattle.std.proofs.Common.{ap, ◌∙◌}
use Rattle.std.specs.Int.{w64, from_le_bytes}
use Rattle.mg_bson.proofs.Numbers.{first_eight}
use Rattle.mg_bson.proofs.read.u64_at.Goals as goal

pub returns : goal.returns
returns c = c.from_le_bytes.ensures ∙ ap (from_le_bytes w64) c.array_of.ensures ∙ first_eight c.args.bytes.now
