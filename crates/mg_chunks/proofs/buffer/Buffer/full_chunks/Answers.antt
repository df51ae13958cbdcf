use Rattle.std.proofs.Common.{◌∙◌}
use Rattle.mg_chunks.proofs.buffer.Buffer.full_chunks.Goals as goal

pub returns : goal.returns
returns c = c.len.ensures ∙ c.args.self.now.full.ok.0
