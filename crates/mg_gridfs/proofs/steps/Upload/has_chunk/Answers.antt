use Rattle.std.proofs.Common.{ℕ, length, nat_le, nat_lt, ap, ◌∙◌}
use Rattle.mg_chunks.specs.Buffers.{held_of}
use Rattle.mg_chunks.proofs.Buffering.{chunk_held}
use Rattle.mg_gridfs.proofs.steps.Upload.has_chunk.Goals as goal

pub returns : goal.returns
returns c =
    let u = c.args.self.now in
    ap (λ (n : ℕ). nat_lt 0 n) c.full_chunks.ensures ∙ chunk_held u.buffer c.requires.cut ∙ ap (λ (n : ℕ). nat_le n (length (held_of u.buffer))) c.requires.sized
