use Rattle.std.proofs.Common.{◌<◌, ℕ, length, sym, ap, ◌∙◌, subst}
use Rattle.mg_chunks.specs.Buffers.{held_of}
use Rattle.mg_chunks.specs.Closings.{next_in_close}
use Rattle.mg_chunks.proofs.Buffering.{short_rest}
use Rattle.mg_gridfs.proofs.steps.Upload.closing.Goals as goal

pub returns : goal.returns
returns c =
    let u = c.args.self.now in
    let short = subst (λ (n : ℕ). length (held_of u.buffer) < n) (sym c.requires.buffer.sized) c.requires.short in
    c.next_in_close.ensures ∙ ap next_in_close (c.rest_len.ensures ∙ sym (ap length (short_rest u.buffer c.requires.buffer.cut short)))
