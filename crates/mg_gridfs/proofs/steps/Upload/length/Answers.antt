use Rattle.std.proofs.Common.{◌+◌, ◌*◌, ◌^◌, ◌<◌, ℕ, length, sym, ap, ◌∙◌, subst, arith}
use Rattle.std.proofs.lemmas.Nat.{column_fits}
use Rattle.mg_chunks.specs.Buffers.{held_of}
use Rattle.mg_chunks.proofs.Buffering.{short_rest}
use Rattle.mg_gridfs.proofs.steps.Upload.length.Goals as goal

pub overflow_mul-full : goal.overflow_mul-full
overflow_mul-full c =
    let u = c.args.self.now in
    let most = column_fits u.sent u.aim.size (2 ^ 31) (2 ^ 31) c.requires.sound.size.small c.requires.sound.few in
    omega (arith, most)

pub overflow_add-result : goal.overflow_add-result
overflow_add-result c =
    let u = c.args.self.now in
    let most = column_fits u.sent u.aim.size (2 ^ 31) (2 ^ 31) c.requires.sound.size.small c.requires.sound.few in
    let small = c.requires.sound.size.small in
    let short = c.requires.buffer.cut.short in
    let sized = c.requires.buffer.sized in
    let rest = c.rest_len.ensures in
    omega (arith, most, small, short, sized, rest)

pub returns : goal.returns
returns c =
    let u = c.args.self.now in
    let short = subst (λ (n : ℕ). length (held_of u.buffer) < n) (sym c.requires.buffer.sized) c.requires.short in
    ap (λ (n : ℕ). u.sent * u.aim.size + n) (c.rest_len.ensures ∙ sym (ap length (short_rest u.buffer c.requires.buffer.cut short)))
