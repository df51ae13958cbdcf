use Rattle.std.proofs.Common.{◌≡◌, ◌-◌, length, take, drop, ap, ◌∙◌, arith}
use Rattle.std.proofs.lemmas.List.{length-take}
use Rattle.mg_link.proofs.Known.{gives, at_end}
use Rattle.mg_link.proofs.memory.MemSourceSource.read.Goals as goal

pub returns-clause-bytes : goal.returns-clause-bytes
returns-clause-bytes c =
    let bytes = c.args.self.now.bytes.items in
    let copied : c.copy_from_slice.new.self ≡ take c.min-count.result (take (length bytes - c.args.self.now.at) (drop c.args.self.now.at bytes)) = c.copy_from_slice.ensures.after ∙ ap (λ b. take c.min-count.result (take (length b - c.args.self.now.at) (drop c.args.self.now.at b))) c.deref-2.ensures.value in
    (gives bytes c.args.buf.now c.copy_from_slice.new.self c.args.self.now.at c.min-count.result (omega arith) (omega arith) (omega arith) copied, at_end bytes c.args.buf.now c.copy_from_slice.new.self c.args.self.now.at c.min-count.result c.args.self.now.piece c.args.self.now.some (omega (arith, c.min-count.ensures, c.min.ensures, ap length c.deref-2.ensures.value)) (omega (arith, c.copy_from_slice.ensures.len, length-take c.min-count.result c.args.buf.now)))
