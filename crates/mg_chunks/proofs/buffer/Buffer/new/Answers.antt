use Rattle.std.proofs.Common.{◌≡◌, ◌++◌, ℕ, List, length, sym, ap, ap₂, subst, arith}
use Rattle.std.specs.List.{concat}
use Rattle.std.specs.Prelude.{Vec}
use Rattle.std.specs.declared.alloc.Global.{Global}
use Rattle.mg_chunks.specs.Buffers.{AreFull, items_of}
use Rattle.mg_chunks.proofs.buffer.Buffer.new.Goals as goal

pub returns-clause-held : goal.returns-clause-held
returns-clause-held c = ap₂ (λ (fs : List (Vec ℕ Global)) (r : List ℕ). concat (items_of fs) ++ r) c.new.ensures.items c.new-2.ensures.items

pub returns-clause-cut : goal.returns-clause-cut
returns-clause-cut c =
    let some = c.requires in
    let none : length c.new-2.result.items ≡ 0 = ap length c.new-2.ensures.items in
    record { sized = some; full = subst (AreFull c.args.size) (sym c.new.ensures.items) tt; short = omega (arith, some, none) }
