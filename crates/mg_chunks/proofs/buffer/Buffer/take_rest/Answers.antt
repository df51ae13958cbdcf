use Rattle.std.proofs.Common.{◌≡◌, ◌++◌, ℕ, List, length, sym, ap, ◌∙◌, arith}
use Rattle.std.specs.List.{concat}
use Rattle.std.specs.Prelude.{Vec}
use Rattle.std.specs.declared.alloc.Global.{Global}
use Rattle.mg_chunks.specs.Buffers.{items_of}
use Rattle.mg_chunks.proofs.buffer.Buffer.take_rest.Goals as goal

pub returns-clause-taken : goal.returns-clause-taken
returns-clause-taken c =
    ap (λ (v : Vec ℕ Global). v.items) c.replace.ensures.value
    ∙ sym (ap (λ (fs : List (Vec ℕ Global)). concat (items_of fs) ++ c.args.self.now.rest.items) c.requires.none)

pub returns-clause-left : goal.returns-clause-left
returns-clause-left c = ap (λ (fs : List (Vec ℕ Global)). concat (items_of fs) ++ c.replace.new.dest.items) c.requires.none ∙ ap (λ (v : Vec ℕ Global). v.items) c.replace.ensures.after ∙ c.new.ensures.items

pub returns-clause-keeps : goal.returns-clause-keeps
returns-clause-keeps c =
    let none : length c.replace.new.dest.items ≡ 0 = ap length (ap (λ (v : Vec ℕ Global). v.items) c.replace.ensures.after ∙ c.new.ensures.items) in
    let sized = c.requires.cut.sized in
    record { sized = sized; full = c.requires.cut.full; short = omega (arith, none, sized) }
