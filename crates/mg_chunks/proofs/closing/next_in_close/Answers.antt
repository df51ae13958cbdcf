use Rattle.std.proofs.Common.{◌≡◌, Bool, true, false, sym, ap, arith, nat_lt}
use Rattle.std.proofs.lemmas.Bool.Decides.{nat_tests}
use Rattle.std.specs.Prelude.{if◌then◌else◌}
use Rattle.mg_chunks.specs.declared.closing.Closing.TheVariants as closing
use Rattle.mg_chunks.proofs.closing.next_in_close.Goals as goal

pub returns-then-left-gt0 : goal.returns-then-left-gt0
returns-then-left-gt0 c =
    let left = c.if-left-gt0.true in
    let some : nat_lt 0 c.args.left ≡ true = grind (arith, nat_tests, left) in
    sym (ap (λ (b : Bool). if b then closing.LastChunk else closing.Record) some)

pub returns-else-left-gt0 : goal.returns-else-left-gt0
returns-else-left-gt0 c =
    let none = c.if-left-gt0.false in
    let nothing : nat_lt 0 c.args.left ≡ false = grind (arith, nat_tests, none) in
    sym (ap (λ (b : Bool). if b then closing.LastChunk else closing.Record) nothing)
