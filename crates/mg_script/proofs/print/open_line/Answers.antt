use Rattle.std.proofs.Common.{◌++◌, string_bytes, arith}
use Rattle.std.proofs.lemmas.Result.{on_ok_weaker}
use Rattle.mg_script.specs.Text.{spaced}
use Rattle.mg_script.proofs.Lines.{spaced_more, opens}
use Rattle.mg_script.proofs.print.open_line.Goals as goal

pub loop-id-preserved : goal.loop-id-preserved
loop-id-preserved c =
    spaced_more (string_bytes c.loop-id.out) (string_bytes c.write-in-loop-id.new.self) c.loop-id.id-index c.args.ids.now (string_bytes c.write.new.self ++ spaced c.args.ids.now) (omega arith) c.in_ok-write-2.ensures.bytes c.loop-id.invariant

pub returns : goal.returns
returns c =
    on_ok_weaker c.writeln-2.result (λ h. opens (string_bytes c.args.out.now) (string_bytes c.write.new.self) (string_bytes c.loop-id.out) (string_bytes c.writeln-2.new.self) c.loop-id.id-index c.args.ids.now (omega arith) (omega arith) c.in_ok-write.ensures.bytes c.loop-id.invariant h) c.writeln-2.ensures.bytes
