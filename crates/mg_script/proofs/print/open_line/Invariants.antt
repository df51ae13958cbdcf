use Rattle.std.proofs.Common.{◌≡◌, ◌++◌, drop, string_bytes}
use Rattle.mg_script.specs.Text.{spaced}
use Rattle.mg_script.proofs.print.open_line.Given as goal

abbrev pub invariant-loop-id : goal.invariant-loop-id
invariant-loop-id l = string_bytes l.out ++ spaced (drop l.id-index l.ids) ≡ string_bytes l.initial.out ++ spaced l.ids
