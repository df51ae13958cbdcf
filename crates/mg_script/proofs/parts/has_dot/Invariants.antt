use Rattle.std.proofs.Common.{◌≡◌, drop}
use Rattle.mg_link.specs.Namespace.{has_dot}
use Rattle.mg_script.proofs.parts.has_dot.Given as goal

abbrev pub invariant-loop-byte : goal.invariant-loop-byte
invariant-loop-byte l = has_dot (drop l.byte-index l.byte-items) ≡ has_dot l.byte-items
