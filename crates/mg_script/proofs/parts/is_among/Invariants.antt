use Rattle.std.proofs.Common.{◌≡◌, drop, map}
use Rattle.mg_script.specs.Parts.{is_among}
use Rattle.mg_script.proofs.parts.is_among.Given as goal

abbrev pub invariant-loop-known : goal.invariant-loop-known
invariant-loop-known l = is_among l.name (map (λ n. n.now) (drop l.known-index l.names)) ≡ is_among l.name (map (λ n. n.now) l.names)
