use Rattle.std.proofs.Common.{◌≡◌, drop}
use Rattle.mg_script.specs.Script.{first_missing}
use Rattle.mg_script.proofs.parse.first_missing.Given as goal

abbrev pub invariant-loop-n : goal.invariant-loop-n
invariant-loop-n l = first_missing l.count (drop l.n-index l.order) ≡ first_missing l.count l.order
