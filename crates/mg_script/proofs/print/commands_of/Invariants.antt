use Rattle.std.proofs.Common.{◌≡◌, length, map, take, sum}
use Rattle.mg_script.proofs.print.commands_of.Given as goal

abbrev pub invariant-loop-log : goal.invariant-loop-log
invariant-loop-log l = l.total ≡ sum (map length (take l.log-index l.logs))
