use Rattle.std.proofs.Common.{◌≡◌, ◌<◌, ◌+◌, ◌^◌, drop}
use Rattle.mg_script.specs.Plan.{pieces}
use Rattle.mg_players.specs.Puts.{total}
use Rattle.mg_players.proofs.put.length_of.Given as goal

abbrev pub invariant-loop-piece : goal.invariant-loop-piece
invariant-loop-piece l = (l.total + total (pieces (drop l.piece-index l.cut)) ≡ total (pieces l.cut)) × (l.total < 2 ^ 64)
