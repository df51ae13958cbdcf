use Rattle.std.proofs.Common.{◌≡◌, true, false, sym, ◌∙◌}
use Rattle.mg_players.proofs.follow.handed.Goals as goal

pub unreachable-requires : goal.unreachable-requires
unreachable-requires c = let bad : true ≡ false = sym c.in-Err.ensures.err.1 ∙ c.requires in cc
