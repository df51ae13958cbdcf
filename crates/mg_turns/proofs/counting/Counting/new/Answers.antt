use Rattle.std.proofs.Common.{rules}
use Rattle.mg_turns.proofs.OwnTickets.{own_begun}
use Rattle.mg_turns.proofs.counting.Counting.new.Goals as goal

pub invariant_of-result : goal.invariant_of-result
invariant_of-result g c = (
  search rules,
  own_begun _ _ _ _ _ _ _ _ c.requires.awaited c.requires.calls c.requires.held c.requires.polls,
)
