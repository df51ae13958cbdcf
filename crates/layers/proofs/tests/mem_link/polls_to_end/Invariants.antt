use Rattle.std.specs.Prelude.{IsSome}
use Rattle.mg_link.specs.Places.{out_at}
use Rattle.layers.proofs.tests.mem_link.polls_to_end.Given as goal

abbrev pub invariant-polls : goal.invariant-polls
invariant-polls g l = IsSome (out_at l.link.calls l.ticket)
