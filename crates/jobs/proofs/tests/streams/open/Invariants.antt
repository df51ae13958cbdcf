use Rattle.mg_link.specs.Acts.{IsOut}
use Rattle.mg_link.specs.Places.{out_at}
use Rattle.mg_change.specs.OpeningView.{IsPlainOpening, ticket_in}
use Rattle.jobs.proofs.tests.streams.open.Given as goal

abbrev pub invariant-polls : goal.invariant-polls
invariant-polls l = record {
  out : IsOut (out_at l.link.calls) (ticket_in l.state);
  sound : IsPlainOpening l.state;
}
