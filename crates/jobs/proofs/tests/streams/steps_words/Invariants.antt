use Rattle.mg_link.specs.Acts.{IsOut}
use Rattle.mg_link.specs.Places.{out_at}
use Rattle.mg_change.specs.ClientStreams.{stream_ticket}
use Rattle.mg_change.specs.StreamView.{IsPlainStream, stream_of}
use Rattle.jobs.proofs.tests.streams.steps_words.Given as goal

abbrev pub invariant-polls : goal.invariant-polls
invariant-polls g l = record {
  out : IsOut (out_at l.link.calls) (stream_ticket (stream_of l.stream));
  sound : IsPlainStream l.stream;
}
