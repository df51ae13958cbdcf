use Rattle.std.proofs.Common.{[]}
use Rattle.mg_link.specs.Acts.{IsOut}
use Rattle.mg_change.specs.ClientStreams.{stream_ticket}
use Rattle.mg_change.specs.StreamView.{IsPlainStream, stream_of}
use Rattle.example_follower.specs.Follower.{Answers}
use Rattle.example_follower.proofs.follow.next.Given as goal

abbrev pub invariant-polls : goal.invariant-polls
invariant-polls g l = record {
  held : IsOut (g.L.Link.awaited l.link) (stream_ticket (stream_of l.stream));
  sound : IsPlainStream l.stream;
  answers : Answers (g.L.Link.awaited l.initial.link) (g.L.Link.awaited l.link) (g.L.Link.log l.initial.link) (g.L.Link.log l.link) (stream_of l.initial.stream) (stream_of l.stream) [];
}
