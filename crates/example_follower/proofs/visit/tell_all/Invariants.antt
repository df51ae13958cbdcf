use Rattle.std.specs.Prelude.{string_bytes}
use Rattle.mg_change.specs.ClientStreams.{IsBetween}
use Rattle.mg_change.specs.StreamView.{IsPlainStream, stream_of}
use Rattle.example_follower.specs.Follower.{Reports}
use Rattle.example_follower.proofs.visit.tell_all.Given as goal

abbrev pub invariant-events : goal.invariant-events
invariant-events g l = record {
  rests : IsBetween (stream_of l.stream);
  sound : IsPlainStream l.stream;
  reports : Reports (g.L.Link.awaited l.initial.link) (g.L.Link.awaited l.link) (g.L.Link.log l.initial.link) (g.L.Link.log l.link) (stream_of l.initial.stream) (stream_of l.stream) (string_bytes l.initial.report) (string_bytes l.report);
}
