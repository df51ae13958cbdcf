use Rattle.std.proofs.Common.{◌-◌, ◌≤◌, length, take}
use Rattle.std.specs.Io.KnownBytes.{Appends}
use Rattle.mg_link.proofs.writing.write_all.Given as goal

abbrev pub invariant-writes : goal.invariant-writes
invariant-writes g l = record {
  within : l.done ≤ length l.text;
  taken : Appends (g.K.Sink.taken l.fn.sink) (g.K.Sink.taken l.sink) (take l.done l.text);
  later : g.K.Sink.faults l.fn.sink ≤ g.K.Sink.faults l.sink;
}

abbrev pub decreases-writes : goal.decreases-writes
decreases-writes g l = length l.text - l.done
