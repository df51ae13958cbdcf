use Rattle.std.proofs.Common.{◌+◌, ◌≤◌}
use Rattle.mg_ops.specs.Limits.{max_documents}
use Rattle.mg_ops.specs.Underway.{IsBatch}
use Rattle.mg_ops.proofs.InsertCauses.{LeavesRoom}
use Rattle.mg_ops.proofs.inserting.batch_from.Given as goal

abbrev pub invariant-loop-i : goal.invariant-loop-i
invariant-loop-i l = record {
  these : IsBatch l.drawn l.documents l.from l.batch.items l.i;
  room : LeavesRoom l.batch.items l.room;
  few : l.i ≤ l.from + max_documents;
}
