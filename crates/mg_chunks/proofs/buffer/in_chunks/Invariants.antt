use Rattle.std.proofs.Common.{◌≡◌, ◌++◌, length}
use Rattle.std.specs.List.{concat}
use Rattle.mg_chunks.specs.Buffers.{AreFull, items_of}
use Rattle.mg_chunks.proofs.buffer.in_chunks.Given as goal

abbrev pub invariant-chunks : goal.invariant-chunks
invariant-chunks l = record {
  these : concat (items_of l.full.items) ++ l.left ≡ l.bytes;
  full : AreFull l.size l.full.items;
}

abbrev pub decreases-chunks : goal.decreases-chunks
decreases-chunks l = length l.left
