-- What the ends over memory hold, and how many of their calls failed.
use Rattle.std.specs.Prelude.{ℕ, List, drop}
use Rattle.mg_link.specs.declared.memory.MemSource.{MemSource}
use Rattle.mg_link.specs.declared.memory.MemSink.{MemSink}

-- the bytes that were not read yet
abbrev pub source_left : MemSource → List ℕ
source_left s = drop s.at s.bytes.items

abbrev pub source_faults : MemSource → ℕ
source_faults s = s.faults

-- the bytes that were taken
abbrev pub sink_taken : MemSink → List ℕ
sink_taken s = s.bytes.items

abbrev pub sink_faults : MemSink → ℕ
sink_faults s = s.faults
