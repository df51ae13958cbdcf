-- What an update tells of the documents that it met.
use Rattle.std.specs.Prelude.{ℕ}
use Rattle.mg_ops.specs.declared.changes.UpdateCounts.{UpdateCounts}

-- how many it found, and how many it changed
abbrev pub counted : UpdateCounts → ℕ × ℕ
counted u = (u.matched, u.modified)
