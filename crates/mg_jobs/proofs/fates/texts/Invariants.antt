use Rattle.std.proofs.Common.{◌≡◌, map, string_bytes, take}
use Rattle.mg_jobs.proofs.fates.texts.Given as goal

abbrev pub invariant-loop-label : goal.invariant-loop-label
invariant-loop-label l = map string_bytes l.copies.items ≡ map string_bytes (take l.label-index l.labels)
