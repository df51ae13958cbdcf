use Rattle.std.proofs.Common.{◌≡◌, drop, map, string_bytes}
use Rattle.mg_link.specs.Labels.{has_label}
use Rattle.mg_link.proofs.labels.Labels.contains.Given as goal

abbrev pub invariant-loop-word : goal.invariant-loop-word
invariant-loop-word l = has_label l.label (map string_bytes (drop l.word-index l.word-items)) ≡ has_label l.label (map string_bytes l.word-items)
