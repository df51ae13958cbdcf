use Rattle.std.proofs.Common.{◌≡◌, ℕ, List, drop}
use Rattle.std.specs.Prelude.{◌||◌}
use Rattle.mg_query.proofs.Selecting.{is_among}
use Rattle.mg_query.proofs.selection.ordered.Given as goal

abbrev pub invariant-loop-key : goal.invariant-loop-key
invariant-loop-key l = (k : List ℕ) → (is_among k l.ordered.keys || is_among k (drop l.key-index l.key-items)) ≡ is_among k l.keys.items
