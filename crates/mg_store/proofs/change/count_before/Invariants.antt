use Rattle.std.proofs.Common.{◌≡◌, ◌+◌, ◌≤◌, drop}
use Rattle.mg_server.specs.State.{count_before}
use Rattle.mg_store.specs.Holding.{entries_from}
use Rattle.mg_store.proofs.change.count_before.Given as goal

abbrev pub invariant-loop-place : goal.invariant-loop-place
invariant-loop-place l = (l.below ≤ l.place) × (l.below + count_before l.bound (drop l.place (entries_from 0 l.changes)) ≡ count_before l.bound (entries_from 0 l.changes))
