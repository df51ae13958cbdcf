use Rattle.std.proofs.Common.{◌≤◌}
use Rattle.mg_server.specs.State as state
use Rattle.mg_store.specs.Holding.{AreExact, IsWatch, entries_from}
use Rattle.mg_store.proofs.Batches.{Stands}
use Rattle.mg_store.proofs.change.events_from.Given as goal

abbrev pub invariant-loop-place : goal.invariant-loop-place
invariant-loop-place l = (l.left ≤ l.size) × ((w : state.Watch) → IsWatch l.watch w → AreExact l.changes → Stands w (entries_from 0 l.changes) l.from l.size l.events l.behind l.room l.left l.place)
