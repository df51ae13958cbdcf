use Rattle.std.proofs.Common.{◌≡◌, ℤ, None, drop}
use Rattle.std.specs.Prelude.{if◌then◌else◌}
use Rattle.std.specs.BTreeMap.{get}
use Rattle.std.specs.Ordering.{int_cmp}
use Rattle.mg_server.specs.Rules.{is_id_among}
use Rattle.mg_store.proofs.content.remove_cursors.Given as goal

abbrev pub invariant-loop-id : goal.invariant-loop-id
invariant-loop-id l = (other : ℤ) → (if is_id_among other (drop l.id-index l.ids.items) then None else get int_cmp l.cursors other) ≡ (if is_id_among other l.ids.items then None else get int_cmp l.initial.cursors other)
