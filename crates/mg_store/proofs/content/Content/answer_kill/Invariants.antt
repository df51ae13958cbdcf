use Rattle.std.proofs.Common.{◌≡◌, ℕ, ℤ, true, false, ◌++◌}
use Rattle.std.specs.BTreeSet.{contains}
use Rattle.std.specs.Ordering.{int_cmp}
use Rattle.mg_bson.specs.Tree.{items_size}
use Rattle.mg_bson.specs.Raw.{items, items_left}
use Rattle.mg_server.specs.State.{State}
use Rattle.mg_server.specs.Rules.{is_id_among}
use Rattle.mg_query.specs.Asking.{ids_among}
use Rattle.mg_store.specs.Contents.{Represents}
use Rattle.mg_store.proofs.Killing.{Lists}
use Rattle.mg_store.proofs.content.Content.answer_kill.Given as goal

abbrev pub invariant-ids : goal.invariant-ids
invariant-ids l = record {
  lists : (s : State) (given : ℕ) → Represents l.self s given → Lists true s l.killed l.named.items (ids_among (items_left l.left)) (ids_among (items l.ids)) × Lists false s l.not_found l.named.items (ids_among (items_left l.left)) (ids_among (items l.ids));
  these : l.named.items ++ ids_among (items_left l.left) ≡ ids_among (items l.ids);
  before : (q : ℤ) → contains int_cmp l.before q ≡ is_id_among q l.named.items;
}

abbrev pub decreases-ids : goal.decreases-ids
decreases-ids l = items_size (items_left l.left)
