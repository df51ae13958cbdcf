use Rattle.std.proofs.Common.{◌≡◌, ◌++◌, map}
use Rattle.mg_bson.specs.Tree.{items_size}
use Rattle.mg_bson.specs.Raw.{items, items_left}
use Rattle.mg_query.specs.Asking.{keys_of}
use Rattle.mg_query.proofs.filter.keys_in.Given as goal

abbrev pub invariant-items : goal.invariant-items
invariant-items l = map (λ k. k.items) l.keys.items ++ keys_of (items_left l.left) ≡ keys_of (items l.array)

abbrev pub decreases-items : goal.decreases-items
decreases-items l = items_size (items_left l.left)
