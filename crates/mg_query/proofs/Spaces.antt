-- The names of collections, in the order of a map.
use Rattle.std.proofs.Common.{Ordering, ◌≡◌, List, [], ◌∷◌, map}
use Rattle.std.specs.declared.cmp.Ordering.TheVariants.{Less}
use Rattle.std.specs.List.{AllByRecursion}
use Rattle.std.specs.List.Sorted.{IsStrictlySortedBy}
use Rattle.std.specs.Ordering.{ordering_then}
use Rattle.std.specs.String.{string_cmp}
use Rattle.mg_link.specs.declared.namespace.Namespace.{Namespace}
use Rattle.mg_link.specs.Namespace.{space}
use Rattle.mg_server.specs.State.{space_cmp}

abbrev pub ns_cmp : Namespace → Namespace → Ordering
ns_cmp a b = ordering_then (string_cmp a.db b.db) (string_cmp a.coll b.coll)

-- the names stand in order where the keys do
behind_spaces : (n : Namespace) (ns : List Namespace) → AllByRecursion (λ m. ns_cmp n m ≡ Less) ns → AllByRecursion (λ s. space_cmp (space n) s ≡ Less) (map space ns)
behind_spaces n [] h = tt
behind_spaces n (m ∷ ms) h = (h.0, behind_spaces n ms h.1)

pub spaces_sorted : (ns : List Namespace) → IsStrictlySortedBy ns_cmp ns → IsStrictlySortedBy space_cmp (map space ns)
unfolding IsStrictlySortedBy
spaces_sorted [] h = tt
spaces_sorted (n ∷ ns) h = (behind_spaces n ns h.0, spaces_sorted ns h.1)
