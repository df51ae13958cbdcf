use Rattle.std.proofs.Common.{◌≡◌, ℕ, ◌<◌, true}
use Rattle.std.specs.Prelude.{◌||◌}
use Rattle.std.specs.BTreeSet.{IsOrdered, contains}
use Rattle.std.specs.List.{list_any}
use Rattle.std.specs.Ordering.{is_eq, nat_cmp}
use Rattle.mg_query.specs.Grouping.{stands}
use Rattle.mg_query.proofs.Grouping.{Member}
use Rattle.mg_query.proofs.groups.Groups.add_numbers.Given as goal

abbrev pub invariant-loop-member : goal.invariant-loop-member
invariant-loop-member l = (IsOrdered nat_cmp l.fn.numbers → IsOrdered nat_cmp l.numbers)
    × ((m : ℕ) → m < l.end → stands l.self l.key.items m ≡ true → (contains nat_cmp l.numbers m || list_any (λ (p : Member). is_eq (nat_cmp p.1 m)) l.member-iterator) ≡ true)
    × ((m : ℕ) → contains nat_cmp l.fn.numbers m ≡ true → contains nat_cmp l.numbers m ≡ true)
