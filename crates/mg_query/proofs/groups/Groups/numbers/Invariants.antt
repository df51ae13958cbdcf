use Rattle.std.proofs.Common.{◌≡◌, ℕ, ◌<◌, true, take, Vec}
use Rattle.std.specs.declared.alloc.Global.{Global}
use Rattle.std.specs.BTreeSet.{IsOrdered, contains}
use Rattle.std.specs.List.{list_any}
use Rattle.std.specs.Ordering.{nat_cmp}
use Rattle.mg_query.specs.Grouping.{stands}
use Rattle.mg_query.proofs.groups.Groups.numbers.Given as goal

abbrev pub invariant-loop-key : goal.invariant-loop-key
invariant-loop-key l = IsOrdered nat_cmp l.numbers × ((m : ℕ) → m < l.end → list_any (λ (k : Vec ℕ Global). stands l.self k.items m) (take l.key-index l.key-items) ≡ true → contains nat_cmp l.numbers m ≡ true)
