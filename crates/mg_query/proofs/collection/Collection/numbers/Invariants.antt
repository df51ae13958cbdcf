use Rattle.std.proofs.Common.{◌≡◌, ℕ, drop, Vec}
use Rattle.std.specs.Prelude.{◌||◌}
use Rattle.std.specs.declared.alloc.Global.{Global}
use Rattle.std.specs.BTreeSet.{IsOrdered, contains}
use Rattle.std.specs.List.{list_any}
use Rattle.std.specs.Ordering.{nat_cmp}
use Rattle.mg_query.specs.Numbering.{is_number, number_in}
use Rattle.mg_query.proofs.collection.Collection.numbers.Given as goal

abbrev pub invariant-loop-key : goal.invariant-loop-key
invariant-loop-key l = IsOrdered nat_cmp l.numbers
    × ((m : ℕ) → (contains nat_cmp l.numbers m || list_any (λ (k : Vec ℕ Global). is_number (number_in l.self.ids k.items) m) (drop l.key-index l.key-items)) ≡ list_any (λ (k : Vec ℕ Global). is_number (number_in l.self.ids k.items) m) l.keys.items)
