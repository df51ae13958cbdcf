use Rattle.std.proofs.Common.{◌≡◌, ◌++◌, drop, map}
use Rattle.mg_query.proofs.lookup.add_pairs.Given as goal

abbrev pub invariant-loop-other : goal.invariant-loop-other
invariant-loop-other l = map (λ k. k.items) l.pairs.items ++ map (λ k. l.first.items ++ k.items) (drop l.other-index l.other-items) ≡ map (λ k. k.items) l.fn.pairs.items ++ map (λ k. l.first.items ++ k.items) l.others.items
