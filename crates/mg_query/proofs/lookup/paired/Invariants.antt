use Rattle.std.proofs.Common.{◌≡◌, ◌++◌, drop, map}
use Rattle.mg_query.specs.Grouping.{paired}
use Rattle.mg_query.proofs.lookup.paired.Given as goal

abbrev pub invariant-loop-first : goal.invariant-loop-first
invariant-loop-first l = map (λ k. k.items) l.pairs.items ++ paired (drop l.first-index l.first-items) l.others.items ≡ paired l.firsts.items l.others.items
