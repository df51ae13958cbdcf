use Rattle.std.proofs.Common.{◌≡◌, map, take}
use Rattle.mg_store.specs.InMemory.{AreSmall}
use Rattle.mg_script.specs.Plan.{fated}
use Rattle.mg_jobs.proofs.fates.small_copies.Given as goal

abbrev pub invariant-loop-fate : goal.invariant-loop-fate
invariant-loop-fate l = record {
  same : map fated l.copies.items ≡ map fated (take l.fate-index l.fates);
  small : AreSmall l.copies.items;
}
