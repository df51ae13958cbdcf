use Rattle.std.proofs.Common.{refl, ap, inl, inr}
use Rattle.std.proofs.lemmas.Bool.{iff_false}
use Rattle.mg_change.specs.StreamView.{changes_of}
use Rattle.mg_change.specs.declared.counts.Counts.{Counts}
use Rattle.mg_change.proofs.changes.Changes.count.Goals as goal

pub returns-then-is_exhausted-clause-counts : goal.returns-then-is_exhausted-clause-counts
returns-then-is_exhausted-clause-counts c = (refl, inl (c.is_exhausted.ensures.0 c.if-is_exhausted.true))

pub returns-in-Some-clause-counts : goal.returns-in-Some-clause-counts
returns-in-Some-clause-counts c = (λ none_held. iff_false c.is_exhausted.ensures c.if-is_exhausted.false none_held, c.in-Some.ensures.0, ap (λ (n : Counts). record (changes_of c.args.self.now) { counts = n }) c.in-Some.ensures.1)

pub returns-in-None-clause-counts : goal.returns-in-None-clause-counts
returns-in-None-clause-counts c = (refl, inr c.in-None.ensures)
