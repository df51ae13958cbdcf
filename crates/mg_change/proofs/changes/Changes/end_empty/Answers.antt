use Rattle.std.proofs.Common.{refl, ap, inl, inr}
use Rattle.std.proofs.lemmas.Bool.{iff_false}
use Rattle.mg_change.specs.declared.event_poll.EventPoll.TheVariants as poll
use Rattle.mg_change.proofs.changes.Changes.end_empty.Goals as goal

pub returns-then-is_exhausted : goal.returns-then-is_exhausted
returns-then-is_exhausted c = inl (c.is_exhausted.ensures.0 c.if-is_exhausted.true, refl)

pub returns-else-is_exhausted : goal.returns-else-is_exhausted
returns-else-is_exhausted c = inr (λ none_held. iff_false c.is_exhausted.ensures c.if-is_exhausted.false none_held, ap poll.Failed c.plain.ensures)
