use Rattle.std.proofs.Common.{inl, inr, ap}
use Rattle.mg_cursor.specs.declared.polls.ItemPoll.TheVariants as item
use Rattle.mg_cursor.proofs.documents.copied.Goals as goal

pub returns-in-Ok : goal.returns-in-Ok
returns-in-Ok c = inl (ap item.Item c.in-Ok.ensures.ok)

pub returns-in-Err : goal.returns-in-Err
returns-in-Err c = inr (ap item.Failed c.plain.ensures)
