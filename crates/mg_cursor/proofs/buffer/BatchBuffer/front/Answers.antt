use Rattle.std.proofs.Common.{Option, sym, ap, ◌∙◌}
use Rattle.mg_bson.specs.Walks.{Walk, front_of}
use Rattle.mg_cursor.specs.View.{behind_in}
use Rattle.mg_cursor.proofs.buffer.BatchBuffer.front.Goals as goal

pub returns-in-Some : goal.returns-in-Some
returns-in-Some c = c.front.ensures ∙ sym (ap (λ (o : Option Walk). front_of (behind_in o)) c.in-Some.is)

pub returns-in-None : goal.returns-in-None
returns-in-None c = sym (ap (λ (o : Option Walk). front_of (behind_in o)) c.in-None.is)
