use Rattle.std.proofs.Common.{Option, Some, sym, ap, ◌∙◌}
use Rattle.mg_bson.specs.Walks.{Walk, without_front}
use Rattle.mg_cursor.specs.View.{behind_in, current_in, whole_in}
use Rattle.mg_cursor.proofs.buffer.BatchBuffer.pass_over.Goals as goal

pub returns-in-Some-clause-current : goal.returns-in-Some-clause-current
returns-in-Some-clause-current c = ap (λ (w : Walk). w.current) c.pass_over.ensures ∙ sym (ap current_in c.in-Some.is)

pub returns-in-Some-clause-behind : goal.returns-in-Some-clause-behind
returns-in-Some-clause-behind c = ap (λ (w : Walk). w.behind) c.pass_over.ensures ∙ sym (ap (λ (o : Option Walk). without_front (behind_in o)) c.in-Some.is)

pub returns-in-Some-clause-reply : goal.returns-in-Some-clause-reply
returns-in-Some-clause-reply c = ap (λ (w : Walk). Some w.whole) c.pass_over.ensures ∙ sym (ap whole_in c.in-Some.is)

pub returns-in-None-clause-behind : goal.returns-in-None-clause-behind
returns-in-None-clause-behind c = ap behind_in c.in-None.is ∙ sym (ap (λ (o : Option Walk). without_front (behind_in o)) c.in-None.is)
