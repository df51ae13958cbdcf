use Rattle.std.proofs.Common.{Bool, sym, ap, ◌∙◌}
use Rattle.mg_cursor.specs.View.{current_of}
use Rattle.mg_change.specs.StreamView.{lent_if}
use Rattle.mg_change.proofs.changes.Changes.current.Goals as goal

pub returns-then-self : goal.returns-then-self
returns-then-self c = c.current.ensures ∙ sym (ap (λ (b : Bool). lent_if b (current_of c.args.self.now.buffer)) c.if-self.true)

pub returns-else-self : goal.returns-else-self
returns-else-self c = sym (ap (λ (b : Bool). lent_if b (current_of c.args.self.now.buffer)) c.if-self.false)
