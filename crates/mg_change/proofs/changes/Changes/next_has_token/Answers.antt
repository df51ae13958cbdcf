use Rattle.std.proofs.Common.{◌∙◌}
use Rattle.mg_cursor.specs.View.{behind_of}
use Rattle.mg_change.proofs.Parts.{next_by, next_none}
use Rattle.mg_change.proofs.changes.Changes.next_has_token.Goals as goal

pub returns-in-Some : goal.returns-in-Some
returns-in-Some c = c.has_id.ensures ∙ next_by (behind_of c.args.self.now.buffer) c.in-Some.event c.in-Some.ensures

pub returns-in-None : goal.returns-in-None
returns-in-None c = next_none (behind_of c.args.self.now.buffer) c.in-None.ensures
