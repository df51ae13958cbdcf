use Rattle.std.proofs.Common.{ap, ◌∙◌, is_some}
use Rattle.mg_steps.specs.Token.{place_empty}
use Rattle.mg_change.proofs.changes.Changes.place_empty.Goals as goal

pub returns : goal.returns
returns c = c.place_empty.ensures ∙ ap (place_empty c.args.self.now.token) (c.is_some.ensures ∙ ap is_some c.token.ensures)
