use Rattle.std.proofs.Common.{ap, ◌∙◌}
use Rattle.std.specs.Prelude.{option_and_then}
use Rattle.mg_change.specs.ClientStreams.{id_in}
use Rattle.mg_change.proofs.changes.answering.event_token.Goals as goal

pub returns-in-Some : goal.returns-in-Some
returns-in-Some c = c.lent_id.ensures ∙ ap (option_and_then id_in) c.in-Some.ensures

pub returns-in-None : goal.returns-in-None
returns-in-None c = ap (option_and_then id_in) c.in-None.ensures
