use Rattle.mg_change.proofs.Resting.{between_forgets, between_holds_none}
use Rattle.mg_change.proofs.laws.streams_rest.Goals as goal

pub returns-clause-ticket : goal.returns-clause-ticket
returns-clause-ticket c = between_holds_none

pub returns-clause-forgets : goal.returns-clause-forgets
returns-clause-forgets c = between_forgets
