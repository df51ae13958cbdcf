use Rattle.mg_players.proofs.player.PlayerKind.into_outcome.Goals as goal

pub returns-in-Insert-clause-of : goal.returns-in-Insert-clause-of
returns-in-Insert-clause-of c = rw c.in-Insert.is c.into_outcome.ensures.of

pub returns-in-Follow-clause-of : goal.returns-in-Follow-clause-of
returns-in-Follow-clause-of c = rw c.in-Follow.is c.into_outcome-in-Follow.ensures.of

pub returns-in-Put-clause-of : goal.returns-in-Put-clause-of
returns-in-Put-clause-of c = rw c.in-Put.is c.into_outcome-in-Put.ensures.of

pub returns-in-Get-clause-of : goal.returns-in-Get-clause-of
returns-in-Get-clause-of c = rw c.in-Get.is c.into_outcome-in-Get.ensures.of
