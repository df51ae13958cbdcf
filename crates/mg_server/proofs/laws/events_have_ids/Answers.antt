use Rattle.mg_server.proofs.Identified.{ahead_has_ids, batch_has_ids, reply_has_ids, view_has_ids}
use Rattle.mg_server.proofs.laws.events_have_ids.Goals as goal

pub returns-clause-views : goal.returns-clause-views
returns-clause-views c = view_has_ids

pub returns-clause-replies : goal.returns-clause-replies
returns-clause-replies c = reply_has_ids

pub returns-clause-batches : goal.returns-clause-batches
returns-clause-batches c = batch_has_ids

pub returns-clause-streams : goal.returns-clause-streams
returns-clause-streams c = ahead_has_ids
