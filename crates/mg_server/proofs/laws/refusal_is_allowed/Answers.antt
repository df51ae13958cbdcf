use Rattle.mg_server.proofs.Allowed.{refusal_allowed}
use Rattle.mg_server.proofs.laws.refusal_is_allowed.Goals as goal

pub returns : goal.returns
returns c s given started kept code labels h lt e = refusal_allowed s given started kept code labels h lt e
