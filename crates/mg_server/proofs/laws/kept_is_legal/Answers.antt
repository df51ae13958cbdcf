use Rattle.mg_server.proofs.Legal.{kept_is_legal, kept_state}
use Rattle.mg_server.proofs.laws.kept_is_legal.Goals as goal

pub returns : goal.returns
returns c kept by lt = (kept_is_legal kept by lt, kept_state kept by lt)
