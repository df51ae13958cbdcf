use Rattle.mg_server.proofs.AtOnce.{kept_prompt}
use Rattle.mg_server.proofs.laws.kept_holds_nothing_back.Goals as goal

pub returns : goal.returns
returns c = kept_prompt
