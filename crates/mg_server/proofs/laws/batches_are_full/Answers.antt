use Rattle.mg_server.proofs.Batched.{is_full}
use Rattle.mg_server.proofs.laws.batches_are_full.Goals as goal

pub returns : goal.returns
returns c = is_full
