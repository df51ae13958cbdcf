use Rattle.mg_server.proofs.Filling.{is_full_batch}
use Rattle.mg_server.proofs.laws.watch_batches_are_full.Goals as goal

pub returns : goal.returns
returns c = is_full_batch
