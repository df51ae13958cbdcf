use Rattle.mg_link.proofs.Counted.{counted_id_apart}
use Rattle.mg_link.proofs.laws.counted_ids_differ.Goals as goal

pub returns : goal.returns
returns c = counted_id_apart
