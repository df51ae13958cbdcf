use Rattle.mg_server.proofs.Sorting.{is_sorted}
use Rattle.mg_server.proofs.laws.sorted_by_keys.Goals as goal

pub returns : goal.returns
returns c = is_sorted
