use Rattle.std.proofs.Common.{List, ℕ, ap}
use Rattle.mg_cursor.specs.Client.{holds, new_client}
use Rattle.mg_cursor.proofs.batches.Batches.new.Goals as goal

pub returns : goal.returns
returns c = ap (λ (b : List ℕ). record (new_client c.args.specification) { doing = holds b }) c.new.ensures
