use Rattle.std.proofs.lemmas.Bool.Decides.{Decides-eqb}
use Rattle.mg_chunks.proofs.judging.has_all_chunks.Goals as goal

pub returns : goal.returns
returns c = Decides-eqb c.args.taken c.args.count
