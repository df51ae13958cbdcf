use Rattle.std.proofs.lemmas.Bool.Decides.{Decides-eqb}
use Rattle.mg_gridfs.proofs.download.is_same.Goals as goal

pub returns : goal.returns
returns c = Decides-eqb c.args.a c.args.b
