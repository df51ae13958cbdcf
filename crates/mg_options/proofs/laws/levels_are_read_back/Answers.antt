use Rattle.mg_options.proofs.Levels.{levels_apart}
use Rattle.mg_options.proofs.laws.levels_are_read_back.Goals as goal

pub returns : goal.returns
returns c = levels_apart
