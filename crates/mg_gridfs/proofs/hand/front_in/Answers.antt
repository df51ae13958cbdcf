use Rattle.std.proofs.Common.{ℕ, List, Option, [], option_map, ap, ◌∙◌}
use Rattle.std.specs.Prelude.{unwrap_or}
use Rattle.mg_gridfs.specs.DownloadView.{data_in}
use Rattle.mg_gridfs.proofs.hand.front_in.Goals as goal

pub returns-in-Some : goal.returns-in-Some
returns-in-Some c = c.data_in.ensures ∙ ap (λ (o : Option (List ℕ)). unwrap_or (option_map data_in o) []) c.in-Some.ensures

pub returns-in-None : goal.returns-in-None
returns-in-None c = ap (λ (o : Option (List ℕ)). unwrap_or (option_map data_in o) []) c.in-None.ensures
