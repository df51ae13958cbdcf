-- How the place of a fault is printed.
use Rattle.std.specs.Prelude.{ℕ, List, ◌++◌, codes, decimal}
use Rattle.mg_script.specs.declared.fault.Place.{Place}
use Rattle.mg_script.specs.declared.fault.Place.TheVariants as place

abbrev pub place_text : Place → List ℕ
place_text place.NotJson = codes "not json"
place_text place.Top = codes "top"
place_text (place.Job n) = codes "job " ++ decimal n
place_text (place.Order n) = codes "order " ++ decimal n
place_text (place.Fate n) = codes "fate " ++ decimal n
