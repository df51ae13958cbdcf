-- Fates whose refusals a reply can hold.
use Rattle.std.proofs.Common.{List, [], ◌∷◌, ◌++◌}
use Rattle.mg_store.specs.InMemory.{AreSmall, IsSmall}
use Rattle.mg_store.specs.declared.fate.Fate.{Fate}

pub small_more : (fates : List Fate) (f : Fate) → AreSmall fates → IsSmall f.kind → AreSmall (fates ++ f ∷ [])
small_more [] f all small = (small, tt)
small_more (g ∷ fates) f all small = (all.0, small_more fates f all.1 small)
