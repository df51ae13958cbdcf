-- The entries of updates and deletes by the rules.
use Rattle.std.proofs.Common.{ℕ, suc, List, [], ◌∷◌, refl}
use Rattle.mg_bson.specs.Tree.{Fields}
use Rattle.mg_link.specs.Namespace.{Space}
use Rattle.mg_server.specs.State.{deletes, drops, invalidates}
use Rattle.mg_server.specs.Write.{Modification, sets, puts, change_of}
use Rattle.mg_server.specs.Step.{IsEventOf, AreEventsOf}
use Rattle.mg_server.specs.Rules.{entry_before, modified_event, modified_entries, deleted_entries, dropped_event, invalidate_event, dropped_entries}
use Rattle.mg_server.specs.Kept.{AreStoreEntries}

-- ---- entries

modified_is : (place : ℕ) (space : Space) (m : Modification) (d : Fields) → IsEventOf space (change_of m) (entry_before place space (change_of m) (modified_event place space m d))
modified_is place space (sets new) d = record { at = refl; change_is = refl; token_is = refl }
modified_is place space (puts document) d = record { at = refl; change_is = refl; token_is = refl }

pub modified_are : (place : ℕ) (space : Space) (m : Modification) (ds : List Fields) → AreStoreEntries place (modified_entries place space m ds)
modified_are place space m [] = tt
modified_are place space m (d ∷ ds) = (record { token_is = refl; time_is = refl }, modified_are (suc place) space m ds)

pub modified_tell : (place : ℕ) (space : Space) (m : Modification) (ds : List Fields) → AreEventsOf space (change_of m) ds (modified_entries place space m ds)
modified_tell place space m [] = tt
modified_tell place space m (d ∷ ds) = (modified_is (suc place) space m d, modified_tell (suc place) space m ds)

pub deleted_are : (place : ℕ) (space : Space) (ds : List Fields) → AreStoreEntries place (deleted_entries place space ds)
deleted_are place space [] = tt
deleted_are place space (d ∷ ds) = (record { token_is = refl; time_is = refl }, deleted_are (suc place) space ds)

pub deleted_tell : (place : ℕ) (space : Space) (ds : List Fields) → AreEventsOf space deletes ds (deleted_entries place space ds)
deleted_tell place space [] = tt
deleted_tell place space (d ∷ ds) = (record { at = refl; change_is = refl; token_is = refl }, deleted_tell (suc place) space ds)

pub dropped_are : (place : ℕ) (space : Space) → AreStoreEntries place (dropped_entries place space)
dropped_are place space = (record { token_is = refl; time_is = refl }, (record { token_is = refl; time_is = refl }, tt))

pub drop_tells : (place : ℕ) (space : Space) → IsEventOf space drops (entry_before place space drops (dropped_event place space))
drop_tells place space = record { at = refl; change_is = refl; token_is = refl }

pub end_tells : (place : ℕ) (space : Space) → IsEventOf space invalidates (entry_before place space invalidates (invalidate_event place))
end_tells place space = record { at = refl; change_is = refl; token_is = refl }
