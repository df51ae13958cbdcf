-- The collections of a bucket have names that may be where its database has one.
use Rattle.std.proofs.Common.{◌≡◌, ◌∷◌, ◌++◌, [], List, ℕ, Some, refl}
use Rattle.mg_link.specs.Namespace.{as_collection, as_database}
use Rattle.mg_server.specs.Files.{Bucket, chunks_space, files_space}
use Rattle.mg_ops.specs.Naming.{IsNamed}

longer_named : (name : List ℕ) (b : ℕ) (rest : List ℕ) → as_collection (name ++ b ∷ rest) ≡ Some (name ++ b ∷ rest)
longer_named [] b rest = refl
longer_named (n ∷ ns) b rest = refl

pub files_named : (at : Bucket) → as_database at.db ≡ Some at.db → IsNamed (files_space at)
files_named at named = record { db = named; coll = longer_named at.name _ _ }

pub chunks_named : (at : Bucket) → as_database at.db ≡ Some at.db → IsNamed (chunks_space at)
chunks_named at named = record { db = named; coll = longer_named at.name _ _ }
