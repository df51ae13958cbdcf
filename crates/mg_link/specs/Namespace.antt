-- The names of collections, and what commands are aimed at.
use Rattle.std.specs.Prelude.{ℕ, ◌&&◌, ◌||◌, ◌==◌, ◌++◌, ◌∷◌, [], List, length, Bool, false, Option, Some, None, nat_lt, codes, string_bytes, if◌then◌else◌}
use Rattle.std.specs.List.{before_first, after_first, position_or_len}
use Rattle.mg_link.specs.declared.namespace.Namespace.{Namespace}
use Rattle.mg_link.specs.declared.namespace.OperationTarget.{OperationTarget}
use Rattle.mg_link.specs.declared.namespace.OperationTarget.TheVariants as targets

-- the name of a database, and that of a collection in it
pub record Space : Type 0 where
  pub db : List ℕ
  pub coll : List ℕ

-- what an aggregate or a watch is aimed at
pub data Target : Type 0 where
  database : (db : List ℕ) → Target
  collection : (space : Space) → Target
  cluster : Target

abbrev pub is_dot : ℕ → Bool
is_dot b = b == 46

abbrev pub has_dot : List ℕ → Bool
has_dot [] = false
has_dot (b ∷ bs) = b == 46 || has_dot bs

-- a text that may name a database: it is not empty and has no dot
abbrev pub as_database : List ℕ → Option (List ℕ)
as_database [] = None
as_database (b ∷ bs) = if has_dot (b ∷ bs) then None else Some (b ∷ bs)

-- a text that may name a collection: it is not empty
abbrev pub as_collection : List ℕ → Option (List ℕ)
as_collection [] = None
as_collection (b ∷ bs) = Some (b ∷ bs)

-- the namespace with this full name: the parts before and behind the first dot, where neither is empty
abbrev pub space_of : List ℕ → Option Space
space_of s = if nat_lt (position_or_len is_dot s) (length s) && nat_lt 0 (length (before_first is_dot s)) && nat_lt 0 (length (after_first is_dot s))
    then Some (record { db = before_first is_dot s; coll = after_first is_dot s }) else None

-- the full name of a collection
abbrev pub full_name : Space → List ℕ
full_name s = s.db ++ (codes "." ++ s.coll)

abbrev pub space : Namespace → Space
space n = record { db = string_bytes n.db; coll = string_bytes n.coll }

abbrev pub target : OperationTarget → Target
target (targets.Database db) = database (string_bytes db)
target (targets.Collection n) = collection (space n)
target targets.Cluster = cluster
