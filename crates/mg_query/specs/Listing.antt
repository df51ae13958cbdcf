-- What lists say of collections, by their names.
use Rattle.std.specs.Prelude.{ℕ, List, [], map}
use Rattle.std.specs.List.{filter}
use Rattle.std.specs.Str.{bytes_eq}
use Rattle.mg_bson.specs.Tree.{Fields}
use Rattle.mg_link.specs.Namespace.{Space}
use Rattle.mg_server.specs.Query.{collection_listed}

-- what a list says of a collection of this name
abbrev pub name_listed : Space → Fields
name_listed s = collection_listed (record { space = s; documents = []; indexes = [] })

-- what a list says of the names that are in the database
abbrev pub names_listed : List ℕ → List Space → List Fields
names_listed db names = map name_listed (filter (λ (n : Space). bytes_eq db n.db) names)
