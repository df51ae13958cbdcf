-- What lists of collections and of indexes hold (enumerating collections specification, "Full Collection Information"; index management specification, "Index Model").
use Rattle.std.specs.Prelude.{ℕ, List, Option, Some, option_map, codes, string_bytes}
use Rattle.mg_bson.specs.Tree.{Fields}
use Rattle.mg_bson.specs.Find.{as_document, as_string}
use Rattle.mg_bson.specs.Reading.{◌>>=◌}
use Rattle.mg_records.specs.Readings.{needed, optional}
use Rattle.mg_records.specs.declared.specifications.CollectionSpecification.{CollectionSpecification}
use Rattle.mg_records.specs.declared.specifications.IndexModel.{IndexModel}

pub record ListedCollection : Type 0 where
  pub name : List ℕ
  pub kind : List ℕ

abbrev pub collection : CollectionSpecification → ListedCollection
collection c = record { name = string_bytes c.name; kind = string_bytes c.collection_type }

-- the collection that a document stands for
abbrev pub collection_of : Fields → Option ListedCollection
collection_of d = needed as_string (codes "name") d
    >>= λ name. needed as_string (codes "type") d
    >>= λ kind. Some (record { name = name; kind = kind })

pub record ListedIndex : Type 0 where
  pub keys : Fields
  pub name : Option (List ℕ)

abbrev pub index : IndexModel → ListedIndex
index i = record { keys = i.keys; name = option_map string_bytes i.name }

-- the index that a document stands for
abbrev pub index_of : Fields → Option ListedIndex
index_of d = needed as_document (codes "key") d
    >>= λ keys. optional as_string (codes "name") d
    >>= λ name. Some (record { keys = keys; name = name })
