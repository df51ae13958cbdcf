-- Indexes, as the store holds them.
use Rattle.std.specs.Prelude.{List, Option, string_bytes}
use Rattle.mg_bson.specs.Tree.{Items}
use Rattle.mg_bson.specs.Raw.{fields}
use Rattle.mg_bson.specs.Reading.{◌>>=◌}
use Rattle.mg_server.specs.Commands.{documents_in, indexes_by}
use Rattle.mg_server.specs.State.{Index}
use Rattle.mg_query.specs.declared.index.Index as code

-- the index that the code holds
abbrev pub index_held : code.Index → Index
index_held i = record { name = string_bytes i.name; key = fields i.key }

-- the indexes that values describe, where each describes one
abbrev pub indexes_among : Items → Option (List Index)
indexes_among ts = documents_in ts >>= indexes_by
