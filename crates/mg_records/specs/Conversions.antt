-- Which record another becomes. Fields of the same name are kept, and nothing else is given.
use Rattle.std.specs.Prelude.{None}
use Rattle.mg_records.specs.Families.{ReplaceOptions, UpdateOptions}

abbrev pub update_of_replace : ReplaceOptions → UpdateOptions
update_of_replace o = record { array_filters = None; bypass_document_validation = o.bypass_document_validation; upsert = o.upsert; collation = o.collation; hint = o.hint; write_concern = o.write_concern; let_vars = o.let_vars; comment = o.comment; sort = o.sort; by = record {} }
