-- The words of events (change streams specification).
use Rattle.std.specs.Prelude.{List, [], ◌∷◌, string_bytes}
use Rattle.mg_link.specs.Words.{Word, spelled, other}
use Rattle.mg_records.specs.declared.event_words.OperationType.{OperationType}
use Rattle.mg_records.specs.declared.event_words.OperationType.TheVariants as operation
use Rattle.mg_records.specs.declared.event_words.ChangeNamespaceType.{ChangeNamespaceType}
use Rattle.mg_records.specs.declared.event_words.ChangeNamespaceType.TheVariants as namespace_type

abbrev pub operation_word : OperationType → Word
operation_word operation.Insert = spelled "insert"
operation_word operation.Update = spelled "update"
operation_word operation.Replace = spelled "replace"
operation_word operation.Delete = spelled "delete"
operation_word operation.Drop = spelled "drop"
operation_word operation.Rename = spelled "rename"
operation_word operation.DropDatabase = spelled "dropDatabase"
operation_word operation.Invalidate = spelled "invalidate"
operation_word (operation.Other s) = other (string_bytes s)

abbrev pub operations : List OperationType
operations = operation.Insert ∷ operation.Update ∷ operation.Replace ∷ operation.Delete ∷ operation.Drop ∷ operation.Rename ∷ operation.DropDatabase ∷ operation.Invalidate ∷ []

abbrev pub namespace_type_word : ChangeNamespaceType → Word
namespace_type_word namespace_type.Collection = spelled "Collection"
namespace_type_word namespace_type.Timeseries = spelled "Timeseries"
namespace_type_word namespace_type.View = spelled "View"
namespace_type_word (namespace_type.Other s) = other (string_bytes s)

abbrev pub namespace_types : List ChangeNamespaceType
namespace_types = namespace_type.Collection ∷ namespace_type.Timeseries ∷ namespace_type.View ∷ []
