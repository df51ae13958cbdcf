-- What the events of change streams hold (change streams specification, "Response Format").
use Rattle.std.specs.Prelude.{ℕ, ℤ, List, Option, Some, None, map, option_map, option_and_then, codes, string_bytes}
use Rattle.mg_bson.specs.Tree.{Tree, Fields}
use Rattle.mg_bson.specs.Find.{as_date_time, as_document, as_int32, as_int64, as_string, as_timestamp}
use Rattle.mg_bson.specs.Reading.{◌>>=◌}
use Rattle.mg_bson.specs.declared.tree.DateTime.{DateTime}
use Rattle.mg_bson.specs.declared.tree.Timestamp.{Timestamp}
use Rattle.mg_link.specs.Words.{Word, named, other}
use Rattle.mg_records.specs.EventWords.{namespace_type_word, namespace_types, operation_word, operations}
use Rattle.mg_records.specs.Readings.{list_by, needed, not_null, optional}
use Rattle.mg_records.specs.declared.change_event.ChangeNamespace.{ChangeNamespace}
use Rattle.mg_records.specs.declared.change_event.ChangeStreamEvent.{ChangeStreamEvent}
use Rattle.mg_records.specs.declared.change_event.Documents.{Documents}
use Rattle.mg_records.specs.declared.change_event.Affected.{Affected}
use Rattle.mg_records.specs.declared.change_event.Times.{Times}
use Rattle.mg_records.specs.declared.update_description.TruncatedArray.{TruncatedArray}
use Rattle.mg_records.specs.declared.update_description.UpdateDescription.{UpdateDescription}

-- ---- words

abbrev pub word_or : {A : Type 0} → (A → Word) → List ℕ → Option A → Word
word_or table text None = other text
word_or table text (Some x) = table x

-- the word of a table that a text is, or else the text itself
abbrev pub word_by : {A : Type 0} → (A → Word) → List A → Tree → Option Word
word_by table all t = option_map (λ text. word_or table text (named table all text)) (as_string t)

-- ---- what an update changed

pub record Truncated : Type 0 where
  pub field : List ℕ
  pub new_size : ℤ

abbrev pub truncated : TruncatedArray → Truncated
truncated a = record { field = string_bytes a.field; new_size = a.new_size }

abbrev pub truncated_of : Fields → Option Truncated
truncated_of d = needed as_int32 (codes "newSize") d
    >>= λ new_size. needed as_string (codes "field") d
    >>= λ field. Some (record { field = field; new_size = new_size })

abbrev pub truncated_by : Tree → Option Truncated
truncated_by t = option_and_then truncated_of (as_document t)

pub record Update : Type 0 where
  pub updated : Fields
  pub removed : List (List ℕ)
  pub truncated : Option (List Truncated)
  pub disambiguated : Option Fields

abbrev pub update : UpdateDescription → Update
update u = record { updated = u.updated_fields; removed = map string_bytes u.removed_fields.items; truncated = option_map (λ arrays. map truncated arrays.items) u.truncated_arrays; disambiguated = u.disambiguated_paths }

abbrev pub update_of : Fields → Option Update
update_of d = needed as_document (codes "updatedFields") d
    >>= λ updated. needed (list_by as_string) (codes "removedFields") d
    >>= λ removed. optional as_document (codes "disambiguatedPaths") d
    >>= λ disambiguated. optional (list_by truncated_by) (codes "truncatedArrays") d
    >>= λ truncated. Some (record { updated = updated; removed = removed; truncated = truncated; disambiguated = disambiguated })

abbrev pub update_by : Tree → Option Update
update_by t = option_and_then update_of (as_document t)

-- ---- the parts of an event

-- a database, and a collection of it where one is named
pub record ChangeSpace : Type 0 where
  pub db : List ℕ
  pub coll : Option (List ℕ)

abbrev pub change_space : ChangeNamespace → ChangeSpace
change_space n = record { db = string_bytes n.db; coll = option_map string_bytes n.coll }

abbrev pub change_space_of : Fields → Option ChangeSpace
change_space_of d = needed as_string (codes "db") d
    >>= λ db. optional as_string (codes "coll") d
    >>= λ coll. Some (record { db = db; coll = coll })

abbrev pub change_space_by : Tree → Option ChangeSpace
change_space_by t = option_and_then change_space_of (as_document t)

pub record EventTimes : Type 0 where
  pub txn_number : Option ℤ
  pub cluster_time : Option (ℕ × ℕ)
  pub wall_time : Option ℤ

abbrev pub time_parts : Timestamp → ℕ × ℕ
time_parts t = (t.time, t.increment)

abbrev pub millis : DateTime → ℤ
millis t = t.millis

abbrev pub event_times : Times → EventTimes
event_times t = record { txn_number = t.txn_number; cluster_time = option_map time_parts t.cluster_time; wall_time = option_map millis t.wall_time }

abbrev pub times_of : Fields → Option EventTimes
times_of d = optional as_int64 (codes "txnNumber") d
    >>= λ txn_number. optional as_timestamp (codes "clusterTime") d
    >>= λ cluster_time. optional as_date_time (codes "wallTime") d
    >>= λ wall_time. Some (record { txn_number = txn_number; cluster_time = cluster_time; wall_time = wall_time })

pub record EventAffected : Type 0 where
  pub ns : Option ChangeSpace
  pub to : Option ChangeSpace
  pub ns_type : Option Word
  pub update : Option Update

abbrev pub event_affected : Affected → EventAffected
event_affected n = record { ns = option_map change_space n.ns; to = option_map change_space n.to; ns_type = option_map namespace_type_word n.ns_type; update = option_map update n.update_description }

abbrev pub affected_of : Fields → Option EventAffected
affected_of d = optional change_space_by (codes "ns") d
    >>= λ ns. optional change_space_by (codes "to") d
    >>= λ to. optional update_by (codes "updateDescription") d
    >>= λ update. optional (word_by namespace_type_word namespace_types) (codes "nsType") d
    >>= λ ns_type. Some (record { ns = ns; to = to; ns_type = ns_type; update = update })

pub record EventDocuments : Type 0 where
  pub lsid : Option Fields
  pub document_key : Option Fields
  pub full_document : Option Fields
  pub full_document_before_change : Option Fields

abbrev pub event_documents : Documents → EventDocuments
event_documents d = record { lsid = d.lsid; document_key = d.document_key; full_document = d.full_document; full_document_before_change = d.full_document_before_change }

abbrev pub documents_of : Fields → Option EventDocuments
documents_of d = optional as_document (codes "lsid") d
    >>= λ lsid. optional as_document (codes "documentKey") d
    >>= λ document_key. optional as_document (codes "fullDocument") d
    >>= λ full_document. optional as_document (codes "fullDocumentBeforeChange") d
    >>= λ before. Some (record { lsid = lsid; document_key = document_key; full_document = full_document; full_document_before_change = before })

-- ---- an event

pub record Event : Type 0 where
  pub id : Tree
  pub operation_type : Word
  pub affected : EventAffected
  pub documents : EventDocuments
  pub times : EventTimes

abbrev pub event : ChangeStreamEvent Fields → Event
event e = record {
  id = e.id;
  operation_type = operation_word e.operation_type;
  affected = record { ns = option_map change_space e.ns; to = option_map change_space e.to; ns_type = option_map namespace_type_word e.ns_type; update = option_map update e.update_description };
  documents = record { lsid = e.lsid; document_key = e.document_key; full_document = e.full_document; full_document_before_change = e.full_document_before_change };
  times = record { txn_number = e.txn_number; cluster_time = option_map time_parts e.cluster_time; wall_time = option_map millis e.wall_time };
}

-- the event that a document stands for
abbrev pub event_of : Fields → Option Event
event_of d = times_of d
    >>= λ times. needed not_null (codes "_id") d
    >>= λ id. affected_of d
    >>= λ affected. documents_of d
    >>= λ documents. needed (word_by operation_word operations) (codes "operationType") d
    >>= λ operation_type. Some (record { id = id; operation_type = operation_type; affected = affected; documents = documents; times = times })
