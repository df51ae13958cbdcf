-- What the files collection of a bucket holds (GridFS specification, "files collection documents").
use Rattle.std.specs.Prelude.{ℕ, ℤ, ◌==◌, List, Option, Some, None, option_map, Result, Ok, Err, codes, string_bytes, if◌then◌else◌}
use Rattle.mg_bson.specs.Tree.{Tree, Fields}
use Rattle.mg_bson.specs.Find.{as_date_time, as_document, as_int32, as_string}
use Rattle.mg_bson.specs.Reading.{◌>>=◌}
use Rattle.mg_bson.specs.View.{tree}
use Rattle.mg_link.specs.Numbers.{as_count, count_of}
use Rattle.mg_link.specs.declared.error.Malformed.{Malformed}
use Rattle.mg_link.specs.declared.error.Malformed.TheVariants as malformed
use Rattle.mg_records.specs.Readings.{any_value, needed, optional}
use Rattle.mg_records.specs.declared.file_record.FileNumbers.{FileNumbers}
use Rattle.mg_records.specs.declared.file_record.FilesCollectionDocument.{FilesCollectionDocument}

pub record FileRecord : Type 0 where
  pub id : Tree
  pub length : ℕ
  pub chunk_size : ℕ
  pub upload_date : ℤ
  pub filename : Option (List ℕ)
  pub metadata : Option Fields

abbrev pub file_record : FilesCollectionDocument → FileRecord
file_record f = record { id = tree f.id; length = f.length; chunk_size = f.chunk_size_bytes; upload_date = f.upload_date.millis; filename = option_map string_bytes f.filename; metadata = f.metadata }

-- a number of 32 bits that is not negative
abbrev pub small_count : Tree → Option ℕ
small_count t = as_int32 t >>= as_count

-- the numbers of a file's record
pub record Numbers : Type 0 where
  pub length : ℕ
  pub chunk_size : ℕ
  pub upload_date : ℤ

abbrev pub numbers : FileNumbers → Numbers
numbers n = record { length = n.length; chunk_size = n.chunk_size; upload_date = n.upload_date.millis }

abbrev pub file_numbers : Fields → Option Numbers
file_numbers d = needed count_of (codes "length") d
    >>= λ length. needed small_count (codes "chunkSize") d
    >>= λ chunk_size. needed as_date_time (codes "uploadDate") d
    >>= λ upload_date. Some (record { length = length; chunk_size = chunk_size; upload_date = upload_date })

-- the fields of a file's record
abbrev pub file_fields : Fields → Option FileRecord
file_fields d = file_numbers d
    >>= λ numbers. optional as_string (codes "filename") d
    >>= λ filename. optional as_document (codes "metadata") d
    >>= λ metadata. needed any_value (codes "_id") d
    >>= λ id. Some (record { id = id; length = numbers.length; chunk_size = numbers.chunk_size; upload_date = numbers.upload_date; filename = filename; metadata = metadata })

-- no file is stored in chunks of no bytes
abbrev pub with_chunks : Option FileRecord → Result FileRecord Malformed
with_chunks None = Err malformed.BadRecord
with_chunks (Some f) = if f.chunk_size == 0 then Err malformed.ChunkSizeZero else Ok f

-- the record of a file that a document stands for
abbrev pub file_record_of : Fields → Result FileRecord Malformed
file_record_of d = with_chunks (file_fields d)
