-- A bucket of files, as its user names it (GridFS specification, "GridFSBucket class" and "Configurable options").
use Rattle.std.specs.Prelude.{◌≡◌, ◌⊎◌, ◌<◌, ◌≤◌, ◌^◌, ℕ, List, Option, Some, None, codes, string_bytes, unwrap_or, option_map}
use Rattle.mg_bson.specs.Tree.{Fields, Tree}
use Rattle.mg_bson.specs.View.{tree}
use Rattle.mg_link.specs.Concerns.{concerned}
use Rattle.mg_link.specs.Errors.{plain}
use Rattle.mg_server.specs.Files.{Bucket, chunks_space, files_space}
use Rattle.mg_link.specs.Namespace.{Space, space}
use Rattle.mg_link.specs.declared.concern.ReadConcern.{ReadConcern}
use Rattle.mg_link.specs.declared.concern.WriteConcern.{WriteConcern}
use Rattle.mg_link.specs.declared.error.BadArgument.TheVariants as argument
use Rattle.mg_link.specs.declared.error.Error.{Error}
use Rattle.mg_link.specs.declared.error.ErrorKind.TheVariants as kind
use Rattle.mg_link.specs.declared.read_preference.SelectionCriteria.{SelectionCriteria}
use Rattle.mg_options.specs.Copies.{SameIn, level_of}
use Rattle.mg_options.specs.declared.grid_fs.GridFsBucketOptions.{GridFsBucketOptions}
use Rattle.mg_gridfs.specs.declared.bucket.DatabaseDefaults.{DatabaseDefaults}
use Rattle.mg_gridfs.specs.declared.bucket.GridFsBucket.{GridFsBucket}
use Rattle.mg_gridfs.specs.declared.open_upload.Draft.{Draft}
use Rattle.mg_gridfs.specs.declared.open_upload.OpenUploadStream.{OpenUploadStream}

pub record ClientBucket : Type 0 where
  -- the collection of records, and that of chunks
  pub files : Space
  pub chunks : Space
  -- how many bytes a chunk has where an upload names no other number
  pub chunk_size : ℕ
  -- how far writes are to come, what data is read, and who may be asked
  pub writes : Option WriteConcern
  pub reads : Option ReadConcern
  pub asks : Option SelectionCriteria

abbrev pub bucket_of : GridFsBucket → ClientBucket
bucket_of b = record { files = space b.files; chunks = space b.chunks; chunk_size = b.chunk_size_bytes; writes = b.write_concern; reads = b.read_concern; asks = b.selection_criteria }

-- ---- new buckets

-- the name of a bucket that has none
abbrev pub default_name : List ℕ
default_name = codes "fs"

abbrev pub default_chunk_size : ℕ
default_chunk_size = 261120

-- the bucket that is named so in a database
abbrev pub named_bucket : DatabaseDefaults → GridFsBucketOptions → Bucket
named_bucket db o = record { db = string_bytes db.name; name = unwrap_or (option_map string_bytes o.bucket_name) default_name }

-- the first where it is given
abbrev pub given_or : {A : Type 0} → Option A → Option A → Option A
given_or (Some x) other = Some x
given_or None other = other

-- Its collections are named after it, and what its options do not say is said by the database.
abbrev pub bucket_by : DatabaseDefaults → GridFsBucketOptions → ClientBucket
bucket_by db o = record {
  files = files_space (named_bucket db o);
  chunks = chunks_space (named_bucket db o);
  chunk_size = unwrap_or o.chunk_size_bytes default_chunk_size;
  writes = given_or o.write_concern db.write_concern;
  reads = given_or o.read_concern db.read_concern;
  asks = given_or o.selection_criteria db.selection_criteria;
}

-- a bucket with the same collections, size and concerns
pub record SameBucket (b c : ClientBucket) : Type 0 where
  pub files : c.files ≡ b.files
  pub chunks : c.chunks ≡ b.chunks
  pub chunk_size : c.chunk_size ≡ b.chunk_size
  pub writes : SameIn concerned b.writes c.writes
  pub reads : SameIn level_of b.reads c.reads
  pub asks : c.asks ≡ b.asks

-- its collections are those of this bucket of a server
pub record IsAt (b : ClientBucket) (at : Bucket) : Type 0 where
  pub files : b.files ≡ files_space at
  pub chunks : b.chunks ≡ chunks_space at

-- ---- uploads that are to be opened

-- where it goes, and the name of the file
pub record Destination : Type 0 where
  pub bucket : ClientBucket
  pub filename : List ℕ

abbrev pub destination_of : Draft → Destination
destination_of d = record { bucket = bucket_of d.bucket; filename = string_bytes d.filename }

pub record ClientOpening : Type 0 where
  -- none where memory ran out as it was copied
  pub destination : Option Destination
  -- the id of the file, the size of its chunks and what else is known of it, where these are given
  pub id : Option Tree
  pub size : Option ℕ
  pub metadata : Option Fields

abbrev pub opening_of : OpenUploadStream → ClientOpening
opening_of o = record { destination = option_map destination_of o.draft; id = option_map tree o.id; size = o.options.chunk_size_bytes; metadata = o.options.metadata }

-- of this bucket and name
pub record IsDraft (b : ClientBucket) (filename : List ℕ) (d : Destination) : Type 0 where
  pub bucket : SameBucket b d.bucket
  pub named : d.filename ≡ filename

-- a new opening is of this bucket and name, unless memory ran out
pub record IsNewOpening (b : ClientBucket) (filename : List ℕ) (o : ClientOpening) : Type 0 where
  pub destination : (o.destination ≡ None) ⊎ ((d : Destination) × (o.destination ≡ Some d) × IsDraft b filename d)
  pub id : o.id ≡ None
  pub size : o.size ≡ None
  pub metadata : o.metadata ≡ None

-- the size of the chunks: that of the upload, or else that of the bucket
abbrev pub size_in : ClientOpening → Destination → ℕ
size_in o d = unwrap_or o.size d.bucket.chunk_size

-- a size that a record can name: an Int32 that is not 0
pub record IsSize (size : ℕ) : Type 0 where
  pub some : 0 < size
  pub small : size < 2 ^ 31

-- why it is not opened: the size is none
pub record HasNoSize (o : ClientOpening) (e : Error) : Type 0 where
  pub destination : Destination
  pub there : o.destination ≡ Some destination
  pub none : (size_in o destination ≡ 0) ⊎ (2 ^ 31 ≤ size_in o destination)
  pub error : e ≡ plain (kind.InvalidArgument argument.ChunkSize)
