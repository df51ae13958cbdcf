-- The bucket that a job names.
use Rattle.std.specs.Prelude.{None}
use Rattle.mg_server.specs.Files.{Bucket, chunks_space, files_space}
use Rattle.mg_gridfs.specs.Buckets.{ClientBucket, default_chunk_size}

-- a bucket of which nothing but its names is said
abbrev pub plain_bucket : Bucket → ClientBucket
plain_bucket at = record { files = files_space at; chunks = chunks_space at; chunk_size = default_chunk_size; writes = None; reads = None; asks = None }
