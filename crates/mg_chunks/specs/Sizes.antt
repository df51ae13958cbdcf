-- How many chunks a file has, and how long each is (GridFS specification, "chunks collection documents").
use Rattle.std.specs.Prelude.{ℕ, ◌%◌, ◌^◌, ◌==◌, ◌&&◌, not, suc, ltb, Result, Ok, Err, if◌then◌else◌}
use Rattle.std.specs.Int.{div_ceil}
use Rattle.mg_link.specs.declared.error.Malformed.{Malformed}
use Rattle.mg_link.specs.declared.error.Malformed.TheVariants as malformed

-- how many chunks hold so many bytes: each is full but the last, which holds the rest
abbrev pub chunk_count : ℕ → ℕ → ℕ
chunk_count length size = div_ceil length size

-- how many bytes the chunk of this number has: the rest in the last one, where a rest is left, and else the full size
abbrev pub chunk_length : ℕ → ℕ → ℕ → ℕ
chunk_length length size n = if suc n == chunk_count length size && not (length % size == 0) then length % size else size

-- a number of chunks that a u32 counts
abbrev pub counted : ℕ → Result ℕ Malformed
counted n = if ltb n (2 ^ 32) then Ok n else Err malformed.TooManyChunks

-- how many chunks a file has, or why its sizes say none
abbrev pub chunk_count_of : ℕ → ℕ → Result ℕ Malformed
chunk_count_of length size = if size == 0 then Err malformed.ChunkSizeZero else counted (chunk_count length size)

-- this length, where the chunks of the file could be counted, and else why not
abbrev pub where_counted : Result ℕ Malformed → ℕ → Result ℕ Malformed
where_counted (Ok count) length = Ok length
where_counted (Err m) length = Err m

-- how many bytes the chunk of this number has, or why the sizes of its file say none
abbrev pub chunk_length_of : ℕ → ℕ → ℕ → Result ℕ Malformed
chunk_length_of length size n = where_counted (chunk_count_of length size) (chunk_length length size n)
