-- What the close of an upload stores (GridFS specification, "File Upload").
use Rattle.std.specs.Prelude.{ℕ, nat_lt, if◌then◌else◌}
use Rattle.mg_chunks.specs.declared.closing.Closing.{Closing}
use Rattle.mg_chunks.specs.declared.closing.Closing.TheVariants as closing

-- next, where so many bytes are left: the record comes behind all chunks
abbrev pub next_in_close : ℕ → Closing
next_in_close left = if nat_lt 0 left then closing.LastChunk else closing.Record
