-- A put as its task says it, and how far it has come.
use Rattle.std.specs.Prelude.{◌≡◌, ◌⊎◌, ◌<◌, ◌≤◌, ◌+◌, ◌*◌, ◌^◌, ◌++◌, ℕ, ℤ, Bool, true, false, List, [], ◌∷◌, length, take, Option, Some, None, Ok, Err, Result, string_bytes, if◌then◌else◌, ltb}
use Rattle.mg_bson.specs.Tree.{Tree}
use Rattle.mg_bson.specs.View.{tree}
use Rattle.mg_link.specs.Errors.{plain}
use Rattle.mg_server.specs.Files.{Bucket, chunks_space, files_space}
use Rattle.mg_link.specs.Link.{Awaited}
use Rattle.mg_link.specs.Log.{Call}
use Rattle.mg_server.specs.Owner.{Owner, nobody}
use Rattle.mg_link.specs.declared.error.BadArgument.TheVariants as argument
use Rattle.mg_link.specs.declared.error.Error.{Error}
use Rattle.mg_link.specs.declared.error.ErrorKind.TheVariants as kind
use Rattle.mg_link.specs.declared.error.Malformed.{Malformed}
use Rattle.mg_chunks.specs.Sizes.{chunk_count_of}
use Rattle.mg_ops.specs.Naming.{IsNamed}
use Rattle.mg_gridfs.specs.Buckets.{ClientBucket}
use Rattle.mg_gridfs.specs.Cursors.{KnowsCursors, upload_owner}
use Rattle.mg_gridfs.specs.Uploads.{Aim, ClientUpload, Doing, Phase, abort, begins, busy, checks, close, closed, ends, fills, idle, inserts, lands, lasts, records, removes, rests, undoes, upload_ticket, write}
use Rattle.mg_gridfs.specs.UploadView.{IsUpload, upload_of}
use Rattle.mg_gridfs.specs.declared.stream.GridFsUploadStream.{GridFsUploadStream}
use Rattle.mg_script.specs.Plan as plan
use Rattle.mg_script.specs.declared.outcome.Ended.{Ended}
use Rattle.mg_script.specs.declared.outcome.Ended.TheVariants as ended
use Rattle.mg_players.specs.Buckets.{plain_bucket}
use Rattle.mg_players.specs.Kept.{ids_left}
use Rattle.mg_players.specs.declared.put.Beginning.{Beginning}
use Rattle.mg_players.specs.declared.put.PutPlayer.{PutPlayer}
use Rattle.mg_players.specs.declared.put.PutStage.{PutStage}
use Rattle.mg_players.specs.declared.put.PutStage.TheVariants as puts
use Rattle.mg_players.specs.declared.put.Written.{Written}

-- ---- what is to be written

-- the bucket of this name in a database
abbrev pub bucket_at : (db bucket : List ℕ) → Bucket
bucket_at db bucket = record { db = db; name = bucket }

-- the bytes of the pieces, one behind the other
abbrev pub joined : List (List ℕ) → List ℕ
joined [] = []
joined (p ∷ ps) = p ++ joined ps

-- which file a put writes
pub record PutTask : Type 0 where
  pub at : Bucket
  pub name : List ℕ
  pub id : Tree
  -- how many bytes each chunk has
  pub chunk : ℕ
  pub pieces : List (List ℕ)

abbrev pub put_of : (db bucket name : List ℕ) → Tree → ℕ → List (List ℕ) → PutTask
put_of db bucket name id chunk pieces = record { at = bucket_at db bucket; name = name; id = id; chunk = chunk; pieces = pieces }

abbrev pub writes : Written → PutTask
writes w = put_of w.db.now (string_bytes w.bucket.now) (string_bytes w.name.now) (tree w.id.now) w.chunk (plan.pieces w.pieces.now)

-- its bucket has no concerns
abbrev pub put_bucket : PutTask → ClientBucket
put_bucket t = plain_bucket t.at

-- its upload has no metadata
abbrev pub put_aim : PutTask → Aim
put_aim t = record { bucket = put_bucket t; id = t.id; size = t.chunk; filename = t.name; metadata = None }

-- how many bytes the pieces have
abbrev pub total : List (List ℕ) → ℕ
total [] = 0
total (p ∷ ps) = length p + total ps

-- a number of chunks, or 0 where their sizes say none
abbrev pub where_counted : Result ℕ Malformed → ℕ
where_counted (Ok n) = n
where_counted (Err e) = 0

-- how many chunks the pieces fill, the last of them with what is left; none where 64 bits do not count their bytes, which are more than a file has
abbrev pub chunks_in : ℕ → List (List ℕ) → ℕ
chunks_in chunk pieces = if ltb (total pieces) (2 ^ 64) then where_counted (chunk_count_of (total pieces) chunk) else 0

-- ---- what it is supplied with

-- What a run supplies a job with: the ids that the job draws, in their order, and the moment that new records get, where that is said.
pub record Supply : Type 0 where
  pub ids : ℕ → List ℕ
  pub moment : Option ℤ

-- it is this moment, where one is said
abbrev pub IsMoment : Option ℤ → ℤ → Type 0
IsMoment None m = Unit {0}
IsMoment (Some moment) m = m ≡ moment

-- a source gives next the ids of the chunks from this number on: each chunk has the id of its own number among those that the put drew
abbrev pub ComeNext : Supply → PutTask → (ℕ → List ℕ) → ℕ → Type 0
ComeNext supply t ids from = (k : ℕ) → from + k < chunks_in t.chunk t.pieces → ids k ≡ supply.ids (from + k)

-- ---- how far it has come

-- an upload that is open, or whose opening is next
abbrev pub puts_ticket : PutStage → Option ℕ
puts_ticket puts.Undrawn = None
puts_ticket (puts.Begins begun) = None
puts_ticket (puts.Goes going) = upload_ticket (upload_of going.upload)
puts_ticket (puts.Ended end) = None

abbrev pub put_ticket : PutPlayer → Option ℕ
put_ticket job = puts_ticket job.stage

-- a put that sends nothing more
abbrev pub puts_ended : PutStage → Bool
puts_ended puts.Undrawn = false
puts_ended (puts.Begins begun) = false
puts_ended (puts.Goes going) = false
puts_ended (puts.Ended end) = true

abbrev pub put_ended : PutPlayer → Bool
put_ended job = puts_ended job.stage

-- what a put came to
abbrev pub put_end : PutStage → Ended ℕ
put_end puts.Undrawn = ended.Unfinished
put_end (puts.Begins begun) = ended.Unfinished
put_end (puts.Goes going) = ended.Unfinished
put_end (puts.Ended end) = end

-- a put that drew its ids
abbrev pub PutHasIds : PutStage → Type 0
PutHasIds puts.Undrawn = ⊥
PutHasIds (puts.Begins begun) = Unit {0}
PutHasIds (puts.Goes going) = Unit {0}
PutHasIds (puts.Ended end) = Unit {0}

-- a write goes on while pieces are left, and a close behind the last of them; a put aborts nothing
abbrev pub IsPutDoing : Doing → (done count : ℕ) → Type 0
IsPutDoing idle done count = done ≤ count
IsPutDoing (busy (write piece) phase) done count = done + 1 ≤ count
IsPutDoing (busy close phase) done count = done ≡ count
IsPutDoing (busy abort phase) done count = ⊥
IsPutDoing closed done count = ⊥

-- what its upload has in flight is its own, and is doing what comes behind so many of its pieces
pub record HoldsUpload (s : GridFsUploadStream) (done count : ℕ) : Type 0 where
  pub sound : IsUpload s
  pub doing : IsPutDoing (upload_of s).doing done count

abbrev pub PutStageHolds : PutStage → (done count : ℕ) → Type 0
PutStageHolds puts.Undrawn done count = done ≡ 0
PutStageHolds (puts.Begins begun) done count = done ≡ 0
PutStageHolds (puts.Goes going) done count = HoldsUpload going.upload done count
PutStageHolds (puts.Ended end) done count = Unit {0}

abbrev pub PutHolds : PutPlayer → Type 0
PutHolds job = PutStageHolds job.stage job.done (length (plan.pieces job.what.pieces.now))

-- the two write the same, and ids that were drawn stay so
abbrev pub IsSamePut : PutPlayer → PutPlayer → Type 0
IsSamePut job job' = (job'.what ≡ job.what) × (job'.done ≡ job.done) × (PutHasIds job.stage → PutHasIds job'.stage)

-- it knows its length, and has the ids of its chunks; or memory ran out for them
abbrev pub BegunFor : Supply → PutTask → Result Beginning Error → Type 0
BegunFor supply t (Ok begun) = (begun.length ≡ total t.pieces) × ComeNext supply t (ids_left begun.ids) 0
BegunFor supply t (Err e) = e ≡ plain kind.OutOfMemory

-- ---- its ids and its moment

-- what a call of its upload has of them, by how far it has come, where so many full chunks are inserted: the ids of the chunks that no command holds yet, from a
-- source that gives these, and the moment of its record; on the way back it needs neither
abbrev pub PhaseSupplied : Supply → PutTask → (ℕ → List ℕ) → ℕ → Phase → Type 0
PhaseSupplied supply t ids sent begins = ComeNext supply t ids sent
PhaseSupplied supply t ids sent (checks check) = ComeNext supply t ids sent
PhaseSupplied supply t ids sent fills = ComeNext supply t ids sent
PhaseSupplied supply t ids sent (inserts sending count) = ComeNext supply t ids (sent + count)
PhaseSupplied supply t ids sent (rests moment) = ComeNext supply t ids sent × IsMoment supply.moment moment
PhaseSupplied supply t ids sent (lasts sending ending) = IsMoment supply.moment ending.moment
PhaseSupplied supply t ids sent (ends ending) = IsMoment supply.moment ending.moment
PhaseSupplied supply t ids sent (records sending ending) = IsMoment supply.moment ending.moment
PhaseSupplied supply t ids sent (lands flight error) = Unit {0}
PhaseSupplied supply t ids sent (undoes error) = Unit {0}
PhaseSupplied supply t ids sent (removes sending error) = Unit {0}

abbrev pub DoingSupplied : Supply → PutTask → (ℕ → List ℕ) → ℕ → Doing → Type 0
DoingSupplied supply t ids sent idle = ComeNext supply t ids sent
DoingSupplied supply t ids sent (busy call phase) = PhaseSupplied supply t ids sent phase
DoingSupplied supply t ids sent closed = Unit {0}

-- ---- its bytes

-- the bytes that its upload took: those of the pieces that are written, and of the one that is being written
abbrev pub taken_in : Doing → List (List ℕ) → ℕ → List ℕ
taken_in idle pieces done = joined (take done pieces)
taken_in (busy (write piece) phase) pieces done = joined (take (done + 1) pieces)
taken_in (busy close phase) pieces done = joined pieces
taken_in (busy abort phase) pieces done = joined pieces
taken_in closed pieces done = joined pieces

-- the bytes behind the full chunks that are inserted, and behind so many more, are the end of all bytes taken
pub record IsCutAt (u : ClientUpload) (taken : List ℕ) (more : ℕ) : Type 0 where
  pub front : List ℕ
  pub parts : taken ≡ front ++ u.behind
  pub even : length front ≡ (u.sent + more) * u.aim.size

-- what its upload has of the bytes taken, by how far a call has come; on the way back nothing is asked of them
abbrev pub CutByPhase : ClientUpload → List ℕ → Phase → Type 0
CutByPhase u taken begins = IsCutAt u taken 0
CutByPhase u taken (checks check) = IsCutAt u taken 0
CutByPhase u taken fills = IsCutAt u taken 0
CutByPhase u taken (inserts sending count) = IsCutAt u taken count
CutByPhase u taken (rests moment) = IsCutAt u taken 0
CutByPhase u taken (lasts sending ending) = ending.length ≡ length taken
CutByPhase u taken (ends ending) = ending.length ≡ length taken
CutByPhase u taken (records sending ending) = ending.length ≡ length taken
CutByPhase u taken (lands flight error) = Unit {0}
CutByPhase u taken (undoes error) = Unit {0}
CutByPhase u taken (removes sending error) = Unit {0}

abbrev pub CutBy : ClientUpload → List ℕ → Doing → Type 0
CutBy u taken idle = IsCutAt u taken 0
CutBy u taken (busy call phase) = CutByPhase u taken phase
CutBy u taken closed = Unit {0}

-- A put checks its bucket, and a write of it goes on, only where the bytes that it took have a full chunk.
abbrev pub NeedsFull : PutTask → Bool → Doing → List ℕ → Type 0
NeedsFull t checked idle taken = checked ≡ true → t.chunk ≤ length taken
NeedsFull t checked (busy (write piece) phase) taken = t.chunk ≤ length taken
NeedsFull t checked (busy close phase) taken = Unit {0}
NeedsFull t checked (busy abort phase) taken = Unit {0}
NeedsFull t checked closed taken = Unit {0}

-- ---- names

-- the names of its collections may be names of collections
abbrev pub NamesFiles : PutTask → Type 0
NamesFiles t = IsNamed (files_space t.at) × IsNamed (chunks_space t.at)

-- ---- openings

-- why its upload is not opened: memory ran out, or its chunks have no size that a record can name
abbrev pub CannotOpen : PutTask → Error → Type 0
CannotOpen t e = (e ≡ plain kind.OutOfMemory) ⊎ (((t.chunk ≡ 0) ⊎ (2 ^ 31 ≤ t.chunk)) × (e ≡ plain (kind.InvalidArgument argument.ChunkSize)))

-- ---- the cursors of its index check

-- it knows the cursor of the list of indexes that it reads, and that is its own
pub record PutsKnowing (awaited : Awaited) (calls : List Call) (u : ClientUpload) (o : Owner) : Type 0 where
  pub cursors : KnowsCursors awaited calls u
  pub owns : o ≡ upload_owner awaited u

-- which cursors a put owns: that of a list of indexes, while it is read
abbrev pub PutKnows : Awaited → List Call → PutStage → Owner → Type 0
PutKnows awaited calls puts.Undrawn o = o ≡ nobody
PutKnows awaited calls (puts.Begins begun) o = o ≡ nobody
PutKnows awaited calls (puts.Goes going) o = PutsKnowing awaited calls (upload_of going.upload) o
PutKnows awaited calls (puts.Ended end) o = o ≡ nobody
