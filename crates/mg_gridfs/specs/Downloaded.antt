-- What a download knows of its file in every legal history in which the log stands (GridFS specification, "File Download").
use Rattle.std.specs.Prelude.{◌≡◌, ◌⊎◌, ◌<◌, ◌≤◌, ◌++◌, ℕ, suc, Bool, true, false, List, [], ◌∷◌, length, slice_get, take, Some, None, Ok, codes}
use Rattle.std.specs.List.{concat}
use Rattle.mg_bson.specs.Tree.{Fields, Tree}
use Rattle.mg_link.specs.Exec.{Stage, unsent, first, second}
use Rattle.mg_server.specs.Files.{Bucket, by_number, chunks_space, files_space, has_value}
use Rattle.mg_server.specs.History.{IsLegal, Step, state_of}
use Rattle.mg_link.specs.Link.{Awaited, LogTold}
use Rattle.mg_link.specs.Log.{Call, reply}
use Rattle.mg_link.specs.Namespace.{Space}
use Rattle.mg_server.specs.Owner.{IsOf, Owner, Passes, nobody}
use Rattle.mg_server.specs.Query.{Query, limits, of_collection, result, selects, sorts}
use Rattle.mg_server.specs.Reader.{FindingAt, KnowsRead, Reader, coming_to, finder_at}
use Rattle.mg_server.specs.Standing.{Stands}
use Rattle.mg_ops.specs.Naming.{IsNamed}
use Rattle.mg_cursor.specs.Client.{ClientCursor}
use Rattle.mg_cursor.specs.Reading.{fetching_by, reader_in}
use Rattle.mg_chunks.specs.Sizes.{chunk_count_of}
use Rattle.mg_records.specs.FileRecords.{FileRecord, file_record_of}
use Rattle.mg_gridfs.specs.Buckets.{ClientBucket, IsAt}
use Rattle.mg_chunks.specs.Chunks.{judged}
use Rattle.mg_gridfs.specs.Downloads.{ClientDownload, Doing, ended, idle, reads, sizes_of, spoiled}
use Rattle.mg_gridfs.specs.Findings.{ClientFinding, Looking, Opened, fails, finds, lists, opens, starts, waits}
use Rattle.mg_gridfs.specs.declared.polls.ReadPoll.{ReadPoll}
use Rattle.mg_gridfs.specs.declared.polls.ReadPoll.TheVariants as read

-- ---- what is asked for

-- the first record that has this id
abbrev pub record_query : Space → Tree → Query
record_query space id = record { source = of_collection space; stages = selects (has_value (codes "_id") id ∷ []) ∷ limits 1 ∷ []; single = true; size = None }

-- the chunks that name the file, in the order of their numbers
abbrev pub chunks_query : Space → Tree → Query
chunks_query space id = record { source = of_collection space; stages = selects (has_value (codes "files_id") id ∷ []) ∷ sorts by_number ∷ []; single = false; size = None }

-- ---- results

-- In every legal history in which the log stands, the documents are the first of the result of a query that the call at this place asked for; or they are all of it.
pub record IsFront (calls : List Call) (q : Query) (documents : List Fields) (whole : Bool) : Type 0 where
  pub place : ℕ
  pub call : Call
  pub found : slice_get calls place ≡ Some call
  pub bytes : List ℕ
  pub heard : call.seen ≡ reply bytes
  pub each : (history : List Step) → IsLegal history → Stands calls history → (position : ℕ) × (call.position ≡ Some position) × (left : List Fields) × (result (state_of (take (suc position) history)) q ≡ Some (documents ++ left)) × (whole ≡ true → left ≡ [])

-- ---- the record

-- The first record that has this id was received, and is this one.
pub record KnowsRecord (calls : List Call) (at : Bucket) (id : Tree) (f : FileRecord) : Type 0 where
  pub first : Fields
  pub more : List Fields
  pub front : IsFront calls (record_query (files_space at) id) (first ∷ more) false
  pub reads_as : file_record_of first ≡ Ok f

-- ---- the chunks

-- documents that were received are chunks of the file, numbered from one on, and hold these bytes
abbrev pub AreReceived : FileRecord → ℕ → List (List ℕ) → List Fields → Type 0
AreReceived f n [] [] = Unit {0}
AreReceived f n (c ∷ cs) (d ∷ ds) = (judged (sizes_of f) n d ≡ Ok c) × AreReceived f (suc n) cs ds
AreReceived f n [] (d ∷ ds) = ⊥
AreReceived f n (c ∷ cs) [] = ⊥

-- The chunks of the file are listed by this cursor, which the find at the second place opened, and what was read and is ahead is what they hold that were received.
pub record KnowsChunks (awaited : Awaited) (calls : List Call) (at : Bucket) (d : ClientDownload) (bytes : List ℕ) (cursor : ClientCursor) (place listed : ℕ) : Type 0 where
  pub named : IsNamed cursor.space
  pub reader : Reader
  -- the find of the record stands before, at this place
  pub later : place < reader.opened
  -- and it stands at the other
  pub asked_at : reader.opened ≡ listed
  pub queries : reader.query ≡ chunks_query (chunks_space at) d.file.id
  pub knows : KnowsRead calls (reader_in awaited cursor reader)
  pub none_lost : reader.losses ≡ 0
  pub not_refused : reader.refused ≡ false
  pub chunks : List (List ℕ)
  pub received : AreReceived d.file 0 chunks reader.given
  pub taken : d.taken ≡ length chunks
  pub parts : concat chunks ≡ bytes ++ d.ahead

-- the file has no bytes, and its record was found by the call at the second place
pub record HasNone (d : ClientDownload) (bytes : List ℕ) (place listed : ℕ) : Type 0 where
  pub no_length : d.file.length ≡ 0
  pub none_read : bytes ≡ []
  pub asked_at : place ≡ listed
  pub none_ahead : d.ahead ≡ []

-- all chunks of the file were received by the find at the second place, as many as its record says, and given
pub record HasAll (calls : List Call) (at : Bucket) (d : ClientDownload) (bytes : List ℕ) (place listed : ℕ) : Type 0 where
  pub chunks : List (List ℕ)
  pub documents : List Fields
  pub front : IsFront calls (chunks_query (chunks_space at) d.file.id) documents true
  pub later : place < front.place
  pub asked_at : front.place ≡ listed
  pub received : AreReceived d.file 0 chunks documents
  pub counted : chunk_count_of d.file.length d.file.chunk_size ≡ Ok (length chunks)
  pub parts : concat chunks ≡ bytes
  pub none_ahead : d.ahead ≡ []

abbrev pub KnowsBy : Awaited → List Call → Bucket → ClientDownload → List ℕ → (place listed : ℕ) → Doing → Type 0
KnowsBy awaited calls at d bytes place listed (idle cursor) = KnowsChunks awaited calls at d bytes cursor place listed
KnowsBy awaited calls at d bytes place listed (reads cursor missing empty) = KnowsChunks awaited calls at d bytes cursor place listed
KnowsBy awaited calls at d bytes place listed ended = HasNone d bytes place listed ⊎ HasAll calls at d bytes place listed
KnowsBy awaited calls at d bytes place listed spoiled = Unit {0}

-- What a download of this id knows that has read these bytes, where its bucket is this one of the server: the call at this place listed its chunks, or found
-- the record of a file without bytes.
pub record KnowsDownload (awaited : Awaited) (calls : List Call) (at : Bucket) (id : Tree) (d : ClientDownload) (bytes : List ℕ) (listed : ℕ) : Type 0 where
  pub of_record : KnowsRecord calls at id d.file
  pub by : KnowsBy awaited calls at d bytes of_record.front.place listed d.doing

-- ---- openings

-- it stands in the log behind this place
abbrev pub StandsBehind : Awaited → ℕ → Stage → Type 0
StandsBehind awaited place unsent = Unit {0}
StandsBehind awaited place (first ticket) = (n : ℕ) → awaited ticket ≡ Some n → place < n
StandsBehind awaited place (second ticket) = (n : ℕ) → awaited ticket ≡ Some n → place < n

abbrev pub LookingKnown : Awaited → List Call → Bucket → Tree → Looking → Type 0
LookingKnown awaited calls at id starts = Unit {0}
LookingKnown awaited calls at id (finds sending) = FindingAt awaited calls (record_query (files_space at) id) sending.stage
LookingKnown awaited calls at id (lists file count sending) = (r : KnowsRecord calls at id file) × FindingAt awaited calls (chunks_query (chunks_space at) file.id) sending.stage × StandsBehind awaited r.front.place sending.stage

-- its collections are those of the bucket of the server, and have names that may be
pub record IsNamedAt (b : ClientBucket) (at : Bucket) : Type 0 where
  pub place : IsAt b at
  pub files : IsNamed b.files
  pub chunks : IsNamed b.chunks

-- besides, its reads say nothing of what is read, and of who may be asked
pub record IsPlainAt (b : ClientBucket) (at : Bucket) : Type 0 where
  pub named : IsNamedAt b at
  pub no_concern : b.reads ≡ None
  pub no_criteria : b.asks ≡ None

pub record KnowsOpening (awaited : Awaited) (calls : List Call) (at : Bucket) (o : ClientFinding) : Type 0 where
  pub placed : (b : ClientBucket) → o.bucket ≡ Some b → IsNamedAt b at
  pub by : LookingKnown awaited calls at o.id o.doing

-- ---- which cursors are its own

abbrev pub looking_owner : Awaited → Looking → Owner
looking_owner awaited starts = nobody
looking_owner awaited (finds sending) = finder_at awaited sending.stage
looking_owner awaited (lists file count sending) = finder_at awaited sending.stage

-- the cursor that lists the chunks
abbrev pub cursor_owner : Awaited → ClientCursor → Owner
cursor_owner awaited c = record { ids = c.id ∷ []; coming = coming_to (fetching_by awaited c.doing) }

abbrev pub doing_owner : Awaited → Doing → Owner
doing_owner awaited (idle cursor) = cursor_owner awaited cursor
doing_owner awaited (reads cursor missing empty) = cursor_owner awaited cursor
doing_owner awaited ended = nobody
doing_owner awaited spoiled = nobody

abbrev pub opened_owner : Awaited → Opened → Owner
opened_owner awaited (waits doing) = looking_owner awaited doing
opened_owner awaited (opens d) = doing_owner awaited d.doing
opened_owner awaited (fails e) = nobody

-- ---- polls

abbrev pub AfterRead : Awaited → List Call → Bucket → Tree → ClientDownload → List ℕ → ℕ → List ℕ → ReadPoll → Type 0
AfterRead awaited calls at id d' bytes listed room read.Pending = KnowsDownload awaited calls at id d' bytes listed
AfterRead awaited calls at id d' bytes listed room (read.Read n) = KnowsDownload awaited calls at id d' (bytes ++ take n room) listed
AfterRead awaited calls at id d' bytes listed room (read.Failed e) = Unit {0}

-- A poll led a download on that had read these bytes; the cursors of others were left alone.
abbrev pub ReadKnows : Awaited → Awaited → LogTold → LogTold → Bucket → ClientDownload → ClientDownload → List ℕ → ReadPoll → Type 0
ReadKnows old new log log' at d d' room r = (calls : List Call) → log ≡ Some calls → (id : Tree) (bytes : List ℕ) (listed : ℕ) → KnowsDownload old calls at id d bytes listed
    → (calls' : List Call) × (log' ≡ Some calls') × Passes calls calls' (doing_owner old d.doing) (doing_owner new d'.doing) × AfterRead new calls' at id d' bytes listed room r

-- a call at this place is that of the ticket, or none that a log of this length has
abbrev pub IsAskedSince : Awaited → ℕ → Looking → ℕ → Type 0
IsAskedSince awaited room doing place = IsOf (looking_owner awaited doing).coming (Some place) ⊎ (room ≤ place)

-- what an opening knows behind a poll that it began with a log of this length: where it is done, the call was its own that listed the chunks, or found that there are none
abbrev pub AfterOpening : Awaited → Awaited → ℕ → List Call → Bucket → ClientFinding → Opened → Type 0
AfterOpening old new room calls at o (waits doing) = KnowsOpening new calls at (record o { doing = doing })
AfterOpening old new room calls at o (opens d) = (listed : ℕ) × KnowsDownload new calls at o.id d [] listed × IsAskedSince old room o.doing listed
AfterOpening old new room calls at o (fails e) = Unit {0}

abbrev pub OpeningKnows : Awaited → Awaited → LogTold → LogTold → Bucket → ClientFinding → Opened → Type 0
OpeningKnows old new log log' at o r = (calls : List Call) → log ≡ Some calls → KnowsOpening old calls at o
    → (calls' : List Call) × (log' ≡ Some calls') × Passes calls calls' (looking_owner old o.doing) (opened_owner new r) × AfterOpening old new (length calls) calls' at o r
