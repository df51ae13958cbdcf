-- The commands of a put, in their order.
use Rattle.std.specs.Prelude.{◌≡◌, ◌⊎◌, ◌<◌, ◌≤◌, ◌+◌, ◌*◌, ◌^◌, ◌++◌, ℕ, suc, ℤ, Bool, true, false, List, [], ◌∷◌, length, take, Option, Some, None}
use Rattle.mg_bson.specs.Raw.{fields}
use Rattle.mg_bson.specs.Tree.{Fields}
use Rattle.mg_server.specs.Calls.{Past, RequestFails}
use Rattle.mg_link.specs.Errors.{plain}
use Rattle.mg_link.specs.Exec.{Stage, unsent, first, second}
use Rattle.mg_link.specs.Chunks.{chunked}
use Rattle.mg_link.specs.Namespace.{Space}
use Rattle.mg_link.specs.declared.error.Error.{Error}
use Rattle.mg_link.specs.declared.error.ErrorKind.TheVariants as kind
use Rattle.mg_options.specs.Fields.{Line, fields_in}
use Rattle.mg_ops.specs.Cursors.{next_command}
use Rattle.mg_ops.specs.Failing.{CannotBeSent}
use Rattle.mg_ops.specs.InsertCauses.{FitTogether}
use Rattle.mg_ops.specs.Limits.{max_documents}
use Rattle.mg_ops.specs.Writes.{NotInserted}
use Rattle.mg_gridfs.specs.Buckets.{ClientBucket}
use Rattle.mg_gridfs.specs.Causes.{IsOfCheck}
use Rattle.mg_gridfs.specs.Commands.{CannotStore, chunk_documents, chunks_lines, deletion_lines, record_document, record_lines}
use Rattle.mg_gridfs.specs.Uploads as uploads
use Rattle.mg_gridfs.specs.Uploads.{Doing, Phase, begins, busy, closed, ends, fills, idle, lands, lasts, rests, undoes}
use Rattle.mg_players.specs.Gets.{no_manner}
use Rattle.mg_players.specs.PutChecks.{CheckPasses, CheckSentAt, CheckSends}
use Rattle.mg_players.specs.PutFailures.{AnswersFirst, FailsEarly, FailsFirst, check_fails, not_taken}
use Rattle.mg_players.specs.Puts.{CannotOpen, ComeNext, IsMoment, PutTask, Supply, joined, put_bucket, total}
use Rattle.mg_script.specs.declared.outcome.Ended.{Ended}
use Rattle.mg_script.specs.declared.outcome.Ended.TheVariants as ended

-- ---- the check of the indexes

-- a command of the check of a bucket's indexes, or one that reads a list of them on, without options
pub data IsCheckCommand (b : ClientBucket) (command : Fields) : Type 0 where
  of_check : (lines : List Line) → IsOfCheck b lines → command ≡ fields_in lines → IsCheckCommand b command
  reads_on : (id : ℤ) (space : Space) → command ≡ next_command id space no_manner → IsCheckCommand b command

-- ---- the chunks

-- the bytes of all pieces, cut into chunks
abbrev pub file_chunks : PutTask → List (List ℕ)
file_chunks t = chunked t.chunk (joined t.pieces)

-- the command inserts the chunks of the file from one on up to another, at least one, each with its own number, none of which passes the greatest, and with the id of that number
pub record InsertsChunks (supply : Supply) (t : PutTask) (from upto : ℕ) (command : Fields) : Type 0 where
  pub front : List (List ℕ)
  pub piece : List (List ℕ)
  pub rest : List (List ℕ)
  pub parts : file_chunks t ≡ front ++ (piece ++ rest)
  pub behind : length front ≡ from
  pub some : 0 < length piece
  pub next : from + length piece ≡ upto
  pub small : upto ≤ 2 ^ 31
  pub ids : ℕ → List ℕ
  pub drawn : ComeNext supply t ids from
  pub command_is : command ≡ fields_in (chunks_lines (put_bucket t) (chunk_documents ids 0 t.id from piece))

-- these commands insert the chunks from one on up to another, piece behind piece, and each piece once
abbrev pub ChunkPieces : Supply → PutTask → ℕ → List Fields → ℕ → Type 0
ChunkPieces supply t from [] upto = upto ≡ from
ChunkPieces supply t from (command ∷ commands) upto = (between : ℕ) × InsertsChunks supply t from between command × ChunkPieces supply t between commands upto

-- By these commands just the full chunks of so many bytes are inserted, behind those of the check, and nothing is sent where there is no full one.
pub record SendsFull (supply : Supply) (t : PutTask) (bytes : ℕ) (commands : List Fields) : Type 0 where
  pub check : List Fields
  pub chunks : List Fields
  pub parts : commands ≡ check ++ chunks
  pub count : ℕ
  pub pieces : ChunkPieces supply t 0 chunks count
  pub left : ℕ
  pub even : count * t.chunk + left ≡ bytes
  pub less : left < t.chunk
  pub none : bytes < t.chunk → commands ≡ []

-- ---- the record, and the removal

-- the record of the file, with a moment, and what inserts it
abbrev pub its_record : PutTask → ℤ → Fields
its_record t moment = record_document t.id (total t.pieces) t.chunk moment t.name None

abbrev pub record_insert : PutTask → ℤ → Fields
record_insert t moment = fields_in (record_lines (put_bucket t) (its_record t moment))

-- removes all chunks of the file
abbrev pub chunks_removal : PutTask → Fields
chunks_removal t = fields_in (deletion_lines (put_bucket t) t.id)

-- the one, where there is a moment
abbrev pub record_at : PutTask → Option ℤ → List Fields
record_at t None = []
record_at t (Some moment) = record_insert t moment ∷ []

-- the other, where the put removes them
abbrev pub removal_if : PutTask → Bool → List Fields
removal_if t false = []
removal_if t true = chunks_removal t ∷ []

-- ---- all commands

-- These are all commands that a put sent, where it heard what this past holds: first the check of its bucket's indexes, in its order, which was sent whole before the chunks of a file that has a full one, and
-- before their removal, and of which nothing is sent for a file that has none; then its chunks up to this number, from the first one on, each once and with its own id; then its record with this moment, which is that of the run, once, and only behind all
-- chunks; then the removal of its chunks, once.
pub record PutSends (supply : Supply) (t : PutTask) (all : Past) (commands : List Fields) (upto : ℕ) (moment : Option ℤ) (removed : Bool) : Type 0 where
  pub check : List Fields
  pub chunks : List Fields
  pub parts : commands ≡ check ++ (chunks ++ (record_at t moment ++ removal_if t removed))
  pub of_check : CheckSends all (put_bucket t) check
  pub pieces : ChunkPieces supply t 0 chunks upto
  pub checked : (0 < upto) ⊎ (removed ≡ true) → t.chunk ≤ total t.pieces → CheckPasses all (put_bucket t) check
  pub unneeded : total t.pieces < t.chunk → check ≡ []
  pub recorded : (m : ℤ) → moment ≡ Some m → upto ≡ length (file_chunks t)
  pub timely : (m : ℤ) → moment ≡ Some m → IsMoment supply.moment m

-- some of its chunks, and its record or not
abbrev pub SentSome : Supply → PutTask → Past → List Fields → Bool → Type 0
SentSome supply t all commands removed = (upto : ℕ) × (moment : Option ℤ) × PutSends supply t all commands upto moment removed

-- ---- why it failed

-- the documents are the next chunks of the file behind so many, at least one and no more than a command holds, each with its own number and with the id of that number
pub record AreNextChunks (supply : Supply) (t : PutTask) (from : ℕ) (documents : List Fields) : Type 0 where
  pub front : List (List ℕ)
  pub piece : List (List ℕ)
  pub rest : List (List ℕ)
  pub parts : file_chunks t ≡ front ++ (piece ++ rest)
  pub behind : length front ≡ from
  pub some : 0 < length piece
  pub few : length piece ≤ max_documents
  pub ids : ℕ → List ℕ
  pub drawn : ComeNext supply t ids from
  pub these : documents ≡ chunk_documents ids 0 t.id from piece

-- What a put has to send next behind so many chunks is not built: next chunks that fit into a command, or one of them alone, or the record behind all of them; or next chunks that fit into
-- a command are too many, since the number of the last of them passes the greatest.
pub data NextNotBuilt (supply : Supply) (t : PutTask) (upto : ℕ) (e : Error) : Type 0 where
  next_chunks : (documents : List Fields) → AreNextChunks supply t upto documents → FitTogether documents → CannotStore (chunks_lines (put_bucket t) documents) documents e → NextNotBuilt supply t upto e
  next_chunk : (document : Fields) → AreNextChunks supply t upto (document ∷ []) → CannotBeSent document e → NextNotBuilt supply t upto e
  too_many : (documents : List Fields) → AreNextChunks supply t upto documents → FitTogether documents → 2 ^ 31 < upto + length documents → e ≡ plain kind.FileTooLarge → NextNotBuilt supply t upto e
  the_record : upto ≡ length (file_chunks t) → (moment : ℤ) → IsMoment supply.moment moment → CannotStore (record_lines (put_bucket t) (its_record t moment)) (its_record t moment ∷ []) e → NextNotBuilt supply t upto e

-- the reply to an insert of so many documents lists failures, or breaks its grammar
abbrev pub ListsSome : ℕ → List ℕ → Error → Type 0
ListsSome count bytes e = NotInserted count (fields bytes) e

-- A first error behind what was sent: memory ran out; what comes next is not built, or its chunks are too many; or the insert failed that was sent last, which is that of the newest chunks, or that of
-- the record behind all of them.
pub data IsErrorBehind (supply : Supply) (t : PutTask) (past : Past) (upto : ℕ) (moment : Option ℤ) (e : Error) : Type 0 where
  out_of_memory : e.kind ≡ kind.OutOfMemory → IsErrorBehind supply t past upto moment e
  not_built : moment ≡ None → NextNotBuilt supply t upto e → IsErrorBehind supply t past upto moment e
  by_chunks : moment ≡ None → (from : ℕ) (command : Fields) (newest : InsertsChunks supply t from upto command) → RequestFails past command false (ListsSome (length newest.piece)) e → IsErrorBehind supply t past upto moment e
  by_record : (m : ℤ) → moment ≡ Some m → RequestFails past (record_insert t m) false (ListsSome 1) e → IsErrorBehind supply t past upto moment e

-- it sent some, for such a reason where it removed its chunks or did not
abbrev pub SentFor : Supply → PutTask → Past → List Fields → (ℕ → Option ℤ → Bool → Type 0) → Type 0
SentFor supply t all commands Why = (removed : Bool) × (sent : SentSome supply t all commands removed) × Why sent.0 sent.1 removed

-- a check is over before any chunk is sent, and there is one only where the file has a full chunk; memory for the bytes of a piece may run out behind some, but before the record
abbrev pub SentBefore : {past : Past} {t : PutTask} {e : Error} → FailsEarly past t e → ℕ → Option ℤ → Type 0
SentBefore {past} {t} {e} (check_fails failed) upto moment = (upto ≡ 0) × (moment ≡ None) × (t.chunk ≤ total t.pieces)
SentBefore {past} {t} {e} (not_taken is) upto moment = moment ≡ None

-- why a put failed that sent its chunks up to this number, its record or not, and removed its chunks or did not
pub data FailsSo (supply : Supply) (t : PutTask) (past : Past) (e : Error) (upto : ℕ) (moment : Option ℤ) (removed : Bool) : Type 0 where
  -- its upload was not opened
  not_opened : removed ≡ false → CannotOpen t e → FailsSo supply t past e upto moment removed
  -- no chunk was to be removed, and none was
  early : removed ≡ false → (failed : FailsEarly past t e) → SentBefore failed upto moment → FailsSo supply t past e upto moment removed
  -- an insert had failed, or its chunks were too many: a removal is sent, unless memory runs out or it is not built
  late : (original : Error) → FailsFirst past t original → IsErrorBehind supply t past upto moment original → AnswersFirst past t original e → FailsSo supply t past e upto moment removed

-- how far a put may have come: with which chunks, and with its record or not
abbrev pub Reach : Type 1
Reach = ℕ → Option ℤ → Type 0

-- One that has written so many pieces, and not all, inserted no chunk that is not full of these and of the next one, and no record.
abbrev pub Reaches : PutTask → ℕ → Reach
Reaches t written upto moment = written < length t.pieces → (moment ≡ None) × (upto * t.chunk ≤ total (take (suc written) t.pieces))

-- one that has not ended has removed its chunks only for such a first error
abbrev pub StopsSo : Supply → PutTask → Past → ℕ → Option ℤ → Bool → Type 0
StopsSo supply t past upto moment removed = removed ≡ true → (original : Error) × FailsFirst past t original × IsErrorBehind supply t past upto moment original

-- Where it ended well it sent all chunks and its record, and removed nothing; another one wrote so many pieces, and sent no more than these and the next one call for.
-- The first past is that of all its calls, the second that of its last one.
abbrev pub PutEndsSent : Supply → PutTask → ℕ → Past → Past → List Fields → Ended ℕ → Type 0
PutEndsSent supply t written all past commands ended.Unfinished = SentFor supply t all commands (λ upto moment removed. StopsSo supply t past upto moment removed × Reaches t written upto moment)
PutEndsSent supply t written all past commands (ended.Gave n) = (moment : ℤ) × PutSends supply t all commands (length (file_chunks t)) (Some moment) false
PutEndsSent supply t written all past commands (ended.Failed e) = SentFor supply t all commands (λ upto moment removed. FailsSo supply t past e upto moment removed × Reaches t written upto moment)

-- ---- while it goes on

-- a command that is sent once: this holds before it is sent, that once it was
abbrev pub Around : Stage → Type 0 → Type 0 → Type 0
Around unsent Before Behind = Before
Around (first ticket) Before Behind = Behind
Around (second ticket) Before Behind = Behind

-- its check and its chunks up to this number; where it has not checked it sent nothing
pub record SentChunks (supply : Supply) (t : PutTask) (all : Past) (commands : List Fields) (checked : Bool) (upto : ℕ) : Type 0 where
  pub check : List Fields
  pub chunks : List Fields
  pub parts : commands ≡ check ++ chunks
  pub of_check : CheckSends all (put_bucket t) check
  pub pieces : ChunkPieces supply t 0 chunks upto
  pub passed : checked ≡ true → CheckPasses all (put_bucket t) check
  pub unneeded : total t.pieces < t.chunk → check ≡ []
  pub nothing : checked ≡ false → commands ≡ []

-- all its chunks, and its record or not
abbrev pub SentAll : Supply → PutTask → Past → List Fields → Option ℤ → Type 0
SentAll supply t all commands moment = PutSends supply t all commands (length (file_chunks t)) moment false

-- it has checked, or has no full chunk
abbrev pub NeedsNoCheck : PutTask → Bool → Type 0
NeedsNoCheck t checked = (checked ≡ true) ⊎ (total t.pieces < t.chunk)

-- there is an error in hand, and it is a first one behind what was sent, which may have come so far
abbrev pub HoldsError : Supply → PutTask → Reach → Past → ℕ → Option ℤ → Option Error → Type 0
HoldsError supply t R past upto moment None = ⊥
HoldsError supply t R past upto moment (Some original) = IsErrorBehind supply t past upto moment original × R upto moment

-- it sent some, and is on the way back with this error, behind the check of a file that has a full chunk
pub record SentUntil (supply : Supply) (t : PutTask) (R : Reach) (all past : Past) (commands : List Fields) (error : Option Error) (removed : Bool) : Type 0 where
  pub upto : ℕ
  pub moment : Option ℤ
  pub sends : PutSends supply t all commands upto moment removed
  pub behind : t.chunk ≤ total t.pieces → CheckPasses all (put_bucket t) sends.check
  pub holds : HoldsError supply t R past upto moment error

-- What it sent, by how far a call has come, where it checked or not and so many of its chunks are inserted: a put gives up no call, and checks only where it has a full chunk. The first
-- past is that of all its calls, the second that of the one that goes on.
abbrev pub PhaseSent : Supply → PutTask → Reach → Past → Past → List Fields → Bool → ℕ → Phase → Type 0
PhaseSent supply t R all past commands checked sent begins = (commands ≡ []) × (t.chunk ≤ total t.pieces)
PhaseSent supply t R all past commands checked sent (uploads.checks check) = CheckSentAt all (put_bucket t) commands check × (t.chunk ≤ total t.pieces)
PhaseSent supply t R all past commands checked sent fills = SentChunks supply t all commands true sent
PhaseSent supply t R all past commands checked sent (uploads.inserts sending count) = InsertsChunks supply t sent (sent + count) (fields sending.command) × Around sending.stage (SentChunks supply t all commands true sent) (SentChunks supply t all commands true (sent + count))
PhaseSent supply t R all past commands checked sent (rests moment) = SentChunks supply t all commands checked sent
PhaseSent supply t R all past commands checked sent (lasts sending ending) = InsertsChunks supply t sent (length (file_chunks t)) (fields sending.command) × (sent + 1 ≡ length (file_chunks t)) × Around sending.stage (SentChunks supply t all commands checked sent × NeedsNoCheck t checked) (SentAll supply t all commands None)
PhaseSent supply t R all past commands checked sent (ends ending) = SentAll supply t all commands None
PhaseSent supply t R all past commands checked sent (uploads.records sending ending) = (fields sending.command ≡ record_insert t ending.moment) × Around sending.stage (SentAll supply t all commands None) (SentAll supply t all commands (Some ending.moment))
PhaseSent supply t R all past commands checked sent (lands flight error) = ⊥
PhaseSent supply t R all past commands checked sent (undoes error) = SentUntil supply t R all past commands error false
PhaseSent supply t R all past commands checked sent (uploads.removes sending error) = (fields sending.command ≡ chunks_removal t) × Around sending.stage (SentUntil supply t R all past commands error false) (SentUntil supply t R all past commands error true)

-- what it sent by what its upload is doing
abbrev pub DoingSent : Supply → PutTask → Reach → Past → Past → List Fields → Bool → ℕ → Doing → Type 0
DoingSent supply t R all past commands checked sent idle = SentChunks supply t all commands checked sent
DoingSent supply t R all past commands checked sent (busy call phase) = PhaseSent supply t R all past commands checked sent phase
DoingSent supply t R all past commands checked sent closed = Unit {0}
