-- Why a read of a get fails: by chunks that are not what their record says, and by what does not come where its own steps were answered at once.
use Rattle.std.specs.Prelude.{◌≡◌, ◌≢◌, ◌⊎◌, ◌<◌, ◌≤◌, ◌+◌, ◌-◌, ◌++◌, Contains, ℕ, suc, ℤ, pos, List, [], ◌∷◌, length, Option, Some, None, Ok, Err, slice_get, take, drop}
use Rattle.std.specs.List.{concat}
use Rattle.mg_bson.specs.Raw.{fields}
use Rattle.mg_bson.specs.Tree.{Fields}
use Rattle.mg_server.specs.Calls.{HeardBy, IsOwn, Past}
use Rattle.mg_server.specs.Commands.{Asked, asked, asks_query}
use Rattle.mg_link.specs.Exec.{IsSuccess, Sending, ticket_of}
use Rattle.mg_link.specs.Errors.{plain}
use Rattle.mg_server.specs.Files.{Bucket, chunks_space, file_of}
use Rattle.mg_server.specs.History.{IsLegal, Step, state_of, told_at}
use Rattle.mg_link.specs.Link.{Awaited}
use Rattle.mg_link.specs.Log.{Call, reply}
use Rattle.mg_server.specs.Prompt.{IsPrompt}
use Rattle.mg_server.specs.Query.{Query}
use Rattle.mg_server.specs.Standing.{OpensId, Stands}
use Rattle.mg_link.specs.declared.error.Error.{Error}
use Rattle.mg_link.specs.declared.error.ErrorKind.TheVariants as kind
use Rattle.mg_ops.specs.Cursors.{Cursor, cursor_of}
use Rattle.mg_ops.specs.Naming.{IsNamed}
use Rattle.mg_cursor.specs.Causes.{MoreFails}
use Rattle.mg_cursor.specs.Client as client
use Rattle.mg_cursor.specs.Client.{ClientCursor, HasNext, IsOver, at_rest, holds}
use Rattle.mg_cursor.specs.Polling.{CannotAsk}
use Rattle.mg_chunks.specs.Sizes.{chunk_count_of}
use Rattle.mg_records.specs.FileRecords.{FileRecord}
use Rattle.mg_gridfs.specs.Downloaded.{AreReceived, chunks_query}
use Rattle.mg_chunks.specs.Chunks.{judged, missing_chunk}
use Rattle.mg_gridfs.specs.Downloads.{ClientDownload, Doing, empty_download, ended, idle, most_empty, new_download, reads, sizes_of, spoiled}
use Rattle.mg_gridfs.specs.ReadCauses.{HasInOrder, TakesNext, cursor_in}
use Rattle.mg_gridfs.specs.Reads.{HandsOut, SpoilsBatch}
use Rattle.mg_gridfs.specs.declared.polls.ReadPoll.TheVariants as read
use Rattle.mg_players.specs.Gets.{GetTask, chunks_find, no_manner}
use Rattle.mg_players.specs.InTurn.{AloneBehind, AreInTurn, HasSentAt, NoneBehind, empty_by, empty_held, empty_taken, newest}

-- ---- chunks that are not what their record says

-- Documents that stand as the chunks of a file are not what its record says, by which they are so many, as the error tells: one is the first that differs; or all are
-- in order, and not as many.
pub data Differ (f : FileRecord) (count : ℕ) (stood : List Fields) (e : Error) : Type 0 where
  one_differs : (before : List Fields) (chunks : List (List ℕ)) (d : Fields) (left : List Fields) → stood ≡ before ++ d ∷ left → AreReceived f 0 chunks before → judged (sizes_of f) (length chunks) d ≡ Err e → Differ f count stood e
  miscounted : (chunks : List (List ℕ)) → AreReceived f 0 chunks stood → length chunks ≢ count → e ≡ missing_chunk (length chunks) → Differ f count stood e

-- A reply to the call at this place listed the chunks of the file with this record. In each legal history in which the log stands, those that stood as the call took
-- effect are not what the record says, as the error tells.
pub record ListsOther (calls : List Call) (at : Bucket) (f : FileRecord) (listed : ℕ) (e : Error) : Type 0 where
  pub named : IsNamed (chunks_space at)
  pub call : Call
  pub there : slice_get calls listed ≡ Some call
  pub asks : asked call.command ≡ asks_query (chunks_query (chunks_space at) f.id)
  pub bytes : List ℕ
  pub heard : call.seen ≡ reply bytes
  pub count : ℕ
  pub counted : chunk_count_of f.length f.chunk_size ≡ Ok count
  pub differ : (history : List Step) → IsLegal history → Stands calls history → (position : ℕ) × (call.position ≡ Some position) × Differ f count (file_of (state_of (take (suc position) history)) at f.id).chunks e

-- ---- the list of a download that has ended

-- the command at this place asks for what a query finds
pub record AsksFor (calls : List Call) (place : ℕ) (q : Query) : Type 0 where
  pub call : Call
  pub there : slice_get calls place ≡ Some call
  pub asks : asked call.command ≡ asks_query q

-- Where a download that gave these bytes has ended, its file has none, and they are none; or the command at this place of the log asked for its chunks.
abbrev pub EndsAsListed : List Call → Bucket → ClientDownload → List ℕ → Option ℕ → Type 0
EndsAsListed calls b d bytes at = d.doing ≡ ended → ((d.file.length ≡ 0) × (bytes ≡ [])) ⊎ ((listed : ℕ) × (at ≡ Some listed) × AsksFor calls listed (chunks_query (chunks_space b) d.file.id))

-- ---- steps that were answered at once

-- the positions of the steps of what a call sent are among these
abbrev pub AreAmong : Past → List ℕ → Type 0
AreAmong past own = (place : ℕ) (call : Call) (position : ℕ) → IsOwn past place → slice_get past.calls place ≡ Some call → call.position ≡ Some position → Contains own position

-- this is so in a legal history in which the log stands, and in which its own steps were answered at once
abbrev pub WherePrompt : Past → Type 0 → Type 0
WherePrompt past So = (history : List Step) → IsLegal history → Stands past.calls history → (own : List ℕ) → AreAmong past own → IsPrompt own history → So

abbrev pub AsksQuery : Asked → Type 0
AsksQuery command = (q : Query) × (command ≡ asks_query q)

-- a query opened the cursor
pub record IsQueried (history : List Step) (x : ℤ) : Type 0 where
  pub position : ℕ
  pub step : Step
  pub there : slice_get history position ≡ Some step
  pub asks : AsksQuery (asked step.command)
  pub opens : OpensId (told_at step) x

-- ---- the cursor of a read

-- its id and its namespace are those of a reply that was heard, and its batches have the size that the server chooses
pub record IsTold (past : Past) (c : ClientCursor) : Type 0 where
  pub command : Fields
  pub bytes : List ℕ
  pub heard : HeardBy past command (reply bytes)
  pub said : Cursor
  pub says : cursor_of (fields bytes) ≡ Ok said
  pub id_is : c.id ≡ said.id
  pub space_is : c.space ≡ said.space
  pub plain : c.manner ≡ no_manner

-- a reply in hand is that to the list of the chunks
pub record IsListOf (past : Past) (g : GetTask) (f : FileRecord) (c : ClientCursor) (bytes : List ℕ) : Type 0 where
  pub heard : HeardBy past (chunks_find g f.id) (reply bytes)
  pub success : IsSuccess bytes
  pub said : Cursor
  pub says : cursor_of (fields bytes) ≡ Ok said
  pub id_is : c.id ≡ said.id

-- How the cursor of a read stands, behind so many empty replies in a row: the list of the chunks opened it, whose reply it holds before it asked for more; and
-- where the steps were answered at once it has ended behind an empty one.
pub record ListsChunks (past : Past) (g : GetTask) (f : FileRecord) (empty : ℕ) (c : ClientCursor) : Type 0 where
  pub named : IsNamed (chunks_space g.at)
  pub told : IsTold past c
  pub held : (bytes : List ℕ) → c.doing ≡ holds bytes → (empty ≡ 0) × IsListOf past g f c bytes
  pub queried : (history : List Step) → IsLegal history → Stands past.calls history → c.id ≢ pos 0 → IsQueried history c.id
  pub over : 1 ≤ empty → WherePrompt past (c.id ≡ pos 0)

abbrev pub empties : Doing → ℕ
empties (idle cursor) = 0
empties (reads cursor missing empty) = empty
empties ended = 0
empties spoiled = 0

-- so does the cursor of a download, where it has one
abbrev pub ListsIts : Past → GetTask → ClientDownload → Type 0
ListsIts past g d = (c : ClientCursor) → cursor_in d.doing ≡ Some c → ListsChunks past g d.file (empties d.doing) c

-- a reply in hand, unread from an earlier call, is that to the list of the chunks
abbrev pub HeardHeld : Past → GetTask → FileRecord → ClientCursor → Type 0
HeardHeld past g f c = (bytes : List ℕ) → c.doing ≡ holds bytes → HeardBy past (chunks_find g f.id) (reply bytes)

-- ---- batches that came empty

-- In a call of a get as many batches came empty, one behind another up to its last command, as are too many: those of replies that the call heard to its getMores,
-- and before them that of a first reply to the list of the chunks, which was in hand. It began with this download.
pub record HeardEmpty (past call : Past) (g : GetTask) (f : FileRecord) (start : ClientDownload) : Type 0 where
  pub begun : ClientCursor
  pub idle_so : start.doing ≡ idle begun
  pub held : HeardHeld past g f begun
  pub replies : List (ℕ × List ℕ)
  pub behind : ClientCursor
  pub heard : AreInTurn call begun 0 replies behind
  pub last : NoneBehind call (newest 0 replies)
  pub so_many : empty_by (empty_held begun.doing) replies ≡ most_empty

-- ---- batches that were taken

-- the batches of replies that were heard
abbrev pub batches_in : List (ℕ × List ℕ) → List (List ℕ)
batches_in [] = []
batches_in (h ∷ more) = h.1 ∷ batches_in more

-- the batch in hand
abbrev pub hand_of : client.Doing → List (List ℕ)
hand_of client.rests = []
hand_of (holds bytes) = bytes ∷ []
hand_of (client.asks sending) = []

-- The batches that a call took which began and stands so, and heard these replies: the one that was in hand, unless it is so still, and those of the replies.
abbrev pub taken_of : (begun now : client.Doing) → List (ℕ × List ℕ) → List (List ℕ)
taken_of begun client.rests replies = hand_of begun ++ batches_in replies
taken_of begun (holds bytes) replies = []
taken_of begun (client.asks sending) replies = hand_of begun ++ batches_in replies

-- These batches hold chunks of the file with this record, one behind another, numbered from one number on, so that another is the next; their bytes are these.
abbrev pub HoldChunks : FileRecord → ℕ → List (List ℕ) → ℕ → List ℕ → Type 0
HoldChunks f n [] next bytes = (next ≡ n) × (bytes ≡ [])
HoldChunks f n (b ∷ more) next bytes = (h : HasInOrder f n b) × (rest : List ℕ) × (bytes ≡ concat h.chunks ++ rest) × HoldChunks f (n + length h.chunks) more next rest

-- behind these batches a download stands so of which nothing was in hand before: the bytes of their chunks are
pub record TakenSo (begun d : ClientDownload) (batches : List (List ℕ)) : Type 0 where
  pub file : d.file ≡ begun.file
  pub count : d.count ≡ begun.count
  pub chunks_so : HoldChunks begun.file begun.taken batches d.taken d.ahead

-- What a call knows of them that began with a cursor and goes on: so many came empty, one behind another, which are not too many; it took all of these; and behind all
-- replies nothing of it stands in the log but its getMore on its way.
pub record CountsRow (awaited : Awaited) (call : Past) (begun c : ClientCursor) (empty : ℕ) (all : List (List ℕ)) : Type 0 where
  pub replies : List (ℕ × List ℕ)
  pub heard : AreInTurn call begun 0 replies (at_rest c)
  pub all_so : taken_of begun.doing c.doing replies ≡ all
  pub hand : (bytes : List ℕ) → c.doing ≡ holds bytes → (begun.doing ≡ holds bytes) × (replies ≡ [])
  pub counted : empty ≡ empty_taken c.doing (empty_by (empty_held begun.doing) replies)
  pub few : empty < most_empty
  pub within : newest 0 replies < length call.calls
  pub waits : (sending : Sending) (ticket place : ℕ) → c.doing ≡ client.asks sending → ticket_of sending ≡ Some ticket → awaited ticket ≡ Some place → newest 0 replies < place
  pub alone : AloneBehind awaited call c (newest 0 replies)

-- a call that has sent nothing
abbrev pub SentNone : Past → Type 0
SentNone call = (place : ℕ) → HasSentAt call place → ⊥

-- A call that goes on began with this download, of which nothing was in hand, and took batches since; as many bytes are missing as its room has more than are in
-- hand.
pub record TakesRow (awaited : Awaited) (call : Past) (room : ℕ) (begun d : ClientDownload) (c : ClientCursor) (missing empty : ℕ) : Type 0 where
  pub cursor : ClientCursor
  pub idle_so : begun.doing ≡ idle cursor
  pub none_ahead : begun.ahead ≡ []
  pub all : List (List ℕ)
  pub row : CountsRow awaited call cursor c empty all
  pub taken_so : TakenSo begun d all
  pub missing_is : missing ≡ room - length d.ahead

-- Where a call stands that began with this download and reads into so much room: it goes on so; before it begins, and behind the end, it has sent nothing. It is not
-- one that failed.
abbrev pub GoesOn : Awaited → (past call : Past) → GetTask → ℕ → (begun d : ClientDownload) → Doing → Type 0
GoesOn awaited past call g room begun d (idle cursor) = (begun ≡ d) × SentNone call
GoesOn awaited past call g room begun d (reads cursor missing empty) = (t : TakesRow awaited call room begun d cursor missing empty) × HeardHeld past g d.file t.cursor
GoesOn awaited past call g room begun d ended = (begun ≡ d) × SentNone call
GoesOn awaited past call g room begun d spoiled = ⊥

-- ---- what a call gave

-- A call that began with this cursor heard replies to its getMores alone, one behind another, and took these batches; its cursor rests so behind them.
pub record TookThese (call : Past) (begun behind : ClientCursor) (all : List (List ℕ)) : Type 0 where
  pub replies : List (ℕ × List ℕ)
  pub heard : AreInTurn call begun 0 replies (at_rest behind)
  pub all_so : taken_of begun.doing client.rests replies ≡ all
  pub last : NoneBehind call (newest 0 replies)

-- A call that reads into so much room gave these bytes, and took its download from one state to another: some were in hand, and it sent nothing; or it took
-- batches, behind which its room was full or the cursor had ended.
pub data GivesBy (call : Past) (room : ℕ) (d d' : ClientDownload) (given : List ℕ) : Type 0 where
  of_hand : (cursor : ClientCursor) → d.doing ≡ idle cursor → d.ahead ≢ [] → SentNone call → HandsOut room cursor d d' given (read.Read (length given)) → GivesBy call room d d' given
  of_batches : (cursor behind : ClientCursor) (left : ClientDownload) (all : List (List ℕ)) → d.doing ≡ idle cursor → d.ahead ≡ [] → TookThese call cursor behind all → TakenSo d left all → (room ≤ length left.ahead) ⊎ IsOver behind
      → HandsOut room behind left d' given (read.Read (length given)) → GivesBy call room d d' given

-- The last call of a get that ended well gave no byte: its download had ended, and it sent nothing; or it brought it to its end.
pub data GivesNone (call : Past) (room : ℕ) (d : ClientDownload) : Type 0 where
  had_ended : d.doing ≡ ended → SentNone call → GivesNone call room d
  ends_so : (after : ClientDownload) → after.doing ≡ ended → GivesBy call room d after [] → GivesNone call room d

-- How far a call came that failed, which began with this download: it took nothing, or these batches of the replies that it heard. There its cursor stood so.
pub data CameTo (call : Past) (begun d : ClientDownload) (c : ClientCursor) : Type 0 where
  as_begun : begun ≡ d → begun.doing ≡ idle c → CameTo call begun d c
  by_batches : (cursor : ClientCursor) (all : List (List ℕ)) (replies : List (ℕ × List ℕ)) → begun.doing ≡ idle cursor → begun.ahead ≡ [] → AreInTurn call cursor 0 replies (at_rest c) → taken_of cursor.doing c.doing replies ≡ all → TakenSo begun d all → CameTo call begun d c

-- What ended it there: memory ran out; fewer bytes were in hand than it has room for, and no getMore was built, or it brought no batch, or the next batch was not
-- taken; or no more were in hand, the cursor had no next, and so many chunks came, which are not as many as the record says.
pub data BreaksAt (call : Past) (room : ℕ) (d : ClientDownload) (c : ClientCursor) (e : Error) : Type 0 where
  memory_out : e.kind ≡ kind.OutOfMemory → BreaksAt call room d c e
  none_built : length d.ahead < room → CannotAsk c None e → BreaksAt call room d c e
  none_brought : length d.ahead < room → MoreFails call c e → BreaksAt call room d c e
  not_taken : length d.ahead < room → (bytes : List ℕ) (behind : ClientCursor) → TakesNext call c bytes behind → (empty : ℕ) → SpoilsBatch empty bytes d e → BreaksAt call room d c e
  other_count : drop room d.ahead ≡ [] → (HasNext c → ⊥) → d.taken ≢ d.count → e ≡ missing_chunk d.taken → BreaksAt call room d c e

-- How a call failed that began with this download and reads into so much room.
pub record ReadFailsSo (call : Past) (room : ℕ) (begun : ClientDownload) (e : Error) : Type 0 where
  pub left : ClientDownload
  pub cursor : ClientCursor
  pub came : CameTo call begun left cursor
  pub breaks : BreaksAt call room left cursor e

-- A download as its opening left it: it awaits as many chunks as the record counts, and the reply to its list is in hand; or its file has no bytes.
pub data IsBegun (past : Past) (g : GetTask) (d : ClientDownload) : Type 0 where
  has_list : (cursor : ClientCursor) (bytes : List ℕ) → d ≡ new_download d.file d.count cursor → chunk_count_of d.file.length d.file.chunk_size ≡ Ok d.count → cursor.doing ≡ holds bytes → IsListOf past g d.file cursor bytes → IsBegun past g d
  is_empty : d.file.length ≡ 0 → d ≡ empty_download d.file → IsBegun past g d

-- ---- why a read fails

-- Why a read fails: memory ran out; a getMore is not built, or brings no batch; as many batches came empty as are too many, which is not so where the steps were
-- answered at once; or chunks that stood are not what their record says, of which another error tells.
pub data ReadStops (past : Past) (many differ : Type 0) (e : Error) : Type 0 where
  no_memory : e.kind ≡ kind.OutOfMemory → ReadStops past many differ e
  not_built : (at : ClientCursor) → IsTold past at → CannotAsk at None e → ReadStops past many differ e
  no_batch : (at : ClientCursor) → IsTold past at → MoreFails past at e → ReadStops past many differ e
  too_many : many → WherePrompt past ⊥ → e ≡ plain kind.EmptyBatches → ReadStops past many differ e
  differs : (e.kind ≡ kind.EmptyBatches → ⊥) → differ → ReadStops past many differ e
