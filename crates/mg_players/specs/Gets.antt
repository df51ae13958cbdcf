-- A get as its task says it, and what it knows of its file turn by turn.
use Rattle.std.specs.Prelude.{◌≡◌, ◌≢◌, ◌<◌, ◌≤◌, ◌+◌, ◌++◌, min, ℕ, zero, suc, ℤ, Bool, true, false, List, [], length, take, Option, Some, None, Vec, string_bytes}
use Rattle.std.specs.declared.alloc.Global.{Global}
use Rattle.mg_bson.specs.Tree.{Fields, Tree}
use Rattle.mg_bson.specs.View.{tree}
use Rattle.mg_link.specs.Errors.{plain}
use Rattle.mg_server.specs.Files.{Bucket}
use Rattle.mg_link.specs.Link.{Awaited}
use Rattle.mg_link.specs.Log.{Call}
use Rattle.mg_link.specs.Namespace.{Space}
use Rattle.mg_server.specs.Owner.{Owner, nobody}
use Rattle.mg_link.specs.declared.error.BadArgument.TheVariants as argument
use Rattle.mg_link.specs.declared.error.Error.{Error}
use Rattle.mg_link.specs.declared.error.ErrorKind.TheVariants as kind
use Rattle.mg_options.specs.Fields.{fields_in}
use Rattle.mg_ops.specs.Cursors.{Manner, next_command}
use Rattle.mg_gridfs.specs.Buckets.{ClientBucket}
use Rattle.mg_gridfs.specs.Commands.{found_lines, listed_lines}
use Rattle.mg_gridfs.specs.Downloaded.{IsPlainAt, KnowsDownload, KnowsOpening, doing_owner, looking_owner}
use Rattle.mg_gridfs.specs.Downloads as downloads
use Rattle.mg_gridfs.specs.Downloads.{ClientDownload, download_ticket}
use Rattle.mg_gridfs.specs.DownloadView.{IsDownload, download_of, finding_of}
use Rattle.mg_gridfs.specs.declared.download.GridFsDownloadStream.{GridFsDownloadStream}
use Rattle.mg_gridfs.specs.Findings.{ClientFinding, IsSoundFinding, finding_ticket}
use Rattle.mg_cursor.specs.Client.{ClientCursor}
use Rattle.mg_gridfs.specs.ReadCauses.{cursor_in}
use Rattle.mg_records.specs.FileRecords.{FileRecord}
use Rattle.mg_script.specs.declared.outcome.Ended.{Ended}
use Rattle.mg_script.specs.declared.outcome.Ended.TheVariants as ended
use Rattle.mg_players.specs.Buckets.{plain_bucket}
use Rattle.mg_players.specs.declared.get.GetPlayer.{GetPlayer}
use Rattle.mg_players.specs.declared.get.GetStage.{GetStage}
use Rattle.mg_players.specs.declared.get.GetStage.TheVariants as gets
use Rattle.mg_players.specs.declared.get.Sought.{Sought}

-- ---- what is to be read

-- which file a get reads, and how many bytes a read asks for
pub record GetTask : Type 0 where
  pub at : Bucket
  pub id : Tree
  pub read : ℕ

abbrev pub get_of : (db bucket : List ℕ) → Tree → ℕ → GetTask
get_of db bucket id read = record { at = record { db = db; name = bucket }; id = id; read = read }

abbrev pub sought : Sought → GetTask
sought s = get_of s.db.now (string_bytes s.bucket.now) (tree s.id.now) s.read

-- an opening of this file, whose bucket is a copy
pub record IsOpeningFor (g : GetTask) (o : ClientFinding) : Type 0 where
  pub id_is : o.id ≡ g.id
  pub placed : (b : ClientBucket) → o.bucket ≡ Some b → IsPlainAt b g.at

-- ---- how much is read at once

-- the most bytes of one read
abbrev pub most_read : ℕ
most_read = 16777216

-- the room of a read
abbrev pub room_of : ℕ → ℕ
room_of read = min read most_read

-- nothing can be read into no room
abbrev pub no_room : Error
no_room = plain (kind.InvalidArgument argument.ReadSize)

-- ---- commands

-- asks for the record of the file
abbrev pub record_find : GetTask → Fields
record_find g = fields_in (found_lines (plain_bucket g.at) g.id)

-- asks for the chunks of the file whose record has this id
abbrev pub chunks_find : GetTask → Tree → Fields
chunks_find g id = fields_in (listed_lines (plain_bucket g.at) id)

-- each batch has the size that the server chooses
abbrev pub no_manner : Manner
no_manner = record { size = None; wait = None; comment = None }

-- asks for more chunks
abbrev pub more_chunks : ℤ → Space → Fields
more_chunks cursor space = next_command cursor space no_manner

-- a command that a get may send, where a read has room
pub data IsGetCommand (g : GetTask) (command : Fields) : Type 0 where
  for_record : 0 < g.read → command ≡ record_find g → IsGetCommand g command
  for_chunks : 0 < g.read → (id : Tree) → command ≡ chunks_find g id → IsGetCommand g command
  for_more : 0 < g.read → (cursor : ℤ) (space : Space) → command ≡ more_chunks cursor space → IsGetCommand g command

-- asks for more chunks by some cursor
pub record AsksForMore (command : Fields) : Type 0 where
  pub cursor : ℤ
  pub space : Space
  pub asks_so : command ≡ more_chunks cursor space

-- asks for the chunks of the file of this record, which has bytes
abbrev pub IsListFor : GetTask → Option FileRecord → Fields → Type 0
IsListFor g None command = ⊥
IsListFor g (Some f) command = (f.length ≢ 0) × (command ≡ chunks_find g f.id)

-- The places of the finds of an opening, counted down: that of the record, once more, and then that of the chunks of the file whose record was found, once more.
abbrev pub IsFindAt : GetTask → Option FileRecord → ℕ → Fields → Type 0
IsFindAt g found zero command = ⊥
IsFindAt g found (suc zero) command = IsListFor g found command
IsFindAt g found (suc (suc zero)) command = IsListFor g found command
IsFindAt g found (suc (suc (suc place))) command = command ≡ record_find g

-- the list of its chunks is asked for so
abbrev pub AsksPlainly : ClientDownload → Type 0
AsksPlainly d = (c : ClientCursor) → cursor_in d.doing ≡ Some c → c.manner ≡ no_manner

-- ---- how far it has come

-- the ticket that a get holds
abbrev pub gets_ticket : GetStage → Option ℕ
gets_ticket gets.Unsent = None
gets_ticket (gets.Opens opening) = finding_ticket (finding_of opening)
gets_ticket (gets.Reads download room) = download_ticket (download_of download)
gets_ticket (gets.Ended end) = None

abbrev pub get_ticket : GetPlayer → Option ℕ
get_ticket job = gets_ticket job.stage

-- a get that sends nothing more
abbrev pub gets_ended : GetStage → Bool
gets_ended gets.Unsent = false
gets_ended (gets.Opens opening) = false
gets_ended (gets.Reads download room) = false
gets_ended (gets.Ended end) = true

abbrev pub get_ended : GetPlayer → Bool
get_ended job = gets_ended job.stage

-- what a get came to
abbrev pub get_end : GetStage → Ended (Unit {0})
get_end gets.Unsent = ended.Unfinished
get_end (gets.Opens opening) = ended.Unfinished
get_end (gets.Reads download room) = ended.Unfinished
get_end (gets.Ended end) = end

-- what it has in flight is its own, and what is read has its room
abbrev pub GetStageHolds : ℕ → GetStage → Type 0
GetStageHolds read gets.Unsent = Unit {0}
GetStageHolds read (gets.Opens opening) = IsSoundFinding (finding_of opening) × (0 < read)
GetStageHolds read (gets.Reads download room) = IsDownload download × (length room.items ≡ room_of read) × (0 < read)
GetStageHolds read (gets.Ended end) = Unit {0}

-- so many calls have ended behind which it went on: the opening, and reads that gave a byte each
abbrev pub FewCalls : GetStage → (bytes done : ℕ) → Type 0
FewCalls gets.Unsent bytes done = done ≡ 0
FewCalls (gets.Opens opening) bytes done = done ≡ 0
FewCalls (gets.Reads download room) bytes done = done ≤ bytes + 1
FewCalls (gets.Ended end) bytes done = done ≤ bytes + 1

pub record GetHolds (job : GetPlayer) : Type 0 where
  pub stage : GetStageHolds job.what.read job.stage
  pub few : FewCalls job.stage (length job.bytes.items) job.done

-- ---- parts of a turn

-- one more call has ended where it reads on
abbrev pub done_behind : GetStage → ℕ → ℕ
done_behind gets.Unsent done = done
done_behind (gets.Opens opening) done = done
done_behind (gets.Reads download room) done = done + 1
done_behind (gets.Ended end) done = done

-- want of memory
abbrev pub IsShortOfMemory : Ended (Unit {0}) → Type 0
IsShortOfMemory ended.Unfinished = ⊥
IsShortOfMemory (ended.Gave x) = ⊥
IsShortOfMemory (ended.Failed e) = e ≡ plain kind.OutOfMemory

-- a download that was opened is read, where there is memory for its room
abbrev pub OpensAs : GridFsDownloadStream → GetStage → Type 0
OpensAs download gets.Unsent = ⊥
OpensAs download (gets.Opens opening) = ⊥
OpensAs download (gets.Reads d room) = d ≡ download
OpensAs download (gets.Ended end) = IsShortOfMemory end

-- a read of nothing ends it well
abbrev pub EndsBehind : ℕ → Ended (Unit {0}) → Type 0
EndsBehind count ended.Unfinished = ⊥
EndsBehind count (ended.Gave x) = count ≡ 0
EndsBehind count (ended.Failed e) = (0 < count) × (e ≡ plain kind.OutOfMemory)

-- so many bytes that stand in the room are put behind those before, where there is memory for them
abbrev pub KeepsRead : GridFsDownloadStream → Vec ℕ Global → ℕ → (before after : List ℕ) → GetStage → Type 0
KeepsRead download room count before after gets.Unsent = ⊥
KeepsRead download room count before after (gets.Opens opening) = ⊥
KeepsRead download room count before after (gets.Reads d r) = (0 < count) × (d ≡ download) × (r ≡ room) × (after ≡ before ++ take count room.items)
KeepsRead download room count before after (gets.Ended end) = (after ≡ before) × EndsBehind count end

-- ---- what it knows

-- the file has no more bytes
abbrev pub KnowsEnd : Awaited → List Call → GetTask → List ℕ → Option ℕ → Ended (Unit {0}) → Type 0
KnowsEnd awaited calls g bytes at ended.Unfinished = ⊥
KnowsEnd awaited calls g bytes at (ended.Gave x) = (d : ClientDownload) × (listed : ℕ) × KnowsDownload awaited calls g.at g.id d bytes listed × (d.doing ≡ downloads.ended) × (at ≡ Some listed)
KnowsEnd awaited calls g bytes at (ended.Failed e) = Unit {0}

-- what a get with these bytes knows at a stage, where the call at this place listed its chunks
abbrev pub GetKnowsAt : Awaited → List Call → GetTask → GetStage → List ℕ → Option ℕ → Type 0
GetKnowsAt awaited calls g gets.Unsent bytes at = (bytes ≡ []) × (at ≡ None)
GetKnowsAt awaited calls g (gets.Opens opening) bytes at = IsOpeningFor g (finding_of opening) × KnowsOpening awaited calls g.at (finding_of opening) × (bytes ≡ []) × (at ≡ None)
GetKnowsAt awaited calls g (gets.Reads download room) bytes at = (listed : ℕ) × KnowsDownload awaited calls g.at g.id (download_of download) bytes listed × (at ≡ Some listed) × ((download_of download).doing ≢ downloads.spoiled)
GetKnowsAt awaited calls g (gets.Ended end) bytes at = KnowsEnd awaited calls g bytes at end

-- the cursor of its chunks is its own, and one that may come with a reply in flight
abbrev pub get_owner : Awaited → GetStage → Owner
get_owner awaited gets.Unsent = nobody
get_owner awaited (gets.Opens opening) = looking_owner awaited (finding_of opening).doing
get_owner awaited (gets.Reads download room) = doing_owner awaited (download_of download).doing
get_owner awaited (gets.Ended end) = nobody

-- what a get that is this to other jobs knows of its server, where the call at this place listed its chunks
pub record GetKnows (awaited : Awaited) (calls : List Call) (g : GetTask) (stage : GetStage) (bytes : List ℕ) (o : Owner) (at : Option ℕ) : Type 0 where
  pub knows : GetKnowsAt awaited calls g stage bytes at
  pub owns : o ≡ get_owner awaited stage
