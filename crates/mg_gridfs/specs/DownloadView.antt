-- What downloads and their openings are seen as.
use Rattle.std.specs.Prelude.{◌≡◌, ◌<◌, ◌++◌, ℕ, List, [], ◌∷◌, drop, length, map, Option, Some, None, option_map, unwrap_or}
use Rattle.std.specs.List.{AllByRecursion, concat}
use Rattle.mg_bson.specs.Raw.{fields}
use Rattle.mg_bson.specs.Tree.{Tree}
use Rattle.mg_bson.specs.View.{tree}
use Rattle.mg_bson.specs.declared.tree.Bson.{Bson}
use Rattle.mg_link.specs.declared.action.Step.{Step}
use Rattle.mg_link.specs.declared.action.Step.TheVariants as step
use Rattle.mg_cursor.specs.View.{behind_of, current_of}
use Rattle.mg_cursor.specs.declared.buffer.BatchBuffer.{BatchBuffer}
use Rattle.mg_records.specs.FileRecords.{file_record}
use Rattle.mg_gridfs.specs.Buckets.{ClientBucket, SameBucket, bucket_of}
use Rattle.mg_chunks.specs.Chunks.{data_of}
use Rattle.mg_gridfs.specs.Downloads.{ClientDownload, Doing, IsBetween, download_ticket, ended, idle, reads, spoiled}
use Rattle.mg_gridfs.specs.Findings.{ClientFinding, IsSoundFinding, Looking, Opened, fails, finding_ticket, finds, lists, opens, starts, waits}
use Rattle.mg_gridfs.specs.declared.download.GridFsDownloadStream.{GridFsDownloadStream}
use Rattle.mg_gridfs.specs.declared.download.State.{State}
use Rattle.mg_gridfs.specs.declared.download.State.TheVariants as state
use Rattle.mg_gridfs.specs.declared.hand.Hand.{Hand}
use Rattle.mg_gridfs.specs.declared.open_download.OpenDownloadStream.{OpenDownloadStream}
use Rattle.mg_gridfs.specs.declared.open_download.Opening.{Opening}
use Rattle.mg_gridfs.specs.declared.open_download.Opening.TheVariants as opening

-- ---- bytes in hand

-- the bytes of a chunk; none where it is none
abbrev pub data_in : List ℕ → List ℕ
data_in document = unwrap_or (data_of (fields document)) []

-- those of the current chunk
abbrev pub front_in : BatchBuffer → List ℕ
front_in b = unwrap_or (option_map data_in (current_of b)) []

-- those of a batch, from its current chunk on
abbrev pub bytes_in : BatchBuffer → List ℕ
bytes_in b = front_in b ++ concat (map data_in (behind_of b))

-- those of batches
abbrev pub bytes_of : List BatchBuffer → List ℕ
bytes_of batches = concat (map bytes_in batches)

-- all that is in hand, in order
abbrev pub hand_of : Hand → List ℕ
hand_of h = drop h.given (bytes_in h.batch) ++ bytes_of h.later.items

-- all but the current chunk
abbrev pub rest_of : Hand → List ℕ
rest_of h = concat (map data_in (behind_of h.batch)) ++ bytes_of h.later.items

-- each chunk has bytes
abbrev pub HaveBytes : List (List ℕ) → Type 0
HaveBytes documents = AllByRecursion (λ (document : List ℕ). 0 < length (data_in document)) documents

-- a batch that is begun later: it has a chunk
pub record IsLater (b : BatchBuffer) : Type 0 where
  pub before : current_of b ≡ None
  pub first : List ℕ
  pub more : List (List ℕ)
  pub some : behind_of b ≡ first ∷ more
  pub bytes : HaveBytes (first ∷ more)

abbrev pub AreLater : List BatchBuffer → Type 0
AreLater batches = AllByRecursion IsLater batches

-- the chunks behind the current one have bytes
pub record IsPassed (h : Hand) : Type 0 where
  pub behind : HaveBytes (behind_of h.batch)
  pub later : AreLater h.later.items

-- Bytes are left of the current chunk; or nothing is in hand.
pub data HoldsBytes (h : Hand) : Type 0 where
  nothing : current_of h.batch ≡ None → behind_of h.batch ≡ [] → h.given ≡ 0 → h.later.items ≡ [] → HoldsBytes h
  some : (document : List ℕ) → current_of h.batch ≡ Some document → h.given < length (data_in document) → HaveBytes (behind_of h.batch) → AreLater h.later.items → HoldsBytes h

-- ---- downloads

abbrev pub doing_of : State → Doing
doing_of (state.Idle cursor) = idle cursor
doing_of (state.Reading r) = reads r.cursor r.missing r.empty
doing_of state.Ended = ended
doing_of state.Failed = spoiled

abbrev pub download_of : GridFsDownloadStream → ClientDownload
download_of s = record { file = file_record s.file; count = s.count; taken = s.taken; ahead = hand_of s.hand; doing = doing_of s.state }

-- What is on its way is its own, and a read that goes on waits for a reply.
pub record IsDownload (s : GridFsDownloadStream) : Type 0 where
  pub between : IsBetween (download_of s)
  pub hand : HoldsBytes s.hand

-- ---- openings

abbrev pub bucket_in : Opening → Option ClientBucket
bucket_in opening.Nowhere = None
bucket_in (opening.Begin b) = Some (bucket_of b)
bucket_in (opening.Record b exec) = Some (bucket_of b)
bucket_in (opening.Chunks b exec file count) = Some (bucket_of b)

abbrev pub looking_of : Opening → Looking
looking_of opening.Nowhere = starts
looking_of (opening.Begin b) = starts
looking_of (opening.Record b exec) = finds exec
looking_of (opening.Chunks b exec file count) = lists (file_record file) count exec

-- an opening of the file with this id
abbrev pub finding_at : Bson → Opening → ClientFinding
finding_at id stage = record { bucket = bucket_in stage; id = tree id; doing = looking_of stage }

abbrev pub finding_of : OpenDownloadStream → ClientFinding
finding_of o = finding_at o.id o.stage

-- it begins in this bucket, unless memory ran out
abbrev pub IsBeginning : ClientBucket → Opening → Type 0
IsBeginning b opening.Nowhere = Unit {0}
IsBeginning b (opening.Begin c) = SameBucket b (bucket_of c)
IsBeginning b (opening.Record c exec) = ⊥
IsBeginning b (opening.Chunks c exec file count) = ⊥

-- how a poll of an opening ends
abbrev pub opened_as : Step OpenDownloadStream GridFsDownloadStream → Opened
opened_as (step.Pending o) = waits (finding_of o).doing
opened_as (step.Done s) = opens (download_of s)
opened_as (step.Failed e) = fails e

abbrev pub ticket_in : OpenDownloadStream → Option ℕ
ticket_in o = finding_ticket (finding_of o)

-- an opening that pends is of the same bucket and file still
abbrev pub KeepsAim : ClientFinding → Step OpenDownloadStream GridFsDownloadStream → Type 0
KeepsAim o (step.Pending p) = finding_of p ≡ record o { doing = (finding_of p).doing }
KeepsAim o (step.Done s) = Unit {0}
KeepsAim o (step.Failed e) = Unit {0}

-- it is of this bucket and file
abbrev pub KeepsWanted : ClientBucket → Tree → Step OpenDownloadStream GridFsDownloadStream → Type 0
KeepsWanted b id (step.Pending p) = finding_of p ≡ record { bucket = Some b; id = id; doing = (finding_of p).doing }
KeepsWanted b id (step.Done s) = Unit {0}
KeepsWanted b id (step.Failed e) = Unit {0}

-- what is on its way is its own, and so is that of the download
abbrev pub IsSoundBehind : Step OpenDownloadStream GridFsDownloadStream → Type 0
IsSoundBehind (step.Pending p) = IsSoundFinding (finding_of p)
IsSoundBehind (step.Done s) = IsDownload s × (download_ticket (download_of s) ≡ None)
IsSoundBehind (step.Failed e) = Unit {0}
