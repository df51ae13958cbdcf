-- Laws of downloads.
use Rattle.std.specs.Prelude.{◌≡◌, ◌≢◌, ◌⊎◌, ◌<◌, ◌≤◌, ◌++◌, ℕ, suc, List, [], ◌∷◌, length, take, Some, Ok, slice_get}
use Rattle.std.specs.List.{concat}
use Rattle.mg_bson.specs.Tree.{Fields, Tree}
use Rattle.mg_link.specs.Chunks.{chunked}
use Rattle.mg_server.specs.Files.{Bucket, IsWhole, LeavesFile, file_of}
use Rattle.mg_server.specs.History.{IsLegal, Step, state_of}
use Rattle.mg_link.specs.Link.{Awaited}
use Rattle.mg_link.specs.Log.{Call}
use Rattle.mg_server.specs.Owner.{Onward}
use Rattle.mg_server.specs.Standing.{Stands}
use Rattle.mg_chunks.specs.Sizes.{chunk_count, chunk_count_of, chunk_length}
use Rattle.mg_records.specs.FileRecords.{FileRecord, file_record_of}
use Rattle.mg_gridfs.specs.Downloads.{ClientDownload, download_ticket, ended, received, spoiled}
use Rattle.mg_gridfs.specs.Downloaded.{AreReceived, KnowsDownload, doing_owner}

-- ---- chunks

-- pieces as long as the chunks of the file are to be, from this number on
abbrev pub AreSized : FileRecord → ℕ → List (List ℕ) → Type 0
AreSized f n [] = Unit {0}
AreSized f n (c ∷ cs) = (length c ≡ chunk_length f.length f.chunk_size n) × AreSized f (suc n) cs

-- Chunks as many and as long as the record says are the cut of their bytes, which are as many as the record says.
abbrev pub CutsAsSized : Type 0
CutsAsSized = (f : FileRecord) (chunks : List (List ℕ)) → 0 < f.chunk_size → AreSized f 0 chunks → length chunks ≡ chunk_count f.length f.chunk_size → (length (concat chunks) ≡ f.length) × (chunked f.chunk_size (concat chunks) ≡ chunks)

-- so many chunks hold all bytes
abbrev pub AllReceived : Type 0
AllReceived = (f : FileRecord) → 0 < f.chunk_size → received f (chunk_count f.length f.chunk_size) ≡ f.length

-- ---- what this says of a server

-- What was read and is ahead are the first chunks of those that stood as the command at this position took effect; behind the end they are all, and as many as the record says.
pub record ReadsFront (history : List Step) (at : Bucket) (d : ClientDownload) (bytes : List ℕ) (fetched : ℕ) : Type 0 where
  pub chunks : List (List ℕ)
  pub documents : List Fields
  pub left : List Fields
  pub stood : (file_of (state_of (take (suc fetched) history)) at d.file.id).chunks ≡ documents ++ left
  pub received : AreReceived d.file 0 chunks documents
  pub parts : concat chunks ≡ bytes ++ d.ahead
  pub all_at_end : d.doing ≡ ended → (left ≡ []) × (chunk_count_of d.file.length d.file.chunk_size ≡ Ok (length chunks))

-- The record that was read is the first of those that stood as the command at this position took effect; its chunks were listed at a later one, unless the file has no bytes.
pub record HasRead (history : List Step) (at : Bucket) (id : Tree) (d : ClientDownload) (bytes : List ℕ) : Type 0 where
  pub opened : ℕ
  pub first : Fields
  pub more : List Fields
  pub stood : (file_of (state_of (take (suc opened) history)) at id).records ≡ first ∷ more
  pub reads_as : file_record_of first ≡ Ok d.file
  pub chunks_so : ((d.file.length ≡ 0) × (bytes ≡ []) × (d.ahead ≡ [])) ⊎ ((fetched : ℕ) × ReadsFront history at d bytes fetched)

-- in every legal history in which the log stands
abbrev pub DownloadReads : Type 0
DownloadReads = (awaited : Awaited) (calls : List Call) (at : Bucket) (id : Tree) (d : ClientDownload) (bytes : List ℕ) (listed : ℕ) → KnowsDownload awaited calls at id d bytes listed → d.doing ≢ spoiled
    → (history : List Step) → IsLegal history → Stands calls history → HasRead history at id d bytes

-- a file that is not touched from one position to a later one
abbrev pub StaysWhole : List Step → Bucket → Tree → List ℕ → ℕ → ℕ → Type 0
StaysWhole history at id bytes size from = IsWhole (state_of (take from history)) at id bytes size × ((position : ℕ) (step : Step) → from ≤ position → slice_get history position ≡ Some step → LeavesFile (state_of (take position history)) step at id)

-- the call at this place took effect at this position or later
abbrev pub IsFrom : List Call → ℕ → ℕ → Type 0
IsFrom calls from place = (call : Call) (position : ℕ) → slice_get calls place ≡ Some call → call.position ≡ Some position → from ≤ position

-- Of a file that was whole before its record was found, and that nobody touches from then on, the front is read, and behind the end all of it.
abbrev pub DownloadReadsFile : Type 0
DownloadReadsFile = (awaited : Awaited) (calls : List Call) (at : Bucket) (id : Tree) (d : ClientDownload) (bytes : List ℕ) (listed : ℕ) (k : KnowsDownload awaited calls at id d bytes listed) → d.doing ≢ spoiled → d.file.id ≡ id
    → (history : List Step) → IsLegal history → Stands calls history → (whole : List ℕ) (size from : ℕ) → StaysWhole history at id whole size from → IsFrom calls from k.of_record.front.place
    → (left : List ℕ) × (whole ≡ bytes ++ d.ahead ++ left) × (d.doing ≡ ended → left ≡ [])

-- the call at this place took effect at a position from one on, before another
abbrev pub IsBetween : List Call → (from upto place : ℕ) → Type 0
IsBetween calls from upto place = (call : Call) (position : ℕ) → slice_get calls place ≡ Some call → call.position ≡ Some position → (from ≤ position) × (position < upto)

-- Of a file that was whole, and that nobody touched until its chunks were listed, or were found to be none, the front is read, and behind the end all of it.
abbrev pub DownloadReadsUntil : Type 0
DownloadReadsUntil = (awaited : Awaited) (calls : List Call) (at : Bucket) (id : Tree) (d : ClientDownload) (bytes : List ℕ) (listed : ℕ) → KnowsDownload awaited calls at id d bytes listed → d.doing ≢ spoiled
    → (history : List Step) → IsLegal history → Stands calls history → (whole : List ℕ) (size from upto : ℕ) → IsWhole (state_of (take from history)) at id whole size
    → ((position : ℕ) (step : Step) → from ≤ position → position < upto → slice_get history position ≡ Some step → LeavesFile (state_of (take position history)) step at id) → IsBetween calls from upto listed
    → (left : List ℕ) × (whole ≡ bytes ++ d.ahead ++ left) × (d.doing ≡ ended → left ≡ [])

-- it goes on knowing while others call, which leave its ticket and its cursor alone
abbrev pub DownloadsGoOn : Type 0
DownloadsGoOn = (old new : Awaited) (calls calls' : List Call) (at : Bucket) (id : Tree) (d : ClientDownload) (bytes : List ℕ) (listed : ℕ) → Onward calls calls' (doing_owner old d.doing) → ((m : ℕ) → download_ticket d ≡ Some m → new m ≡ old m)
    → KnowsDownload old calls at id d bytes listed → KnowsDownload new calls' at id d bytes listed
