-- How a download is opened: the record of its file is found, and then its chunks are listed (GridFS specification, "File Download").
use Rattle.std.specs.Prelude.{◌≡◌, ◌≢◌, ◌⊎◌, ◌<◌, ℕ, ℤ, true, List, Option, Some, None, Ok, Err}
use Rattle.mg_bson.specs.Find.{as_document}
use Rattle.mg_bson.specs.Raw.{fields}
use Rattle.mg_bson.specs.Tree.{Fields, Items, Tree, item, no_items}
use Rattle.mg_bson.specs.View.{tree}
use Rattle.mg_bson.specs.declared.tree.Bson.{Bson}
use Rattle.mg_link.specs.Errors.{plain}
use Rattle.mg_link.specs.Exec.{Runs, Sending, ticket_of}
use Rattle.mg_link.specs.Link.{Awaited, SendsNothing, LogTold}
use Rattle.mg_link.specs.declared.action.Step.{Step}
use Rattle.mg_link.specs.declared.action.Step.TheVariants as step
use Rattle.mg_link.specs.declared.error.Error.{Error}
use Rattle.mg_link.specs.declared.error.ErrorKind.TheVariants as kind
use Rattle.mg_link.specs.declared.error.GridFsErrorKind.TheVariants as grid
use Rattle.mg_link.specs.declared.error.GridFsFileIdentifier.TheVariants as identifier
use Rattle.mg_link.specs.declared.error.Malformed.{Malformed}
use Rattle.mg_link.specs.declared.error.Malformed.TheVariants as malformed
use Rattle.mg_ops.specs.Cursors.{BreaksIn, Cursor, OpensWith, cursor_of}
use Rattle.mg_ops.specs.Failing.{FailsBy}
use Rattle.mg_ops.specs.declared.cursor_reply.CursorSpecification.{CursorSpecification}
use Rattle.mg_cursor.specs.Client.{new_client}
use Rattle.mg_chunks.specs.Sizes.{chunk_count_of}
use Rattle.mg_records.specs.FileRecords.{FileRecord, file_record_of}
use Rattle.mg_chunks.specs.Broken.{Breaks, broken}
use Rattle.mg_gridfs.specs.Buckets.{ClientBucket, SameBucket}
use Rattle.mg_gridfs.specs.Commands.{CannotSend, IsNewRequest, IsRequest, found_lines, listed_lines}
use Rattle.mg_gridfs.specs.Downloads.{ClientDownload, empty_download, new_download}

-- how far it has come
pub data Looking : Type 0 where
  starts : Looking
  -- the record is asked for
  finds : (sending : Sending) → Looking
  -- the chunks of the file with this record, which are to be so many
  lists : (file : FileRecord) (count : ℕ) (sending : Sending) → Looking

pub record ClientFinding : Type 0 where
  -- none where memory ran out as it was copied
  pub bucket : Option ClientBucket
  -- the id of the file
  pub id : Tree
  pub doing : Looking

abbrev pub ticket_by : Looking → Option ℕ
ticket_by starts = None
ticket_by (finds sending) = ticket_of sending
ticket_by (lists file count sending) = ticket_of sending

-- the ticket that is held
abbrev pub finding_ticket : ClientFinding → Option ℕ
finding_ticket o = ticket_by o.doing

-- a new opening is of this bucket and id, unless memory ran out
pub record IsNewFinding (b : ClientBucket) (id : Tree) (o : ClientFinding) : Type 0 where
  pub bucket : (o.bucket ≡ None) ⊎ ((c : ClientBucket) × (o.bucket ≡ Some c) × SameBucket b c)
  pub id_is : o.id ≡ id
  pub new : o.doing ≡ starts

-- ---- what each opening keeps

-- chunks are listed of a file that has some
pub record IsListing (b : ClientBucket) (file : FileRecord) (count : ℕ) (sending : Sending) : Type 0 where
  pub some : 0 < file.length
  pub counted : chunk_count_of file.length file.chunk_size ≡ Ok count
  pub request : IsRequest true (listed_lines b file.id) sending

abbrev pub SoundIn : ClientBucket → Tree → Looking → Type 0
SoundIn b id starts = Unit {0}
SoundIn b id (finds sending) = IsRequest true (found_lines b id) sending
SoundIn b id (lists file count sending) = IsListing b file count sending

-- what is on its way is the opening's own; without a bucket nothing is
pub record IsSoundFinding (o : ClientFinding) : Type 0 where
  pub own : (b : ClientBucket) → o.bucket ≡ Some b → SoundIn b o.id o.doing
  pub none : o.bucket ≡ None → o.doing ≡ starts

-- ---- the record

-- the record that a batch gives: that of its first document; or it gives none
pub data GivesFirst (batch : Items) (found : Option FileRecord) : Type 0 where
  none_found : batch ≡ no_items → found ≡ None → GivesFirst batch found
  is_found : (t : Tree) (ts : Items) (d : Fields) (f : FileRecord) → batch ≡ item t ts → as_document t ≡ Some d → file_record_of d ≡ Ok f → found ≡ Some f → GivesFirst batch found

-- or its first item is no record
pub data BreaksFirst (batch : Items) (e : Error) : Type 0 where
  no_document : (t : Tree) (ts : Items) → batch ≡ item t ts → as_document t ≡ None → e ≡ broken malformed.BadItem → BreaksFirst batch e
  no_record : (t : Tree) (ts : Items) (d : Fields) → batch ≡ item t ts → as_document t ≡ Some d → Breaks (file_record_of d) e → BreaksFirst batch e

-- what the reply to the find of a record gives
pub record ReadsRecord (reply : List ℕ) (found : Option FileRecord) : Type 0 where
  pub said : Cursor
  pub says : cursor_of (fields reply) ≡ Ok said
  pub first : GivesFirst said.batch found

-- how it breaks its grammar
pub data BreaksRecord (reply : List ℕ) (e : Error) : Type 0 where
  no_cursor : BreaksIn (fields reply) e → BreaksRecord reply e
  in_batch : (said : Cursor) → cursor_of (fields reply) ≡ Ok said → BreaksFirst said.batch e → BreaksRecord reply e

-- there is no file with this id
pub record IsNotFound (id : Tree) (e : Error) : Type 0 where
  pub value : Bson
  pub names : tree value ≡ id
  pub error : e ≡ plain (kind.GridFs (grid.FileNotFound (identifier.Id value)))

-- ---- polls

-- what a poll comes to
pub data Opened : Type 0 where
  waits : (doing : Looking) → Opened
  opens : (download : ClientDownload) → Opened
  fails : (e : Error) → Opened

-- a download of the chunks that this reply lists
pub record IsListed (f : FileRecord) (count : ℕ) (reply : List ℕ) (d : ClientDownload) : Type 0 where
  pub out : CursorSpecification
  pub opens : OpensWith None None None reply out
  pub download : d ≡ new_download f count (new_client out)

-- the reply to the list of its chunks
pub data ReadsList (f : FileRecord) (count : ℕ) (reply : List ℕ) (r : Opened) : Type 0 where
  opened : (out : CursorSpecification) → OpensWith None None None reply out → r ≡ opens (new_download f count (new_client out)) → ReadsList f count reply r
  broke : (e : Error) → FailsBy (BreaksIn (fields reply)) e → r ≡ fails e → ReadsList f count reply r

abbrev pub HearsList : FileRecord → ℕ → Step Sending (List ℕ) → Opened → Type 0
HearsList f count (step.Pending sending) r = r ≡ waits (lists f count sending)
HearsList f count (step.Done reply) r = ReadsList f count reply r
HearsList f count (step.Failed e) r = r ≡ fails e

-- its chunks are waited for
pub record ListsOn (old new : Awaited) (log log' : LogTold) (wire : ℤ) (f : FileRecord) (count : ℕ) (sending : Sending) (r : Opened) : Type 0 where
  pub came : Step Sending (List ℕ)
  pub runs : Runs old new log log' wire sending came
  pub hears : HearsList f count came r

-- Behind the record: a file without bytes has no chunks, and those of another one are asked for.
pub data OpensFile (old new : Awaited) (log log' : LogTold) (wire : ℤ) (b : ClientBucket) (f : FileRecord) (r : Opened) : Type 0 where
  too_many : (m : Malformed) → chunk_count_of f.length f.chunk_size ≡ Err m → SendsNothing old new log log' → r ≡ fails (broken m) → OpensFile old new log log' wire b f r
  is_empty : f.length ≡ 0 → SendsNothing old new log log' → r ≡ opens (empty_download f) → OpensFile old new log log' wire b f r
  not_built : f.length ≢ 0 → (e : Error) → FailsBy (CannotSend (listed_lines b f.id)) e → SendsNothing old new log log' → r ≡ fails e → OpensFile old new log log' wire b f r
  listed : f.length ≢ 0 → (count : ℕ) → chunk_count_of f.length f.chunk_size ≡ Ok count → (sending : Sending) → IsNewRequest true (listed_lines b f.id) sending → ListsOn old new log log' wire f count sending r → OpensFile old new log log' wire b f r

-- the reply to the find of the record
pub data HearsRecord (old new : Awaited) (log log' : LogTold) (wire : ℤ) (b : ClientBucket) (id : Tree) (reply : List ℕ) (r : Opened) : Type 0 where
  none_found : ReadsRecord reply None → (e : Error) → IsNotFound id e → SendsNothing old new log log' → r ≡ fails e → HearsRecord old new log log' wire b id reply r
  is_found : (f : FileRecord) → ReadsRecord reply (Some f) → OpensFile old new log log' wire b f r → HearsRecord old new log log' wire b id reply r
  broke : (e : Error) → FailsBy (BreaksRecord reply) e → SendsNothing old new log log' → r ≡ fails e → HearsRecord old new log log' wire b id reply r

-- the record is waited for, and behind it the poll goes on
pub data FindsOn (old new : Awaited) (log log' : LogTold) (wire : ℤ) (b : ClientBucket) (id : Tree) (sending : Sending) (r : Opened) : Type 0 where
  pends : (still : Sending) → Runs old new log log' wire sending (step.Pending still) → r ≡ waits (finds still) → FindsOn old new log log' wire b id sending r
  hears : (between : Awaited) (log_between : LogTold) (reply : List ℕ) → Runs old between log log_between wire sending (step.Done reply) → HearsRecord between new log_between log' wire b id reply r → FindsOn old new log log' wire b id sending r
  failed : (e : Error) → Runs old new log log' wire sending (step.Failed e) → r ≡ fails e → FindsOn old new log log' wire b id sending r

-- the find of the record is built, and sent
pub data BeginsFind (old new : Awaited) (log log' : LogTold) (wire : ℤ) (b : ClientBucket) (id : Tree) (r : Opened) : Type 0 where
  built : (sending : Sending) → IsNewRequest true (found_lines b id) sending → FindsOn old new log log' wire b id sending r → BeginsFind old new log log' wire b id r
  not_built : (e : Error) → FailsBy (CannotSend (found_lines b id)) e → SendsNothing old new log log' → r ≡ fails e → BeginsFind old new log log' wire b id r

-- What a poll of an opening does.
pub data Opens (old new : Awaited) (log log' : LogTold) (wire : ℤ) (o : ClientFinding) (r : Opened) : Type 0 where
  no_bucket : o.bucket ≡ None → SendsNothing old new log log' → r ≡ fails (plain kind.OutOfMemory) → Opens old new log log' wire o r
  begins : (b : ClientBucket) → o.bucket ≡ Some b → o.doing ≡ starts → BeginsFind old new log log' wire b o.id r → Opens old new log log' wire o r
  finds_on : (b : ClientBucket) → o.bucket ≡ Some b → (sending : Sending) → o.doing ≡ finds sending → FindsOn old new log log' wire b o.id sending r → Opens old new log log' wire o r
  lists_on : (b : ClientBucket) → o.bucket ≡ Some b → (f : FileRecord) (count : ℕ) (sending : Sending) → o.doing ≡ lists f count sending → ListsOn old new log log' wire f count sending r → Opens old new log log' wire o r
