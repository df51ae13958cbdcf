-- By which cursors a get asks for more chunks.
use Rattle.std.specs.Prelude.{◌≡◌, ◌≢◌, ◌<◌, ◌≤◌, ℕ, ℤ, pos, List, Some, Ok, slice_get}
use Rattle.mg_bson.specs.Raw.{fields}
use Rattle.mg_link.specs.Exec.{IsSuccess, Stage, unsent, first, second}
use Rattle.mg_link.specs.Link.{Awaited}
use Rattle.mg_link.specs.Log.{Call, reply}
use Rattle.mg_link.specs.Namespace.{Space}
use Rattle.mg_server.specs.Owner.{IsOf}
use Rattle.mg_ops.specs.Cursors.{Cursor, cursor_of}
use Rattle.mg_cursor.specs.Client as client
use Rattle.mg_cursor.specs.Client.{ClientCursor}
use Rattle.mg_gridfs.specs.Downloads.{ClientDownload}
use Rattle.mg_gridfs.specs.Findings as findings
use Rattle.mg_gridfs.specs.Findings.{Looking}
use Rattle.mg_gridfs.specs.ReadCauses.{cursor_in}
use Rattle.mg_players.specs.Gets.{more_chunks}

-- ---- what was sent

-- the reply to the command at this place told this cursor
pub record TellsAt (calls : List Call) (place : ℕ) (id : ℤ) (space : Space) : Type 0 where
  pub call : Call
  pub there : slice_get calls place ≡ Some call
  pub bytes : List ℕ
  pub has_seen : call.seen ≡ reply bytes
  pub success : IsSuccess bytes
  pub cursor : Cursor
  pub says : cursor_of (fields bytes) ≡ Ok cursor
  pub id_is : cursor.id ≡ id
  pub space_is : cursor.space ≡ space

-- The command at this place asks for more chunks by an open cursor: the one that was told by the reply to the newest of its own commands before it.
pub record AsksOnBy (calls : List Call) (own : ℕ → Type 0) (place : ℕ) : Type 0 where
  pub call : Call
  pub there : slice_get calls place ≡ Some call
  pub id : ℤ
  pub space : Space
  pub asks_so : fields call.command ≡ more_chunks id space
  pub held : id ≢ pos 0
  pub before : ℕ
  pub its : own before
  pub less : before < place
  pub newest : (other : ℕ) → own other → other < place → other ≤ before
  pub told : TellsAt calls before id space

-- so does the command at each of these places, where all of it stand at those
abbrev pub AllAskOn : List Call → List ℕ → List ℕ → Type 0
AllAskOn calls all places = (place : ℕ) → IsOf places place → AsksOnBy calls (λ (n : ℕ). IsOf all n) place

-- ---- while it goes on

-- the reply to the newest of its commands told the cursor
pub record IsToldLast (calls : List Call) (own : ℕ → Type 0) (c : ClientCursor) : Type 0 where
  pub before : ℕ
  pub its : own before
  pub newest : (other : ℕ) → own other → other ≤ before
  pub told : TellsAt calls before c.id c.space

-- the newest of its commands waits for its reply
pub record WaitsLast (awaited : Awaited) (own : ℕ → Type 0) (ticket : ℕ) : Type 0 where
  pub place : ℕ
  pub at : awaited ticket ≡ Some place
  pub its : own place
  pub newest : (other : ℕ) → own other → other ≤ place

-- a command that was sent is the newest
abbrev pub FliesLast : Awaited → (ℕ → Type 0) → Stage → Type 0
FliesLast awaited own unsent = Unit {0}
FliesLast awaited own (first ticket) = WaitsLast awaited own ticket
FliesLast awaited own (second ticket) = WaitsLast awaited own ticket

-- and before its getMore is sent, a cursor is the one that the newest reply told
abbrev pub MoreLast : Awaited → List Call → (ℕ → Type 0) → ClientCursor → Stage → Type 0
MoreLast awaited calls own c unsent = IsToldLast calls own c
MoreLast awaited calls own c (first ticket) = WaitsLast awaited own ticket
MoreLast awaited calls own c (second ticket) = WaitsLast awaited own ticket

abbrev pub CursorLast : Awaited → List Call → (ℕ → Type 0) → ClientCursor → client.Doing → Type 0
CursorLast awaited calls own c client.rests = IsToldLast calls own c
CursorLast awaited calls own c (client.holds bytes) = IsToldLast calls own c
CursorLast awaited calls own c (client.asks sending) = MoreLast awaited calls own c sending.stage

-- so is that of a download, where it has one
abbrev pub DownloadLast : Awaited → List Call → (ℕ → Type 0) → ClientDownload → Type 0
DownloadLast awaited calls own d = (c : ClientCursor) → cursor_in d.doing ≡ Some c → CursorLast awaited calls own c c.doing

-- the find of an opening that was sent is the newest
abbrev pub FindingLast : Awaited → (ℕ → Type 0) → Looking → Type 0
FindingLast awaited own findings.starts = Unit {0}
FindingLast awaited own (findings.finds sending) = FliesLast awaited own sending.stage
FindingLast awaited own (findings.lists file count sending) = FliesLast awaited own sending.stage
