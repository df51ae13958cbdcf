-- What the answers of an insert are caused by, over all its polls.
use Rattle.std.specs.Prelude.{◌≡◌, ◌⊎◌, ◌<◌, ◌≤◌, ◌+◌, ◌++◌, false, ℕ, ℤ, List, [], ◌∷◌, length, Option, Some, None, slice_get}
use Rattle.std.specs.List.{sum_by}
use Rattle.mg_bson.specs.Bytes.{bytes}
use Rattle.mg_bson.specs.Tree.{Fields}
use Rattle.mg_bson.specs.Raw.{fields}
use Rattle.mg_bson.specs.Writable.{max_len}
use Rattle.mg_server.specs.Calls.{IsAwaited, Flies, Past, RequestFails, past_of, AddsOnly}
use Rattle.mg_link.specs.Exec.{unsent}
use Rattle.mg_link.specs.Link.{Awaited, LogTold}
use Rattle.mg_link.specs.Log.{Call}
use Rattle.mg_link.specs.Namespace.{Space, space}
use Rattle.mg_link.specs.declared.action.Step.{Step}
use Rattle.mg_link.specs.declared.action.Step.TheVariants as step
use Rattle.mg_link.specs.declared.error.Error.{Error}
use Rattle.mg_link.specs.declared.error.ErrorKind.TheVariants as kind
use Rattle.mg_ops.specs.Bodies.{insert_command}
use Rattle.mg_ops.specs.Failing.{CannotBeInserted, CannotBeSent}
use Rattle.mg_ops.specs.Limits.{max_documents}
use Rattle.mg_ops.specs.Writes.{NotInserted}
use Rattle.mg_ops.specs.Underway.{IsBatch, sent_of}
use Rattle.mg_ops.specs.declared.inserting.Batches.{Batches}
use Rattle.mg_ops.specs.declared.inserting.Command.{Command}
use Rattle.mg_ops.specs.declared.inserting.Heard.{Heard}
use Rattle.mg_ops.specs.declared.inserting.Heard.TheVariants as heard
use Rattle.mg_ops.specs.declared.inserting.Inserting.{Inserting}
use Rattle.mg_ops.specs.declared.inserting.Next.{Next}
use Rattle.mg_ops.specs.declared.inserting.Next.TheVariants as next

-- the most bytes of the documents of one command together
abbrev pub max_piece : ℕ
max_piece = 47000000

-- how many bytes these documents have together
abbrev pub total : List Fields → ℕ
total ds = sum_by (λ (d : Fields). length (bytes d)) ds

-- the documents are not too large for one command, or are a single one
abbrev pub FitTogether : List Fields → Type 0
FitTogether ds = (total ds ≤ max_piece) ⊎ (length ds ≡ 1)

-- some of the documents that are sent, in their order, as one command may insert them
pub record IsPiece (sent piece : List Fields) : Type 0 where
  pub before : List Fields
  pub after : List Fields
  pub whole : sent ≡ before ++ piece ++ after
  pub some : 1 ≤ length piece
  pub few : length piece ≤ max_documents
  pub together : FitTogether piece

-- the command inserts some of the documents
pub record IsInsertOf (at : Space) (sent : List Fields) (command : Fields) : Type 0 where
  pub piece : List Fields
  pub part : IsPiece sent piece
  pub command_is : command ≡ insert_command at piece

-- a reply lists write errors of this command, or a write concern error, or breaks its grammar, and the error tells no more
abbrev pub ListsFor : List Fields → List ℕ → Error → Type 0
ListsFor piece bytes e = NotInserted (length piece) (fields bytes) e

-- why an insert that sends these documents fails
pub data InsertFails (past : Past) (at : Space) (sent : List Fields) (e : Error) : Type 0 where
  -- memory ran out
  no_memory : e.kind ≡ kind.OutOfMemory → InsertFails past at sent e
  -- one of its commands failed, or the reply to it lists a failure
  command_fails : (piece : List Fields) → IsPiece sent piece → RequestFails past (insert_command at piece) false (ListsFor piece) e → InsertFails past at sent e
  -- one of the documents cannot be encoded
  cannot_encode : (d : Fields) → IsPiece sent (d ∷ []) → CannotBeSent d e → InsertFails past at sent e
  -- the next command cannot be built
  cannot_insert : (piece : List Fields) → IsPiece sent piece → CannotBeInserted piece e ⊎ CannotBeSent (insert_command at piece) e → InsertFails past at sent e

-- the command inserts some of the documents, and how far it has come
pub record IsSentFor (awaited : Awaited) (past : Past) (at : Space) (sent : List Fields) (c : Command) : Type 0 where
  pub part : IsPiece sent c.insert.documents.items
  pub command_is : fields c.exec.command ≡ insert_command at c.insert.documents.items
  pub once : c.exec.retries ≡ false
  pub flies : Flies awaited past (insert_command at c.insert.documents.items) c.exec.stage

abbrev pub InsertFlies : Awaited → Past → Space → List Fields → Option Command → Type 0
InsertFlies awaited past at sent None = Unit {0}
InsertFlies awaited past at sent (Some c) = IsSentFor awaited past at sent c

-- how far an insert has come
pub record InsertsSoFar (awaited : Awaited) (past : Past) (at : Space) (sent : List Fields) (b : Batches) (waiting : Option Command) : Type 0 where
  pub at_is : space b.ns.now ≡ at
  pub sent_is : sent_of b.drawn.items b.documents.now ≡ sent
  pub flies : InsertFlies awaited past at sent waiting

-- the same of an insert as it stands between its polls
abbrev pub HasSent : Awaited → Past → Space → List Fields → Inserting → Type 0
HasSent awaited past at sent i = InsertsSoFar awaited past at sent i.batches i.command

-- it waits for the reply to a command that inserts some of the documents
pub record InsertWaits (awaited : Awaited) (past : Past) (at : Space) (sent : List Fields) : Type 0 where
  pub piece : List Fields
  pub part : IsPiece sent piece
  pub waits : IsAwaited awaited past (insert_command at piece)

-- what a poll of an insert comes to
abbrev pub InsertCame : Awaited → Past → Space → List Fields → Step Inserting ℕ → Type 0
InsertCame awaited past at sent (step.Pending i) = HasSent awaited past at sent i
InsertCame awaited past at sent (step.Done n) = Unit {0}
InsertCame awaited past at sent (step.Failed e) = InsertFails past at sent e

-- A poll led an insert on that had sent at these places before, and sent only some of its documents.
abbrev pub InsertCaused : Awaited → Awaited → LogTold → LogTold → ℤ → Inserting → Step Inserting ℕ → Type 0
InsertCaused old new log log' wire i result = (calls : List Call) → log ≡ Some calls → (places : List ℕ) (at : Space) (sent : List Fields) → HasSent old (past_of places (length calls) calls wire) at sent i
    → (calls' : List Call) × (log' ≡ Some calls') × InsertCame new (past_of places (length calls) calls' wire) at sent result × AddsOnly (IsInsertOf at sent) calls calls'

-- ---- steps

-- the length of a document, or none where it is longer than any may be
abbrev pub IsLength : Fields → Option ℕ → Type 0
IsLength d None = max_len < length (bytes d)
IsLength d (Some n) = n ≡ length (bytes d)

-- one of the documents with their ids cannot be encoded
abbrev pub CannotEncode : List Fields → Error → Type 0
CannotEncode sent e = (place : ℕ) × (d : Fields) × (slice_get sent place ≡ Some d) × CannotBeSent d e

-- these are the documents of the next command, up to this one
pub record IsNextPiece (b : Batches) (piece : List Fields) (upto : ℕ) : Type 0 where
  pub these : IsBatch b.drawn.items b.documents.now b.upto piece upto
  pub further : b.upto < upto
  pub within : upto ≤ length b.documents.now
  pub few : upto ≤ b.upto + max_documents
  pub together : FitTogether piece

-- why the next command is not built
abbrev pub CannotGoOn : Batches → Error → Type 0
CannotGoOn b e = CannotEncode (sent_of b.drawn.items b.documents.now) e
    ⊎ ((piece : List Fields) × (upto : ℕ) × IsNextPiece b piece upto × (CannotBeInserted piece e ⊎ CannotBeSent (insert_command (space b.ns.now) piece) e))

-- the command is the next one, and was not sent
pub record IsBuilt (b : Batches) (upto : ℕ) (c : Command) : Type 0 where
  pub part : IsNextPiece b c.insert.documents.items upto
  pub command_is : fields c.exec.command ≡ insert_command (space b.ns.now) c.insert.documents.items
  pub once : c.exec.retries ≡ false
  pub stage_is : c.exec.stage ≡ unsent

abbrev pub NextGoes : Awaited → Past → Space → List Fields → Batches → Next → Type 0
NextGoes awaited past at sent b (next.Send c) = InsertsSoFar awaited past at sent b (Some c)
NextGoes awaited past at sent b next.Finished = Unit {0}
NextGoes awaited past at sent b (next.Stopped e) = InsertFails past at sent e

-- where an insert had come so far, this is sent next
abbrev pub NextCaused : Batches → Batches → Option Command → Next → Type 0
NextCaused b b' waiting result = (awaited : Awaited) (past : Past) (at : Space) (sent : List Fields) → InsertsSoFar awaited past at sent b waiting → NextGoes awaited past at sent b' result

abbrev pub HeardCame : Awaited → Past → Space → List Fields → Heard → Type 0
HeardCame awaited past at sent (heard.Pending c) = IsSentFor awaited past at sent c
HeardCame awaited past at sent heard.Inserted = Unit {0}
HeardCame awaited past at sent (heard.Failed e) = InsertFails past at sent e

-- where the log is told, a poll of a command comes to this
abbrev pub HearsCaused : Awaited → Awaited → LogTold → LogTold → ℤ → Command → Heard → Type 0
HearsCaused old new log log' wire c result = (calls : List Call) → log ≡ Some calls → (places : List ℕ) (since : ℕ) → since ≤ length calls → (at : Space) (sent : List Fields) → IsSentFor old (past_of places since calls wire) at sent c
    → (calls' : List Call) × (log' ≡ Some calls') × (since ≤ length calls') × HeardCame new (past_of places since calls' wire) at sent result × AddsOnly (IsInsertOf at sent) calls calls'

-- where the log is told, an insert has come from one state to these batches and this command
abbrev pub LeadsCaused : Awaited → Awaited → LogTold → LogTold → ℤ → Inserting → Batches → Option Command → Type 0
LeadsCaused old new log log' wire i b waiting = (calls : List Call) → log ≡ Some calls → (places : List ℕ) (at : Space) (sent : List Fields) → HasSent old (past_of places (length calls) calls wire) at sent i
    → (calls' : List Call) × (log' ≡ Some calls') × (length calls ≤ length calls') × InsertsSoFar new (past_of places (length calls) calls' wire) at sent b waiting × AddsOnly (IsInsertOf at sent) calls calls'
