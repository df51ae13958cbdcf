-- How far an insert has come, where the log is told.
use Rattle.std.specs.Prelude.{◌≡◌, ◌≤◌, ◌++◌, ℕ, ℤ, true, List, [], ◌∷◌, length, take, Option, Some, None, slice_get, codes}
use Rattle.mg_bson.specs.Tree.{object_id, Fields, field}
use Rattle.mg_bson.specs.declared.object_id.ObjectId.{ObjectId}
use Rattle.mg_server.specs.Calls.{IsOwn, Past, past_of}
use Rattle.mg_server.specs.Commands.{asked, asks_insert}
use Rattle.mg_link.specs.Exec.{ticket_of}
use Rattle.mg_link.specs.Link.{Awaited, LogTold}
use Rattle.mg_link.specs.Log.{Call}
use Rattle.mg_link.specs.Namespace.{Space, space}
use Rattle.mg_link.specs.declared.action.Step.{Step}
use Rattle.mg_link.specs.declared.action.Step.TheVariants as step
use Rattle.mg_ops.specs.Naming.{IsNamed}
use Rattle.mg_ops.specs.Appended.{Appended, InsertedBelow}
use Rattle.mg_ops.specs.declared.inserting.Batches.{Batches}
use Rattle.mg_ops.specs.declared.inserting.Command.{Command}
use Rattle.mg_ops.specs.declared.inserting.Heard.{Heard}
use Rattle.mg_ops.specs.declared.inserting.Heard.TheVariants as heard
use Rattle.mg_ops.specs.declared.inserting.Inserting.{Inserting}
use Rattle.mg_ops.specs.declared.inserting.Next.{Next}
use Rattle.mg_ops.specs.declared.inserting.Next.TheVariants as next

-- ---- documents and their ids

-- the document, behind a drawn id where there is one
abbrev pub with_id : Option ObjectId → Fields → Fields
with_id None d = d
with_id (Some id) d = field (codes "_id") (object_id id.0) d

-- what is sent for the documents with the drawn ids
abbrev pub sent_of : List (Option ObjectId) → List Fields → List Fields
sent_of os [] = []
sent_of [] (d ∷ ds) = d ∷ sent_of [] ds
sent_of (o ∷ os) (d ∷ ds) = with_id o d ∷ sent_of os ds

-- the documents of a command are those from its first on up to its last
abbrev pub IsBatch : List (Option ObjectId) → List Fields → ℕ → List Fields → ℕ → Type 0
IsBatch drawn documents from batch upto = take upto (sent_of drawn documents) ≡ take from (sent_of drawn documents) ++ batch

-- ---- a command that is underway

-- the command waits in the log, at a place of its own, behind the commands that inserted what was sent before
pub record WaitsBehind (awaited : Awaited) (past : Past) (space : Space) (before piece : List Fields) (ticket : ℕ) : Type 0 where
  pub place : ℕ
  pub call : Call
  pub at : awaited ticket ≡ Some place
  pub own : IsOwn past place
  pub found : slice_get past.calls place ≡ Some call
  pub asks : asked call.command ≡ asks_insert space piece true
  pub done : InsertedBelow past place space before

-- a command waits in the log, or is not sent
abbrev pub Holding : Awaited → Past → Space → List Fields → List Fields → Option ℕ → Type 0
Holding awaited past space before piece None = InsertedBelow past (length past.calls) space before
Holding awaited past space before piece (Some ticket) = WaitsBehind awaited past space before piece ticket

-- the command asks for the last of these documents to be inserted, and the others are inserted
pub record IsUnderway (awaited : Awaited) (past : Past) (space : Space) (sent : List Fields) (c : Command) : Type 0 where
  pub before : List Fields
  pub piece : List Fields
  pub whole : sent ≡ before ++ piece
  pub asks : asked c.exec.command ≡ asks_insert space piece true
  pub holding : Holding awaited past space before piece (ticket_of c.exec)

-- the documents are inserted, but for those of the command that is underway
abbrev pub AreSent : Awaited → Past → Space → List Fields → Option Command → Type 0
AreSent awaited past space sent None = InsertedBelow past (length past.calls) space sent
AreSent awaited past space sent (Some c) = IsUnderway awaited past space sent c

-- of the documents to be sent those that stand in commands are inserted, but for those of the command that is underway
pub record IsInserting (awaited : Awaited) (past : Past) (at : Space) (sent : List Fields) (b : Batches) (waiting : Option Command) : Type 0 where
  pub at_is : space b.ns.now ≡ at
  pub sent_is : sent_of b.drawn.items b.documents.now ≡ sent
  pub done : AreSent awaited past at (take b.upto sent) waiting

-- ---- steps

-- these documents are to be sent, and none of them stands in a command
pub record AreUnsent (at : Space) (sent : List Fields) (b : Batches) : Type 0 where
  pub at_is : space b.ns.now ≡ at
  pub sent_is : sent_of b.drawn.items b.documents.now ≡ sent
  pub none : b.upto ≡ 0

-- an insert of these documents has sent nothing
pub record IsStarted (at : Space) (sent : List Fields) (i : Inserting) : Type 0 where
  pub unsent : AreUnsent at sent i.batches
  pub quiet : i.command ≡ None

abbrev pub IsSameList : Batches → Batches → Type 0
IsSameList b b' = (b'.ns ≡ b.ns) × (b'.documents ≡ b.documents) × (b'.drawn ≡ b.drawn)

-- the next command asks for the documents behind those of the commands before it; none is left behind the last
abbrev pub IsNextOf : Batches → Batches → Option Command → Type 0
IsNextOf b b' None = (b'.upto ≡ b.upto) × (length b.documents.now ≤ b.upto)
IsNextOf b b' (Some c) = (piece : List Fields) × IsBatch b.drawn.items b.documents.now b.upto piece b'.upto × (IsNamed (space b.ns.now) → asked c.exec.command ≡ asks_insert (space b.ns.now) piece true)

abbrev pub NextSends : Awaited → Past → Space → List Fields → Batches → Next → Type 0
NextSends awaited past at sent b (next.Send c) = IsInserting awaited past at sent b (Some c)
NextSends awaited past at sent b next.Finished = Appended past at sent (length b.documents.now)
NextSends awaited past at sent b (next.Stopped e) = Unit {0}

-- where an insert had come so far, this is sent next
abbrev pub SendsNext : Batches → Batches → Option Command → Next → Type 0
SendsNext b b' waiting result = (awaited : Awaited) (past : Past) (at : Space) (sent : List Fields) → IsNamed at → IsInserting awaited past at sent b waiting → NextSends awaited past at sent b' result

abbrev pub HeardSent : Awaited → Past → Space → List Fields → Heard → Type 0
HeardSent awaited past space sent (heard.Pending c) = IsUnderway awaited past space sent c
HeardSent awaited past space sent heard.Inserted = InsertedBelow past (length past.calls) space sent
HeardSent awaited past space sent (heard.Failed e) = Unit {0}

-- where the log is told, a command that is underway goes on so
abbrev pub HearsSent : Awaited → Awaited → LogTold → LogTold → Command → Heard → Type 0
HearsSent old new log log' c result = (calls : List Call) → log ≡ Some calls → (places : List ℕ) (since : ℕ) (wire : ℤ) → since ≤ length calls → (space : Space) (sent : List Fields) → IsUnderway old (past_of places since calls wire) space sent c
    → (calls' : List Call) × (log' ≡ Some calls') × (since ≤ length calls') × HeardSent new (past_of places since calls' wire) space sent result

-- the insert that sends these documents has come so far
abbrev pub HasInserted : Awaited → Past → Space → List Fields → Inserting → Type 0
HasInserted awaited past at sent i = IsInserting awaited past at sent i.batches i.command

abbrev pub StepInserts : Awaited → Past → Space → List Fields → Step Inserting ℕ → Type 0
StepInserts awaited past at sent (step.Pending i) = HasInserted awaited past at sent i
StepInserts awaited past at sent (step.Done n) = Appended past at sent n
StepInserts awaited past at sent (step.Failed e) = Unit {0}

-- it goes on with the same documents, and in the end gives their number
abbrev pub GivesCount : Inserting → Step Inserting ℕ → Type 0
GivesCount i (step.Pending i') = IsSameList i.batches i'.batches
GivesCount i (step.Done n) = n ≡ length i.batches.documents.now
GivesCount i (step.Failed e) = Unit {0}

-- where the log is told, an insert of documents that had sent at these places before goes on so, and in the end it has appended them
abbrev pub Inserts : Awaited → Awaited → LogTold → LogTold → Inserting → Step Inserting ℕ → Type 0
Inserts old new log log' i result = (calls : List Call) → log ≡ Some calls → (places : List ℕ) (wire : ℤ) (at : Space) (sent : List Fields) → IsNamed at → HasInserted old (past_of places (length calls) calls wire) at sent i
    → (calls' : List Call) × (log' ≡ Some calls') × StepInserts new (past_of places (length calls) calls' wire) at sent result

-- where the log is told, an insert has come from one state to these batches and this command
abbrev pub LeadsOn : Awaited → Awaited → LogTold → LogTold → Inserting → Batches → Option Command → Type 0
LeadsOn old new log log' i b waiting = (calls : List Call) → log ≡ Some calls → (places : List ℕ) (wire : ℤ) (at : Space) (sent : List Fields) → IsNamed at → HasInserted old (past_of places (length calls) calls wire) at sent i
    → (calls' : List Call) × (log' ≡ Some calls') × (length calls ≤ length calls') × IsInserting new (past_of places (length calls) calls' wire) at sent b waiting
