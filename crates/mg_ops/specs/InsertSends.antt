-- Which commands an insert sends, poll by poll.
use Rattle.std.specs.Prelude.{◌≡◌, ◌⊎◌, ◌<◌, ◌≤◌, ◌++◌, false, ℕ, List, [], ◌∷◌, length, take, Option, Some, None}
use Rattle.mg_bson.specs.Tree.{Fields}
use Rattle.mg_bson.specs.Raw.{fields}
use Rattle.mg_link.specs.Exec.{ticket_of}
use Rattle.mg_link.specs.Link.{LogTold}
use Rattle.mg_link.specs.Namespace.{Space, space}
use Rattle.mg_link.specs.declared.action.Step.{Step}
use Rattle.mg_link.specs.declared.action.Step.TheVariants as step
use Rattle.mg_ops.specs.Bodies.{insert_command}
use Rattle.mg_ops.specs.InsertCauses.{IsBuilt}
use Rattle.mg_ops.specs.Logs.{AddsJust}
use Rattle.mg_ops.specs.Underway.{sent_of}
use Rattle.mg_ops.specs.declared.inserting.Batches.{Batches}
use Rattle.mg_ops.specs.declared.inserting.Command.{Command}
use Rattle.mg_ops.specs.declared.inserting.Heard.{Heard}
use Rattle.mg_ops.specs.declared.inserting.Heard.TheVariants as heard
use Rattle.mg_ops.specs.declared.inserting.Inserting.{Inserting}
use Rattle.mg_ops.specs.declared.inserting.Next.{Next}
use Rattle.mg_ops.specs.declared.inserting.Next.TheVariants as next

-- ---- pieces

-- the command inserts what is sent from one document on up to another, at least one
pub record InsertsNext (at : Space) (sent : List Fields) (from upto : ℕ) (command : Fields) : Type 0 where
  pub some : from < upto
  pub within : upto ≤ length sent
  pub piece : List Fields
  pub these : take upto sent ≡ take from sent ++ piece
  pub command_is : command ≡ insert_command at piece

-- these commands insert what is sent from one document on up to another, piece behind piece, and each piece once
abbrev pub InsertPieces : Space → List Fields → ℕ → List Fields → ℕ → Type 0
InsertPieces at sent from [] upto = upto ≡ from
InsertPieces at sent from (command ∷ commands) upto = (between : ℕ) × InsertsNext at sent from between command × InsertPieces at sent between commands upto

-- just such commands were added to a log
pub record SendsPieces (log log' : LogTold) (at : Space) (sent : List Fields) (from upto : ℕ) : Type 0 where
  pub commands : List Fields
  pub adds : AddsJust log log' commands
  pub pieces : InsertPieces at sent from commands upto

-- ---- an insert between its polls

-- the command waits for its reply, and is not sent again
pub record IsSentOnce (c : Command) : Type 0 where
  pub once : c.exec.retries ≡ false
  pub ticket : ℕ
  pub holds : ticket_of c.exec ≡ Some ticket

abbrev pub WaitsOnce : Option Command → Type 0
WaitsOnce None = Unit {0}
WaitsOnce (Some c) = IsSentOnce c

-- what stands in commands was sent: no more documents than the list has, and the last command, where it waits, is not sent again
pub record StandsSent (b : Batches) (waiting : Option Command) : Type 0 where
  pub within : b.upto ≤ length b.documents.now
  pub waits : WaitsOnce waiting

abbrev pub StandsOnce : Inserting → Type 0
StandsOnce i = StandsSent i.batches i.command

-- ---- a poll

-- the documents of the list as they are sent
abbrev pub all_sent : Batches → List Fields
all_sent b = sent_of b.drawn.items b.documents.now

-- what such batches sent, from one document on up to another
abbrev pub BatchesSent : LogTold → LogTold → Batches → ℕ → ℕ → Type 0
BatchesSent log log' b from upto = SendsPieces log log' (space b.ns.now) (all_sent b) from upto

-- it sent the pieces from the first document that stood in no command on: up to those that stand in none now, or in the end all of them, or as many as
-- were sent before it failed
abbrev pub StepSends : LogTold → LogTold → Batches → Step Inserting ℕ → Type 0
StepSends log log' b (step.Pending i) = BatchesSent log log' b b.upto i.batches.upto × StandsOnce i
StepSends log log' b (step.Done n) = BatchesSent log log' b b.upto (length b.documents.now)
StepSends log log' b (step.Failed e) = (upto : ℕ) × BatchesSent log log' b b.upto upto

-- a poll of an insert sent each next piece once, and nothing else
abbrev pub SendsOn : LogTold → LogTold → Inserting → Step Inserting ℕ → Type 0
SendsOn log log' i result = StandsOnce i → StepSends log log' i.batches result

-- ---- all polls

-- an insert that sends these documents has sent these commands so far: those of the pieces from the first document on up to those that stand in no command
pub record HasSentPieces (at : Space) (sent commands : List Fields) (i : Inserting) : Type 0 where
  pub at_is : space i.batches.ns.now ≡ at
  pub sent_is : all_sent i.batches ≡ sent
  pub once : StandsOnce i
  pub pieces : InsertPieces at sent 0 commands i.batches.upto

-- behind a poll these are all commands that it has sent
abbrev pub StepSentPieces : Space → List Fields → List Fields → Step Inserting ℕ → Type 0
StepSentPieces at sent commands (step.Pending i) = HasSentPieces at sent commands i
StepSentPieces at sent commands (step.Done n) = InsertPieces at sent 0 commands (length sent)
StepSentPieces at sent commands (step.Failed e) = (upto : ℕ) × InsertPieces at sent 0 commands upto

-- ---- parts of a poll

-- what is sent next is the command that waited, or the next piece, which was not sent
abbrev pub IsHeldOrBuilt : Batches → Batches → Option Command → Command → Type 0
IsHeldOrBuilt b b' None c = IsBuilt b b'.upto c
IsHeldOrBuilt b b' (Some waiting) c = (c ≡ waiting) × (b'.upto ≡ b.upto)

abbrev pub NextOnce : Batches → Batches → Option Command → Next → Type 0
NextOnce b b' waiting (next.Send c) = IsHeldOrBuilt b b' waiting c
NextOnce b b' waiting next.Finished = (b'.upto ≡ b.upto) × (length b.documents.now ≤ b.upto)
NextOnce b b' waiting (next.Stopped e) = Unit {0}

-- a command was added to a log, unless it held this ticket: then it was sent before, and none was
abbrev pub AddsFirst : LogTold → LogTold → Fields → Option ℕ → Type 0
AddsFirst log log' command None = AddsJust log log' (command ∷ [])
AddsFirst log log' command (Some ticket) = AddsJust log log' []

-- a poll sent it so; where it failed it may not have been sent
abbrev pub HeardOnce : LogTold → LogTold → Command → Heard → Type 0
HeardOnce log log' c (heard.Pending c') = AddsFirst log log' (fields c.exec.command) (ticket_of c.exec) × IsSentOnce c'
HeardOnce log log' c heard.Inserted = AddsFirst log log' (fields c.exec.command) (ticket_of c.exec)
HeardOnce log log' c (heard.Failed e) = AddsFirst log log' (fields c.exec.command) (ticket_of c.exec) ⊎ AddsJust log log' []

abbrev pub HearsOnce : LogTold → LogTold → Command → Heard → Type 0
HearsOnce log log' c result = c.exec.retries ≡ false → HeardOnce log log' c result

-- an insert has sent so much up to these batches and this command
abbrev pub LeadsSent : LogTold → LogTold → Inserting → Batches → Option Command → Type 0
LeadsSent log log' i b waiting = StandsOnce i → BatchesSent log log' i.batches i.batches.upto b.upto × StandsSent b waiting
