-- The file of a put behind the step of its record, in every legal history in which the log stands (GridFS specification, "File Upload": the record of the files collection is stored last).
use Rattle.std.specs.Prelude.{◌≡◌, ◌<◌, ◌≤◌, ◌⊎◌, ℕ, ℤ, false, List, Some, slice_get, take}
use Rattle.mg_bson.specs.Raw.{fields}
use Rattle.mg_bson.specs.Tree.{Fields}
use Rattle.mg_server.specs.Commands.{Failure, Told, inserted}
use Rattle.mg_server.specs.Files.{IsWhole, files_space}
use Rattle.mg_server.specs.History.{IsLegal, Step, state_of, told_at}
use Rattle.mg_link.specs.Log.{Call}
use Rattle.mg_server.specs.Standing.{Stands}
use Rattle.mg_server.specs.Step.{is_listed}
use Rattle.mg_link.specs.declared.error.Error.{Error}
use Rattle.mg_ops.specs.Naming.{IsNamed}
use Rattle.mg_players.specs.Causes.{Course}
use Rattle.mg_players.specs.Files.{IsStepOf, OthersLeave, ReadsOther}
use Rattle.mg_players.specs.Laying.{HasAllChunks}
use Rattle.mg_players.specs.PutSends.{chunks_removal, record_insert}
use Rattle.mg_players.specs.Puts.{PutTask, joined}

-- ---- the record and the removal, as steps

-- the step at this position is that of this command, which a turn of job i sent
pub record IsStepWith (c : Course) (i : ℕ) (calls : List Call) (position : ℕ) (command : Fields) : Type 0 where
  pub own : IsStepOf c i calls position
  pub sends : fields own.call.command ≡ command

-- a reply to an insert lists no failure of its first document, which it then wrote
abbrev pub WritesFirst : Told → Type 0
WritesFirst said = (n : ℤ) × (failures : List Failure) × (said ≡ inserted n failures) × (is_listed 0 failures ≡ false)

-- at this position the record of its file was inserted for job i
pub record RecordsAt (c : Course) (i : ℕ) (calls : List Call) (history : List Step) (t : PutTask) (position : ℕ) : Type 0 where
  pub moment : ℤ
  pub by : IsStepWith c i calls position (record_insert t moment)
  pub step : Step
  pub there : slice_get history position ≡ Some step
  pub took : WritesFirst (told_at step)

-- no step of job i before this position was to remove the chunks of its file
abbrev pub KeepsUntil : Course → ℕ → List Call → PutTask → ℕ → Type 0
KeepsUntil c i calls t upto = (position : ℕ) → IsStepWith c i calls position (chunks_removal t) → upto ≤ position

-- ---- what it comes to

-- Where nobody else touches it, the file is whole behind the step of its record, and as long as no step of job i was to remove its chunks: its chunks are those of
-- all pieces.
abbrev pub WholeBehind : Course → ℕ → List Call → PutTask → Type 0
WholeBehind c i calls t = (history : List Step) → IsLegal history → Stands calls history → OthersLeave c i calls history t.at t.id
    → (recorded upto : ℕ) → RecordsAt c i calls history t recorded → recorded < upto → KeepsUntil c i calls t upto
    → IsWhole (state_of (take upto history)) t.at t.id (joined t.pieces) t.chunk

-- ---- what a put must know for it

-- Job i sends the record of its file over all of its chunks, which stand alone as the record's step is taken, and behind that nothing but their removal.
pub record RecordsOver (c : Course) (i : ℕ) (calls : List Call) (t : PutTask) (moment : ℤ) : Type 0 where
  pub named : IsNamed (files_space t.at)
  pub stood : (history : List Step) → IsLegal history → Stands calls history → OthersLeave c i calls history t.at t.id → (position : ℕ) → IsStepWith c i calls position (record_insert t moment) → HasAllChunks (state_of (take position history)) t
  pub later : (history : List Step) → Stands calls history → (recorded position : ℕ) → IsStepWith c i calls recorded (record_insert t moment) → IsStepOf c i calls position → recorded < position → IsStepWith c i calls position (chunks_removal t)

-- Job i is to remove the chunks of its file by no step, or by this one alone.
abbrev pub RemovesOnce : Course → ℕ → List Call → PutTask → Type 0
RemovesOnce c i calls t = ((position : ℕ) → IsStepWith c i calls position (chunks_removal t) → ⊥)
    ⊎ ((at : ℕ) × IsStepWith c i calls at (chunks_removal t) × ((position : ℕ) → IsStepWith c i calls position (chunks_removal t) → position ≡ at))

-- ---- chunks that a get blames

-- job i was to remove the chunks of its file by a step before this position
pub record RemovedBefore (c : Course) (i : ℕ) (calls : List Call) (t : PutTask) (position : ℕ) : Type 0 where
  pub at : ℕ
  pub removes : IsStepWith c i calls at (chunks_removal t)
  pub before : at < position

-- In each legal history in which the log stands, and where nobody but job j touches the file that it puts, job i found its record and then listed other chunks than that
-- says, as the error tells; and job j was to remove them by a step before that listing, where job i found the record while nobody else touched the file.
abbrev pub BlamesBehind : Course → (j i : ℕ) → List Call → PutTask → Error → Type 0
BlamesBehind c j i calls t e = (history : List Step) → IsLegal history → Stands calls history → (leave : OthersLeave c j calls history t.at t.id)
    → (x : ReadsOther c i calls history t.at t.id e) × (leave.from ≤ x.found.opened → RemovedBefore c j calls t x.fetched)
