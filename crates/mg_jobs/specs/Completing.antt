-- What jobs come to over a link that loses nothing, where their server holds nothing back.
use Rattle.std.specs.Prelude.{◌≡◌, ◌⊎◌, ◌≤◌, ◌+◌, ◌++◌, Contains, Ok, ℕ, suc, ℤ, pos, true, List, [], ◌∷◌, length, take, Option, Some, None, option_and_then, slice_get, ◌<◌, ◌^◌}
use Rattle.mg_bson.specs.Tree.{Fields, Tree}
use Rattle.mg_bson.specs.Raw.{fields}
use Rattle.mg_bson.specs.Writable.{max_len}
use Rattle.mg_link.specs.Namespace.{as_database, Space, Target, cluster, collection, database}
use Rattle.mg_server.specs.Commands.{Asked, Told, asked, asks_create, asks_insert, asks_more, refuses}
use Rattle.mg_link.specs.Errors.{plain}
use Rattle.mg_link.specs.Chunks.{chunked}
use Rattle.mg_server.specs.Files.{Bucket, IsWhole, chunks_space, files_space}
use Rattle.mg_server.specs.History.{Step, IsLegal, state_of, told_at}
use Rattle.mg_link.specs.Link.{LogTold}
use Rattle.mg_link.specs.Log.{Call}
use Rattle.mg_server.specs.Prompt.{IsPrompt}
use Rattle.mg_server.specs.Rules.{accept, collection_exists, max_name, token_place}
use Rattle.mg_server.specs.Standing.{Stands}
use Rattle.mg_server.specs.State.{Start, State, Watch, after, at_time, events_between, nowhere, watching}
use Rattle.mg_server.specs.Step.{documents_of}
use Rattle.mg_link.specs.declared.error.Error.{Error}
use Rattle.mg_link.specs.declared.error.ErrorKind.TheVariants as kind
use Rattle.mg_ops.specs.Bodies.{insert_command}
use Rattle.mg_ops.specs.Failing.{CannotBeSent}
use Rattle.mg_ops.specs.Limits.{PassesLimit, SizePasses, SomePassLimit}
use Rattle.mg_ops.specs.Naming.{IsNamed}
use Rattle.mg_ops.specs.declared.aggregate.ChangeStreamAggregate.{ChangeStreamAggregate}
use Rattle.mg_ops.specs.declared.change_stream.WatchArgs.{WatchArgs}
use Rattle.mg_change.specs.ClientStreams.{resuming_in}
use Rattle.mg_records.specs.FileRecords.{FileRecord, file_record_of}
use Rattle.mg_gridfs.specs.Findings.{ReadsRecord}
use Rattle.mg_players.specs.Causes.{Course, SentIn, course, places_of}
use Rattle.mg_players.specs.Drawing.{as_sent}
use Rattle.mg_players.specs.Files.{IsFirstStepOf, IsLastStepOf, OthersLeave, OthersLeaveFrom}
use Rattle.mg_players.specs.Follows.{IsArgsFor, IsWatch}
use Rattle.mg_players.specs.Kinds.{OfFollow, OfGet, OfInsert, OfPut}
use Rattle.mg_players.specs.Gets.{GetTask, IsGetCommand, chunks_find, get_of, more_chunks, record_find}
use Rattle.mg_players.specs.Headline.{GetGave}
use Rattle.mg_ops.specs.InsertCauses.{IsPiece}
use Rattle.mg_jobs.specs.Own.{IsHeard, IsHeardBefore, IsOwnCommand, IsOwnCursor}
use Rattle.mg_jobs.specs.PutLimits.{CannotPut, HasFewIndexes, IsExcusedPut, IsValidPut}
use Rattle.mg_players.specs.Puts.{PutTask, joined, put_of}
use Rattle.mg_script.specs.Plan.{Begin, Task, insert, follow, put, get}
use Rattle.mg_players.specs.Progress.{turns_done}
use Rattle.mg_players.specs.Sends.{SendsOnly}
use Rattle.mg_script.specs.declared.outcome.Answer.{Answer}
use Rattle.mg_script.specs.declared.outcome.Answer.TheVariants as answers
use Rattle.mg_script.specs.declared.outcome.Ended.{Ended}
use Rattle.mg_script.specs.declared.outcome.Ended.TheVariants as ended
use Rattle.mg_script.specs.declared.outcome.Outcome.{Outcome}
use Rattle.mg_turns.specs.declared.turned.Turned.{Turned}

-- ---- a server that holds nothing back

-- the positions are those of the steps of job i, and perhaps others
abbrev pub HasPositions : Course → ℕ → List Call → List ℕ → Type 0
HasPositions c i calls own = (k place : ℕ) (call : Call) (position : ℕ) → SentIn c i k place → slice_get calls place ≡ Some call → call.position ≡ Some position → Contains own position

-- the log stands in this history, in which the job's steps were answered at once and none was refused, nor missed its write concern
pub record AnswersWell (c : Course) (i : ℕ) (calls : List Call) : Type 0 where
  pub history : List Step
  pub legal : IsLegal history
  pub stands : Stands calls history
  pub own : List ℕ
  pub positions : HasPositions c i calls own
  pub prompt : IsPrompt own history

abbrev pub own_position : Option ℕ → List ℕ
own_position None = []
own_position (Some position) = position ∷ []

-- the positions in a history of the steps of the calls at these places
abbrev pub positions_at : List Call → List ℕ → List ℕ
positions_at calls [] = []
positions_at calls (place ∷ places) = own_position (option_and_then (λ (call : Call). call.position) (slice_get calls place)) ++ positions_at calls places

-- job i was answered so in this very history, in which its own steps, and no others, stand at these positions
abbrev pub AnswersWellIn : Course → ℕ → List Call → List Step → Type 0
AnswersWellIn c i calls history = (answers : AnswersWell c i calls) × (answers.history ≡ history) × (answers.own ≡ positions_at calls (places_of c i))

-- the refusal says that the collection is there which the command creates
abbrev pub SaysThere : Asked → ℤ → Type 0
SaysThere (asks_create space) code = code ≡ collection_exists
SaysThere command code = ⊥

-- the command was not refused, or only as the creation of a collection that is there
abbrev pub IsTaken : Asked → Told → Type 0
IsTaken command (refuses code labels) = SaysThere command code
IsTaken command reply = Unit {0}

-- none of the steps of job i was refused in this history, but the creation of a collection that is there
abbrev pub NoneRefused : Course → ℕ → List Call → List Step → Type 0
NoneRefused c i calls history = (position : ℕ) (step : Step) → Contains (positions_at calls (places_of c i)) position → slice_get history position ≡ Some step → IsTaken (asked step.command) (told_at step)

-- ---- what an insert comes to

-- the store may take each of these documents behind those that are there: it may be stored, and no document before it has its `_id`
abbrev pub AreFresh : List Fields → List Fields → Type 0
AreFresh there [] = Unit {0}
AreFresh there (d ∷ ds) = ((id : Tree) × (accept there d ≡ Ok id)) × AreFresh (there ++ d ∷ []) ds

-- so are the documents of each command among these that inserts some, behind those that stand there as it takes effect
abbrev pub SendFresh : List ℕ → List Step → Type 0
SendFresh own history = (position : ℕ) (step : Step) (space : Space) (documents : List Fields) → Contains own position → slice_get history position ≡ Some step → asked step.command ≡ asks_insert space documents true
    → AreFresh (documents_of (state_of (take position history)) space) documents

-- one of these documents passes the limits of a stored one
abbrev pub IsTooLarge : List Fields → Error → Type 0
IsTooLarge piece e = (e ≡ plain kind.BsonSerialization) × SomePassLimit piece

-- memory ran out, or some of the documents that it sends, or a command with them, pass the limits
abbrev pub IsExcusedInsert : Space → List Fields → Error → Type 0
IsExcusedInsert at sent e = (e.kind ≡ kind.OutOfMemory)
    ⊎ ((piece : List Fields) × IsPiece sent piece × (IsTooLarge piece e ⊎ CannotBeSent (insert_command at piece) e))
    ⊎ ((d : Fields) × IsPiece sent (d ∷ []) × CannotBeSent d e)

-- it has ended, and a failure is excused
abbrev pub EndsWell : {A : Type 0} → (Error → Type 0) → Ended A → Type 0
EndsWell is_excused ended.Unfinished = ⊥
EndsWell is_excused (ended.Gave x) = Unit {0}
EndsWell is_excused (ended.Failed e) = is_excused e

-- ---- what a follow comes to

-- what excuses a failure of a job, where it is short: an answer of it before was want of memory
abbrev pub Excuses : Type 1
Excuses = Type 0 → Error → Type 0

-- memory ran out, or a command that such a follow, which heard these replies, must send passes the limits of documents
abbrev pub IsExcused : (WatchArgs → Type 0) → (List ℕ → Type 0) → Excuses
IsExcused are_its heard short e = (e.kind ≡ kind.OutOfMemory) ⊎ ((command : Fields) × IsOwnCommand are_its heard short command × CannotBeSent command e)

-- memory ran out
abbrev pub IsMemory : Excuses
IsMemory short e = e.kind ≡ kind.OutOfMemory

-- the answer is want of memory
abbrev pub IsShort : Answer → Type 0
IsShort (answers.Event event) = ⊥
IsShort answers.Nothing = ⊥
IsShort (answers.Failed e) = e.kind ≡ kind.OutOfMemory

-- The cursor of a getMore stood as a watch's, and nothing was left for it to see, as that took effect in this history, which job i sent in its call of this number.
pub record NoneLeft (c : Course) (i : ℕ) (calls : List Call) (history : List Step) (k : ℕ) : Type 0 where
  pub place : ℕ
  pub sent : SentIn c i k place
  pub call : Call
  pub there : slice_get calls place ≡ Some call
  pub position : ℕ
  pub position_is : call.position ≡ Some position
  pub step : Step
  pub stands : slice_get history position ≡ Some step
  pub id : ℤ
  pub space : Space
  pub asks : asked step.command ≡ asks_more id space
  pub watch : Watch
  pub from : ℕ
  pub stood : (state_of (take position history)).cursors id ≡ Some (watching watch from)
  pub none : events_between watch (state_of (take position history)).changes from (length (state_of (take position history)).changes) ≡ []

-- why a call of this number answers that nothing is there, where it is short
pub data FindsNothing (c : Course) (i : ℕ) (calls : List Call) (history : List Step) (k : ℕ) (short : Type 0) : Type 0 where
  -- it takes the first batch
  takes_first : k ≡ 1 → FindsNothing c i calls history k short
  -- or that of a resumption, which it sent
  takes_again : short → (place : ℕ) → SentIn c i k place → (call : Call) → slice_get calls place ≡ Some call → (a : ChangeStreamAggregate) (wire : ℤ) → fields call.command ≡ resuming_in a wire None → FindsNothing c i calls history k short
  -- the stream has ended, as a reply told that it heard before this call
  is_over : (at : Space) → IsOwnCursor (IsHeardBefore c i calls k) (pos 0) at → FindsNothing c i calls history k short
  finds_none : NoneLeft c i calls history k → FindsNothing c i calls history k short

-- why calls may answer so, by their number, and whether they are short
abbrev pub Nothings : Type 1
Nothings = ℕ → Type 0 → Type 0

-- the answer is an event, or that nothing is there, where that is so, or a failure that is excused
abbrev pub AnswerWell : (Error → Type 0) → Type 0 → Answer → Type 0
AnswerWell is_excused is_nothing (answers.Event event) = Unit {0}
AnswerWell is_excused is_nothing answers.Nothing = is_nothing
AnswerWell is_excused is_nothing (answers.Failed e) = is_excused e

-- so is each of these, of which the first is that of the call of this number
abbrev pub AnswersAreWell : Excuses → Nothings → ℕ → Type 0 → List Answer → Type 0
AnswersAreWell excuses nothings k short [] = Unit {0}
AnswersAreWell excuses nothings k short (answer ∷ more) = AnswerWell (excuses short) (nothings k short) answer × AnswersAreWell excuses nothings (suc k) (short ⊎ IsShort answer) more

-- all calls were answered, and the stream was closed
pub record CallsWell {A : Type 0} (excuses : Excuses) (nothings : Nothings) (count : ℕ) (said : List Answer) (closed : Ended A) : Type 0 where
  pub all : length said ≡ count
  pub answered : AnswersAreWell excuses nothings 1 ⊥ said
  pub closes : EndsWell (excuses ⊥) closed

-- the stream was opened, or that is excused
abbrev pub FollowWell : {A B : Type 0} → Excuses → Nothings → ℕ → Ended A → List Answer → Ended B → Type 0
FollowWell excuses nothings count ended.Unfinished said closed = ⊥
FollowWell excuses nothings count (ended.Gave x) said closed = CallsWell excuses nothings count said closed
FollowWell excuses nothings count (ended.Failed e) said closed = excuses ⊥ e

-- ---- what a get comes to

-- A command that a get, which heard these replies, must send: the find of its record, the list of the chunks of a record that was told, or a getMore of a cursor
-- that was.
pub data IsGetOwn (heard : List ℕ → Type 0) (g : GetTask) (command : Fields) : Type 0 where
  finds_record : command ≡ record_find g → IsGetOwn heard g command
  lists_chunks : (bytes : List ℕ) → heard bytes → (f : FileRecord) → ReadsRecord bytes (Some f) → command ≡ chunks_find g f.id → IsGetOwn heard g command
  gets_more : (id : ℤ) (at : Space) → IsOwnCursor heard id at → command ≡ more_chunks id at → IsGetOwn heard g command

-- memory ran out, or a command that it must send passes the limits
abbrev pub IsExcusedGet : (List ℕ → Type 0) → GetTask → Error → Type 0
IsExcusedGet heard g e = (e.kind ≡ kind.OutOfMemory) ⊎ ((command : Fields) × IsGetOwn heard g command × CannotBeSent command e)

-- In this history the file of a get has these bytes: it is whole before the get's first step, and nobody else touches it up to the last one. Its record is one
-- that is read, as an upload's is, and counts its chunks.
pub record StandsWhole (c : Course) (i : ℕ) (calls : List Call) (history : List Step) (g : GetTask) (bytes : List ℕ) : Type 0 where
  pub first : ℕ
  pub last : ℕ
  pub is_first : IsFirstStepOf c i calls first
  pub is_last : IsLastStepOf c i calls last
  pub alone : OthersLeaveFrom c i calls history g.at g.id first last
  pub size : ℕ
  pub whole : IsWhole (state_of (take first history)) g.at g.id bytes size
  pub file : FileRecord
  pub read : file_record_of whole.record_of ≡ Ok file
  pub few : length (chunked size bytes) < 2 ^ 32

-- a get asks for the file that a put writes
abbrev pub FileIsOf : PutTask → GetTask → Type 0
FileIsOf t g = (g.at ≡ t.at) × (g.id ≡ t.id)

-- A get of job j of the file that job i put has its first step behind the last one of that put, and nobody but that put touches the file: its file is whole, as it must be
-- for the get to end well.
abbrev pub MakesWhole : Course → (i j : ℕ) → List Call → PutTask → Type 0
MakesWhole c i j calls t = (history : List Step) → IsLegal history → Stands calls history → OthersLeave c i calls history t.at t.id → (last : ℕ) → IsLastStepOf c i calls last
    → (g : GetTask) → FileIsOf t g → (first to : ℕ) → IsFirstStepOf c j calls first → IsLastStepOf c j calls to → last < first → StandsWhole c j calls history g (joined t.pieces)

-- in this history a get of a file that is whole, with two turns more than it has bytes, ends well, where its database has a name and it reads some bytes a turn
abbrev pub GetWell : (Error → Type 0) → Course → ℕ → List Call → List Step → GetTask → Ended (Unit {0}) → Type 0
GetWell is_excused c i calls history g end = as_database g.at.db ≡ Some g.at.db → 0 < g.read → (whole : List ℕ) → StandsWhole c i calls history g whole → length whole + 2 ≤ turns_done i c.order c.notes → EndsWell is_excused end

-- what else is told of a job that says how it ends: of a get, which commands it sent and what it gave of its file
abbrev pub OutcomeGot : Course → ℕ → List Call → Task → Outcome → Type 0
OutcomeGot c i calls (follow on count start filter batch) = λ r. Unit {0}
OutcomeGot c i calls (insert ns docs) = λ r. Unit {0}
OutcomeGot c i calls (put db bucket name id chunk pieces) = λ r. Unit {0}
OutcomeGot c i calls (get db bucket id read) = OfGet (λ bytes end. SendsOnly (IsGetCommand (get_of db bucket id read)) c i calls × GetGave c i calls (get_of db bucket id read) bytes.items end)

-- ---- what a job comes to

-- A follow with a size of batches that may be, and one turn more than calls that did not pend, ends well by these excuses; so does an insert of fresh documents
-- with one such turn, a valid put that inserts fresh ones and finds few indexes, with two such turns more than pieces, and a get of a file that is whole, with two
-- turns more than it has bytes.
abbrev pub OutcomeEnds : Excuses → Course → ℕ → List Call → Task → Outcome → Type 0
OutcomeEnds excuses c i calls (follow on count start filter batch) =
    OfFollow (λ opened said token alive closed. (answers : AnswersWell c i calls) → (SizePasses batch → ⊥) → suc count ≤ turns_done i c.order c.notes → FollowWell excuses (FindsNothing c i calls answers.history) count opened said.items closed)
OutcomeEnds excuses c i calls (insert ns docs) =
    OfInsert (λ end. (answers : AnswersWell c i calls) → IsNamed ns → SendFresh answers.own answers.history → 1 ≤ turns_done i c.order c.notes → EndsWell (excuses ⊥) end)
OutcomeEnds excuses c i calls (put db bucket name id chunk pieces) =
    OfPut (λ end. (answers : AnswersWell c i calls) → IsValidPut (put_of db bucket name id chunk pieces) → SendFresh answers.own answers.history → HasFewIndexes answers.own answers.history (put_of db bucket name id chunk pieces) → length pieces + 2 ≤ turns_done i c.order c.notes → EndsWell (excuses ⊥) end)
OutcomeEnds excuses c i calls (get db bucket id read) =
    OfGet (λ bytes end. (answers : AnswersWell c i calls) → GetWell (excuses ⊥) c i calls answers.history (get_of db bucket id read) end)

-- the excuses of a job: those of its own documents and commands
abbrev pub own_excuses : Course → ℕ → List Call → Task → Excuses
own_excuses c i calls (follow on count start filter batch) = IsExcused (IsArgsFor on start filter batch) (IsHeard c i calls)
own_excuses c i calls (insert ns docs) = λ short. IsExcusedInsert ns docs
own_excuses c i calls (put db bucket name id chunk pieces) = λ short. IsExcusedPut (IsHeard c i calls) (put_of db bucket name id chunk pieces)
own_excuses c i calls (get db bucket id read) = λ short. IsExcusedGet (IsHeard c i calls) (get_of db bucket id read)

abbrev pub OutcomeWell : Course → ℕ → List Call → Task → Outcome → Type 0
OutcomeWell c i calls t r = OutcomeEnds (own_excuses c i calls t) c i calls t r

-- no command that the job must send, and no document of it, passes the limits
abbrev pub FitsLimits : Course → ℕ → List Call → Task → Type 0
FitsLimits c i calls (follow on count start filter batch) = (command : Fields) → IsOwnCommand (IsArgsFor on start filter batch) (IsHeard c i calls) (Unit {0}) command → PassesLimit max_len command → ⊥
FitsLimits c i calls (insert ns docs) = (piece : List Fields) → IsPiece docs piece → (SomePassLimit piece → ⊥) × (PassesLimit max_len (insert_command ns piece) → ⊥)
FitsLimits c i calls (put db bucket name id chunk pieces) = (e : Error) → CannotPut (IsHeard c i calls) (put_of db bucket name id chunk pieces) e → ⊥
FitsLimits c i calls (get db bucket id read) = (command : Fields) → IsGetOwn (IsHeard c i calls) (get_of db bucket id read) command → PassesLimit max_len command → ⊥

-- then nothing but want of memory excuses it
abbrev pub OutcomeFits : Course → ℕ → List Call → Task → Outcome → Type 0
OutcomeFits c i calls t r = FitsLimits c i calls t → OutcomeEnds IsMemory c i calls t r

-- a job ends as its kind promises, and by want of memory alone where it fits the limits
abbrev pub JobWell : Course → ℕ → List Call → Task → Outcome → Type 0
JobWell c i calls t r = OutcomeWell c i calls t r × OutcomeFits c i calls t r

-- ---- what a job of a run comes to in the history of its store

-- the store takes the names of a collection: a server does, and neither is longer than it has them
pub record HasShortNames (space : Space) : Type 0 where
  pub named : IsNamed space
  pub db_fits : length space.db ≤ max_name
  pub coll_fits : length space.coll ≤ max_name

-- so it does those of a target
abbrev pub HasShortTarget : Target → Type 0
HasShortTarget (collection space) = HasShortNames space
HasShortTarget (database db) = (as_database db ≡ Some db) × (length db ≤ max_name)
HasShortTarget cluster = Unit {0}

-- where a watch is to begin behind a token, that is the token of a place
abbrev pub IsThere : State → Start → Type 0
IsThere s nowhere = Unit {0}
IsThere s (after token) = (place : ℕ) × (token_place (length s.changes) token ≡ Some place)
IsThere s (at_time time) = Unit {0}

-- A follow may begin in this history of its store: its names are short, its filter has a meaning, and where it starts behind a token, that is there at its steps.
pub record MayBegin (c : Course) (i : ℕ) (calls : List Call) (history : List Step) (on : Target) (start : Begin) (filter : Option Fields) : Type 0 where
  pub watch : Watch
  pub from : Start
  pub watches : IsWatch on start filter watch from
  pub short : HasShortTarget on
  pub there : (position : ℕ) (step : Step) → Contains (positions_at calls (places_of c i)) position → slice_get history position ≡ Some step → IsThere (state_of (take position history)) from

-- it is opened and ends well where it may begin, and it ends well where none of its steps was refused
pub record FollowEndsIn {A B : Type 0} (excuses : Excuses) (nothings : Nothings) (taken begins : Type 0) (count : ℕ) (opened : Ended A) (said : List Answer) (closed : Ended B) : Type 0 where
  pub opens : begins → EndsWell (excuses ⊥) opened
  pub goes_well : begins → FollowWell excuses nothings count opened said closed
  pub ends : taken → FollowWell excuses nothings count opened said closed

-- the store takes the names of both collections of a bucket
pub record HasShortFiles (at : Bucket) : Type 0 where
  pub files_short : HasShortNames (files_space at)
  pub chunks_short : HasShortNames (chunks_space at)

-- The store of a run refuses none of the steps of an insert into a collection with short names, of a follow that may begin, with a size of batches that may be, of a
-- get of a file that is whole, from collections with short names, and of a put into such collections.
abbrev pub JobTaken : Course → ℕ → List Call → List Step → Task → Type 0
JobTaken c i calls history (follow on count start filter batch) = (SizePasses batch → ⊥) → MayBegin c i calls history on start filter → NoneRefused c i calls history
JobTaken c i calls history (insert ns docs) = HasShortNames ns → NoneRefused c i calls history
JobTaken c i calls history (put db bucket name id chunk pieces) = HasShortFiles (put_of db bucket name id chunk pieces).at → NoneRefused c i calls history
JobTaken c i calls history (get db bucket id read) = HasShortFiles (get_of db bucket id read).at → (bytes : List ℕ) → StandsWhole c i calls history (get_of db bucket id read) bytes → NoneRefused c i calls history

-- it ends well where its names may be, and where none of its steps was refused and it finds few indexes
pub record PutEndsIn (excused : Error → Type 0) (may taken few : Type 0) (end : Ended ℕ) : Type 0 where
  pub goes_well : may → EndsWell excused end
  pub ends : taken → few → EndsWell excused end

-- In the history of its store a follow with a size of batches that may be, and one turn more than calls that did not pend, ends so. An insert of fresh documents
-- into a collection with short names, with one such turn, ends well. So does a valid put of fresh ones, with two such turns more than pieces, where its collections
-- have short names, or none of its steps was refused and it finds few indexes; and a get of a file that is whole, with two turns more than it has bytes, where it reads
-- collections with short names or none of its steps was refused.
abbrev pub OutcomeEndsIn : Excuses → Course → ℕ → List Call → List Step → Task → Outcome → Type 0
OutcomeEndsIn excuses c i calls history (follow on count start filter batch) =
    OfFollow (λ opened said token alive closed. (SizePasses batch → ⊥) → suc count ≤ turns_done i c.order c.notes → FollowEndsIn excuses (FindsNothing c i calls history) (NoneRefused c i calls history) (MayBegin c i calls history on start filter) count opened said.items closed)
OutcomeEndsIn excuses c i calls history (insert ns docs) =
    OfInsert (λ end. HasShortNames ns → SendFresh (positions_at calls (places_of c i)) history → 1 ≤ turns_done i c.order c.notes → EndsWell (excuses ⊥) end)
OutcomeEndsIn excuses c i calls history (put db bucket name id chunk pieces) =
    OfPut (λ end. IsValidPut (put_of db bucket name id chunk pieces) → SendFresh (positions_at calls (places_of c i)) history → length pieces + 2 ≤ turns_done i c.order c.notes → PutEndsIn (excuses ⊥) (HasShortFiles (put_of db bucket name id chunk pieces).at) (NoneRefused c i calls history) (HasFewIndexes (positions_at calls (places_of c i)) history (put_of db bucket name id chunk pieces)) end)
OutcomeEndsIn excuses c i calls history (get db bucket id read) =
    OfGet (λ bytes end. NoneRefused c i calls history ⊎ HasShortFiles (get_of db bucket id read).at → GetWell (excuses ⊥) c i calls history (get_of db bucket id read) end)

-- it ends so, and by want of memory alone where it fits the limits
abbrev pub JobWellIn : Course → ℕ → List Call → List Step → Task → Outcome → Type 0
JobWellIn c i calls history t r = OutcomeEndsIn (own_excuses c i calls t) c i calls history t r × (FitsLimits c i calls t → OutcomeEndsIn IsMemory c i calls history t r)

-- ---- a run

-- each job of a run ends as its kind promises, in which inserts draw these ids
abbrev pub AllWell : (ℕ → List ℕ) → LogTold → LogTold → List Task → List ℕ → List Turned → List Outcome → Type 0
AllWell ids log log' tasks order notes outcomes = (calls : List Call) → log ≡ Some calls → (calls' : List Call) × (log' ≡ Some calls')
    × ((i : ℕ) (t : Task) (r : Outcome) → slice_get tasks i ≡ Some t → slice_get outcomes i ≡ Some r → JobWell (course calls order notes) i calls' (as_sent ids tasks order i t) r)
