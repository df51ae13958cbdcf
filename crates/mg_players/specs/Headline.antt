-- What the jobs of a run know of their server, and what their answers come to.
use Rattle.std.specs.Prelude.{◌≡◌, ◌⊎◌, ◌++◌, ℕ, List, [], Option, Some, None, length, slice_get, string_bytes, take}
use Rattle.mg_bson.specs.Tree.{Fields, Tree}
use Rattle.mg_bson.specs.View.{tree}
use Rattle.mg_server.specs.Files.{IsWhole}
use Rattle.mg_server.specs.History.{IsLegal, Step, state_of}
use Rattle.mg_link.specs.Link.{Awaited, LogTold}
use Rattle.mg_link.specs.Log.{Call}
use Rattle.mg_link.specs.Namespace.{space, target}
use Rattle.mg_server.specs.Owner.{Owner, AreApart, NamesItsOwn, nobody}
use Rattle.mg_server.specs.Standing.{Stands}
use Rattle.mg_server.specs.State.{Start, Watch}
use Rattle.mg_script.specs.Plan.{Task, begin, insert, follow, pieces, put, get}
use Rattle.mg_players.specs.Behind.{WholeBehind}
use Rattle.mg_players.specs.Causes.{Course, SentIn, course}
use Rattle.mg_players.specs.Follows.{FollowKnows, Followed, FollowsNothing, HasNothing, IsUnfinished, IsWatch, NeverFollowed, WatchesNothing, events_of, filter_in, token_at}
use Rattle.mg_players.specs.Files.{BlamesChunk, GaveFile, HasFoundBroken, HasReadAll, HasReadFront, HasReadOther, IsFirstStepOf, IsLastStepOf, NeverWhole, OthersLeaveFrom, LeftNoChunk, LeftWhole, SaysBroken}
use Rattle.mg_gridfs.specs.Storing.{may_leave}
use Rattle.mg_players.specs.Gets.{GetKnows, GetTask, get_end, get_of, sought}
use Rattle.mg_players.specs.Kinds.{OfFollow, OfGet, OfPut}
use Rattle.mg_players.specs.Playing.{IsPlainJob, end_of}
use Rattle.mg_players.specs.Plays as words
use Rattle.mg_players.specs.Puts.{PutKnows, PutTask, joined, put_end, put_of}
use Rattle.mg_players.specs.declared.insert.InsertStage.TheVariants as inserts
use Rattle.mg_script.specs.declared.outcome.Ended.{Ended}
use Rattle.mg_script.specs.declared.outcome.Ended.TheVariants as ended
use Rattle.mg_script.specs.declared.outcome.Outcome.{Outcome}
use Rattle.mg_script.specs.declared.outcome.Outcome.TheVariants as outcome
use Rattle.mg_turns.specs.declared.turned.Turned.{Turned}
use Rattle.mg_players.specs.declared.get.GetPlayer.{GetPlayer}
use Rattle.mg_players.specs.declared.get.GetStage.TheVariants as gets
use Rattle.mg_players.specs.declared.get.Sought.{Sought}
use Rattle.mg_players.specs.declared.follow.FollowPlayer.{FollowPlayer}
use Rattle.mg_players.specs.declared.insert.InsertPlayer.{InsertPlayer}
use Rattle.mg_players.specs.declared.put.PutPlayer.{PutPlayer}
use Rattle.mg_players.specs.declared.put.PutStage.TheVariants as puts
use Rattle.mg_players.specs.declared.put.Written.{Written}
use Rattle.mg_players.specs.declared.follow.Stage.TheVariants as stage
use Rattle.mg_players.specs.declared.follow.Watched.{Watched}
use Rattle.mg_players.specs.declared.player.Player.{Player}
use Rattle.mg_players.specs.declared.player.Player.TheVariants as player

-- ---- the tasks of jobs

-- what follows what is watched
abbrev pub follow_task : Watched → Task
follow_task v = follow (target v.target.now) v.calls (begin v.start.now) (filter_in v) v.batch_size

abbrev pub insert_task : InsertPlayer → Task
insert_task job = insert (space job.ns.now) job.documents.now

-- what puts what is to be written
abbrev pub written_task : Written → Task
written_task w = put w.db.now (string_bytes w.bucket.now) (string_bytes w.name.now) (tree w.id.now) w.chunk (pieces w.pieces.now)

abbrev pub put_task : PutPlayer → Task
put_task job = written_task job.what

-- what gets what is sought
abbrev pub sought_task : Sought → Task
sought_task s = get s.db.now (string_bytes s.bucket.now) (tree s.id.now) s.read

abbrev pub get_task : GetPlayer → Task
get_task job = sought_task job.what

-- what a job is to do
abbrev pub task_of : Player → Task
task_of (player.Insert job) = insert_task job
task_of (player.Follow job) = follow_task job.watched
task_of (player.Put job) = put_task job
task_of (player.Get job) = get_task job

-- the job does this task
abbrev pub Does : Task → Player → Type 0
Does t p = t ≡ task_of p

-- the job goes on with the same task
abbrev pub IsSameTask : Player → Player → Type 0
IsSameTask p p' = task_of p' ≡ task_of p

-- each job does its task
abbrev pub DoTasks : List Task → List Player → Type 0
DoTasks tasks players = (i : ℕ) (t : Task) (p : Player) → slice_get tasks i ≡ Some t → slice_get players i ≡ Some p → Does t p

-- the job has done nothing
abbrev pub IsFirst : Player → Type 0
IsFirst (player.Insert job) = job.stage ≡ inserts.Unsent
IsFirst (player.Follow job) = (job.stage ≡ stage.Unopened) × IsUnfinished job.opened × HasNothing job
IsFirst (player.Put job) = (job.stage ≡ puts.Undrawn) × (job.done ≡ 0)
IsFirst (player.Get job) = (job.stage ≡ gets.Unsent) × (job.bytes.items ≡ []) × (job.done ≡ 0)

abbrev pub AreFirst : List Player → Type 0
AreFirst players = (i : ℕ) (p : Player) → slice_get players i ≡ Some p → IsFirst p

-- ---- what jobs know

-- an insert owns no cursor, and what it has in flight names none
abbrev pub InsertPlays : Awaited → List Call → InsertPlayer → Owner → Option ℕ → Type 0
InsertPlays awaited calls job o at = (o ≡ nobody) × IsPlainJob job

-- a follow that watches something knows what it is doing; any other owns no cursor
abbrev pub FollowPlays : Awaited → List Call → FollowPlayer → Owner → Option ℕ → Type 0
FollowPlays awaited calls job o at = FollowKnows awaited calls job.stage job o at ⊎ ((o ≡ nobody) × FollowsNothing awaited calls job.stage job)

-- a get knows what it is doing
abbrev pub GetPlays : Awaited → List Call → GetPlayer → Owner → Option ℕ → Type 0
GetPlays awaited calls job o at = GetKnows awaited calls (sought job.what) job.stage job.bytes.items o at

-- a put knows what its index check lists
abbrev pub PutPlays : Awaited → List Call → PutPlayer → Owner → Option ℕ → Type 0
PutPlays awaited calls job o at = PutKnows awaited calls job.stage o

-- a job that is this to the others knows of its server what it should
abbrev pub Plays : Awaited → List Call → Player → Owner → Option ℕ → Type 0
Plays awaited calls (player.Insert job) o at = InsertPlays awaited calls job o at
Plays awaited calls (player.Follow job) o at = FollowPlays awaited calls job o at
Plays awaited calls (player.Put job) o at = PutPlays awaited calls job o at
Plays awaited calls (player.Get job) o at = GetPlays awaited calls job o at

pub record PlaysAt (awaited : Awaited) (calls : List Call) (p : Player) (owners : List Owner) (i : ℕ) (at : Option ℕ) : Type 0 where
  pub owner : Owner
  pub there : slice_get owners i ≡ Some owner
  pub plays : Plays awaited calls p owner at

-- the jobs know what they should, where these calls opened their streams, and none has a cursor of another
pub record AllKnow (awaited : Awaited) (calls : List Call) (players : List Player) : Type 0 where
  pub owners : List Owner
  pub places : ℕ → Option ℕ
  pub apart : AreApart calls owners
  pub each : (i : ℕ) (p : Player) → slice_get players i ≡ Some p → PlaysAt awaited calls p owners i (places i)

-- a job took a turn: it knows what it should, and leaves every other job alone
abbrev pub Took : Awaited → List Call → List Call → Player → Owner → words.Moves → Option ℕ → Type 0
Took = words.Took Plays

abbrev pub Turns : Awaited → Awaited → LogTold → LogTold → Player → Player → words.Moves → Type 0
Turns = words.Turns Plays

-- how a run stands that began with one log and has another
abbrev pub Knowing : Awaited → LogTold → LogTold → List Player → Type 0
Knowing awaited log log' players = (calls : List Call) → log ≡ Some calls → (calls' : List Call) × (log' ≡ Some calls')
    × AllKnow awaited calls' players × (NamesItsOwn calls → NamesItsOwn calls')

-- ---- what this comes to

-- the outcome is that of the job
abbrev pub OutcomeOf : Player → Outcome → Type 0
OutcomeOf (player.Insert job) r = r ≡ outcome.Insert (end_of job.stage)
OutcomeOf (player.Follow job) r = r ≡ outcome.Follow job.opened job.answers (token_at job.stage job.token) job.alive job.closed
OutcomeOf (player.Put job) r = r ≡ outcome.Put (put_end job.stage)
OutcomeOf (player.Get job) r = r ≡ outcome.Get job.bytes (get_end job.stage)

abbrev pub OutcomesOf : List Player → List Outcome → Type 0
OutcomesOf players outcomes = (i : ℕ) (p : Player) (r : Outcome) → slice_get players i ≡ Some p → slice_get outcomes i ≡ Some r → OutcomeOf p r

-- a follow that was opened followed from a call on that it sent in a turn before which none of its turns had ended, and any other answered nothing
abbrev pub FollowedOr : {A : Type 0} → Ended A → Course → ℕ → List Call → Watch → Start → List Fields → Option Tree → Type 0
FollowedOr ended.Unfinished c i calls w start answered token = (answered ≡ []) × (token ≡ None)
FollowedOr (ended.Gave x) c i calls w start answered token = (place : ℕ) × SentIn c i 0 place × Followed calls w start answered token place
FollowedOr (ended.Failed e) c i calls w start answered token = (answered ≡ []) × (token ≡ None)

-- a follow answered as its task says
abbrev pub OutcomeFollowed : Course → ℕ → List Call → Task → Outcome → Type 0
OutcomeFollowed c i calls (follow on count start filter batch) =
    OfFollow
    (λ opened said token alive closed.
    ((w : Watch) × (from : Start) × IsWatch on start filter w from × FollowedOr opened c i calls w from (events_of said.items) token)
    ⊎ (WatchesNothing on start filter × NeverFollowed opened calls (events_of said.items) token))
OutcomeFollowed c i calls (insert ns docs) = λ r. Unit {0}
OutcomeFollowed c i calls (put db bucket name id chunk cut) = λ r. Unit {0}
OutcomeFollowed c i calls (get db bucket id read) = λ r. Unit {0}

-- Whatever file was whole before the first step of job i, and was touched by nobody up to its last one, begins with these bytes.
abbrev pub GaveFront : Course → ℕ → List Call → GetTask → List ℕ → Type 0
GaveFront c i calls g bytes = (history : List Step) → IsLegal history → Stands calls history → (first last : ℕ) → IsFirstStepOf c i calls first → IsLastStepOf c i calls last → OthersLeaveFrom c i calls history g.at g.id first last
    → (whole : List ℕ) (size : ℕ) → IsWhole (state_of (take first history)) g.at g.id whole size → (left : List ℕ) × (whole ≡ bytes ++ left)

-- so do the first of the chunks that stood as its own step listed them, behind a step of its own that found their record, whatever became of the file
abbrev pub HasGivenFront : Course → ℕ → List Call → GetTask → List ℕ → Type 0
HasGivenFront c i calls g bytes = GaveFront c i calls g bytes × ((bytes ≡ []) ⊎ HasReadFront c i calls g.at g.id bytes)

-- A get that ended well gave the bytes of its file, and one that is unfinished or failed the first of them. Whatever became of the file, they are those of all
-- chunks that stood as its own step listed them, behind a step of its own that found their record, or begin what the first of them hold. One that failed blames a chunk only where those that stood are not what the record says, and so never where its file was
-- whole; and it says that a document breaks its grammar only of a record or a chunk that stood.
abbrev pub GetGave : {A : Type 0} → Course → ℕ → List Call → GetTask → List ℕ → Ended A → Type 0
GetGave c i calls g bytes ended.Unfinished = HasGivenFront c i calls g bytes
GetGave c i calls g bytes (ended.Gave x) = GaveFile c i calls g.at g.id bytes × HasReadAll c i calls g.at g.id bytes
GetGave c i calls g bytes (ended.Failed e) = (BlamesChunk e.kind → NeverWhole c i calls g.at g.id × HasReadOther c i calls g.at g.id e) × (SaysBroken e.kind → HasFoundBroken c i calls g.at g.id e) × HasGivenFront c i calls g bytes

-- A put that ended well left its file whole, and one that failed none of its chunks, unless its error may leave some. However it ended, the file is whole behind the
-- step of its record, until a step of the put removes its chunks.
abbrev pub PutLeft : Course → ℕ → List Call → PutTask → Ended ℕ → Type 0
PutLeft c i calls t ended.Unfinished = WholeBehind c i calls t
PutLeft c i calls t (ended.Gave n) = LeftWhole c i calls t.at t.id (joined t.pieces) t.chunk × WholeBehind c i calls t
PutLeft c i calls t (ended.Failed e) = ((may_leave e.kind → ⊥) → LeftNoChunk c i calls t.at t.id) × WholeBehind c i calls t

-- what an outcome says of the file of its task
abbrev pub OutcomeFiled : Course → ℕ → List Call → Task → Outcome → Type 0
OutcomeFiled c i calls (insert ns docs) = λ r. Unit {0}
OutcomeFiled c i calls (follow on count start filter batch) = λ r. Unit {0}
OutcomeFiled c i calls (put db bucket name id chunk cut) = OfPut (λ end. PutLeft c i calls (put_of db bucket name id chunk cut) end)
OutcomeFiled c i calls (get db bucket id read) = OfGet (λ bytes end. GetGave c i calls (get_of db bucket id read) bytes.items end)

-- the outcomes made so far are those of the jobs gone through
pub record Made (players rest : List Player) (outcomes : List Outcome) : Type 0 where
  pub gone : List Player
  pub whole : players ≡ gone ++ rest
  pub count : length gone ≡ length outcomes
  pub of : OutcomesOf gone outcomes

-- Over a link that tells its log, each follow's answers are as they should be, and the log goes on naming its own cursors only, call by call.
abbrev pub AllFollowed : LogTold → LogTold → List Task → List ℕ → List Turned → List Outcome → Type 0
AllFollowed log log' tasks order notes outcomes = (calls : List Call) → log ≡ Some calls → (calls' : List Call) × (log' ≡ Some calls')
    × ((i : ℕ) (t : Task) (r : Outcome) → slice_get tasks i ≡ Some t → slice_get outcomes i ≡ Some r → OutcomeFollowed (course calls order notes) i calls' t r)
    × (NamesItsOwn calls → NamesItsOwn calls')

-- a log that names its own cursors only, call by call, goes on doing so
abbrev pub GoesOnNaming : LogTold → LogTold → Type 0
GoesOnNaming log log' = (calls : List Call) → log ≡ Some calls → (calls' : List Call) × (log' ≡ Some calls') × (NamesItsOwn calls → NamesItsOwn calls')

-- Over a link that tells its log, each outcome says of its file what it should.
abbrev pub AllFiled : LogTold → LogTold → List Task → List ℕ → List Turned → List Outcome → Type 0
AllFiled log log' tasks order notes outcomes = (calls : List Call) → log ≡ Some calls → (calls' : List Call) × (log' ≡ Some calls')
    × ((i : ℕ) (t : Task) (r : Outcome) → slice_get tasks i ≡ Some t → slice_get outcomes i ≡ Some r → OutcomeFiled (course calls order notes) i calls' t r)
