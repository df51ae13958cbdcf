-- Which parts of what a job tells say that a reply was lost, and when they may say so.
use Rattle.std.specs.Prelude.{◌≡◌, ◌⊎◌, ℕ, List, Option, Some, None, Result, Ok, Err, slice_get}
use Rattle.mg_link.specs.Causes.{Rose}
use Rattle.mg_link.specs.declared.error.Error.{Error}
use Rattle.mg_link.specs.declared.error.ErrorKind.TheVariants as kind
use Rattle.mg_gridfs.specs.Uploads.{upload_error}
use Rattle.mg_gridfs.specs.UploadView.{upload_of}
use Rattle.mg_players.specs.Gets.{get_end}
use Rattle.mg_players.specs.Playing.{end_of}
use Rattle.mg_players.specs.declared.follow.FollowPlayer.{FollowPlayer}
use Rattle.mg_players.specs.declared.player.Player.{Player}
use Rattle.mg_players.specs.declared.player.Player.TheVariants as player
use Rattle.mg_players.specs.declared.put.PutStage.{PutStage}
use Rattle.mg_players.specs.declared.put.PutStage.TheVariants as puts
use Rattle.mg_script.specs.declared.outcome.Answer.{Answer}
use Rattle.mg_script.specs.declared.outcome.Answer.TheVariants as answers
use Rattle.mg_script.specs.declared.outcome.Ended.{Ended}
use Rattle.mg_script.specs.declared.outcome.Ended.TheVariants as ended
use Rattle.mg_script.specs.declared.outcome.Outcome.{Outcome}
use Rattle.mg_script.specs.declared.outcome.Outcome.TheVariants as outcome

-- ---- what says so

-- a part of what a job tells: the opening of a follow; its answer of this number; the end of an insert or get, or the closing of a follow; the end of a put
pub data Part : Type 0 where
  opening : Part
  answer : (number : ℕ) → Part
  ending : Part
  storing : Part

-- the error is that of a lost reply
abbrev pub IsLoss : Error → Type 0
IsLoss e = e.kind ≡ kind.Io

abbrev pub EndLost : {A : Type 0} → Ended A → Type 0
EndLost ended.Unfinished = ⊥
EndLost (ended.Gave x) = ⊥
EndLost (ended.Failed e) = IsLoss e

abbrev pub AnswerLost : Answer → Type 0
AnswerLost (answers.Event bytes) = ⊥
AnswerLost answers.Nothing = ⊥
AnswerLost (answers.Failed e) = IsLoss e

-- the answer of this number says so
abbrev pub LostAt : List Answer → ℕ → Type 0
LostAt said number = (a : Answer) × (slice_get said number ≡ Some a) × AnswerLost a

-- this part of a follow says so, which was opened, answered and closed like this
abbrev pub FollowLost : Ended (Unit {0}) → List Answer → Ended (Unit {0}) → Part → Type 0
FollowLost opened said closed opening = EndLost opened
FollowLost opened said closed (answer number) = LostAt said number
FollowLost opened said closed ending = EndLost closed
FollowLost opened said closed storing = ⊥

-- the end of a job without other parts does
abbrev pub EndingLost : {A : Type 0} → Ended A → Part → Type 0
EndingLost end opening = ⊥
EndingLost end (answer number) = ⊥
EndingLost end ending = EndLost end
EndingLost end storing = ⊥

-- this part of an outcome says that a reply was lost
abbrev pub SaysLost : Outcome → Part → Type 0
SaysLost (outcome.Insert end) part = EndingLost end part
SaysLost (outcome.Follow opened said token alive closed) part = FollowLost opened said.items closed part
SaysLost (outcome.Put end) opening = ⊥
SaysLost (outcome.Put end) (answer number) = ⊥
SaysLost (outcome.Put end) ending = ⊥
SaysLost (outcome.Put end) storing = EndLost end
SaysLost (outcome.Get bytes end) part = EndingLost end part

-- ---- the same of a job between turns

-- a put may have no place for its ids
abbrev pub BegunLost : {A : Type 0} → Result A Error → Type 0
BegunLost (Ok begun) = ⊥
BegunLost (Err e) = IsLoss e

-- an error is known that is to be answered
abbrev pub IsKnown : Option Error → Type 0
IsKnown None = ⊥
IsKnown (Some e) = Unit {0}

-- a put says so, or it has failed and removes its chunks before it says why
abbrev pub PutLost : PutStage → Type 0
PutLost puts.Undrawn = ⊥
PutLost (puts.Begins begun) = BegunLost begun
PutLost (puts.Goes going) = IsKnown (upload_error (upload_of going.upload))
PutLost (puts.Ended end) = EndLost end

abbrev pub StoringLost : PutStage → Part → Type 0
StoringLost stage opening = ⊥
StoringLost stage (answer number) = ⊥
StoringLost stage ending = ⊥
StoringLost stage storing = PutLost stage

-- a job that tells this says so in this part
abbrev pub JobLost : Player → Part → Type 0
JobLost (player.Insert job) part = EndingLost (end_of job.stage) part
JobLost (player.Follow job) part = FollowLost job.opened job.answers.items job.closed part
JobLost (player.Put job) part = StoringLost job.stage part
JobLost (player.Get job) part = EndingLost (get_end job.stage) part

-- ---- when they may

-- The count of faults rose. That a put says why it failed comes behind the removal of its chunks, and so may come in a later turn: of it
-- this, or the count of pending replies did.
abbrev pub RoseFor : Part → (faults faults' pends pends' : ℕ) → Type 0
RoseFor opening faults faults' pends pends' = Rose faults faults'
RoseFor (answer number) faults faults' pends pends' = Rose faults faults'
RoseFor ending faults faults' pends pends' = Rose faults faults'
RoseFor storing faults faults' pends pends' = Rose faults faults' ⊎ Rose pends pends'

-- a job says that a reply was lost only in parts that said so before, or by such a rise
abbrev pub LosesBy : {P : Type 0} → (P → Part → Type 0) → (faults faults' pends pends' : ℕ) → P → P → Type 0
LosesBy lost faults faults' pends pends' p p' = (part : Part) → lost p' part → lost p part ⊎ RoseFor part faults faults' pends pends'

-- the same of a follow, and of the end of a get, an insert or a put
abbrev pub FollowLoses : (faults faults' pends pends' : ℕ) → FollowPlayer → FollowPlayer → Type 0
FollowLoses = LosesBy (λ (p : FollowPlayer). FollowLost p.opened p.answers.items p.closed)

abbrev pub EndLoses : {A : Type 0} → (faults faults' : ℕ) → Ended A → Ended A → Type 0
EndLoses faults faults' end end' = EndLost end' → EndLost end ⊎ Rose faults faults'

abbrev pub PutLoses : (faults faults' pends pends' : ℕ) → PutStage → PutStage → Type 0
PutLoses faults faults' pends pends' stage stage' = PutLost stage' → PutLost stage ⊎ (Rose faults faults' ⊎ Rose pends pends')

-- of job i this part says so
abbrev pub LostIn : List Player → ℕ → Part → Type 0
LostIn players i part = (p : Player) × (slice_get players i ≡ Some p) × JobLost p part

-- the same of all jobs
abbrev pub AllLoseBy : (faults faults' pends pends' : ℕ) → List Player → List Player → Type 0
AllLoseBy faults faults' pends pends' players players' = (i : ℕ) (part : Part) → LostIn players' i part → LostIn players i part ⊎ RoseFor part faults faults' pends pends'

-- an outcome says that a reply was lost only by such a rise
abbrev pub AllLostBy : (faults faults' pends pends' : ℕ) → List Outcome → Type 0
AllLostBy faults faults' pends pends' outcomes = (i : ℕ) (r : Outcome) (part : Part) → slice_get outcomes i ≡ Some r → SaysLost r part → RoseFor part faults faults' pends pends'
