-- How far each job comes by its turns.
use Rattle.std.specs.Prelude.{◌≡◌, ◌+◌, ◌-◌, ◌*◌, ◌<◌, ◌≤◌, ◌⊎◌, ℕ, Bool, true, false, cond, nat_eq, List, [], ◌∷◌, length, Option, Some, IsSome, is_some, slice_get}
use Rattle.mg_turns.specs.Counts.{RoseIf}
use Rattle.mg_change.specs.ClientStreams.{stream_ticket}
use Rattle.mg_change.specs.ClosingStreams.{stream_closing_ticket}
use Rattle.mg_change.specs.OpeningView.{ticket_in}
use Rattle.mg_change.specs.StreamView.{stream_of}
use Rattle.mg_ops.specs.Inserts.{insert_ticket}
use Rattle.mg_players.specs.Follows.{HasGiven, IsFailed, IsUnfinished}
use Rattle.mg_players.specs.Gets.{gets_ticket, room_of}
use Rattle.mg_players.specs.Kinds.{OfFollow, OfGet, OfInsert, OfPut}
use Rattle.mg_gridfs.specs.Uploads.{idle, upload_ticket}
use Rattle.mg_gridfs.specs.UploadView.{upload_of}
use Rattle.mg_players.specs.Puts.{IsPutDoing}
use Rattle.mg_script.specs.Plan.{Task, insert, follow, put, get}
use Rattle.mg_script.specs.declared.outcome.Ended.{Ended}
use Rattle.mg_script.specs.declared.outcome.Ended.TheVariants as ended
use Rattle.mg_script.specs.declared.outcome.Outcome.{Outcome}
use Rattle.mg_turns.specs.declared.turned.Turned.{Turned}
use Rattle.mg_players.specs.declared.follow.FollowPlayer.{FollowPlayer}
use Rattle.mg_players.specs.declared.get.GetPlayer.{GetPlayer}
use Rattle.mg_players.specs.declared.get.GetStage.{GetStage}
use Rattle.mg_players.specs.declared.get.GetStage.TheVariants as gets
use Rattle.mg_players.specs.declared.insert.InsertStage.{InsertStage}
use Rattle.mg_players.specs.declared.insert.InsertStage.TheVariants as inserts
use Rattle.mg_players.specs.declared.follow.Stage.{Stage}
use Rattle.mg_players.specs.declared.follow.Stage.TheVariants as stage
use Rattle.mg_players.specs.declared.player.Player.{Player}
use Rattle.mg_players.specs.declared.player.Player.TheVariants as player
use Rattle.mg_players.specs.declared.put.PutPlayer.{PutPlayer}
use Rattle.mg_players.specs.declared.put.PutStage.{PutStage}
use Rattle.mg_players.specs.declared.put.PutStage.TheVariants as puts

-- ---- what the notes say

-- one where a turn did not pend
abbrev pub one_unless : Bool → ℕ
one_unless true = 0
one_unless false = 1

-- how many of the turns of job i did not pend, by their notes
abbrev pub turns_done : ℕ → List ℕ → List Turned → ℕ
turns_done i [] notes = 0
turns_done i (n ∷ order) [] = 0
turns_done i (n ∷ order) (note ∷ notes) = cond (nat_eq i n) (one_unless note.pended) 0 + turns_done i order notes

-- whether the newest of these turns of job i pended by its note, or else the one before them
abbrev pub pended_since : Bool → ℕ → List ℕ → List Turned → Bool
pended_since last i [] notes = last
pended_since last i (n ∷ order) [] = last
pended_since last i (n ∷ order) (note ∷ notes) = pended_since (cond (nat_eq i n) note.pended last) i order notes

-- whether the newest turn of job i pended by its note, where it had one
abbrev pub pends_last : ℕ → List ℕ → List Turned → Bool
pends_last i order notes = pended_since false i order notes

-- ---- what a job has come to

-- it came to an end, good or bad
abbrev pub IsFinished : {A : Type 0} → Ended A → Type 0
IsFinished ended.Unfinished = ⊥
IsFinished (ended.Gave x) = Unit {0}
IsFinished (ended.Failed e) = Unit {0}

-- it holds the ticket of a command just where its newest turn pended
abbrev pub HoldsIf : Bool → Option ℕ → Type 0
HoldsIf last ticket = is_some ticket ≡ last

-- an insert after so many turns that did not pend, where its newest turn pended or not: it ends in the first of them, and the newest turn of one that has
-- ended did not pend
abbrev pub InsertAt : InsertStage → ℕ → Bool → Type 0
InsertAt inserts.Unsent k last = (k ≡ 0) × (last ≡ false)
InsertAt (inserts.Goes inserting) k last = (k ≡ 0) × HoldsIf last (insert_ticket inserting)
InsertAt (inserts.Ended e) k last = (1 ≤ k) × IsFinished e × (last ≡ false)

-- an insert that drew its ids, which may have failed
abbrev pub InsertReady : InsertStage → ℕ → Type 0
InsertReady inserts.Unsent k = ⊥
InsertReady (inserts.Goes inserting) k = k ≡ 0
InsertReady (inserts.Ended e) k = IsFinished e

-- how a get has ended that had so many calls behind it: in its opening, in a read, or by a read behind its last byte
abbrev pub GetEndedAt : {A : Type 0} → Ended A → (done k : ℕ) → Type 0
GetEndedAt ended.Unfinished done k = ⊥
GetEndedAt (ended.Gave x) done k = (1 ≤ done) × (done + 1 ≤ k)
GetEndedAt (ended.Failed e) done k = done + 1 ≤ k

-- behind so many calls, the first of which is its opening, each other one gave at most as many bytes as a read has room for
abbrev pub FitsReads : (bytes done read : ℕ) → Type 0
FitsReads bytes done read = bytes ≤ (done - 1) * room_of read

-- A get at a stage, which gave so many bytes and had so many calls behind it that ended, after k turns that did not pend, where its newest turn pended or
-- not: it is opened in the first of them, and each of the next ones gave a byte, and no more than a read has room for, or ended it.
abbrev pub GetStageAt : GetStage → (bytes done : ℕ) → ℕ → Bool → ℕ → Type 0
GetStageAt gets.Unsent bytes done k last read = (k ≡ 0) × (done ≡ 0) × (bytes ≡ 0) × (last ≡ false)
GetStageAt (gets.Opens opening) bytes done k last read = (k ≡ 0) × (done ≡ 0) × (bytes ≡ 0) × HoldsIf last (gets_ticket (gets.Opens opening))
GetStageAt (gets.Reads download room) bytes done k last read = (k ≡ done) × (1 ≤ done) × (done ≤ bytes + 1) × HoldsIf last (gets_ticket (gets.Reads download room)) × FitsReads bytes done read
GetStageAt (gets.Ended end) bytes done k last read = GetEndedAt end done k × (done ≤ bytes + 1) × (last ≡ false) × FitsReads bytes done read

abbrev pub GetAt : GetPlayer → ℕ → Bool → Type 0
GetAt job k last = GetStageAt job.stage (length job.bytes.items) job.done k last job.what.read

-- what a follow has come to: its opening and its closing, how many calls were answered, how many are left, and whether its stream has more
pub record Came : Type 0 where
  pub opened : Ended (Unit {0})
  pub closed : Ended (Unit {0})
  pub answered : ℕ
  pub left : ℕ
  pub alive : Bool

abbrev pub came : FollowPlayer → Came
came p = record { opened = p.opened; closed = p.closed; answered = length p.answers.items; left = p.left; alive = p.alive }

-- its stream is not open yet
pub record NotOpen (calls : ℕ) (c : Came) (k : ℕ) : Type 0 where
  pub none : k ≡ 0
  pub opened : IsUnfinished c.opened
  pub closed : IsUnfinished c.closed
  pub no_answer : c.answered ≡ 0
  pub all_left : c.left ≡ calls
  pub no_more : c.alive ≡ false

-- its stream is open, and each turn behind the opening one answered a call
pub record Rests (calls : ℕ) (c : Came) (k : ℕ) : Type 0 where
  pub opened : HasGiven c.opened
  pub closed : IsUnfinished c.closed
  pub answered : c.answered ≡ k
  pub rest : c.answered + c.left ≡ calls

-- its stream is open, and calls are left
pub record IsOpen (calls : ℕ) (c : Came) (k : ℕ) : Type 0 where
  pub opened : HasGiven c.opened
  pub closed : IsUnfinished c.closed
  pub answered : c.answered + 1 ≡ k
  pub rest : c.answered + c.left ≡ calls
  pub more : 0 < c.left

-- all calls are answered, and its stream is to be closed
pub record Closes (calls : ℕ) (c : Came) (k : ℕ) : Type 0 where
  pub opened : HasGiven c.opened
  pub closed : IsUnfinished c.closed
  pub answered : c.answered ≡ calls
  pub all : k ≡ calls

-- its stream could not be opened
pub record NeverOpen (c : Came) (k : ℕ) : Type 0 where
  pub opened : IsFailed c.opened
  pub closed : IsUnfinished c.closed
  pub no_answer : c.answered ≡ 0
  pub no_more : c.alive ≡ false
  pub some : 1 ≤ k

-- all calls are answered, and its stream was closed
pub record IsClosed (calls : ℕ) (c : Came) (k : ℕ) : Type 0 where
  pub opened : HasGiven c.opened
  pub closed : IsFinished c.closed
  pub answered : c.answered ≡ calls
  pub all : calls + 1 ≤ k

-- a follow of so many calls at a stage, after k turns that did not pend, where its newest turn pended or not
abbrev pub FollowAt : ℕ → Stage → Came → ℕ → Bool → Type 0
FollowAt calls stage.Unopened c k last = NotOpen calls c k × (last ≡ false)
FollowAt calls (stage.Opens opening) c k last = NotOpen calls c k × HoldsIf last (ticket_in opening)
FollowAt calls (stage.Open stream) c k last = IsOpen calls c k × HoldsIf last (stream_ticket (stream_of stream))
FollowAt calls (stage.Closes closing) c k last = Closes calls c k × (last ≡ true) × IsSome (stream_closing_ticket closing)
FollowAt calls stage.Ended c k last = (NeverOpen c k ⊎ IsClosed calls c k) × (last ≡ false)

-- A put that has ended after so many turns: one for its opening, one for each piece and one for its end; or one that failed, in its first turn, or behind that and
-- those in which it wrote so many pieces.
abbrev pub PutOver : {A : Type 0} → Ended A → (done count k : ℕ) → Type 0
PutOver ended.Unfinished done count k = ⊥
PutOver (ended.Gave x) done count k = count + 2 ≤ k
PutOver (ended.Failed e) done count k = ((done ≡ 0) × (1 ≤ k)) ⊎ (done + 2 ≤ k)

-- A put of so many pieces, of which so many are written, at a stage, after k turns that did not pend, where its newest turn pended or not: one whose newest turn
-- did not pend has no call that goes on.
abbrev pub PutAt : ℕ → PutStage → (done count k : ℕ) → Bool → Type 0
PutAt calls puts.Undrawn done count k last = (count ≡ calls) × (done ≡ 0) × (k ≡ 0) × (last ≡ false)
PutAt calls (puts.Begins begun) done count k last = ⊥
PutAt calls (puts.Goes going) done count k last = (count ≡ calls) × (done + 1 ≡ k) × IsPutDoing (upload_of going.upload).doing done count × HoldsIf last (upload_ticket (upload_of going.upload)) × (last ≡ false → (upload_of going.upload).doing ≡ idle)
PutAt calls (puts.Ended e) done count k last = PutOver e done calls k × (last ≡ false)

-- a put that drew its ids, for which there may have been no place
abbrev pub PutReady : ℕ → PutStage → (done count k : ℕ) → Bool → Type 0
PutReady calls puts.Undrawn done count k last = ⊥
PutReady calls (puts.Begins begun) done count k last = (count ≡ calls) × (done ≡ 0) × (k ≡ 0)
PutReady calls (puts.Goes going) done count k last = PutAt calls (puts.Goes going) done count k last
PutReady calls (puts.Ended e) done count k last = PutOver e done calls k

-- a job of so many calls, after k turns that did not pend, where its newest turn pended or not
abbrev pub IsAt : ℕ → Player → ℕ → Bool → Type 0
IsAt calls (player.Insert job) k last = InsertAt job.stage k last
IsAt calls (player.Follow job) k last = FollowAt calls job.stage (came job) k last
IsAt calls (player.Put job) k last = PutAt calls job.stage job.done (length job.what.pieces.now) k last
IsAt calls (player.Get job) k last = GetAt job k last

-- the same of a job that got what it needs for a turn
abbrev pub IsReadyAt : ℕ → Player → ℕ → Bool → Type 0
IsReadyAt calls (player.Insert job) k last = InsertReady job.stage k
IsReadyAt calls (player.Follow job) k last = FollowAt calls job.stage (came job) k last
IsReadyAt calls (player.Put job) k last = PutReady calls job.stage job.done (length job.what.pieces.now) k last
IsReadyAt calls (player.Get job) k last = GetAt job k last

-- the calls of a task; those of a put are its pieces
abbrev pub calls_of : Task → ℕ
calls_of (insert ns docs) = 0
calls_of (follow on calls start filter batch) = calls
calls_of (put db bucket name id chunk pieces) = length pieces
calls_of (get db bucket id read) = 0

-- each job is where its turns have brought it
abbrev pub AllAt : List Task → List ℕ → List Turned → List Player → Type 0
AllAt tasks order notes players = (i : ℕ) (t : Task) (p : Player) → slice_get tasks i ≡ Some t → slice_get players i ≡ Some p → IsAt (calls_of t) p (turns_done i order notes) (pends_last i order notes)

-- ---- a turn

-- from one state to the other, in a turn that pended just where the count of pending replies rose
abbrev pub ComesTo : (ℕ → ℕ → Bool → Type 0) → (ℕ → ℕ → Bool → Type 0) → ℕ → ℕ → Type 0
ComesTo P Q before now = (pended : Bool) × RoseIf pended before now × ((calls k : ℕ) (last : Bool) → P calls k last → Q calls (k + one_unless pended) pended)

-- a turn takes a follow from one stage to another
abbrev pub FollowGoes : ℕ → ℕ → Stage → Came → Stage → Came → Type 0
FollowGoes before now s c s' c' = ComesTo (λ calls k last. FollowAt calls s c k last) (λ calls k last. FollowAt calls s' c' k last) before now

-- the rest of a turn, behind the opening or behind an answered call
abbrev pub RestGoes : ℕ → ℕ → Came → Stage → Came → Type 0
RestGoes before now c s' c' = ComesTo (λ calls k last. Rests calls c k) (λ calls k last. FollowAt calls s' c' k last) before now

-- the rest of a turn, which closes the stream
abbrev pub CloseGoes : ℕ → ℕ → Came → Stage → Came → Type 0
CloseGoes before now c s' c' = ComesTo (λ calls k last. Closes calls c k) (λ calls k last. FollowAt calls s' c' k last) before now

-- a turn takes an insert on
abbrev pub InsertGoes : ℕ → ℕ → InsertStage → InsertStage → Type 0
InsertGoes before now p p' = ComesTo (λ calls k last. InsertReady p k) (λ calls k last. InsertAt p' k last) before now

-- a turn takes a put on
abbrev pub PutGoes : ℕ → ℕ → PutPlayer → PutPlayer → Type 0
PutGoes before now p p' = ComesTo (λ calls k last. PutReady calls p.stage p.done (length p.what.pieces.now) k last) (λ calls k last. PutAt calls p'.stage p'.done (length p'.what.pieces.now) k last) before now

-- a turn takes a get on
abbrev pub GetGoes : ℕ → ℕ → GetStage → (bytes done : ℕ) → GetStage → (bytes' done' : ℕ) → ℕ → Type 0
GetGoes before now s bytes done s' bytes' done' read = ComesTo (λ calls k last. GetStageAt s bytes done k last read) (λ calls k last. GetStageAt s' bytes' done' k last read) before now

-- a turn takes a job on
abbrev pub JobGoes : ℕ → ℕ → Player → Player → Type 0
JobGoes before now p p' = ComesTo (λ calls k last. IsReadyAt calls p k last) (λ calls k last. IsAt calls p' k last) before now

-- a turn with this note took on a job that got what it needs
abbrev pub GoesBy : Turned → Player → Player → Type 0
GoesBy note p p' = (calls k : ℕ) (last : Bool) → IsReadyAt calls p k last → IsAt calls p' (k + one_unless note.pended) note.pended

-- a turn with this note took on a job
abbrev pub TurnsBy : Turned → Player → Player → Type 0
TurnsBy note p p' = (calls k : ℕ) (last : Bool) → IsAt calls p k last → IsAt calls p' (k + one_unless note.pended) note.pended

-- ---- what this comes to

-- an insert is unfinished just where it had no turn that did not pend; the newest turn of one that has ended did not pend
abbrev pub InsertPlayed : {A : Type 0} → Ended A → ℕ → Bool → Type 0
InsertPlayed ended.Unfinished k last = k ≡ 0
InsertPlayed (ended.Gave x) k last = (1 ≤ k) × (last ≡ false)
InsertPlayed (ended.Failed e) k last = (1 ≤ k) × (last ≡ false)

-- an open follow: one call was answered in each turn behind the first, and the last of them, or the next, closes it, and did not pend
abbrev pub OpenPlayed : {A : Type 0} → Ended A → ℕ → ℕ → ℕ → Bool → Type 0
OpenPlayed ended.Unfinished calls answered k last = ((answered + 1 ≡ k) × (answered < calls)) ⊎ ((answered ≡ calls) × (k ≡ calls) × (last ≡ true))
OpenPlayed (ended.Gave x) calls answered k last = (answered ≡ calls) × (calls + 1 ≤ k) × (last ≡ false)
OpenPlayed (ended.Failed e) calls answered k last = (answered ≡ calls) × (calls + 1 ≤ k) × (last ≡ false)

-- a follow is opened in its first turn that does not pend; a stream that was not opened has no more, and the newest turn of one that could not be opened
-- did not pend
abbrev pub FollowPlayed : {A : Type 0} → Ended A → Ended A → ℕ → ℕ → Bool → ℕ → Bool → Type 0
FollowPlayed ended.Unfinished closed calls answered alive k last = (k ≡ 0) × (answered ≡ 0) × (alive ≡ false) × IsUnfinished closed
FollowPlayed (ended.Gave x) closed calls answered alive k last = OpenPlayed closed calls answered k last
FollowPlayed (ended.Failed e) closed calls answered alive k last = (1 ≤ k) × (answered ≡ 0) × (alive ≡ false) × IsUnfinished closed × (last ≡ false)

-- A get that is unfinished gave a byte in each turn that did not pend behind the first, and none before that; the newest turn of one that has ended did not
-- pend, and one that ended well had two or more. In each turn behind the first it gave at most as many bytes as a read has room for.
abbrev pub GetPlayed : {A : Type 0} → Ended A → (bytes k : ℕ) → Bool → ℕ → Type 0
GetPlayed ended.Unfinished bytes k last read = (k ≤ bytes + 1) × (k ≡ 0 → bytes ≡ 0) × FitsReads bytes k read
GetPlayed (ended.Gave x) bytes k last read = (2 ≤ k) × (last ≡ false) × FitsReads bytes k read
GetPlayed (ended.Failed e) bytes k last read = (1 ≤ k) × (last ≡ false) × FitsReads bytes k read

-- a put is unfinished just where none of its calls failed and it had fewer turns that did not pend than one for its opening, one for each piece, and one for
-- its end; the newest turn of one that has ended did not pend
abbrev pub PutPlayed : {A : Type 0} → Ended A → ℕ → ℕ → Bool → Type 0
PutPlayed ended.Unfinished count k last = k < count + 2
PutPlayed (ended.Gave x) count k last = (count + 2 ≤ k) × (last ≡ false)
PutPlayed (ended.Failed e) count k last = (1 ≤ k) × (last ≡ false)

-- a task comes to this outcome by k turns that did not pend, where its newest turn pended or not
abbrev pub IsPlayed : Task → ℕ → Bool → Outcome → Type 0
IsPlayed (insert ns docs) k last = OfInsert (λ e. InsertPlayed e k last)
IsPlayed (follow on calls start filter batch) k last = OfFollow (λ opened said token alive closed. FollowPlayed opened closed calls (length said.items) alive k last)
IsPlayed (put db bucket name id chunk pieces) k last = OfPut (λ e. PutPlayed e (length pieces) k last)
IsPlayed (get db bucket id read) k last = OfGet (λ bytes e. GetPlayed e (length bytes.items) k last read)

-- each job's outcome is what its turns brought
abbrev pub AllPlayed : List Task → List ℕ → List Turned → List Outcome → Type 0
AllPlayed tasks order notes outcomes = (i : ℕ) (t : Task) (r : Outcome) → slice_get tasks i ≡ Some t → slice_get outcomes i ≡ Some r → IsPlayed t (turns_done i order notes) (pends_last i order notes) r
