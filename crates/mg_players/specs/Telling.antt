-- What a job can tell, turn by turn, of what its answers are caused by.
use Rattle.std.specs.Prelude.{◌≡◌, ◌≢◌, ◌↔◌, ◌⊎◌, ◌+◌, ◌≤◌, ◌++◌, IsTrue, Bool, true, ℕ, suc, ℤ, List, [], length, Option, Some, None, Ok, slice_get, ◌<◌}
use Rattle.std.specs.List.{concat, sum_by}
use Rattle.mg_bson.specs.Tree.{Fields, Tree}
use Rattle.mg_server.specs.Calls.{Past, past_of, AddsOnly}
use Rattle.mg_server.specs.Files.{chunks_space}
use Rattle.mg_link.specs.Link.{Awaited, LogTold}
use Rattle.mg_link.specs.Log.{Call}
use Rattle.mg_link.specs.Namespace.{Space, space, target}
use Rattle.mg_link.specs.declared.error.Error.{Error}
use Rattle.mg_link.specs.declared.error.ErrorKind.TheVariants as kind
use Rattle.mg_ops.specs.Naming.{IsNamed}
use Rattle.mg_ops.specs.declared.change_stream.WatchArgs.{WatchArgs}
use Rattle.mg_change.specs.Causes.{SoFar}
use Rattle.mg_change.specs.ClientStreams.{ClientStream, IsAlive, IsSound, stream_ticket, stream_token}
use Rattle.mg_change.specs.ClosingCauses.{LastSoFar}
use Rattle.mg_change.specs.ClosingStreams.{Landing, ends, lands, lands_aggregate, lands_replaced}
use Rattle.mg_change.specs.OpeningCauses.{StreamOpened, OpeningFails, OpensSoFar}
use Rattle.mg_change.specs.OpeningView.{IsPlainOpening, opening_of}
use Rattle.mg_change.specs.Sent.{ending_places, resuming_places}
use Rattle.mg_change.specs.StreamView.{stream_of}
use Rattle.mg_players.specs.Causes.{Answered, AreInLog, OpeningAsks, ClosedBy, Course, EndsBy, EndsSent, FallsAt, FindsAt, KillsLast, AllSentIn, SentNoneBehind, commands_at, course, places_of, sent_at, PutEndsBy, HasWritten, AllWritten, HasRead}
use Rattle.mg_change.specs.Calling.{IsRequestAt, OpensAt, OpensFar, RequestFar, SentBy}
use Rattle.mg_players.specs.Asking.{AllAskOn, DownloadLast, FindingLast}
use Rattle.mg_players.specs.Files.{FirstHold, ListsSo}
use Rattle.mg_players.specs.Follows.{FollowTurns, HasGiven, IsArgsFor, Placing, filter_in}
use Rattle.mg_gridfs.specs.Buckets.{IsSize}
use Rattle.mg_gridfs.specs.Causes.{IsUploading}
use Rattle.mg_gridfs.specs.Storing.{KnowsUpload}
use Rattle.mg_gridfs.specs.Uploads.{ClientUpload, RestsBy, idle, upload_error}
use Rattle.mg_gridfs.specs.UploadView.{upload_of}
use Rattle.mg_players.specs.Buckets.{plain_bucket}
use Rattle.mg_players.specs.Gets.{AsksPlainly, GetKnowsAt, GetTask, IsFindAt, IsGetCommand, IsOpeningFor, chunks_find, no_room, record_find, room_of, sought}
use Rattle.mg_players.specs.Headline.{AllKnow, GetPlays, Plays, task_of}
use Rattle.mg_cursor.specs.Client.{ClientCursor}
use Rattle.mg_gridfs.specs.Downloaded.{KnowsDownload}
use Rattle.mg_gridfs.specs.Downloads as downloads
use Rattle.mg_gridfs.specs.Downloads.{ClientDownload, IsSoundDownload, download_ticket}
use Rattle.mg_gridfs.specs.DownloadView.{IsDownload, download_of, finding_of}
use Rattle.mg_gridfs.specs.Findings as findings
use Rattle.mg_gridfs.specs.Findings.{IsSoundFinding, Looking, finding_ticket}
use Rattle.mg_gridfs.specs.ReadCauses as files
use Rattle.mg_gridfs.specs.ReadCauses.{HeardRecord, IsFetching, ReadFails, cursor_in}
use Rattle.mg_server.specs.Owner.{IsOf}
use Rattle.mg_chunks.specs.Sizes.{chunk_count_of}
use Rattle.mg_records.specs.FileRecords.{FileRecord}
use Rattle.mg_ops.specs.InsertCauses.{HasSent, IsInsertOf}
use Rattle.mg_ops.specs.InsertSends.{HasSentPieces}
use Rattle.mg_ops.specs.Logs.{AddsJust}
use Rattle.mg_script.specs.Plan.{Task, begin}
use Rattle.mg_ops.specs.Drawn.{with_ids}
use Rattle.mg_players.specs.Drawing.{first_id, sent_documents, sent_from, supply_from}
use Rattle.mg_players.specs.Kept.{ids_left}
use Rattle.mg_players.specs.Laying.{DoingLays, EndLays}
use Rattle.mg_players.specs.Owned.{AllOwn}
use Rattle.mg_players.specs.Losses.{EndLost}
use Rattle.mg_players.specs.Playing.{end_of, job_ticket}
use Rattle.mg_players.specs.Plays as words
use Rattle.mg_players.specs.Plays.{Extends, Moves, MovesTo, Places, all_places}
use Rattle.mg_players.specs.PutFailures.{AnswersPut, PutReads}
use Rattle.mg_players.specs.PutSends.{DoingSent, PutEndsSent, Reaches}
use Rattle.mg_players.specs.Puts.{BegunFor, CutBy, DoingSupplied, NeedsFull, PutTask, Supply, put_aim, put_bucket, taken_in, total, writes}
use Rattle.mg_players.specs.Reading.{EndsAsListed, GivesNone, GoesOn, HeardEmpty, HeardHeld, ListsIts, ListsOther, ReadFailsSo, ReadStops}
use Rattle.mg_players.specs.Sends.{IsCommandOf, MaySend, PutFlies, SendsOnly}
use Rattle.mg_ops.specs.Underway.{HasInserted}
use Rattle.mg_script.specs.declared.outcome.Answer.{Answer}
use Rattle.mg_script.specs.declared.outcome.Ended.{Ended}
use Rattle.mg_script.specs.declared.outcome.Ended.TheVariants as ended
use Rattle.mg_turns.specs.declared.turned.Turned.{Turned}
use Rattle.mg_players.specs.declared.follow.FollowPlayer.{FollowPlayer}
use Rattle.mg_players.specs.declared.get.GetPlayer.{GetPlayer}
use Rattle.mg_players.specs.declared.get.GetStage.{GetStage}
use Rattle.mg_players.specs.declared.get.GetStage.TheVariants as gets
use Rattle.mg_players.specs.declared.insert.InsertPlayer.{InsertPlayer}
use Rattle.mg_players.specs.declared.insert.InsertStage.{InsertStage}
use Rattle.mg_players.specs.declared.insert.InsertStage.TheVariants as inserts
use Rattle.mg_players.specs.declared.follow.Stage.{Stage}
use Rattle.mg_players.specs.declared.follow.Stage.TheVariants as stage
use Rattle.mg_players.specs.declared.follow.Watched.{Watched}
use Rattle.mg_players.specs.declared.player.Player.{Player}
use Rattle.mg_players.specs.declared.player.Player.TheVariants as player
use Rattle.mg_players.specs.declared.put.PutPlayer.{PutPlayer}
use Rattle.mg_players.specs.declared.put.PutStage.{PutStage}
use Rattle.mg_players.specs.declared.put.PutStage.TheVariants as puts

-- what a follow keeps beside its stage
pub record Kept : Type 0 where
  pub watched : Watched
  pub opened : Ended (Unit {0})
  pub said : List Answer
  pub token : Option Tree
  pub alive : Bool
  pub closed : Ended (Unit {0})

abbrev pub kept : FollowPlayer → Kept
kept p = record { watched = p.watched; opened = p.opened; said = p.answers.items; token = p.token; alive = p.alive; closed = p.closed }

abbrev pub IsWatchArgs : Watched → WatchArgs → Type 0
IsWatchArgs v = IsArgsFor (target v.target.now) (begin v.start.now) (filter_in v) v.batch_size

-- nothing was answered yet, and its opening goes on
abbrev pub TellsFirst : Places → Kept → Type 0
TellsFirst q k = (q.owns ≡ []) × (k.said ≡ []) × (q.opened ≡ [])

-- its stream was opened, and each call was answered with its cause
pub record TellsOpen (calls : List Call) (wire : ℤ) (places : List ℕ) (owns : List (List ℕ)) (v : Watched) (o : Ended (Unit {0})) (said : List Answer) (alive : Bool) (last : ClientStream) (at : Option ℕ) : Type 0 where
  pub given : HasGiven o
  pub args : WatchArgs
  pub args_are : IsWatchArgs v args
  pub first : ClientStream
  pub opened : StreamOpened (sent_at places calls wire) args first
  pub here : at ≡ Some opened.heard.place
  pub opens : OpensAt calls wire args places
  pub answered : Answered calls wire first owns said last
  pub alive_is : IsTrue alive ↔ IsAlive last

abbrev pub IsOpened : List Call → ℤ → Places → Kept → ClientStream → Option ℕ → Type 0
IsOpened calls wire q k last at = TellsOpen calls wire q.opened q.owns k.watched k.opened k.said k.alive last at

-- its opening failed
pub record TellsFailed (calls : List Call) (wire : ℤ) (places : List ℕ) (v : Watched) (e : Error) : Type 0 where
  pub args : WatchArgs
  pub args_are : IsWatchArgs v args
  pub fails : OpeningFails (sent_at places calls wire) None args e
  pub opens : OpensAt calls wire args places

-- how it ended
abbrev pub TellsEnd : {A : Type 0} → List Call → ℤ → Places → Kept → Option ℕ → Ended A → Type 0
TellsEnd calls wire q k at ended.Unfinished = Unit {0}
TellsEnd calls wire q k at (ended.Gave x) = (last : ClientStream) × IsOpened calls wire q k last at × (k.token ≡ stream_token last) × ClosedBy (sent_at q.now calls wire) last k.closed × FallsAt (KillsLast last) calls 1 q.now 0
TellsEnd calls wire q k at (ended.Failed e) = ((e.kind ≡ kind.OutOfMemory) × (all_places q ≡ [])) ⊎ (TellsFailed calls wire q.opened k.watched e × (q.owns ≡ []) × (q.now ≡ []))

-- how many places are left to a closing: one before the killing of what is left was sent, and none behind it
abbrev pub landing_places : Landing → ℕ
landing_places lands = 1
landing_places (lands_aggregate sending) = 1
landing_places (lands_replaced before) = 1
landing_places (ends sending) = ending_places sending.stage

-- What a call that began where its stream stood so sent at these places so far; none where it waits for no reply.
pub record SendsSoFar (awaited : Awaited) (calls : List Call) (wire : ℤ) (at : ClientStream) (own : List ℕ) (s : ClientStream) : Type 0 where
  pub sent : SentBy awaited calls wire at own s.cursor s.doing
  pub rests : stream_ticket s ≡ None → own ≡ []

-- what it can tell at each stage, where the call at this place opened its stream
abbrev pub Tells : Awaited → List Call → ℤ → Places → Stage → Kept → Option ℕ → Type 0
Tells awaited calls wire q stage.Unopened k at = TellsFirst q k × (q.now ≡ [])
Tells awaited calls wire q (stage.Opens opening) k at = TellsFirst q k × IsWatchArgs k.watched (opening_of opening).args × IsPlainOpening opening × OpensSoFar awaited (sent_at q.now calls wire) (opening_of opening).args (opening_of opening).sending × OpensFar awaited calls wire (opening_of opening).args (opening_of opening).sending q.now
Tells awaited calls wire q (stage.Open stream) k at = (last : ClientStream) × IsOpened calls wire q k last at × SoFar awaited (sent_at q.now calls wire) true last (stream_of stream) × IsSound true (stream_of stream) × SendsSoFar awaited calls wire last q.now (stream_of stream)
Tells awaited calls wire q (stage.Closes closing) k at = (last : ClientStream) × IsOpened calls wire q k last at × (k.token ≡ stream_token last) × LastSoFar awaited (sent_at q.now calls wire) last closing × FallsAt (KillsLast last) calls 1 q.now (landing_places closing.doing)
Tells awaited calls wire q stage.Ended k at = TellsEnd calls wire q k at k.opened

-- the number of what goes on: how many turns that did not pend come before it
abbrev pub number : Stage → Kept → ℕ
number stage.Unopened k = 0
number (stage.Opens opening) k = 0
number (stage.Open stream) k = suc (length k.said)
number (stage.Closes closing) k = length k.said
number stage.Ended k = length k.said

-- ---- turns

-- what a follow with such arguments tells behind a log, where it told of these places before
pub record Tell (awaited : Awaited) (begun calls : List Call) (wire : ℤ) (v : Watched) (q : Places) (n : ℕ) (s : Stage) (k : Kept) (at : Option ℕ) : Type 0 where
  pub longer : length begun ≤ length calls
  pub places : Places
  pub tells : Tells awaited calls wire places s k at
  pub extends : Extends q places n (number s k) (length begun) (length calls)
  pub adds : AddsOnly (IsCommandOf (IsWatchArgs v)) begun calls

-- A turn, or a part of one, led a follow from one stage to another: it goes on telling.
abbrev pub FollowTells : Awaited → Awaited → LogTold → LogTold → ℤ → Stage → Kept → Stage → Kept → Placing → Type 0
FollowTells old new log log' wire s k s' k' next = (calls calls' : List Call) → log ≡ Some calls → log' ≡ Some calls' → (q : Places) (at : Option ℕ) → Tells old calls wire q s k at → Tell new calls calls' wire k.watched q (number s k) s' k' (next at)

-- The same of the rest of a turn, behind the opening or behind an answered call.
abbrev pub RestTells : Awaited → LogTold → LogTold → ℤ → ClientStream → Kept → Stage → Kept → Type 0
RestTells new log log' wire stream k s' k' = (calls calls' : List Call) → log ≡ Some calls → log' ≡ Some calls' → (q : Places) (at : Option ℕ) → q.now ≡ [] → IsOpened calls wire q k stream at → Tell new calls calls' wire k.watched q (length k.said) s' k' at

-- A follow took a turn: it knows and tells that the same call opened its stream.
pub record FollowGoesOn (old new : Awaited) (log log' : LogTold) (wire : ℤ) (s : Stage) (p : FollowPlayer) (s' : Stage) (p' : FollowPlayer) : Type 0 where
  pub next : Placing
  pub turned : FollowTurns old new log log' s p s' p' next
  pub told : FollowTells old new log log' wire s (kept p) s' (kept p') next

-- ---- inserts

-- what an insert that sends these documents can tell at each stage: nothing before it drew its ids
abbrev pub InsertTells : Awaited → Past → Space → List Fields → InsertStage → Type 0
InsertTells awaited past at sent inserts.Unsent = Unit {0}
InsertTells awaited past at sent (inserts.Goes i) = HasSent awaited past at sent i × (IsNamed at → HasInserted awaited past at sent i)
InsertTells awaited past at sent (inserts.Ended end) = EndsBy past at sent end

-- A turn led an insert of these documents, which had sent at some places before, from one stage to another: it goes on telling.
abbrev pub InsertTurns : Awaited → Awaited → LogTold → LogTold → ℤ → Space → List Fields → InsertStage → InsertStage → Type 0
InsertTurns old new log log' wire at sent stage stage' = (calls calls' : List Call) → log ≡ Some calls → log' ≡ Some calls' → (places : List ℕ)
    → InsertTells old (sent_at places calls wire) at sent stage → InsertTells new (past_of places (length calls) calls' wire) at sent stage' × AddsOnly (IsInsertOf at sent) calls calls'

-- by these commands an insert that sends these documents has sent its pieces so far, at each stage: nothing before it drew its ids
abbrev pub StageSent : Space → List Fields → List Fields → InsertStage → Type 0
StageSent at sent commands inserts.Unsent = commands ≡ []
StageSent at sent commands (inserts.Goes i) = HasSentPieces at sent commands i
StageSent at sent commands (inserts.Ended end) = EndsSent at sent commands end

-- A turn led an insert of these documents from one stage to another: it sent just these commands more.
abbrev pub StageSends : LogTold → LogTold → Space → List Fields → InsertStage → InsertStage → Type 0
StageSends log log' at sent stage stage' = (commands : List Fields) → StageSent at sent commands stage → (more : List Fields) × AddsJust log log' more × StageSent at sent (commands ++ more) stage'

-- an insert that drew its ids from a source that gave these tells what it should, and has sent nothing
pub record TellsNew (ids : ℕ → List ℕ) (at : Space) (documents : List Fields) (stage : InsertStage) : Type 0 where
  pub tells : (awaited : Awaited) (past : Past) → InsertTells awaited past at (with_ids ids 0 documents) stage
  pub sent : StageSent at (with_ids ids 0 documents) [] stage
  pub unlost : EndLost (end_of stage) → ⊥

-- one that had no ids drew them so; any other is as it was
abbrev pub TellsOn : (ℕ → List ℕ) → Space → List Fields → InsertStage → InsertStage → Type 0
TellsOn ids at documents inserts.Unsent stage' = TellsNew ids at documents stage'
TellsOn ids at documents (inserts.Goes i) stage' = stage' ≡ inserts.Goes i
TellsOn ids at documents (inserts.Ended end) stage' = stage' ≡ inserts.Ended end

-- what an insert of these documents tells of what it sent at these places, and that it sent just its pieces there
pub record InsertSaid (awaited : Awaited) (calls : List Call) (wire : ℤ) (q : Places) (at : Space) (sent : List Fields) (stage : InsertStage) : Type 0 where
  pub alone : (q.opened ≡ []) × (q.owns ≡ [])
  pub within : AreInLog (length calls) q.now
  pub tells : InsertTells awaited (sent_at q.now calls wire) at sent stage
  pub sends : StageSent at sent (commands_at calls q.now) stage

-- ---- gets

-- no call has ended
abbrev pub TellsNoCall : Places → Type 0
TellsNoCall q = (q.opened ≡ []) × (q.owns ≡ [])

-- the record that was found
abbrev pub found_in : Looking → Option FileRecord
found_in findings.starts = None
found_in (findings.finds sending) = None
found_in (findings.lists file count sending) = Some file

-- how many places are left to an opening, of four; its last place is 1
abbrev pub finding_places : Looking → ℕ
finding_places findings.starts = 5
finding_places (findings.finds sending) = suc (suc (resuming_places sending.stage))
finding_places (findings.lists file count sending) = resuming_places sending.stage

-- what goes on has sent nothing where it holds no ticket
abbrev pub SentIfHeld : Option ℕ → List ℕ → Type 0
SentIfHeld ticket now = ticket ≡ None → now ≡ []

-- an opening that has come so far sent its finds at these places
abbrev pub FindsSoFar : List Call → GetTask → List ℕ → Looking → Type 0
FindsSoFar calls g places doing = FallsAt (IsFindAt g (found_in doing)) calls 5 places (finding_places doing)

-- how far its requests have come, each of which is sent once more only behind a failure
abbrev pub FindsFar : Awaited → List Call → GetTask → List ℕ → Looking → Type 0
FindsFar awaited calls g places findings.starts = places ≡ []
FindsFar awaited calls g places (findings.finds sending) = RequestFar awaited calls (record_find g) true sending.stage places
FindsFar awaited calls g places (findings.lists file count sending) = (finding listing : List ℕ) × (places ≡ finding ++ listing) × IsRequestAt calls (record_find g) true finding × (file.length ≢ 0) × RequestFar awaited calls (chunks_find g file.id) true sending.stage listing

-- The opening sent at the places told of it: it heard this record, and listed the chunks of its file by the call at this place. What was sent behind it asks for
-- more of them, each by the cursor that the reply to the command before told. Its collections have names that may be.
pub record TellsGetOpened (calls : List Call) (wire : ℤ) (q : Places) (g : GetTask) (f : FileRecord) (at : Option ℕ) : Type 0 where
  pub named : IsNamed (chunks_space g.at)
  pub heard : HeardRecord (sent_at q.opened calls wire) (plain_bucket g.at) g.id (Some f)
  pub listed : (place : ℕ) → at ≡ Some place → IsOf q.opened place
  pub finds : FallsAt (IsFindAt g (Some f)) calls 5 q.opened 1
  pub sends : FindsAt calls g (Some f) q.opened
  pub more : AllAskOn calls (all_places q) (concat q.owns ++ q.now)

-- these bytes begin what the first of the chunks hold that stood as the call at this place listed them, which the record counts
pub record HasFront (calls : List Call) (g : GetTask) (f : FileRecord) (bytes : List ℕ) (at : Option ℕ) : Type 0 where
  pub listed : ℕ
  pub here : at ≡ Some listed
  pub count : ℕ
  pub counted : chunk_count_of f.length f.chunk_size ≡ Ok count
  pub more : List ℕ
  pub lists : ListsSo calls g.at f listed (FirstHold f (bytes ++ more))

-- All of its bytes came so from what its opening heard, and its call that goes on stands so.
pub record ReadsSoFar (awaited : Awaited) (calls : List Call) (wire : ℤ) (q : Places) (g : GetTask) (d : ClientDownload) (bytes : List ℕ) : Type 0 where
  pub last : ClientDownload
  pub so_far : HasRead calls wire g d.file q.opened q.owns bytes last
  pub goes : GoesOn awaited (sent_at (all_places q) calls wire) (sent_at q.now calls wire) g (room_of g.read) last d d.doing

-- What one sent that gave these bytes and had so many calls behind it: what goes on in its opening; or its opening, and what is behind that. The bytes are none, or
-- such a front.
pub data TellsAsked (calls : List Call) (wire : ℤ) (q : Places) (g : GetTask) (bytes : List ℕ) (done : ℕ) : Type 0 where
  in_opening : TellsNoCall q → done ≡ 0 → bytes ≡ [] → (found : Option FileRecord) → OpeningAsks calls wire g found q.now → TellsAsked calls wire q g bytes done
  behind_it : (f : FileRecord) (at : Option ℕ) → TellsGetOpened calls wire q g f at → suc (length q.owns) ≡ done → (bytes ≡ []) ⊎ HasFront calls g f bytes at → (last : ClientDownload) → HasRead calls wire g f q.opened q.owns bytes last → TellsAsked calls wire q g bytes done

-- how a get failed that had so many calls behind it
pub data TellsGetFails (calls : List Call) (wire : ℤ) (q : Places) (g : GetTask) (bytes : List ℕ) (done : ℕ) (e : Error) : Type 0 where
  out_of_memory : e.kind ≡ kind.OutOfMemory → TellsGetFails calls wire q g bytes done e
  has_no_room : g.read ≡ 0 → e ≡ no_room → TellsGetFails calls wire q g bytes done e
  not_opened : 0 < g.read → TellsNoCall q → done ≡ 0 → files.OpeningFails (sent_at q.now calls wire) (plain_bucket g.at) g.id e → TellsGetFails calls wire q g bytes done e
  not_read : 0 < g.read → 1 ≤ done → (d : ClientDownload) (at : Option ℕ) → TellsGetOpened calls wire q g d.file at → (cursor : ClientCursor) → ReadFails (sent_at q.now calls wire) d cursor e
      → cursor_in d.doing ≡ Some cursor → IsSoundDownload d → AsksPlainly d → suc (length q.owns) ≡ done
      → (last : ClientDownload) (listed : ℕ) → IsOf q.opened listed → HeardHeld (sent_at (all_places q) calls wire) g d.file cursor → ReadStops (sent_at (all_places q) calls wire) (HeardEmpty (sent_at (all_places q) calls wire) (sent_at q.now calls wire) g d.file last) (ListsOther calls g.at d.file listed e) e
      → HasRead calls wire g d.file q.opened q.owns bytes last → ReadFailsSo (sent_at q.now calls wire) (room_of g.read) last e → TellsGetFails calls wire q g bytes done e

-- All bytes of the file with this record were given, and these are they: its download has ended.
pub record HasGivenAll (awaited : Awaited) (calls : List Call) (g : GetTask) (f : FileRecord) (bytes : List ℕ) (at : Option ℕ) : Type 0 where
  pub download : ClientDownload
  pub its : download.file ≡ f
  pub over : download.doing ≡ downloads.ended
  pub listed : ℕ
  pub here : at ≡ Some listed
  pub knows : KnowsDownload awaited calls g.at g.id download bytes listed
  pub lists : EndsAsListed calls g.at download bytes at

abbrev pub TellsGetEnd : {A : Type 0} → Awaited → List Call → ℤ → Places → GetTask → List ℕ → ℕ → Option ℕ → Ended A → Type 0
TellsGetEnd awaited calls wire q g bytes done at ended.Unfinished = Unit {0}
TellsGetEnd awaited calls wire q g bytes done at (ended.Gave x) = (0 < g.read) × (f : FileRecord) × TellsGetOpened calls wire q g f at × (suc (length q.owns) ≡ done) × HasGivenAll awaited calls g f bytes at
    × (last : ClientDownload) × HasRead calls wire g f q.opened q.owns bytes last × GivesNone (sent_at q.now calls wire) (room_of g.read) last
TellsGetEnd awaited calls wire q g bytes done at (ended.Failed e) = TellsGetFails calls wire q g bytes done e × TellsAsked calls wire q g bytes done

-- what a get that gave these bytes can tell at each stage, where the call at this place listed its chunks
abbrev pub GetTells : Awaited → List Call → ℤ → Places → GetTask → GetStage → List ℕ → ℕ → Option ℕ → Type 0
GetTells awaited calls wire q g gets.Unsent bytes done at = TellsNoCall q × (q.now ≡ [])
GetTells awaited calls wire q g (gets.Opens opening) bytes done at = TellsNoCall q × IsOpeningFor g (finding_of opening) × IsSoundFinding (finding_of opening) × files.IsOpening awaited (sent_at q.now calls wire) (finding_of opening) × FindsSoFar calls g q.now (finding_of opening).doing × FindingLast awaited (λ (n : ℕ). IsOf q.now n) (finding_of opening).doing × SentIfHeld (finding_ticket (finding_of opening)) q.now × FindsFar awaited calls g q.now (finding_of opening).doing
GetTells awaited calls wire q g (gets.Reads download room) bytes done at = TellsGetOpened calls wire q g (download_of download).file at × (suc (length q.owns) ≡ done) × IsFetching awaited (sent_at q.now calls wire) (download_of download) × IsDownload download × AsksPlainly (download_of download) × ListsIts (sent_at (all_places q) calls wire) g (download_of download) × DownloadLast awaited calls (λ (n : ℕ). IsOf (all_places q) n) (download_of download)
    × ReadsSoFar awaited calls wire q g (download_of download) bytes × EndsAsListed calls g.at (download_of download) bytes at × SentIfHeld (download_ticket (download_of download)) q.now
GetTells awaited calls wire q g (gets.Ended end) bytes done at = TellsGetEnd awaited calls wire q g bytes done at end

-- what a get tells behind a turn, and whether it sent what it may
pub record GetTell (awaited : Awaited) (begun calls : List Call) (wire : ℤ) (q : Places) (n : ℕ) (g : GetTask) (s : GetStage) (bytes : List ℕ) (done : ℕ) (at : Option ℕ) : Type 0 where
  pub longer : length begun ≤ length calls
  pub places : Places
  pub tells : GetTells awaited calls wire places g s bytes done at
  pub extends : Extends q places n done (length begun) (length calls)
  pub adds : AddsOnly (IsGetCommand g) begun calls

-- A turn, or a part of one, led a get that knew what it should from one stage to another: it goes on telling.
abbrev pub GetGoesOn : Awaited → Awaited → LogTold → LogTold → ℤ → GetTask → GetStage → List ℕ → ℕ → GetStage → List ℕ → ℕ → Moves → Type 0
GetGoesOn old new log log' wire g s bytes done s' bytes' done' next = (calls calls' : List Call) → log ≡ Some calls → log' ≡ Some calls' → (q : Places) (at at' : Option ℕ) → MovesTo next calls calls' at at' → GetKnowsAt old calls g s bytes at → GetTells old calls wire q g s bytes done at → GetTell new calls calls' wire q done g s' bytes' done' at'

-- A get took a turn, or a part of one: it goes on knowing and telling.
pub record GetTurns (old new : Awaited) (log log' : LogTold) (wire : ℤ) (p p' : GetPlayer) : Type 0 where
  pub next : Moves
  pub turned : words.Turns GetPlays old new log log' p p' next
  pub told : GetGoesOn old new log log' wire (sought p.what) p.stage p.bytes.items p.done p'.stage p'.bytes.items p'.done next

-- ---- puts

-- the commands of the calls before stand in the log before those of the one that goes on
abbrev pub CallsFollow : Places → Type 0
CallsFollow q = (k m : ℕ) → IsOf (q.opened ++ concat q.owns) k → IsOf q.now m → k < m

-- such commands a put sent at all its places, call by call
pub record PutSaid (calls : List Call) (q : Places) (sent : List Fields → Type 0) : Type 0 where
  pub within : AreInLog (length calls) (all_places q)
  pub ordered : CallsFollow q
  pub sends : sent (commands_at calls (all_places q))

-- a put whose upload is open: each piece that is written was written by a call of its own, its call that goes on has sent what stands at the places of that and
-- has such a command on its way, and its upload knows what it stored; what it draws ids from has those that are left; where its record was sent, all chunks stood
pub record PutTellsOpen (awaited : Awaited) (calls : List Call) (wire : ℤ) (q : Places) (supply : Supply) (t : PutTask) (ids : ℕ → List ℕ) (done : ℕ) (u : ClientUpload) : Type 0 where
  pub aim_is : u.aim ≡ put_aim t
  pub sized : IsSize t.chunk
  pub opened : q.opened ≡ []
  pub counted : length q.owns ≡ done
  -- between its calls nothing was sent for the next one, and less than a chunk is left
  pub rests : u.doing ≡ idle → (q.now ≡ []) × (length u.behind < u.aim.size)
  pub full : AllWritten supply t calls q.owns
  pub needs : NeedsFull t u.checked u.doing (taken_in u.doing t.pieces done)
  pub cut : CutBy u (taken_in u.doing t.pieces done) u.doing
  pub pauses : RestsBy u.doing
  pub underway : IsUploading awaited (sent_at q.now calls wire) u
  pub flies : PutFlies supply t u.doing
  pub supplied : DoingSupplied supply t ids u.sent u.doing
  pub its : AnswersPut t (upload_error u)
  pub reads : PutReads awaited (sent_at q.now calls wire) (put_bucket t) u.doing
  pub knows : KnowsUpload awaited (sent_at (all_places q) calls wire) t.at u (taken_in u.doing t.pieces done)
  pub said : PutSaid calls q (λ commands. DoingSent supply t (Reaches t done) (sent_at (all_places q) calls wire) (sent_at q.now calls wire) commands u.checked u.sent u.doing)
  pub lays : DoingLays (sent_at (all_places q) calls wire) t u.doing

-- it has sent nothing
abbrev pub SentNothing : Places → Type 0
SentNothing q = (q.opened ≡ []) × (q.owns ≡ []) × (q.now ≡ [])

-- what it can tell at each stage
abbrev pub PutTells : Awaited → List Call → ℤ → Places → Supply → PutTask → ℕ → PutStage → Type 0
PutTells awaited calls wire q supply t done puts.Undrawn = SentNothing q × (done ≡ 0)
PutTells awaited calls wire q supply t done (puts.Begins begun) = SentNothing q × (done ≡ 0) × BegunFor supply t begun
PutTells awaited calls wire q supply t done (puts.Goes going) = PutTellsOpen awaited calls wire q supply t (ids_left going.ids) done (upload_of going.upload) × (going.length ≡ total t.pieces)
PutTells awaited calls wire q supply t done (puts.Ended end) = (q.opened ≡ []) × (length q.owns ≡ done) × PutEndsBy (sent_at (all_places q) calls wire) (sent_at q.now calls wire) t end × HasWritten t done end × PutSaid calls q (λ commands. PutEndsSent supply t done (sent_at (all_places q) calls wire) (sent_at q.now calls wire) commands end) × EndLays (sent_at (all_places q) calls wire) t × AllWritten supply t calls q.owns

-- the number of what goes on: how many turns that did not pend come before it
abbrev pub put_number : ℕ → PutStage → ℕ
put_number done puts.Undrawn = 0
put_number done (puts.Begins begun) = 0
put_number done (puts.Goes going) = suc done
put_number done (puts.Ended end) = suc done

-- ---- all jobs

-- what an insert tells of what it sent at these places, where its task is sent as this one; a follow, whose stream the call at this place opened
abbrev pub InsertSays : Awaited → List Call → ℤ → Places → Supply → Task → InsertPlayer → Option ℕ → Type 0
InsertSays awaited calls wire q supply t job at = InsertSaid awaited calls wire q (space job.ns.now) (sent_documents t) job.stage

abbrev pub FollowSays : Awaited → List Call → ℤ → Places → Supply → Task → FollowPlayer → Option ℕ → Type 0
FollowSays awaited calls wire q supply t job at = Tells awaited calls wire q job.stage (kept job) at

-- a get, whose chunks the call at this place listed
abbrev pub GetSays : Awaited → List Call → ℤ → Places → Supply → Task → GetPlayer → Option ℕ → Type 0
GetSays awaited calls wire q supply t job at = GetTells awaited calls wire q (sought job.what) job.stage job.bytes.items job.done at

abbrev pub PutSays : Awaited → List Call → ℤ → Places → Supply → Task → PutPlayer → Option ℕ → Type 0
PutSays awaited calls wire q supply t job at = PutTells awaited calls wire q supply (writes job.what) job.done job.stage

abbrev pub JobTells : Awaited → List Call → ℤ → Places → Supply → Task → Player → Option ℕ → Type 0
JobTells awaited calls wire q supply t (player.Insert job) at = InsertSays awaited calls wire q supply t job at
JobTells awaited calls wire q supply t (player.Follow job) at = FollowSays awaited calls wire q supply t job at
JobTells awaited calls wire q supply t (player.Put job) at = PutSays awaited calls wire q supply t job at
JobTells awaited calls wire q supply t (player.Get job) at = GetSays awaited calls wire q supply t job at

-- the number of what goes on in a job: how many turns that did not pend come before it
abbrev pub number_of : Player → ℕ
number_of (player.Insert job) = 0
number_of (player.Follow job) = number job.stage (kept job)
number_of (player.Put job) = put_number job.done job.stage
number_of (player.Get job) = job.done

-- what a job of any kind tells behind a turn, and in it
abbrev pub TellsBehind : Awaited → List Call → List Call → ℤ → Supply → Task → Places → ℕ → Player → Option ℕ → Type 0
TellsBehind = words.TellsBehind JobTells number_of

abbrev pub TurnTells : (Supply → Task → Type 0) → Awaited → Awaited → LogTold → LogTold → ℤ → Player → Player → Moves → Type 0
TurnTells so = words.TurnTells task_of Plays JobTells number_of so

abbrev pub TellsAs : (Supply → Task → Type 0) → Player → Player → Type 0
TellsAs so = words.TellsAs task_of JobTells number_of so

-- each command of a job stands in a turn of it, and its turns sent no others
pub record AllSent (c : Course) (i : ℕ) (q : Places) (n : ℕ) : Type 0 where
  pub opened : AllSentIn c i 0 q.opened
  pub owns : (k : ℕ) (own : List ℕ) → slice_get q.owns k ≡ Some own → AllSentIn c i (suc k) own
  pub now : AllSentIn c i n q.now
  pub whole : all_places q ≡ places_of c i

-- a follow tells what it should, and each of its commands stands in a turn of it
pub record FollowTold (awaited : Awaited) (calls : List Call) (wire : ℤ) (c : Course) (i : ℕ) (s : Stage) (k : Kept) (at : Option ℕ) : Type 0 where
  pub places : Places
  pub tells : Tells awaited calls wire places s k at
  pub sent : AllSent c i places (number s k)

-- A job tells what it should, each of its commands stands in a turn of it, and its turns sent no others than it may send. It is supplied with the ids from the one
-- of this number on.
pub record JobTold (supply : Supply) (first : ℕ) (awaited : Awaited) (calls : List Call) (wire : ℤ) (c : Course) (i : ℕ) (p : Player) (at : Option ℕ) : Type 0 where
  pub places : Places
  pub tells : JobTells awaited calls wire places (supply_from supply first) (sent_from supply.ids first (task_of p)) p at
  pub sent : AllSent c i places (number_of p)
  pub sends : SendsOnly (MaySend (supply_from supply first) (sent_from supply.ids first (task_of p))) c i calls

-- each job that has a task tells what it should, where these calls opened their streams, and the notes count what was sent; the ticket of a job is that of
-- its newest command
pub record AllTold (supply : Supply) (awaited : Awaited) (calls : List Call) (wire : ℤ) (c : Course) (tasks : List Task) (players : List Player) (places : ℕ → Option ℕ) : Type 0 where
  pub count : length calls ≡ c.begun + sum_by (λ t. t.started) c.notes
  pub each : (i : ℕ) (t : Task) (p : Player) → slice_get tasks i ≡ Some t → slice_get players i ≡ Some p → JobTold supply (first_id tasks c.order i) awaited calls wire c i p (places i)
  pub newest : (i : ℕ) (p : Player) (n place : ℕ) → slice_get players i ≡ Some p → job_ticket p ≡ Some n → awaited n ≡ Some place → SentNoneBehind c i place

-- how a run knows and tells that began with one log and supplies this, and has another log; each of its jobs owns and names its own cursors alone
abbrev pub AllTell : Supply → Awaited → LogTold → LogTold → ℤ → List Task → List ℕ → List Turned → List Player → Type 0
AllTell supply awaited log log' wire tasks order notes players = (calls : List Call) → log ≡ Some calls → (calls' : List Call) × (log' ≡ Some calls') × (known : AllKnow awaited calls' players) × AllTold supply awaited calls' wire (course calls order notes) tasks players known.places × AllOwn calls' (course calls order notes) known.owners
