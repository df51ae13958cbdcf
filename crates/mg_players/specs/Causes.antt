-- What the answers of jobs are caused by, and what jobs wait for: by the turns in which they sent their commands.
use Rattle.std.specs.Prelude.{◌≡◌, ◌≢◌, ◌↔◌, ◌⊎◌, ◌<◌, ◌≤◌, ◌+◌, ◌*◌, ◌++◌, IsTrue, false, true, Bool, cond, nat_eq, ℕ, suc, ℤ, List, [], ◌∷◌, length, Option, Some, None, slice_get, IsSome, take}
use Rattle.std.specs.List.{concat, sum_by}
use Rattle.mg_bson.specs.Tree.{Tree, Fields}
use Rattle.mg_bson.specs.Raw.{fields}
use Rattle.mg_server.specs.Calls.{IsAwaited, Past}
use Rattle.mg_server.specs.History.{IsLegal, Step}
use Rattle.mg_link.specs.Causes.{one_if}
use Rattle.mg_server.specs.Files.{AreChunks}
use Rattle.mg_server.specs.Filing.{KnowsFile, part, stays}
use Rattle.mg_link.specs.Chunks.{chunked}
use Rattle.mg_link.specs.Link.{Awaited, Polls, SamePolls, LogTold}
use Rattle.mg_link.specs.Log.{Call}
use Rattle.mg_link.specs.Namespace.{Space, Target}
use Rattle.mg_server.specs.Owner.{IsOf}
use Rattle.mg_server.specs.Standing.{Stands}
use Rattle.mg_link.specs.declared.error.Error.{Error}
use Rattle.mg_link.specs.declared.error.ErrorKind.TheVariants as kind
use Rattle.mg_ops.specs.Naming.{IsNamed}
use Rattle.mg_ops.specs.declared.change_stream.WatchArgs.{WatchArgs}
use Rattle.mg_change.specs.Causes.{CallWaits, Called}
use Rattle.mg_change.specs.ClientOpenings.{first_aggregate}
use Rattle.mg_change.specs.ClientStreams.{ClientStream, IsAlive, resuming_in, stream_token}
use Rattle.mg_change.specs.ClosingCauses.{LastDone, LastFails, LastWaits, last_kill}
use Rattle.mg_change.specs.OpeningCauses.{StreamOpened, OpeningFails}
use Rattle.mg_gridfs.specs.Downloads.{ClientDownload, IsSoundDownload}
use Rattle.mg_gridfs.specs.ReadCauses as files
use Rattle.mg_gridfs.specs.ReadCauses.{HeardRecord, ReadFails, cursor_in}
use Rattle.mg_cursor.specs.Client.{ClientCursor}
use Rattle.mg_records.specs.FileRecords.{FileRecord}
use Rattle.mg_change.specs.Sent.{Falling}
use Rattle.mg_ops.specs.Appended.{Appended}
use Rattle.mg_players.specs.Asking.{AllAskOn}
use Rattle.mg_turns.specs.Counts.{PolledBy}
use Rattle.mg_players.specs.Drawing.{as_sent, supply_of}
use Rattle.mg_players.specs.Follows.{FollowedFrom, IsArgsFor, IsUnfinished, poll_of}
use Rattle.mg_players.specs.Buckets.{plain_bucket}
use Rattle.mg_change.specs.Calling.{CallSends, IsRequestAt, OpensAt}
pub use Rattle.mg_change.specs.Calling.{places_from, sent_at, sent_since}
use Rattle.mg_players.specs.Gets.{AsksPlainly, GetTask, IsFindAt, chunks_find, get_of, more_chunks, no_room, record_find, room_of}
use Rattle.mg_gridfs.specs.Buckets.{IsSize}
use Rattle.mg_gridfs.specs.Causes.{IsUploading}
use Rattle.mg_gridfs.specs.Storing.{HasCleared, HasStored, KnowsUpload}
use Rattle.mg_gridfs.specs.Uploads.{ClientUpload, fresh_upload, upload_ticket}
use Rattle.mg_players.specs.Kinds.{OfFollow, OfGet, OfInsert, OfPut}
use Rattle.mg_players.specs.PutFailures.{PutFails}
use Rattle.mg_players.specs.PutSends.{PutEndsSent, SendsFull}
use Rattle.mg_players.specs.Puts.{CannotOpen, IsPutDoing, PutTask, Supply, joined, put_aim, put_of, taken_in, total}
use Rattle.mg_ops.specs.InsertCauses.{InsertFails, InsertWaits}
use Rattle.mg_ops.specs.InsertSends.{InsertPieces}
use Rattle.mg_script.specs.Plan.{Begin, Task, insert, follow, put, get}
use Rattle.mg_players.specs.Progress.{pends_last, turns_done}
use Rattle.mg_players.specs.Reading.{GivesBy, GivesNone, GoesOn, HeardEmpty, HeardHeld, IsBegun, ListsOther, ReadFailsSo, ReadStops}
use Rattle.mg_script.specs.declared.outcome.Answer.{Answer}
use Rattle.mg_script.specs.declared.outcome.Answer.TheVariants as answers
use Rattle.mg_script.specs.declared.outcome.Ended.{Ended}
use Rattle.mg_script.specs.declared.outcome.Ended.TheVariants as ended
use Rattle.mg_script.specs.declared.outcome.Outcome.{Outcome}
use Rattle.mg_turns.specs.declared.turned.Turned.{Turned}

-- ---- which call sent what

-- the turns of a run: how many calls the log had as it began, whose turns these are, and their notes
pub record Course : Type 0 where
  pub begun : ℕ
  pub order : List ℕ
  pub notes : List Turned

abbrev pub course : List Call → List ℕ → List Turned → Course
course calls order notes = record { begun = length calls; order = order; notes = notes }

-- At this place of the log stands a command that job i sent in a turn before which so many turns of it did not pend. So many calls of it had ended.
pub record SentIn (c : Course) (i k place : ℕ) : Type 0 where
  pub before : List ℕ
  pub after : List ℕ
  pub order_is : c.order ≡ before ++ i ∷ after
  pub noted : List Turned
  pub note : Turned
  pub later : List Turned
  pub notes_are : c.notes ≡ noted ++ note ∷ later
  pub abreast : length noted ≡ length before
  pub done : turns_done i before noted ≡ k
  pub from : c.begun + sum_by (λ t. t.started) noted ≤ place
  pub upto : place < c.begun + sum_by (λ t. t.started) noted + note.started

abbrev pub AllSentIn : Course → ℕ → ℕ → List ℕ → Type 0
AllSentIn c i k places = (place : ℕ) → IsOf places place → SentIn c i k place

-- each of these places is that of a command of job i
abbrev pub AreSentIn : Course → ℕ → List ℕ → Type 0
AreSentIn c i places = (place : ℕ) → IsOf places place → (k : ℕ) × SentIn c i k place

-- the places of all commands that job i sent in these turns, in their order, where the first of the turns sent from this place on
abbrev pub places_in : ℕ → List ℕ → List Turned → ℕ → List ℕ
places_in i [] notes at = []
places_in i (n ∷ order) [] at = []
places_in i (n ∷ order) (note ∷ notes) at = cond (nat_eq i n) (places_from at note.started) [] ++ places_in i order notes (at + note.started)

abbrev pub places_of : Course → ℕ → List ℕ
places_of c i = places_in i c.order c.notes c.begun

abbrev pub command_at : Option Call → List Fields
command_at None = []
command_at (Some call) = fields call.command ∷ []

-- the commands at these places of the log
abbrev pub commands_at : List Call → List ℕ → List Fields
commands_at calls [] = []
commands_at calls (place ∷ places) = command_at (slice_get calls place) ++ commands_at calls places

-- the places are those of calls of a log of this length
abbrev pub AreInLog : ℕ → List ℕ → Type 0
AreInLog n [] = Unit {0}
AreInLog n (place ∷ places) = (place < n) × AreInLog n places

-- the commands at these places of the log are such ones, in the order in which they fall
pub record FallsAt (may : ℕ → Fields → Type 0) (calls : List Call) (n : ℕ) (places : List ℕ) (m : ℕ) : Type 0 where
  pub within : AreInLog (length calls) places
  pub falling : Falling may n (commands_at calls places) m

-- ---- an insert

-- It ended well and tells the number of the documents that it sends, which its own commands appended, where its names may name a collection; or it failed.
abbrev pub EndsBy : Past → Space → List Fields → Ended ℕ → Type 0
EndsBy past at sent ended.Unfinished = Unit {0}
EndsBy past at sent (ended.Gave n) = (n ≡ length sent) × (IsNamed at → Appended past at sent n)
EndsBy past at sent (ended.Failed e) = InsertFails past at sent e

-- These commands insert the documents that it sends, from the first one on, piece behind piece and each piece once: all documents where it ended well.
abbrev pub EndsSent : Space → List Fields → List Fields → Ended ℕ → Type 0
EndsSent at sent commands ended.Unfinished = (upto : ℕ) × InsertPieces at sent 0 commands upto
EndsSent at sent commands (ended.Gave n) = InsertPieces at sent 0 commands (length sent)
EndsSent at sent commands (ended.Failed e) = (upto : ℕ) × InsertPieces at sent 0 commands upto

-- it sent its commands in its turns up to the first that did not pend
pub record InsertEnds (awaited : Awaited) (c : Course) (i : ℕ) (calls : List Call) (wire : ℤ) (at : Space) (documents : List Fields) (end : Ended ℕ) : Type 0 where
  pub places : List ℕ
  pub sent : AllSentIn c i 0 places
  pub by : EndsBy (sent_at places calls wire) at documents end
  -- its turns sent these, and nothing else
  pub whole : places ≡ places_of c i
  pub pieces : EndsSent at documents (commands_at calls places) end
  -- where its newest turn pended and it has not ended
  pub waits : pends_last i c.order c.notes ≡ true → IsUnfinished end → InsertWaits awaited (sent_at places calls wire) at documents

-- ---- a follow

-- The calls of a stream, one behind the other: at which places each sent its commands, what it answered with its cause, and how the stream stood
-- before the first of them and behind the last. Its commands are just those that `CallSends` names.
abbrev pub Answered : List Call → ℤ → ClientStream → List (List ℕ) → List Answer → ClientStream → Type 0
Answered calls wire at [] [] last = last ≡ at
Answered calls wire at (places ∷ owns) (answer ∷ said) last = (after : ClientStream) × Called (sent_at places calls wire) None at after (poll_of answer) × Answered calls wire after owns said last × CallSends calls wire at places
Answered calls wire at [] (answer ∷ said) last = ⊥
Answered calls wire at (places ∷ owns) [] last = ⊥

-- the opening, and then each call, sent its commands in its turns
pub record HasAnswered (c : Course) (i : ℕ) (calls : List Call) (wire : ℤ) (args : WatchArgs) (said : List Answer) (last : ClientStream) : Type 0 where
  pub first : ClientStream
  pub places : List ℕ
  pub sent : AllSentIn c i 0 places
  pub opened : StreamOpened (sent_at places calls wire) args first
  pub opens : OpensAt calls wire args places
  pub owns : List (List ℕ)
  pub sent_each : (k : ℕ) (own : List ℕ) → slice_get owns k ≡ Some own → AllSentIn c i (suc k) own
  pub answered : Answered calls wire first owns said last

-- the command kills what is left of a stream that stands so
abbrev pub KillsLast : ClientStream → ℕ → Fields → Type 0
KillsLast last place command = command ≡ last_kill last

-- the closing sent its command behind the last call, or in the same turn
abbrev pub ClosedBy : {A : Type 0} → Past → ClientStream → Ended A → Type 0
ClosedBy past last ended.Unfinished = ⊥
ClosedBy past last (ended.Gave x) = LastDone past last
ClosedBy past last (ended.Failed e) = LastFails past last e

pub record Closed {A : Type 0} (c : Course) (i k : ℕ) (calls : List Call) (wire : ℤ) (last : ClientStream) (places : List ℕ) (closed : Ended A) : Type 0 where
  pub sent : AllSentIn c i k places
  pub by : ClosedBy (sent_at places calls wire) last closed
  -- at most once
  pub kills : FallsAt (KillsLast last) calls 1 places 0

-- Where an open stream stands of whose calls so many were answered, and which sent at these places since.
pub data OpenStands (awaited : Awaited) (c : Course) (i count answered : ℕ) (calls : List Call) (wire : ℤ) (last : ClientStream) (now : List ℕ) : Type 0 where
  -- its newest turn did not pend, and a call is left: nothing was sent for it
  at_rest : pends_last i c.order c.notes ≡ false → answered < count → now ≡ [] → OpenStands awaited c i count answered calls wire last now
  -- its next call waits for a reply
  in_call : pends_last i c.order c.notes ≡ true → answered < count → AllSentIn c i (suc answered) now → CallWaits awaited (sent_at now calls wire) true last → CallSends calls wire last now → OpenStands awaited c i count answered calls wire last now
  -- all its calls are answered, and its closing waits for a reply
  in_closing : pends_last i c.order c.notes ≡ true → answered ≡ count → AllSentIn c i answered now → LastWaits awaited (sent_at now calls wire) last → FallsAt (KillsLast last) calls 1 now 0 → OpenStands awaited c i count answered calls wire last now

-- how it stands with its closing
abbrev pub CloseCaused : {A : Type 0} → Awaited → Course → (i count answered : ℕ) → List Call → ℤ → ClientStream → List ℕ → Ended A → Type 0
CloseCaused {A} awaited c i count answered calls wire last now ended.Unfinished = OpenStands awaited c i count answered calls wire last now
CloseCaused {A} awaited c i count answered calls wire last now (ended.Gave x) = Closed {A = A} c i answered calls wire last now (ended.Gave x)
CloseCaused {A} awaited c i count answered calls wire last now (ended.Failed e) = Closed {A = A} c i answered calls wire last now (ended.Failed e)

-- no answer says that an event has no `_id`
abbrev pub NoneMissing : List Answer → Type 0
NoneMissing said = (k : ℕ) (e : Error) → slice_get said k ≡ Some (answers.Failed e) → e.kind ≡ kind.MissingResumeToken → ⊥

-- a follow whose stream was opened: each answer has its cause, and the token, and whether it is alive, are those behind the last of them
pub record OpenCaused {A : Type 0} (awaited : Awaited) (c : Course) (i count : ℕ) (calls : List Call) (wire : ℤ) (on : Target) (start : Begin) (filter : Option Fields) (batch : Option ℕ) (said : List Answer) (token : Option Tree) (alive : Bool) (closed : Ended A) : Type 0 where
  pub args : WatchArgs
  pub args_are : IsArgsFor on start filter batch args
  pub last : ClientStream
  pub answers : HasAnswered c i calls wire args said last
  pub token_is : token ≡ stream_token last
  pub alive_is : IsTrue alive ↔ IsAlive last
  -- its turns sent just the commands of its opening, then those of each call that was answered, and then those of what goes on, or of its closing
  pub now : List ℕ
  pub close : CloseCaused awaited c i count (length said) calls wire last now closed
  pub whole : answers.places ++ (concat answers.owns ++ now) ≡ places_of c i
  -- its answers are consecutive from the opening place of its own aggregate on
  pub followed : FollowedFrom calls on start filter said token answers.opened.heard.place
  -- an event of a legal history has an `_id`
  pub identified : (history : List Step) → IsLegal history → Stands calls history → NoneMissing said

-- one that is being opened: its aggregate waits for its reply
pub record OpenWaits (awaited : Awaited) (c : Course) (i : ℕ) (calls : List Call) (wire : ℤ) (on : Target) (start : Begin) (filter : Option Fields) (batch : Option ℕ) : Type 0 where
  pub args : WatchArgs
  pub args_are : IsArgsFor on start filter batch args
  pub places : List ℕ
  pub sent : AllSentIn c i 0 places
  -- its turns sent these, and nothing else
  pub whole : places ≡ places_of c i
  pub opens : OpensAt calls wire args places
  pub waits : IsAwaited awaited (sent_at places calls wire) (resuming_in (first_aggregate args) wire None)

-- one whose stream was not opened: its opening has failed
pub record OpenFailed (c : Course) (i : ℕ) (calls : List Call) (wire : ℤ) (on : Target) (start : Begin) (filter : Option Fields) (batch : Option ℕ) (e : Error) : Type 0 where
  pub args : WatchArgs
  pub args_are : IsArgsFor on start filter batch args
  pub places : List ℕ
  pub sent : AllSentIn c i 0 places
  -- its turns sent these, and nothing else
  pub whole : places ≡ places_of c i
  pub fails : OpeningFails (sent_at places calls wire) None args e
  pub opens : OpensAt calls wire args places

-- it is being opened, and waits where its newest turn pended; or it was opened; or it was not, and sent nothing where memory ran out before its opening
abbrev pub FollowCaused : {A B : Type 0} → Awaited → Course → (i count : ℕ) → List Call → ℤ → Target → Begin → Option Fields → Option ℕ → Ended A → List Answer → Option Tree → Bool → Ended B → Type 0
FollowCaused awaited c i count calls wire on start filter batch ended.Unfinished said token alive closed = pends_last i c.order c.notes ≡ true → OpenWaits awaited c i calls wire on start filter batch
FollowCaused awaited c i count calls wire on start filter batch (ended.Gave x) said token alive closed = OpenCaused awaited c i count calls wire on start filter batch said token alive closed
FollowCaused awaited c i count calls wire on start filter batch (ended.Failed e) said token alive closed = ((e.kind ≡ kind.OutOfMemory) × (places_of c i ≡ [])) ⊎ OpenFailed c i calls wire on start filter batch e

-- ---- a get

abbrev pub ListsAt : List Call → GetTask → Option FileRecord → List ℕ → Type 0
ListsAt calls g None listing = listing ≡ []
ListsAt calls g (Some f) listing = (listing ≡ []) ⊎ ((f.length ≢ 0) × IsRequestAt calls (chunks_find g f.id) true listing)

-- These are the places of the find of the record, and behind them those of the list of the chunks of a file with bytes whose record was found. Each was sent once
-- more only where what was sent before was lost, or refused so that a read is sent again.
pub record FindsAt (calls : List Call) (g : GetTask) (found : Option FileRecord) (places : List ℕ) : Type 0 where
  pub finding : List ℕ
  pub listing : List ℕ
  pub whole : places ≡ finding ++ listing
  pub record_at : IsRequestAt calls (record_find g) true finding
  pub list_at : ListsAt calls g found listing

-- An opening sent at these places just the find of the record, at most twice, and then, where a record of a file with bytes was found, which it heard, that of the
-- chunks of this file, at most twice.
pub record OpeningAsks (calls : List Call) (wire : ℤ) (g : GetTask) (found : Option FileRecord) (places : List ℕ) : Type 0 where
  pub finds : FallsAt (IsFindAt g found) calls 5 places 1
  pub heard : (f : FileRecord) → found ≡ Some f → HeardRecord (sent_at places calls wire) (plain_bucket g.at) g.id (Some f)
  pub sends : FindsAt calls g found places

-- its opening heard this record, and listed the chunks of no other file, and none where it has no bytes
pub record GetOpened (c : Course) (i : ℕ) (calls : List Call) (wire : ℤ) (g : GetTask) (f : FileRecord) : Type 0 where
  pub places : List ℕ
  pub sent : AllSentIn c i 0 places
  pub heard : HeardRecord (sent_at places calls wire) (plain_bucket g.at) g.id (Some f)
  pub finds : FallsAt (IsFindAt g (Some f)) calls 5 places 1
  pub sends : FindsAt calls g (Some f) places

-- so many calls behind an opening gave so many bytes: each gave one or more, and no more than a read has room for
abbrev pub GaveBy : (count bytes read : ℕ) → Type 0
GaveBy count bytes read = (count ≤ bytes) × (bytes ≤ count * room_of read)

-- Its turns sent just these commands: its opening at the first places; so many calls behind it, which have ended; and what goes on, or ended it, at the last ones.
-- Behind its opening each of them asks for more chunks by the cursor that the reply to the one before told. Those calls gave all of its bytes.
pub record GetSent (c : Course) (i : ℕ) (calls : List Call) (g : GetTask) (bytes : ℕ) (opened : List ℕ) (k : ℕ) (now : List ℕ) : Type 0 where
  pub owns : List (List ℕ)
  pub counted : length owns ≡ k
  pub sent_each : (n : ℕ) (own : List ℕ) → slice_get owns n ≡ Some own → AllSentIn c i (suc n) own
  pub sent_now : AllSentIn c i (suc k) now
  pub whole : opened ++ (concat owns ++ now) ≡ places_of c i
  pub more : AllAskOn calls (opened ++ (concat owns ++ now)) (concat owns ++ now)
  pub gave : GaveBy k bytes g.read

-- The calls behind an opening that sent at these places gave these bytes, one behind another, each one or more, into so much room: they took the download from one
-- state to another.
abbrev pub GaveAll : List Call → ℤ → ℕ → ClientDownload → List (List ℕ) → List ℕ → ClientDownload → Type 0
GaveAll calls wire room d [] bytes last = (bytes ≡ []) × (last ≡ d)
GaveAll calls wire room d (own ∷ owns) bytes last = (given rest : List ℕ) × (after : ClientDownload) × (bytes ≡ given ++ rest) × (0 < length given) × GivesBy (sent_at own calls wire) room d after given × GaveAll calls wire room after owns rest last

-- All bytes of a get of the file with this record came so from what its opening heard, at the first places, to where its download stands.
pub record HasRead (calls : List Call) (wire : ℤ) (g : GetTask) (f : FileRecord) (opened : List ℕ) (owns : List (List ℕ)) (bytes : List ℕ) (last : ClientDownload) : Type 0 where
  pub first : ClientDownload
  pub begun : IsBegun (sent_at opened calls wire) g first
  pub file : first.file ≡ f
  pub gave : GaveAll calls wire (room_of g.read) first owns bytes last

-- Why a read of the file with this record failed, whose call sent at these places, by all that the get sent: its opening listed the chunks at this place, and what
-- this cursor held as the call began was heard.
pub record GetStopped (c : Course) (i : ℕ) (calls : List Call) (wire : ℤ) (g : GetTask) (f : FileRecord) (cursor : ClientCursor) (call : List ℕ) (last : ClientDownload) (e : Error) : Type 0 where
  pub places : List ℕ
  pub sent : AreSentIn c i places
  pub listed : ℕ
  pub by_opening : SentIn c i 0 listed
  pub held : HeardHeld (sent_at places calls wire) g f cursor
  pub why : ReadStops (sent_at places calls wire) (HeardEmpty (sent_at places calls wire) (sent_at call calls wire) g f last) (ListsOther calls g.at f listed e) e

-- Why a get fails: memory ran out; a read is to have no room, and then it may send nothing; its opening fails, for which all was sent; or a read of the file whose
-- record the opening heard, which asks for more chunks by its own cursor, without options, and behind which nothing was sent: that of the first turn that did not
-- pend behind so many calls. It counts the chunks of all batches that the get took.
pub data GetFails (c : Course) (i : ℕ) (calls : List Call) (wire : ℤ) (g : GetTask) (bytes : List ℕ) (e : Error) : Type 0 where
  out_of_memory : e.kind ≡ kind.OutOfMemory → GetFails c i calls wire g bytes e
  has_no_room : g.read ≡ 0 → e ≡ no_room → GetFails c i calls wire g bytes e
  not_opened : 0 < g.read → (places : List ℕ) → AllSentIn c i 0 places → files.OpeningFails (sent_at places calls wire) (plain_bucket g.at) g.id e → places ≡ places_of c i → GetFails c i calls wire g bytes e
  not_read : 0 < g.read → (d : ClientDownload) (opened : GetOpened c i calls wire g d.file) (k : ℕ) → suc (suc k) ≤ turns_done i c.order c.notes → (places : List ℕ) → AllSentIn c i (suc k) places → (cursor : ClientCursor) → ReadFails (sent_at places calls wire) d cursor e
      → cursor_in d.doing ≡ Some cursor → IsSoundDownload d → AsksPlainly d → (s : GetSent c i calls g (length bytes) opened.places k places)
      → (last : ClientDownload) → GetStopped c i calls wire g d.file cursor places last e → HasRead calls wire g d.file opened.places s.owns bytes last → ReadFailsSo (sent_at places calls wire) (room_of g.read) last e → GetFails c i calls wire g bytes e

-- What a get waits for: the record, or the list of the chunks of the record that was heard, for which all was sent; or more of them.
pub data GetWaits (awaited : Awaited) (c : Course) (i : ℕ) (calls : List Call) (wire : ℤ) (g : GetTask) (bytes : ℕ) : Type 0 where
  for_record : (places : List ℕ) → AllSentIn c i 0 places → IsAwaited awaited (sent_at places calls wire) (record_find g) → places ≡ places_of c i → GetWaits awaited c i calls wire g bytes
  for_chunks : (places : List ℕ) → AllSentIn c i 0 places → (f : FileRecord) → HeardRecord (sent_at places calls wire) (plain_bucket g.at) g.id (Some f) → IsAwaited awaited (sent_at places calls wire) (chunks_find g f.id) → places ≡ places_of c i → GetWaits awaited c i calls wire g bytes
  for_more : (k : ℕ) (places : List ℕ) → AllSentIn c i (suc k) places → (cursor : ℤ) (space : Space) → IsAwaited awaited (sent_at places calls wire) (more_chunks cursor space)
      → (f : FileRecord) (opened : GetOpened c i calls wire g f) → GetSent c i calls g bytes opened.places k places → GetWaits awaited c i calls wire g bytes

-- What a get sent of which so many calls ended well, the opening first, and what it sent behind them is so: commands of its opening, if any, and it gave no
-- byte; or its opening heard a record, and the calls behind it gave its bytes.
pub data GetStands (c : Course) (i : ℕ) (calls : List Call) (wire : ℤ) (g : GetTask) (bytes : List ℕ) (well : ℕ) (So : List ℕ → Type 0) (Goes : ClientDownload → List ℕ → Type 0) : Type 0 where
  unopened : well ≡ 0 → bytes ≡ [] → AllSentIn c i 0 (places_of c i) → So (places_of c i) → (found : Option FileRecord) → OpeningAsks calls wire g found (places_of c i) → GetStands c i calls wire g bytes well So Goes
  has_opened : (f : FileRecord) (opened : GetOpened c i calls wire g f) (k : ℕ) → well ≡ suc k → (places : List ℕ) → So places → (s : GetSent c i calls g (length bytes) opened.places k places)
      → (last : ClientDownload) → HasRead calls wire g f opened.places s.owns bytes last → Goes last places → GetStands c i calls wire g bytes well So Goes

-- where the newest turn of a job did not pend, nothing was sent for what goes on
abbrev pub SentIfPends : Course → ℕ → List ℕ → Type 0
SentIfPends c i now = pends_last i c.order c.notes ≡ false → now ≡ []

-- the call in hand of a get began with this download, sent at these places, and goes on
abbrev pub ReadGoesOn : Awaited → Course → ℕ → List Call → ℤ → GetTask → ClientDownload → List ℕ → Type 0
ReadGoesOn awaited c i calls wire g last now = (d : ClientDownload) × GoesOn awaited (sent_at (places_of c i) calls wire) (sent_at now calls wire) g (room_of g.read) last d d.doing

-- How a get failed: so many calls ended well, and one more turn did not pend, in which it failed.
pub record GetFailed (c : Course) (i : ℕ) (calls : List Call) (wire : ℤ) (g : GetTask) (bytes : List ℕ) : Type 0 where
  pub well : ℕ
  pub turned : suc well ≤ turns_done i c.order c.notes
  pub stands : GetStands c i calls wire g bytes well (λ (now : List ℕ). Unit {0}) (λ (last : ClientDownload) (now : List ℕ). Unit {0})

-- One that is unfinished had a call that ended well in each turn that did not pend; where its newest turn pended, it waits, and otherwise nothing was sent behind
-- those calls. Where it ended well, its opening heard a record, its calls gave all bytes, and one more gave none.
abbrev pub GetCaused : {A : Type 0} → Awaited → Course → ℕ → List Call → ℤ → GetTask → List ℕ → Ended A → Type 0
GetCaused awaited c i calls wire g bytes ended.Unfinished = (pends_last i c.order c.notes ≡ true → GetWaits awaited c i calls wire g (length bytes)) × GetStands c i calls wire g bytes (turns_done i c.order c.notes) (SentIfPends c i) (ReadGoesOn awaited c i calls wire g)
GetCaused awaited c i calls wire g bytes (ended.Gave x) = (0 < g.read) × (f : FileRecord) × (opened : GetOpened c i calls wire g f) × (k : ℕ) × (suc (suc k) ≤ turns_done i c.order c.notes) × (places : List ℕ) × (s : GetSent c i calls g (length bytes) opened.places k places)
    × (last : ClientDownload) × HasRead calls wire g f opened.places s.owns bytes last × GivesNone (sent_at places calls wire) (room_of g.read) last
GetCaused awaited c i calls wire g bytes (ended.Failed e) = GetFails c i calls wire g bytes e × GetFailed c i calls wire g bytes

-- ---- a put

-- It ended well, and gives how many bytes its pieces have, of which the file is stored; or it failed: its upload was not opened, and it sent nothing, or its last
-- call failed, and none of its chunks is left, unless the error may leave some. All that it sent stands at the first places, and what that call sent at the second.
abbrev pub PutEndsBy : Past → Past → PutTask → Ended ℕ → Type 0
PutEndsBy all now t ended.Unfinished = Unit {0}
PutEndsBy all now t (ended.Gave n) = (n ≡ length (joined t.pieces)) × IsSize t.chunk × HasStored all t.at (fresh_upload (put_aim t)) (joined t.pieces)
PutEndsBy all now t (ended.Failed e) = (CannotOpen t e × (all.places ≡ [])) ⊎ (IsSize t.chunk × PutFails now t e × HasCleared all t.at (fresh_upload (put_aim t)) e)

-- Each of so many calls wrote a piece: where it ended well, all of them; where it failed, no more than there are.
abbrev pub HasWritten : PutTask → ℕ → Ended ℕ → Type 0
HasWritten t count ended.Unfinished = Unit {0}
HasWritten t count (ended.Gave n) = count ≡ length t.pieces
HasWritten t count (ended.Failed e) = count ≤ length t.pieces

-- By k turns that did not pend a put came so far that wrote so many pieces: its upload was opened in the first of them, and each of the next ones wrote a piece.
-- One that is unfinished has had no other; that in which it closed its upload, or failed, comes behind them, unless it failed in its first one.
abbrev pub HasTurned : PutTask → (written k : ℕ) → Ended ℕ → Type 0
HasTurned t written k ended.Unfinished = ((k ≡ 0) × (written ≡ 0)) ⊎ ((suc written ≡ k) × (written ≤ length t.pieces))
HasTurned t written k (ended.Gave n) = suc (suc written) ≤ k
HasTurned t written k (ended.Failed e) = ((written ≡ 0) × (1 ≤ k)) ⊎ (suc (suc written) ≤ k)

-- Behind each of these calls, which wrote a piece each, the put had inserted just the full chunks of the pieces that were written by then.
abbrev pub AllWritten : Supply → PutTask → List Call → List (List ℕ) → Type 0
AllWritten supply t calls owns = (n : ℕ) → n < length owns → SendsFull supply t (total (take (suc n) t.pieces)) (commands_at calls (concat (take (suc n) owns)))

-- Of these bytes just full chunks stand in the store, behind which less than one is left, and no record: in each legal history in which the log stands and nobody
-- else touches the file.
pub record StoresFull (past : Past) (t : PutTask) (bytes : List ℕ) : Type 0 where
  pub front : List ℕ
  pub left : List ℕ
  pub parts : bytes ≡ front ++ left
  pub count : ℕ
  pub even : length front ≡ count * t.chunk
  pub less : length left < t.chunk
  pub chunks : List Fields
  pub chunks_are : AreChunks 0 (chunked t.chunk front) chunks
  pub knows : KnowsFile past t.at t.id (stays (part chunks))

-- its upload is open and no call of it goes on: all that it sent was sent by the calls that wrote so many pieces, whose full chunks are stored
pub record PutRests (all : Past) (t : PutTask) (written : ℕ) (places : List ℕ) : Type 0 where
  pub none : places ≡ []
  pub stored : StoresFull all t (joined (take written t.pieces))

-- A call of its upload waits for a reply: the next write behind so many pieces, or the close behind all of them. It knows what is stored by then.
pub record PutWaits (awaited : Awaited) (all now : Past) (t : PutTask) (written : ℕ) : Type 0 where
  pub upload : ClientUpload
  pub aim_is : upload.aim ≡ put_aim t
  pub holds : IsSome (upload_ticket upload)
  pub underway : IsUploading awaited now upload
  pub does : IsPutDoing upload.doing written (length t.pieces)
  pub knows : KnowsUpload awaited all t.at upload (taken_in upload.doing t.pieces written)

-- the call that wrote each piece, and then its last call, sent its commands in its turns; its opening sent none
pub record PutEnds (awaited : Awaited) (c : Course) (i : ℕ) (calls : List Call) (wire : ℤ) (supply : Supply) (t : PutTask) (end : Ended ℕ) : Type 0 where
  pub owns : List (List ℕ)
  pub sent_each : (k : ℕ) (own : List ℕ) → slice_get owns k ≡ Some own → AllSentIn c i (suc k) own
  pub places : List ℕ
  pub sent : AllSentIn c i (suc (length owns)) places
  -- its turns sent these, and nothing else
  pub whole : concat owns ++ places ≡ places_of c i
  pub by : PutEndsBy (sent_at (concat owns ++ places) calls wire) (sent_at places calls wire) t end
  -- where its newest turn pended and it has not ended
  pub waits : pends_last i c.order c.notes ≡ true → IsUnfinished end → PutWaits awaited (sent_at (concat owns ++ places) calls wire) (sent_at places calls wire) t (length owns)
  -- where its newest turn did not, and it has had one
  pub rests : pends_last i c.order c.notes ≡ false → IsUnfinished end → 0 < turns_done i c.order c.notes → PutRests (sent_at (concat owns ++ places) calls wire) t (length owns) places
  pub written : HasWritten t (length owns) end
  pub turned : HasTurned t (length owns) (turns_done i c.order c.notes) end
  pub full : AllWritten supply t calls owns
  -- these are its commands, in their order, with what it is supplied with
  pub sends : PutEndsSent supply t (length owns) (sent_at (concat owns ++ places) calls wire) (sent_at places calls wire) (commands_at calls (places_of c i)) end

-- ---- all jobs

abbrev pub OutcomeCaused : Awaited → Course → ℕ → List Call → ℤ → Supply → Task → Outcome → Type 0
OutcomeCaused awaited c i calls wire supply (follow on count start filter batch) = OfFollow (λ opened said token alive closed. FollowCaused awaited c i count calls wire on start filter batch opened said.items token alive closed)
OutcomeCaused awaited c i calls wire supply (insert ns docs) = OfInsert (λ end. InsertEnds awaited c i calls wire ns docs end)
OutcomeCaused awaited c i calls wire supply (put db bucket name id chunk pieces) = OfPut (λ end. PutEnds awaited c i calls wire supply (put_of db bucket name id chunk pieces) end)
OutcomeCaused awaited c i calls wire supply (get db bucket id read) = OfGet (λ bytes end. GetCaused awaited c i calls wire (get_of db bucket id read) bytes.items end)

-- Over a link that tells its log and awaits these replies, each job's outcome has its causes, and what it waits for, among the commands of its own turns;
-- jobs draw these ids, and new records get this moment.
abbrev pub AllCaused : Supply → Awaited → LogTold → LogTold → ℤ → List Task → List ℕ → List Turned → List Outcome → Type 0
AllCaused supply awaited log log' wire tasks order notes outcomes = (calls : List Call) → log ≡ Some calls → (calls' : List Call) × (log' ≡ Some calls')
    × ((i : ℕ) (t : Task) (r : Outcome) → slice_get tasks i ≡ Some t → slice_get outcomes i ≡ Some r → OutcomeCaused awaited (course calls order notes) i calls' wire (supply_of supply tasks order i) (as_sent supply.ids tasks order i t) r)

-- The call of this ticket was sent in a turn of a job whose newest turn pended by its note, and the job waits for no other, but where a ticket was out before
-- for the same call.
pub record WaitsAlone (before awaited : Awaited) (c : Course) (ticket place : ℕ) : Type 0 where
  pub job : ℕ
  pub done : ℕ
  pub sent : SentIn c job done place
  pub pended : pends_last job c.order c.notes ≡ true
  pub alone : (other place' done' : ℕ) → awaited other ≡ Some place' → SentIn c job done' place' → (other ≡ ticket) ⊎ (before other ≡ Some place')

-- Over a link that tells its log, each call that waits for its reply is such a one, unless its ticket was out for it before.
abbrev pub AllWaitAlone : (before awaited : Awaited) → LogTold → List ℕ → List Turned → Type 0
AllWaitAlone before awaited log order notes = (calls : List Call) → log ≡ Some calls → (ticket place : ℕ) → awaited ticket ≡ Some place
    → (before ticket ≡ Some place) ⊎ WaitsAlone before awaited (course calls order notes) ticket place

-- ---- whose calls pended in which turns

-- job i sent no command in these turns that stands behind this place of the log
abbrev pub SentNoneBehind : Course → ℕ → ℕ → Type 0
SentNoneBehind c i place = (k later : ℕ) → SentIn c i k later → later ≤ place

-- at this place of the log stands the newest of all commands that job i sent in these turns
pub record IsNewestOf (c : Course) (i place : ℕ) : Type 0 where
  pub done : ℕ
  pub sent : SentIn c i done place
  pub newest : SentNoneBehind c i place

-- Behind these turns of a run, which began with these calls, job i took a turn with this note: at this place stands the last command that it sent.
pub data IsPolledIn (calls : List Call) (order : List ℕ) (notes : List Turned) (i : ℕ) (note : Turned) (place : ℕ) : Type 0 where
  -- it sent some in this turn
  in_turn : 0 < note.started → place + 1 ≡ length calls + sum_by (λ t. t.started) notes + note.started → IsPolledIn calls order notes i note place
  -- it sent none in this turn, and its newest one before pended by its note
  before_it : note.started ≡ 0 → pends_last i order notes ≡ true → IsNewestOf (course calls order notes) i place → IsPolledIn calls order notes i note place

-- the same of a link that tells its log: one poll of that call pended in the turn where the note says so, and otherwise none did
abbrev pub PollsOwn : LogTold → List ℕ → List Turned → ℕ → Turned → (before now : Polls) → Type 0
PollsOwn log order notes i note before now = (calls : List Call) → log ≡ Some calls → PolledBy (one_if note.pended) (IsPolledIn calls order notes i note) before now

-- So it was in each of these turns, behind those that were gone through.
abbrev pub PollOwnFrom : List Call → List ℕ → List Turned → List ℕ → List Turned → (before now : Polls) → Type 0
PollOwnFrom calls gone noted [] notes before now = SamePolls before now
PollOwnFrom calls gone noted (i ∷ order) [] before now = SamePolls before now
PollOwnFrom calls gone noted (i ∷ order) (note ∷ notes) before now =
    (between : Polls) × PolledBy (one_if note.pended) (IsPolledIn calls gone noted i note) before between × PollOwnFrom calls (gone ++ i ∷ []) (noted ++ note ∷ []) order notes between now

-- Over a link that tells its log: in each turn of a run one poll pended just where its note says so, and that was of the newest call of its own job.
abbrev pub AllPollOwn : LogTold → List ℕ → List Turned → (before now : Polls) → Type 0
AllPollOwn log order notes before now = (calls : List Call) → log ≡ Some calls → PollOwnFrom calls [] [] order notes before now
