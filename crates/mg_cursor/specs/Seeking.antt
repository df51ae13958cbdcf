-- What a call that seeks the next document of a cursor does, however many empty replies it gets.
use Rattle.std.specs.Prelude.{◌≡◌, ◌⊎◌, ◌<◌, ◌≤◌, ◌+◌, ℕ, zero, suc, ℤ, Bool, true, false, List, [], ◌∷◌, length, Option, Some, None, is_some, option_map, Ok}
use Rattle.mg_bson.specs.Raw.{fields}
use Rattle.mg_server.specs.Calls.{Keeps, Past, past_of}
use Rattle.mg_link.specs.Causes.{one_if}
use Rattle.mg_link.specs.Errors.{plain}
use Rattle.mg_link.specs.Link.{Awaited, LogTold}
use Rattle.mg_link.specs.Log.{Call}
use Rattle.mg_link.specs.Moment.{Ending, pending, finished, failed}
use Rattle.mg_link.specs.Session.{Session, after_command}
use Rattle.mg_link.specs.declared.error.Error.{Error}
use Rattle.mg_link.specs.declared.error.ErrorKind.TheVariants as kind
use Rattle.mg_ops.specs.Cursors.{Cursor, cursor_of}
use Rattle.mg_cursor.specs.Batches.{BreaksBatch, documents_of}
use Rattle.mg_cursor.specs.Causes.{HeardMore, IsUnderway, MoreFails}
use Rattle.mg_cursor.specs.Client.{ClientCursor, IsOver, at_rest, behind_reply, holds, rests}
use Rattle.mg_cursor.specs.Documents.{DocumentCursor, AdvancesOnce}
use Rattle.mg_cursor.specs.Polling.{CannotAsk}
use Rattle.mg_cursor.specs.declared.polls.AdvancePoll.{AdvancePoll}
use Rattle.mg_cursor.specs.declared.polls.AdvancePoll.TheVariants as advance
use Rattle.mg_cursor.specs.declared.polls.ItemPoll.{ItemPoll}
use Rattle.mg_cursor.specs.declared.polls.ItemPoll.TheVariants as item
use Rattle.mg_cursor.specs.declared.polls.TryPoll.{TryPoll}
use Rattle.mg_cursor.specs.declared.polls.TryPoll.TheVariants as try
use Rattle.mg_cursor.specs.declared.results.AdvanceResult.{AdvanceResult}
use Rattle.mg_cursor.specs.declared.results.AdvanceResult.TheVariants as result

-- the most empty replies in a row that a call takes
abbrev pub most_empty : ℕ
most_empty = 1000

-- a call that has ended leaves no count
abbrev pub uncounted : DocumentCursor → DocumentCursor
uncounted d = record d { empty = 0 }

-- with one more empty reply
abbrev pub counted : DocumentCursor → DocumentCursor
counted d = record d { empty = d.empty + 1 }

-- the session behind an advance that started a command or none
abbrev pub session_after : Bool → Option Session → Option Session
session_after true session = option_map after_command session
session_after false session = session

-- a session that is told of a command that was started, or of none
abbrev pub session_moved : Bool → Session → Session
session_moved true s = after_command s
session_moved false s = s

-- so many times over
abbrev pub times : {A : Type 0} → ℕ → (A → A) → A → A
times zero f x = x
times (suc n) f x = times n f (f x)

-- ---- one advance

-- what is kept of the count: a call that has ended leaves none
abbrev pub kept_behind : TryPoll → DocumentCursor → DocumentCursor
kept_behind try.Pending d = d
kept_behind (try.Ready r) d = uncounted d
kept_behind (try.Failed e) d = uncounted d

-- What a call with one advance does.
pub record TriesAdvance (old new : Awaited) (log log' : LogTold) (wire : ℤ) (session : Option Session) (started : Bool) (d d' : DocumentCursor) (r : TryPoll) : Type 0 where
  pub advanced : DocumentCursor
  pub tries : AdvancesOnce old new log log' wire session started d advanced r
  pub kept : d' ≡ kept_behind r advanced

-- ---- advances up to a document

-- what it answers by its last advance: an empty reply is one too many, since the call goes on behind each other one
abbrev pub ended_as : AdvanceResult (Unit {0}) → AdvancePoll
ended_as (result.Advanced t) = advance.Ready true
ended_as result.Exhausted = advance.Ready false
ended_as result.Waiting = advance.Failed (plain kind.EmptyBatches)

-- a call ends with an empty reply only where it is one too many
abbrev pub IsEnough : AdvanceResult (Unit {0}) → DocumentCursor → Type 0
IsEnough (result.Advanced t) d = Unit {0}
IsEnough result.Exhausted d = Unit {0}
IsEnough result.Waiting d = most_empty ≤ d.empty + 1

-- what its last advance comes to
abbrev pub EndsSeeking : TryPoll → DocumentCursor → DocumentCursor → AdvancePoll → Type 0
EndsSeeking try.Pending d d' r = (d' ≡ d) × (r ≡ advance.Pending)
EndsSeeking (try.Ready a) d d' r = IsEnough a d × (d' ≡ uncounted d) × (r ≡ ended_as a)
EndsSeeking (try.Failed e) d d' r = (d' ≡ uncounted d) × (r ≡ advance.Failed e)

-- its last advance
pub record SeeksLast (old new : Awaited) (log log' : LogTold) (wire : ℤ) (session : Option Session) (starts : ℕ) (d d' : DocumentCursor) (r : AdvancePoll) : Type 0 where
  pub started : Bool
  pub starts_are : starts ≡ one_if started
  pub advanced : DocumentCursor
  pub poll : TryPoll
  pub tries : AdvancesOnce old new log log' wire session started d advanced poll
  pub ends : EndsSeeking poll advanced d' r

-- an advance that gets an empty reply, and the link behind it
pub record SeeksOn (old between : Awaited) (log log_between : LogTold) (wire : ℤ) (session : Option Session) (started : Bool) (d d' : DocumentCursor) : Type 0 where
  pub advanced : DocumentCursor
  pub tries : AdvancesOnce old between log log_between wire session started d advanced (try.Ready result.Waiting)
  pub few : advanced.empty + 1 < most_empty
  pub counts : d' ≡ counted advanced

-- What a call that seeks a document does, which gets so many empty replies in this poll before its last advance, and starts so many commands.
unfoldable pub SeeksDocument : ℕ → Awaited → Awaited → LogTold → LogTold → ℤ → Option Session → ℕ → DocumentCursor → DocumentCursor → AdvancePoll → Type 0
SeeksDocument zero old new log log' wire session starts d d' r = SeeksLast old new log log' wire session starts d d' r
SeeksDocument (suc n) old new log log' wire session starts d d' r = (between : Awaited) × (log_between : LogTold) × (started : Bool) × (later : ℕ) × (e : DocumentCursor)
    × SeeksOn old between log log_between wire session started d e × (starts ≡ one_if started + later) × SeeksDocument n between new log_between log' wire (session_after started session) later e d' r

-- ---- the document that is left

-- one is current behind an advance that came to one, and else none
abbrev pub LeavesBy : AdvanceResult (Unit {0}) → Option (List ℕ) → Type 0
LeavesBy (result.Advanced t) current = is_some current ≡ true
LeavesBy result.Exhausted current = current ≡ None
LeavesBy result.Waiting current = current ≡ None

abbrev pub TryLeaves : TryPoll → Option (List ℕ) → Type 0
TryLeaves try.Pending current = current ≡ None
TryLeaves (try.Ready a) current = LeavesBy a current
TryLeaves (try.Failed e) current = current ≡ None

abbrev pub SeekLeaves : AdvancePoll → Option (List ℕ) → Type 0
SeekLeaves advance.Pending current = current ≡ None
SeekLeaves (advance.Ready there) current = is_some current ≡ there
SeekLeaves (advance.Failed e) current = current ≡ None

-- behind a copy: the document, and none where there is none; where memory ran out, it may be the one that was to be copied
abbrev pub ItemLeaves : ItemPoll → Option (List ℕ) → Type 0
ItemLeaves item.Pending current = current ≡ None
ItemLeaves (item.Item document) current = current ≡ Some document
ItemLeaves item.End current = current ≡ None
ItemLeaves (item.Failed e) current = (current ≡ None) ⊎ (e ≡ plain kind.OutOfMemory)

-- ---- the end

-- nothing is received, and nothing is asked for any more
pub record IsAtEnd (d : DocumentCursor) : Type 0 where
  pub at_end : d.cursor.doing ≡ rests
  pub none_left : d.behind ≡ []
  pub over : IsOver d.cursor

-- ---- a copy of the document

-- the current document, unless memory ran out; none where there is none
abbrev pub CopiesIf : Bool → DocumentCursor → ItemPoll → Type 0
CopiesIf true d r = ((document : List ℕ) × (d.current ≡ Some document) × (r ≡ item.Item document)) ⊎ (r ≡ item.Failed (plain kind.OutOfMemory))
CopiesIf false d r = r ≡ item.End

-- what comes of it
abbrev pub CopiesCurrent : AdvancePoll → DocumentCursor → ItemPoll → Type 0
CopiesCurrent advance.Pending d r = r ≡ item.Pending
CopiesCurrent (advance.Ready there) d r = CopiesIf there d r
CopiesCurrent (advance.Failed e) d r = r ≡ item.Failed e

-- What a call that seeks a document and copies it does.
pub record SeeksItem (empties : ℕ) (old new : Awaited) (log log' : LogTold) (wire : ℤ) (session : Option Session) (starts : ℕ) (d d' : DocumentCursor) (r : ItemPoll) : Type 0 where
  pub poll : AdvancePoll
  pub seeks : SeeksDocument empties old new log log' wire session starts d d' poll
  pub copies : CopiesCurrent poll d' r

-- ---- how polls ended

abbrev pub advance_ending : AdvancePoll → Ending
advance_ending advance.Pending = pending
advance_ending (advance.Ready there) = finished
advance_ending (advance.Failed e) = failed e

abbrev pub item_ending : ItemPoll → Ending
item_ending item.Pending = pending
item_ending (item.Item document) = finished
item_ending item.End = finished
item_ending (item.Failed e) = failed e

-- ---- causes, over all polls of a call

-- the call heard these replies to the getMores of the cursor, one behind another, which left it so
abbrev pub AreHeard : Past → ClientCursor → List (List ℕ) → ClientCursor → Type 0
AreHeard past c [] c' = c' ≡ at_rest c
AreHeard past c (bytes ∷ more) c' = (said : Cursor) × HeardMore past c bytes × (cursor_of (fields bytes) ≡ Ok said) × AreHeard past (behind_reply said c) more c'

-- the batch that the call took last: the one in hand, or that of the last reply that it heard
pub data LastBatch (past : Past) (c : ClientCursor) (bytes : List ℕ) : Type 0 where
  in_hand : c.doing ≡ holds bytes → LastBatch past c bytes
  heard : (replies : List (List ℕ)) (at : ClientCursor) → AreHeard past c replies at → HeardMore past at bytes → LastBatch past c bytes

-- why it fails, but for want of memory
pub data SeekFails (past : Past) (session : Option Session) (d : DocumentCursor) (e : Error) : Type 0 where
  out_of_memory : e ≡ plain kind.OutOfMemory → SeekFails past session d e
  -- a getMore cannot be built, in the session as it is behind so many commands, or brings no batch
  not_built : (replies : List (List ℕ)) (at : ClientCursor) (starts : ℕ) → AreHeard past d.cursor replies at → CannotAsk at (times starts (option_map after_command) session) e → SeekFails past session d e
  no_batch : (replies : List (List ℕ)) (at : ClientCursor) → AreHeard past d.cursor replies at → MoreFails past at e → SeekFails past session d e
  -- a batch holds what is no document
  broken : (bytes : List ℕ) → LastBatch past d.cursor bytes → BreaksBatch bytes e → SeekFails past session d e
  -- too many empty replies in a row, the last of which is this one
  too_many : (bytes : List ℕ) → LastBatch past d.cursor bytes → documents_of bytes ≡ Some [] → e ≡ plain kind.EmptyBatches → SeekFails past session d e

-- what a poll came to that began where the cursor stood so, in this session where it names one
abbrev pub SeekCame : Awaited → Past → Option Session → DocumentCursor → DocumentCursor → Ending → Type 0
SeekCame awaited past session d d' pending = IsUnderway awaited past d'.cursor
SeekCame awaited past session d d' finished = Unit {0}
SeekCame awaited past session d d' (failed e) = SeekFails past session d e

-- A poll led on the call that had sent at these places before.
abbrev pub SeekCaused : Awaited → Awaited → LogTold → LogTold → ℤ → Option Session → DocumentCursor → DocumentCursor → Ending → Type 0
SeekCaused old new log log' wire session d d' outcome = (calls : List Call) → log ≡ Some calls → (places : List ℕ) → IsUnderway old (past_of places (length calls) calls wire) d.cursor
    → (calls' : List Call) × (log' ≡ Some calls') × Keeps calls calls' × SeekCame new (past_of places (length calls) calls' wire) session d d' outcome

-- ---- for private clauses

abbrev pub MayEnd : TryPoll → DocumentCursor → Type 0
MayEnd try.Pending d = Unit {0}
MayEnd (try.Ready a) d = IsEnough a d
MayEnd (try.Failed e) d = Unit {0}

-- an empty reply is counted, and the call goes on behind it, unless it is one too many
abbrev pub CountsOne : Bool → DocumentCursor → DocumentCursor → Type 0
CountsOne true d d' = (d.empty + 1 < most_empty) × (d' ≡ counted d)
CountsOne false d d' = (most_empty ≤ d.empty + 1) × (d' ≡ d)

abbrev pub KeepsCountBy : AdvanceResult (Unit {0}) → DocumentCursor → DocumentCursor → Bool → Type 0
KeepsCountBy (result.Advanced t) d d' goes_on = (goes_on ≡ false) × (d' ≡ d)
KeepsCountBy result.Exhausted d d' goes_on = (goes_on ≡ false) × (d' ≡ d)
KeepsCountBy result.Waiting d d' goes_on = CountsOne goes_on d d'

abbrev pub KeepsCount : TryPoll → DocumentCursor → DocumentCursor → Bool → Type 0
KeepsCount try.Pending d d' goes_on = (goes_on ≡ false) × (d' ≡ d)
KeepsCount (try.Ready a) d d' goes_on = KeepsCountBy a d d' goes_on
KeepsCount (try.Failed e) d d' goes_on = (goes_on ≡ false) × (d' ≡ d)
