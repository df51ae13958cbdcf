-- The check of the indexes of a bucket, step by step (GridFS specification, "Before write operations": before its first write a driver asks whether the files collection is empty, and only then makes sure of both indexes).
use Rattle.std.specs.Prelude.{◌≡◌, ◌≢◌, ◌⊎◌, ◌<◌, ◌≤◌, ◌||◌, ℕ, ℤ, suc, pos, Bool, true, false, List, [], Option, Some, None, option_map, Ok}
use Rattle.mg_bson.specs.Raw.{fields}
use Rattle.mg_bson.specs.Tree.{no_items}
use Rattle.mg_link.specs.Errors.{command_code, plain}
use Rattle.mg_link.specs.Exec.{Runs, Sending, ticket_of}
use Rattle.mg_link.specs.Link.{Awaited, LogTold}
use Rattle.mg_link.specs.Moment.{Ending, pending, finished, failed}
use Rattle.mg_link.specs.declared.action.Step.{Step}
use Rattle.mg_link.specs.declared.action.Step.TheVariants as step
use Rattle.mg_link.specs.declared.error.Error.{Error}
use Rattle.mg_link.specs.declared.error.ErrorKind.TheVariants as kind
use Rattle.mg_options.specs.Fields.{Line}
use Rattle.mg_ops.specs.Cursors.{BreaksIn, Cursor, OpensWith, cursor_of}
use Rattle.mg_ops.specs.Failing.{FailsBy}
use Rattle.mg_ops.specs.Writes.{WriteFails, failures_of}
use Rattle.mg_ops.specs.declared.cursor_reply.CursorSpecification.{CursorSpecification}
use Rattle.mg_cursor.specs.Client.{IsSound, client_ticket, new_client}
use Rattle.mg_cursor.specs.Documents.{DocumentCursor, new_documents}
use Rattle.mg_cursor.specs.Seeking.{SeeksDocument, TriesAdvance}
use Rattle.mg_cursor.specs.declared.polls.AdvancePoll.{AdvancePoll}
use Rattle.mg_cursor.specs.declared.polls.AdvancePoll.TheVariants as advance
use Rattle.mg_cursor.specs.declared.polls.TryPoll.{TryPoll}
use Rattle.mg_cursor.specs.declared.polls.TryPoll.TheVariants as try
use Rattle.mg_records.specs.Readings.{FailsToRead, recorded}
use Rattle.mg_records.specs.Specifications.{ListedIndex, index_of}
use Rattle.mg_gridfs.specs.Buckets.{ClientBucket}
use Rattle.mg_gridfs.specs.Commands.{CannotSend, IsNewRequest, IsRequest, any_lines, creation_lines, index_lines, listing_lines}
use Rattle.mg_gridfs.specs.Indexes.{are_keys}
use Rattle.mg_gridfs.specs.declared.indexes.Place.{Place}
use Rattle.mg_gridfs.specs.declared.indexes.Place.TheVariants as place

-- what is on its way
pub data ClientCheck : Type 0 where
  -- the find that asks whether the bucket holds a file
  finds : (sending : Sending) → ClientCheck
  -- the creation of a collection
  creates : (at : Place) (sending : Sending) → ClientCheck
  -- the list of its indexes
  lists : (at : Place) (sending : Sending) → ClientCheck
  -- a list that is read; whether the index was among those read, and how many these are
  reads : (at : Place) (cursor : DocumentCursor) (found : Bool) (count : ℕ) → ClientCheck
  -- the creation of the index
  indexes : (at : Place) (sending : Sending) → ClientCheck

abbrev pub check_ticket : ClientCheck → Option ℕ
check_ticket (finds sending) = ticket_of sending
check_ticket (creates at sending) = ticket_of sending
check_ticket (lists at sending) = ticket_of sending
check_ticket (reads at cursor found count) = client_ticket cursor.cursor
check_ticket (indexes at sending) = ticket_of sending

-- nothing is on its way while documents are left
abbrev pub IsIdleList : DocumentCursor → Type 0
IsIdleList d = (d.behind ≡ []) ⊎ (client_ticket d.cursor ≡ None)

abbrev pub IsFreeCheck : ClientCheck → Type 0
IsFreeCheck (finds sending) = Unit {0}
IsFreeCheck (creates at sending) = Unit {0}
IsFreeCheck (lists at sending) = Unit {0}
IsFreeCheck (reads at cursor found count) = IsIdleList cursor
IsFreeCheck (indexes at sending) = Unit {0}

-- what is on its way is the check's own; a read is sent once more where its first attempt is lost, a write is not
abbrev pub IsSoundCheck : ClientBucket → ClientCheck → Type 0
IsSoundCheck b (finds sending) = IsRequest true (any_lines b) sending
IsSoundCheck b (creates at sending) = IsRequest false (creation_lines b at) sending
IsSoundCheck b (lists at sending) = IsRequest true (listing_lines b at) sending
IsSoundCheck b (reads at cursor found count) = IsSound true cursor.cursor × (count ≤ 1048576) × IsIdleList cursor
IsSoundCheck b (indexes at sending) = IsRequest false (index_lines b at) sending

-- ---- what a step comes to

pub data CheckTurned : Type 0 where
  goes : (check : ClientCheck) → CheckTurned
  pends : (check : ClientCheck) → CheckTurned
  -- the indexes are there
  passes : CheckTurned
  fails : (e : Error) → CheckTurned

-- how it ended
abbrev pub check_ending : CheckTurned → Ending
check_ending (goes check) = finished
check_ending (pends check) = pending
check_ending passes = finished
check_ending (fails e) = failed e

abbrev pub turned_ticket : CheckTurned → Option ℕ
turned_ticket (goes check) = check_ticket check
turned_ticket (pends check) = check_ticket check
turned_ticket passes = None
turned_ticket (fails e) = None

abbrev pub IsSoundTurn : ClientBucket → CheckTurned → Type 0
IsSoundTurn b (goes check) = IsSoundCheck b check
IsSoundTurn b (pends check) = IsSoundCheck b check
IsSoundTurn b passes = Unit {0}
IsSoundTurn b (fails e) = Unit {0}

-- the next request is built, or it fails
pub data Builds (again : Bool) (lines : List Line) (next : Sending → ClientCheck) (t : CheckTurned) : Type 0 where
  built : (sending : Sending) → IsNewRequest again lines sending → t ≡ goes (next sending) → Builds again lines next t
  not_built : (e : Error) → FailsBy (CannotSend lines) e → t ≡ fails e → Builds again lines next t

-- the collections are looked at in this order
abbrev pub GoesBehind : ClientBucket → Place → CheckTurned → Type 0
GoesBehind b place.Files t = Builds false (creation_lines b place.Chunks) (creates place.Chunks) t
GoesBehind b place.Chunks t = t ≡ passes

-- where the bucket holds a file the check ends; else it goes on with the files
pub data HearsAny (b : ClientBucket) (reply : List ℕ) (t : CheckTurned) : Type 0 where
  some : (said : Cursor) → cursor_of (fields reply) ≡ Ok said → said.batch ≢ no_items → t ≡ passes → HearsAny b reply t
  none : (said : Cursor) → cursor_of (fields reply) ≡ Ok said → said.batch ≡ no_items → Builds false (creation_lines b place.Files) (creates place.Files) t → HearsAny b reply t
  broke : (e : Error) → FailsBy (BreaksIn (fields reply)) e → t ≡ fails e → HearsAny b reply t

-- the code of a collection that is there (NamespaceExists)
abbrev pub namespace_exists : ℤ
namespace_exists = pos 48

-- a collection that was there is passed over; then its indexes are listed
pub data Creates (b : ClientBucket) (at : Place) (came : Step Sending (List ℕ)) (t : CheckTurned) : Type 0 where
  created : (reply : List ℕ) → came ≡ step.Done reply → failures_of 0 (fields reply) ≡ Ok [] → Builds true (listing_lines b at) (lists at) t → Creates b at came t
  there : (e : Error) → came ≡ step.Failed e → command_code e.kind ≡ Some namespace_exists → Builds true (listing_lines b at) (lists at) t → Creates b at came t
  unread : (reply : List ℕ) (e : Error) → came ≡ step.Done reply → FailsBy (WriteFails (fields reply)) e → t ≡ fails e → Creates b at came t
  other : (e : Error) → came ≡ step.Failed e → command_code e.kind ≢ Some namespace_exists → t ≡ fails e → Creates b at came t

-- the list is read from its first batch on
pub data HearsList (at : Place) (reply : List ℕ) (t : CheckTurned) : Type 0 where
  opened : (out : CursorSpecification) → OpensWith None None None reply out → t ≡ goes (reads at (new_documents (new_client out)) false 0) → HearsList at reply t
  broke : (e : Error) → FailsBy (BreaksIn (fields reply)) e → t ≡ fails e → HearsList at reply t

-- ---- the indexes that are there

-- the index that a document of the list stands for
abbrev pub index_in : List ℕ → ListedIndex → Type 0
index_in document i = recorded (index_of (fields document)) ≡ Ok i

-- at the end of the list the index is created where it was not found
abbrev pub EndsList : ClientBucket → Place → Bool → CheckTurned → Type 0
EndsList b at true t = GoesBehind b at t
EndsList b at false t = Builds false (index_lines b at) (indexes at) t

-- One more document: it is looked at, unless it is one too many.
pub data Looks (at : Place) (cursor : DocumentCursor) (document : List ℕ) (found : Bool) (count : ℕ) (t : CheckTurned) : Type 0 where
  looked : (i : ListedIndex) → count < 1048576 → index_in document i → t ≡ goes (reads at cursor (found || are_keys at i.keys) (suc count)) → Looks at cursor document found count t
  too_many : 1048576 ≤ count → t ≡ fails (plain kind.TooManyDocuments) → Looks at cursor document found count t
  broke : (e : Error) → FailsToRead (recorded (index_of (fields document))) e → t ≡ fails e → Looks at cursor document found count t

-- what an advance of the list comes to
abbrev pub HearsAdvance : ClientBucket → Place → DocumentCursor → Bool → ℕ → AdvancePoll → CheckTurned → Type 0
HearsAdvance b at cursor found count advance.Pending t = t ≡ pends (reads at cursor found count)
HearsAdvance b at cursor found count (advance.Ready true) t = (document : List ℕ) × (cursor.current ≡ Some document) × Looks at cursor document found count t
HearsAdvance b at cursor found count (advance.Ready false) t = EndsList b at found t
HearsAdvance b at cursor found count (advance.Failed e) t = t ≡ fails e

-- ---- what a poll of a request comes to

abbrev pub HearsFind : ClientBucket → Step Sending (List ℕ) → CheckTurned → Type 0
HearsFind b (step.Pending sending) t = t ≡ pends (finds sending)
HearsFind b (step.Done reply) t = HearsAny b reply t
HearsFind b (step.Failed e) t = t ≡ fails e

abbrev pub HearsCreation : ClientBucket → Place → Step Sending (List ℕ) → CheckTurned → Type 0
HearsCreation b at (step.Pending sending) t = t ≡ pends (creates at sending)
HearsCreation b at (step.Done reply) t = Creates b at (step.Done reply) t
HearsCreation b at (step.Failed e) t = Creates b at (step.Failed e) t

abbrev pub HearsListing : Place → Step Sending (List ℕ) → CheckTurned → Type 0
HearsListing at (step.Pending sending) t = t ≡ pends (lists at sending)
HearsListing at (step.Done reply) t = HearsList at reply t
HearsListing at (step.Failed e) t = t ≡ fails e

-- a write that lists no failure is done
pub data HearsIndexed (b : ClientBucket) (at : Place) (reply : List ℕ) (t : CheckTurned) : Type 0 where
  done : failures_of 0 (fields reply) ≡ Ok [] → GoesBehind b at t → HearsIndexed b at reply t
  unread : (e : Error) → FailsBy (WriteFails (fields reply)) e → t ≡ fails e → HearsIndexed b at reply t

abbrev pub HearsIndex : ClientBucket → Place → Step Sending (List ℕ) → CheckTurned → Type 0
HearsIndex b at (step.Pending sending) t = t ≡ pends (indexes at sending)
HearsIndex b at (step.Done reply) t = HearsIndexed b at reply t
HearsIndex b at (step.Failed e) t = t ≡ fails e

-- ---- a step

-- A step of a check polls what is on its way, and says what comes next.
pub data ChecksOn (old new : Awaited) (log log' : LogTold) (wire : ℤ) (b : ClientBucket) (c : ClientCheck) (t : CheckTurned) : Type 0 where
  by_find : (sending : Sending) → c ≡ finds sending → (came : Step Sending (List ℕ)) → Runs old new log log' wire sending came → HearsFind b came t → ChecksOn old new log log' wire b c t
  by_creation : (at : Place) (sending : Sending) → c ≡ creates at sending → (came : Step Sending (List ℕ)) → Runs old new log log' wire sending came → HearsCreation b at came t → ChecksOn old new log log' wire b c t
  by_listing : (at : Place) (sending : Sending) → c ≡ lists at sending → (came : Step Sending (List ℕ)) → Runs old new log log' wire sending came → HearsListing at came t → ChecksOn old new log log' wire b c t
  by_advance : (at : Place) (cursor : DocumentCursor) (found : Bool) (count : ℕ) → c ≡ reads at cursor found count → (empties starts : ℕ) (left : DocumentCursor) (poll : AdvancePoll) → SeeksDocument empties old new log log' wire None starts cursor left poll
      → HearsAdvance b at left found count poll t → ChecksOn old new log log' wire b c t
  by_index : (at : Place) (sending : Sending) → c ≡ indexes at sending → (came : Step Sending (List ℕ)) → Runs old new log log' wire sending came → HearsIndex b at came t → ChecksOn old new log log' wire b c t

-- ---- a check that is given up

-- the request, where it waits still
abbrev pub still_of : Step Sending (List ℕ) → Option Sending
still_of (step.Pending sending) = Some sending
still_of (step.Done reply) = None
still_of (step.Failed e) = None

-- what waits still, as a poll that ended
abbrev pub landing_ending : {A : Type 0} → Option A → Ending
landing_ending (Some x) = pending
landing_ending None = finished

abbrev pub landed_ticket : Option ClientCheck → Option ℕ
landed_ticket None = None
landed_ticket (Some check) = check_ticket check

abbrev pub LandsRequest : (Sending → ClientCheck) → Step Sending (List ℕ) → Option ClientCheck → Type 0
LandsRequest next came t = t ≡ option_map next (still_of came)

abbrev pub LandsAdvance : Place → DocumentCursor → Bool → ℕ → TryPoll → Option ClientCheck → Type 0
LandsAdvance at cursor found count try.Pending t = t ≡ Some (reads at cursor found count)
LandsAdvance at cursor found count (try.Ready result) t = t ≡ None
LandsAdvance at cursor found count (try.Failed e) t = t ≡ None

-- The request on its way ends, whatever comes of it, and the check does not go on.
pub data LandsCheck (old new : Awaited) (log log' : LogTold) (wire : ℤ) (c : ClientCheck) (t : Option ClientCheck) : Type 0 where
  by_find : (sending : Sending) → c ≡ finds sending → (came : Step Sending (List ℕ)) → Runs old new log log' wire sending came → LandsRequest finds came t → LandsCheck old new log log' wire c t
  by_creation : (at : Place) (sending : Sending) → c ≡ creates at sending → (came : Step Sending (List ℕ)) → Runs old new log log' wire sending came → LandsRequest (creates at) came t → LandsCheck old new log log' wire c t
  by_listing : (at : Place) (sending : Sending) → c ≡ lists at sending → (came : Step Sending (List ℕ)) → Runs old new log log' wire sending came → LandsRequest (lists at) came t → LandsCheck old new log log' wire c t
  by_advance : (at : Place) (cursor : DocumentCursor) (found : Bool) (count : ℕ) → c ≡ reads at cursor found count → (started : Bool) (left : DocumentCursor) (poll : TryPoll) → TriesAdvance old new log log' wire None started cursor left poll
      → LandsAdvance at left found count poll t → LandsCheck old new log log' wire c t
  by_index : (at : Place) (sending : Sending) → c ≡ indexes at sending → (came : Step Sending (List ℕ)) → Runs old new log log' wire sending came → LandsRequest (indexes at) came t → LandsCheck old new log log' wire c t
