-- What the calls of a change stream do, however many steps they take (change streams specification).
use Rattle.std.specs.Prelude.{◌≡◌, ◌≢◌, ◌⊎◌, ◌<◌, ◌≤◌, ℕ, ℤ, zero, suc, ◌+◌, pos, Bool, true, false, List, [], ◌∷◌, Option, Some, None}
use Rattle.mg_bson.specs.Tree.{Tree}
use Rattle.mg_link.specs.Errors.{plain}
use Rattle.mg_link.specs.Link.{Awaited, LogTold}
use Rattle.mg_link.specs.Moment.{Ending, pending, finished, failed}
use Rattle.mg_link.specs.Session.{Session, after_command}
use Rattle.mg_link.specs.declared.error.Error.{Error}
use Rattle.mg_link.specs.declared.error.ErrorKind.TheVariants as kind
use Rattle.mg_cursor.specs.Seeking.{times}
use Rattle.mg_cursor.specs.declared.polls.TryPoll.{TryPoll}
use Rattle.mg_cursor.specs.declared.polls.TryPoll.TheVariants as try
use Rattle.mg_cursor.specs.declared.results.AdvanceResult.TheVariants as result
use Rattle.mg_change.specs.ClientStreams.{ClientStream, Doing, IsBetween, IsExhausted, IsSpent, behind_event, follows, id_in, kills, lends_nothing, no_counts, owes, passed_over, renewed, resumes}
use Rattle.mg_change.specs.Steps.{DoesSteps}
use Rattle.mg_change.specs.declared.counts.Counts.{Counts}
use Rattle.mg_change.specs.declared.event_poll.EventPoll.{EventPoll}
use Rattle.mg_change.specs.declared.event_poll.EventPoll.TheVariants as poll
use Rattle.mg_change.specs.declared.event_poll.Stepped.{Stepped}
use Rattle.mg_change.specs.declared.event_poll.Stepped.TheVariants as stepped

-- ---- the next event

-- without a token it counts as given
pub record LacksToken (s s' : ClientStream) (e : Error) : Type 0 where
  pub event : List ℕ
  pub events : List (List ℕ)
  pub next_is : s.behind ≡ event ∷ events
  pub lacks : id_in event ≡ None
  pub passed : s' ≡ passed_over events s
  pub error : e ≡ plain kind.MissingResumeToken

-- the next event is given, and its token is the one of the stream
pub record AnswersEvent (s s' : ClientStream) (event : List ℕ) : Type 0 where
  pub events : List (List ℕ)
  pub next_is : s.behind ≡ event ∷ events
  pub id : Tree
  pub has : id_in event ≡ Some id
  pub given : s' ≡ behind_event event events id s

-- the next event is lent, which takes no memory
abbrev pub LendsEvent : ClientStream → ClientStream → TryPoll → Type 0
LendsEvent s s' try.Pending = ⊥
LendsEvent s s' (try.Ready (result.Advanced t)) = (event : List ℕ) × AnswersEvent s s' event
LendsEvent s s' (try.Ready result.Exhausted) = ⊥
LendsEvent s s' (try.Ready result.Waiting) = ⊥
LendsEvent s s' (try.Failed e) = LacksToken s s' e

-- memory runs out as it is copied, and nothing has changed
pub record CannotCopy (s s' : ClientStream) (e : Error) : Type 0 where
  pub next_has : (event : List ℕ) (events : List (List ℕ)) → s.behind ≡ event ∷ events → id_in event ≢ None
  pub same : s' ≡ s
  pub error : e ≡ plain kind.OutOfMemory

-- the next event is copied
abbrev pub CopiesEvent : ClientStream → ClientStream → EventPoll → Type 0
CopiesEvent s s' poll.Pending = ⊥
CopiesEvent s s' (poll.Ready None) = ⊥
CopiesEvent s s' (poll.Ready (Some event)) = AnswersEvent s s' event
CopiesEvent s s' (poll.Failed e) = LacksToken s s' e ⊎ CannotCopy s s' e

-- ---- one call

-- what is kept of the counts: a call that has ended leaves none
abbrev pub uncounted : ClientStream → ClientStream
uncounted s = record s { counts = no_counts }

abbrev pub kept_behind : Ending → ClientStream → ClientStream
kept_behind pending s = s
kept_behind finished s = uncounted s
kept_behind (failed e) s = uncounted s

abbrev pub try_ending : TryPoll → Ending
try_ending try.Pending = pending
try_ending (try.Ready r) = finished
try_ending (try.Failed e) = failed e

abbrev pub event_ending : EventPoll → Ending
event_ending poll.Pending = pending
event_ending (poll.Ready event) = finished
event_ending (poll.Failed e) = failed e

-- a step that goes on, or finds an event, has neither pended nor failed
abbrev pub stepped_ending : Stepped → Ending
stepped_ending stepped.Goes = finished
stepped_ending stepped.Found = finished
stepped_ending (stepped.Gives p) = try_ending p

-- nothing is there: the batch was empty, or the server holds no cursor
abbrev pub without_event : TryPoll → EventPoll
without_event try.Pending = poll.Pending
without_event (try.Ready r) = poll.Ready None
without_event (try.Failed e) = poll.Failed e

-- what a call that lends comes to behind its last step
abbrev pub LendsBehind : Stepped → ClientStream → ClientStream → TryPoll → Type 0
LendsBehind stepped.Goes s s' r = ⊥
LendsBehind stepped.Found s s' r = LendsEvent s s' r
LendsBehind (stepped.Gives p) s s' r = (s' ≡ s) × (r ≡ p)

-- what a call that copies comes to behind its last step
abbrev pub CopiesBehind : Stepped → ClientStream → ClientStream → EventPoll → Type 0
CopiesBehind stepped.Goes s s' r = ⊥
CopiesBehind stepped.Found s s' r = CopiesEvent s s' r
CopiesBehind (stepped.Gives p) s s' r = (s' ≡ s) × (r ≡ without_event p)

-- What a call that lends the next event does, by so many steps before its last one; the session is told of so many commands.
pub record CallLends (steps : ℕ) (old new : Awaited) (log log' : LogTold) (wire : ℤ) (session : Option Session) (starts : ℕ) (s s' : ClientStream) (r : TryPoll) : Type 0 where
  pub again : Bool
  pub came : Stepped
  pub left : ClientStream
  pub does : DoesSteps steps old new log log' wire session starts again (lends_nothing s) left came
  pub lent : ClientStream
  pub lends : LendsBehind came left lent r
  pub kept : s' ≡ kept_behind (try_ending r) lent

-- The same of a call that copies it.
pub record CallCopies (steps : ℕ) (old new : Awaited) (log log' : LogTold) (wire : ℤ) (session : Option Session) (starts : ℕ) (s s' : ClientStream) (r : EventPoll) : Type 0 where
  pub again : Bool
  pub came : Stepped
  pub left : ClientStream
  pub does : DoesSteps steps old new log log' wire session starts again (lends_nothing s) left came
  pub copied : ClientStream
  pub copies : CopiesBehind came left copied r
  pub kept : s' ≡ kept_behind (event_ending r) copied

-- ---- a call that seeks an event

-- so many empty replies in a row, or resumptions without an event, are too many
abbrev pub too_many : ℕ
too_many = 1000

-- one more empty reply of an open cursor, by a resumption or not
abbrev pub counted : Bool → Counts → Counts
counted true c = record { empty = 1; resumptions = c.resumptions + 1 }
counted false c = record c { empty = c.empty + 1 }

abbrev pub got : Bool → Counts → ℕ
got true c = c.resumptions + 1
got false c = c.empty + 1

-- an empty reply behind which the call goes on
pub record GoesBehind (again : Bool) (came : Stepped) (left counting : ClientStream) : Type 0 where
  pub empty : came ≡ stepped.Gives (try.Ready result.Waiting)
  pub open_still : left.cursor.id ≢ pos 0
  pub few : got again left.counts < too_many
  pub counts : counting ≡ record left { counts = counted again left.counts }

-- What the last call of one that seeks comes to: an empty reply of an open cursor is one too many.
pub data EndsSeeking (again : Bool) (came : Stepped) (left s' : ClientStream) (r : EventPoll) : Type 0 where
  finds : came ≡ stepped.Found → CopiesEvent left s' r → EndsSeeking again came left s' r
  pends : came ≡ stepped.Gives try.Pending → s' ≡ left → r ≡ poll.Pending → EndsSeeking again came left s' r
  over : came ≡ stepped.Gives (try.Ready result.Exhausted) → s' ≡ left → r ≡ poll.Ready None → EndsSeeking again came left s' r
  closed : came ≡ stepped.Gives (try.Ready result.Waiting) → left.cursor.id ≡ pos 0 → s' ≡ left → r ≡ poll.Ready None → EndsSeeking again came left s' r
  too_often : came ≡ stepped.Gives (try.Ready result.Waiting) → left.cursor.id ≢ pos 0 → too_many ≤ got again left.counts → s' ≡ left → r ≡ poll.Failed (plain kind.EmptyBatches) → EndsSeeking again came left s' r
  fails : (e : Error) → came ≡ stepped.Gives (try.Failed e) → s' ≡ left → r ≡ poll.Failed e → EndsSeeking again came left s' r

-- its last part
pub record SeeksLast (old new : Awaited) (log log' : LogTold) (wire : ℤ) (session : Option Session) (starts : ℕ) (s s' : ClientStream) (r : EventPoll) : Type 0 where
  pub steps : ℕ
  pub again : Bool
  pub came : Stepped
  pub left : ClientStream
  pub does : DoesSteps steps old new log log' wire session starts again s left came
  pub ended : ClientStream
  pub ends : EndsSeeking again came left ended r
  pub kept : s' ≡ kept_behind (event_ending r) ended

-- a part with an empty reply, and the link behind it
pub record SeeksOn (old between : Awaited) (log log_between : LogTold) (wire : ℤ) (session : Option Session) (starts : ℕ) (s counting : ClientStream) : Type 0 where
  pub steps : ℕ
  pub again : Bool
  pub came : Stepped
  pub left : ClientStream
  pub does : DoesSteps steps old between log log_between wire session starts again s left came
  pub goes : GoesBehind again came left counting

-- the session once it is told of so many commands
abbrev pub session_behind : ℕ → Option Session → Option Session
session_behind n None = None
session_behind n (Some s) = Some (times n after_command s)

-- What a call that seeks an event does, which gets so many empty replies in this poll before its last part.
unfoldable pub SeeksEvent : ℕ → Awaited → Awaited → LogTold → LogTold → ℤ → Option Session → ℕ → ClientStream → ClientStream → EventPoll → Type 0
SeeksEvent zero old new log log' wire session starts s s' r = SeeksLast old new log log' wire session starts s s' r
SeeksEvent (suc n) old new log log' wire session starts s s' r = (between : Awaited) × (log_between : LogTold) × (now later : ℕ) × (t : ClientStream)
    × SeeksOn old between log log_between wire session now s t × (starts ≡ now + later)
    × SeeksEvent n between new log_between log' wire (session_behind now session) later t s' r

-- ---- how a call leaves its stream

-- a call that has ended leaves nothing on its way and no counts; nothing is answered only where nothing is owed or in hand
abbrev pub LeavesTry : TryPoll → ClientStream → Type 0
LeavesTry try.Pending s = s.current ≡ None
LeavesTry (try.Ready (result.Advanced t)) s = IsBetween s × (s.current ≢ None)
LeavesTry (try.Ready result.Exhausted) s = IsBetween s × IsExhausted s × (s.current ≡ None)
LeavesTry (try.Ready result.Waiting) s = IsBetween s × IsSpent s × (s.current ≡ None)
LeavesTry (try.Failed e) s = IsBetween s × (s.current ≡ None)

abbrev pub LeavesCall : EventPoll → ClientStream → Type 0
LeavesCall poll.Pending s = s.current ≡ None
LeavesCall (poll.Ready None) s = IsBetween s × IsSpent s × (s.current ≡ None)
LeavesCall (poll.Ready (Some event)) s = IsBetween s × (s.current ≡ Some event)
LeavesCall (poll.Failed e) s = IsBetween s × (s.current ≡ None)

-- a call that seeks an event answers none only at the end
abbrev pub LeavesSeek : EventPoll → ClientStream → Type 0
LeavesSeek poll.Pending s = s.current ≡ None
LeavesSeek (poll.Ready None) s = IsBetween s × IsExhausted s × (s.current ≡ None)
LeavesSeek (poll.Ready (Some event)) s = IsBetween s × (s.current ≡ Some event)
LeavesSeek (poll.Failed e) s = IsBetween s × (s.current ≡ None)

-- ---- for private clauses

-- one more empty reply, or none where that is one too many
abbrev pub CountsOne : Bool → Counts → Option Counts → Type 0
CountsOne again c None = too_many ≤ got again c
CountsOne again c (Some d) = (got again c < too_many) × (d ≡ counted again c)

-- how many steps a call may have before it at most
abbrev pub steps_left : Doing → ℕ
steps_left follows = 4
steps_left owes = 3
steps_left (resumes sending) = 2
steps_left (kills old) = 1
steps_left renewed = 0

-- a step behind which the call goes on comes closer to its end
abbrev pub Falls : Stepped → ℕ → ℕ → Type 0
Falls stepped.Goes before now = now < before
Falls stepped.Found before now = Unit {0}
Falls (stepped.Gives p) before now = Unit {0}

-- whether a call that seeks goes on behind a step: behind an empty reply of an open cursor, which is counted, unless it is one too many
abbrev pub CountsIfOpen : Bool → ClientStream → ClientStream → Bool → Type 0
CountsIfOpen again s s' true = (s.cursor.id ≢ pos 0) × (got again s.counts < too_many) × (s' ≡ record s { counts = counted again s.counts })
CountsIfOpen again s s' false = (s' ≡ s) × ((s.cursor.id ≡ pos 0) ⊎ (too_many ≤ got again s.counts))

abbrev pub SeeksOnGiven : Bool → TryPoll → ClientStream → ClientStream → Bool → Type 0
SeeksOnGiven again try.Pending s s' on = (on ≡ false) × (s' ≡ s)
SeeksOnGiven again (try.Ready (result.Advanced t)) s s' on = (on ≡ false) × (s' ≡ s)
SeeksOnGiven again (try.Ready result.Exhausted) s s' on = (on ≡ false) × (s' ≡ s)
SeeksOnGiven again (try.Ready result.Waiting) s s' on = CountsIfOpen again s s' on
SeeksOnGiven again (try.Failed e) s s' on = (on ≡ false) × (s' ≡ s)

abbrev pub SeeksOnBehind : Bool → Stepped → ClientStream → ClientStream → Bool → Type 0
SeeksOnBehind again stepped.Goes s s' on = (on ≡ true) × (s' ≡ s)
SeeksOnBehind again stepped.Found s s' on = (on ≡ false) × (s' ≡ s)
SeeksOnBehind again (stepped.Gives p) s s' on = SeeksOnGiven again p s s' on

-- a call that seeks may end with this step
abbrev pub MayEnd : Stepped → ClientStream → Type 0
MayEnd stepped.Goes s = ⊥
MayEnd stepped.Found s = s.behind ≢ []
MayEnd (stepped.Gives p) s = Unit {0}

-- and ends so
abbrev pub EndsEmpty : ClientStream → EventPoll → Type 0
EndsEmpty s r = ((s.cursor.id ≡ pos 0) × (r ≡ poll.Ready None)) ⊎ ((s.cursor.id ≢ pos 0) × (r ≡ poll.Failed (plain kind.EmptyBatches)))

abbrev pub EndsGiven : TryPoll → ClientStream → ClientStream → EventPoll → Type 0
EndsGiven try.Pending s s' r = (s' ≡ s) × (r ≡ poll.Pending)
EndsGiven (try.Ready (result.Advanced t)) s s' r = (s' ≡ s) × (r ≡ poll.Ready None)
EndsGiven (try.Ready result.Exhausted) s s' r = (s' ≡ s) × (r ≡ poll.Ready None)
EndsGiven (try.Ready result.Waiting) s s' r = (s' ≡ s) × EndsEmpty s r
EndsGiven (try.Failed e) s s' r = (s' ≡ s) × (r ≡ poll.Failed e)

abbrev pub EndsBehind : Stepped → ClientStream → ClientStream → EventPoll → Type 0
EndsBehind stepped.Goes s s' r = ⊥
EndsBehind stepped.Found s s' r = CopiesEvent s s' r
EndsBehind (stepped.Gives p) s s' r = EndsGiven p s s' r
