-- What the answers of a call that seeks an event are caused by, over all its polls.
use Rattle.std.specs.Prelude.{◌≡◌, ◌≢◌, ◌⊎◌, ◌<◌, ◌≤◌, ℕ, ℤ, pos, Bool, List, [], length, Option, Some, None}
use Rattle.mg_server.specs.Calls.{Keeps, Past, past_of}
use Rattle.mg_link.specs.Errors.{plain}
use Rattle.mg_link.specs.Link.{Awaited, LogTold}
use Rattle.mg_link.specs.Log.{Call}
use Rattle.mg_link.specs.Session.{Session}
use Rattle.mg_link.specs.declared.error.Error.{Error}
use Rattle.mg_link.specs.declared.error.ErrorKind.TheVariants as kind
use Rattle.mg_change.specs.Causes.{CallEmpty, CallFailed, CallGave, SoFar, is_lone}
use Rattle.mg_change.specs.ClientStreams.{ClientStream}
use Rattle.mg_change.specs.StreamCalls.{counted, got, too_many}
use Rattle.mg_change.specs.declared.counts.Counts.{Counts}
use Rattle.mg_change.specs.declared.event_poll.EventPoll.{EventPoll}
use Rattle.mg_change.specs.declared.event_poll.EventPoll.TheVariants as poll

-- A part of a call: how its stream stood as it began, what was got in vain before it, the places in the log of what it sent in earlier polls, and
-- the place from which on it sends in this one.
pub record CallPart : Type 0 where
  pub at : ClientStream
  pub counts : Counts
  pub places : List ℕ
  pub since : ℕ

-- with this log behind it
abbrev pub part_past : CallPart → List Call → ℤ → Past
part_past p calls wire = past_of p.places p.since calls wire

-- From one part to another by empty batches, none of them one too many, while the cursor stayed open. Each was heard in its own part: the next one
-- sends behind the log that stood as it came.
pub data Row (calls : List Call) (wire : ℤ) (lone : Bool) (start : CallPart) : CallPart → Type 0 where
  begins : Row calls wire lone start start
  one_more : (p : CallPart) (then : List Call) (after : ClientStream) (again : Bool) → Row calls wire lone start p → p.since ≤ length then → Keeps then calls → CallEmpty (part_past p then wire) lone p.at after again → after.cursor.id ≢ pos 0 → got again p.counts < too_many
      → Row calls wire lone start (record { at = after; counts = counted again p.counts; places = []; since = length then })

-- An empty batch that is one too many: the thousandth in a row, or that of the thousandth resumption in the call.
pub record IsTooMany (past : Past) (lone : Bool) (mid after : ClientStream) (c : Counts) (e : Error) : Type 0 where
  pub error : e ≡ plain kind.EmptyBatches
  pub again : Bool
  pub empty : CallEmpty past lone mid after again
  pub open_still : after.cursor.id ≢ pos 0
  pub many : too_many ≤ got again c

-- nothing else fails so
abbrev pub IsNotEmptyBatches : Error → Type 0
IsNotEmptyBatches e = e.kind ≡ kind.EmptyBatches → ⊥

-- What the part of a call behind such a row comes to. The session of its commands is none where the call names none.
abbrev pub PartCame : Awaited → Past → Option Session → ClientStream → Counts → ClientStream → EventPoll → Type 0
PartCame awaited past session mid c s poll.Pending = SoFar awaited past (is_lone session) mid s × (s.counts ≡ c)
PartCame awaited past session mid c s (poll.Ready None) = (again : Bool) × CallEmpty past (is_lone session) mid s again × (s.cursor.id ≡ pos 0)
PartCame awaited past session mid c s (poll.Ready (Some event)) = CallGave past (is_lone session) mid s event
PartCame awaited past session mid c s (poll.Failed e) = (((now : Option Session) × (session ≡ None → now ≡ None) × CallFailed past now mid s e) × IsNotEmptyBatches e) ⊎ IsTooMany past (is_lone session) mid s c e

-- what a poll comes to of a call that had begun with this part
pub record SeekCame (awaited : Awaited) (calls : List Call) (wire : ℤ) (session : Option Session) (start : CallPart) (s : ClientStream) (r : EventPoll) : Type 0 where
  pub part : CallPart
  pub room : part.since ≤ length calls
  pub row : Row calls wire (is_lone session) start part
  pub came : PartCame awaited (part_past part calls wire) session part.at part.counts s r

-- A poll led a call on whose part in hand had sent at these places before, and which had got so much in vain.
abbrev pub SeekCaused : Awaited → Awaited → LogTold → LogTold → ℤ → Option Session → ClientStream → ClientStream → EventPoll → Type 0
SeekCaused old new log log' wire session s s' r = (calls : List Call) → log ≡ Some calls → (places : List ℕ) (at : ClientStream) → SoFar old (past_of places (length calls) calls wire) (is_lone session) at s
    → (calls' : List Call) × (log' ≡ Some calls') × Keeps calls calls' × SeekCame new calls' wire session (record { at = at; counts = s.counts; places = places; since = length calls }) s' r
