-- What a poll for the next batch of a cursor does (find, getMore and killCursors specification).
use Rattle.std.specs.Prelude.{◌≡◌, ◌⊎◌, ℕ, ℤ, Bool, false, List, Option, Ok}
use Rattle.mg_bson.specs.Raw.{fields}
use Rattle.mg_link.specs.Exec.{RunsStarting, Sending}
use Rattle.mg_link.specs.Link.{Awaited, SendsNothing, LogTold}
use Rattle.mg_link.specs.Moment.{Ending, pending, finished, failed}
use Rattle.mg_link.specs.Session.{Session}
use Rattle.mg_link.specs.declared.action.Step.{Step}
use Rattle.mg_link.specs.declared.action.Step.TheVariants as step
use Rattle.mg_link.specs.declared.error.Error.{Error}
use Rattle.mg_ops.specs.Cursors.{BreaksIn, Cursor, cursor_of}
use Rattle.mg_ops.specs.Failing.{CannotBeSent, FailsBy, HasBadSize}
use Rattle.mg_cursor.specs.Client.{ClientCursor, IsNew, IsOver, MayAsk, asks, at_rest, behind_failure, behind_reply, get_more, holds, rests}
use Rattle.mg_cursor.specs.declared.polls.NextPoll.{NextPoll}
use Rattle.mg_cursor.specs.declared.polls.NextPoll.TheVariants as next

-- how it ended
abbrev pub next_ending : NextPoll → Ending
next_ending next.Pending = pending
next_ending (next.Batch reply) = finished
next_ending next.End = finished
next_ending (next.Failed e) = failed e

-- why its getMore is not built: the size of the batches is none, or it cannot be sent
abbrev pub CannotAsk : ClientCursor → Option Session → Error → Type 0
CannotAsk c session e = HasBadSize c.manner.size e ⊎ CannotBeSent (get_more c session) e

-- a reply to its getMore gives the next batch; or it breaks the grammar of a cursor, or memory ran out as it was read
pub data ReadsReply (c : ClientCursor) (reply : List ℕ) (c' : ClientCursor) (r : NextPoll) : Type 0 where
  gave : (said : Cursor) → cursor_of (fields reply) ≡ Ok said → c' ≡ behind_reply said c → r ≡ next.Batch reply → ReadsReply c reply c' r
  broke : (e : Error) → FailsBy (BreaksIn (fields reply)) e → c' ≡ at_rest c → r ≡ next.Failed e → ReadsReply c reply c' r

-- what comes of a poll of its getMore
abbrev pub Hears : ClientCursor → Step Sending (List ℕ) → ClientCursor → NextPoll → Type 0
Hears c (step.Pending sending) c' r = (c' ≡ record c { doing = asks sending }) × (r ≡ next.Pending)
Hears c (step.Done reply) c' r = ReadsReply c reply c' r
Hears c (step.Failed e) c' r = (c' ≡ behind_failure e c) × (r ≡ next.Failed e)

-- A poll of a getMore over the link, and what comes of it.
pub record RunsMore (old new : Awaited) (log log' : LogTold) (wire : ℤ) (started : Bool) (c : ClientCursor) (sending : Sending) (c' : ClientCursor) (r : NextPoll) : Type 0 where
  pub came : Step Sending (List ℕ)
  pub runs : RunsStarting old new log log' wire sending came started
  pub hears : Hears c came c' r

-- What a poll for the next batch does, by what is in hand or on its way as it begins; `started` says whether a command was started in it.
pub data PollsNext (old new : Awaited) (log log' : LogTold) (wire : ℤ) (session : Option Session) (started : Bool) (c c' : ClientCursor) (r : NextPoll) : Type 0 where
  -- the reply in hand is handed out, and nothing is sent
  hands_out : (reply : List ℕ) → c.doing ≡ holds reply → SendsNothing old new log log' → started ≡ false → c' ≡ at_rest c → r ≡ next.Batch reply → PollsNext old new log log' wire session started c c' r
  -- nothing is asked for any more
  is_over : c.doing ≡ rests → IsOver c → SendsNothing old new log log' → started ≡ false → c' ≡ c → r ≡ next.End → PollsNext old new log log' wire session started c c' r
  -- its getMore is not built, and nothing is sent
  not_built : c.doing ≡ rests → MayAsk c → (e : Error) → FailsBy (CannotAsk c session) e → SendsNothing old new log log' → started ≡ false → c' ≡ c → r ≡ next.Failed e → PollsNext old new log log' wire session started c c' r
  -- its getMore is sent
  begins : c.doing ≡ rests → MayAsk c → (sending : Sending) → IsNew (get_more c session) sending → RunsMore old new log log' wire started c sending c' r → PollsNext old new log log' wire session started c c' r
  -- its getMore is waited for
  goes_on : (sending : Sending) → c.doing ≡ asks sending → RunsMore old new log log' wire started c sending c' r → PollsNext old new log log' wire session started c c' r
