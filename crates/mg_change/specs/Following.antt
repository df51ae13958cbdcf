-- What a change stream is doing, computed from what its client knows of it and from what its link awaits.
use Rattle.std.specs.Prelude.{◌≡◌, ℕ, ℤ, pos, List, [], ◌∷◌, ◌++◌, map, Option, Some, None, option_map, unwrap_or}
use Rattle.mg_bson.specs.Raw.{fields}
use Rattle.mg_bson.specs.Tree.{Tree, Fields}
use Rattle.mg_link.specs.Exec.{Sending}
use Rattle.mg_server.specs.Follow.{Follow, Moved, asking, holding, owing, resting, resuming, starting, unopened}
use Rattle.mg_link.specs.Link.{Awaited, LogTold}
use Rattle.mg_server.specs.State.{Start, Watch}
use Rattle.mg_link.specs.declared.action.Step.{Step}
use Rattle.mg_link.specs.declared.action.Step.TheVariants as step
use Rattle.mg_server.specs.Moves.{at_stage}
use Rattle.mg_ops.specs.declared.change_stream.WatchArgs.{WatchArgs}
use Rattle.mg_cursor.specs.Batches.{documents_of}
use Rattle.mg_cursor.specs.Client.{ClientCursor, asks, holds, rests}
use Rattle.mg_cursor.specs.Client as cursors
use Rattle.mg_cursor.specs.Closing.{ClosingCursor}
use Rattle.mg_cursor.specs.declared.polls.TryPoll.{TryPoll}
use Rattle.mg_cursor.specs.declared.polls.TryPoll.TheVariants as try
use Rattle.mg_cursor.specs.declared.results.AdvanceResult.{AdvanceResult}
use Rattle.mg_cursor.specs.declared.results.AdvanceResult.TheVariants as result
use Rattle.mg_change.specs.ClientOpenings.{ClientOpening}
use Rattle.mg_change.specs.ClientStreams.{Asks, ClientStream, Doing, follows, kills, owes, renewed, resumes, stream_token}
use Rattle.mg_change.specs.ClosingStreams.{ClosingStream, Landing, ends, lands, lands_aggregate, lands_replaced}
use Rattle.mg_change.specs.declared.event_poll.EventPoll.{EventPoll}
use Rattle.mg_change.specs.declared.event_poll.EventPoll.TheVariants as poll

-- no server takes what the arguments ask for: a name may not be, the filter has no meaning, or there are two starts
abbrev pub AsksNothing : WatchArgs → Type 0
AsksNothing a = (w : Watch) (start : Start) → Asks a w start → ⊥

-- the events of a reply's batch; none where it breaks its grammar
abbrev pub event_fields : List ℕ → List Fields
event_fields reply = unwrap_or (option_map (map fields) (documents_of reply)) []

-- a stream of which nothing but its cursor, its token and what it answered is known
abbrev pub idle_by : Watch → Start → Option ℕ → ℤ → Option Tree → List Fields → Follow
idle_by w start opened cursor token answered = record {
  doing = owing;
  watch = w;
  start = start;
  opened = opened;
  cursor = cursor;
  old = pos 0;
  ahead = [];
  upto = None;
  token = token;
  answered = answered;
}

abbrev pub held_by : List Fields → Option Tree → Follow → Follow
held_by events upto f = record f { doing = holding; ahead = events; upto = upto }

-- with a batch in hand that may have come to its end
abbrev pub in_hand : List Fields → Option Tree → Follow → Follow
in_hand [] upto f = record f { doing = resting }
in_hand (e ∷ es) upto f = held_by (e ∷ es) upto f

-- the batch of the reply in hand, which was not looked at
abbrev pub unread : cursors.Doing → Option Tree → Follow → Follow
unread rests upto f = f
unread (holds reply) upto f = held_by (event_fields reply) upto f
unread (asks sending) upto f = f

-- by what its cursor asks for
abbrev pub with_more : Awaited → cursors.Doing → List Fields → Option Tree → Follow → Follow
with_more awaited rests events upto f = in_hand events upto f
with_more awaited (holds reply) events upto f = held_by (event_fields reply) upto f
with_more awaited (asks sending) events upto f = at_stage (record f { doing = resting }) (λ place. record f { doing = asking place }) awaited sending.stage

-- an old cursor that is to be killed, where that was not tried yet
abbrev pub older_by : Awaited → ClientCursor → Option Sending → Follow → Follow
older_by awaited c None f = record f { old = c.id }
older_by awaited c (Some sending) f = at_stage (record f { old = c.id }) (λ place. f) awaited sending.stage

abbrev pub with_older : Awaited → ClosingCursor → Follow → Follow
with_older awaited before f = older_by awaited before.cursor before.killing f

-- by what is on its way
abbrev pub follow_by : Awaited → Doing → ClientCursor → List Fields → Follow → Follow
follow_by awaited follows c events f = with_more awaited c.doing events c.token f
follow_by awaited owes c events f = f
follow_by awaited (resumes sending) c events f = at_stage f (λ place. record f { doing = resuming place }) awaited sending.stage
follow_by awaited (kills before) c events f = with_older awaited before (unread c.doing c.token f)
follow_by awaited renewed c events f = unread c.doing c.token f

-- what an open stream is doing, which the call at `opened` opened, and which has answered these events
abbrev pub follow_of : Awaited → Watch → Start → ClientStream → Option ℕ → List Fields → Follow
follow_of awaited w start s opened answered = follow_by awaited s.doing s.cursor (map fields s.behind) (idle_by w start opened s.cursor.id (stream_token s) answered)

-- ---- openings

-- a watch that is not open
abbrev pub not_open : Watch → Start → Follow
not_open w start = record { doing = unopened; watch = w; start = start; opened = None; cursor = pos 0; old = pos 0; ahead = []; upto = None; token = None; answered = [] }

-- the aggregate that opens a stream, before it is sent and while it waits
abbrev pub opening_by : Awaited → Option Sending → Watch → Start → Follow
opening_by awaited None w start = not_open w start
opening_by awaited (Some sending) w start = at_stage (not_open w start) (λ place. record (not_open w start) { doing = starting place }) awaited sending.stage

abbrev pub opening_in : Awaited → Watch → Start → ClientOpening → Follow
opening_in awaited w start o = opening_by awaited o.sending w start

-- where a watch is behind a poll of its opening
abbrev pub OpensTo : Awaited → LogTold → LogTold → Follow → Watch → Start → Step ClientOpening ClientStream → Type 0
OpensTo new log log' f w start (step.Pending o) = Moved log log' f (opening_in new w start o)
OpensTo new log log' f w start (step.Done s) = (opened : Option ℕ) × Moved log log' f (follow_of new w start s opened [])
OpensTo new log log' f w start (step.Failed e) = Moved log log' f (not_open w start)

abbrev pub OpeningMoves : Awaited → Awaited → LogTold → LogTold → Watch → Start → ClientOpening → Step ClientOpening ClientStream → Type 0
OpeningMoves old new log log' w start o r = OpensTo new log log' (opening_in old w start o) w start r

-- ---- closings

-- a stream of which these two cursors are left
abbrev pub left_as : Watch → Start → Option ℕ → Option Tree → List Fields → ℤ → ℤ → Follow
left_as w start opened token answered cursor old = record (idle_by w start opened cursor token answered) { old = old }

-- by what is left of its getMore
abbrev pub with_landing : Awaited → cursors.Doing → Follow → Follow
with_landing awaited rests f = f
with_landing awaited (holds reply) f = f
with_landing awaited (asks sending) f = at_stage (record f { doing = resting }) (λ place. record f { doing = asking place }) awaited sending.stage

abbrev pub closing_by : Awaited → Landing → ClientCursor → Follow → Follow
closing_by awaited lands c f = with_landing awaited c.doing f
closing_by awaited (lands_aggregate sending) c f = at_stage f (λ place. record f { doing = resuming place }) awaited sending.stage
closing_by awaited (lands_replaced before) c f = with_older awaited before f
closing_by awaited (ends sending) c f = f

-- what a closing is doing, whose stream had this token, and has answered these events
abbrev pub follow_closing : Awaited → Watch → Start → Option Tree → ClosingStream → Option ℕ → List Fields → Follow
follow_closing awaited w start token k opened answered = closing_by awaited k.doing k.cursor (left_as w start opened token answered k.cursor.id k.opened)

-- and behind a poll of it: nothing is left where it has ended
abbrev pub follow_closed : Awaited → Watch → Start → Option Tree → Option ℕ → List Fields → Step ClosingStream (Unit {0}) → Follow
follow_closed awaited w start token opened answered (step.Pending k) = follow_closing awaited w start token k opened answered
follow_closed awaited w start token opened answered (step.Done t) = left_as w start opened token answered (pos 0) (pos 0)
follow_closed awaited w start token opened answered (step.Failed e) = left_as w start opened token answered (pos 0) (pos 0)

-- of a closing that goes on
abbrev pub OnPending : {A B : Type 0} → Step A B → (A → Type 0) → Type 0
OnPending (step.Pending a) P = P a
OnPending (step.Done b) P = Unit {0}
OnPending (step.Failed e) P = Unit {0}

-- ---- answers

-- the event that a poll answered
abbrev pub event_told : EventPoll → List Fields
event_told poll.Pending = []
event_told (poll.Ready None) = []
event_told (poll.Ready (Some event)) = fields event ∷ []
event_told (poll.Failed e) = []

-- the event that is lent
abbrev pub current_told : Option (List ℕ) → List Fields
current_told None = []
current_told (Some event) = fields event ∷ []

abbrev pub result_told : AdvanceResult (Unit {0}) → Option (List ℕ) → List Fields
result_told (result.Advanced t) current = current_told current
result_told result.Exhausted current = []
result_told result.Waiting current = []

-- where a poll answered one
abbrev pub try_told : TryPoll → Option (List ℕ) → List Fields
try_told try.Pending current = []
try_told (try.Ready r) current = result_told r current
try_told (try.Failed e) current = []

-- ---- steps

-- a step led the stream on
pub record Turned (old new : Awaited) (log log' : LogTold) (s s' : ClientStream) : Type 0 where
  pub args : s'.aggregate.args ≡ s.aggregate.args
  pub moved : (w : Watch) (start : Start) → Asks s.aggregate.args w start → (opened : Option ℕ) (answered : List Fields) → Moved log log' (follow_of old w start s opened answered) (follow_of new w start s' opened answered)

-- the same of what is given of the batch in hand, without a link
pub record Turns (s s' : ClientStream) (told : List Fields) : Type 0 where
  pub args : s'.aggregate.args ≡ s.aggregate.args
  pub moved : (log : LogTold) (awaited : Awaited) (w : Watch) (start : Start) (opened : Option ℕ) (answered : List Fields) → Moved log log (follow_of awaited w start s opened answered) (follow_of awaited w start s' opened (answered ++ told))
