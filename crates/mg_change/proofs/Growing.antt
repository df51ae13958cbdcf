-- What a call of a stream had come to it has come to still at a later time.
use Rattle.std.proofs.Common.{ℕ, ℤ, Bool, true, false, List, ◌∷◌, Option, sym, subst, inl, inr}
use Rattle.mg_server.specs.Calls.{Grows, HeardLast, NoneBroken, Past, RequestFails}
use Rattle.mg_link.specs.Log.{reply}
use Rattle.mg_link.specs.Session.{Session}
use Rattle.mg_link.specs.declared.error.Error.{Error}
use Rattle.mg_server.proofs.Pasts.{heard_reply, last_reply, request_fails_grows}
use Rattle.mg_cursor.specs.Causes.{HeardMore, MoreFails, TellsNoCursor}
use Rattle.mg_cursor.specs.Client.{ClientCursor, at_rest, get_more, kill}
use Rattle.mg_cursor.specs.Closing.{ClosingCursor, ClosingDone, ClosingFails, killed, not_killed, not_needed, out_of_memory}
use Rattle.mg_cursor.proofs.ClosedCaused.{left_grows}
use Rattle.mg_change.specs.Causes.{ResumptionFails, CallEmpty, CallFailed, CallFails, CallGave, CallNone, HeardAggregate, Killed, MayLose, MoreFailed, Next, Replied, Resumed, Resumes, StaysSo, as_it_was, asking, batch_broken, broken, came, came_empty, cannot_ask, cannot_resume, closing, first_broken, in_hand, is_lone, left, may_lose, more, more_failed, no_id, no_memory, none_held, none_left, not_resumed, once_more, opening, owed, refused_more, resuming, tried, untold, was_killed}
use Rattle.mg_change.specs.ClientStreams.{ClientStream, is_read_again, resuming_in}
use Rattle.mg_change.specs.Steps.{CannotResume}

module _ (past past' : Past) (grows : Grows past past') where
  pub heard_more_grows : (c : ClientCursor) (bytes : List ℕ) → HeardMore past c bytes → HeardMore past' c bytes
  heard_more_grows c bytes h = record { session = h.session; heard = heard_reply past past' grows (get_more c h.session) bytes h.heard; success = h.success }

  pub more_fails_grows : (c : ClientCursor) (e : Error) → MoreFails past c e → MoreFails past' c e
  more_fails_grows c e h = record { session = h.session; fails = request_fails_grows past past' grows (get_more c h.session) false TellsNoCursor e h.fails }

  pub more_failed_grows : (at : ClientStream) (e : Error) (c : ClientCursor) → MoreFailed past at e c → MoreFailed past' at e c
  more_failed_grows at e c (untold may (inl why) is) = untold may (inl (more_fails_grows at.cursor e why)) is
  more_failed_grows at e c (untold may (inr room) is) = untold may (inr room) is
  more_failed_grows at e c (broken may bytes said h says is breaks) = broken may bytes said (heard_more_grows at.cursor bytes h) says is breaks

  pub resumes_grows : (at : ClientStream) (c : ClientCursor) → Resumes past at c → Resumes past' at c
  resumes_grows at c (owed is cursor) = owed is cursor
  resumes_grows at c (more_failed e why is) = more_failed e (more_failed_grows at e c why) is
  resumes_grows at c (first_broken bytes e held breaks is) = first_broken bytes e held breaks is

  heard_aggregate_grows : (lone : Bool) (at : ClientStream) (bytes : List ℕ) → HeardAggregate past lone at bytes → HeardAggregate past' lone at bytes
  heard_aggregate_grows lone at bytes h = record {
    session = h.session;
    plainly = h.plainly;
    heard = subst (λ (w : ℤ). HeardLast past' (resuming_in at.aggregate w h.session) (is_read_again h.session) (reply bytes)) (sym grows.wire)
        (last_reply past past' grows (resuming_in at.aggregate past.wire h.session) (is_read_again h.session) bytes h.heard);
    success = h.success;
  }

  pub resumed_grows : (lone : Bool) (at : ClientStream) (old : ClientCursor) (bytes : List ℕ) (c : ClientCursor) → Resumed past lone at old bytes c → Resumed past' lone at old bytes c
  resumed_grows lone at old bytes c r = record { why = resumes_grows at old r.why; heard = heard_aggregate_grows lone at bytes r.heard; out = r.out; opens = r.opens; cursor_is = r.cursor_is }

  pub closing_done_grows : (k : ClosingCursor) → ClosingDone past k → ClosingDone past' k
  closing_done_grows k (not_needed c why over) = not_needed c (left_grows past past' grows k c why) over
  closing_done_grows k (killed c why may bytes heard success) = killed c (left_grows past past' grows k c why) may bytes (heard_reply past past' grows (kill c) bytes heard) success

  pub closing_fails_grows : (k : ClosingCursor) (e : Error) → ClosingFails past k e → ClosingFails past' k e
  closing_fails_grows k e (out_of_memory room) = out_of_memory room
  closing_fails_grows k e (not_killed c why may (inl fails)) = not_killed c (left_grows past past' grows k c why) may (inl (request_fails_grows past past' grows (kill c) false NoneBroken e fails))
  closing_fails_grows k e (not_killed c why may (inr cannot)) = not_killed c (left_grows past past' grows k c why) may (inr cannot)

  pub killed_grows : (old : ClientCursor) → Killed past old → Killed past' old
  killed_grows old (none_held over) = none_held over
  killed_grows old (was_killed may bytes heard success) = was_killed may bytes (heard_reply past past' grows (kill old) bytes heard) success
  killed_grows old (tried may e room (inl fails)) = tried may e room (inl (request_fails_grows past past' grows (kill old) false NoneBroken e fails))
  killed_grows old (tried may e room (inr cannot)) = tried may e room (inr cannot)

  pub replied_grows : (lone : Bool) (at : ClientStream) (again : Bool) (bytes : List ℕ) (c : ClientCursor) → Replied past lone at again bytes c → Replied past' lone at again bytes c
  replied_grows lone at again bytes c (opening not held is) = opening not held is
  replied_grows lone at again bytes c (more not may said h says is) = more not may said (heard_more_grows at.cursor bytes h) says is
  replied_grows lone at again bytes c (once_more so old new r gone is) = once_more so old new (resumed_grows lone at old bytes new r) (killed_grows old gone) is

  pub next_grows : (lone : Bool) (at : ClientStream) (events : List (List ℕ)) (c : ClientCursor) → Next past lone at events c → Next past' lone at events c
  next_grows lone at events c (left settled is cursor) = left settled is cursor
  next_grows lone at events c (came empty again bytes replied holds) = came empty again bytes (replied_grows lone at again bytes c replied) holds

  pub gave_grows : (lone : Bool) (at after : ClientStream) (event : List ℕ) → CallGave past lone at after event → CallGave past' lone at after event
  gave_grows lone at after event g = record { next = next_grows lone at (event ∷ after.behind) after.cursor g.next; id = g.id; has = g.has; remembers = g.remembers; settled = g.settled }

  none_grows : (lone : Bool) (at after : ClientStream) (again : Bool) → CallNone past lone at after again → CallNone past' lone at after again
  none_grows lone at after again (came_empty empty bytes replied holds remembers) = came_empty empty bytes (replied_grows lone at again bytes after.cursor replied) holds remembers
  none_grows lone at after again (none_left not settled empty over aggregate cursor) = none_left not settled empty over aggregate cursor

  pub empty_grows : (lone : Bool) (at after : ClientStream) (again : Bool) → CallEmpty past lone at after again → CallEmpty past' lone at after again
  empty_grows lone at after again e = record { why = none_grows lone at after again e.why; empty = e.empty; settled = e.settled }

  stays_grows : (lone : Bool) (at after : ClientStream) → StaysSo past lone at after → StaysSo past' lone at after
  stays_grows lone at after (as_it_was settled cursor events doing) = as_it_was settled cursor events doing
  stays_grows lone at after (in_hand again bytes replied holds some settled) = in_hand again bytes (replied_grows lone at again bytes after.cursor replied) holds some settled

  may_lose_grows : (lone : Bool) (at : ClientStream) (c : ClientCursor) → MayLose past lone at c → MayLose past' lone at c
  may_lose_grows lone at c (asking may is) = asking may is
  may_lose_grows lone at c (resuming why) = resuming (resumes_grows at (at_rest c) why)
  may_lose_grows lone at c (closing old bytes r held) = closing old bytes (resumed_grows lone at old bytes c r) held

  aggregate_fails_grows : (lone : Bool) (at : ClientStream) (e : Error) → ResumptionFails past lone at e → ResumptionFails past' lone at e
  aggregate_fails_grows lone at e h = record {
    session = h.session;
    plainly = h.plainly;
    fails = subst (λ (w : ℤ). RequestFails past' (resuming_in at.aggregate w h.session) (is_read_again h.session) TellsNoCursor e) (sym grows.wire)
        (request_fails_grows past past' grows (resuming_in at.aggregate past.wire h.session) (is_read_again h.session) TellsNoCursor e h.fails);
  }

  call_fails_grows : (session : Option Session) (at after : ClientStream) (e : Error) → CallFails past session at after e → CallFails past' session at after e
  call_fails_grows session at after e (may_lose room owes may) = may_lose room owes (may_lose_grows (is_lone session) at after.cursor may)
  call_fails_grows session at after e (no_memory room stays) = no_memory room (stays_grows (is_lone session) at after stays)
  call_fails_grows session at after e (not_resumed owes why fails) = not_resumed owes (resumes_grows at (at_rest after.cursor) why) (aggregate_fails_grows (is_lone session) at e fails)
  call_fails_grows session at after e (batch_broken bytes owes replied breaks) = batch_broken bytes owes (replied_grows (is_lone session) at true bytes after.cursor replied) breaks
  call_fails_grows session at after e (cannot_resume owes why now by) = cannot_resume owes (resumes_grows at (at_rest after.cursor) why) now (by.0, subst (λ (w : ℤ). CannotResume at.aggregate w now e) (sym grows.wire) by.1)
  call_fails_grows session at after e (refused_more may fails final cursor empty settled) = refused_more may (more_fails_grows at.cursor e fails) final cursor empty settled
  call_fails_grows session at after e (cannot_ask may by cursor empty settled) = cannot_ask may by cursor empty settled
  call_fails_grows session at after e (no_id event next lacks is settled) = no_id event (next_grows (is_lone session) at (event ∷ after.behind) after.cursor next) lacks is settled

  pub call_failed_grows : (session : Option Session) (at after : ClientStream) (e : Error) → CallFailed past session at after e → CallFailed past' session at after e
  call_failed_grows session at after e f = record { why = call_fails_grows session at after e f.why; token = f.token }
