-- What a call of a stream leaves as it is, and how far one has come as it begins.
use Rattle.std.proofs.Common.{◌≡◌, ℕ, zero, suc, ℤ, Bool, Option, Some, None, refl, ap, ◌∙◌, inl, inr}
use Rattle.mg_server.specs.Calls.{Past}
use Rattle.mg_link.specs.Link.{Awaited, LogTold}
use Rattle.mg_link.specs.Moment.{Ending, pending, finished, failed}
use Rattle.mg_link.specs.Session.{Session}
use Rattle.mg_ops.specs.declared.change_stream.WatchArgs.{WatchArgs}
use Rattle.mg_cursor.specs.Client.{PlainIf, asks, holds, rests}
use Rattle.mg_cursor.specs.Client as cursors
use Rattle.mg_cursor.specs.Closing.{IsNotAsking}
use Rattle.mg_cursor.specs.declared.polls.TryPoll.{TryPoll}
use Rattle.mg_cursor.specs.declared.polls.TryPoll.TheVariants as try
use Rattle.mg_cursor.specs.declared.results.AdvanceResult.TheVariants as result
use Rattle.mg_change.specs.Causes.{ByCursor, ByDoing, SoFar, owed}
use Rattle.mg_change.specs.ClientStreams.{ClientStream, Doing, IsBetween, IsIdle, IsSound, SoundBy, follows, kills, lends_nothing, owes, renewed, resumes}
use Rattle.mg_change.specs.StreamCalls.{CallLends, CopiesEvent, EndsSeeking, LendsBehind, SeeksEvent, closed, event_ending, fails, finds, kept_behind, over, pends, session_behind, too_often, try_ending}
use Rattle.mg_change.specs.declared.event_poll.EventPoll.{EventPoll}
use Rattle.mg_change.specs.declared.event_poll.EventPoll.TheVariants as poll
use Rattle.mg_change.specs.declared.event_poll.Stepped.{Stepped}
use Rattle.mg_change.specs.declared.event_poll.Stepped.TheVariants as stepped
use Rattle.mg_change.proofs.Calls.{plain_behind, steps_went}
use Rattle.mg_change.proofs.Keeping.{sound_as}

-- ---- what is watched

abbrev args_of : ClientStream → WatchArgs
args_of s = s.aggregate.args

kept_args : (x : Ending) (s : ClientStream) → (kept_behind x s).aggregate.args ≡ s.aggregate.args
kept_args pending s = refl
kept_args finished s = refl
kept_args (failed e) s = refl

let_go_sound : (plain : Bool) (s : ClientStream) → IsSound plain s → IsSound plain (lends_nothing s)
let_go_sound plain s sound = sound_as plain s (lends_nothing s) refl refl refl refl sound

-- ---- a call that lends

lent_args : (came : Stepped) (left lent : ClientStream) (r : TryPoll) → LendsBehind came left lent r → lent.aggregate.args ≡ left.aggregate.args
lent_args stepped.Goes left lent r h = absurd h
lent_args stepped.Found left lent try.Pending h = absurd h
lent_args stepped.Found left lent (try.Ready (result.Advanced t)) h = ap args_of h.1.given
lent_args stepped.Found left lent (try.Ready result.Exhausted) h = absurd h
lent_args stepped.Found left lent (try.Ready result.Waiting) h = absurd h
lent_args stepped.Found left lent (try.Failed e) h = ap args_of h.passed
lent_args (stepped.Gives p) left lent r h = ap args_of h.0

pub lends_args : (n : ℕ) (plain : Bool) (old new : Awaited) (log log' : LogTold) (wire : ℤ) (session : Option Session) (starts : ℕ) (s s' : ClientStream) (r : TryPoll) → IsSound plain s → PlainIf plain session → CallLends n old new log log' wire session starts s s' r → s'.aggregate.args ≡ s.aggregate.args
lends_args n plain old new log log' wire session starts s s' r sound plainly h =
    let went = steps_went n plain old new log log' wire session starts h.again (lends_nothing s) h.left h.came (let_go_sound plain s sound) plainly h.does in
    ap args_of h.kept ∙ kept_args (try_ending r) h.lent ∙ lent_args h.came h.left h.lent r h.lends ∙ went.turned.args

-- ---- a call that seeks an event

copied_args : (left copied : ClientStream) (r : EventPoll) → CopiesEvent left copied r → copied.aggregate.args ≡ left.aggregate.args
copied_args left copied poll.Pending h = absurd h
copied_args left copied (poll.Ready None) h = absurd h
copied_args left copied (poll.Ready (Some event)) h = ap args_of h.given
copied_args left copied (poll.Failed e) (inl h) = ap args_of h.passed
copied_args left copied (poll.Failed e) (inr h) = ap args_of h.same

ended_args : (again : Bool) (came : Stepped) (left ended : ClientStream) (r : EventPoll) → EndsSeeking again came left ended r → ended.aggregate.args ≡ left.aggregate.args
ended_args again came left ended r (finds is copies) = copied_args left ended r copies
ended_args again came left ended r (pends is same answer) = ap args_of same
ended_args again came left ended r (over is same answer) = ap args_of same
ended_args again came left ended r (closed is over_so same answer) = ap args_of same
ended_args again came left ended r (too_often is open_still many same answer) = ap args_of same
ended_args again came left ended r (fails e is same answer) = ap args_of same

pub seeks_args : (n : ℕ) (plain : Bool) (old new : Awaited) (log log' : LogTold) (wire : ℤ) (session : Option Session) (starts : ℕ) (s s' : ClientStream) (r : EventPoll) → IsSound plain s → PlainIf plain session → SeeksEvent n old new log log' wire session starts s s' r → s'.aggregate.args ≡ s.aggregate.args
unfolding SeeksEvent
seeks_args zero plain old new log log' wire session starts s s' r sound plainly h =
    let went = steps_went h.steps plain old new log log' wire session starts h.again s h.left h.came sound plainly h.does in
    ap args_of h.kept ∙ kept_args (event_ending r) h.ended ∙ ended_args h.again h.came h.left h.ended r h.ends ∙ went.turned.args
seeks_args (suc n) plain old new log log' wire session starts s s' r sound plainly h =
    let on = h.5 in
    let t = h.4 in
    let went = steps_went on.steps plain old h.0 log h.1 wire session h.2 on.again s on.left on.came sound plainly on.does in
    let counts = on.goes.counts in
    let sound_so : IsSound plain t = sound_as plain on.left t (ap (λ (x : ClientStream). x.aggregate) counts) (ap (λ (x : ClientStream). x.cursor) counts) (ap (λ (x : ClientStream). x.behind) counts) (ap (λ (x : ClientStream). x.doing) counts) went.sound in
    seeks_args n plain h.0 new h.1 log' wire (session_behind h.2 session) h.3 t s' r sound_so (plain_behind plain h.2 session plainly) h.7 ∙ ap args_of counts ∙ went.turned.args

-- the same of a stream that lends nothing any more, as the call begins
pub seeks_args_from : (n : ℕ) (plain : Bool) (old new : Awaited) (log log' : LogTold) (wire : ℤ) (session : Option Session) (starts : ℕ) (s s' : ClientStream) (r : EventPoll) → IsSound plain s → PlainIf plain session → SeeksEvent n old new log log' wire session starts (lends_nothing s) s' r → s'.aggregate.args ≡ s.aggregate.args
seeks_args_from n plain old new log log' wire session starts s s' r sound plainly h = seeks_args n plain old new log log' wire session starts (lends_nothing s) s' r (let_go_sound plain s sound) plainly h

-- ---- where a call begins

module _ (awaited : Awaited) (past : Past) (s : ClientStream) where
  begins_cursor : (d : cursors.Doing) → IsNotAsking d → s.doing ≡ follows → ByCursor awaited past s s d
  begins_cursor rests quiet on = record { follows_on = on; cursor = refl; events = refl }
  begins_cursor (holds bytes) quiet on = record { follows_on = on; cursor = refl; events = refl }
  begins_cursor (asks sending) quiet on = absurd quiet

  begins_by : (plain lone : Bool) (d : Doing) → s.doing ≡ d → IsIdle d → IsNotAsking s.cursor.doing → SoundBy plain s d → ByDoing awaited past lone s s d
  begins_by plain lone follows on idle quiet by = begins_cursor s.cursor.doing quiet on
  begins_by plain lone owes on idle quiet by = owed (record { owes_one = on; none_left = by.none_left }) refl
  begins_by plain lone (resumes sending) on idle quiet by = absurd idle
  begins_by plain lone (kills before) on idle quiet by = absurd idle
  begins_by plain lone renewed on idle quiet by = absurd idle

  -- nothing was sent yet
  pub begins_so : (plain lone : Bool) → IsSound plain s → IsBetween s → SoFar awaited past lone s s
  begins_so plain lone sound rest = record { same = refl; by = begins_by plain lone s.doing refl rest.idle rest.quiet sound.by }
