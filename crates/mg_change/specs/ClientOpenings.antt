-- The opening of a change stream (change streams specification).
use Rattle.std.specs.Prelude.{◌≡◌, ℕ, ℤ, Bool, false, List, Option, Some, None, is_some}
use Rattle.mg_bson.specs.Raw.{fields}
use Rattle.mg_bson.specs.Tree.{Tree}
use Rattle.mg_bson.specs.declared.tree.Timestamp.{Timestamp}
use Rattle.mg_link.specs.Exec.{RunsStarting, Sending, ticket_of}
use Rattle.mg_link.specs.Link.{Awaited, SendsNothing, LogTold}
use Rattle.mg_link.specs.Session.{Session}
use Rattle.mg_link.specs.declared.action.Step.{Step}
use Rattle.mg_link.specs.declared.action.Step.TheVariants as step
use Rattle.mg_link.specs.declared.error.Error.{Error}
use Rattle.mg_options.specs.Tokens.{first_token}
use Rattle.mg_ops.specs.Cursors.{BreaksIn}
use Rattle.mg_ops.specs.Failing.{FailsBy}
use Rattle.mg_ops.specs.Resuming.{saved_time}
use Rattle.mg_ops.specs.declared.aggregate.ChangeStreamAggregate.{ChangeStreamAggregate}
use Rattle.mg_ops.specs.declared.change_stream.ChangeStreamData.{ChangeStreamData}
use Rattle.mg_ops.specs.declared.change_stream.WatchArgs.{WatchArgs}
use Rattle.mg_ops.specs.declared.cursor_reply.CursorSpecification.{CursorSpecification}
use Rattle.mg_change.specs.ClientStreams.{ClientStream, IsAggregate, IsNewAggregate, new_stream, resuming_in}
use Rattle.mg_change.specs.Steps.{CannotResume, OpensCursor}

pub record ClientOpening : Type 0 where
  -- what is watched, and how
  pub args : WatchArgs
  -- its aggregate, once it is on its way
  pub sending : Option Sending

-- nothing is remembered yet
abbrev pub first_aggregate : WatchArgs → ChangeStreamAggregate
first_aggregate args = record { args = args; resume = None }

abbrev pub sending_ticket : Option Sending → Option ℕ
sending_ticket None = None
sending_ticket (Some sending) = ticket_of sending

abbrev pub opening_ticket : ClientOpening → Option ℕ
opening_ticket o = sending_ticket o.sending

abbrev pub SendsSoundly : Bool → WatchArgs → Option Sending → Type 0
SendsSoundly plain args None = Unit {0}
SendsSoundly plain args (Some sending) = IsAggregate plain (first_aggregate args) sending

-- what is on its way is the aggregate of its arguments
abbrev pub IsSoundOpening : Bool → ClientOpening → Type 0
IsSoundOpening plain o = SendsSoundly plain o.args o.sending

-- ---- what a new stream remembers

-- its first token, and else the time of the reply to its opening
abbrev pub first_known : WatchArgs → ℤ → Bool → Option Tree → Option Timestamp → ChangeStreamData
first_known args wire is_empty upto time = record {
  initial_operation_time = saved_time args.options wire is_empty (is_some upto) time;
  resume_token = first_token args.options.start_after args.options.resume_after is_empty upto;
  document_returned = false;
}

-- the stream of a reply to the aggregate, over a link of this wire version
abbrev pub opened_with : WatchArgs → ℤ → CursorSpecification × Option Timestamp → ClientStream
opened_with args wire out = new_stream (record { args = args; resume = Some (first_known args wire out.0.is_empty out.0.post_batch_resume_token out.1) }) out.0

-- ---- a poll

-- a reply to the aggregate opens the stream; or it breaks the grammar of a cursor, or memory ran out as it was read
pub data ReadsOpening (wire : ℤ) (o : ClientOpening) (reply : List ℕ) (r : Step ClientOpening ClientStream) : Type 0 where
  opened : (out : CursorSpecification × Option Timestamp) → OpensCursor (first_aggregate o.args) reply out → r ≡ step.Done (opened_with o.args wire out) → ReadsOpening wire o reply r
  broke : (e : Error) → FailsBy (BreaksIn (fields reply)) e → r ≡ step.Failed e → ReadsOpening wire o reply r

-- what comes of a poll of the aggregate
abbrev pub HearsOpening : ℤ → ClientOpening → Step Sending (List ℕ) → Step ClientOpening ClientStream → Type 0
HearsOpening wire o (step.Pending sending) r = r ≡ step.Pending (record o { sending = Some sending })
HearsOpening wire o (step.Done reply) r = ReadsOpening wire o reply r
HearsOpening wire o (step.Failed e) r = r ≡ step.Failed e

pub record RunsOpening (old new : Awaited) (log log' : LogTold) (wire : ℤ) (started : Bool) (o : ClientOpening) (sending : Sending) (r : Step ClientOpening ClientStream) : Type 0 where
  pub came : Step Sending (List ℕ)
  pub runs : RunsStarting old new log log' wire sending came started
  pub hears : HearsOpening wire o came r

-- What a poll of an opening does.
pub data OpensStream (old new : Awaited) (log log' : LogTold) (wire : ℤ) (session : Option Session) (started : Bool) (o : ClientOpening) (r : Step ClientOpening ClientStream) : Type 0 where
  -- the aggregate is not built, and nothing is sent
  not_built : o.sending ≡ None → (e : Error) → FailsBy (CannotResume (first_aggregate o.args) wire session) e → SendsNothing old new log log' → started ≡ false → r ≡ step.Failed e → OpensStream old new log log' wire session started o r
  -- it is sent
  begins : o.sending ≡ None → (sending : Sending) → IsNewAggregate (resuming_in (first_aggregate o.args) wire session) session sending → RunsOpening old new log log' wire started o sending r → OpensStream old new log log' wire session started o r
  -- or waited for
  goes_on : (sending : Sending) → o.sending ≡ Some sending → RunsOpening old new log log' wire started o sending r → OpensStream old new log log' wire session started o r

-- ---- answers, as they are seen

abbrev pub seen_step : {A B C D : Type 0} → (A → C) → (B → D) → Step A B → Step C D
seen_step goes gives (step.Pending a) = step.Pending (goes a)
seen_step goes gives (step.Done b) = step.Done (gives b)
seen_step goes gives (step.Failed e) = step.Failed e

-- what an opening that goes on keeps, and the stream that it gives
abbrev pub KeepsOpening : {A B : Type 0} → (A → Type 0) → (B → Type 0) → Step A B → Type 0
KeepsOpening Goes Gives (step.Pending a) = Goes a
KeepsOpening Goes Gives (step.Done b) = Gives b
KeepsOpening Goes Gives (step.Failed e) = Unit {0}

-- ---- for private clauses

-- the aggregate that is sent next: the one on its way, or a new one
abbrev pub IsNextSent : ChangeStreamAggregate → ℤ → Option Session → Option Sending → Sending → Type 0
IsNextSent a wire session None sending = IsNewAggregate (resuming_in a wire session) session sending
IsNextSent a wire session (Some sent) sending = sending ≡ sent
