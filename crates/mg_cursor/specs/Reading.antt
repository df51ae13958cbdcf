-- A cursor as the reader of a query's result.
use Rattle.std.specs.Prelude.{◌≡◌, ◌≤◌, ◌++◌, ◌+◌, ◌||◌, ℕ, suc, pos, List, [], ◌∷◌, map, take, Option, Some, None, option_map, unwrap_or, Bool, true, false}
use Rattle.mg_bson.specs.Raw.{fields}
use Rattle.mg_bson.specs.Tree.{Fields}
use Rattle.mg_link.specs.Exec.{Stage, unsent, first, second}
use Rattle.mg_server.specs.History.{IsLegal, Step, state_of}
use Rattle.mg_link.specs.Link.{Awaited}
use Rattle.mg_link.specs.Log.{Call}
use Rattle.mg_server.specs.Query.{Query, result as result_of}
use Rattle.mg_server.specs.Reader.{Fetching, still, fetching, HasEnded, OpenedBy, Portion, Reader, all_in, kept_in, losses_in}
use Rattle.mg_server.specs.Standing.{Stands}
use Rattle.mg_link.specs.declared.error.Error.{Error}
use Rattle.mg_cursor.specs.Batches.{documents_of}
use Rattle.mg_cursor.specs.Client.{ClientCursor, Doing, rests, holds, asks, is_ending}
use Rattle.mg_cursor.specs.Documents.{DocumentCursor}
use Rattle.mg_cursor.specs.declared.polls.NextPoll.{NextPoll}
use Rattle.mg_cursor.specs.declared.polls.NextPoll.TheVariants as next
use Rattle.mg_cursor.specs.declared.polls.TryPoll.{TryPoll}
use Rattle.mg_cursor.specs.declared.polls.TryPoll.TheVariants as try
use Rattle.mg_cursor.specs.declared.polls.AdvancePoll.{AdvancePoll}
use Rattle.mg_cursor.specs.declared.polls.AdvancePoll.TheVariants as advance
use Rattle.mg_cursor.specs.declared.polls.ItemPoll.{ItemPoll}
use Rattle.mg_cursor.specs.declared.polls.ItemPoll.TheVariants as item
use Rattle.mg_cursor.specs.declared.results.AdvanceResult.{AdvanceResult}
use Rattle.mg_cursor.specs.declared.results.AdvanceResult.TheVariants as result

-- the documents of a batch; none where it is none
abbrev pub batch_documents : List ℕ → List Fields
batch_documents reply = unwrap_or (option_map (map fields) (documents_of reply)) []

-- its getMore, as far as it has come
abbrev pub fetching_at : Awaited → Stage → Fetching
fetching_at awaited unsent = still
fetching_at awaited (first ticket) = fetching (awaited ticket)
fetching_at awaited (second ticket) = fetching (awaited ticket)

abbrev pub fetching_by : Awaited → Doing → Fetching
fetching_by awaited rests = still
fetching_by awaited (holds reply) = still
fetching_by awaited (asks sending) = fetching_at awaited sending.stage

-- the documents of the reply in hand
abbrev pub in_reply : Doing → List Fields
in_reply rests = []
in_reply (holds reply) = batch_documents reply
in_reply (asks sending) = []

-- the reader, where its cursor stands so
abbrev pub reader_at : Awaited → ClientCursor → List Fields → Reader → Reader
reader_at awaited c ahead r = record r { doing = fetching_by awaited c.doing; cursor = c.id; ahead = ahead ++ in_reply c.doing }

-- with its batches
abbrev pub reader_in : Awaited → ClientCursor → Reader → Reader
reader_in awaited c r = reader_at awaited c [] r

-- with its documents
abbrev pub reader_of : Awaited → DocumentCursor → Reader → Reader
reader_of awaited d r = reader_at awaited d.cursor (map fields d.behind) r

-- ---- what an answer hands out

abbrev pub with_given : List Fields → Reader → Reader
with_given documents r = record r { given = r.given ++ documents }

-- a call that failed may have lost a batch
abbrev pub with_loss : Error → Reader → Reader
with_loss e r = record r { losses = r.losses + 1; refused = r.refused || is_ending e.kind }

abbrev pub told_next : NextPoll → Reader → Reader
told_next next.Pending r = r
told_next (next.Batch reply) r = with_given (batch_documents reply) r
told_next next.End r = r
told_next (next.Failed e) r = with_loss e r

-- the current document
abbrev pub with_current : Option (List ℕ) → Reader → Reader
with_current None r = r
with_current (Some document) r = with_given (fields document ∷ []) r

abbrev pub told_result : AdvanceResult (Unit {0}) → Option (List ℕ) → Reader → Reader
told_result (result.Advanced t) current r = with_current current r
told_result result.Exhausted current r = r
told_result result.Waiting current r = r

abbrev pub told_try : TryPoll → Option (List ℕ) → Reader → Reader
told_try try.Pending current r = r
told_try (try.Ready a) current r = told_result a current r
told_try (try.Failed e) current r = with_loss e r

-- the current document, where there is one
abbrev pub told_there : Bool → Option (List ℕ) → Reader → Reader
told_there true current r = with_current current r
told_there false current r = r

abbrev pub told_advance : AdvancePoll → Option (List ℕ) → Reader → Reader
told_advance advance.Pending current r = r
told_advance (advance.Ready there) current r = told_there there current r
told_advance (advance.Failed e) current r = with_loss e r

-- a document that was not copied counts as given
abbrev pub told_item : ItemPoll → Option (List ℕ) → Reader → Reader
told_item item.Pending current r = r
told_item (item.Item document) current r = with_given (fields document ∷ []) r
told_item item.End current r = r
told_item (item.Failed e) current r = with_current current (with_loss e r)

-- ---- its beginning and its end

-- the reader of the query that the command at this place asks, before it is told of its cursor
abbrev pub new_reader : Query → ℕ → Reader
new_reader q place = record { query = q; opened = place; doing = still; cursor = pos 0; given = []; ahead = []; losses = 0; refused = false }

-- what was given, and why the cursor has ended, in a history in which the log stands: the call opened it at this position
pub record EndedIn (history : List Step) (r : Reader) (call : Call) : Type 0 where
  pub position : ℕ
  pub placed : call.position ≡ Some position
  pub all : List Fields
  pub fixed : result_of (state_of (take (suc position) history)) r.query ≡ Some all
  pub portions : List Portion
  -- what the server has not given to anybody
  pub left : List Fields
  pub cut : all ≡ all_in portions ++ left
  pub given : kept_in portions ≡ r.given
  pub few : losses_in portions ≤ r.losses
  pub why : HasEnded r.query r.refused left portions

-- The reader has come to the end: in every legal history in which the log stands, what was given is the whole of what the batches brought that were not lost.
pub record HasCome (calls : List Call) (r : Reader) : Type 0 where
  pub opened : OpenedBy calls r
  pub each : (history : List Step) → IsLegal history → Stands calls history → EndedIn history r opened.call
