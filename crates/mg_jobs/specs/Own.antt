-- The commands that a follow must send, by the replies that it heard.
use Rattle.std.specs.Prelude.{◌≡◌, ◌<◌, ℕ, ℤ, List, [], ◌∷◌, Some, None, Ok, slice_get}
use Rattle.mg_bson.specs.Tree.{Tree, Fields}
use Rattle.mg_bson.specs.Raw.{fields}
use Rattle.mg_link.specs.Log.{Call, reply}
use Rattle.mg_link.specs.Namespace.{Space}
use Rattle.mg_options.specs.declared.change_stream.ChangeStreamOptions.{ChangeStreamOptions}
use Rattle.mg_ops.specs.Commands.{kill_command}
use Rattle.mg_ops.specs.Cursors.{Cursor, cursor_of, next_command, watch_manner}
use Rattle.mg_ops.specs.declared.aggregate.ChangeStreamAggregate.{ChangeStreamAggregate}
use Rattle.mg_ops.specs.declared.change_stream.ChangeStreamData.{ChangeStreamData}
use Rattle.mg_ops.specs.declared.change_stream.WatchArgs.{WatchArgs}
use Rattle.mg_cursor.specs.Batches.{documents_of}
use Rattle.mg_change.specs.ClientOpenings.{first_aggregate}
use Rattle.mg_change.specs.ClientStreams.{id_in, resuming_in}
use Rattle.mg_players.specs.Causes.{Course, SentIn}

-- ---- what it heard

-- job i heard this reply to a command that it sent in one of its turns
pub record IsHeard (c : Course) (i : ℕ) (calls : List Call) (bytes : List ℕ) : Type 0 where
  pub done : ℕ
  pub place : ℕ
  pub sent : SentIn c i done place
  pub call : Call
  pub there : slice_get calls place ≡ Some call
  pub has_seen : call.seen ≡ reply bytes

-- it heard this reply in its opening, number 0, or in one of its calls before that of this number
abbrev pub IsHeardBefore : Course → ℕ → List Call → ℕ → List ℕ → Type 0
IsHeardBefore c i calls k bytes = (heard : IsHeard c i calls bytes) × (heard.done < k)

-- a reply told this cursor
pub record IsOwnCursor (heard : List ℕ → Type 0) (id : ℤ) (at : Space) : Type 0 where
  pub bytes : List ℕ
  pub in_reply : heard bytes
  pub cursor : Cursor
  pub says : cursor_of (fields bytes) ≡ Ok cursor
  pub id_is : cursor.id ≡ id
  pub space_is : cursor.space ≡ at

-- a reply told this token behind its batch
pub record IsBehind (heard : List ℕ → Type 0) (token : Tree) : Type 0 where
  pub bytes : List ℕ
  pub in_reply : heard bytes
  pub cursor : Cursor
  pub says : cursor_of (fields bytes) ≡ Ok cursor
  pub token_is : cursor.token ≡ Some token

-- a reply brought this event
pub record IsBrought (heard : List ℕ → Type 0) (event : List ℕ) : Type 0 where
  pub bytes : List ℕ
  pub in_reply : heard bytes
  pub events : List (List ℕ)
  pub holds : documents_of bytes ≡ Some events
  pub place : ℕ
  pub there : slice_get events place ≡ Some event

-- ---- what it sends

-- what a stream with these options may resume behind: what it was to start behind, the token behind a batch, or an event
pub data IsOwnToken (heard : List ℕ → Type 0) (o : ChangeStreamOptions) (token : Tree) : Type 0 where
  to_start : o.start_after ≡ Some token → IsOwnToken heard o token
  to_resume : o.resume_after ≡ Some token → IsOwnToken heard o token
  of_batch : IsBehind heard token → IsOwnToken heard o token
  of_event : (event : List ℕ) → IsBrought heard event → id_in event ≡ Some token → IsOwnToken heard o token

-- the token that it remembers, if any, is such a one
abbrev pub KnowsOwn : (List ℕ → Type 0) → ChangeStreamAggregate → Type 0
KnowsOwn heard a = (known : ChangeStreamData) (token : Tree) → a.resume ≡ Some known → known.resume_token ≡ Some token → IsOwnToken heard a.args.options token

-- A command that a follow with such arguments, which heard these replies, must send: the aggregate that opens its watch; a getMore of a cursor that a reply
-- told, or the killing of just that one; and, where it is short, the aggregate that resumes behind a token of its own.
pub data IsOwnCommand (are_its : WatchArgs → Type 0) (heard : List ℕ → Type 0) (short : Type 0) (command : Fields) : Type 0 where
  opens : (args : WatchArgs) (wire : ℤ) → are_its args → command ≡ resuming_in (first_aggregate args) wire None → IsOwnCommand are_its heard short command
  resumes : short → (a : ChangeStreamAggregate) (wire : ℤ) → are_its a.args → KnowsOwn heard a → command ≡ resuming_in a wire None → IsOwnCommand are_its heard short command
  asks : (args : WatchArgs) → are_its args → (id : ℤ) (at : Space) → IsOwnCursor heard id at → command ≡ next_command id at (watch_manner args.options) → IsOwnCommand are_its heard short command
  kills : (id : ℤ) (at : Space) → IsOwnCursor heard id at → command ≡ kill_command at (id ∷ []) → IsOwnCommand are_its heard short command
