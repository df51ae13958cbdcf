-- A cursor as its client keeps it (find, getMore and killCursors specification).
use Rattle.std.specs.Prelude.{◌≡◌, ℕ, ℤ, pos, Bool, true, false, List, [], ◌∷◌, Option, Some, None, if◌then◌else◌}
use Rattle.std.specs.Ordering.{int_eq}
use Rattle.mg_bson.specs.Bytes.{bytes}
use Rattle.mg_bson.specs.Raw.{fields}
use Rattle.mg_bson.specs.Tree.{Tree, Fields}
use Rattle.mg_link.specs.Exec.{Sending, unsent, ticket_of, IsFirstTry}
use Rattle.mg_link.specs.Namespace.{Space, space}
use Rattle.mg_link.specs.Pinned.{invalidated}
use Rattle.mg_link.specs.Session.{Session}
use Rattle.mg_server.specs.Step.{ends_cursor}
use Rattle.mg_steps.specs.Cursors as steps
use Rattle.mg_link.specs.declared.error.Error.{Error}
use Rattle.mg_link.specs.declared.error.ErrorKind.{ErrorKind}
use Rattle.mg_link.specs.declared.error.ErrorKind.TheVariants as kind
use Rattle.mg_link.specs.declared.pinned.PinnedConnection.{PinnedConnection}
use Rattle.mg_link.specs.declared.pinned.PinnedConnection.TheVariants as connection
use Rattle.mg_ops.specs.Commands.{kill_command}
use Rattle.mg_ops.specs.Cursors.{Cursor, Manner, manner_of, next_command}
use Rattle.mg_ops.specs.Sessions.{in_session}
use Rattle.mg_ops.specs.declared.cursor_reply.CursorSpecification.{CursorSpecification}
use Rattle.mg_cursor.specs.Batches.{HasItems}

-- what is in hand or on its way
pub data Doing : Type 0 where
  rests : Doing
  -- a reply whose batch was not handed out
  holds : (reply : List ℕ) → Doing
  -- a getMore
  asks : (sending : Sending) → Doing

pub record ClientCursor : Type 0 where
  -- its id, 0 where the server holds it no longer, and the namespace that its commands name
  pub id : ℤ
  pub space : Space
  -- how its batches are asked for
  pub manner : Manner
  -- the connection that it is bound to
  pub pinned : PinnedConnection
  -- the token behind the newest batch
  pub token : Option Tree
  pub doing : Doing

-- ---- its commands

-- asks for its next batch (getMore command), in a session where there is one
abbrev pub get_more : ClientCursor → Option Session → Fields
get_more c session = in_session session (next_command c.id c.space c.manner)

-- ends it (killCursors command), without a session
abbrev pub kill : ClientCursor → Fields
kill c = kill_command c.space (c.id ∷ [])

-- a command of it may be sent
abbrev pub MayAsk : ClientCursor → Type 0
MayAsk c = steps.MayAsk c.id c.pinned

-- no command of it is sent any more
abbrev pub IsOver : ClientCursor → Type 0
IsOver c = steps.IsOver c.id c.pinned

-- ---- where it is behind what it heard

-- nothing is in hand, and nothing on its way
abbrev pub at_rest : ClientCursor → ClientCursor
at_rest c = record c { doing = rests }

-- a cursor that the server holds no longer is bound to no connection
abbrev pub pinned_behind : ℤ → PinnedConnection → PinnedConnection
pinned_behind id p = if int_eq id (pos 0) then connection.Unpinned else p

-- behind a reply to its getMore: id, namespace and token are those of the reply
abbrev pub behind_reply : Cursor → ClientCursor → ClientCursor
behind_reply said c = record { id = said.id; space = said.space; manner = c.manner; pinned = pinned_behind said.id c.pinned; token = said.token; doing = rests }

-- once the server refuses its getMore so that it holds it no longer (CursorNotFound, CursorKilled)
abbrev pub let_go : ClientCursor → ClientCursor
let_go c = record c { id = pos 0; pinned = connection.Unpinned }

abbrev pub unless_ended : Bool → ClientCursor → ClientCursor
unless_ended true c = let_go c
unless_ended false c = c

-- once its connection is lost (a pinned connection is not used after a network error)
abbrev pub cut_off : ClientCursor → ClientCursor
cut_off c = record c { pinned = invalidated c.pinned }

-- a refusal after which the server holds it no longer
abbrev pub is_ending : ErrorKind → Bool
is_ending (kind.Command refusal) = ends_cursor refusal.code
is_ending _ = false

abbrev pub behind_kind : ErrorKind → ClientCursor → ClientCursor
behind_kind kind.Io c = cut_off c
behind_kind (kind.Command refusal) c = unless_ended (ends_cursor refusal.code) c
behind_kind _ c = c

-- behind an error of its getMore
abbrev pub behind_failure : Error → ClientCursor → ClientCursor
behind_failure e c = at_rest (behind_kind e.kind c)

-- ---- what each cursor keeps

-- the ticket that is held
abbrev pub ticket_by : Doing → Option ℕ
ticket_by rests = None
ticket_by (holds reply) = None
ticket_by (asks sending) = ticket_of sending

abbrev pub client_ticket : ClientCursor → Option ℕ
client_ticket c = ticket_by c.doing

-- whose commands they are: those of a cursor without a session name none
abbrev pub PlainIf : Bool → Option Session → Type 0
PlainIf true session = session ≡ None
PlainIf false session = Unit {0}

-- a command that was not sent yet, and is sent once
pub record IsNew (command : Fields) (sending : Sending) : Type 0 where
  pub bytes_are : sending.command ≡ bytes command
  pub command_is : fields sending.command ≡ command
  pub single : sending.retries ≡ false
  pub new : sending.stage ≡ unsent

-- a command that is built, or waits for its reply, and is not sent again (retryable reads: a getMore and a killCursors are not retried)
pub record WaitsFor (command : Fields) (sending : Sending) : Type 0 where
  pub command_is : fields sending.command ≡ command
  pub single : sending.retries ≡ false
  pub first_try : IsFirstTry sending.stage

-- its getMore is on its way
pub record IsAsking (plain : Bool) (c : ClientCursor) (sending : Sending) : Type 0 where
  pub session : Option Session
  pub plainly : PlainIf plain session
  pub waits_on : WaitsFor (get_more c session) sending
  pub may : MayAsk c

abbrev pub SoundBy : Bool → ClientCursor → Doing → Type 0
SoundBy plain c rests = Unit {0}
SoundBy plain c (holds reply) = Unit {0}
SoundBy plain c (asks sending) = IsAsking plain c sending

-- what is on its way is the getMore of the cursor
abbrev pub IsSound : Bool → ClientCursor → Type 0
IsSound plain c = SoundBy plain c c.doing

-- with its getMore, which is built or on its way
abbrev pub asking_by : Sending → ClientCursor → ClientCursor
asking_by sending c = record c { doing = asks sending }

-- the reply in hand
abbrev pub reply_in : Doing → Option (List ℕ)
reply_in rests = None
reply_in (holds reply) = Some reply
reply_in (asks sending) = None

-- without it
abbrev pub without_reply : Doing → Doing
without_reply rests = rests
without_reply (holds reply) = rests
without_reply (asks sending) = asks sending

-- ---- new cursors

-- the cursor of an opening, whose first batch is in hand
abbrev pub new_client : CursorSpecification → ClientCursor
new_client s = record { id = s.info.id; space = space s.info.ns; manner = manner_of s.info; pinned = connection.Unpinned; token = s.post_batch_resume_token; doing = holds s.initial_reply }

-- bound to a connection
abbrev pub pinned_to : ℕ → ClientCursor → ClientCursor
pinned_to id c = record c { pinned = connection.Valid id }

-- ---- what may follow

abbrev pub HoldsItems : Doing → Type 0
HoldsItems rests = ⊥
HoldsItems (holds reply) = HasItems reply
HoldsItems (asks sending) = ⊥

-- the server may hold more of it, or documents are in hand
abbrev pub HasNext : ClientCursor → Type 0
HasNext c = steps.HasNext c.id (HoldsItems c.doing)
