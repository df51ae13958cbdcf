-- Replies that a call heard to the getMores of a cursor, one behind another, and which of their batches were empty.
use Rattle.std.specs.Prelude.{◌≡◌, ◌≢◌, ◌<◌, ◌≤◌, ℕ, suc, pos, List, [], ◌∷◌, length, Option, Some, None, Ok}
use Rattle.mg_bson.specs.Raw.{fields}
use Rattle.mg_server.specs.Calls.{HeardAt, IsOwn, Past}
use Rattle.mg_link.specs.Exec.{IsSuccess, Sending, ticket_of}
use Rattle.mg_link.specs.Link.{Awaited}
use Rattle.mg_link.specs.Log.{reply}
use Rattle.mg_link.specs.Session.{Session}
use Rattle.mg_ops.specs.Cursors.{Cursor, cursor_of}
use Rattle.mg_cursor.specs.Batches.{documents_of}
use Rattle.mg_cursor.specs.Client.{ClientCursor, Doing, asks, at_rest, behind_reply, get_more, holds, rests}

-- the call sent a command that stands at this place of the log
abbrev pub HasSentAt : Past → ℕ → Type 0
HasSentAt past place = IsOwn past place × (place < length past.calls)

-- behind this place it sent nothing
abbrev pub NoneBehind : Past → ℕ → Type 0
NoneBehind past last = (place : ℕ) → HasSentAt past place → place ≤ last

-- behind the first of these places it sent nothing before the second
abbrev pub IsNextSent : Past → ℕ → ℕ → Type 0
IsNextSent past last next = (last < next) × ((place : ℕ) → HasSentAt past place → last < place → next ≤ place)

-- The call heard these replies to the getMores of a cursor that the server held, which left it so: each at its place in the log, and between that of the one before
-- and its own the call sent nothing.
abbrev pub AreInTurn : Past → ClientCursor → ℕ → List (ℕ × List ℕ) → ClientCursor → Type 0
AreInTurn past c last [] c' = c' ≡ at_rest c
AreInTurn past c last (h ∷ more) c' = IsNextSent past last h.0 × (c.id ≢ pos 0) × (session : Option Session) × HeardAt past h.0 (get_more c session) (reply h.1) × IsSuccess h.1 × (said : Cursor) × (cursor_of (fields h.1) ≡ Ok said) × AreInTurn past (behind_reply said c) h.0 more c'

-- the place of the newest
abbrev pub newest : ℕ → List (ℕ × List ℕ) → ℕ
newest last [] = last
newest last (h ∷ more) = newest h.0 more

-- how many batches in a row are empty, by how many are before the last one and by the documents of that
abbrev pub empty_with : ℕ → Option (List (List ℕ)) → ℕ
empty_with n (Some []) = suc n
empty_with n (Some (x ∷ xs)) = 0
empty_with n None = 0

-- and so many replies on
abbrev pub empty_by : ℕ → List (ℕ × List ℕ) → ℕ
empty_by n [] = n
empty_by n (h ∷ more) = empty_by (empty_with n (documents_of h.1)) more

-- the reply in hand, if it is empty
abbrev pub empty_held : Doing → ℕ
empty_held rests = 0
empty_held (holds bytes) = empty_with 0 (documents_of bytes)
empty_held (asks sending) = 0

-- How many of so many a call took, where the first of them may be in hand: none, while it is.
abbrev pub empty_taken : Doing → ℕ → ℕ
empty_taken rests n = n
empty_taken (holds bytes) n = 0
empty_taken (asks sending) n = n

-- the getMore of a cursor is on its way, and stands at this place
pub record IsAwaitedAt (awaited : Awaited) (c : ClientCursor) (place : ℕ) : Type 0 where
  pub sending : Sending
  pub ticket : ℕ
  pub asked : c.doing ≡ asks sending
  pub held : ticket_of sending ≡ Some ticket
  pub at : awaited ticket ≡ Some place

-- behind this place the call sent nothing but the getMore on its way
abbrev pub AloneBehind : Awaited → Past → ClientCursor → ℕ → Type 0
AloneBehind awaited past c last = (place : ℕ) → HasSentAt past place → last < place → IsAwaitedAt awaited c place
