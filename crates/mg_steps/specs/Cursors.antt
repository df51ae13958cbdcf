-- Whether a cursor is asked, is killed, or has more to give (find, getMore and killCursors specification: "getMore", "killCursors").
use Rattle.std.specs.Prelude.{◌≡◌, ◌≢◌, ◌⊎◌, ℤ, pos, Bool, false, true}
use Rattle.mg_link.specs.Pinned.{is_invalid}
use Rattle.mg_link.specs.declared.pinned.PinnedConnection.{PinnedConnection}

-- A command of a cursor may be sent: the server holds it, and the connection that it is bound to was not lost.
pub record MayAsk (id : ℤ) (connection : PinnedConnection) : Type 0 where
  pub held : id ≢ pos 0
  pub reached : is_invalid connection ≡ false

-- no command of it is sent any more
abbrev pub IsOver : ℤ → PinnedConnection → Type 0
IsOver id connection = (id ≡ pos 0) ⊎ (is_invalid connection ≡ true)

-- as it is closed it is killed where a command of it may be sent, and is let go where none is
abbrev pub KillsIf : Bool → ℤ → PinnedConnection → Type 0
KillsIf true id connection = MayAsk id connection
KillsIf false id connection = IsOver id connection

-- the server may hold more of a cursor with this id, or documents of it are in hand; the type says that some are
abbrev pub HasNext : ℤ → Type 0 → Type 0
HasNext id HoldsDocuments = (id ≢ pos 0) ⊎ HoldsDocuments
