-- What an insert appended to its collection, and by which commands.
use Rattle.std.specs.Prelude.{◌≡◌, ◌<◌, ◌++◌, ℕ, ℤ, true, List, [], ◌∷◌, length, Some, slice_get}
use Rattle.mg_bson.specs.Tree.{Fields}
use Rattle.mg_server.specs.Calls.{IsOwn, Past}
use Rattle.mg_server.specs.Commands.{asked, asks_insert, inserted, told}
use Rattle.mg_link.specs.Log.{reply, Call}
use Rattle.mg_link.specs.Namespace.{Space}

-- the call at this place asks for these documents to be inserted in order, and saw a reply that tells of no failure
pub record InsertsAt (calls : List Call) (k : ℕ) (space : Space) (documents : List Fields) : Type 0 where
  pub call : Call
  pub bytes : List ℕ
  pub count : ℤ
  pub found : slice_get calls k ≡ Some call
  pub asks : asked call.command ≡ asks_insert space documents true
  pub saw : call.seen ≡ reply bytes
  pub tells : told (asks_insert space documents true) bytes ≡ inserted count []

-- some of the documents that were sent, with the place of the call that sent them
pub record Piece : Type 0 where
  pub at : ℕ
  pub documents : List Fields

-- what was sent is these pieces one behind the other, the last named first, each inserted by a command of its own, and the places rise and are below this one
abbrev pub ArePieces : Past → ℕ → Space → List Fields → List Piece → Type 0
ArePieces past k space sent [] = sent ≡ []
ArePieces past k space sent (p ∷ ps) = (p.at < k) × IsOwn past p.at × InsertsAt past.calls p.at space p.documents × ((before : List Fields) × (sent ≡ before ++ p.documents) × ArePieces past p.at space before ps)

-- own commands at rising places below this one inserted what was sent, one piece behind the other
pub record InsertedBelow (past : Past) (k : ℕ) (space : Space) (sent : List Fields) : Type 0 where
  pub pieces : List Piece
  pub are : ArePieces past k space sent pieces

-- so many documents, with their ids, were appended in their order by own commands
pub record Appended (past : Past) (space : Space) (sent : List Fields) (n : ℕ) : Type 0 where
  pub count : n ≡ length sent
  pub stands : InsertedBelow past (length past.calls) space sent
