-- A cursor that a query opened is a query's as long as it stands.
use Rattle.std.proofs.Common.{◌≡◌, ℕ, ℤ, List, ◌++◌, drop, length, take, Option, Some, subst}
use Rattle.mg_bson.specs.Tree.{Fields, Tree}
use Rattle.mg_server.specs.State.{Cursor, State, query, watching}
use Rattle.mg_server.specs.Commands.{asks_query, asks_watch}
use Rattle.mg_server.specs.Step.{moved}
use Rattle.mg_server.specs.History.{IsLegal, Step, state_of}
use Rattle.mg_server.proofs.Owners.{same_some}
use Rattle.mg_link.proofs.Places.{get_front}
use Rattle.mg_players.specs.Reading.{AsksQuery, IsQueried}
use Rattle.mg_players.proofs.OpenedCursors.{Brings, stays_such}

abbrev pub IsQuerying : Cursor → Type 0
IsQuerying (watching w place) = ⊥
IsQuerying (query space left) = Unit {0}

query_left : (s : State) (c d : Cursor) (given : List Fields) (token : Option Tree) → moved s given token (Some c) ≡ Some d → IsQuerying c → IsQuerying d
query_left s (watching w place) d given token is querying = absurd querying
query_left s (query space behind) d given token is querying = subst IsQuerying (same_some (query space (drop (length given) behind)) d is) tt

queries_bring : Brings AsksQuery IsQuerying
queries_bring = record { by_query = λ s q at given asks. tt; by_watch = λ s w start token asks. absurd (let bad : asks_watch w start ≡ asks_query asks.0 = asks.1 in cc); left = query_left }

-- wherever it stands, it is a query's
pub stays_query : (history : List Step) (p : ℕ) (x : ℤ) (c : Cursor) → IsLegal history → IsQueried history x → (state_of (take p history)).cursors x ≡ Some c → IsQuerying c
stays_query history p x c legal w h = stays_such AsksQuery IsQuerying queries_bring history p w.position w.step x c legal w.there w.asks w.opens h

-- it was so in a longer history
pub queried_later : (before tail : List Step) (x : ℤ) → IsQueried before x → IsQueried (before ++ tail) x
queried_later before tail x w = record { position = w.position; step = w.step; there = get_front before tail w.position w.step w.there; asks = w.asks; opens = w.opens }
