-- Bytes that were taken: full chunks, and less than one behind them.
use Rattle.std.specs.Prelude.{◌≡◌, ◌<◌, ◌≤◌, ◌+◌, ◌++◌, ℕ, List, length, map, Vec}
use Rattle.std.specs.List.{AllByRecursion, concat}
use Rattle.std.specs.VecDeque.{deque_capacity, deque_len}
use Rattle.std.specs.declared.alloc.Global.{Global}
use Rattle.mg_chunks.specs.declared.buffer.Buffer.{Buffer}
use Rattle.mg_chunks.specs.declared.buffer.Cut.{Cut}

-- the bytes of each chunk
abbrev pub items_of : List (Vec ℕ Global) → List (List ℕ)
items_of chunks = map (λ (chunk : Vec ℕ Global). chunk.items) chunks

-- how many bytes a full chunk has
abbrev pub size_of : Buffer → ℕ
size_of b = b.size

-- the full chunks
abbrev pub full_of : Buffer → List (Vec ℕ Global)
full_of b = b.full.items

-- what is left behind them
abbrev pub rest_of : Buffer → List ℕ
rest_of b = b.rest.items

-- all that is held, in order
abbrev pub held_of : Buffer → List ℕ
held_of b = concat (items_of b.full.items) ++ b.rest.items

-- each chunk has this size
abbrev pub AreFull : ℕ → List (Vec ℕ Global) → Type 0
AreFull size chunks = AllByRecursion (λ (chunk : Vec ℕ Global). length chunk.items ≡ size) chunks

-- full chunks, and less than one behind them: so what is held is cut into these
pub record HoldsCut (b : Buffer) : Type 0 where
  pub sized : 0 < b.size
  pub full : AreFull b.size b.full.items
  pub short : length b.rest.items < b.size

-- the bytes, in full chunks and a rest
pub record IsCutOf (size : ℕ) (bytes : List ℕ) (c : Cut) : Type 0 where
  pub these : bytes ≡ concat (items_of c.full.items) ++ c.rest.items
  pub full : AreFull size c.full.items
  pub short : length c.rest.items < size

-- there is a place for each of the chunks
abbrev pub HasRoomForCut : Buffer → Cut → Type 0
HasRoomForCut b c = deque_len b.full + (deque_len c.full + 1) ≤ deque_capacity b.full
