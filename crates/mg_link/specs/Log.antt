-- The log of a link: each call in the order of its start.
use Rattle.std.specs.Prelude.{ℕ, zero, suc, List, [], ◌∷◌, Option}

-- what a caller has seen of a call so far
pub data Sight : Type 0 where
  waiting : Sight
  reply : (bytes : List ℕ) → Sight
  fault : Sight
  memory : Sight

-- a command that was started, the position of its step in the server's history, and what was seen
pub record Call : Type 0 where
  pub command : List ℕ
  pub position : Option ℕ
  pub seen : Sight

-- the calls, where the one at this place has seen this
abbrev pub see : ℕ → Sight → List Call → List Call
see place seen [] = []
see zero seen (call ∷ calls) = record call { seen = seen } ∷ calls
see (suc place) seen (call ∷ calls) = call ∷ see place seen calls
