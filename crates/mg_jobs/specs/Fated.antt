-- A store that nobody but one link uses.
use Rattle.std.specs.Prelude.{◌≡◌, ◌<◌, ℕ, List, Some, length, slice_get}
use Rattle.mg_server.specs.Kept.{Kept}
use Rattle.mg_link.specs.Log.{Call}

-- each step of the history is that of one of the calls
abbrev pub AreItsSteps : List Kept → List Call → Type 0
AreItsSteps history calls = (p : ℕ) → p < length history → (k : ℕ) × (call : Call) × (slice_get calls k ≡ Some call) × (call.position ≡ Some p)
