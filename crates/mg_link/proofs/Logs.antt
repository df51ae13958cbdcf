-- What a logged call has seen is written down.
use Rattle.std.proofs.Common.{◌≡◌, ℕ, zero, suc, ◌<◌, List, [], ◌∷◌, length, map, get_or, set, ap, arith}
use Rattle.mg_link.specs.Log.{see}
use Rattle.mg_link.specs.LogView.{call, sight}
use Rattle.mg_link.specs.declared.log.Seen.{Seen}
use Rattle.mg_link.specs.declared.log.LoggedCall.{LoggedCall}

-- the call with something else seen
abbrev pub seeing : LoggedCall → Seen → LoggedCall
seeing c s = record { command = c.command; position = c.position; seen = s }

pub map-see : (calls : List LoggedCall) (k : ℕ) (c : LoggedCall) (s : Seen) → k < length calls → c ≡ get_or calls k c → map call (set calls k (seeing c s)) ≡ see k (sight s) (map call calls)
map-see [] k c s h e = absurd (omega arith)
map-see (x ∷ xs) zero c s h e = ap (λ (y : LoggedCall). call (seeing y s) ∷ map call xs) e
map-see (x ∷ xs) (suc k) c s h e = ap (λ calls. call x ∷ calls) (map-see xs k c s (omega arith) e)
