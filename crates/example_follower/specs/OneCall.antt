-- The tickets of a link with one call at a time.
use Rattle.std.specs.Prelude.{ℕ, zero, suc, Option, Some, None}

-- where a reply waits ticket 0 is out, and else none
abbrev pub waits : {A : Type 0} → Option A → ℕ → Option ℕ
waits None n = None
waits (Some reply) zero = Some 0
waits (Some reply) (suc n) = None
