-- The codes of refusals (the server's list of error codes).
use Rattle.std.specs.Prelude.{ℤ, pos, List, Bool}
use Rattle.std.specs.List.{list_any}
use Rattle.std.specs.Ordering.{int_eq}

-- the code is one of these
unfoldable pub is_among : ℤ → List ℤ → Bool
is_among code codes = list_any (λ c. int_eq c code) codes

-- the server has no such cursor
abbrev pub cursor_not_found : ℤ
cursor_not_found = pos 43
