-- Tickets whose numbers are the places of their calls in a log.
use Rattle.std.specs.Prelude.{ℕ, Option, Some, None, List, slice_get, unwrap_or}
use Rattle.mg_link.specs.Log.{Sight, waiting, reply, fault, memory, Call}

abbrev pub if_waiting : Sight → ℕ → Option ℕ
if_waiting waiting n = Some n
if_waiting (reply bytes) n = None
if_waiting fault n = None
if_waiting memory n = None

abbrev pub waiting_at : Option Call → ℕ → Option ℕ
waiting_at None n = None
waiting_at (Some call) n = if_waiting call.seen n

-- the tickets of the calls that wait
abbrev pub out_at : List Call → ℕ → Option ℕ
out_at calls n = waiting_at (slice_get calls n) n

-- it is an answer
abbrev pub IsAnswer : Sight → Type 0
IsAnswer waiting = ⊥
IsAnswer (reply bytes) = Unit {0}
IsAnswer fault = Unit {0}
IsAnswer memory = Unit {0}

-- how many polls pended of the call at each place, where these are the counts of the calls in their order
abbrev pub polls_in : List ℕ → ℕ → ℕ
polls_in pended place = unwrap_or (slice_get pended place) 0
