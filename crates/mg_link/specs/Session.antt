-- Sessions and their transactions (drivers' specifications of sessions and of transactions).
use Rattle.std.specs.Prelude.{◌≡◌, refl, ℕ, zero, suc, ℤ, pos, ◌+ℤ◌, ◌-◌, ◌^◌, int_lt, Bool, true, false, if◌then◌else◌}
use Rattle.std.specs.Coded.{Coded, code_by, coded×, coded_ℕ, coded_ℤ}
use Rattle.std.proofs.Common.{ap}
use Rattle.mg_bson.specs.Tree.{Fields}
use Rattle.mg_bson.specs.Coded.{coded_fields}
use Rattle.mg_link.specs.declared.session.TransactionState.{TransactionState}
use Rattle.mg_link.specs.declared.session.TransactionState.TheVariants as states

-- a session: its id, how far its transaction has come, and the number of the newest one, 0 where none was begun
pub record Session : Type 0 where
  pub id : Fields
  pub state : TransactionState
  pub number : ℤ

-- a transaction goes on
abbrev pub is_open : TransactionState → Bool
is_open states.None = false
is_open states.Starting = true
is_open states.InProgress = true
is_open states.Committed = false
is_open states.Aborted = false

abbrev pub in_transaction : Session → Bool
in_transaction s = is_open s.state

-- no command of it was started yet
abbrev pub is_starting : TransactionState → Bool
is_starting states.None = false
is_starting states.Starting = true
is_starting states.InProgress = false
is_starting states.Committed = false
is_starting states.Aborted = false

abbrev pub starts_transaction : Session → Bool
starts_transaction s = is_starting s.state

-- transactions are numbered from 1 on, and behind the greatest number from 1 on again
abbrev pub next_number : ℤ → ℤ
next_number n = if int_lt n (pos (2 ^ 63 - 1)) then (n +ℤ pos 1) else pos 1

-- the session once its next transaction was begun
abbrev pub begun : Session → Session
begun s = record s { state = states.Starting; number = next_number s.number }

-- what becomes of a transaction that ends
abbrev pub state_at_end : Bool → TransactionState
state_at_end true = states.Committed
state_at_end false = states.Aborted

-- the session once its transaction has ended
abbrev pub ended : Bool → Session → Session
ended committed s = record s { state = state_at_end committed }

-- the state once a command was started: the first one of a transaction moves it on
abbrev pub moved_on : TransactionState → TransactionState
moved_on states.None = states.None
moved_on states.Starting = states.InProgress
moved_on states.InProgress = states.InProgress
moved_on states.Committed = states.Committed
moved_on states.Aborted = states.Aborted

-- the session once a command of it was started
abbrev pub after_command : Session → Session
after_command s = record s { state = moved_on s.state }

-- ---- a code of sessions, by which a proof tells two of them apart

abbrev rank : TransactionState → ℕ
rank states.None = 0
rank states.Starting = 1
rank states.InProgress = 2
rank states.Committed = 3
rank states.Aborted = 4

abbrev ranked : ℕ → TransactionState
ranked zero = states.None
ranked (suc zero) = states.Starting
ranked (suc (suc zero)) = states.InProgress
ranked (suc (suc (suc zero))) = states.Committed
ranked (suc (suc (suc (suc n)))) = states.Aborted

pub ranked_back : (t : TransactionState) → ranked (rank t) ≡ t
ranked_back states.None = refl
ranked_back states.Starting = refl
ranked_back states.InProgress = refl
ranked_back states.Committed = refl
ranked_back states.Aborted = refl

-- a session is stored as its id, and the rank of its state with its number
abbrev to_parts : Session → Fields × (ℕ × ℤ)
to_parts s = (s.id, (rank s.state, s.number))

abbrev from_parts : Fields × (ℕ × ℤ) → Session
from_parts p = record { id = p.0; state = ranked p.1.0; number = p.1.1 }

pub from_parts-to_parts : (s : Session) → from_parts (to_parts s) ≡ s
from_parts-to_parts s = ap (λ (t : TransactionState). record { id = s.id; state = t; number = s.number }) (ranked_back s.state)

abbrev pub coded_session : Coded Session
coded_session = code_by (Fields × (ℕ × ℤ)) (coded× coded_fields (coded× coded_ℕ coded_ℤ)) to_parts from_parts from_parts-to_parts
