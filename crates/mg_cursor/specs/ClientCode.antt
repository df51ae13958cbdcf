-- A code of cursors, by which a proof tells two of them apart.
use Rattle.std.specs.Prelude.{◌≡◌, refl, ℕ, zero, suc, ℤ, List, [], Bool, false, Option}
use Rattle.std.specs.Coded.{Coded, code_by, coded×, coded_ℕ, coded_ℤ, coded_bool, coded_list, coded_option}
use Rattle.mg_bson.specs.Coded.{coded_tree}
use Rattle.mg_bson.specs.Tree.{Tree}
use Rattle.mg_link.specs.Exec.{Sending, Stage, unsent, first, second}
use Rattle.mg_link.specs.Namespace.{Space}
use Rattle.mg_link.specs.declared.pinned.PinnedConnection.{PinnedConnection}
use Rattle.mg_link.specs.declared.pinned.PinnedConnection.TheVariants as connection
use Rattle.mg_ops.specs.Cursors.{Manner}
use Rattle.mg_cursor.specs.Client.{ClientCursor, Doing, rests, holds, asks}

abbrev coded_bytes : Coded (List ℕ)
coded_bytes = coded_list coded_ℕ

-- ---- connections: a number for the case, and the id

abbrev to_number : PinnedConnection → ℕ × ℕ
to_number (connection.Valid id) = (0, id)
to_number (connection.Invalid id) = (1, id)
to_number connection.Unpinned = (2, 0)

abbrev from_number : ℕ → ℕ → PinnedConnection
from_number zero id = connection.Valid id
from_number (suc zero) id = connection.Invalid id
from_number (suc (suc n)) id = connection.Unpinned

pub number_back : (p : PinnedConnection) → from_number (to_number p).0 (to_number p).1 ≡ p
number_back (connection.Valid id) = refl
number_back (connection.Invalid id) = refl
number_back connection.Unpinned = refl

abbrev pub coded_pinned : Coded PinnedConnection
coded_pinned = code_by (ℕ × ℕ) (coded× coded_ℕ coded_ℕ) to_number (λ n. from_number n.0 n.1) number_back

-- ---- how far a command has come

abbrev stage_number : Stage → ℕ × ℕ
stage_number unsent = (0, 0)
stage_number (first ticket) = (1, ticket)
stage_number (second ticket) = (2, ticket)

abbrev numbered_stage : ℕ → ℕ → Stage
numbered_stage zero ticket = unsent
numbered_stage (suc zero) ticket = first ticket
numbered_stage (suc (suc n)) ticket = second ticket

pub stage_back : (s : Stage) → numbered_stage (stage_number s).0 (stage_number s).1 ≡ s
stage_back unsent = refl
stage_back (first ticket) = refl
stage_back (second ticket) = refl

abbrev coded_stage : Coded Stage
coded_stage = code_by (ℕ × ℕ) (coded× coded_ℕ coded_ℕ) stage_number (λ n. numbered_stage n.0 n.1) stage_back

abbrev pub coded_sending : Coded Sending
coded_sending = code_by (List ℕ × (Bool × Stage)) (coded× coded_bytes (coded× coded_bool coded_stage)) (λ s. (s.command, (s.retries, s.stage)))
    (λ p. record { command = p.0; retries = p.1.0; stage = p.1.1 }) (λ s. refl)

-- ---- what is in hand or on its way: a number for the case, the reply, and the command

abbrev no_sending : Sending
no_sending = record { command = []; retries = false; stage = unsent }

abbrev to_parts : Doing → ℕ × (List ℕ × Sending)
to_parts rests = (0, ([], no_sending))
to_parts (holds reply) = (1, (reply, no_sending))
to_parts (asks sending) = (2, ([], sending))

abbrev from_parts : ℕ → List ℕ → Sending → Doing
from_parts zero reply sending = rests
from_parts (suc zero) reply sending = holds reply
from_parts (suc (suc n)) reply sending = asks sending

pub parts_back : (d : Doing) → from_parts (to_parts d).0 (to_parts d).1.0 (to_parts d).1.1 ≡ d
parts_back rests = refl
parts_back (holds reply) = refl
parts_back (asks sending) = refl

abbrev coded_doing : Coded Doing
coded_doing = code_by (ℕ × (List ℕ × Sending)) (coded× coded_ℕ (coded× coded_bytes coded_sending)) to_parts (λ p. from_parts p.0 p.1.0 p.1.1) parts_back

-- ---- cursors

abbrev coded_space : Coded Space
coded_space = code_by (List ℕ × List ℕ) (coded× coded_bytes coded_bytes) (λ s. (s.db, s.coll)) (λ p. record { db = p.0; coll = p.1 }) (λ s. refl)

abbrev coded_manner : Coded Manner
coded_manner = code_by (Option ℕ × (Option ℕ × Option Tree)) (coded× (coded_option coded_ℕ) (coded× (coded_option coded_ℕ) (coded_option coded_tree)))
    (λ m. (m.size, (m.wait, m.comment))) (λ p. record { size = p.0; wait = p.1.0; comment = p.1.1 }) (λ m. refl)

abbrev pub coded_client : Coded ClientCursor
coded_client = code_by ((ℤ × Space) × ((Manner × PinnedConnection) × (Option Tree × Doing)))
    (coded× (coded× coded_ℤ coded_space) (coded× (coded× coded_manner coded_pinned) (coded× (coded_option coded_tree) coded_doing)))
    (λ c. ((c.id, c.space), ((c.manner, c.pinned), (c.token, c.doing))))
    (λ p. record { id = p.0.0; space = p.0.1; manner = p.1.0.0; pinned = p.1.0.1; token = p.1.1.0; doing = p.1.1.1 }) (λ c. refl)
